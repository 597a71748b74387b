use Rattle.std.proofs.Common.{◌≡◌, ◌∙◌, sym, ap, true, not, option_map}
use Rattle.wasm_syntax.proofs.FirstBrokenLemmas.{broken_shape}
use Rattle.wasm_syntax.specs.FirstBroken.{place}
use Rattle.wasm_syntax.specs.Rules.{shape}
use Rattle.wasm_syntax.specs.Shapes.{has_shape}
use Rattle.wasm_syntax.specs.declared.module_fault.Part.TheVariants as part
use Rattle.module_rules.proofs.FirstItemLemmas.{only_one, first_from-passed, none_left}
use Rattle.module_rules.proofs.shapes.shape.Goals as goal

pub returns-then-not-branch : goal.returns-then-not-branch
returns-then-not-branch c =
    let d = c.args.decl.now in
    let at = c.loop-function in
    let unshaped : not (has_shape c.in-Some.function.now) ≡ true = ap not (sym c.in_ok-has_shape.ensures ∙ c.if-not-branch.true) in
    let found = first_from-passed (shape d).functions at.number _ _ at.rest.now c.in-Some.ensures.cases.0 unshaped in
    sym (broken_shape d ∙ only_one _ ∙ ap (option_map (place part.Functions)) (at.invariant.rest ∙ found))

pub returns : goal.returns
returns c =
    let d = c.args.decl.now in
    let at = c.loop-function in
    let none = none_left (shape d).functions at.number at.rest.now c.in_default.ensures.cases in
    sym (broken_shape d ∙ only_one _ ∙ ap (option_map (place part.Functions)) (at.invariant.rest ∙ none))
