use Rattle.std.proofs.Common.{◌≡◌, ◌∙◌, sym, ap, true, false, not, option_map, arith, length, ◌+◌, [], ◌∷◌, length-append}
use Rattle.std.specs.Prelude.{is_some}
use Rattle.wasm_syntax.proofs.FirstBrokenLemmas.{broken_body}
use Rattle.wasm_syntax.specs.FirstBroken.{place}
use Rattle.wasm_syntax.specs.Rules.{body}
use Rattle.wasm_syntax.specs.Typing.{is_typed}
use Rattle.wasm_syntax.specs.declared.module_fault.Part.TheVariants as part
use Rattle.module_rules.proofs.FirstItemLemmas.{only_one, first_from-passed, went_on, none_left}
use Rattle.module_rules.proofs.bodies.body.Goals as goal

pub returns-in_default-2-clause-place : goal.returns-in_default-2-clause-place
returns-in_default-2-clause-place c =
    let d = c.args.spaces.now.decl.now in
    let at = c.loop-function in
    let bad : not (is_typed d c.in-Some.function.now) ≡ true = ap not (sym c.in_ok-height.ensures ∙ ap is_some c.in_default-2.is) in
    let found = first_from-passed (body d).functions at.number _ _ at.rest.now c.in-Some.ensures.cases.0 bad in
    broken_body d ∙ only_one _ ∙ ap (option_map (place part.Functions)) (at.invariant.rest ∙ found)

pub returns-clause-typed : goal.returns-clause-typed
returns-clause-typed c =
    let d = c.args.spaces.now.decl.now in
    let at = c.loop-function in
    let none = none_left (body d).functions at.number at.rest.now c.in_default.ensures.cases in
    broken_body d ∙ only_one _ ∙ ap (option_map (place part.Functions)) (at.invariant.rest ∙ none)

pub loop-function-preserved : goal.loop-function-preserved
loop-function-preserved c =
    let d = c.args.spaces.now.decl.now in
    let at = c.loop-function in
    let good : not (is_typed d c.in-Some.function.now) ≡ false = ap not (sym c.in_ok-height.ensures ∙ ap is_some c.in-Some-2.is) in
    let next = went_on (body d).functions at.number _ _ at.rest.now c.in-Some.ensures.cases.0 good in
    let pushed = length-append at.heights.items (c.in-Some-2.height ∷ []) in
    record {
      rest = at.invariant.rest ∙ next;
      number = omega (arith, at.invariant.number, ap length c.in-Some.ensures.cases.0);
      heights = ap length c.in_ok-push.ensures.items ∙ pushed ∙ ap (λ n. n + 1) at.invariant.heights;
      few = at.invariant.few;
    }
