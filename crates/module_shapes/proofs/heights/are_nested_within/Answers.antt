use Rattle.std.proofs.Common.{◌∙◌, ◌+◌, ◌∷◌, ap, sym, subst, List, ℕ, flat_map, length}
use Rattle.wasm_syntax.specs.Instructions.{blocks_named}
use Rattle.wasm_syntax.specs.declared.instr.Instr.{Instr}
use Rattle.module_shapes.specs.Heights.{over_all}
use Rattle.module_shapes.proofs.HeightLemmas.{AreHeights, one_more, not_later, at_first}
use Rattle.module_shapes.proofs.heights.are_nested_within.Goals as goal

pub returns-in_default-over_code : goal.returns-in_default-over_code
returns-in_default-over_code c =
    let same = ap (λ (code : List Instr). over_all (length c.in-Some.front.now) c.loop-block.heights 0 (flat_map blocks_named code)) c.as_slice.ensures in
    not_later c.args.most c.args.blocks.now c.loop-block.rest.now c.in-Some.front.now c.in-Some.block.now
    c.loop-block.heights c.loop-block.invariant c.in-Some.ensures.cases.0
    (sym same ∙ sym c.over_code.ensures ∙ c.in_default-over_code.is)

pub loop-block-preserved : goal.loop-block-preserved
loop-block-preserved c =
    let same = ap (λ (code : List Instr). over_all (length c.in-Some.front.now) c.loop-block.heights 0 (flat_map blocks_named code)) c.as_slice.ensures in
    let e =
    one_more c.args.most c.args.blocks.now c.loop-block.rest.now c.in-Some.front.now c.in-Some.block.now
    c.loop-block.heights c.loop-block.invariant c.in-Some.ensures.cases.0 c.in-Some-over_code.tallest
    (sym same ∙ sym c.over_code.ensures ∙ c.in-Some-over_code.is)
    in
    let held = ap (λ (height : ℕ). (height + 1) ∷ c.loop-block.heights) c.min.ensures in
    subst (λ (hs : List ℕ). AreHeights c.args.most c.args.blocks.now c.in-Some.front.now hs) (sym (c.in_ok-push.ensures ∙ held)) e

pub returns : goal.returns
returns c =
    let e =
    at_first c.args.most c.args.blocks.now c.loop-block.rest.now c.loop-block.heights c.loop-block.invariant
    c.in_default.ensures.cases
    in
    c.is_first_within.ensures ∙ e
