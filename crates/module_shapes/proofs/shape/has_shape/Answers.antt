use Rattle.std.proofs.Common.{refl, sym, ◌∙◌}
use Rattle.module_shapes.proofs.Parts.{has_shape-parts}
use Rattle.module_shapes.proofs.shape.has_shape.Goals as goal

pub returns : goal.returns
returns c =
    has_shape-parts c.are_nested_within.result c.args.function.now 256 c.as_slice-blocks.result.now c.as_slice-targets.result.now
    refl c.as_slice-blocks.ensures c.as_slice-targets.ensures c.if-not-begins_with_type.ensures
    c.if-not-are_few_instructions.ensures c.if-not-have_default.ensures c.if-not-are_few_labels.ensures
    (sym c.if-not-branch.false ∙ c.in_ok-are_named_once.ensures) c.are_nested_within.ensures
