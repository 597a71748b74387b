use Rattle.std.proofs.Common.{◌∙◌, List, ℕ, ap, drop, flat_map, nat_eq}
use Rattle.std.specs.List.{list_all}
use Rattle.wasm_syntax.specs.Shapes.{names}
use Rattle.module_shapes.proofs.CountLemmas.{named_once}
use Rattle.module_shapes.proofs.counts.are_named_once.Goals as goal

pub returns : goal.returns
returns c =
    c.others_are_one.ensures
    ∙ ap (λ (counts : List ℕ). list_all (λ count. nat_eq count 1) (drop 1 counts)) (c.deref.ensures.value ∙ c.in_ok-counts.ensures)
    ∙ named_once (flat_map names c.args.blocks.now) c.args.blocks.now
