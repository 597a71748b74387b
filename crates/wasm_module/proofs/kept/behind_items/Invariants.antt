use Rattle.std.proofs.Common.{◌≡◌, ◌≤◌, ◌-◌, ◌*◌, length}
use Rattle.std.specs.List.{sum_by}
use Rattle.wasm_syntax.specs.declared.segments.ElemDecl.{ElemDecl}
use Rattle.wasm_module.specs.Kept.{items_held}
use Rattle.wasm_module.proofs.kept.behind_items.Given as goal

abbrev pub invariant-segments : goal.invariant-segments
invariant-segments l = record {
  left : l.left - 8 * sum_by (λ (e : ElemDecl). length e.items) l.rest ≡ l.number - 8 * items_held l.decl;
  less : l.left ≤ l.number;
}

abbrev pub decreases-segments : goal.decreases-segments
decreases-segments l = length l.rest
