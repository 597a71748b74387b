use Rattle.std.proofs.Common.{◌≡◌, ◌-◌, ◌≤◌, [], map, replicate}
use Rattle.std.specs.Prelude.{vec_items, vec_len, vec_capacity}
use Rattle.wasm_module.proofs.fronts.Fronts.new.Given as goal

abbrev pub invariant-fronts : goal.invariant-fronts
invariant-fronts g l = record {
  images : map vec_items l.fronts.items ≡ replicate (vec_len l.fronts) [];
  room : vec_capacity l.fronts ≡ l.count;
  within : vec_len l.fronts ≤ l.count;
}

abbrev pub decreases-fronts : goal.decreases-fronts
decreases-fronts g l = l.count - vec_len l.fronts
