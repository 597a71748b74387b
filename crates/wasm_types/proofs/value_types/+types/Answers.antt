use Rattle.std.proofs.Common.{arith, ap, rules}
use Rattle.wasm_types.specs.Signatures.{depth}
use Rattle.wasm_types.proofs.RoundTripLemmas.{types_size}
use Rattle.wasm_types.proofs.value_types.+types.Goals as goal

pub FuncTypePartialEq::eq-eq-requires-then-eq-3 : goal.FuncTypePartialEq::eq-eq-requires-then-eq-3
FuncTypePartialEq::eq-eq-requires-then-eq-3 t c κs = (
  (
    (
      rw c.deref-a.ensures (omega (arith, types_size c.self.inside.parts.value.params.items, c.decreases, ap depth c.self.view_is)),
      (rw c.deref-b.ensures (omega (arith, types_size c.other.inside.parts.value.params.items, c.decreases, ap depth c.other.view_is)), tt),
    ),
    tt,
  ),
  (search rules, search rules),
)

pub FuncTypePartialEq::eq-eq-requires-then-eq-4 : goal.FuncTypePartialEq::eq-eq-requires-then-eq-4
FuncTypePartialEq::eq-eq-requires-then-eq-4 t c κs = (
  (
    (
      rw c.deref-a.ensures (omega (arith, types_size c.self.inside.parts.value.results.items, c.decreases, ap depth c.self.view_is)),
      (rw c.deref-b.ensures (omega (arith, types_size c.other.inside.parts.value.results.items, c.decreases, ap depth c.other.view_is)), tt),
    ),
    tt,
  ),
  (search rules, search rules),
)
