use Rattle.std.proofs.Common.{length, ap, arith}
use Rattle.std.proofs.lemmas.List.{length-map}
use Rattle.wasm_objects.specs.Growth.{TableObjectParts}
use Rattle.wasm_objects.specs.Slots.{functions_of, reference_in}
use Rattle.wasm_objects.proofs.SlotLemmas.{count-most}
use Rattle.wasm_objects.proofs.table.TableObject.filled.Goals as goal

pub returns-clause-within : goal.returns-clause-within
returns-clause-within c =
    let xs = c.self.inside.slots.items in
    let f = reference_in c.self.inside.init (functions_of c.self.inside.functions) in
    omega (
      arith,
      c.self.invariant.0,
      count-most xs,
      length-map xs f,
      ap (λ (o : TableObjectParts). length o.table.elements) c.self.view_is,
    )
