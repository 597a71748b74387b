-- The types of 5 members are those that were told.
use Rattle.typed_values.proofs.params.Tuple5WasmParams.typecheck.Goals as goal

pub returns : goal.returns
returns g c =
    let e = c.check_all.ensures in
    let a0 = c.valtype.ensures in
    let a1 = c.valtype-2.ensures in
    let a2 = c.valtype-3.ensures in
    let a3 = c.valtype-4.ensures in
    let a4 = c.valtype-5.ensures in
    cc
