use Rattle.std.proofs.Common.{◌≡◌, subst, arith}
use Rattle.std.proofs.lemmas.Grind.{common_steps}
use Rattle.std.specs.Prelude.{Ok}
use Rattle.spec_machine.specs.FuelCalls.{fill_fuel}
use Rattle.spec_machine.specs.Machine.{Machine}
use Rattle.spec_machine.specs.WellFormed.{IsWellFormed}
use Rattle.law_store.proofs.Meters.{meters_keep_well_formed}
use Rattle.store_objects.specs.contracts.objects.Objects.{the_view}
use Rattle.store_objects.proofs.objects.Objects.set_fuel.Goals as goal

pub invariant_of-self : goal.invariant_of-self
invariant_of-self c =
    let m = c.args.self.now in
    let w : IsWellFormed m = subst IsWellFormed c.self.view_is c.self.invariant in
    let after : Machine = the_view (record c.self.inside { held = c.set_fuel.new.self }) in
    let done : fill_fuel m c.args.fuel ≡ Ok after = grind (arith, common_steps) in
    (meters_keep_well_formed m w).fill_fuel c.args.fuel after done
