use Rattle.std.proofs.Common.{◌≡◌, subst, arith}
use Rattle.std.proofs.lemmas.Grind.{common_steps}
use Rattle.std.specs.Prelude.{Ok}
use Rattle.spec_machine.specs.FuelCalls.{yield_interval}
use Rattle.spec_machine.specs.Machine.{Machine}
use Rattle.spec_machine.specs.WellFormed.{IsWellFormed}
use Rattle.law_store.proofs.Meters.{meters_keep_well_formed}
use Rattle.store_objects.specs.contracts.objects.Objects.{the_view}
use Rattle.store_objects.proofs.objects.Objects.yield_interval.Goals as goal

pub invariant_of-self : goal.invariant_of-self
invariant_of-self c =
    let m = c.args.self.now in
    let w : IsWellFormed m = subst IsWellFormed c.self.view_is c.self.invariant in
    let after : Machine = the_view (record c.self.inside { held = c.set_interval.new.self }) in
    let done : yield_interval m c.args.interval ≡ Ok after = grind (arith, common_steps) in
    (meters_keep_well_formed m w).yield_interval c.args.interval after done
