use Rattle.std.proofs.Common.{◌≡◌, ap, sym, ◌∙◌, subst}
use Rattle.spec_machine.specs.FuelCalls.{move_deadline}
use Rattle.spec_machine.specs.Machine.{Machine}
use Rattle.spec_machine.specs.WellFormed.{IsWellFormed}
use Rattle.law_store.proofs.Meters.{meters_keep_well_formed}
use Rattle.store_state.specs.Parts.{HeldParts}
use Rattle.store_objects.specs.contracts.objects.Objects.{the_view}
use Rattle.store_objects.proofs.objects.Objects.set_deadline.Goals as goal

pub invariant_of-self : goal.invariant_of-self
invariant_of-self c =
    let m = c.args.self.now in
    let w : IsWellFormed m = subst IsWellFormed c.self.view_is c.self.invariant in
    let after : HeldParts → Machine = λ h. the_view (record c.self.inside { held = h }) in
    let done : after c.set_deadline.new.self ≡ move_deadline m c.args.ticks c.args.reading =
    ap after c.set_deadline.ensures
    ∙ ap (λ (k : Machine). move_deadline k c.args.ticks c.args.reading) c.self.view_is in
    subst IsWellFormed (sym done) ((meters_keep_well_formed m w).move_deadline c.args.ticks c.args.reading)
