use Rattle.std.proofs.Common.{true, ap, sym, subst}
use Rattle.spec_machine.specs.Machine.{Machine}
use Rattle.spec_machine.specs.WellFormed.{IsWellFormed}
use Rattle.law_store.proofs.Settings.{keeps_settings}
use Rattle.store_objects.proofs.objects.Objects.set_hooked.Goals as goal

pub invariant_of-self : goal.invariant_of-self
invariant_of-self c =
    let m = c.args.self.now in
    let w : IsWellFormed m = subst IsWellFormed c.self.view_is c.self.invariant in
    subst IsWellFormed (sym (ap (λ (k : Machine). record k { is_hooked = true }) c.self.view_is))
    (keeps_settings m m.fuel m.deadline m.counts m.limits m.is_limited true m.is_behaving w w.deadline_is w.debt_is)
