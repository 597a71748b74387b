use Rattle.std.proofs.Common.{ap, sym, subst}
use Rattle.spec_machine.specs.Machine.{Machine}
use Rattle.spec_machine.specs.WellFormed.{IsWellFormed}
use Rattle.law_store.proofs.Settings.{keeps_settings}
use Rattle.store_objects.proofs.objects.Objects.set_behaving.Goals as goal

pub invariant_of-self : goal.invariant_of-self
invariant_of-self c =
    let m = c.args.self.now in
    let w : IsWellFormed m = subst IsWellFormed c.self.view_is c.self.invariant in
    subst IsWellFormed (sym (ap (λ (k : Machine). record k { is_behaving = c.args.behaving }) c.self.view_is))
    (keeps_settings m m.fuel m.deadline m.counts m.limits m.is_limited m.is_hooked c.args.behaving w w.deadline_is
    w.debt_is)
