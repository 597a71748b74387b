use Rattle.std.proofs.Common.{◌≡◌, true, ap, sym, ◌∙◌, subst}
use Rattle.spec_machine.specs.Machine.{Machine, numbers}
use Rattle.spec_machine.specs.WellFormed.{IsWellFormed}
use Rattle.law_store.proofs.Settings.{keeps_settings}
use Rattle.store_state.specs.Parts.{HeldParts}
use Rattle.store_objects.specs.contracts.objects.Objects.{the_view}
use Rattle.store_objects.proofs.objects.Objects.set_limiter.Goals as goal

pub invariant_of-self : goal.invariant_of-self
invariant_of-self c =
    let m = c.args.self.now in
    let w : IsWellFormed m = subst IsWellFormed c.self.view_is c.self.invariant in
    let most = numbers c.args.instances c.args.memories c.args.tables in
    let flags = record c.self.inside.flags { limited = true } in
    let after : HeldParts → Machine = λ h. the_view (record c.self.inside { held = h; flags = flags }) in
    let done : after c.set_limits.new.self ≡ record m { limits = most; is_limited = true } =
    ap after c.set_limits.ensures
    ∙ ap (λ (k : Machine). record k { limits = most; is_limited = true }) c.self.view_is in
    subst IsWellFormed (sym done)
    (keeps_settings m m.fuel m.deadline m.counts most true m.is_hooked m.is_behaving w w.deadline_is w.debt_is)
