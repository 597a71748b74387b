use Rattle.std.proofs.Common.{◌∙◌, sym, Some, None, inl}
use Rattle.wasm_plugins.proofs.CheckLemmas.{found_due}
use Rattle.wasm_plugins.proofs.checks.may_load.Goals as goal

pub returns-in-Some-clause-due : goal.returns-in-Some-clause-due
returns-in-Some-clause-due g c =
    inl (found_due c.args.store.now.machine c.args.guests.now c.args.imports.now c.in_ok-set.set
    (Some (c.in-Some.guest, c.in-Some.node)) (sym c.owns_all.ensures ∙ c.if-not-owns_all.false) c.in_ok-set.ensures
    (sym c.in-Some.is ∙ c.in_ok-guest.ensures))

pub returns-clause-due : goal.returns-clause-due
returns-clause-due g c =
    inl (found_due c.args.store.now.machine c.args.guests.now c.args.imports.now c.in_ok-set.set None
    (sym c.owns_all.ensures ∙ c.if-not-owns_all.false) c.in_ok-set.ensures (sym c.in-None.is ∙ c.in_ok-guest.ensures))
