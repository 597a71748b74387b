use Rattle.std.proofs.Common.{◌∙◌, ap, sym, subst, ℕ, List, [], ◌∷◌, ◌++◌, length, Ok, Err, inr}
use Rattle.std.specs.List.{list_all}
use Rattle.spec_execution.specs.Instantiation.{imports_fit}
use Rattle.spec_machine.specs.Values.{owns_extern}
use Rattle.law_plugins.specs.Meeting.{GuestsAreApart}
use Rattle.wasm_call.specs.Outside.{surrounded}
use Rattle.wasm_plugins.specs.Calling.{guarded}
use Rattle.wasm_plugins.specs.Guests.{PluginsParts, may_load}
use Rattle.wasm_plugins.specs.declared.faults.PluginFault.{PluginFault}
use Rattle.wasm_plugins.specs.declared.faults.PluginFault.TheVariants as fault
use Rattle.wasm_values.specs.declared.refusals.Refusal.TheVariants as refusal
use Rattle.wasm_plugins.proofs.LoadLemmas.{view_kept, load_due, load_nobody, none_strange, load_unrefused, load_not_err, refused_load, made_load, short_load}
use Rattle.wasm_plugins.proofs.ToldLemmas.{same_told, refuses, is_due, short_why, short_refuses, told_short_of}
use Rattle.wasm_plugins.proofs.plugins.Plugins.load.Goals as goal

-- ---- it was refused by its check

pub returns-in-Err-clause-strange : goal.returns-in-Err-clause-strange
returns-in-Err-clause-strange g c =
    λ e. same_told ℕ c.in-Err.fault (fault.Refused refusal.WrongStore)
    (c.in-Err.ensures.strange
    (ap (λ (q : PluginsParts _). list_all (owns_extern q.store.machine) c.args.imports.now) c.self.view_is ∙ e))

pub returns-in-Err-clause-checked : goal.returns-in-Err-clause-checked
returns-in-Err-clause-checked g c =
    refuses ℕ (may_load c.args.self.now.store.machine c.args.self.now.guests c.args.imports.now) c.in-Err.fault
    (load_due c.self.inside.store c.self.inside.guests.items c.args.self.now c.self.view_is c.as_slice.result.now
    c.as_slice.ensures.value c.args.imports.now (Err c.in-Err.fault) c.in-Err.ensures.due)

pub returns-in-Err-clause-meets : goal.returns-in-Err-clause-meets
returns-in-Err-clause-meets g c =
    λ guest node. is_due ℕ (may_load c.args.self.now.store.machine c.args.self.now.guests c.args.imports.now)
    c.in-Err.fault
    (fault.Meets guest node)
    (load_due c.self.inside.store c.self.inside.guests.items c.args.self.now c.self.view_is c.as_slice.result.now
    c.as_slice.ensures.value c.args.imports.now (Err c.in-Err.fault) c.in-Err.ensures.due)
    (λ e. cc)

pub returns-in-Err-clause-loaded : goal.returns-in-Err-clause-loaded
returns-in-Err-clause-loaded g c =
    refused_load c.self.inside.store c.self.inside.guests.items c.args.self.now c.self.view_is c.as_slice.result.now
    c.as_slice.ensures.value c.args.imports.now
    (guarded g.T.ResourceLimiter.growths g.H.HostBody.has g.K.CallHooks.hooks g.B.DeadlineBehaviour.behaves
    g.E.EpochSource.readings g.H.HostBody.steps)
    c.args.module.now c.args.host.now c.args.epochs.now c.in-Err.fault c.begin_turns.new.store c.self.inside.guests.items
    c.in-Err.ensures.due c.begin_turns.ensures.begun

pub returns-in-Err-clause-refused : goal.returns-in-Err-clause-refused
returns-in-Err-clause-refused g c =
    λ due. short_refuses ℕ c.in-Err.fault
    (imports_fit c.args.self.now.store.machine c.args.module.now c.args.imports.now)
    (short_why (may_load c.args.self.now.store.machine c.args.self.now.guests c.args.imports.now) tt c.in-Err.fault
    (load_due c.self.inside.store c.self.inside.guests.items c.args.self.now c.self.view_is c.as_slice.result.now
    c.as_slice.ensures.value c.args.imports.now (Err c.in-Err.fault) c.in-Err.ensures.due) due)

-- ---- there was no room for one guest more

pub returns-in_default-reserve-clause-strange : goal.returns-in_default-reserve-clause-strange
returns-in_default-reserve-clause-strange g c =
    none_strange c.self.inside.store c.self.inside.guests.items c.args.self.now c.self.view_is c.as_slice.result.now
    c.as_slice.ensures.value c.args.imports.now c.in_default.ensures.due

-- ---- the instance was made

pub invariant_of-self-in-Ok-make_guest : goal.invariant_of-self-in-Ok-make_guest
invariant_of-self-in-Ok-make_guest g c =
    subst (λ (gs : List ℕ). GuestsAreApart c.make_guest.new.store.machine gs)
    (sym (c.push_reserved.ensures.items
    ∙ ap (λ (gs : List ℕ). gs ++ c.index.result ∷ []) c.reserve.ensures.items
    ∙ ap (λ (n : ℕ). c.self.inside.guests.items ++ n ∷ []) c.index.ensures))
    (c.in-Ok-make_guest.ensures.added c.self.inside.guests.items c.self.invariant
    (load_nobody c.self.inside.store c.self.inside.guests.items c.args.self.now c.self.view_is c.as_slice.result.now
    c.as_slice.ensures.value c.args.imports.now c.in_default.ensures.due))

pub returns-in-Ok-make_guest-clause-apart : goal.returns-in-Ok-make_guest-clause-apart
returns-in-Ok-make_guest-clause-apart g c = invariant_of-self-in-Ok-make_guest g c

pub returns-in-Ok-make_guest-clause-strange : goal.returns-in-Ok-make_guest-clause-strange
returns-in-Ok-make_guest-clause-strange g c =
    none_strange c.self.inside.store c.self.inside.guests.items c.args.self.now c.self.view_is c.as_slice.result.now
    c.as_slice.ensures.value c.args.imports.now c.in_default.ensures.due

pub returns-in-Ok-make_guest-clause-checked : goal.returns-in-Ok-make_guest-clause-checked
returns-in-Ok-make_guest-clause-checked g c =
    load_unrefused c.self.inside.store c.self.inside.guests.items c.args.self.now c.self.view_is c.as_slice.result.now
    c.as_slice.ensures.value c.args.imports.now _ c.in_default.ensures.due

pub returns-in-Ok-make_guest-clause-untouched : goal.returns-in-Ok-make_guest-clause-untouched
returns-in-Ok-make_guest-clause-untouched g c =
    load_not_err c.self.inside.store c.self.inside.guests.items c.args.self.now c.self.view_is c.as_slice.result.now
    c.as_slice.ensures.value c.args.imports.now c.in_default.ensures.due

pub returns-in-Ok-make_guest-clause-loaded : goal.returns-in-Ok-make_guest-clause-loaded
returns-in-Ok-make_guest-clause-loaded g c =
    λ due. made_load c.self.inside.store c.self.inside.guests.items c.args.self.now c.self.view_is c.as_slice.result.now
    c.as_slice.ensures.value c.args.imports.now
    (guarded g.T.ResourceLimiter.growths g.H.HostBody.has g.K.CallHooks.hooks g.B.DeadlineBehaviour.behaves
    g.E.EpochSource.readings g.H.HostBody.steps)
    c.args.module.now c.args.host.now c.args.epochs.now
    (surrounded c.make_guest.new.store c.make_guest.new.host c.make_guest.new.epochs)
    (Ok c.in-Ok-make_guest.instance) (Ok c.len-guest.result) c.push_reserved.new.self.items (
      ap (λ (n : ℕ). Ok n)
          (c.len-guest.ensures ∙ c.reserve.new.self.ok.0 ∙ ap (λ (gs : List ℕ). length gs) c.reserve.ensures.items),
      c.push_reserved.ensures.items
          ∙ ap (λ (gs : List ℕ). gs ++ c.index.result ∷ []) c.reserve.ensures.items
          ∙ ap (λ (n : ℕ). c.self.inside.guests.items ++ n ∷ []) c.index.ensures,
    )
    c.in-Ok-make_guest.ensures.instantiated

pub returns-in-Ok-make_guest-clause-others : goal.returns-in-Ok-make_guest-clause-others
returns-in-Ok-make_guest-clause-others g c =
    view_kept c.self.inside.store c.self.inside.guests.items c.args.self.now c.self.view_is
    c.make_guest.new.store.machine
    (c.in-Ok-make_guest.ensures.guests c.self.inside.guests.items c.self.invariant
    (load_nobody c.self.inside.store c.self.inside.guests.items c.args.self.now c.self.view_is c.as_slice.result.now
    c.as_slice.ensures.value c.args.imports.now c.in_default.ensures.due)).kept

-- ---- no instance was made, or none that is a guest

pub invariant_of-self-in-Err-make_guest : goal.invariant_of-self-in-Err-make_guest
invariant_of-self-in-Err-make_guest g c =
    subst (λ (gs : List ℕ). GuestsAreApart c.make_guest.new.store.machine gs) (sym c.reserve.ensures.items)
    (c.in-Err-make_guest.ensures.guests c.self.inside.guests.items c.self.invariant
    (load_nobody c.self.inside.store c.self.inside.guests.items c.args.self.now c.self.view_is c.as_slice.result.now
    c.as_slice.ensures.value c.args.imports.now c.in_default.ensures.due)).apart

pub returns-in-Err-make_guest-clause-apart : goal.returns-in-Err-make_guest-clause-apart
returns-in-Err-make_guest-clause-apart g c = invariant_of-self-in-Err-make_guest g c

pub returns-in-Err-make_guest-clause-strange : goal.returns-in-Err-make_guest-clause-strange
returns-in-Err-make_guest-clause-strange g c =
    none_strange c.self.inside.store c.self.inside.guests.items c.args.self.now c.self.view_is c.as_slice.result.now
    c.as_slice.ensures.value c.args.imports.now c.in_default.ensures.due

pub returns-in-Err-make_guest-clause-checked : goal.returns-in-Err-make_guest-clause-checked
returns-in-Err-make_guest-clause-checked g c =
    load_unrefused c.self.inside.store c.self.inside.guests.items c.args.self.now c.self.view_is c.as_slice.result.now
    c.as_slice.ensures.value c.args.imports.now _ c.in_default.ensures.due

pub returns-in-Err-make_guest-clause-untouched : goal.returns-in-Err-make_guest-clause-untouched
returns-in-Err-make_guest-clause-untouched g c =
    load_not_err c.self.inside.store c.self.inside.guests.items c.args.self.now c.self.view_is c.as_slice.result.now
    c.as_slice.ensures.value c.args.imports.now c.in_default.ensures.due

pub returns-in-Err-make_guest-clause-loaded : goal.returns-in-Err-make_guest-clause-loaded
returns-in-Err-make_guest-clause-loaded g c =
    λ due. made_load c.self.inside.store c.self.inside.guests.items c.args.self.now c.self.view_is c.as_slice.result.now
    c.as_slice.ensures.value c.args.imports.now
    (guarded g.T.ResourceLimiter.growths g.H.HostBody.has g.K.CallHooks.hooks g.B.DeadlineBehaviour.behaves
    g.E.EpochSource.readings g.H.HostBody.steps)
    c.args.module.now c.args.host.now c.args.epochs.now
    (surrounded c.make_guest.new.store c.make_guest.new.host c.make_guest.new.epochs)
    (Err c.in-Err-make_guest.why) (Err c.told.result) c.reserve.new.self.items
    (ap (λ (w : PluginFault). Err w) c.told.ensures, c.reserve.ensures.items)
    c.in-Err-make_guest.ensures.instantiated

pub returns-in-Err-make_guest-clause-short : goal.returns-in-Err-make_guest-clause-short
returns-in-Err-make_guest-clause-short g c =
    λ due short. inr (short_load c.self.inside.store c.self.inside.guests.items c.args.self.now c.self.view_is
    c.as_slice.result.now c.as_slice.ensures.value c.args.imports.now
    (guarded g.T.ResourceLimiter.growths g.H.HostBody.has g.K.CallHooks.hooks g.B.DeadlineBehaviour.behaves
    g.E.EpochSource.readings g.H.HostBody.steps)
    c.args.module.now c.args.host.now c.args.epochs.now
    (surrounded c.make_guest.new.store c.make_guest.new.host c.make_guest.new.epochs)
    (c.in-Err-make_guest.ensures.short
    (ap (λ w. Err w) (told_short_of ℕ c.in-Err-make_guest.why c.told.result c.told.ensures short))))

pub returns-in-Err-make_guest-clause-others : goal.returns-in-Err-make_guest-clause-others
returns-in-Err-make_guest-clause-others g c =
    view_kept c.self.inside.store c.self.inside.guests.items c.args.self.now c.self.view_is
    c.make_guest.new.store.machine
    (c.in-Err-make_guest.ensures.guests c.self.inside.guests.items c.self.invariant
    (load_nobody c.self.inside.store c.self.inside.guests.items c.args.self.now c.self.view_is c.as_slice.result.now
    c.as_slice.ensures.value c.args.imports.now c.in_default.ensures.due)).kept
