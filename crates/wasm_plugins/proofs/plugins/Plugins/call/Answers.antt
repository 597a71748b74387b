use Rattle.std.proofs.Common.{◌≡◌, ◌∙◌, ap, sym, Some, Err, length}
use Rattle.wasm_call.specs.Outside.{surrounded}
use Rattle.wasm_plugins.specs.Calling.{guarded, told}
use Rattle.wasm_plugins.specs.declared.faults.PluginFault.{PluginFault}
use Rattle.wasm_plugins.proofs.CallLemmas.{call_keeps, view_others, made_call, told_call, told_due}
use Rattle.wasm_plugins.proofs.plugins.Plugins.call.Goals.{in-Ok-call_guest, in-Err-call_guest}
use Rattle.wasm_plugins.proofs.plugins.Plugins.call.Goals as goal

-- what the call of the function answered is told
is_told : (g : _) (c : goal.Joined-call_guest g) → c.match-call_guest.result ≡ told c.call_guest.result
is_told g c =
    elim c.match-call_guest.branch [
      | in-Ok-call_guest w ↦ w.result-is ∙ ap told (sym w.in-Ok-call_guest.is)
      | in-Err-call_guest w ↦
          w.result-is ∙ ap (λ (f : PluginFault). Err f) w.told.ensures ∙ ap told (sym w.in-Err-call_guest.is)
    ]

pub invariant_of-self-2 : goal.invariant_of-self-2
invariant_of-self-2 g c =
    (call_keeps c.self.inside.store c.self.inside.guests.items c.args.self.now c.self.view_is c.as_slice.result.now
    c.as_slice.ensures.value c.args.guest c.args.name.now c.args.params.now c.in-Ok.func
    (Some (length c.args.results.now)) c.call_guest.new.store.machine c.in-Ok.ensures.due c.keeps_well_formed.ensures
    c.self.invariant c.call_guest.ensures.guests).apart

pub returns-clause-apart : goal.returns-clause-apart
returns-clause-apart g c = invariant_of-self-2 g c

pub returns-clause-others : goal.returns-clause-others
returns-clause-others g c =
    view_others c.self.inside.store c.self.inside.guests.items c.args.self.now c.self.view_is c.as_slice.result.now
    c.as_slice.ensures.value c.args.guest c.args.name.now c.args.params.now c.call_guest.new.store.machine
    (call_keeps c.self.inside.store c.self.inside.guests.items c.args.self.now c.self.view_is c.as_slice.result.now
    c.as_slice.ensures.value c.args.guest c.args.name.now c.args.params.now c.in-Ok.func
    (Some (length c.args.results.now)) c.call_guest.new.store.machine c.in-Ok.ensures.due c.keeps_well_formed.ensures
    c.self.invariant c.call_guest.ensures.guests).kept

pub returns-clause-called : goal.returns-clause-called
returns-clause-called g c =
    made_call c.self.inside.store c.self.inside.guests.items c.args.self.now c.self.view_is c.as_slice.result.now
    c.as_slice.ensures.value c.args.guest c.args.name.now c.args.params.now
    (guarded g.T.ResourceLimiter.growths g.H.HostBody.has g.K.CallHooks.hooks g.B.DeadlineBehaviour.behaves
    g.E.EpochSource.readings g.H.HostBody.steps)
    (Some (length c.args.results.now)) c.args.host.now c.args.epochs.now c.call_guest.new.results c.in-Ok.func
    (surrounded c.call_guest.new.store c.call_guest.new.host c.call_guest.new.epochs) c.call_guest.result
    c.match-call_guest.result c.in-Ok.ensures.due (is_told g c) c.call_guest.ensures.returned
    c.call_guest.ensures.failed

pub returns-clause-refused : goal.returns-clause-refused
returns-clause-refused g c =
    told_call c.self.inside.store c.self.inside.guests.items c.args.self.now c.self.view_is c.as_slice.result.now
    c.as_slice.ensures.value c.args.guest c.args.name.now c.args.params.now (Some (length c.args.results.now)) c.in-Ok.func
    c.call_guest.result c.match-call_guest.result c.in-Ok.ensures.due (is_told g c) c.call_guest.ensures.refused

pub returns-clause-due : goal.returns-clause-due
returns-clause-due g c =
    told_due c.self.inside.store c.self.inside.guests.items c.args.self.now c.self.view_is c.as_slice.result.now
    c.as_slice.ensures.value c.args.guest c.args.name.now c.args.params.now (Some (length c.args.results.now)) c.in-Ok.func
    c.call_guest.result c.match-call_guest.result c.in-Ok.ensures.due (is_told g c) c.call_guest.ensures.due
