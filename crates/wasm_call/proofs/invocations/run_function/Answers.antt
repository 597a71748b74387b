use Rattle.std.proofs.Common.{ap, sym, ◌∙◌}
use Rattle.std.proofs.lemmas.Option.{none-some}
use Rattle.std.specs.Option.{option_copied}
use Rattle.store_state.specs.Machine.{type_named}
use Rattle.store_state.specs.Parts.{ProgramParts}
use Rattle.code_hosts.specs.Asked.{asked}
use Rattle.wasm_call.proofs.AllowedCallLemmas.{a, call_runs, unbegun_failed, type_left, unfinished_well, unfinished_failed, replied_unstuck, replied_well, replied_returned, replied_failed, replied_fit, replied_owned}
use Rattle.wasm_call.proofs.invocations.run_function.Goals as goal

pub returns-in_default-clause-failed : goal.returns-in_default-clause-failed
returns-in_default-clause-failed g c =
    unbegun_failed (asked g.T.ResourceLimiter.growths g.H.HostBody.has g.K.CallHooks.hooks g.B.DeadlineBehaviour.behaves
    g.E.EpochSource.readings g.H.HostBody.steps) c.args.parts.now c.requires.formed c.args.func c.args.args.now c.requires.allowed
    c.args.store.now.host_data c.args.host.now c.args.epochs.now c.unfinished_after.result.results c.unfinished_after.result.turns
    c.unfinished_after.ensures.results c.unfinished_after.ensures.turns

pub run_parts-requires-clause-safe : goal.run_parts-requires-clause-safe
run_parts-requires-clause-safe g c =
    call_runs (asked g.T.ResourceLimiter.growths g.H.HostBody.has g.K.CallHooks.hooks g.B.DeadlineBehaviour.behaves
    g.E.EpochSource.readings g.H.HostBody.steps) c.args.parts.now c.requires.formed c.args.func c.args.args.now
    c.requires.allowed c.args.store.now.host_data c.args.host.now c.args.epochs.now c.index-number.result
    c.turns-turns.result c.as_slice.result.now c.index-number.ensures (c.as_slice.ensures.value ∙ c.in-Ok.ensures)
    c.turns-turns.ensures.value

pub run_parts-requires-clause-few : goal.run_parts-requires-clause-few
run_parts-requires-clause-few g c = c.turns-turns.ensures.most

pub returns-in-Err-clause-failed : goal.returns-in-Err-clause-failed
returns-in-Err-clause-failed g c =
    unfinished_failed (asked g.T.ResourceLimiter.growths g.H.HostBody.has g.K.CallHooks.hooks g.B.DeadlineBehaviour.behaves
    g.E.EpochSource.readings g.H.HostBody.steps) c.args.parts.now c.requires.formed c.args.func c.args.args.now c.requires.allowed
    c.args.store.now.host_data c.args.host.now c.args.epochs.now c.run_parts.new.parts c.run_parts.ensures.rest
    c.run_parts.new.store.host_data c.run_parts.new.host c.run_parts.new.epochs c.in-Err.unfinished
    (rw (
      c.turns-turns.ensures.value,
      c.index-number.ensures,
      c.as_slice.ensures.value,
      c.in-Ok.ensures,
    ) at c.in-Err.ensures.unfinished)
    c.unfinished_after-in-Err.result.results c.unfinished_after-in-Err.result.turns
    c.unfinished_after-in-Err.ensures.results c.unfinished_after-in-Err.ensures.turns

pub returns-in-Err-clause-formed : goal.returns-in-Err-clause-formed
returns-in-Err-clause-formed g c =
    unfinished_well (asked g.T.ResourceLimiter.growths g.H.HostBody.has g.K.CallHooks.hooks g.B.DeadlineBehaviour.behaves
    g.E.EpochSource.readings g.H.HostBody.steps) c.args.parts.now c.requires.formed c.args.func c.args.args.now c.requires.allowed
    c.args.store.now.host_data c.args.host.now c.args.epochs.now c.run_parts.new.parts c.run_parts.ensures.rest
    c.run_parts.new.store.host_data c.run_parts.new.host c.run_parts.new.epochs c.in-Err.unfinished
    (rw (
      c.turns-turns.ensures.value,
      c.index-number.ensures,
      c.as_slice.ensures.value,
      c.in-Ok.ensures,
    ) at c.in-Err.ensures.unfinished)

pub unreachable-requires : goal.unreachable-requires
unreachable-requires g c =
    none-some (a (asked g.T.ResourceLimiter.growths g.H.HostBody.has g.K.CallHooks.hooks g.B.DeadlineBehaviour.behaves
    g.E.EpochSource.readings g.H.HostBody.steps) c.args.parts.now c.requires.formed c.args.func
    c.args.args.now c.requires.allowed c.args.store.now.host_data c.args.host.now c.args.epochs.now).own
    (ap option_copied (sym c.in_default-function_type.is) ∙ c.function_type.ensures
    ∙ ap (λ (x : ProgramParts). type_named x c.index-number.result) c.get.ensures ∙ ap (type_named c.run_parts.new.parts.program) c.index-number.ensures
    ∙ type_left (asked g.T.ResourceLimiter.growths g.H.HostBody.has g.K.CallHooks.hooks g.B.DeadlineBehaviour.behaves
    g.E.EpochSource.readings g.H.HostBody.steps) c.args.parts.now c.requires.formed c.args.func
    c.args.args.now c.requires.allowed c.args.store.now.host_data c.args.host.now c.args.epochs.now c.run_parts.new.parts
    c.run_parts.ensures.rest c.run_parts.new.store.host_data c.run_parts.new.host c.run_parts.new.epochs)

pub told-requires : goal.told-requires
told-requires g c =
    replied_unstuck (asked g.T.ResourceLimiter.growths g.H.HostBody.has g.K.CallHooks.hooks g.B.DeadlineBehaviour.behaves
    g.E.EpochSource.readings g.H.HostBody.steps) c.args.parts.now c.requires.formed c.args.func c.args.args.now c.requires.allowed
    c.args.store.now.host_data c.args.host.now c.args.epochs.now c.run_parts.new.parts c.run_parts.ensures.rest
    c.run_parts.new.store.host_data c.run_parts.new.host c.run_parts.new.epochs c.in-Ok-run_parts.reply
    (rw (
      c.turns-turns.ensures.value,
      c.index-number.ensures,
      c.as_slice.ensures.value,
      c.in-Ok.ensures,
    ) at c.in-Ok-run_parts.ensures.replied)

pub returns-clause-returned : goal.returns-clause-returned
returns-clause-returned g c =
    replied_returned (asked g.T.ResourceLimiter.growths g.H.HostBody.has g.K.CallHooks.hooks g.B.DeadlineBehaviour.behaves
    g.E.EpochSource.readings g.H.HostBody.steps) c.args.parts.now c.requires.formed c.args.func c.args.args.now c.requires.allowed
    c.args.store.now.host_data c.args.host.now c.args.epochs.now c.run_parts.new.parts c.run_parts.ensures.rest
    c.run_parts.new.store.host_data c.run_parts.new.host c.run_parts.new.epochs c.in-Ok-run_parts.reply
    (rw (
      c.turns-turns.ensures.value,
      c.index-number.ensures,
      c.as_slice.ensures.value,
      c.in-Ok.ensures,
    ) at c.in-Ok-run_parts.ensures.replied) c.in-Some.ty.now
    (ap option_copied (sym c.in-Some.is) ∙ c.function_type.ensures
    ∙ ap (λ (x : ProgramParts). type_named x c.index-number.result) c.get.ensures ∙ ap (type_named c.run_parts.new.parts.program)
    c.index-number.ensures)
    c.told.result c.told.ensures

pub returns-clause-failed : goal.returns-clause-failed
returns-clause-failed g c =
    replied_failed (asked g.T.ResourceLimiter.growths g.H.HostBody.has g.K.CallHooks.hooks g.B.DeadlineBehaviour.behaves
    g.E.EpochSource.readings g.H.HostBody.steps) c.args.parts.now c.requires.formed c.args.func c.args.args.now c.requires.allowed
    c.args.store.now.host_data c.args.host.now c.args.epochs.now c.run_parts.new.parts c.run_parts.ensures.rest
    c.run_parts.new.store.host_data c.run_parts.new.host c.run_parts.new.epochs c.in-Ok-run_parts.reply
    (rw (
      c.turns-turns.ensures.value,
      c.index-number.ensures,
      c.as_slice.ensures.value,
      c.in-Ok.ensures,
    ) at c.in-Ok-run_parts.ensures.replied) c.in-Some.ty.now
    (ap option_copied (sym c.in-Some.is) ∙ c.function_type.ensures
    ∙ ap (λ (x : ProgramParts). type_named x c.index-number.result) c.get.ensures ∙ ap (type_named c.run_parts.new.parts.program)
    c.index-number.ensures)
    c.told.result c.told.ensures

pub returns-clause-fit : goal.returns-clause-fit
returns-clause-fit g c =
    replied_fit (asked g.T.ResourceLimiter.growths g.H.HostBody.has g.K.CallHooks.hooks g.B.DeadlineBehaviour.behaves
    g.E.EpochSource.readings g.H.HostBody.steps) c.args.parts.now c.requires.formed c.args.func c.args.args.now c.requires.allowed
    c.args.store.now.host_data c.args.host.now c.args.epochs.now c.run_parts.new.parts c.run_parts.ensures.rest
    c.run_parts.new.store.host_data c.run_parts.new.host c.run_parts.new.epochs c.in-Ok-run_parts.reply
    (rw (
      c.turns-turns.ensures.value,
      c.index-number.ensures,
      c.as_slice.ensures.value,
      c.in-Ok.ensures,
    ) at c.in-Ok-run_parts.ensures.replied) c.in-Some.ty.now
    (ap option_copied (sym c.in-Some.is) ∙ c.function_type.ensures
    ∙ ap (λ (x : ProgramParts). type_named x c.index-number.result) c.get.ensures ∙ ap (type_named c.run_parts.new.parts.program)
    c.index-number.ensures)
    c.told.result c.told.ensures

pub returns-clause-owned : goal.returns-clause-owned
returns-clause-owned g c =
    replied_owned (asked g.T.ResourceLimiter.growths g.H.HostBody.has g.K.CallHooks.hooks g.B.DeadlineBehaviour.behaves
    g.E.EpochSource.readings g.H.HostBody.steps) c.args.parts.now c.requires.formed c.args.func c.args.args.now c.requires.allowed
    c.args.store.now.host_data c.args.host.now c.args.epochs.now c.run_parts.new.parts c.run_parts.ensures.rest
    c.run_parts.new.store.host_data c.run_parts.new.host c.run_parts.new.epochs c.in-Ok-run_parts.reply
    (rw (
      c.turns-turns.ensures.value,
      c.index-number.ensures,
      c.as_slice.ensures.value,
      c.in-Ok.ensures,
    ) at c.in-Ok-run_parts.ensures.replied) c.in-Some.ty.now
    (ap option_copied (sym c.in-Some.is) ∙ c.function_type.ensures
    ∙ ap (λ (x : ProgramParts). type_named x c.index-number.result) c.get.ensures ∙ ap (type_named c.run_parts.new.parts.program)
    c.index-number.ensures)
    c.told.result c.told.ensures

pub returns-clause-formed : goal.returns-clause-formed
returns-clause-formed g c =
    replied_well (asked g.T.ResourceLimiter.growths g.H.HostBody.has g.K.CallHooks.hooks g.B.DeadlineBehaviour.behaves
    g.E.EpochSource.readings g.H.HostBody.steps) c.args.parts.now c.requires.formed c.args.func c.args.args.now c.requires.allowed
    c.args.store.now.host_data c.args.host.now c.args.epochs.now c.run_parts.new.parts c.run_parts.ensures.rest
    c.run_parts.new.store.host_data c.run_parts.new.host c.run_parts.new.epochs c.in-Ok-run_parts.reply
    (rw (
      c.turns-turns.ensures.value,
      c.index-number.ensures,
      c.as_slice.ensures.value,
      c.in-Ok.ensures,
    ) at c.in-Ok-run_parts.ensures.replied)
