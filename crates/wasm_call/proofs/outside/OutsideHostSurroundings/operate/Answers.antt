use Rattle.std.proofs.Common.{◌≡◌, ap, sym, ◌∙◌, subst}
use Rattle.spec_machine.specs.WellFormed.{IsWellFormed}
use Rattle.store_objects.specs.Machines.{base_of, emptied}
use Rattle.store_state.specs.Engines.{engine_parts}
use Rattle.store_state.specs.Machine.{run_machine}
use Rattle.store_state.specs.Parts.{ProgramParts, HeldParts}
use Rattle.code_hosts.specs.Asked.{asked}
use Rattle.wasm_host.specs.Scopes.{scope_of}
use Rattle.wasm_store.specs.Stores.{StoreParts, store_parts}
use Rattle.wasm_call.proofs.StoreOperationLemmas.{filled_well, left_well, not_refused, done_operates, done_misses}
use Rattle.wasm_call.proofs.outside.OutsideHostSurroundings.operate.Given.{Over}
use Rattle.wasm_call.proofs.outside.OutsideHostSurroundings.operate.Goals as goal
use Rattle.wasm_call.proofs.outside.OutsideHostSurroundings.operate.Goals.{After-replace, After-drop-held}

-- the machine of what is put into the store
filled_as : (g : Over) (c : After-replace g) →
    run_machine c.args.self.now.store.now.machine c.replace-program.result c.replace.result
    ≡ run_machine c.args.self.now.store.now.machine c.args.self.now.program.now c.args.held.now
filled_as g c =
    ap (λ (p : ProgramParts). run_machine c.args.self.now.store.now.machine p c.replace.result)
    c.replace-program.ensures.value
    ∙ ap (λ (h : HeldParts). run_machine c.args.self.now.store.now.machine c.args.self.now.program.now h)
    c.replace.ensures.value

pub refill-requires : goal.refill-requires
refill-requires g c =
    subst IsWellFormed (sym (filled_as g c))
    (filled_well (asked g.T.ResourceLimiter.growths g.H.HostBody.has g.K.CallHooks.hooks g.B.DeadlineBehaviour.behaves
    g.E.EpochSource.readings g.H.HostBody.steps) g.H.HostBody.ready c.args.self.now c.args.context.now c.requires.fits
    c.args.held.now c.requires.formed)

module _ (g : Over) (c : After-drop-held g) where
  begun : c.set_turns.new.store ≡ store_parts
      (run_machine c.args.self.now.store.now.machine c.replace-program.result c.replace.result) 0
      c.args.self.now.store.now.host_data
  begun = c.set_turns.ensures ∙ ap (λ (s : StoreParts _). store_parts s.machine 0 s.host_data) c.refill.ensures

  filled_is : run_machine c.args.self.now.store.now.machine c.replace-program.result c.replace.result
      ≡ run_machine c.args.self.now.store.now.machine c.args.self.now.program.now c.args.held.now
  filled_is =
      ap (λ (p : ProgramParts). run_machine c.args.self.now.store.now.machine p c.replace.result)
      c.replace-program.ensures.value
      ∙ ap (λ (h : HeldParts). run_machine c.args.self.now.store.now.machine c.args.self.now.program.now h)
      c.replace.ensures.value

  one_is : c.set_turns.new.store.machine
      ≡ run_machine c.args.self.now.store.now.machine c.args.self.now.program.now c.args.held.now
  one_is = ap (λ (s : StoreParts _). s.machine) begun ∙ filled_is

  data_is : c.set_turns.new.store.host_data ≡ c.args.self.now.store.now.host_data
  data_is = ap (λ (s : StoreParts _). s.host_data) begun

  whole : run_machine (base_of c.into_parts-parts.result.id (engine_parts c.into_parts-parts.result.engine)
      c.into_parts-parts.result.flags) c.into_parts-parts.result.program c.into_parts-parts.result.held
      ≡ c.do_operation-done.new.store.machine
  whole =
      c.into_parts-parts.ensures.whole ∙ c.take_objects.ensures.taken
      ∙ ap (λ (s : StoreParts _). s.machine) c.set_turns-2.ensures

  new_is : c.take_objects.new.store ≡ store_parts (emptied c.do_operation-done.new.store.machine)
      c.args.self.now.store.now.turns c.do_operation-done.new.store.host_data
  new_is =
      c.take_objects.ensures.left
      ∙ ap (λ (s : StoreParts _). store_parts (emptied s.machine) s.turns s.host_data) c.set_turns-2.ensures
      ∙ ap (λ n. store_parts (emptied c.do_operation-done.new.store.machine) n c.do_operation-done.new.store.host_data)
      c.turns-turns.ensures

pub returns-clause-operates : goal.returns-clause-operates
returns-clause-operates g c =
    done_operates (asked g.T.ResourceLimiter.growths g.H.HostBody.has g.K.CallHooks.hooks g.B.DeadlineBehaviour.behaves
    g.E.EpochSource.readings g.H.HostBody.steps) g.H.HostBody.ready c.args.self.now c.args.context.now c.requires.fits
    c.args.held.now c.into_parts-parts.result.held c.set_turns.new.store c.do_operation-done.new.store
    c.take_objects.new.store (one_is g c) (data_is g c) c.do_operation-done.ensures.keeps
    (base_of c.into_parts-parts.result.id (engine_parts c.into_parts-parts.result.engine) c.into_parts-parts.result.flags)
    c.into_parts-parts.result.program (whole g c) (new_is g c) (scope_of c.args.scope.now) c.args.op.now c.args.left
    c.do_operation-done.new.epochs c.do_operation-done.result c.do_operation-done.ensures.does

pub returns-clause-misses : goal.returns-clause-misses
returns-clause-misses g c =
    done_misses (asked g.T.ResourceLimiter.growths g.H.HostBody.has g.K.CallHooks.hooks g.B.DeadlineBehaviour.behaves
    g.E.EpochSource.readings g.H.HostBody.steps) g.H.HostBody.ready c.args.self.now c.args.context.now c.requires.fits
    c.args.held.now c.into_parts-parts.result.held c.set_turns.new.store c.do_operation-done.new.store
    c.take_objects.new.store (one_is g c) (data_is g c) c.do_operation-done.ensures.keeps
    (base_of c.into_parts-parts.result.id (engine_parts c.into_parts-parts.result.engine) c.into_parts-parts.result.flags)
    c.into_parts-parts.result.program (whole g c) (new_is g c) (scope_of c.args.scope.now) c.args.op.now c.args.left
    c.do_operation-done.new.epochs c.do_operation-done.result c.do_operation-done.ensures.lacks

pub returns-clause-met : goal.returns-clause-met
returns-clause-met g c =
    not_refused (asked g.T.ResourceLimiter.growths g.H.HostBody.has g.K.CallHooks.hooks g.B.DeadlineBehaviour.behaves
    g.E.EpochSource.readings g.H.HostBody.steps) g.H.HostBody.ready c.args.self.now c.args.context.now c.requires.fits
    c.args.held.now c.into_parts-parts.result.held c.set_turns.new.store c.do_operation-done.new.store
    c.take_objects.new.store (one_is g c) (data_is g c) c.do_operation-done.ensures.keeps
    (base_of c.into_parts-parts.result.id (engine_parts c.into_parts-parts.result.engine) c.into_parts-parts.result.flags)
    c.into_parts-parts.result.program (whole g c) (new_is g c) (scope_of c.args.scope.now) c.args.op.now
    c.do_operation-done.result c.do_operation-done.ensures.met

pub returns-clause-formed : goal.returns-clause-formed
returns-clause-formed g c =
    left_well (asked g.T.ResourceLimiter.growths g.H.HostBody.has g.K.CallHooks.hooks g.B.DeadlineBehaviour.behaves
    g.E.EpochSource.readings g.H.HostBody.steps) g.H.HostBody.ready c.args.self.now c.args.context.now c.requires.fits
    c.args.held.now c.into_parts-parts.result.held c.set_turns.new.store c.do_operation-done.new.store
    c.take_objects.new.store (one_is g c) (data_is g c) c.do_operation-done.ensures.keeps
    (base_of c.into_parts-parts.result.id (engine_parts c.into_parts-parts.result.engine) c.into_parts-parts.result.flags)
    c.into_parts-parts.result.program (whole g c) (new_is g c)
    (subst IsWellFormed (whole g c) c.into_parts-parts.ensures.formed)
