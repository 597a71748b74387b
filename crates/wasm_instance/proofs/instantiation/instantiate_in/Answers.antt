use Rattle.std.proofs.Common.{◌≡◌, ℕ, ◌+◌, ◌-◌, ◌≤◌, refl, sym, ap, ◌∙◌, subst, arith}
use Rattle.std.specs.Prelude.{Ok, Err}
use Rattle.std.proofs.lemmas.Result.{err_from_is_err_and}
use Rattle.wasm_syntax.specs.declared.declarations.ModuleDecl.{ModuleDecl}
use Rattle.spec_execution.specs.Instantiation.{Within, counted}
use Rattle.spec_machine.specs.Machine.{Machine}
use Rattle.store_state.specs.Engines.{engine_parts}
use Rattle.store_objects.specs.Machines.{base_of, store_of}
use Rattle.wasm_store.specs.Stores.{StoreParts}
use Rattle.wasm_call.specs.Invoking.{machine_in, store_in}
use Rattle.code_hosts.specs.Asked as hosts
use Rattle.wasm_call.specs.Outside.{asked, surrounded}
use Rattle.wasm_instance.specs.Asking.{growing_all, Comes, Reaches}
use Rattle.wasm_instance.specs.Making.{IsReady}
use Rattle.wasm_instance.proofs.AskingLemmas.{passed_told}
use Rattle.wasm_instance.proofs.DueLemmas.{making_due, making_short}
use Rattle.wasm_instance.proofs.ShortLemmas.{past_is_told}
use Rattle.wasm_instance.proofs.ToldLemmas.{counts_formed, past_told, denied_told, made_told}
use Rattle.wasm_instance.proofs.WholeLemmas.{chain_wide}
use Rattle.wasm_instance.proofs.instantiation.instantiate_in.Goals as goal

pub returns-in_err-raise_counts-clause-instantiated : goal.returns-in_err-raise_counts-clause-instantiated
returns-in_err-raise_counts-clause-instantiated g c =
    let p = c.args.parts.now in
    let failed = err_from_is_err_and c.from_residual.result c.from_residual.ensures.1 in
    past_told (hosts.asked g.T.ResourceLimiter.growths g.H.HostBody.has g.K.CallHooks.hooks g.B.DeadlineBehaviour.behaves
    g.E.EpochSource.readings g.H.HostBody.steps) c.args.validated.now c.args.imports.now (machine_in p) c.args.host.now c.requires.fit
    (store_of p.id p.engine p.flags p.program c.raise_counts.new.held) c.args.store.now.host_data c.args.epochs.now
    c.in_err-raise_counts.field-0.0
    (rw c.decl.ensures.value at
    (c.in_err-raise_counts.ensures (base_of p.id (engine_parts p.engine) p.flags) p.program)) c.from_residual.result
    c.args.store.now.turns (failed.1 ∙ ap Err failed.2) c.requires.fresh

pub returns-in_err-raise_counts-clause-short : goal.returns-in_err-raise_counts-clause-short
returns-in_err-raise_counts-clause-short g c =
    let p = c.args.parts.now in
    let failed = err_from_is_err_and c.from_residual.result c.from_residual.ensures.1 in
    λ short. absurd (past_is_told c.from_residual.result (counted (machine_in p) c.args.validated.now)
    (store_of p.id p.engine p.flags p.program c.raise_counts.new.held) c.in_err-raise_counts.field-0.0
    (rw c.decl.ensures.value at
    (c.in_err-raise_counts.ensures (base_of p.id (engine_parts p.engine) p.flags) p.program))
    (failed.1 ∙ ap Err failed.2) short)

pub returns-in_err-raise_counts-clause-formed : goal.returns-in_err-raise_counts-clause-formed
returns-in_err-raise_counts-clause-formed g c =
    let p = c.args.parts.now in
    counts_formed (machine_in p) (store_of p.id p.engine p.flags p.program c.raise_counts.new.held)
    c.args.validated.now (Err c.in_err-raise_counts.field-0.0) c.requires.formed
    (rw c.decl.ensures.value at
    (c.in_err-raise_counts.ensures (base_of p.id (engine_parts p.engine) p.flags) p.program))

pub returns-in_err-grow_all-clause-instantiated : goal.returns-in_err-grow_all-clause-instantiated
returns-in_err-grow_all-clause-instantiated g c =
    let p = c.args.parts.now in
    let failed = err_from_is_err_and c.from_residual-in_err-grow_all.result c.from_residual-in_err-grow_all.ensures.1 in
    let m : Machine = store_of p.id p.engine p.flags p.program c.raise_counts.new.held in
    denied_told (hosts.asked g.T.ResourceLimiter.growths g.H.HostBody.has g.K.CallHooks.hooks g.B.DeadlineBehaviour.behaves
    g.E.EpochSource.readings g.H.HostBody.steps) c.args.validated.now c.args.imports.now (machine_in p) c.args.host.now c.requires.fit m
    (rw c.decl.ensures.value at
    (c.in_ok-raise_counts.ensures (base_of p.id (engine_parts p.engine) p.flags) p.program)) c.args.store.now
    c.grow_all.new.store c.requires.fresh c.args.epochs.now c.turns-most.result c.turns-most.ensures.value
    c.in_err-grow_all.ensures.within c.in_err-grow_all.field-0.0
    (subst (λ (d : ModuleDecl). Comes g.T.ResourceLimiter.growths m (growing_all d) c.turns-most.result c.args.store.now
    (Err c.in_err-grow_all.field-0.0) c.grow_all.new.store) c.decl-2.ensures.value
    (c.in_err-grow_all.ensures.comes m refl)) c.from_residual-in_err-grow_all.result
    (failed.1 ∙ ap Err failed.2)

pub returns-in_err-grow_all-clause-short : goal.returns-in_err-grow_all-clause-short
returns-in_err-grow_all-clause-short g c =
    let failed = err_from_is_err_and c.from_residual-in_err-grow_all.result c.from_residual-in_err-grow_all.ensures.1 in
    λ short. absurd (passed_told c.in_err-grow_all.field-0.0 c.from_residual-in_err-grow_all.result
    (failed.1 ∙ ap Err failed.2) c.in_err-grow_all.ensures.told short)

pub returns-in_err-grow_all-clause-formed : goal.returns-in_err-grow_all-clause-formed
returns-in_err-grow_all-clause-formed g c =
    let p = c.args.parts.now in
    counts_formed (machine_in p) (store_of p.id p.engine p.flags p.program c.raise_counts.new.held)
    c.args.validated.now (Ok tt) c.requires.formed
    (rw c.decl.ensures.value at
    (c.in_ok-raise_counts.ensures (base_of p.id (engine_parts p.engine) p.flags) p.program))

pub make-ended-requires-clause-ready : goal.make-ended-requires-clause-ready
make-ended-requires-clause-ready g c =
    let p = c.args.parts.now in
    let m : Machine = store_of p.id p.engine p.flags p.program c.raise_counts.new.held in
    record {
      before = machine_in p;
      formed = c.requires.formed;
      module_is = c.requires.module_is;
      fits = c.requires.fit;
      within =
          rw c.decl.ensures.value at
          (c.in_ok-raise_counts.ensures (base_of p.id (engine_parts p.engine) p.flags) p.program);
      granted = rw c.decl-2.ensures.value at (c.in_ok-grow_all.ensures.granted m refl);
    }

pub make-ended-requires-clause-id : goal.make-ended-requires-clause-id
make-ended-requires-clause-id g c = c.requires.id ∙ sym (ap (λ (m : Machine). m.id) c.in_ok-grow_all.ensures.machine)

pub make-ended-requires-clause-engine : goal.make-ended-requires-clause-engine
make-ended-requires-clause-engine g c =
    c.requires.engine ∙ sym (ap (λ (m : Machine). m.engine) c.in_ok-grow_all.ensures.machine)

pub make-ended-requires-clause-limiter : goal.make-ended-requires-clause-limiter
make-ended-requires-clause-limiter g c =
    c.requires.limiter ∙ sym (ap (λ (m : Machine). m.is_limited) c.in_ok-grow_all.ensures.machine)

pub make-ended-requires-clause-hook : goal.make-ended-requires-clause-hook
make-ended-requires-clause-hook g c =
    c.requires.hook ∙ sym (ap (λ (m : Machine). m.is_hooked) c.in_ok-grow_all.ensures.machine)

pub make-ended-requires-clause-behaviour : goal.make-ended-requires-clause-behaviour
make-ended-requires-clause-behaviour g c =
    c.requires.behaviour ∙ sym (ap (λ (m : Machine). m.is_behaving) c.in_ok-grow_all.ensures.machine)

pub returns-clause-instantiated : goal.returns-clause-instantiated
returns-clause-instantiated g c =
    let p = c.args.parts.now in
    let m : Machine = store_of p.id p.engine p.flags p.program c.raise_counts.new.held in
    let within : counted (machine_in p) c.args.validated.now ≡ Within m =
    rw c.decl.ensures.value at
    (c.in_ok-raise_counts.ensures (base_of p.id (engine_parts p.engine) p.flags) p.program) in
    let ready : IsReady m c.args.validated.now c.args.imports.now = record {
      before = machine_in p;
      formed = c.requires.formed;
      module_is = c.requires.module_is;
      fits = c.requires.fit;
      within = within;
      granted = rw c.decl-2.ensures.value at (c.in_ok-grow_all.ensures.granted m refl);
    } in
    let new : StoreParts _ = c.grow_all.new.store in
    made_told (hosts.asked g.T.ResourceLimiter.growths g.H.HostBody.has g.K.CallHooks.hooks g.B.DeadlineBehaviour.behaves
    g.E.EpochSource.readings g.H.HostBody.steps) c.args.validated.now c.args.imports.now (machine_in p) c.args.host.now c.requires.fit m within
    c.args.store.now new c.requires.fresh c.args.epochs.now c.turns-most.result c.turns-most.ensures.value
    c.in_ok-grow_all.ensures.within c.requires.formed ready refl refl
    (rw c.decl-2.ensures.value at (c.in_ok-grow_all.ensures.comes m refl)) (c.turns-most.result - c.turns.result)
    (ap (λ (k : ℕ). c.turns-most.result - k) c.turns.ensures)
    (surrounded (store_in c.make-ended.new.parts c.make-ended.result.turns c.make-ended.new.store.host_data)
    c.make-ended.new.host c.make-ended.new.epochs) c.make-ended.result.instance c.make-ended.ensures.makes c.count_turns.new.store.turns
    c.count_turns.new.store.host_data
    (ap (λ (s : StoreParts _). s.turns) c.count_turns.ensures
    ∙ ap (λ (s : StoreParts _). s.turns + c.make-ended.result.turns) c.make-ended.ensures.store)
    (ap (λ (s : StoreParts _). s.host_data) c.count_turns.ensures)

pub returns-clause-short : goal.returns-clause-short
returns-clause-short g c =
    let p = c.args.parts.now in
    let m : Machine = store_of p.id p.engine p.flags p.program c.raise_counts.new.held in
    let within : counted (machine_in p) c.args.validated.now ≡ Within m =
    rw c.decl.ensures.value at
    (c.in_ok-raise_counts.ensures (base_of p.id (engine_parts p.engine) p.flags) p.program) in
    let old : StoreParts _ = c.args.store.now in
    let new : StoreParts _ = c.grow_all.new.store in
    let asks : Reaches g.T.ResourceLimiter.growths m (growing_all c.args.validated.now) (λ go. go) old new =
    rw c.decl-2.ensures.value at (c.in_ok-grow_all.ensures.comes m refl) in
    λ short.
    let some : 1 ≤ c.turns-most.result - c.turns.result = c.make-ended.ensures.left short in
    making_short (asked g.T.ResourceLimiter.growths g.H.HostBody.has g.K.CallHooks.hooks g.B.DeadlineBehaviour.behaves
    g.E.EpochSource.readings g.H.HostBody.steps) c.args.validated.now c.args.imports.now (machine_in p) m
    c.args.host.now c.args.epochs.now old new
    (making_due (asked g.T.ResourceLimiter.growths g.H.HostBody.has g.K.CallHooks.hooks g.B.DeadlineBehaviour.behaves
    g.E.EpochSource.readings g.H.HostBody.steps) c.args.validated.now c.args.imports.now (machine_in p) m
    c.args.host.now c.args.epochs.now old new c.requires.fit within c.requires.fresh g.T.ResourceLimiter.growths asks
    (chain_wide (hosts.asked g.T.ResourceLimiter.growths g.H.HostBody.has g.K.CallHooks.hooks g.B.DeadlineBehaviour.behaves
    g.E.EpochSource.readings g.H.HostBody.steps) c.args.host.now c.args.epochs.now old.host_data new.host_data
    asks.heard asks.chained) (omega (arith, some, c.turns.ensures, c.turns-most.ensures.value)))
    (surrounded (store_in c.make-ended.new.parts c.make-ended.result.turns c.make-ended.new.store.host_data)
    c.make-ended.new.host c.make-ended.new.epochs) (c.make-ended.ensures.short short) c.count_turns.new.store.turns
    c.count_turns.new.store.host_data
    (ap (λ (s : StoreParts _). s.turns) c.count_turns.ensures
    ∙ ap (λ (s : StoreParts _). s.turns + c.make-ended.result.turns) c.make-ended.ensures.store)
    (ap (λ (s : StoreParts _). s.host_data) c.count_turns.ensures)
