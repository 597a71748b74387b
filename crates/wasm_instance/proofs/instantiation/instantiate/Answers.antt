use Rattle.std.proofs.Common.{sym, ap, ◌∙◌}
use Rattle.std.specs.Prelude.{Ok, Err}
use Rattle.std.proofs.lemmas.Result.{err_from_is_err_and}
use Rattle.wasm_syntax.specs.declared.declarations.ModuleDecl.{ModuleDecl}
use Rattle.spec_machine.specs.Machine.{Machine}
use Rattle.spec_execution.specs.Instantiation.{imports_fit}
use Rattle.law_store.proofs.Objects.{keeps_objects}
use Rattle.wasm_store.specs.Stores.{StoreParts}
use Rattle.wasm_call.specs.Invoking.{machine_in, store_in}
use Rattle.code_hosts.specs.Asked as hosts
use Rattle.wasm_call.specs.Outside.{asked, surrounded}
use Rattle.wasm_instance.proofs.CauseLemmas.{instantiated_by_counts}
use Rattle.wasm_instance.proofs.RefusalLemmas.{instantiation_due}
use Rattle.wasm_instance.proofs.BegunLemmas.{unfit_ends, store_ends, parts_are, put_back}
use Rattle.wasm_instance.proofs.AskingLemmas.{passed_told}
use Rattle.wasm_instance.proofs.ConfinedLemmas.{making_confined}
use Rattle.wasm_instance.proofs.CheckLemmas.{never_short, fit_in, due_told, none_told}
use Rattle.wasm_instance.proofs.DueLemmas.{short_on}
use Rattle.wasm_instance.proofs.instantiation.instantiate.Goals as goal

pub returns-in_err-check_imports-clause-instantiated : goal.returns-in_err-check_imports-clause-instantiated
returns-in_err-check_imports-clause-instantiated g c =
    let failed = err_from_is_err_and c.from_residual.result c.from_residual.ensures.1 in
    unfit_ends (hosts.asked g.T.ResourceLimiter.growths g.H.HostBody.has g.K.CallHooks.hooks g.B.DeadlineBehaviour.behaves
    g.E.EpochSource.readings g.H.HostBody.steps) c.args.validated.now c.args.imports.now
    (surrounded c.args.store.now c.args.host.now c.args.epochs.now) (surrounded c.begin_turns.new.store c.args.host.now c.args.epochs.now)
    c.in_err-check_imports.field-0.0
    (fit_in c.objects.result.now c.args.store.now.machine c.decl.result.now c.args.validated.now c.args.imports.now
    (c.objects.ensures ∙ ap (λ (s : StoreParts _). s.machine) c.begin_turns.ensures.begun) c.decl.ensures.value
    (Err c.in_err-check_imports.field-0.0) c.in_err-check_imports.ensures) c.from_residual.result
    (failed.1 ∙ ap Err failed.2)
    (ap (λ (s : StoreParts _). surrounded s c.args.host.now c.args.epochs.now) c.begin_turns.ensures.begun)

pub returns-in_err-check_imports-clause-refused : goal.returns-in_err-check_imports-clause-refused
returns-in_err-check_imports-clause-refused g c =
    let failed = err_from_is_err_and c.from_residual.result c.from_residual.ensures.1 in
    due_told (imports_fit c.args.store.now.machine c.args.validated.now c.args.imports.now)
    c.in_err-check_imports.field-0.0 c.from_residual.result
    (fit_in c.objects.result.now c.args.store.now.machine c.decl.result.now c.args.validated.now c.args.imports.now
    (c.objects.ensures ∙ ap (λ (s : StoreParts _). s.machine) c.begin_turns.ensures.begun) c.decl.ensures.value
    (Err c.in_err-check_imports.field-0.0) c.in_err-check_imports.ensures)
    (failed.1 ∙ ap Err failed.2)

pub returns-in_err-check_imports-clause-short : goal.returns-in_err-check_imports-clause-short
returns-in_err-check_imports-clause-short g c =
    let failed = err_from_is_err_and c.from_residual.result c.from_residual.ensures.1 in
    λ short. absurd (passed_told c.in_err-check_imports.field-0.0 c.from_residual.result (failed.1 ∙ ap Err failed.2)
    (λ none. never_short c.objects.result.now c.decl.result.now c.args.imports.now
    (sym c.in_err-check_imports.ensures ∙ none)) short)

pub instantiate_in-instance-requires-clause-fit : goal.instantiate_in-instance-requires-clause-fit
instantiate_in-instance-requires-clause-fit g c =
    ap (λ (k : Machine). imports_fit k c.args.validated.now c.args.imports.now)
    (c.into_parts-taken.ensures.whole ∙ c.take_objects.ensures.taken ∙ sym c.objects.ensures)
    ∙ ap (λ (y : ModuleDecl). imports_fit c.objects.result.now y c.args.imports.now) (sym c.decl.ensures.value)
    ∙ sym c.in_ok-check_imports.ensures

-- the store has the id and the engine of its objects, which were taken out of it, and asks whom they say
pub instantiate_in-instance-requires-clause-id : goal.instantiate_in-instance-requires-clause-id
instantiate_in-instance-requires-clause-id g c =
    ap (λ (m : Machine). m.id) (c.into_parts-taken.ensures.whole ∙ c.take_objects.ensures.taken)
    ∙ sym (ap (λ (s : StoreParts _). s.machine.id) c.take_objects.ensures.left)

pub instantiate_in-instance-requires-clause-engine : goal.instantiate_in-instance-requires-clause-engine
instantiate_in-instance-requires-clause-engine g c =
    ap (λ (m : Machine). m.engine) (c.into_parts-taken.ensures.whole ∙ c.take_objects.ensures.taken)
    ∙ sym (ap (λ (s : StoreParts _). s.machine.engine) c.take_objects.ensures.left)

pub instantiate_in-instance-requires-clause-limiter : goal.instantiate_in-instance-requires-clause-limiter
instantiate_in-instance-requires-clause-limiter g c =
    ap (λ (m : Machine). m.is_limited) (c.into_parts-taken.ensures.whole ∙ c.take_objects.ensures.taken)
    ∙ sym (ap (λ (s : StoreParts _). s.machine.is_limited) c.take_objects.ensures.left)

pub instantiate_in-instance-requires-clause-hook : goal.instantiate_in-instance-requires-clause-hook
instantiate_in-instance-requires-clause-hook g c =
    ap (λ (m : Machine). m.is_hooked) (c.into_parts-taken.ensures.whole ∙ c.take_objects.ensures.taken)
    ∙ sym (ap (λ (s : StoreParts _). s.machine.is_hooked) c.take_objects.ensures.left)

pub instantiate_in-instance-requires-clause-behaviour : goal.instantiate_in-instance-requires-clause-behaviour
instantiate_in-instance-requires-clause-behaviour g c =
    ap (λ (m : Machine). m.is_behaving) (c.into_parts-taken.ensures.whole ∙ c.take_objects.ensures.taken)
    ∙ sym (ap (λ (s : StoreParts _). s.machine.is_behaving) c.take_objects.ensures.left)

pub instantiate_in-instance-requires-clause-fresh : goal.instantiate_in-instance-requires-clause-fresh
instantiate_in-instance-requires-clause-fresh g c =
    ap (λ (s : StoreParts _). s.turns) c.take_objects.ensures.left
    ∙ ap (λ (s : StoreParts _). s.turns) c.begin_turns.ensures.begun

pub returns-clause-instantiated : goal.returns-clause-instantiated
returns-clause-instantiated g c =
    let p = c.into_parts-taken.result in
    let q = c.instantiate_in-instance.new.parts in
    let mid : StoreParts _ = c.instantiate_in-instance.new.store in
    store_ends (hosts.asked g.T.ResourceLimiter.growths g.H.HostBody.has g.K.CallHooks.hooks g.B.DeadlineBehaviour.behaves
    g.E.EpochSource.readings g.H.HostBody.steps) c.args.validated.now c.args.imports.now c.args.host.now
    c.args.store.now
    (store_in p 0 c.take_objects.new.store.host_data) c.put_objects.new.store c.args.epochs.now
    (surrounded (store_in q mid.turns mid.host_data) c.instantiate_in-instance.new.host c.instantiate_in-instance.new.epochs)
    c.instantiate_in-instance.result
    (parts_are c.args.store.now (machine_in p) c.take_objects.new.store.host_data
    (c.into_parts-taken.ensures.whole ∙ c.take_objects.ensures.taken
    ∙ ap (λ (s : StoreParts _). s.machine) c.begin_turns.ensures.begun)
    (ap (λ (s : StoreParts _). s.host_data) c.take_objects.ensures.left
    ∙ ap (λ (s : StoreParts _). s.host_data) c.begin_turns.ensures.begun))
    (ap (λ (s : StoreParts _). surrounded s c.instantiate_in-instance.new.host c.instantiate_in-instance.new.epochs)
    (put_back c.put_objects.new.store mid (machine_in q) c.from_parts.result c.put_objects.ensures
    c.from_parts.ensures))
    c.instantiate_in-instance.ensures.instantiated

pub returns-clause-refused : goal.returns-clause-refused
returns-clause-refused g c =
    none_told (imports_fit c.args.store.now.machine c.args.validated.now c.args.imports.now)
    c.instantiate_in-instance.result
    (fit_in c.objects.result.now c.args.store.now.machine c.decl.result.now c.args.validated.now c.args.imports.now
    (c.objects.ensures ∙ ap (λ (s : StoreParts _). s.machine) c.begin_turns.ensures.begun) c.decl.ensures.value
    (Ok tt) c.in_ok-check_imports.ensures)

pub returns-clause-short : goal.returns-clause-short
returns-clause-short g c =
    let p = c.into_parts-taken.result in
    let q = c.instantiate_in-instance.new.parts in
    let mid : StoreParts _ = c.instantiate_in-instance.new.store in
    λ short. short_on (asked g.T.ResourceLimiter.growths g.H.HostBody.has g.K.CallHooks.hooks g.B.DeadlineBehaviour.behaves
    g.E.EpochSource.readings g.H.HostBody.steps) c.args.validated.now c.args.imports.now c.args.host.now c.args.epochs.now
    c.args.store.now (store_in p 0 c.take_objects.new.store.host_data) c.put_objects.new.store
    (surrounded (store_in q mid.turns mid.host_data) c.instantiate_in-instance.new.host c.instantiate_in-instance.new.epochs)
    (parts_are c.args.store.now (machine_in p) c.take_objects.new.store.host_data
    (c.into_parts-taken.ensures.whole ∙ c.take_objects.ensures.taken
    ∙ ap (λ (s : StoreParts _). s.machine) c.begin_turns.ensures.begun)
    (ap (λ (s : StoreParts _). s.host_data) c.take_objects.ensures.left
    ∙ ap (λ (s : StoreParts _). s.host_data) c.begin_turns.ensures.begun))
    (ap (λ (s : StoreParts _). surrounded s c.instantiate_in-instance.new.host c.instantiate_in-instance.new.epochs)
    (put_back c.put_objects.new.store mid (machine_in q) c.from_parts.result c.put_objects.ensures
    c.from_parts.ensures)) (c.instantiate_in-instance.ensures.short short)

pub returns-in_err-check_imports-clause-causes : goal.returns-in_err-check_imports-clause-causes
returns-in_err-check_imports-clause-causes g c =
    instantiated_by_counts (hosts.asked g.T.ResourceLimiter.growths g.H.HostBody.has g.K.CallHooks.hooks g.B.DeadlineBehaviour.behaves
    g.E.EpochSource.readings g.H.HostBody.steps) _ _ _ _ _ _ c.law_failures_are_counted.ensures c.args.validated.now
    c.args.imports.now (surrounded c.args.store.now c.args.host.now c.args.epochs.now)
    (surrounded c.begin_turns.new.store c.args.host.now c.args.epochs.now) c.from_residual.result
    (returns-in_err-check_imports-clause-instantiated g c)

pub returns-clause-causes : goal.returns-clause-causes
returns-clause-causes g c =
    instantiated_by_counts (hosts.asked g.T.ResourceLimiter.growths g.H.HostBody.has g.K.CallHooks.hooks g.B.DeadlineBehaviour.behaves
    g.E.EpochSource.readings g.H.HostBody.steps) _ _ _ _ _ _ c.law_failures_are_counted.ensures c.args.validated.now
    c.args.imports.now (surrounded c.args.store.now c.args.host.now c.args.epochs.now)
    (surrounded c.put_objects.new.store c.instantiate_in-instance.new.host c.instantiate_in-instance.new.epochs)
    c.instantiate_in-instance.result (returns-clause-instantiated g c)

pub returns-in_err-check_imports-clause-due : goal.returns-in_err-check_imports-clause-due
returns-in_err-check_imports-clause-due g c =
    instantiation_due _ c.args.validated.now c.args.imports.now
    (surrounded c.args.store.now c.args.host.now c.args.epochs.now)
    (surrounded c.begin_turns.new.store c.args.host.now c.args.epochs.now) c.from_residual.result
    (returns-in_err-check_imports-clause-instantiated g c)

pub returns-clause-due : goal.returns-clause-due
returns-clause-due g c =
    instantiation_due _ c.args.validated.now c.args.imports.now
    (surrounded c.args.store.now c.args.host.now c.args.epochs.now)
    (surrounded c.put_objects.new.store c.instantiate_in-instance.new.host c.instantiate_in-instance.new.epochs)
    c.instantiate_in-instance.result (returns-clause-instantiated g c)

pub returns-in_err-check_imports-clause-confined : goal.returns-in_err-check_imports-clause-confined
returns-in_err-check_imports-clause-confined g c =
    making_confined (hosts.asked g.T.ResourceLimiter.growths g.H.HostBody.has g.K.CallHooks.hooks g.B.DeadlineBehaviour.behaves
    g.E.EpochSource.readings g.H.HostBody.steps) (surrounded c.args.store.now c.args.host.now c.args.epochs.now)
    (surrounded c.begin_turns.new.store c.args.host.now c.args.epochs.now) c.keeps_well_formed.ensures c.args.validated.now
    c.args.imports.now c.decl.ensures.is_module c.from_residual.result (returns-in_err-check_imports-clause-instantiated g c)

pub returns-in_err-check_imports-clause-kept : goal.returns-in_err-check_imports-clause-kept
returns-in_err-check_imports-clause-kept g c =
    keeps_objects c.args.store.now.machine c.begin_turns.new.store.machine
    (returns-in_err-check_imports-clause-confined g c).later

pub returns-clause-confined : goal.returns-clause-confined
returns-clause-confined g c =
    making_confined (hosts.asked g.T.ResourceLimiter.growths g.H.HostBody.has g.K.CallHooks.hooks g.B.DeadlineBehaviour.behaves
    g.E.EpochSource.readings g.H.HostBody.steps) (surrounded c.args.store.now c.args.host.now c.args.epochs.now)
    (surrounded c.put_objects.new.store c.instantiate_in-instance.new.host c.instantiate_in-instance.new.epochs)
    c.keeps_well_formed.ensures c.args.validated.now c.args.imports.now c.decl.ensures.is_module c.instantiate_in-instance.result
    (returns-clause-instantiated g c)

pub returns-clause-kept : goal.returns-clause-kept
returns-clause-kept g c =
    keeps_objects c.args.store.now.machine c.put_objects.new.store.machine (returns-clause-confined g c).later
