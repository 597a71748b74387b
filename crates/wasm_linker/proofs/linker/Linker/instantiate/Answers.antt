use Rattle.std.proofs.Common.{◌≡◌, ◌∙◌, refl, ap, sym, subst, true≢false, List, Ok, Err, inl, inr}
use Rattle.wasm_values.specs.declared.externals.Extern.{Extern}
use Rattle.wasm_values.specs.declared.handles.Instance.{Instance}
use Rattle.linker_map.specs.Imports.{first_unknown, resolved}
use Rattle.code_hosts.specs.Asked.{outside_by}
use Rattle.law_causes.specs.Tallies.{RefusedByCounts}
use Rattle.law_store.specs.Laws.{KeepsObjects}
use Rattle.law_store.proofs.Objects.{objects_stay_own}
use Rattle.wasm_store.specs.Stores.{StoreParts}
use Rattle.wasm_call.specs.Outside.{asked, surrounded}
use Rattle.wasm_call.proofs.CommandLemmas.{begun_around}
use Rattle.wasm_instance.specs.Instances.{MakingShort}
use Rattle.wasm_linker.specs.InPlace.{fit_in_place, told_unlisted}
use Rattle.wasm_linker.specs.Linking.{MakesInVain}
use Rattle.wasm_linker.proofs.ConfinedLemmas.{listed_confined, unchanged_confined}
use Rattle.wasm_linker.proofs.LinkLemmas.{known, same_items, ok_names, ok_names_none, told_names_none, fault_names, none_named, short_names_none, told_short, listed_links, listed_due, listed_causes, named_causes}
use Rattle.wasm_linker.proofs.UnlistedLemmas.{unlisted_links, unlisted_due, unlisted_causes, unlisted_names}
use Rattle.wasm_linker.proofs.linker.Linker.instantiate.Goals as goal

pub returns-in-Ok-new-clause-unknown : goal.returns-in-Ok-new-clause-unknown
returns-in-Ok-new-clause-unknown g c =
    ok_names c.in-Ok.items (Ok c.in-Ok-new.instance) (first_unknown c.args.self.now c.args.module.now.imports)
    (λ i. ok_names_none c.in-Ok-new.instance i) c.in-Ok.ensures.unknown

pub returns-in-Ok-new-clause-untouched : goal.returns-in-Ok-new-clause-untouched
returns-in-Ok-new-clause-untouched g c =
    none_named (Ok c.in-Ok.items) (first_unknown c.args.self.now c.args.module.now.imports)
    (λ i. ok_names_none c.in-Ok.items i) c.in-Ok.ensures.unknown

pub returns-in-Ok-new-clause-linked : goal.returns-in-Ok-new-clause-linked
returns-in-Ok-new-clause-linked g c =
    λ items e. listed_links (asked g.T.ResourceLimiter.growths g.H.HostBody.has g.K.CallHooks.hooks
    g.B.DeadlineBehaviour.behaves g.E.EpochSource.readings g.H.HostBody.steps) c.args.module.now c.as_slice.result.now items
    (surrounded c.args.store.now c.args.host.now c.args.epochs.now)
    (surrounded c.new.new.store c.new.new.host c.new.new.epochs) (Ok c.in-Ok-new.instance) (Ok c.in-Ok-new.instance) refl
    (c.as_slice.ensures
    ∙ same_items (resolved c.args.self.now c.args.module.now.imports) c.in-Ok.items items c.in-Ok.ensures.found e)
    c.in-Ok-new.ensures.instantiated

pub returns-in-Ok-new-clause-refused : goal.returns-in-Ok-new-clause-refused
returns-in-Ok-new-clause-refused g c =
    λ items e. listed_due {A = Instance} c.args.store.now.machine c.args.module.now c.as_slice.result.now items
    (Ok c.in-Ok-new.instance) (Ok c.in-Ok-new.instance) refl
    (c.as_slice.ensures
    ∙ same_items (resolved c.args.self.now c.args.module.now.imports) c.in-Ok.items items c.in-Ok.ensures.found e)
    c.in-Ok-new.ensures.refused

pub returns-in-Ok-clause-refused : goal.returns-in-Ok-clause-refused
returns-in-Ok-clause-refused g c =
    λ items e. listed_due {A = Instance} c.args.store.now.machine c.args.module.now c.as_slice.result.now items
    (Err c.in-Err-new.why) (Err c.told_fault.result) (ap Err c.told_fault.ensures)
    (c.as_slice.ensures
    ∙ same_items (resolved c.args.self.now c.args.module.now.imports) c.in-Ok.items items c.in-Ok.ensures.found e)
    c.in-Err-new.ensures.refused

pub returns-in-Ok-clause-causes : goal.returns-in-Ok-clause-causes
returns-in-Ok-clause-causes g c =
    listed_causes
    (RefusedByCounts g.T.ResourceLimiter.denials g.T.ResourceLimiter.limiter_faults g.T.HostData.hook_faults
    g.T.HostData.behaviour_faults g.E.EpochSource.epoch_faults g.H.HostBody.host_faults
    (outside_by c.args.store.now.host_data c.args.host.now c.args.epochs.now)
    (outside_by c.new.new.store.host_data c.new.new.host c.new.new.epochs)
    (MakesInVain c.args.store.now.machine c.args.module.now))
    c.in-Err-new.why c.told_fault.result c.told_fault.ensures c.in-Err-new.ensures.causes

pub returns-in-Ok-clause-linked : goal.returns-in-Ok-clause-linked
returns-in-Ok-clause-linked g c =
    λ items e. listed_links (asked g.T.ResourceLimiter.growths g.H.HostBody.has g.K.CallHooks.hooks
    g.B.DeadlineBehaviour.behaves g.E.EpochSource.readings g.H.HostBody.steps) c.args.module.now c.as_slice.result.now items
    (surrounded c.args.store.now c.args.host.now c.args.epochs.now)
    (surrounded c.new.new.store c.new.new.host c.new.new.epochs) (Err c.in-Err-new.why) (Err c.told_fault.result)
    (ap Err c.told_fault.ensures)
    (c.as_slice.ensures
    ∙ same_items (resolved c.args.self.now c.args.module.now.imports) c.in-Ok.items items c.in-Ok.ensures.found e)
    c.in-Err-new.ensures.instantiated

pub returns-in-Ok-clause-unknown : goal.returns-in-Ok-clause-unknown
returns-in-Ok-clause-unknown g c =
    ok_names c.in-Ok.items (Err c.told_fault.result) (first_unknown c.args.self.now c.args.module.now.imports)
    (λ i. told_names_none c.in-Err-new.why c.told_fault.result i c.told_fault.ensures) c.in-Ok.ensures.unknown

pub returns-in-Ok-clause-untouched : goal.returns-in-Ok-clause-untouched
returns-in-Ok-clause-untouched g c =
    none_named (Ok c.in-Ok.items) (first_unknown c.args.self.now c.args.module.now.imports)
    (λ i. ok_names_none c.in-Ok.items i) c.in-Ok.ensures.unknown

pub returns-in-Ok-clause-short : goal.returns-in-Ok-clause-short
returns-in-Ok-clause-short g c =
    λ items e short. inr (subst (λ (xs : List Extern).
    MakingShort (asked g.T.ResourceLimiter.growths g.H.HostBody.has g.K.CallHooks.hooks g.B.DeadlineBehaviour.behaves
    g.E.EpochSource.readings g.H.HostBody.steps) c.args.module.now xs
    (surrounded c.args.store.now c.args.host.now c.args.epochs.now)
    (surrounded c.new.new.store c.new.new.host c.new.new.epochs))
    (c.as_slice.ensures
    ∙ same_items (resolved c.args.self.now c.args.module.now.imports) c.in-Ok.items items c.in-Ok.ensures.found e)
    (c.in-Err-new.ensures.short (told_short c.in-Err-new.why c.told_fault.result c.told_fault.ensures short)))

pub returns-then-is_short-clause-short : goal.returns-then-is_short-clause-short
returns-then-is_short-clause-short g c =
    λ items e short.
    inl (begun_around c.args.host.now c.args.epochs.now c.args.store.now c.begin_turns.new.store c.begin_turns.ensures.begun)

pub returns-then-is_short-clause-unknown : goal.returns-then-is_short-clause-unknown
returns-then-is_short-clause-unknown g c =
    unlisted_names c.in-Err.fault c.unlisted.result
    (fit_in_place c.begin_turns.new.store.machine c.args.module.now c.args.self.now)
    (first_unknown c.args.self.now c.args.module.now.imports) (c.is_short.ensures.0 c.if-is_short.true)
    c.unlisted.ensures c.in-Err.ensures.unknown

pub returns-then-is_short-clause-untouched : goal.returns-then-is_short-clause-untouched
returns-then-is_short-clause-untouched g c =
    none_named (Err c.in-Err.fault) (first_unknown c.args.self.now c.args.module.now.imports)
    (λ i. short_names_none c.in-Err.fault i (c.is_short.ensures.0 c.if-is_short.true)) c.in-Err.ensures.unknown

pub returns-then-is_short-clause-refused : goal.returns-then-is_short-clause-refused
returns-then-is_short-clause-refused g c =
    λ items e. unlisted_due c.args.store.now.machine c.args.module.now c.args.self.now c.unlisted.result
    (c.unlisted.ensures
    ∙ ap (λ (s : StoreParts _). told_unlisted (fit_in_place s.machine c.args.module.now c.args.self.now))
    c.begin_turns.ensures.begun)
    items e Instance

pub returns-then-is_short-clause-causes : goal.returns-then-is_short-clause-causes
returns-then-is_short-clause-causes g c =
    unlisted_causes c.begin_turns.new.store.machine c.args.module.now c.args.self.now c.unlisted.result
    c.unlisted.ensures
    (RefusedByCounts g.T.ResourceLimiter.denials g.T.ResourceLimiter.limiter_faults g.T.HostData.hook_faults
    g.T.HostData.behaviour_faults g.E.EpochSource.epoch_faults g.H.HostBody.host_faults
    (outside_by c.args.store.now.host_data c.args.host.now c.args.epochs.now)
    (outside_by c.begin_turns.new.store.host_data c.args.host.now c.args.epochs.now)
    (MakesInVain c.args.store.now.machine c.args.module.now))
    (record { store = tt; engine = tt; count = tt; type = λ n. tt })

pub returns-then-is_short-clause-linked : goal.returns-then-is_short-clause-linked
returns-then-is_short-clause-linked g c =
    λ items e. unlisted_links (asked g.T.ResourceLimiter.growths g.H.HostBody.has g.K.CallHooks.hooks
    g.B.DeadlineBehaviour.behaves g.E.EpochSource.readings g.H.HostBody.steps) c.args.module.now items
    (surrounded c.args.store.now c.args.host.now c.args.epochs.now) c.args.self.now
    (surrounded c.begin_turns.new.store c.args.host.now c.args.epochs.now) c.unlisted.result
    (begun_around c.args.host.now c.args.epochs.now c.args.store.now c.begin_turns.new.store c.begin_turns.ensures.begun)
    (c.unlisted.ensures
    ∙ ap (λ (s : StoreParts _). told_unlisted (fit_in_place s.machine c.args.module.now c.args.self.now))
    c.begin_turns.ensures.begun)
    e

pub returns-clause-unknown : goal.returns-clause-unknown
returns-clause-unknown g c =
    fault_names c.in-Err.fault (first_unknown c.args.self.now c.args.module.now.imports) c.in-Err.ensures.unknown

pub returns-clause-linked : goal.returns-clause-linked
returns-clause-linked g c =
    λ items e. absurd (true≢false
    (sym (c.is_short.ensures.1 (c.in-Err.ensures.short (known c.args.self.now c.args.module.now.imports items e)))
    ∙ c.if-is_short.false))

pub returns-clause-refused : goal.returns-clause-refused
returns-clause-refused g c =
    λ items e. absurd (true≢false
    (sym (c.is_short.ensures.1 (c.in-Err.ensures.short (known c.args.self.now c.args.module.now.imports items e)))
    ∙ c.if-is_short.false))

pub returns-clause-causes : goal.returns-clause-causes
returns-clause-causes g c =
    named_causes
    (RefusedByCounts g.T.ResourceLimiter.denials g.T.ResourceLimiter.limiter_faults g.T.HostData.hook_faults
    g.T.HostData.behaviour_faults g.E.EpochSource.epoch_faults g.H.HostBody.host_faults
    (outside_by c.args.store.now.host_data c.args.host.now c.args.epochs.now)
    (outside_by c.args.store.now.host_data c.args.host.now c.args.epochs.now)
    (MakesInVain c.args.store.now.machine c.args.module.now))
    c.in-Err.fault (first_unknown c.args.self.now c.args.module.now.imports) c.in-Err.ensures.short
    c.in-Err.ensures.unknown

pub returns-in-Ok-new-clause-confined : goal.returns-in-Ok-new-clause-confined
returns-in-Ok-new-clause-confined g c =
    λ items e. listed_confined (asked g.T.ResourceLimiter.growths g.H.HostBody.has g.K.CallHooks.hooks
    g.B.DeadlineBehaviour.behaves g.E.EpochSource.readings g.H.HostBody.steps) c.args.module.now items
    (surrounded c.args.store.now c.args.host.now c.args.epochs.now)
    (surrounded c.new.new.store c.new.new.host c.new.new.epochs) (Ok c.in-Ok-new.instance) c.as_slice.result.now
    (Ok c.in-Ok-new.instance) refl
    (c.as_slice.ensures
    ∙ same_items (resolved c.args.self.now c.args.module.now.imports) c.in-Ok.items items c.in-Ok.ensures.found e)
    c.in-Ok-new.ensures.confined

pub returns-in-Ok-clause-confined : goal.returns-in-Ok-clause-confined
returns-in-Ok-clause-confined g c =
    λ items e. listed_confined (asked g.T.ResourceLimiter.growths g.H.HostBody.has g.K.CallHooks.hooks
    g.B.DeadlineBehaviour.behaves g.E.EpochSource.readings g.H.HostBody.steps) c.args.module.now items
    (surrounded c.args.store.now c.args.host.now c.args.epochs.now)
    (surrounded c.new.new.store c.new.new.host c.new.new.epochs) (Err c.told_fault.result) c.as_slice.result.now
    (Err c.in-Err-new.why) (ap Err c.told_fault.ensures)
    (c.as_slice.ensures
    ∙ same_items (resolved c.args.self.now c.args.module.now.imports) c.in-Ok.items items c.in-Ok.ensures.found e)
    c.in-Err-new.ensures.confined

pub returns-then-is_short-clause-confined : goal.returns-then-is_short-clause-confined
returns-then-is_short-clause-confined g c =
    λ items e. unchanged_confined (asked g.T.ResourceLimiter.growths g.H.HostBody.has g.K.CallHooks.hooks
    g.B.DeadlineBehaviour.behaves g.E.EpochSource.readings g.H.HostBody.steps) c.args.module.now items
    (surrounded c.args.store.now c.args.host.now c.args.epochs.now)
    (surrounded c.begin_turns.new.store c.args.host.now c.args.epochs.now) (Err c.unlisted.result)
    (ap (λ (s : StoreParts _). s.machine) c.begin_turns.ensures.begun)
    (returns-then-is_short-clause-linked g c items e)

pub returns-then-is_short-clause-kept : goal.returns-then-is_short-clause-kept
returns-then-is_short-clause-kept g c =
    subst (λ (s : StoreParts _). KeepsObjects c.args.store.now.machine s.machine) (sym c.begin_turns.ensures.begun)
    (objects_stay_own c.args.store.now.machine)

pub returns-clause-confined : goal.returns-clause-confined
returns-clause-confined g c =
    λ items e. absurd (true≢false
    (sym (c.is_short.ensures.1 (c.in-Err.ensures.short (known c.args.self.now c.args.module.now.imports items e)))
    ∙ c.if-is_short.false))

pub returns-clause-kept : goal.returns-clause-kept
returns-clause-kept g c = objects_stay_own c.args.store.now.machine
