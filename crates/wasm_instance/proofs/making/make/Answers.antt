use Rattle.std.proofs.Common.{ℕ, ◌-◌, ◌≤◌, sym, ap, ◌∙◌, subst, arith, inl, inr}
use Rattle.spec_machine.specs.Machine.{Machine}
use Rattle.spec_machine.specs.WellFormed.{IsWellFormed}
use Rattle.spec_machine.specs.declared.reply.Reply.TheVariants as reply
use Rattle.store_state.specs.Engines.{engine_parts}
use Rattle.store_objects.specs.Machines.{base_of, store_of}
use Rattle.wasm_store.specs.Stores.{store_parts}
use Rattle.wasm_call.specs.Invoking.{machine_in, store_in}
use Rattle.wasm_call.specs.Outside.{asked, surrounded}
use Rattle.wasm_instance.proofs.MakingLemmas.{started_within, none_left, short_ends, whole_ends, trapped_ends, sticks_never, start_safe, start_ends}
use Rattle.wasm_instance.proofs.ShortLemmas.{whole_is_told, trap_is_told, limit_is_told, starts}
use Rattle.wasm_instance.proofs.WellFormedLemmas.{in_range, ready_formed, aligned, made_formed}
use Rattle.wasm_instance.proofs.making.make.Goals as goal

pub make_in-requires : goal.make_in-requires
make_in-requires g c =
    let m = machine_in c.args.parts.now in
    record {
      range = in_range m c.args.validated.now c.requires.ready.granted;
      aligned = aligned m c.args.validated.now c.args.imports.now c.requires.ready;
    }

pub returns-then-turns-eq0-clause-makes : goal.returns-then-turns-eq0-clause-makes
returns-then-turns-eq0-clause-makes g c =
    let p = c.args.parts.now in
    none_left (asked g.T.ResourceLimiter.growths g.H.HostBody.has g.K.CallHooks.hooks g.B.DeadlineBehaviour.behaves
    g.E.EpochSource.readings g.H.HostBody.steps) c.args.validated.now c.args.imports.now c.args.turns
    (surrounded (store_in p 0 c.args.store.now.host_data) c.args.host.now c.args.epochs.now) c.if-turns-eq0.true
    c.end_after.result.instance c.end_after.result.turns c.end_after.ensures.instance c.end_after.ensures.turns

pub returns-then-turns-eq0-clause-short : goal.returns-then-turns-eq0-clause-short
returns-then-turns-eq0-clause-short g c =
    λ short. absurd (limit_is_told c.end_after.result.instance c.end_after.ensures.instance short)

pub returns-then-turns-eq0-clause-left : goal.returns-then-turns-eq0-clause-left
returns-then-turns-eq0-clause-left g c =
    λ short. absurd (limit_is_told c.end_after.result.instance c.end_after.ensures.instance short)

pub returns-then-turns-eq0-clause-formed : goal.returns-then-turns-eq0-clause-formed
returns-then-turns-eq0-clause-formed g c =
    ready_formed (machine_in c.args.parts.now) c.args.validated.now c.args.imports.now c.requires.ready

pub returns-in-Err-clause-makes : goal.returns-in-Err-clause-makes
returns-in-Err-clause-makes g c =
    let p = c.args.parts.now in
    short_ends (asked g.T.ResourceLimiter.growths g.H.HostBody.has g.K.CallHooks.hooks g.B.DeadlineBehaviour.behaves
    g.E.EpochSource.readings g.H.HostBody.steps) c.args.validated.now c.args.imports.now c.args.turns
    (surrounded (store_in p 0 c.args.store.now.host_data) c.args.host.now c.args.epochs.now)
    (store_of p.id p.engine p.flags c.make_in.new.shared c.make_in.new.held)
    (c.in-Err.ensures.err (base_of p.id (engine_parts p.engine) p.flags))
    c.end_after-in-Err.result.instance c.end_after-in-Err.result.turns c.end_after-in-Err.ensures.instance
    c.end_after-in-Err.ensures.turns

pub returns-in-Err-clause-short : goal.returns-in-Err-clause-short
returns-in-Err-clause-short g c =
    let p = c.args.parts.now in
    λ _. inl (ap (λ (m : Machine). surrounded (store_parts m c.end_after-in-Err.result.turns c.args.store.now.host_data)
    c.args.host.now c.args.epochs.now) (c.in-Err.ensures.err (base_of p.id (engine_parts p.engine) p.flags))
    ∙ ap (λ (n : ℕ). surrounded (store_parts (machine_in p) n c.args.store.now.host_data) c.args.host.now c.args.epochs.now)
    c.end_after-in-Err.ensures.turns)

pub returns-in-Err-clause-left : goal.returns-in-Err-clause-left
returns-in-Err-clause-left g c = λ _. omega (arith, c.if-turns-eq0.false)

pub returns-in-Err-clause-formed : goal.returns-in-Err-clause-formed
returns-in-Err-clause-formed g c =
    let p = c.args.parts.now in
    subst IsWellFormed (sym (c.in-Err.ensures.err (base_of p.id (engine_parts p.engine) p.flags)))
    (ready_formed (machine_in p) c.args.validated.now c.args.imports.now c.requires.ready)

pub returns-in-Whole-clause-makes : goal.returns-in-Whole-clause-makes
returns-in-Whole-clause-makes g c =
    let p = c.args.parts.now in
    whole_ends (asked g.T.ResourceLimiter.growths g.H.HostBody.has g.K.CallHooks.hooks g.B.DeadlineBehaviour.behaves
    g.E.EpochSource.readings g.H.HostBody.steps) c.args.validated.now c.args.imports.now c.args.turns
    (surrounded (store_in p 0 c.args.store.now.host_data) c.args.host.now c.args.epochs.now) c.requires.ready c.in-Ok.made
    (store_of p.id p.engine p.flags c.make_in.new.shared c.make_in.new.held)
    (c.in-Ok.ensures.ok (base_of p.id (engine_parts p.engine) p.flags)) (omega (arith, c.if-turns-eq0.false)) c.in-Whole.is
    c.from_parts-instance.result c.from_parts-instance.ensures c.end_after-in-Whole.result.instance
    c.end_after-in-Whole.result.turns c.end_after-in-Whole.ensures.instance c.end_after-in-Whole.ensures.turns

pub returns-in-Whole-clause-short : goal.returns-in-Whole-clause-short
returns-in-Whole-clause-short g c =
    λ short. absurd (whole_is_told c.end_after-in-Whole.result.instance c.from_parts-instance.result
    c.end_after-in-Whole.ensures.instance short)

pub returns-in-Whole-clause-formed : goal.returns-in-Whole-clause-formed
returns-in-Whole-clause-formed g c =
    let p = c.args.parts.now in
    let h = c.in-Ok.ensures.ok (base_of p.id (engine_parts p.engine) p.flags) in
    made_formed (machine_in p) c.args.validated.now c.args.imports.now c.requires.ready c.in-Ok.made.ending
    (store_of p.id p.engine p.flags c.make_in.new.shared c.make_in.new.held) h.1

pub returns-in-Trapped-clause-makes : goal.returns-in-Trapped-clause-makes
returns-in-Trapped-clause-makes g c =
    let p = c.args.parts.now in
    trapped_ends (asked g.T.ResourceLimiter.growths g.H.HostBody.has g.K.CallHooks.hooks g.B.DeadlineBehaviour.behaves
    g.E.EpochSource.readings g.H.HostBody.steps) c.args.validated.now c.args.imports.now c.args.turns
    (surrounded (store_in p 0 c.args.store.now.host_data) c.args.host.now c.args.epochs.now) c.requires.ready c.in-Ok.made
    (store_of p.id p.engine p.flags c.make_in.new.shared c.make_in.new.held)
    (c.in-Ok.ensures.ok (base_of p.id (engine_parts p.engine) p.flags)) (omega (arith, c.if-turns-eq0.false))
    c.in-Trapped.trap c.in-Trapped.is c.end_after-in-Trapped.result.instance c.end_after-in-Trapped.result.turns
    c.end_after-in-Trapped.ensures.instance c.end_after-in-Trapped.ensures.turns

pub returns-in-Trapped-clause-short : goal.returns-in-Trapped-clause-short
returns-in-Trapped-clause-short g c =
    λ short. absurd (trap_is_told c.end_after-in-Trapped.result.instance c.in-Trapped.trap
    c.end_after-in-Trapped.ensures.instance short)

pub returns-in-Trapped-clause-formed : goal.returns-in-Trapped-clause-formed
returns-in-Trapped-clause-formed g c =
    let p = c.args.parts.now in
    let h = c.in-Ok.ensures.ok (base_of p.id (engine_parts p.engine) p.flags) in
    made_formed (machine_in p) c.args.validated.now c.args.imports.now c.requires.ready c.in-Ok.made.ending
    (store_of p.id p.engine p.flags c.make_in.new.shared c.make_in.new.held) h.1

pub run_start-start-requires-clause-formed : goal.run_start-start-requires-clause-formed
run_start-start-requires-clause-formed g c =
    let p = c.args.parts.now in
    let h = c.in-Ok.ensures.ok (base_of p.id (engine_parts p.engine) p.flags) in
    made_formed (machine_in p) c.args.validated.now c.args.imports.now c.requires.ready c.in-Ok.made.ending
    (store_of p.id p.engine p.flags c.make_in.new.shared c.make_in.new.held) h.1

pub run_start-start-requires-clause-safe : goal.run_start-start-requires-clause-safe
run_start-start-requires-clause-safe g c =
    let p = c.args.parts.now in
    start_safe (asked g.T.ResourceLimiter.growths g.H.HostBody.has g.K.CallHooks.hooks g.B.DeadlineBehaviour.behaves
    g.E.EpochSource.readings g.H.HostBody.steps) c.args.validated.now c.args.imports.now c.args.turns
    (surrounded (store_in p 0 c.args.store.now.host_data) c.args.host.now c.args.epochs.now) c.requires.ready c.in-Ok.made
    (store_of p.id p.engine p.flags c.make_in.new.shared c.make_in.new.held)
    (c.in-Ok.ensures.ok (base_of p.id (engine_parts p.engine) p.flags)) c.in-Starts.function c.in-Starts.is

pub unreachable-requires : goal.unreachable-requires
unreachable-requires g c =
    let p = c.args.parts.now in
    sticks_never (asked g.T.ResourceLimiter.growths g.H.HostBody.has g.K.CallHooks.hooks g.B.DeadlineBehaviour.behaves
    g.E.EpochSource.readings g.H.HostBody.steps) c.args.validated.now c.args.imports.now c.args.turns
    (surrounded (store_in p 0 c.args.store.now.host_data) c.args.host.now c.args.epochs.now) c.requires.ready c.in-Ok.made
    (store_of p.id p.engine p.flags c.make_in.new.shared c.make_in.new.held)
    (c.in-Ok.ensures.ok (base_of p.id (engine_parts p.engine) p.flags)) c.in-Sticks.is

pub overflow_add-start : goal.overflow_add-start
overflow_add-start g c =
    let q = record c.args.parts.now {
      program = c.make_in.new.shared;
      held = c.make_in.new.held;
    } in
    let few : c.run_start-start.result.turns ≤ c.args.turns - 1 =
    started_within (asked g.T.ResourceLimiter.growths g.H.HostBody.has g.K.CallHooks.hooks g.B.DeadlineBehaviour.behaves
    g.E.EpochSource.readings g.H.HostBody.steps) c.in-Starts.function c.in-Ok.made.number reply.Done (c.args.turns - 1)
    (surrounded (store_in q 0 c.args.store.now.host_data) c.args.host.now c.args.epochs.now)
    (surrounded (store_in c.run_start-start.new.parts c.run_start-start.result.turns
    c.run_start-start.new.store.host_data) c.run_start-start.new.host c.run_start-start.new.epochs) c.run_start-start.result.result
    (c.run_start-start.ensures.started reply.Done) in
    omega (arith, few, c.requires.few)

pub returns-in-Starts-clause-within : goal.returns-in-Starts-clause-within
returns-in-Starts-clause-within g c =
    let q = record c.args.parts.now {
      program = c.make_in.new.shared;
      held = c.make_in.new.held;
    } in
    let few : c.run_start-start.result.turns ≤ c.args.turns - 1 =
    started_within (asked g.T.ResourceLimiter.growths g.H.HostBody.has g.K.CallHooks.hooks g.B.DeadlineBehaviour.behaves
    g.E.EpochSource.readings g.H.HostBody.steps) c.in-Starts.function c.in-Ok.made.number reply.Done (c.args.turns - 1)
    (surrounded (store_in q 0 c.args.store.now.host_data) c.args.host.now c.args.epochs.now)
    (surrounded (store_in c.run_start-start.new.parts c.run_start-start.result.turns
    c.run_start-start.new.store.host_data) c.run_start-start.new.host c.run_start-start.new.epochs) c.run_start-start.result.result
    (c.run_start-start.ensures.started reply.Done) in
    omega (arith, few, c.if-turns-eq0.false, c.end_after-in-Starts.ensures.turns)

pub returns-in-Starts-clause-makes : goal.returns-in-Starts-clause-makes
returns-in-Starts-clause-makes g c =
    let p = c.args.parts.now in
    start_ends (asked g.T.ResourceLimiter.growths g.H.HostBody.has g.K.CallHooks.hooks g.B.DeadlineBehaviour.behaves
    g.E.EpochSource.readings g.H.HostBody.steps) c.args.validated.now c.args.imports.now c.args.turns
    (surrounded (store_in p 0 c.args.store.now.host_data) c.args.host.now c.args.epochs.now) c.requires.ready c.in-Ok.made
    (store_of p.id p.engine p.flags c.make_in.new.shared c.make_in.new.held)
    (c.in-Ok.ensures.ok (base_of p.id (engine_parts p.engine) p.flags)) (omega (arith, c.if-turns-eq0.false))
    c.in-Starts.function c.in-Starts.is c.from_parts-instance.result c.from_parts-instance.ensures
    c.run_start-start.result.result
    (surrounded (store_in c.run_start-start.new.parts c.run_start-start.result.turns
    c.run_start-start.new.store.host_data) c.run_start-start.new.host c.run_start-start.new.epochs) c.run_start-start.ensures.started
    c.end_after-in-Starts.result.instance c.end_after-in-Starts.result.turns
    (c.end_after-in-Starts.ensures.instance ∙ c.told.ensures) c.end_after-in-Starts.ensures.turns

pub returns-in-Starts-clause-short : goal.returns-in-Starts-clause-short
returns-in-Starts-clause-short g c =
    let p = c.args.parts.now in
    λ _. inr (starts c.args.validated.now c.args.imports.now (machine_in p)
    (store_of p.id p.engine p.flags c.make_in.new.shared c.make_in.new.held) c.in-Ok.made
    (c.in-Ok.ensures.ok (base_of p.id (engine_parts p.engine) p.flags)) c.in-Starts.function c.in-Starts.is)

pub returns-in-Whole-clause-left : goal.returns-in-Whole-clause-left
returns-in-Whole-clause-left g c = λ _. omega (arith, c.if-turns-eq0.false)

pub returns-in-Trapped-clause-left : goal.returns-in-Trapped-clause-left
returns-in-Trapped-clause-left g c = λ _. omega (arith, c.if-turns-eq0.false)

pub returns-in-Starts-clause-left : goal.returns-in-Starts-clause-left
returns-in-Starts-clause-left g c = λ _. omega (arith, c.if-turns-eq0.false)
