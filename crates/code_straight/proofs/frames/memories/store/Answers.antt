use Rattle.std.proofs.Common.{◌-◌, ap, ◌∙◌, refl}
use Rattle.wasm_values.specs.declared.refusals.Trap.TheVariants as trap
use Rattle.spec_execution.specs.Straight.{store_shape}
use Rattle.store_state.specs.Machine.{run_machine}
use Rattle.code_straight.specs.Acting.{effect_of, done_or}
use Rattle.code_straight.specs.Frames.{topmost}
use Rattle.code_straight.proofs.ChangeLemmas.{changed}
use Rattle.code_straight.proofs.frames.memories.store.Goals as goal

pub returns-in_default-clause-acts : goal.returns-in_default-clause-acts
returns-in_default-clause-acts c = λ locals base.
    c.in_default.ensures.takes (store_shape c.args.op).takes c.stores_wide.ensures _

pub returns-then-write_stored-clause-acts : goal.returns-then-write_stored-clause-acts
returns-then-write_stored-clause-acts c = λ locals base.
    let rest = topmost (c.args.height - 2) c.args.operands.now in
    c.in-Some.ensures.takes (store_shape c.args.op).takes c.stores_wide.ensures _
    ∙ c.in-Some-memory_at.ensures.leads base _
    ∙ changed trap.MemoryOutOfBounds refl (λ l. record c.args.held.now { memories = l }) c.write_stored.ensures.memories
    c.write_stored.ensures.rest base _ _ refl c.in-Some-memory_at.ensures.found
    ∙ ap (λ b. effect_of (done_or trap.MemoryOutOfBounds b)
    (run_machine base c.args.program.now c.write_stored.new.held) locals rest) c.if-write_stored.true

pub returns-clause-acts : goal.returns-clause-acts
returns-clause-acts c = λ locals base.
    let rest = topmost (c.args.height - 2) c.args.operands.now in
    c.in-Some.ensures.takes (store_shape c.args.op).takes c.stores_wide.ensures _
    ∙ c.in-Some-memory_at.ensures.leads base _
    ∙ changed trap.MemoryOutOfBounds refl (λ l. record c.args.held.now { memories = l }) c.write_stored.ensures.memories
    c.write_stored.ensures.rest base _ _ refl c.in-Some-memory_at.ensures.found
    ∙ ap (λ b. effect_of (done_or trap.MemoryOutOfBounds b)
    (run_machine base c.args.program.now c.write_stored.new.held) locals rest) c.if-write_stored.false
