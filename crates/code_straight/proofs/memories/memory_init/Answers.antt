use Rattle.std.proofs.Common.{◌∙◌}
use Rattle.wasm_values.specs.declared.refusals.Trap.TheVariants as trap
use Rattle.spec_execution.specs.Straight.{Sticks}
use Rattle.code_straight.proofs.ChangeLemmas.{changed}
use Rattle.code_straight.proofs.InstanceLemmas.{on_data_is, found_as}
use Rattle.code_straight.proofs.memories.memory_init.Goals as goal

pub returns-in-Some-init_bytes-clause-acts : goal.returns-in-Some-init_bytes-clause-acts
returns-in-Some-init_bytes-clause-acts c = λ base.
    let y = c.in-Some-init_bytes.ensures.memories in
    c.in-Some.ensures.takes _ ∙ (c.in-Some-memory_at.ensures.leads base _
    ∙ (on_data_is Sticks base c.args.program.now c.args.held.now c.args.instance c.args.segment
    c.in-Some-memory_at.ensures.names c.in-Some-memory_at.ensures.instance_is _
    ∙ found_as Sticks _ y.1
    ∙ changed trap.MemoryOutOfBounds c.done_or.ensures (λ l. record c.args.held.now { memories = l }) y.2
    c.in-Some-init_bytes.ensures.rest base _ _ c.in-Some.ensures.locals c.in-Some-memory_at.ensures.found))

pub returns-in-None-clause-acts : goal.returns-in-None-clause-acts
returns-in-None-clause-acts c = λ base.
    c.in-Some.ensures.takes _ ∙ (c.in-Some-memory_at.ensures.leads base _
    ∙ on_data_is Sticks base c.args.program.now c.args.held.now c.args.instance c.args.segment
    c.in-Some-memory_at.ensures.names c.in-Some-memory_at.ensures.instance_is _
    ∙ found_as Sticks _ c.in-None.ensures.memories.0)
