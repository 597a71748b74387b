use Rattle.std.proofs.Common.{◌∙◌}
use Rattle.wasm_values.specs.declared.refusals.Trap.TheVariants as trap
use Rattle.code_straight.proofs.ChangeLemmas.{changed}
use Rattle.code_straight.proofs.memories.memory_fill.Goals as goal

pub returns-clause-acts : goal.returns-clause-acts
returns-clause-acts c = λ base.
    c.in-Some.ensures.takes _
    ∙ (c.in-Some-memory_at.ensures.leads base _
    ∙ changed trap.MemoryOutOfBounds c.done_or.ensures (λ l. record c.args.held.now { memories = l })
    c.fill_bytes-done.ensures.memories
    c.fill_bytes-done.ensures.rest base _ _ c.in-Some.ensures.locals c.in-Some-memory_at.ensures.found)
