use Rattle.std.proofs.Common.{◌∙◌}
use Rattle.wasm_values.specs.declared.refusals.Trap.TheVariants as trap
use Rattle.spec_execution.specs.Straight.{store_shape}
use Rattle.code_straight.proofs.ChangeLemmas.{changed}
use Rattle.code_straight.proofs.stores.store.Goals as goal

pub returns-clause-acts : goal.returns-clause-acts
returns-clause-acts c = λ base.
    c.in-Some.ensures.takes (store_shape c.args.op).takes c.stores_wide.ensures _
    ∙ (c.in-Some-memory_at.ensures.leads base _
    ∙ changed trap.MemoryOutOfBounds c.done_or.ensures (λ l. record c.args.held.now { memories = l })
    c.write_stored-done.ensures.memories
    c.write_stored-done.ensures.rest base _ _ c.in-Some.ensures.locals c.in-Some-memory_at.ensures.found)

pub returns-in_default-clause-acts : goal.returns-in_default-clause-acts
returns-in_default-clause-acts c = λ base. c.in_default.ensures.takes (store_shape c.args.op).takes c.stores_wide.ensures _
