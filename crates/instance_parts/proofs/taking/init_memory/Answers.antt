use Rattle.std.proofs.Common.{[], refl, ap, ◌∙◌}
use Rattle.wasm_values.specs.declared.refusals.Trap.TheVariants as trap
use Rattle.spec_execution.specs.Straight.{Sticks, Goes, copied_bytes}
use Rattle.store_state.specs.Machine.{run_machine}
use Rattle.code_straight.proofs.ChangeLemmas.{changed}
use Rattle.code_straight.proofs.InstanceLemmas.{on_data_is, found_as}
use Rattle.instance_parts.proofs.taking.init_memory.Goals as goal

pub returns-in-Some-init_bytes-clause-wrote : goal.returns-in-Some-init_bytes-clause-wrote
returns-in-Some-init_bytes-clause-wrote c = λ base fs gs.
    let y = c.in-Some-init_bytes.ensures.memories in
    let m = run_machine base c.args.program.now c.args.held.now in
    c.in-Some.ensures.leads base _
    ∙ (on_data_is Sticks base c.args.program.now c.args.held.now c.args.instance c.args.segment
    c.in-Some.ensures.names c.in-Some.ensures.instance_is _
    ∙ found_as Sticks _ y.1
    ∙ (ap (copied_bytes (λ after. Goes after [] []) m c.in-Some.number c.in-Some.ensures.memory c.args.at y.0 0)
    (c.requires.sized y.0 y.1)
    ∙ changed trap.MemoryOutOfBounds c.done_or.ensures (λ l. record c.args.held.now { memories = l }) y.2
    c.in-Some-init_bytes.ensures.rest base _ _ refl c.in-Some.ensures.found))

pub returns-in-None-clause-wrote : goal.returns-in-None-clause-wrote
returns-in-None-clause-wrote c = λ base fs gs.
    c.in-Some.ensures.leads base _
    ∙ on_data_is Sticks base c.args.program.now c.args.held.now c.args.instance c.args.segment c.in-Some.ensures.names
    c.in-Some.ensures.instance_is _
    ∙ found_as Sticks _ c.in-None.ensures.memories.0
