use Rattle.wasm_run.proofs.TaskLemmas.{read_by_names}
use Rattle.wasm_run.proofs.main_call.run_text.Goals as goal

pub run_task-requires-clause-bodies : goal.run_task-requires-clause-bodies
run_task-requires-clause-bodies g c =
    read_by_names c.args.text.items c.in-Ok.script (rw c.as_slice.ensures.value at c.in-Ok.ensures.read)
