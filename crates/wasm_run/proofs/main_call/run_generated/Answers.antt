use Rattle.wasm_run.proofs.TaskLemmas.{ends_of_generated}
use Rattle.wasm_run.proofs.main_call.run_generated.Goals as goal

pub returns-clause-ends : goal.returns-clause-ends
returns-clause-ends g c =
    ends_of_generated _ _ _ _ _ _ _ c.args.n c.in-Ok.script c.in-Ok.ensures.made c.run_task.ensures.ends
