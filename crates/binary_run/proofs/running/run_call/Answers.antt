use Rattle.binary_run.specs.Calls.{call_parts}
use Rattle.binary_run.proofs.StartLemmas.{has_run_if}
use Rattle.binary_run.proofs.running.run_call.Goals as goal

pub returns : goal.returns
returns g c = has_run_if _ _ _
    (call_parts c.args.options c.args.call.guest c.args.name.now c.args.call.arguments.items c.args.call.bytes) _ _ _ _
    c.as_slice.ensures c.new_store-store.ensures c.run_on-ended.ensures.ran c.run_on-ended.ensures.answered
