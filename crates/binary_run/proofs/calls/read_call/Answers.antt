use Rattle.std.proofs.Common.{Err, ap, ◌∙◌}
use Rattle.std.proofs.lemmas.Result.{err_from_is_err_and}
use Rattle.binary_run.specs.Words.{asked_of}
use Rattle.binary_run.proofs.CallLemmas.{due_within}
use Rattle.binary_run.proofs.calls.read_call.Goals as goal

pub returns-in_err-arguments-clause-fault : goal.returns-in_err-arguments-clause-fault
returns-in_err-arguments-clause-fault c =
    let failed = err_from_is_err_and c.from_residual-in_err-arguments.result c.from_residual-in_err-arguments.ensures.1 in
    due_within (asked_of c.args.words) c.args.input.items _ _ _ _ _ c.from_residual-in_err-arguments.result
    c.in_err-arguments.field-0.0 (failed.1 ∙ ap Err failed.2) c.as_slice.ensures.value c.behind_bytes.ensures
    c.in-Ok.ensures.read c.in_ok-guest.ensures.valid c.in_ok-guest.ensures.made c.given_bytes-bytes.ensures.given
    c.in_err-arguments.ensures.fault
