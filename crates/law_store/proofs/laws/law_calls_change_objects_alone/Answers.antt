use Rattle.law_store.proofs.Rows.{calls_leave_rest}
use Rattle.law_store.proofs.laws.law_calls_change_objects_alone.Goals as goal

pub returns : goal.returns
returns c = calls_leave_rest
