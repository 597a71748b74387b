use Rattle.law_store.proofs.Objects.{objects_stay_own, objects_stay_along, calls_keep_objects, rows_keep_objects}
use Rattle.law_store.proofs.laws.law_objects_stay.Goals as goal

pub returns-clause-own : goal.returns-clause-own
returns-clause-own c = objects_stay_own

pub returns-clause-along : goal.returns-clause-along
returns-clause-along c = objects_stay_along

pub returns-clause-calls : goal.returns-clause-calls
returns-clause-calls c = calls_keep_objects

pub returns-clause-rows : goal.returns-clause-rows
returns-clause-rows c = rows_keep_objects
