use Rattle.law_store.proofs.NewMachine.{new_machine_well_formed}
use Rattle.law_store.proofs.Rows.{calls_keep_well_formed, rows_keep_well_formed}
use Rattle.law_store.proofs.laws.law_stores_stay_well_formed.Goals as goal

pub returns-clause-new : goal.returns-clause-new
returns-clause-new c = new_machine_well_formed

pub returns-clause-calls : goal.returns-clause-calls
returns-clause-calls c = calls_keep_well_formed

pub returns-clause-rows : goal.returns-clause-rows
returns-clause-rows c = rows_keep_well_formed
