use Rattle.wasm_store.proofs.CallLaws.{memory_write_keeps, table_set_keeps, table_fill_keeps, table_copy_keeps, global_set_keeps, global_new_keeps, tag_new_keeps, func_new_keeps}
use Rattle.wasm_store.proofs.laws.law_calls_keep_objects.Goals as goal

pub returns-clause-memory_write : goal.returns-clause-memory_write
returns-clause-memory_write c = memory_write_keeps

pub returns-clause-table_set : goal.returns-clause-table_set
returns-clause-table_set c = table_set_keeps

pub returns-clause-table_fill : goal.returns-clause-table_fill
returns-clause-table_fill c = table_fill_keeps

pub returns-clause-table_copy : goal.returns-clause-table_copy
returns-clause-table_copy c = table_copy_keeps

pub returns-clause-global_set : goal.returns-clause-global_set
returns-clause-global_set c = global_set_keeps

pub returns-clause-global_new : goal.returns-clause-global_new
returns-clause-global_new c = global_new_keeps

pub returns-clause-tag_new : goal.returns-clause-tag_new
returns-clause-tag_new c = tag_new_keeps

pub returns-clause-func_new : goal.returns-clause-func_new
returns-clause-func_new c = func_new_keeps
