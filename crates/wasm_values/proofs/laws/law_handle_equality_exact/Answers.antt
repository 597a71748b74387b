use Rattle.wasm_values.proofs.EqualityLemmas.{id_exact, func_exact, global_exact, table_exact, memory_exact, tag_exact, instance_exact}
use Rattle.wasm_values.proofs.laws.law_handle_equality_exact.Goals as goal

pub returns-clause-ids : goal.returns-clause-ids
returns-clause-ids c = id_exact

pub returns-clause-functions : goal.returns-clause-functions
returns-clause-functions c = func_exact

pub returns-clause-globals : goal.returns-clause-globals
returns-clause-globals c = global_exact

pub returns-clause-tables : goal.returns-clause-tables
returns-clause-tables c = table_exact

pub returns-clause-memories : goal.returns-clause-memories
returns-clause-memories c = memory_exact

pub returns-clause-tags : goal.returns-clause-tags
returns-clause-tags c = tag_exact

pub returns-clause-instances : goal.returns-clause-instances
returns-clause-instances c = instance_exact
