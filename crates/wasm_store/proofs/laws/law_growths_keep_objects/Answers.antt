use Rattle.wasm_store.proofs.CallLaws.{memory_new_keeps, memory_growth_keeps, table_new_keeps, table_growth_keeps}
use Rattle.wasm_store.proofs.laws.law_growths_keep_objects.Goals as goal

pub returns-clause-memory_new : goal.returns-clause-memory_new
returns-clause-memory_new g c = memory_new_keeps g.T.ResourceLimiter.growths

pub returns-clause-memory_grow : goal.returns-clause-memory_grow
returns-clause-memory_grow g c = memory_growth_keeps g.T.ResourceLimiter.growths

pub returns-clause-table_new : goal.returns-clause-table_new
returns-clause-table_new g c = table_new_keeps g.T.ResourceLimiter.growths

pub returns-clause-table_grow : goal.returns-clause-table_grow
returns-clause-table_grow g c = table_growth_keeps g.T.ResourceLimiter.growths
