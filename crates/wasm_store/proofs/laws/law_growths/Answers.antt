use Rattle.wasm_store.proofs.CallLaws.{growths_are_granted, memory_growth_size, table_growth_size}
use Rattle.wasm_store.proofs.laws.law_growths.Goals as goal

pub returns-clause-granted : goal.returns-clause-granted
returns-clause-granted g c = growths_are_granted g.T.ResourceLimiter.growths

pub returns-clause-memory_size : goal.returns-clause-memory_size
returns-clause-memory_size g c = memory_growth_size g.T.ResourceLimiter.growths

pub returns-clause-table_size : goal.returns-clause-table_size
returns-clause-table_size g c = table_growth_size g.T.ResourceLimiter.growths
