use Rattle.wasm_types.proofs.Engines.{stays_in_engine, keeps_engine, keeps_heap_engine}
use Rattle.wasm_types.proofs.laws.law_matching_keeps_engine.Goals as goal

pub returns-clause-engine : goal.returns-clause-engine
returns-clause-engine c = stays_in_engine

pub returns-clause-functions : goal.returns-clause-functions
returns-clause-functions c = keeps_engine

pub returns-clause-heaps : goal.returns-clause-heaps
returns-clause-heaps c = keeps_heap_engine
