use Rattle.wasm_leb.proofs.ItemLemmas.{name_read}
use Rattle.wasm_leb.proofs.laws.law_items_are_read.Goals as goal

pub returns-clause-name : goal.returns-clause-name
returns-clause-name c = name_read
