use Rattle.wasm_leb.proofs.NameLemmas.{name_none}
use Rattle.wasm_leb.proofs.cursor.Cursor.name.Goals as goal

pub returns-in-None-clause-item : goal.returns-in-None-clause-item
returns-in-None-clause-item c = name_none c.args.self.now c.in-None.ensures
