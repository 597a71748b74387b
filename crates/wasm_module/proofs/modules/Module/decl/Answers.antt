use Rattle.std.proofs.Common.{rules}
use Rattle.wasm_syntax.proofs.ValidityLemmas.{first_valid}
use Rattle.wasm_module.proofs.modules.Module.decl.Goals as goal

pub returns-clause-valid : goal.returns-clause-valid
returns-clause-valid c = first_valid c.args.self.now (search rules)
