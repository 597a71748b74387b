use Rattle.script_generated.proofs.ModuleLemmas.{generated_is_valid}
use Rattle.script_generated.proofs.laws.law_generated_is_valid.Goals as goal

pub returns : goal.returns
returns c = generated_is_valid
