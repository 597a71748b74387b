use Rattle.law_code.proofs.Runs.{exec_sound}
use Rattle.law_code.proofs.laws.law_code_is_sound.Goals as goal

pub returns : goal.returns
returns c = exec_sound
