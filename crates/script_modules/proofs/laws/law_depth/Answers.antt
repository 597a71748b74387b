use Rattle.std.proofs.Common.{arith}
use Rattle.script_modules.specs.Code.{deepest}
use Rattle.script_modules.proofs.CodeDepthLemmas.{code_same}
use Rattle.script_modules.proofs.laws.law_depth.Goals as goal

pub returns : goal.returns
returns c = λ n d parts l k. code_same n deepest d parts (omega arith) l
