use Rattle.std.proofs.Common.{arith, Ok, Err}
use Rattle.script_modules.proofs.Depth.{code_none, reads_less}
use Rattle.script_modules.proofs.code.+code.Goals as goal

pub code_within-returns-then-depth-eq0-clause-reads : goal.code_within-returns-then-depth-eq0-clause-reads
code_within-returns-then-depth-eq0-clause-reads t c = code_none _ _ _ c.if-depth-eq0.true

pub code_within-returns-in-Ok-clause-reads : goal.code_within-returns-in-Ok-clause-reads
code_within-returns-in-Ok-clause-reads t c = reads_less c.args.depth _ _ (Ok c.in-Ok.instrs) _ (omega arith) c.in-Ok.ensures.reads

pub code_within-returns-in-Err-clause-reads : goal.code_within-returns-in-Err-clause-reads
code_within-returns-in-Err-clause-reads t c = reads_less c.args.depth _ _ (Err c.in-Err.fault) _ (omega arith) c.in-Err.ensures.reads
