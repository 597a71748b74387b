use Rattle.std.proofs.Common.{refl}
use Rattle.code_run.proofs.SettleLemmas.{passes_first}
use Rattle.code_run.proofs.thread.Thread.pass.Goals as goal

pub returns-in-Some : goal.returns-in-Some
returns-in-Some c =
    passes_first c.args.self.now c.in-Some.instr.now c.in-Some.rest.now c.in-Some.ensures.cases.0
    (record c.args.self.now { code = c.in-Some.rest }) refl
