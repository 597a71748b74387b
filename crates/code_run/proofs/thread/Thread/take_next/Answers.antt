use Rattle.code_run.specs.Spinning.{ahead_of}
use Rattle.code_run.specs.Steps.{seen}
use Rattle.code_run.proofs.SpinLemmas.{passed_behind, goes_behind}
use Rattle.code_run.proofs.thread.Thread.take_next.Goals as goal

pub returns-in-Some-clause-spins : goal.returns-in-Some-clause-spins
returns-in-Some-clause-spins c = λ due first owed l.
    passed_behind c.args.program.now c.args.rules c.args.spent c.args.left c.args.self.now c.args.held.now
    c.in-Some.instr (seen c.pass.new.self) c.in-Some.ensures c.take-taken.result.spent
    (ahead_of c.take-taken.result.beat c.take-taken.new.self) (seen c.take-taken.new.self) c.take-taken.new.held
    c.take-taken.ensures.spins due first owed l

pub returns-in-None-clause-spins : goal.returns-in-None-clause-spins
returns-in-None-clause-spins c = λ due first owed l.
    goes_behind c.args.program.now c.args.rules c.args.spent c.args.left c.args.self.now c.args.held.now
    (c.requires.moves c.in-None.ensures.1) c.pass.new.self c.in-None.ensures.0 due first owed l
