use Rattle.std.proofs.Common.{ap}
use Rattle.code_stack.specs.Values.{ValuesParts}
use Rattle.code_run.specs.Steps.{seen}
use Rattle.code_run.proofs.Threads.{lost_means}
use Rattle.code_run.proofs.thread.Thread.lose.Goals as goal

pub returns : goal.returns
returns c = λ w.
    lost_means
    (seen (record c.args.self.now { code = c.args.code; layers = c.clear.new.self; values = c.new.result })) w c.requires
    c.clear.ensures (ap (λ (v : ValuesParts). v.below) c.new.ensures)
