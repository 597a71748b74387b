use Rattle.std.proofs.Common.{rules}
use Rattle.binary_code.proofs.Owed.{no_else_within}
use Rattle.binary_code.proofs.nesting.Nesting.turn.Goals as goal

pub returns-in_default : goal.returns-in_default
returns-in_default c d m p outer due =
    no_else_within d m c.args.self.now c.pop.new.self.items c.in-Some.list p outer due (search rules) c.in_default.not-First
