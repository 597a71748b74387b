use Rattle.std.proofs.Common.{refl}
use Rattle.code_run.specs.Asking.{Asks}
use Rattle.code_run.proofs.DecisionLemmas.{decides_grows, decides_fails, decides_limit, decides_asked}
use Rattle.code_run.proofs.decisions.decide.Goals as goal

pub returns-in-Grows-clause-decides : goal.returns-in-Grows-clause-decides
returns-in-Grows-clause-decides g c = λ rules.
    decides_grows (Asks rules g.W.Surroundings.moves)
    c.args.world.now c.args.left c.args.rule c.args.world.now c.in-Grows.is refl

pub returns-in-Fails-clause-decides : goal.returns-in-Fails-clause-decides
returns-in-Fails-clause-decides g c = λ rules.
    decides_fails (Asks rules g.W.Surroundings.moves)
    c.args.world.now c.args.left c.args.rule c.args.world.now c.in-Fails.is refl

pub returns-then-left-eq0-clause-decides : goal.returns-then-left-eq0-clause-decides
returns-then-left-eq0-clause-decides g c = λ rules.
    decides_limit (Asks rules g.W.Surroundings.moves)
    c.args.world.now c.args.left c.args.rule c.in-Asks.question
    c.in-Asks.is c.args.world.now c.if-left-eq0.true refl

pub returns-else-left-eq0-clause-decides : goal.returns-else-left-eq0-clause-decides
returns-else-left-eq0-clause-decides g c = λ rules.
    decides_asked (Asks rules g.W.Surroundings.moves)
    c.args.world.now c.args.left c.args.rule c.in-Asks.question
    c.in-Asks.is c.ask_growth-answer.result c.ask_growth-answer.new.self
    c.ask_growth-answer.ensures c.choose.result c.choose.ensures c.if-left-eq0.false
