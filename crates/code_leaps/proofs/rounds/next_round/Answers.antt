use Rattle.std.proofs.Common.{refl}
use Rattle.code_leaps.proofs.LoopLemmas.{some_code}
use Rattle.code_leaps.proofs.rounds.next_round.Goals as goal

pub returns-clause-round : goal.returns-clause-round
returns-clause-round c = (some_code c.args.again.now c.if-is_empty.ensures, refl, refl)
