use Rattle.code_leaps.proofs.LeapLemmas.{ended_block}
use Rattle.code_leaps.proofs.ends.end_code.Goals as goal

pub returns-in-Some-clause-ends : goal.returns-in-Some-clause-ends
returns-in-Some-clause-ends c =
    ended_block c.args.activation.now c.args.layers.now c.end_block.new.layers c.args.rows.now.operands
    c.end_block.new.operands c.args.rows.now.locals c.args.height c.in-Some.hop c.in-Some.ensures.ends
