use Rattle.code_stack.specs.Layers.{means}
use Rattle.code_leaps.specs.Leaps.{placed}
use Rattle.code_leaps.proofs.BurstLemmas.{burst_none}
use Rattle.code_leaps.proofs.entries.enter_ahead.Goals as goal

pub returns-clause-enters : goal.returns-clause-enters
returns-clause-enters c = λ program rules owed held further locals.
    burst_none program rules owed
    (means (placed c.args.activation.now c.args.layers.now c.args.operands.now further c.args.code.now c.args.height
    locals)) held c.args.turns
