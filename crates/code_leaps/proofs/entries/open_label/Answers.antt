use Rattle.std.proofs.Common.{◌-◌, refl}
use Rattle.code_leaps.proofs.LeapLemmas.{opened_at}
use Rattle.code_leaps.proofs.entries.open_label.Goals as goal

pub returns-clause-opened : goal.returns-clause-opened
returns-clause-opened c = λ further locals.
    opened_at c.args.operands.now c.split_behind.new.self further locals c.args.height c.args.count c.requires.counted
    c.requires.enough (c.args.height - c.args.count) _ refl c.in-Ok-split_behind.ensures.done
