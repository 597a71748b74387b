use Rattle.std.proofs.Common.{◌-◌, ◌++◌, ◌∙◌, take, ap, refl}
use Rattle.code_leaps.specs.Calling.{begun_values}
use Rattle.code_leaps.proofs.LeapLemmas.{entered_at}
use Rattle.code_leaps.proofs.leap_calls.open_frame.Goals as goal

pub returns-then-begin_segment-clause-entered : goal.returns-then-begin_segment-clause-entered
returns-then-begin_segment-clause-entered c =
    entered_at c.args.rows.now.operands c.split_behind.new.self c.args.rows.now.locals c.begin_segment.new.row c.args.height
    c.args.count c.requires.counted c.requires.enough (begun_values c.args.types.now) (c.args.height - c.args.count) _ refl
    c.in-Ok-split_behind.ensures.done
    (c.if-begin_segment.ensures.last
    ∙ ap (λ xs. take c.args.count xs ++ begun_values c.args.types.now) c.last.ensures) c.if-begin_segment.ensures.before
