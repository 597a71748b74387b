use Rattle.std.proofs.Common.{refl}
use Rattle.code_leaps.proofs.leap_calls.enter_called.Goals as goal

pub returns-clause-entered : goal.returns-clause-entered
returns-clause-entered c = record {
  caller = record { activation = c.args.activation.now; rest = c.args.rest };
  same = refl;
  behind = refl;
  activation = refl;
  code = refl;
  layers = c.if-not-open_frame.ensures.layers;
  values = c.if-not-open_frame.ensures.entered;
}
