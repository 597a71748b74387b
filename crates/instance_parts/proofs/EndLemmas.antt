-- How the turn that makes an instance ends, by its segments and what is due behind them.
use Rattle.std.proofs.Common.{◌≡◌, ℕ, List, inl, inr}
use Rattle.std.specs.Prelude.{Option}
use Rattle.spec_machine.specs.Machine.{Machine}
use Rattle.spec_execution.specs.Segments.{Taken, Done}
use Rattle.code_straight.specs.declared.acted.Acted.{Acted}
use Rattle.code_straight.specs.declared.acted.Acted.TheVariants as acted
use Rattle.instance_parts.specs.Preparing.{IsBehind, ending_of, EndsAs}
use Rattle.instance_parts.specs.Taking.{followed}
use Rattle.instance_parts.specs.declared.making.Ending.{Ending}
use Rattle.instance_parts.specs.declared.making.Ending.TheVariants as ending

module _ (fs : List ℕ) (start : Option ℕ) (due : Taken) (new : Machine) where
  behind_all : (behind : Ending) → due ≡ Done new → IsBehind fs start behind → EndsAs fs start due behind new
  behind_all ending.Whole e h = (e, h)
  behind_all (ending.Starts n) e h = (e, h)
  behind_all (ending.Trapped t) e h = absurd h
  behind_all ending.Sticks e h = inr (e, h)

  pub ends_as : (a : Acted) (behind : Ending) → due ≡ followed a new Done → IsBehind fs start behind →
      EndsAs fs start due (ending_of a behind) new
  ends_as acted.Goes behind e h = behind_all behind e h
  ends_as (acted.Traps t) behind e h = e
  ends_as acted.Sticks behind e h = inl e
