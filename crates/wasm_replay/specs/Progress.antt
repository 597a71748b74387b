-- How a replay of a tape goes: what it answers, and how it ends. This project's own.
use Rattle.std.specs.Prelude.{◌≡◌, ℕ, ◌+◌, Bool, true, false, nat_lt, if◌then◌else◌, List, [], ◌∷◌, Option, Some, None, Result, Ok, Err}
use Rattle.wasm_meter.specs.declared.deadline.UpdateDeadline.TheVariants.{Interrupt}
use Rattle.wasm_meter.specs.declared.faults.EpochFailed.{EpochFailed}
use Rattle.wasm_meter.specs.declared.faults.LimiterFailed.{LimiterFailed}
use Rattle.spec_execution.specs.Askings.{Question, Growing, Having, Passing, Reading, Behaving, Stepping, Answer, Grown, Has, Passed, Read, Behaved, Stepped}
use Rattle.spec_execution.specs.declared.answer.Answer.{Answer as Say}
use Rattle.spec_execution.specs.declared.answer.Answer.TheVariants as say
use Rattle.law_replay.specs.Tapes.{TapeParts}
use Rattle.law_replay.specs.declared.step.TapedStep.{TapedStep}
use Rattle.wasm_replay.specs.Played.{asked, asked_of, is_asked, difference}
use Rattle.wasm_replay.specs.declared.ends.Asked.{Asked}
use Rattle.wasm_replay.specs.declared.ends.Difference.{Difference}
use Rattle.wasm_replay.specs.declared.ends.Kind.TheVariants as kind
use Rattle.wasm_replay.specs.declared.ends.ReplayEnd.{ReplayEnd}
use Rattle.wasm_replay.specs.declared.ends.ReplayEnd.TheVariants as end

-- how far a replay is: what is left of its tape, how many steps were taken of it, the first step that was asked for
-- otherwise than it was recorded, and of which kinds one was asked for where none was left
pub record Progress : Type 0 where
  pub left : TapeParts
  pub taken : ℕ
  pub differs : Option Difference
  pub steps_ended : Bool
  pub readings_ended : Bool
  pub growths_ended : Bool

-- nothing was asked yet
abbrev pub at_start : TapeParts → Progress
at_start tape = record {
  left = tape;
  taken = 0;
  differs = None;
  steps_ended = false;
  readings_ended = false;
  growths_ended = false;
}

-- ---- what it answers, and how far it is then

-- a reading is the first one that is left; where none is, it is a fault
abbrev pub reading : List (Result ℕ EpochFailed) → Progress → Result ℕ EpochFailed × Progress
reading [] p = (Err (record {}), record p { readings_ended = true })
reading (answer ∷ rest) p = (answer, record p { left = record p.left { readings = rest } })

-- and so is the limiter's answer to a growth
abbrev pub growth : List (Result Bool LimiterFailed) → Progress → Result Bool LimiterFailed × Progress
growth [] p = (Err (record {}), record p { growths_ended = true })
growth (answer ∷ rest) p = (answer, record p { left = record p.left { growths = rest } })

-- a step that is asked for as the first one that is left comes to what that one came to, with the body's state after it.
-- Any other fails and leaves the state: where none is left, where it is asked for otherwise, and behind such a step
abbrev pub step : Option Difference → List TapedStep → Asked → Progress → (Say × ℕ) × Progress
step (Some d) steps q p = ((say.Fail, q.state), p)
step None [] q p = ((say.Fail, q.state), record p { steps_ended = true })
step None (x ∷ rest) q p =
    if is_asked (asked_of x) q
    then ((x.answer, x.next), record p { left = record p.left { steps = rest }; taken = p.taken + 1 })
    else ((say.Fail, q.state), record p { differs = Some (difference p.taken (asked_of x) q) })

-- a replay over the bodies below a number; no hook and no deadline behaviour is asked
abbrev pub Gives : ℕ → Progress → Question → Answer → Progress → Type 0
Gives bodies p (Having body) (Has answer) q = (answer ≡ nat_lt body bodies) × (q ≡ p)
Gives bodies p (Stepping body state event view) (Stepped after (Ok what)) q =
    step p.differs p.left.steps (asked body state event) p ≡ ((what, after), q)
Gives bodies p Reading (Read answer) q = reading p.left.readings p ≡ (answer, q)
Gives bodies p (Growing g) (Grown answer) q = growth p.left.growths p ≡ (answer, q)
Gives bodies p question answer q = ⊥

-- the same in a run that may be ended for want of memory: a step that had no memory for its answer changes nothing, and
-- neither does a hook or a deadline behaviour
abbrev pub GivesOrWants : ℕ → Progress → Question → Answer → Progress → Type 0
GivesOrWants bodies p (Stepping body state event view) (Stepped after (Err no_memory)) q = (after ≡ state) × (q ≡ p)
GivesOrWants bodies p (Passing event) (Passed answer) q = (answer ≡ Ok tt) × (q ≡ p)
GivesOrWants bodies p Behaving (Behaved answer) q = (answer ≡ Ok Interrupt) × (q ≡ p)
GivesOrWants bodies p question answer q = Gives bodies p question answer q

-- ---- how it ends

-- the first kind of which some is left
abbrev pub first_left : List TapedStep → List (Result ℕ EpochFailed) → List (Result Bool LimiterFailed) → ReplayEnd
first_left (x ∷ steps) readings growths = end.Left kind.Steps
first_left [] (x ∷ readings) growths = end.Left kind.Readings
first_left [] [] (x ∷ growths) = end.Left kind.Growths
first_left [] [] [] = end.Same

-- by the first step that differs; else by the first kind of which one was asked for where none was left; else by what is
-- left of the tape
abbrev pub ending_by : Option Difference → Progress → ReplayEnd
ending_by (Some d) p = end.Differs d.at d.recorded d.asked
ending_by None p =
    if p.steps_ended then end.Ended kind.Steps
    else (if p.readings_ended then end.Ended kind.Readings
    else (if p.growths_ended then end.Ended kind.Growths
    else first_left p.left.steps p.left.readings p.left.growths))

abbrev pub ending : Progress → ReplayEnd
ending p = ending_by p.differs p
