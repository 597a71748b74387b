-- As many turns as ask nothing, one after another. This project's own.
use Rattle.std.specs.Prelude.{◌≡◌, ℕ, ◌+◌, ◌≤◌, ◌<◌, [], Bool, true, false}
use Rattle.wasm_syntax.specs.declared.instr.Instr.{Instr}
use Rattle.wasm_syntax.specs.declared.instr.Instr.TheVariants as i
use Rattle.spec_execution.specs.Costs.{is_bulk}
use Rattle.spec_execution.specs.Outcomes.{Over, Trapped, Stuck}
use Rattle.store_state.specs.Parts.{ProgramParts, HeldParts}
use Rattle.code_stack.specs.Layers.{Configuration, means}
use Rattle.code_leaps.specs.Leading.{Doing, Setting, Leads}
use Rattle.code_leaps.specs.Rounds.{IsFree}
use Rattle.code_leaps.specs.Running.{ruled, charged}
use Rattle.code_leaps.specs.Spending.{turn_of}
use Rattle.code_run.specs.Steps.{seen}
use Rattle.code_leaps.specs.Turns.{passing, TurnsBy}
use Rattle.code_stack.specs.declared.rules.Rules.{Rules}
use Rattle.code_run.specs.declared.spins.Beat.{Beat}
use Rattle.code_run.specs.declared.spins.Beat.TheVariants as beat
use Rattle.code_run.specs.declared.spins.Growing.{Growing}
use Rattle.code_run.specs.declared.spins.Growing.TheVariants as growing
use Rattle.code_straight.specs.declared.acted.Acted.{Acted}
use Rattle.code_straight.specs.declared.acted.Acted.TheVariants as acted
use Rattle.code_run.specs.declared.steps.Signal.{Signal}
use Rattle.code_run.specs.declared.steps.Signal.TheVariants as signal
use Rattle.code_stack.specs.declared.turns.Ending.TheVariants as ending
use Rattle.code_stack.specs.declared.turns.Turn.{Turn}
use Rattle.code_stack.specs.declared.turns.Turn.TheVariants as turn
use Rattle.code_run.specs.declared.thread.Thread.{Thread}

-- what is done behind instructions that lead to no other code
abbrev pub going_on : Acted → Configuration → Doing
going_on acted.Goes new = means new
going_on (acted.Traps t) new = λ w. Over (Trapped t) w
going_on acted.Sticks new = λ w. Over Stuck w

-- under each of the rules by which checks pass before so many turns, so many turns lead there
abbrev pub Stretches : ProgramParts → ℕ → HeldParts → Thread → ℕ → ℕ → Acted → HeldParts → Thread → Type 0
Stretches program frames held old free spent what held_after new =
    (rules : Rules) (owed : ℕ) → rules.frames ≡ frames → IsFree rules held.fuel owed free →
    Leads (ruled program rules) (means (seen old)) (charged rules.consumes_fuel held owed) spent []
    (going_on what (seen new)) (charged rules.consumes_fuel held_after (owed + spent))

-- the instruction that is a growth
abbrev pub growth_instr : Growing → Instr
growth_instr (growing.Memory k) = i.MemoryGrow k
growth_instr (growing.Table k) = i.TableGrow k

-- what comes behind turns that ask nothing: the turn of a growth or of a bulk form that was passed, or what the last
-- instruction came to
pub data Ahead : Type 0 where
  Grown : Growing → Ahead
  Metered : Instr → Ahead
  Stepped : Turn → Ahead

-- of which the thread says how a run ends or pauses, and which bulk form was passed
abbrev pub ahead_of : Beat → Thread → Ahead
ahead_of beat.Goes t = Stepped turn.Goes
ahead_of beat.Checks t = Stepped turn.Checks
ahead_of beat.Ends t = Stepped (turn_of t.step)
ahead_of beat.Limit t = Stepped (turn.Ends ending.Limit)
ahead_of beat.Exhausted t = Stepped (turn.Ends ending.Exhausted)
ahead_of beat.Meters t = Metered t.bulk
ahead_of (beat.Grows x) t = Grown x

-- neither a growth nor a bulk form
abbrev pub IsTurn : Beat → Type 0
IsTurn (beat.Grows x) = ⊥
IsTurn beat.Meters = ⊥
IsTurn _ = Unit {0}

-- so many of the turns that are left lead there
module _ {H : Type 0} (g : Setting H) (due : Doing) (h : H) (left spent : ℕ) (new : Configuration) (h' : H) where
  abbrev pub SpinsBy : Ahead → Type 0
  SpinsBy (Grown x) = Leads g due h spent [] (passing new (growth_instr x)) h'
  SpinsBy (Metered j) = Leads g due h spent [] (passing new j) h' × (is_bulk j ≡ true)
  SpinsBy (Stepped what) = TurnsBy g due h left spent [] new h' what

pub record Spins {H : Type 0} (g : Setting H) (due : Doing) (h : H) (left : ℕ) (what : Ahead) (spent : ℕ)
    (new : Configuration) (h' : H) : Type 0 where
  pub within : spent ≤ left
  pub spins : SpinsBy g due h left spent new h' what

-- what goes on took a turn
abbrev pub Moves : Beat → ℕ → Type 0
Moves beat.Goes spent = 0 < spent
Moves beat.Checks spent = 0 < spent
Moves _ spent = Unit {0}

-- turns that lead there behind so many others, whatever led there
abbrev pub SpinsBehind : Setting HeldParts → Bool → ℕ → ℕ → Thread → HeldParts → Ahead → ℕ → Configuration → HeldParts →
    Type 0
SpinsBehind g consumes spent left old held what more new held_after =
    (due : Doing) (first : HeldParts) (owed : ℕ) →
    Leads g due (charged consumes first owed) spent [] (means (seen old)) (charged consumes held (owed + spent)) →
    Spins g due (charged consumes first owed) (spent + left) what more new (charged consumes held_after (owed + more))

abbrev pub beat_of : Signal → Beat
beat_of signal.Goes = beat.Goes
beat_of signal.Checks = beat.Checks
beat_of signal.Ends = beat.Ends

-- whether the next instruction comes at once, where a check passes or may not
abbrev pub goes_on : Beat → Bool → Bool
goes_on beat.Goes passes = true
goes_on beat.Checks passes = passes
goes_on _ passes = false
