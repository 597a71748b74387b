-- What the turns of a run come to, with the questions on its way and their answers. This project's own.
use Rattle.std.specs.Prelude.{◌≡◌, ℕ, ◌≤◌, ◌<◌, Bool, true, false, List, [], take}
use Rattle.wasm_syntax.specs.declared.instr.Instr.{Instr}
use Rattle.spec_execution.specs.Askings.{Question, Answer, Asking, Chain}
use Rattle.spec_execution.specs.Bodies.{instruction, exec}
use Rattle.spec_execution.specs.Checks.{check}
use Rattle.spec_execution.specs.Outcomes.{state, Values, Over}
use Rattle.code_stack.specs.Layers.{Configuration, frame_at, state_at, owing, means}
use Rattle.code_leaps.specs.Leading.{Doing, Setting, Leads, Stops, Halts}
use Rattle.code_stack.specs.Steps.{end_of, hosted}
use Rattle.code_stack.specs.declared.turns.Ended.{Ended}
use Rattle.code_stack.specs.declared.turns.Ending.{Ending}
use Rattle.code_stack.specs.declared.turns.Ending.TheVariants as ending
use Rattle.code_stack.specs.declared.turns.Turn.{Turn}
use Rattle.code_stack.specs.declared.turns.Turn.TheVariants as turn

-- an instruction that was passed, and of which no turn was taken yet
abbrev pub passing : Configuration → Instr → Doing
passing c j w = owing c (instruction exec (frame_at c) j c.code (state_at c w))

-- all that is done from a state, where the check before a function or a round of a loop is due, or is not
abbrev pub going : Bool → Configuration → Doing
going true c w = check w (means c)
going false c w = means c w

-- so many of the turns that are left, with these questions and answers, lead to this end
module _ {H : Type 0} (g : Setting H) (due : Doing) (h : H) (left spent : ℕ) (heard : List Asking)
    (new : Configuration) (h' : H) where
  abbrev pub EndsBy : Ending → Type 0
  EndsBy (ending.Fails f) = Leads g due h spent heard (λ w. Over (end_of f) w) h'
  EndsBy ending.Done =
      Leads g due h spent heard (λ w. Values (state w [] (take new.activation.results new.values.operands))) h'
  EndsBy (ending.Calls call) = Leads g due h spent heard (hosted new call) h'
  EndsBy ending.Limit = Stops g due h spent heard h' × (spent ≡ left)
  EndsBy ending.Exhausted = Halts g due h spent heard h'

  -- or on; then at least one turn was taken
  abbrev pub TurnsBy : Turn → Type 0
  TurnsBy turn.Goes = Leads g due h spent heard (going false new) h' × (0 < spent)
  TurnsBy turn.Checks = Leads g due h spent heard (going true new) h' × (0 < spent)
  TurnsBy (turn.Ends e) = EndsBy e

-- there are questions and answers by which what is outside went on, and at which it came to this
module _ {H W : Type 0} (g : Setting H) (moves : W → Question → Answer → W → Type 0) (due : Doing) (h : H) (t : W)
  where
    pub record Passes (spent : ℕ) (next : Doing) (h' : H) (t' : W) : Type 0 where
      pub heard : List Asking
      pub chain : Chain moves t heard t'
      pub leads : Leads g due h spent heard next h'

    pub record Turns (left : ℕ) (what : Turn) (spent : ℕ) (new : Configuration) (h' : H) (t' : W) : Type 0 where
      pub within : spent ≤ left
      pub heard : List Asking
      pub chain : Chain moves t heard t'
      pub turns : TurnsBy g due h left spent heard new h' what

    pub record Ends (left : ℕ) (ended : Ended) (new : Configuration) (h' : H) (t' : W) : Type 0 where
      pub within : ended.spent ≤ left
      pub heard : List Asking
      pub chain : Chain moves t heard t'
      pub ends : EndsBy g due h left ended.spent heard new h' ended.how
