-- What goes through a run, and how code ends. Turns, questions and answers are this project's own.
use Rattle.std.specs.Prelude.{ℕ, zero, suc, ◌++◌, List, [], ◌∷◌, if◌then◌else◌}
use Rattle.wasm_objects.specs.declared.raw.RawVal.{RawVal}
use Rattle.wasm_values.specs.declared.refusals.Refusal.{Refusal}
use Rattle.wasm_values.specs.declared.refusals.Trap.{Trap}
use Rattle.spec_machine.specs.Changes.{charge}
use Rattle.spec_machine.specs.Machine.{Machine}
use Rattle.spec_execution.specs.Askings.{Question, Answer, Asking, is_answer}

-- the store, the turns that are left, the questions that were asked with what was answered, and the answers that are
-- left
pub record World : Type 0 where
  pub machine : Machine
  pub turns : ℕ
  pub heard : List Asking
  pub answers : List Answer

abbrev pub world : Machine → ℕ → List Asking → List Answer → World
world m turns heard answers = record { machine = m; turns = turns; heard = heard; answers = answers }

-- and with them the locals and the operands of the code at hand, the topmost operand first
pub record State : Type 0 where
  pub world : World
  pub locals : List RawVal
  pub operands : List RawVal

abbrev pub state : World → List RawVal → List RawVal → State
state w locals operands = record { world = w; locals = locals; operands = operands }

-- why a run ends early
pub data End : Type 0 where
  Trapped : Trap → End
  Refused : Refusal → End
  -- a turn was due and none was left
  Stopped : End
  -- a question has no answer, or the next one is of another kind
  Waiting : Question → End
  -- a step of the host had no memory
  Exhausted : End
  -- operands that fit no rule
  Stuck : End

-- how code ends: at its end, by a branch to the label so many outwards, by a return from its function, or early
-- WebAssembly core specification, "Execution, instructions, control instructions"
pub data Outcome : Type 0 where
  Values : State → Outcome
  Branch : ℕ → State → Outcome
  Return : State → Outcome
  Over : End → World → Outcome

-- turns and questions of anything that may end early
module _ {O : Type 0} (early : End → World → O) where
  -- a turn; where none is left, the run is stopped before it
  abbrev pub on_turn : World → (World → O) → ℕ → O
  on_turn w go zero = early Stopped w
  on_turn w go (suc turns) = go (record w { turns = turns })

  abbrev pub turn : World → (World → O) → O
  turn w go = on_turn w go w.turns

  -- the next answer, which is of the question's kind
  abbrev pub hear : World → Question → (Answer → World → O) → List Answer → O
  hear w q go [] = early (Waiting q) w
  hear w q go (a ∷ answers) =
      if is_answer q a then go a (record w { heard = w.heard ++ (q, a) ∷ []; answers = answers })
      else early (Waiting q) w

  -- a question that takes a turn
  abbrev pub ask : World → Question → (Answer → World → O) → O
  ask w q go = turn w (λ v. hear v q go v.answers)

-- the turn of an instruction, which takes so much fuel; the wasmtime crate charges as it goes, too
abbrev pub spend : ℕ → World → (World → Outcome) → Outcome
spend amount w go = turn Over w (λ v. go (record v { machine = charge v.machine amount }))
