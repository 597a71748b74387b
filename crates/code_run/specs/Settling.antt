-- What is done between instructions: blocks and functions that have ended are left.
-- WebAssembly core specification, "Execution, instructions": exiting blocks, returning from a function
use Rattle.std.specs.Prelude.{◌≡◌, ◌≢◌, ℕ, ◌<◌, [], Bool, true, false, Option, Some, None}
use Rattle.wasm_syntax.specs.declared.instr.Instr.{Instr}
use Rattle.spec_execution.specs.Outcomes.{World}
use Rattle.code_stack.specs.Layers.{means}
use Rattle.code_stack.specs.Steps.{Comes}
use Rattle.code_run.specs.Steps.{IsOver, seen}
use Rattle.code_leaps.specs.Turns.{passing}
use Rattle.code_stack.specs.declared.steps.Step.{Step}
use Rattle.code_stack.specs.declared.steps.Step.TheVariants as step
use Rattle.code_run.specs.declared.thread.Thread.{Thread}

-- what is done is what was due, and an instruction is next; or it is the end
abbrev pub Settles : Thread → Bool → Thread → Type 0
Settles old true new = ((w : World) → means (seen old) w ≡ means (seen new) w) × (new.code.now ≢ [])
Settles old false new = ((w : World) → Comes (means (seen old) w) new.step (seen new) w) × IsOver new.step

-- an instruction was passed, or there was none
abbrev pub Passes : Thread → Option Instr → Thread → Type 0
Passes old (Some j) new = (w : World) → means (seen old) w ≡ passing (seen new) j w
Passes old None new = (new ≡ old) × (old.code.now ≡ [])

-- a step that enters nothing: where it goes on, fewer blocks and calls are open
abbrev pub IsShorter : Step → ℕ → ℕ → Type 0
IsShorter step.Goes old new = new < old
IsShorter step.Checks old new = ⊥
IsShorter (step.Calls call) old new = ⊥
IsShorter _ old new = Unit {0}
