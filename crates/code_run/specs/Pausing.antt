-- A thread of guest code from outside: what is due of it, what a slice of its run comes to, its results, and how it goes on
-- behind a function of the host.
-- This project's own; WebAssembly core specification, "Execution, instructions": function calls.
use Rattle.std.specs.Prelude.{◌≡◌, ◌≤◌, ◌<◌, ℕ, true, List, [], reverse, take, Some}
use Rattle.wasm_objects.specs.declared.raw.RawVal.{RawVal}
use Rattle.spec_execution.specs.Askings.{Question, Answer}
use Rattle.spec_execution.specs.Outcomes.{World, state, Values}
use Rattle.code_stack.specs.Layers.{Configuration, resumed}
use Rattle.code_leaps.specs.Leading.{Doing, Setting, halted}
use Rattle.code_stack.specs.Steps.{taken_by}
use Rattle.code_run.specs.Steps.{seen}
use Rattle.code_leaps.specs.Turns.{going, Passes}
use Rattle.code_stack.specs.declared.steps.HostCall.{HostCall}
use Rattle.code_stack.specs.declared.turns.Ended.{Ended}
use Rattle.code_run.specs.declared.thread.Thread.{Thread}
use Rattle.code_run.specs.declared.turns.Went.{Went}
use Rattle.code_run.specs.declared.turns.Went.TheVariants as went

-- what is due of a thread: one that was started begins with the check of its function
abbrev pub due : Thread → Doing
due t = going t.unchecked (seen t)

-- what a slice of a run came to, where it ended or stands, and where it pauses
abbrev pub IfEnds : Went → (Ended → Type 0) → Type 0
IfEnds (went.Ends ended) P = P ended
IfEnds (went.Pauses spent) P = Unit {0}

abbrev pub IfPauses : Went → (ℕ → Type 0) → Type 0
IfPauses (went.Ends ended) P = Unit {0}
IfPauses (went.Pauses spent) P = P spent

abbrev pub turns_of : Went → ℕ
turns_of (went.Ends ended) = ended.spent
turns_of (went.Pauses spent) = spent

-- a run pauses behind a slice of turns, and behind one at the least: with some questions and answers they lead to what is
-- due of the thread as it is then, which begins with a check, as one that was just started does
pub record Pauses {H W : Type 0} (g : Setting H) (moves : W → Question → Answer → W → Type 0) (first : Doing) (h : H)
    (t : W) (turns slice spent : ℕ) (new : Thread) (h' : H) (t' : W) : Type 0 where
  pub within : spent ≤ turns
  pub whole : slice ≤ spent
  pub some : 0 < spent
  pub checks : new.unchecked ≡ true
  pub passes : Passes g moves first h t spent (due new) h' t'

-- the results of a thread that is done, in order
abbrev pub results_at : Configuration → List RawVal
results_at c = reverse (take c.activation.results c.values.operands)

-- a thread that waits for a function of the host goes on with these results
abbrev pub Resumes : Thread → HostCall → List RawVal → Thread → Type 0
Resumes old call results new =
    (w : World) → resumed (seen old) (taken_by call) (Values (state w [] (reverse results))) ≡ due new w

-- and with no turns left nothing is done
abbrev pub ResumeWaits : Thread → HostCall → List RawVal → Type 0
ResumeWaits old call results =
    (w : World) → w.turns ≡ 0 →
    halted (resumed (seen old) (taken_by call) (Values (state w [] (reverse results)))) ≡ Some w
