-- A start function, which is entered with the new instance as the one whose code calls, as a part of an instantiation.
-- WebAssembly core specification, "Execution, modules, instantiation"; turns and want of memory are this project's own
use Rattle.std.specs.Prelude.{◌≡◌, ℕ, suc, ◌≤◌, ◌<◌, ◌⊎◌, List, [], Some, ⊤, Result, Ok, Err}
use Rattle.wasm_values.specs.declared.refusals.Refusal.{Refusal}
use Rattle.wasm_values.specs.declared.refusals.Refusal.TheVariants.{OutOfMemory}
use Rattle.wasm_values.specs.declared.refusals.Refusal.TheVariants as refusal
use Rattle.spec_machine.specs.Machine.{Machine}
use Rattle.spec_machine.specs.declared.reply.Reply.{Reply}
use Rattle.spec_machine.specs.declared.reply.Reply.TheVariants.{Refused}
use Rattle.spec_execution.specs.Askings.{Answer, Asking}
use Rattle.spec_execution.specs.Bodies.{exec}
use Rattle.spec_execution.specs.Commands.{Finish, Early, by_run, replied}
use Rattle.spec_execution.specs.Entering.{entry}
use Rattle.spec_execution.specs.Outcomes.{World, world, Outcome}
use Rattle.law_code.specs.Answers.{AreTyped}
use Rattle.law_code.specs.Good.{IsReturned}
use Rattle.code_hosts.specs.declared.replies.How.{How}
use Rattle.code_hosts.specs.declared.replies.How.TheVariants as how
use Rattle.wasm_call.specs.Outcomes.{Leads, answer_of, stop_of, lack_of}
use Rattle.wasm_call.specs.Outside.{Moving, Surrounded}

-- the function of a number in the store, entered by the code of this instance
abbrev pub starting : ℕ → ℕ → World → Outcome
starting n instance w = entry exec 0 n [] (Some instance) w

-- as the last part of a command, which has this reply where it returns
abbrev pub start_finish : ℕ → ℕ → Reply → World → Finish
start_finish n instance answer w = by_run Early (λ s. answer) replied (starting n instance w)

-- by the law of code it ends with nothing, or early, but it is never stuck
abbrev pub IsSafeStart : Machine → ℕ → ℕ → Type 0
IsSafeStart m n instance =
    (turns : ℕ) (heard : List Asking) (answers : List Answer) → turns < 1000000000 → AreTyped answers →
    (base : World) × IsReturned base [] (starting n instance (world m turns heard answers))

-- memory ran out in it, after so many turns
pub record StartCut {T H E : Type 0} (moves : Moving T H E) (n instance : ℕ) (answer : Reply) (turns : ℕ)
    (old new : Surrounded T H E) : Type 0 where
  pub led : Leads moves (λ w. stop_of (start_finish n instance answer w)) new.store.turns old (λ w. Some w) new
  pub within : new.store.turns ≤ turns

-- memory ran out in a step of a body of the host
pub record StartLacked {T H E : Type 0} (moves : Moving T H E) (n instance : ℕ) (answer : Reply) (turns : ℕ)
    (old new : Surrounded T H E) : Type 0 where
  pub led : Leads moves (λ w. lack_of (start_finish n instance answer w)) (suc new.store.turns) old (λ w. Some w) new
  pub within : new.store.turns < turns

abbrev pub StartFailed : {T H E : Type 0} → Moving T H E → ℕ → ℕ → Reply → ℕ → Surrounded T H E → Refusal →
    Surrounded T H E → Type 0
StartFailed moves n instance answer turns old OutOfMemory new =
    StartCut moves n instance answer turns old new ⊎ StartLacked moves n instance answer turns old new
StartFailed moves n instance answer turns old why new =
    Leads moves (λ w. answer_of (start_finish n instance answer w)) turns old (λ w. Some (Refused why, w)) new

-- with so many turns it came to this
abbrev pub Started : {T H E : Type 0} → Moving T H E → ℕ → ℕ → Reply → ℕ → Surrounded T H E → Result ⊤ Refusal →
    Surrounded T H E → Type 0
Started moves n instance answer turns old (Ok _) new =
    Leads moves (λ w. answer_of (start_finish n instance answer w)) turns old (λ w. Some (answer, w)) new
Started moves n instance answer turns old (Err why) new = StartFailed moves n instance answer turns old why new

-- what a host is told of a run
abbrev pub TellsStart : How → Result ⊤ Refusal → Type 0
TellsStart (how.Returned v) told = told ≡ Ok tt
TellsStart (how.Trapped t) told = told ≡ Err (refusal.Trap t)
TellsStart (how.Refused why) told = told ≡ Err why
TellsStart how.TurnLimit told = told ≡ Err refusal.TurnLimit
TellsStart how.Stuck told = ⊥
