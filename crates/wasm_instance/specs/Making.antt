-- The part of an instantiation behind its questions: the turn that makes the instance, and the start function.
-- WebAssembly core specification, "Execution, modules, instantiation"; turns and want of memory are this project's own
use Rattle.std.specs.Prelude.{◌≡◌, ℕ, suc, ◌≤◌, ◌<◌, ◌⊎◌, List, Some, Result, Ok, Err}
use Rattle.wasm_syntax.specs.Modules.{IsModule}
use Rattle.wasm_syntax.specs.declared.declarations.ModuleDecl.{ModuleDecl}
use Rattle.wasm_values.specs.declared.externals.Extern.{Extern}
use Rattle.wasm_values.specs.declared.handles.Instance.{Instance}
use Rattle.wasm_values.specs.declared.refusals.Refusal.{Refusal}
use Rattle.wasm_values.specs.declared.refusals.Refusal.TheVariants.{OutOfMemory}
use Rattle.spec_machine.specs.Machine.{Machine}
use Rattle.spec_machine.specs.WellFormed.{IsWellFormed}
use Rattle.spec_machine.specs.declared.reply.Reply.TheVariants as reply
use Rattle.spec_execution.specs.Bodies.{exec}
use Rattle.spec_execution.specs.Commands.{Finish, Early, by_run, instance_reply, replied}
use Rattle.spec_execution.specs.Instantiation.{imports_fit, Within, counted, making}
use Rattle.spec_execution.specs.Outcomes.{World}
use Rattle.wasm_call.specs.Outcomes.{Leads, answer_of, stop_of, lack_of}
use Rattle.wasm_call.specs.Outside.{Moving, Surrounded}
use Rattle.wasm_instance.specs.Asking.{AreGranted}

-- a store in which an instance may be made: behind the checks and the counts of an instantiation, where each growth is
-- granted
pub record IsReady (m : Machine) (d : ModuleDecl) (imports : List Extern) : Type 0 where
  pub before : Machine
  pub formed : IsWellFormed before
  pub module_is : IsModule d
  pub fits : imports_fit before d imports ≡ Ok tt
  pub within : counted before d ≡ Within m
  pub granted : AreGranted m d

-- as the last part of a command
abbrev pub making_finish : ModuleDecl → List Extern → World → Finish
making_finish d imports w = by_run Early (instance_reply w.machine) replied (making exec 0 d imports w)

-- memory ran out in it, after so many turns
pub record MakingCut {T H E : Type 0} (moves : Moving T H E) (d : ModuleDecl) (imports : List Extern) (turns : ℕ)
    (old new : Surrounded T H E) : Type 0 where
  pub led : Leads moves (λ w. stop_of (making_finish d imports w)) new.store.turns old (λ w. Some w) new
  pub within : new.store.turns ≤ turns

-- memory ran out in a step of a body of the host
pub record MakingLacked {T H E : Type 0} (moves : Moving T H E) (d : ModuleDecl) (imports : List Extern) (turns : ℕ)
    (old new : Surrounded T H E) : Type 0 where
  pub led : Leads moves (λ w. lack_of (making_finish d imports w)) (suc new.store.turns) old (λ w. Some w) new
  pub within : new.store.turns < turns

abbrev pub MakingFailed : {T H E : Type 0} → Moving T H E → ModuleDecl → List Extern → ℕ → Surrounded T H E →
    Refusal → Surrounded T H E → Type 0
MakingFailed moves d imports turns old OutOfMemory new =
    MakingCut moves d imports turns old new ⊎ MakingLacked moves d imports turns old new
MakingFailed moves d imports turns old why new =
    Leads moves (λ w. answer_of (making_finish d imports w)) turns old (λ w. Some (reply.Refused why, w)) new

-- with so many turns it came to this
abbrev pub Makes : {T H E : Type 0} → Moving T H E → ModuleDecl → List Extern → ℕ → Surrounded T H E →
    Result Instance Refusal → Surrounded T H E → Type 0
Makes moves d imports turns old (Ok instance) new =
    Leads moves (λ w. answer_of (making_finish d imports w)) turns old (λ w. Some (reply.Instance instance, w)) new
Makes moves d imports turns old (Err why) new = MakingFailed moves d imports turns old why new
