-- Questions to what is outside of the store, and its answers: this project's own.
use Rattle.std.specs.Prelude.{◌≡◌, ℕ, Bool, true, false, List, [], ◌∷◌, map, Option, Result, ⊤}
use Rattle.wasm_syntax.specs.declared.entities.EntityIndex.{EntityIndex}
use Rattle.wasm_types.specs.declared.faults.OutOfMemory.{OutOfMemory}
use Rattle.wasm_meter.specs.Growths.{Growth}
use Rattle.wasm_meter.specs.declared.call_hook.CallHook.{CallHook}
use Rattle.wasm_meter.specs.declared.deadline.UpdateDeadline.{UpdateDeadline}
use Rattle.wasm_meter.specs.declared.faults.BehaviourFailed.{BehaviourFailed}
use Rattle.wasm_meter.specs.declared.faults.EpochFailed.{EpochFailed}
use Rattle.wasm_meter.specs.declared.faults.HookFailed.{HookFailed}
use Rattle.wasm_meter.specs.declared.faults.LimiterFailed.{LimiterFailed}
use Rattle.wasm_values.specs.declared.externals.Extern.{Extern}
use Rattle.wasm_values.specs.declared.refusals.Refusal.{Refusal}
use Rattle.wasm_values.specs.declared.values.Val.{Val}
use Rattle.spec_machine.specs.Machine.{EngineParts}
use Rattle.spec_machine.specs.declared.reply.Reply.{Reply}
use Rattle.spec_execution.specs.declared.answer.Answer.{Answer as Say}
use Rattle.spec_execution.specs.declared.answer.Event.{Event}

-- an export of the instance whose code called: its name, what it names in the module, and the object
pub record Exported : Type 0 where
  pub name : List ℕ
  pub entity : EntityIndex
  pub object : Option Extern

-- the instance whose code called: its module's number, and its exports
pub record Caller : Type 0 where
  pub number : ℕ
  pub exports : List Exported

-- what a step of a host function's body sees: its arguments, the objects stored with the function, the replies to its
-- operations so far, the instance whose code called, the engine, and the fuel where the engine consumes it
pub record View : Type 0 where
  pub arguments : List Val
  pub stored : List Extern
  pub replies : List Reply
  pub caller : Option Caller
  pub engine : EngineParts
  pub fuel : Result ℕ Refusal

pub data Question : Type 0 where
  -- whether a memory or a table may grow
  Growing : Growth → Question
  -- whether the host has a body of this number
  Having : ℕ → Question
  -- a call passes a border between host and guest code
  Passing : CallHook → Question
  -- the epoch
  Reading : Question
  -- what is done at the deadline
  Behaving : Question
  -- the next step of a body of the host: its number, and its state
  Stepping : ℕ → ℕ → Event → View → Question

pub data Answer : Type 0 where
  Grown : Result Bool LimiterFailed → Answer
  Has : Bool → Answer
  Passed : Result ⊤ HookFailed → Answer
  Read : Result ℕ EpochFailed → Answer
  Behaved : Result UpdateDeadline BehaviourFailed → Answer
  -- the body's new state, and what the step comes to
  Stepped : ℕ → Result Say OutOfMemory → Answer

-- a question with its answer
abbrev pub Asking : Type 0
Asking = Question × Answer

-- the answers that were given
abbrev pub answers_in : List Asking → List Answer
answers_in heard = map (λ (asking : Asking). asking.1) heard

-- an answer of the question's kind
abbrev pub is_answer : Question → Answer → Bool
is_answer (Growing g) (Grown answer) = true
is_answer (Having body) (Has answer) = true
is_answer (Passing event) (Passed answer) = true
is_answer Reading (Read answer) = true
is_answer Behaving (Behaved answer) = true
is_answer (Stepping body state event view) (Stepped after say) = true
is_answer q a = false

-- all that is outside
pub record Outside (T H E : Type 0) : Type 0 where
  pub host_data : T
  pub host : H
  pub epochs : E

-- how each of these goes from one state to another by an answer
pub record Relations (T H E : Type 0) : Type 1 where
  pub growths : T → Growth → Result Bool LimiterFailed → T → Type 0
  pub has : H → ℕ → Bool
  pub hooks : T → CallHook → Result ⊤ HookFailed → T → Type 0
  pub readings : E → Result ℕ EpochFailed → E → Type 0
  pub behaves : T → Result UpdateDeadline BehaviourFailed → T → Type 0
  pub steps : H → T → ℕ → ℕ → Event → View → ℕ → Result Say OutOfMemory → H → T → Type 0

-- and how the outside goes: a limiter, a hook and a behaviour change the host data alone, a reading the epoch source
-- alone, a step the host and the host data, and whether there is a body changes nothing
abbrev pub Moves : {T H E : Type 0} → Relations T H E → Outside T H E → Question → Answer → Outside T H E → Type 0
Moves {T} r old (Growing g) (Grown answer) new =
    (t : T) × r.growths old.host_data g answer t × (new ≡ record old { host_data = t })
Moves r old (Having body) (Has answer) new = (answer ≡ r.has old.host body) × (new ≡ old)
Moves {T} r old (Passing event) (Passed answer) new =
    (t : T) × r.hooks old.host_data event answer t × (new ≡ record old { host_data = t })
Moves {E = E} r old Reading (Read answer) new =
    (e : E) × r.readings old.epochs answer e × (new ≡ record old { epochs = e })
Moves {T} r old Behaving (Behaved answer) new =
    (t : T) × r.behaves old.host_data answer t × (new ≡ record old { host_data = t })
Moves r old (Stepping body state event view) (Stepped after say) new =
    r.steps old.host old.host_data body state event view after say new.host new.host_data × (new.epochs ≡ old.epochs)
Moves r old q a new = ⊥

-- the outside gave these answers to these questions, each in turn
abbrev pub Chain : {W : Type 0} → (W → Question → Answer → W → Type 0) → W → List Asking → W → Type 0
Chain moves old [] new = new ≡ old
Chain moves old (asking ∷ heard) new = (mid : _) × moves old asking.0 asking.1 mid × Chain moves mid heard new
