-- A step of a body of the host that is due in an open call: what it is asked, and what is open behind its answer. This
-- project's own.
use Rattle.std.specs.Prelude.{◌≡◌, ℕ, suc, [], ◌∷◌, List, Ok}
use Rattle.spec_machine.specs.Commands.{Row}
use Rattle.spec_machine.specs.Commands as command
use Rattle.spec_machine.specs.FunctionCalls.{Called}
use Rattle.spec_machine.specs.Machine.{Machine}
use Rattle.spec_machine.specs.Names.{Scope}
use Rattle.spec_machine.specs.declared.operation.Op.{Op}
use Rattle.spec_machine.specs.declared.reply.Reply.{Reply}
use Rattle.spec_execution.specs.Activations.{Activation, view, scope_of, replied}
use Rattle.spec_execution.specs.Askings.{Question, Stepping, Stepped, Asking}
use Rattle.spec_execution.specs.Bodies.{exec}
use Rattle.spec_execution.specs.Commands.{by_run, call_reply, invoke, operation}
use Rattle.spec_execution.specs.Entering.{Step}
use Rattle.spec_execution.specs.Hosts.{said, go_on}
use Rattle.spec_execution.specs.Outcomes.{World, state, Outcome, Over, Stopped, Waiting}
use Rattle.spec_execution.specs.declared.answer.Answer.{Answer as Say}
use Rattle.spec_execution.specs.declared.answer.Event.{Event}
use Rattle.spec_execution.specs.declared.answer.Event.TheVariants.{Replied}
use Rattle.law_open.specs.Opens.{Leads, Open, opened}

-- what is around a function passes on an end for want of a turn, or of an answer
pub record Passes (around : Outcome → Outcome) : Type 0 where
  pub stopped : (w : World) → around (Over Stopped w) ≡ Over Stopped w
  pub waiting : (q : Question) (w : World) → around (Over (Waiting q) w) ≡ Over (Waiting q) w

-- the next thing that is due is a step of a body: its function, why it is stepped, and what is done with how that function
-- ends
pub record StepDue (x : Open) : Type 0 where
  pub activation : Activation
  pub event : Event
  pub around : Outcome → Outcome
  pub due : (w : World) → x.due w ≡ around (exec (Step activation event) (state w [] []))
  pub passes : Passes around

-- what is asked there: the body, its state, why, and what a step sees in the store as it is
abbrev pub asked : (x : Open) → StepDue x → Question
asked x s = Stepping s.activation.body s.activation.state s.event (view x.machine s.activation)

-- the answer: the body's new state, and what it says
abbrev pub answering : (x : Open) → StepDue x → ℕ → Say → List Asking
answering x s after what = (asked x s, Stepped after (Ok what)) ∷ []

-- its function behind the answer, with the new state
abbrev pub with_state : {x : Open} → StepDue x → ℕ → Activation
with_state s after = record s.activation { state = after }

-- the open call behind it: a turn was made, and what was said is done
abbrev pub answered : (x : Open) → StepDue x → ℕ → Say → Open
answered x s after what =
    opened x.machine (suc x.made) (λ w. s.around (said exec (with_state s after) what w))

-- ---- where it asks for an operation

-- an operation among so many open functions, whose names are looked up in a scope, comes to this reply with so many turns
-- and what is heard, whatever follows it
abbrev pub ComesTo : ℕ → Scope → Op → Machine → ℕ → List Asking → Reply → Machine → Type 0
ComesTo depth scope op m spent heard reply n =
    (go : World → Reply → Outcome) →
    Leads (λ w. operation Over exec depth scope op w go) m spent heard (λ w. go w reply) n

-- so does the operation that a step asks for, in the store as it is
abbrev pub AskedComesTo : (x : Open) → StepDue x → ℕ → Op → ℕ → List Asking → Reply → Machine → Type 0
AskedComesTo x s after op spent heard reply n =
    ComesTo (suc s.activation.depth) (scope_of x.machine (with_state s after)) op x.machine spent heard reply n

-- the open call in which the operation has a reply: the next step is due, which sees it
abbrev pub told_reply : (x : Open) → StepDue x → ℕ → Reply → ℕ → Machine → Open
told_reply x s after reply made m =
    opened m made (λ w. s.around (exec (Step (replied (with_state s after) reply) Replied) (state w [] [])))

-- the row of the operation
abbrev pub asked_row : (x : Open) → StepDue x → ℕ → Op → Row
asked_row x s after op = command.operation x.machine (scope_of x.machine (with_state s after)) op

-- what is around the call of a function that it asks for: the step behind its reply
abbrev pub around_call : {x : Open} → StepDue x → ℕ → Called → Outcome → Outcome
around_call s after c o = s.around (by_run Over (call_reply c) (go_on exec (with_state s after)) o)

-- the open call in which that function is called
abbrev pub inner_call : (x : Open) → StepDue x → ℕ → Called → Open
inner_call x s after c =
    opened x.machine (suc x.made) (λ w. around_call s after c (invoke exec (suc s.activation.depth) w c))
