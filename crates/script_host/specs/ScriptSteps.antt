-- The host of a script: what a step of one of its bodies does, as a function. This project's own.
use Rattle.std.specs.Prelude.{◌≡◌, ℕ, ◌+◌, ◌≤◌, ℤ, List, [], ◌∷◌, ◌++◌, length, drop, Option, Some, None, Result, Ok, Err, slice_get}
use Rattle.wasm_types.specs.declared.faults.OutOfMemory.{OutOfMemory}
use Rattle.wasm_values.specs.declared.externals.Extern.{Extern}
use Rattle.wasm_values.specs.declared.values.Val.{Val}
use Rattle.wasm_meter.specs.Lists.{one_more}
use Rattle.spec_machine.specs.Names.{Scope, operand_values}
use Rattle.spec_machine.specs.declared.reply.Reply.{Reply}
use Rattle.spec_execution.specs.Askings.{View}
use Rattle.spec_execution.specs.declared.answer.Answer.{Answer}
use Rattle.spec_execution.specs.declared.answer.Answer.TheVariants.{Return, Fail, Call}
use Rattle.script_commands.specs.declared.host_bodies.Action.{Action}
use Rattle.script_commands.specs.declared.host_bodies.Action.TheVariants as action
use Rattle.script_data.specs.declared.script_data.ScriptData.{ScriptData}
use Rattle.script_host.specs.Notes.{note_text, notes_before, behind_notes}

-- a script's host: its bodies, each a list of actions; how often one of them has failed; and the notes that were taken
pub record HostParts : Type 0 where
  pub bodies : List (List Action)
  pub faults : ℕ
  pub notes : List (List ℕ)

abbrev pub host_parts : List (List Action) → ℕ → List (List ℕ) → HostParts
host_parts bodies faults notes = record { bodies = bodies; faults = faults; notes = notes }

-- ---- a step takes notes up to the first other action, and then does it

-- what it says, where names are looked up in what it sees. At the end of its list it returns no values
abbrev pub returned : Option (List Val) → Answer
returned None = Fail
returned (Some vals) = Return vals

abbrev pub says_by : Scope → Option Action → Answer
says_by s None = Return []
says_by s (Some (action.Note parts)) = Return []
says_by s (Some (action.Do op)) = Call op
says_by s (Some (action.Return operands)) = returned (operand_values s operands)
says_by s (Some action.Fail) = Fail

abbrev pub says : Scope → List Action → Answer
says s actions = says_by s (slice_get actions 0)

-- where names are looked up; no value comes of the instance whose code called
abbrev pub scope_in : List Val → List Reply → List Extern → Scope
scope_in arguments replies stored =
    record { replies = replies; arguments = arguments; stored = stored; caller = None }

-- the count of faults is one more where it fails
abbrev pub faults_after : Answer → ℕ → ℕ
faults_after Fail faults = one_more faults
faults_after _ faults = faults

-- the place behind the actions that were done, one of which may be other than a note
abbrev pub place_behind : ℕ → ℕ → List Action → ℕ
place_behind place taken [] = place + taken
place_behind place taken (other ∷ more) = place + taken + 1

-- the actions of a body from a place on; a body that is not there has none
abbrev pub from_place : ℕ → Option (List Action) → List Action
from_place place None = []
from_place place (Some actions) = drop place actions

abbrev pub actions_from : HostParts → ℕ → ℕ → List Action
actions_from h body place = from_place place (slice_get h.bodies body)

-- a step: the host after it, the state that it leaves, which is a place in the body, and what it says
pub record Step : Type 0 where
  pub host : HostParts
  pub state : ℕ
  pub answer : Answer

abbrev pub step_by : HostParts → ℕ → List (List ℕ) → List Action → Answer → Step
step_by h place taken rest answer = record {
  host = host_parts h.bodies (faults_after answer h.faults) (h.notes ++ taken);
  state = place_behind place (length taken) rest;
  answer = answer;
}

abbrev pub step_on : HostParts → ℤ → List Val → List Reply → List Extern → ℕ → List Action → Step
step_on h number arguments replies stored place actions =
    step_by h place (notes_before (note_text number arguments replies) actions) (behind_notes actions)
    (says (scope_in arguments replies stored) (behind_notes actions))

abbrev pub step : HostParts → ScriptData → ℕ → ℕ → View → Step
step h host_data body place view =
    step_on h host_data.number view.arguments view.replies view.stored place (actions_from h body place)

-- a step that says something goes so
abbrev pub Goes : HostParts → ℤ → List Val → List Reply → List Extern → ℕ → ℕ → Answer → ℕ → HostParts → Type 0
Goes h number arguments replies stored body place answer after k =
    record { host = k; state = after; answer = answer }
    ≡ step_on h number arguments replies stored place (actions_from h body place)

-- a step says something, or has no memory; then the host is as it was, its notes and its count among it. The host data
-- stays
abbrev pub Says : HostParts → ScriptData → ℕ → ℕ → View → ℕ → Result Answer OutOfMemory → HostParts → Type 0
Says h s body place view after (Ok answer) k =
    record { host = k; state = after; answer = answer } ≡ step h s body place view
Says h s body place view after (Err none) k = (k ≡ h) × (after ≡ place)

pub record Steps (h : HostParts) (s : ScriptData) (body place : ℕ) (view : View) (after : ℕ)
    (say : Result Answer OutOfMemory) (k : HostParts) (t : ScriptData) : Type 0 where
  pub goes : Says h s body place view after say k
  pub data_is : t ≡ s
  pub never_falls : h.faults ≤ k.faults
