-- A tape as JSON data, as it is read. This project's own format.
use Rattle.std.specs.Prelude.{ℕ, Bool, true, false, List, [], ◌∷◌, codes, is_some, if◌then◌else◌, Option, Some, None, Result, Ok, Err}
use Rattle.std.specs.Str.{bytes_eq}
use Rattle.serde_json.specs.Data.{Data}
use Rattle.serde_json.specs.Find.{as_number}
use Rattle.wasm_types.specs.Signatures.{Signature}
use Rattle.wasm_meter.specs.declared.faults.EpochFailed.{EpochFailed}
use Rattle.wasm_meter.specs.declared.faults.LimiterFailed.{LimiterFailed}
use Rattle.spec_execution.specs.declared.answer.Answer.{Answer}
use Rattle.spec_execution.specs.declared.answer.Answer.TheVariants as answer
use Rattle.spec_execution.specs.declared.answer.Event.{Event}
use Rattle.spec_execution.specs.declared.answer.Event.TheVariants as event
use Rattle.script_json.specs.Fields.{◌>>=◌, list_of, one_member, only, required, text, whole, yes}
use Rattle.law_replay.specs.Tapes.{TapeParts}
use Rattle.law_replay.specs.declared.step.TapedStep.{TapedStep}
use Rattle.tape_values.specs.OperandsRead.{val_in}
use Rattle.tape_readers.specs.Read.{op_in}

abbrev pub event_named : List ℕ → Option Event
event_named name =
    if bytes_eq name (codes "start") then Some event.Start else
    (if bytes_eq name (codes "replied") then Some event.Replied else None)

abbrev pub event_in : Data → Option Event
event_in d = text d >>= event_named

-- an answer is an object of one member: {"return": values}, {"fail": true} or {"call": operation}
abbrev pub answer_named : List Signature → List ℕ → Data → Option Answer
answer_named types kind d =
    if bytes_eq kind (codes "return") then (list_of val_in d >>= (λ vals. Some (answer.Return vals))) else
    (if bytes_eq kind (codes "fail") then (yes d >>= (λ _. Some answer.Fail)) else
    (if bytes_eq kind (codes "call") then (op_in types d >>= (λ operation. Some (answer.Call operation))) else None))

abbrev pub answer_in : List Signature → Data → Option Answer
answer_in types d = one_member d >>= (λ m. answer_named types m.0 m.1)

abbrev pub step_in : List Signature → Data → Option TapedStep
step_in types d = do
  _ ← only (codes "body" ∷ codes "state" ∷ codes "event" ∷ codes "answer" ∷ codes "next" ∷ []) d
  body ← required whole (codes "body") d
  state ← required whole (codes "state") d
  why ← required event_in (codes "event") d
  said ← required (answer_in types) (codes "answer") d
  next ← required whole (codes "next") d
  Some (record { body = body; state = state; event = why; answer = said; next = next })

-- a number of ticks, or "fault"
abbrev pub fault_named : List ℕ → Option (Result ℕ EpochFailed)
fault_named name = if bytes_eq name (codes "fault") then Some (Err (record {})) else None

abbrev pub ticks_in : Data → Option (Result ℕ EpochFailed)
ticks_in d = whole d >>= (λ ticks. Some (Ok ticks))

abbrev pub reading_in : Data → Option (Result ℕ EpochFailed)
reading_in d = if is_some (as_number d) then ticks_in d else (text d >>= fault_named)

-- "yes", "no" or "fault"
abbrev pub growth_named : List ℕ → Option (Result Bool LimiterFailed)
growth_named name =
    if bytes_eq name (codes "yes") then Some (Ok true) else
    (if bytes_eq name (codes "no") then Some (Ok false) else
    (if bytes_eq name (codes "fault") then Some (Err (record {})) else None))

abbrev pub growth_in : Data → Option (Result Bool LimiterFailed)
growth_in d = text d >>= growth_named

-- the tape that the data spells; the types are those that its operations may name
abbrev pub tape_in : List Signature → Data → Option TapeParts
tape_in types d = do
  _ ← only (codes "steps" ∷ codes "readings" ∷ codes "growths" ∷ []) d
  steps ← required (list_of (step_in types)) (codes "steps") d
  readings ← required (list_of reading_in) (codes "readings") d
  growths ← required (list_of growth_in) (codes "growths") d
  Some (record { steps = steps; readings = readings; growths = growths })
