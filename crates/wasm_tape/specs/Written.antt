-- A tape as JSON data, as it is written: members stand in the order of their keys. This project's own format.
use Rattle.std.specs.Prelude.{ℕ, Bool, true, false, List, codes, Option, Some, Result, Ok, Err}
use Rattle.std.specs.List.{AllByRecursion}
use Rattle.serde_json.specs.Data as json
use Rattle.serde_json.specs.Data.{Data, no_members, member}
use Rattle.wasm_types.specs.Signatures.{Signature}
use Rattle.wasm_values.specs.declared.values.Val.{Val}
use Rattle.wasm_meter.specs.declared.faults.EpochFailed.{EpochFailed}
use Rattle.wasm_meter.specs.declared.faults.LimiterFailed.{LimiterFailed}
use Rattle.spec_execution.specs.declared.answer.Answer.{Answer}
use Rattle.spec_execution.specs.declared.answer.Answer.TheVariants as answer
use Rattle.spec_execution.specs.declared.answer.Event.{Event}
use Rattle.spec_execution.specs.declared.answer.Event.TheVariants as event
use Rattle.script_json.specs.Fields.{◌>>=◌}
use Rattle.law_replay.specs.Tapes.{TapeParts}
use Rattle.law_replay.specs.declared.step.TapedStep.{TapedStep}
use Rattle.tape_values.specs.Operands.{val_data, ValInRange}
use Rattle.tape_values.specs.Writing.{whole_data, text_data, one_data, list_data}
use Rattle.tape_writers.specs.Written.{op_data, OpInRange}

abbrev pub event_data : Event → Data
event_data event.Start = text_data (codes "start")
event_data event.Replied = text_data (codes "replied")

-- a value that a function returns, as an item of a list
abbrev pub returned_data : Val → Option Data
returned_data val = Some (val_data val)

-- what a step came to, or none where a function type in it equals none of the types
abbrev pub answer_data : List Signature → Answer → Option Data
answer_data types (answer.Return vals) = list_data returned_data vals >>= (λ values. Some (one_data (codes "return") values))
answer_data types answer.Fail = Some (one_data (codes "fail") (json.boolean true))
answer_data types (answer.Call operation) = op_data types operation >>= (λ command. Some (one_data (codes "call") command))

abbrev pub step_by : TapedStep → Data → Data
step_by s said =
    json.object (member (codes "answer") said (member (codes "body") (whole_data s.body)
    (member (codes "event") (event_data s.event) (member (codes "next") (whole_data s.next)
    (member (codes "state") (whole_data s.state) no_members)))))

abbrev pub step_data : List Signature → TapedStep → Option Data
step_data types s = answer_data types s.answer >>= (λ said. Some (step_by s said))

-- a number of ticks, or "fault"
abbrev pub reading_data : Result ℕ EpochFailed → Option Data
reading_data (Ok ticks) = Some (whole_data ticks)
reading_data (Err fault) = Some (text_data (codes "fault"))

-- "yes", "no" or "fault"
abbrev pub growth_data : Result Bool LimiterFailed → Option Data
growth_data (Ok true) = Some (text_data (codes "yes"))
growth_data (Ok false) = Some (text_data (codes "no"))
growth_data (Err fault) = Some (text_data (codes "fault"))

abbrev pub tape_by : Data → Data → Data → Data
tape_by steps readings growths =
    json.object (member (codes "growths") growths (member (codes "readings") readings (member (codes "steps") steps no_members)))

-- what is written of a tape, or none where a function type on it equals none of the types
abbrev pub tape_data : List Signature → TapeParts → Option Data
tape_data types t = do
  steps ← list_data (step_data types) t.steps
  readings ← list_data reading_data t.readings
  growths ← list_data growth_data t.growths
  Some (tape_by steps readings growths)

-- each number on a tape is one of its type
abbrev pub AnswerInRange : Answer → Type 0
AnswerInRange (answer.Return vals) = AllByRecursion ValInRange vals
AnswerInRange answer.Fail = Unit {0}
AnswerInRange (answer.Call operation) = OpInRange operation

abbrev pub StepInRange : TapedStep → Type 0
StepInRange s = AnswerInRange s.answer

abbrev pub TapeInRange : TapeParts → Type 0
TapeInRange t = AllByRecursion StepInRange t.steps
