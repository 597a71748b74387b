-- What is written of a tape is read as it was.
use Rattle.std.proofs.Common.{◌≡◌, ℕ, Bool, true, false, List, [], ◌∷◌, Option, Some, Result, Ok, Err, refl, ap, ◌∙◌, subst}
use Rattle.std.specs.Prelude.{codes}
use Rattle.std.specs.List.{AllByRecursion}
use Rattle.serde_json.specs.Data.{Data}
use Rattle.wasm_types.specs.Signatures.{Signature}
use Rattle.wasm_values.specs.declared.values.Val.{Val}
use Rattle.wasm_meter.specs.declared.faults.EpochFailed.{EpochFailed}
use Rattle.wasm_meter.specs.declared.faults.LimiterFailed.{LimiterFailed}
use Rattle.spec_machine.specs.declared.operation.Op.{Op}
use Rattle.spec_execution.specs.declared.answer.Answer.{Answer}
use Rattle.spec_execution.specs.declared.answer.Answer.TheVariants as answer
use Rattle.spec_execution.specs.declared.answer.Event.{Event}
use Rattle.spec_execution.specs.declared.answer.Event.TheVariants as event
use Rattle.script_json.specs.Fields.{◌>>=◌, list_of}
use Rattle.law_replay.specs.Tapes.{TapeParts}
use Rattle.law_replay.specs.declared.step.TapedStep.{TapedStep}
use Rattle.tape_values.specs.Operands.{val_data, ValInRange}
use Rattle.tape_values.specs.OperandsRead.{val_in}
use Rattle.tape_values.specs.Writing.{one_data, list_data}
use Rattle.tape_values.proofs.ListLemmas.{list_back}
use Rattle.tape_values.proofs.OperandLemmas.{val_back}
use Rattle.tape_values.proofs.Options.{bind_some, some_is}
use Rattle.tape_writers.specs.Written.{op_data}
use Rattle.tape_writers.proofs.OperationLemmas.{op_back}
use Rattle.wasm_tape.specs.Written.{event_data, returned_data, answer_data, step_by, step_data, reading_data, growth_data, tape_by, tape_data, AnswerInRange, StepInRange, TapeInRange}
use Rattle.wasm_tape.specs.Read.{event_in, answer_in, step_in, reading_in, growth_in, tape_in}

-- ---- readings, growths and events

abbrev Any : {A : Type 0} → A → Type 0
Any x = Unit {0}

all_any : {A : Type 0} (xs : List A) → AllByRecursion Any xs
all_any [] = tt
all_any (x ∷ xs) = (tt, all_any xs)

reading_back : (r : Result ℕ EpochFailed) (d : Data) → Any r → reading_data r ≡ Some d → reading_in d ≡ Some r
reading_back (Ok ticks) d f e = subst (λ (y : Data). reading_in y ≡ Some (Ok ticks)) (some_is _ d e) refl
reading_back (Err fault) d f e = subst (λ (y : Data). reading_in y ≡ Some (Err fault)) (some_is _ d e) refl

growth_back : (g : Result Bool LimiterFailed) (d : Data) → Any g → growth_data g ≡ Some d → growth_in d ≡ Some g
growth_back (Ok true) d f e = subst (λ (y : Data). growth_in y ≡ Some (Ok true)) (some_is _ d e) refl
growth_back (Ok false) d f e = subst (λ (y : Data). growth_in y ≡ Some (Ok false)) (some_is _ d e) refl
growth_back (Err fault) d f e = subst (λ (y : Data). growth_in y ≡ Some (Err fault)) (some_is _ d e) refl

event_back : (e : Event) → event_in (event_data e) ≡ Some e
event_back event.Start = refl
event_back event.Replied = refl

-- ---- answers and steps

returned_back : (val : Val) (d : Data) → ValInRange val → returned_data val ≡ Some d → val_in d ≡ Some val
returned_back val d f e = subst (λ (y : Data). val_in y ≡ Some val) (some_is (val_data val) d e) (val_back val f)

module _ (types : List Signature) where
  answer_back : (a : Answer) (d : Data) → AnswerInRange a → answer_data types a ≡ Some d → answer_in types d ≡ Some a
  answer_back (answer.Return vals) d f e =
      let values = bind_some (list_data returned_data vals) (λ (x : Data). Some (one_data (codes "return") x)) d e in
      subst (λ (y : Data). answer_in types y ≡ Some (answer.Return vals)) (some_is (one_data (codes "return") values.0) d values.2)
      (ap (λ (o : Option (List Val)). o >>= (λ xs. Some (answer.Return xs)))
      (list_back returned_data val_in ValInRange returned_back vals values.0 f values.1))
  answer_back answer.Fail d f e = subst (λ (y : Data). answer_in types y ≡ Some answer.Fail) (some_is _ d e) refl
  answer_back (answer.Call operation) d f e =
      let command = bind_some (op_data types operation) (λ (x : Data). Some (one_data (codes "call") x)) d e in
      subst (λ (y : Data). answer_in types y ≡ Some (answer.Call operation)) (some_is (one_data (codes "call") command.0) d command.2)
      (ap (λ (o : Option Op). o >>= (λ x. Some (answer.Call x))) (op_back types operation command.0 f command.1))

  abbrev stepped : TapedStep → Event → Answer → Option TapedStep
  stepped s why said = Some (record { body = s.body; state = s.state; event = why; answer = said; next = s.next })

  step_back : (s : TapedStep) (d : Data) → StepInRange s → step_data types s ≡ Some d → step_in types d ≡ Some s
  step_back s d f e =
      let said = bind_some (answer_data types s.answer) (λ (x : Data). Some (step_by s x)) d e in
      subst (λ (y : Data). step_in types y ≡ Some s) (some_is (step_by s said.0) d said.2)
      (ap (λ (o : Option Event). o >>= (λ why. answer_in types said.0 >>= (λ a. stepped s why a))) (event_back s.event)
      ∙ ap (λ (o : Option Answer). o >>= (λ a. stepped s s.event a)) (answer_back s.answer said.0 f said.1))

  -- ---- tapes

  abbrev made : List TapedStep → List (Result ℕ EpochFailed) → List (Result Bool LimiterFailed) → Option TapeParts
  made steps readings growths = Some (record { steps = steps; readings = readings; growths = growths })

  pub tape_back : (t : TapeParts) (d : Data) → TapeInRange t → tape_data types t ≡ Some d → tape_in types d ≡ Some t
  tape_back t d f e =
      let steps = bind_some (list_data (step_data types) t.steps)
      (λ (x : Data). list_data reading_data t.readings >>= (λ y. list_data growth_data t.growths >>= (λ z. Some (tape_by x y z)))) d e in
      let readings = bind_some (list_data reading_data t.readings)
      (λ (y : Data). list_data growth_data t.growths >>= (λ z. Some (tape_by steps.0 y z))) d steps.2 in
      let growths = bind_some (list_data growth_data t.growths) (λ (z : Data). Some (tape_by steps.0 readings.0 z)) d readings.2 in
      subst (λ (y : Data). tape_in types y ≡ Some t) (some_is (tape_by steps.0 readings.0 growths.0) d growths.2)
      (ap (λ (o : Option (List TapedStep)). o >>= (λ x. list_of reading_in readings.0 >>= (λ y. list_of growth_in growths.0 >>= (λ z. made x y z))))
      (list_back (step_data types) (step_in types) StepInRange step_back t.steps steps.0 f steps.1)
      ∙ ap (λ (o : Option (List (Result ℕ EpochFailed))). o >>= (λ y. list_of growth_in growths.0 >>= (λ z. made t.steps y z)))
      (list_back reading_data reading_in Any reading_back t.readings readings.0 (all_any t.readings) readings.1)
      ∙ ap (λ (o : Option (List (Result Bool LimiterFailed))). o >>= (λ z. made t.steps t.readings z))
      (list_back growth_data growth_in Any growth_back t.growths growths.0 (all_any t.growths) growths.1))
