-- A function of the host, step by step: what its operations call is closed again before its next step.
use Rattle.std.proofs.Common.{ℕ, zero, suc, List, [], ◌∷◌, ◌++◌, refl, ap, ◌∙◌}
use Rattle.std.specs.Prelude.{◌&&◌, map, reverse, Ok, Err}
use Rattle.std.specs.List.{list_all}
use Rattle.wasm_types.specs.declared.value_types.ValType.{ValType}
use Rattle.wasm_values.specs.declared.refusals.Refusal.TheVariants as refusal
use Rattle.wasm_values.specs.declared.values.Val.{Val}
use Rattle.wasm_meter.specs.declared.call_hook.CallHook.{CallHook}
use Rattle.spec_machine.specs.Values.{owns_val, raw_val, all_fit}
use Rattle.spec_execution.specs.Activations.{Activation, scope_of, replied}
use Rattle.spec_execution.specs.Askings.{Answer, Stepped, Asking}
use Rattle.spec_execution.specs.Entering.{Exec}
use Rattle.spec_execution.specs.Hosts.{returned, go_on, said, stepped, question, step_with, step}
use Rattle.spec_execution.specs.Outcomes.{World, state, Over, Refused, Stopped, Waiting, hear}
use Rattle.spec_execution.specs.declared.answer.Answer.{Answer as Say}
use Rattle.spec_execution.specs.declared.answer.Answer.TheVariants as say
use Rattle.spec_execution.specs.declared.answer.Event.{Event}
use Rattle.spec_execution.specs.declared.answer.Event.TheVariants.{Replied}
use Rattle.std.proofs.lemmas.List.{append_assoc}
use Rattle.law_hooks.proofs.BorderLemmas.{open_calls-heard}
use Rattle.law_hooks.proofs.Worlds.{Base, Stands, Ends, ended, either, stands_later, stands_heard}
use Rattle.law_hooks.proofs.Outcomes.{Finishes, Good, function_ends, values_finishes}
use Rattle.law_hooks.proofs.Operations.{operation_stands}

module _ (B : Base) (calls : List CallHook) (f : Exec) (good : Good B f) where
  abbrev ends : Ends B Over calls (Finishes B calls)
  ends = function_ends B calls

  returned_finishes :
      (w : World) (results : List ValType) (vals : List Val) → Stands B calls w
      → Finishes B calls (returned w results vals)
  returned_finishes w results vals h =
      either B ends (list_all (owns_val w.machine) vals && all_fit w.machine vals results) _ _
      (values_finishes B calls (state w [] (reverse (map raw_val vals))) h)
      (ended B ends (Refused refusal.HostResultType) w h)

  said_finishes : (a : Activation) (what : Say) (w : World) → Stands B calls w → Finishes B calls (said f a what w)
  said_finishes a (say.Return vals) w h = returned_finishes w a.results vals h
  said_finishes a say.Fail w h = ended B ends (Refused refusal.HostFault) w h
  said_finishes a (say.Call op) w h =
      operation_stands B ends (go_on f a)
      (λ v answer k. good.body calls (replied a answer) Replied (state v [] []) k) f good (suc a.depth)
      (scope_of w.machine a) op w h

  -- a step that had no memory is the last that is heard
  hear_step :
      (a : Activation) (event : Event) (turns : ℕ) (w : World) (answers : List Answer) → Stands B calls w
      → Finishes B calls (hear Over w (question a event w) (stepped f a turns) answers)
  hear_step a event turns w [] h = ended B ends (Waiting (question a event w)) w h
  hear_step a event turns w (Stepped after (Ok what) ∷ rest) h =
      let v : World = record w { heard = w.heard ++ (question a event w, Stepped after (Ok what)) ∷ []; answers = rest } in
      said_finishes (record a { state = after }) what (record v { turns = turns })
      (stands_later B calls v turns
      (stands_heard B calls calls w (question a event w) (Stepped after (Ok what)) rest refl refl h))
  hear_step a event turns w (Stepped after (Err no_memory) ∷ rest) h = record {
    by = record {
      calls = calls;
      more = h.more ++ (question a event w, Stepped after (Err no_memory)) ∷ [];
      course =
          ap (λ (xs : List Asking). xs ++ (question a event w, Stepped after (Err no_memory)) ∷ []) h.course
          ∙ append_assoc B.heard h.more ((question a event w, Stepped after (Err no_memory)) ∷ []);
      passed =
          open_calls-heard h.more (question a event w, Stepped after (Err no_memory)) calls calls h.passed refl;
    };
  }
  hear_step a event turns w (answer ∷ rest) h = ended B ends (Waiting (question a event w)) w h

  step_with_finishes :
      (a : Activation) (event : Event) (w : World) (k : ℕ) → Stands B calls w
      → Finishes B calls (step_with f a event w k)
  step_with_finishes a event w zero h = ended B ends Stopped w h
  step_with_finishes a event w (suc turns) h =
      hear_step a event turns w w.answers h

  pub step_finishes :
      (a : Activation) (event : Event) (w : World) → Stands B calls w → Finishes B calls (step f a event w)
  step_finishes a event w h = step_with_finishes a event w w.turns h
