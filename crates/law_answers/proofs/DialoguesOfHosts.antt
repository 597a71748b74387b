-- The steps of a host's function are dialogues, where the code behind a turn is.
use Rattle.std.proofs.Common.{◌≡◌, ℕ, zero, suc, ◌<◌, ◌≤◌, [], refl, arith}
use Rattle.std.specs.Prelude.{◌&&◌, map, reverse, Ok, Err}
use Rattle.std.specs.List.{list_all}
use Rattle.wasm_values.specs.declared.refusals.Refusal.TheVariants as refusal
use Rattle.spec_machine.specs.Commands as machine
use Rattle.spec_machine.specs.Values.{owns_val, raw_val, all_fit}
use Rattle.spec_execution.specs.Activations.{Activation, scope_of, replied}
use Rattle.spec_execution.specs.Askings.{Answer, Stepped}
use Rattle.spec_execution.specs.Bodies.{exec}
use Rattle.spec_execution.specs.Entering.{Step}
use Rattle.spec_execution.specs.Hosts.{go_on, said, stepped, question, step_with, step}
use Rattle.spec_execution.specs.Outcomes.{World, state, Refused, Stopped, Exhausted, Stuck}
use Rattle.spec_execution.specs.declared.answer.Answer.{Answer as Say}
use Rattle.spec_execution.specs.declared.answer.Answer.TheVariants as say
use Rattle.spec_execution.specs.declared.answer.Event.{Event}
use Rattle.spec_execution.specs.declared.answer.Event.TheVariants.{Replied}
use Rattle.law_answers.proofs.Dialogues.{at, hear_reads, one_of}
use Rattle.law_answers.proofs.CodeDialogues.{code, Runs, ends_over, values}
use Rattle.law_answers.proofs.DialoguesOfCalls.{Keeps, early}
use Rattle.law_answers.proofs.DialoguesOfCommands.{perform_reads}

module _ (n m : ℕ) (le : n ≤ m) (keeps : Keeps n m) (own : Keeps n n) where
  said_reads : (a : Activation) (what : Say) (w : World) → w.turns < n → Runs n m (λ h l. said exec a what (at w h l))
  said_reads a (say.Return vals) w few =
      one_of (code n m) (list_all (owns_val w.machine) vals && all_fit w.machine vals a.results) _ _
      (values n m (state w [] (reverse (map raw_val vals))) few)
      (ends_over n m (Refused refusal.HostResultType) w (early n m le w.turns few))
  said_reads a say.Fail w few = ends_over n m (Refused refusal.HostFault) w (early n m le w.turns few)
  said_reads a (say.Call op) w few =
      perform_reads (code n m) n le (go_on exec a)
      (λ v answer d. keeps.by (Step (replied a answer) Replied) (state v [] []) d) own (suc a.depth) w
      (machine.operation w.machine (scope_of w.machine a) op) few

  stepped_reads :
      (a : Activation) (w : World) (t : ℕ) → t < n → w.turns < m → (answer : Answer)
      → Runs n m (λ h l. stepped exec a t answer (at w h l))
  stepped_reads a w t few c (Stepped after (Ok what)) = said_reads (record a { state = after }) what (record w { turns = t }) few
  stepped_reads a w t few c (Stepped after (Err no_memory)) = ends_over n m Exhausted w c
  stepped_reads a w t few c answer = ends_over n m Stuck w c

  step_with_reads :
      (a : Activation) (event : Event) (w : World) (k : ℕ) → w.turns ≡ k → w.turns < suc n → w.turns < m
      → Runs n m (λ h l. step_with exec a event (at w h l) k)
  step_with_reads a event w zero e fewer c = ends_over n m Stopped w c
  step_with_reads a event w (suc t) e fewer c =
      hear_reads (code n m) w (question a event w) (stepped exec a t) (stepped_reads a w t (omega (arith, fewer, e)) c)

  pub step_reads :
      (a : Activation) (event : Event) (w : World) → w.turns < suc n → w.turns < m
      → Runs n m (λ h l. step exec a event (at w h l))
  step_reads a event w fewer c = step_with_reads a event w w.turns refl fewer c
