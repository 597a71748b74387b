-- Growth, and the check of fuel and epochs, ask of no border: the calls that are open stay open.
use Rattle.std.proofs.Common.{◌≡◌, ℕ, true, false, List, Ok, Err, refl, sym, ap, ◌∙◌, inl, inr}
use Rattle.std.specs.Prelude.{nat_lt}
use Rattle.wasm_meter.specs.declared.call_hook.CallHook.{CallHook}
use Rattle.wasm_meter.specs.declared.deadline.UpdateDeadline.TheVariants as update
use Rattle.wasm_values.specs.declared.refusals.Refusal.TheVariants as refusal
use Rattle.wasm_values.specs.declared.refusals.Trap.TheVariants as trap
use Rattle.spec_machine.specs.Changes.{set_deadline}
use Rattle.spec_machine.specs.Growth.{Decision, Granted, Failed, Faulted, Rule, Grows, Fails, Asks, Plan, plan_rule, answered_growth}
use Rattle.spec_machine.specs.Machine.{Machine}
use Rattle.spec_execution.specs.Askings.{Growing, Reading, Behaving, Answer, Grown, Read, Behaved}
use Rattle.spec_execution.specs.Checks.{by_answer, by_rule, decide, has_fuel, deadline, renewed, behaved, at_deadline, read, on_epoch, on_fuel, check}
use Rattle.spec_execution.specs.Outcomes.{World, Outcome, Over, End, Trapped, Refused, Stuck}
use Rattle.law_store.specs.Granted.{IsGranted}
use Rattle.law_hooks.specs.Askers.{Flags}
use Rattle.law_hooks.proofs.Worlds.{Base, Stands, Ends, ended, either, where_true, ask_stands, stands_in}

-- an answer that grants a growth is yes
granted_is :
    {A : Type 0} (m : Machine) (p : Plan A) (answer : _) → plan_rule m p ≡ Asks
    → answered_growth p.growth answer ≡ Granted → IsGranted m p
granted_is m p (Ok true) e g = inr (e, g)
granted_is m p (Ok false) e g = absurd (let q : Failed ≡ Granted = g in cc)
granted_is m p (Err fault) e g = absurd (let q : Faulted ≡ Granted = g in cc)

-- ---- growth, of anything that may end early

module _ (B : Base) {O : Type 0} {early : End → World → O} {calls : List CallHook} {P : O → Type 0}
    (ends : Ends B early calls P) where
  module _ {A : Type 0} (w : World) (h : Stands B calls w) (p : Plan A) (go : Decision → World → O)
      (j : (d : Decision) (v : World) → (d ≡ Granted → IsGranted w.machine p) → Stands B calls v
      → P (go d v)) where
    by_answer_stands :
        plan_rule w.machine p ≡ Asks → (a : Answer) (v : World) → Stands B calls v
        → P (by_answer early p.growth go a v)
    by_answer_stands e (Grown answer) v k =
        j (answered_growth p.growth answer) v (λ g. granted_is w.machine p answer e g) k
    by_answer_stands e a v k = ended B ends Stuck v k

    by_rule_stands : (r : Rule) → plan_rule w.machine p ≡ r → P (by_rule early w p go r)
    by_rule_stands Grows e = j Granted w (λ g. inl e) h
    by_rule_stands Fails e = j Failed w (λ g. absurd cc) h
    by_rule_stands Asks e =
        ask_stands B ends w (Growing p.growth) (by_answer early p.growth go) (λ a e. (refl, e)) h (by_answer_stands e)

    pub decide_stands : P (decide early w p go)
    decide_stands = by_rule_stands (plan_rule w.machine p) refl

-- ---- the check, of code

module _ (B : Base) {calls : List CallHook} {P : Outcome → Type 0} (ends : Ends B Over calls P) where
  pub on_fuel_stands :
      (go : World → Outcome) → ((v : World) → Stands B calls v → P (go v)) → (w : World) → Stands B calls w
      → P (on_fuel w go)
  on_fuel_stands go j w h =
      either B ends (has_fuel w.machine) _ _ (j w h) (ended B ends (Trapped trap.OutOfFuel) w h)

  module _ (go : World → Outcome) (j : (v : World) → Stands B calls v → P (go v)) where
    renewed_stands : (ticks : ℕ) (a : Answer) (w : World) → Stands B calls w → P (renewed go ticks a w)
    renewed_stands ticks (Read (Ok reading)) w h =
        j _ (stands_in B calls w (set_deadline w.machine (deadline reading ticks)) h.flags h)
    renewed_stands ticks (Read (Err fault)) w h = ended B ends (Refused refusal.EpochFault) w h
    renewed_stands ticks a w h = ended B ends Stuck w h

    behaved_stands : (a : Answer) (w : World) → Stands B calls w → P (behaved go a w)
    behaved_stands (Behaved (Ok update.Interrupt)) w h = ended B ends (Trapped trap.Interrupt) w h
    behaved_stands (Behaved (Ok (update.Continue ticks))) w h =
        ask_stands B ends w Reading (renewed go ticks) (λ a e. (refl, e)) h (renewed_stands ticks)
    behaved_stands (Behaved (Err fault)) w h = ended B ends (Refused refusal.EpochFault) w h
    behaved_stands a w h = ended B ends Stuck w h

    at_deadline_stands : (w : World) → Stands B calls w → P (at_deadline w go)
    at_deadline_stands w h =
        where_true B ends w.machine.is_behaving _ _
        (λ e. ask_stands B ends w Behaving (behaved go)
        (λ a f. (refl, sym (ap (λ (x : Flags). x.behaving) h.flags) ∙ e)) h behaved_stands)
        (ended B ends (Trapped trap.Interrupt) w h)

    read_stands : (a : Answer) (w : World) → Stands B calls w → P (read go a w)
    read_stands (Read (Ok reading)) w h =
        either B ends (nat_lt reading w.machine.deadline) _ _ (j w h) (at_deadline_stands w h)
    read_stands (Read (Err fault)) w h = ended B ends (Refused refusal.EpochFault) w h
    read_stands a w h = ended B ends Stuck w h

    on_epoch_stands : (w : World) → Stands B calls w → P (on_epoch w go)
    on_epoch_stands w h =
        either B ends w.machine.engine.reads_epochs _ _ (ask_stands B ends w Reading (read go) (λ a e. (refl, e)) h read_stands)
        (j w h)

    pub check_stands : (w : World) → Stands B calls w → P (check w go)
    check_stands w h = on_fuel_stands (λ v. on_epoch v go) on_epoch_stands w h
