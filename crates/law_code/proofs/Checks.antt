-- Growth, borders between host and guest code, and the check of fuel and epochs: each goes on in a good world, or ends
-- well.
use Rattle.std.proofs.Common.{◌≡◌, ℕ, ◌-◌, ◌^◌, ◌≤◌, Bool, true, false, if◌then◌else◌, Ok, Err, refl, inl, inr, arith}
use Rattle.std.specs.Prelude.{nat_lt}
use Rattle.wasm_types.proofs.MatchingLemmas.{no}
use Rattle.wasm_meter.specs.declared.call_hook.CallHook.{CallHook}
use Rattle.wasm_meter.specs.declared.deadline.UpdateDeadline.TheVariants as update
use Rattle.wasm_values.specs.declared.refusals.Refusal.TheVariants as refusal
use Rattle.wasm_values.specs.declared.refusals.Trap.TheVariants as trap
use Rattle.spec_machine.specs.Growth.{Decision, Granted, Failed, Faulted, Rule, Grows, Fails, Asks, Plan, plan_rule, answered_growth}
use Rattle.law_store.specs.Granted.{IsGranted}
use Rattle.spec_machine.specs.Changes.{set_deadline}
use Rattle.spec_machine.specs.Machine.{Machine}
use Rattle.spec_execution.specs.Askings.{Growing, Passing, Reading, Behaving, Answer, Grown, Passed, Read, Behaved}
use Rattle.spec_execution.specs.Checks.{by_answer, by_rule, decide, passed, pass, deadline, has_fuel, renewed, behaved, at_deadline, read, on_epoch, on_fuel, check}
use Rattle.spec_execution.specs.Outcomes.{World, Outcome, Over, End, Trapped, Refused, ask}
use Rattle.law_code.specs.Good.{IsPaid, IsGoodWorld, IsGoodEnd}
use Rattle.law_code.proofs.Changes.{set_deadline_safe}
use Rattle.law_code.proofs.Worlds.{IsNext, next_own, next_on, machine_next, check_pays, IsAnswered, asks}

-- an answer that grants a growth is yes
granted_is : {A : Type 0} (m : Machine) (p : Plan A) (answer : _) → plan_rule m p ≡ Asks →
    answered_growth p.growth answer ≡ Granted → IsGranted m p
granted_is m p (Ok true) e g = inr (e, g)
granted_is m p (Ok false) e g = absurd (let q : Failed ≡ Granted = g in cc)
granted_is m p (Err fault) e g = absurd (let q : Faulted ≡ Granted = g in cc)

-- ---- growth, of anything that may end early

module _ (base : World) {O : Type 0} (early : End → World → O) (P : O → Type 0)
    (ends : (e : End) (w : World) → IsGoodEnd base e w → P (early e w)) where
  module _ {A : Type 0} (w : World) (p : Plan A) (go : Decision → World → O)
      (k : (d : Decision) (v : World) → IsNext base w v → (d ≡ Granted → IsGranted w.machine p) → P (go d v)) where
    by_answers : plan_rule w.machine p ≡ Asks → (a : Answer) (v : World) →
        IsAnswered base w (Growing p.growth) a v → P (by_answer early p.growth go a v)
    by_answers e (Grown answer) v h =
        k (answered_growth p.growth answer) v h.next (λ g. granted_is w.machine p answer e g)
    by_answers e _ v h = no h.fits

    by_rules : IsGoodWorld base w → (r : Rule) → plan_rule w.machine p ≡ r → P (by_rule early w p go r)
    by_rules g Grows e = k Granted w (next_own base w g) (λ _. inl e)
    by_rules g Fails e = k Failed w (next_own base w g) (λ q. absurd cc)
    by_rules g Asks e = asks base early P ends w (Growing p.growth) (by_answer early p.growth go) g (by_answers e)

    pub decides : IsGoodWorld base w → P (decide early w p go)
    decides g = by_rules g (plan_rule w.machine p) refl

module _ (base : World) (P : Outcome → Type 0)
    (early : (e : End) (w : World) → IsGoodEnd base e w → P (Over e w)) where
  -- ---- borders

  module _ (w : World) (go : World → Outcome) (k : (v : World) → IsNext base w v → P (go v)) where
    passes_by : (event : CallHook) (a : Answer) (v : World) → IsAnswered base w (Passing event) a v →
        P (passed go a v)
    passes_by event (Passed (Ok done)) v h = k v h.next
    passes_by event (Passed (Err fault)) v h = early (Refused refusal.HookFault) v h.next.good
    passes_by event _ v h = no h.fits

    passes_if : (event : CallHook) (b : Bool) → IsGoodWorld base w →
        P (if b then ask Over w (Passing event) (passed go) else go w)
    passes_if event true g = asks base Over P early w (Passing event) (passed go) g (passes_by event)
    passes_if event false g = k w (next_own base w g)

    pub passes : (event : CallHook) → IsGoodWorld base w → P (pass event w go)
    passes event g = passes_if event w.machine.is_hooked g

  -- ---- the check of fuel and epochs

  renews : (w : World) (go : World → Outcome) (ticks : ℕ) → ((v : World) → IsNext base w v → P (go v)) →
      (a : Answer) (v : World) → IsAnswered base w Reading a v → P (renewed go ticks a v)
  renews w go ticks k (Read (Ok reading)) v h =
      let n : IsNext base w v = h.next in
      let d : ℕ = deadline reading ticks in
      let most : d ≤ 2 ^ 64 - 2 = omega arith in
      let u : World = record v { machine = set_deadline v.machine d } in
      k u (next_on base w v u n
      (machine_next base v v (set_deadline v.machine d) n.good (next_own base v n.good)
      (set_deadline_safe v.machine n.good.well d most)))
  renews w go ticks k (Read (Err fault)) v h = early (Refused refusal.EpochFault) v h.next.good
  renews w go ticks k _ v h = no h.fits

  module _ (w : World) (go : World → Outcome) (k : (v : World) → IsNext base w v → P (go v)) where
    behaves : (u : World) → IsNext base w u → (a : Answer) (v : World) → IsAnswered base u Behaving a v →
        P (behaved go a v)
    behaves u n (Behaved (Ok update.Interrupt)) v h = early (Trapped trap.Interrupt) v h.next.good
    behaves u n (Behaved (Ok (update.Continue ticks))) v h =
        asks base Over P early v Reading (renewed go ticks) h.next.good
        (renews v go ticks (λ x y. k x (next_on base w u x n (next_on base u v x h.next y))))
    behaves u n (Behaved (Err fault)) v h = early (Refused refusal.EpochFault) v h.next.good
    behaves u n _ v h = no h.fits

    at_deadlines : (u : World) (b : Bool) → IsNext base w u →
        P (if b then ask Over u Behaving (behaved go) else Over (Trapped trap.Interrupt) u)
    at_deadlines u true n = asks base Over P early u Behaving (behaved go) n.good (behaves u n)
    at_deadlines u false n = early (Trapped trap.Interrupt) u n.good

    reads_if : (u : World) (b : Bool) → IsNext base w u → P (if b then go u else at_deadline u go)
    reads_if u true n = k u n
    reads_if u false n = at_deadlines u u.machine.is_behaving n

    reads : (a : Answer) (v : World) → IsAnswered base w Reading a v → P (read go a v)
    reads (Read (Ok reading)) v h = reads_if v (nat_lt reading v.machine.deadline) h.next
    reads (Read (Err fault)) v h = early (Refused refusal.EpochFault) v h.next.good
    reads _ v h = no h.fits

    epochs : (b : Bool) → IsGoodWorld base w → P (if b then ask Over w Reading (read go) else go w)
    epochs true g = asks base Over P early w Reading (read go) g reads
    epochs false g = k w (next_own base w g)

  -- that of fuel alone
  module _ (w : World) (go : World → Outcome) (k : has_fuel w.machine ≡ true → P (go w)) where
    fuels_if : (b : Bool) → has_fuel w.machine ≡ b → IsGoodWorld base w →
        P (if b then go w else Over (Trapped trap.OutOfFuel) w)
    fuels_if true e g = k e
    fuels_if false e g = early (Trapped trap.OutOfFuel) w g

    pub fuels : IsGoodWorld base w → P (on_fuel w go)
    fuels g = fuels_if (has_fuel w.machine) refl g

  -- behind a check that passes nothing is owed
  module _ (w : World) (go : World → Outcome) (k : (v : World) → IsNext base w v → IsPaid v → P (go v)) where
    pub checks : IsGoodWorld base w → P (check w go)
    checks g =
        fuels w (λ v. on_epoch v go) (λ e.
        epochs w go (λ v n. k v n (n.since.paid (check_pays w g.turns e))) w.machine.engine.reads_epochs g) g
