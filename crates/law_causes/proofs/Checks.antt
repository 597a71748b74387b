-- Growth, borders, and the check of fuel and epochs: where one of them refuses, the answer before it is the cause.
use Rattle.std.proofs.Common.{◌≡◌, ℕ, true, false, List, Ok, Err, Bool, refl, ap, inl, inr}
use Rattle.std.specs.Prelude.{nat_eq, nat_lt, if◌then◌else◌}
use Rattle.wasm_types.specs.MemoryTypes.{within_maximum}
use Rattle.wasm_meter.specs.declared.call_hook.CallHook.{CallHook}
use Rattle.wasm_meter.specs.declared.deadline.UpdateDeadline.TheVariants as update
use Rattle.wasm_values.specs.declared.refusals.Refusal.{Refusal}
use Rattle.wasm_values.specs.declared.refusals.Refusal.TheVariants as refusal
use Rattle.wasm_values.specs.declared.refusals.Trap.TheVariants as trap
use Rattle.spec_machine.specs.Changes.{set_deadline}
use Rattle.spec_machine.specs.Growth.{Decision, Granted, Failed, Faulted, Rule, Grows, Fails, Asks, Plan, plan_rule, growth_rule, rule_of, by_maximum}
use Rattle.spec_execution.specs.Askings.{Growing, Passing, Reading, Behaving, Answer, Grown, Passed, Read, Behaved, Asking}
use Rattle.spec_execution.specs.Checks.{by_answer, by_rule, decide, passed, pass, pass_behind, has_fuel, deadline, renewed, behaved, at_deadline, read, on_epoch, on_fuel, check}
use Rattle.spec_execution.specs.Outcomes.{World, Outcome, Values, Branch, Return, Over, End, Trapped, Refused, Stuck}
use Rattle.law_causes.specs.Causes.{Reasons, IsVain}
use Rattle.law_causes.proofs.CausesHeard.{Gives}
use Rattle.law_causes.proofs.Worlds.{Since, Behind, Caused, Lasts, Ends, either, ask_since, since_lasts, caused_lasts, caused_behind}
use Rattle.law_causes.proofs.Outcomes.{Keeps, code_ends}

-- ---- a growth fails also without a limiter

-- by its tests, in their order
abbrev by_tests : Bool → Bool → Bool → Decision → Rule
by_tests same past limited d =
    if same then Grows else if past then Fails else if limited then Asks else rule_of d

fails_so : (same past limited : Bool) (d : Decision) → by_tests same past limited d ≡ Fails →
    by_tests same past false d ≡ Fails
fails_so true past limited d e = absurd cc
fails_so false true limited d e = refl
fails_so false false true d e = absurd cc
fails_so false false false d e = e

asks_so : (same past limited : Bool) (d : Decision) → by_tests same past limited d ≡ Asks → d ≡ Failed →
    by_tests same past false d ≡ Fails
asks_so true past limited d e f = absurd cc
asks_so false true limited d e f = refl
asks_so false false limited d e f = ap rule_of f

vain_by_rule : {A : Type 0} (limited : Bool) (p : Plan A) → growth_rule limited p.range p.growth ≡ Fails → IsVain p
vain_by_rule limited p e =
    fails_so (nat_eq p.growth.current p.growth.desired) (nat_lt p.range p.growth.desired) limited (by_maximum p.growth) e

vain_by_maximum : {A : Type 0} (limited : Bool) (p : Plan A) → growth_rule limited p.range p.growth ≡ Asks →
    by_maximum p.growth ≡ Failed → IsVain p
vain_by_maximum limited p e f =
    asks_so (nat_eq p.growth.current p.growth.desired) (nat_lt p.range p.growth.desired) limited (by_maximum p.growth) e f

never_faults : (b : Bool) → ◌≡◌ {A = Decision} (if b then Granted else Failed) Faulted → ⊥
never_faults true e = cc
never_faults false e = cc

-- the reason of a growth that fails, where it is its own plan
abbrev VainRefuses : {A : Type 0} → Plan A → Refusal → Type 0
VainRefuses p refusal.GrowFailed = IsVain p
VainRefuses p why = ⊥

abbrev pub vain_reasons : {A : Type 0} → Plan A → Reasons
vain_reasons p = record { own = VainRefuses p; grows = Unit {0} }

pub vain_for : {A : Type 0} (p : Plan A) (reason : Reasons) → (IsVain p → reason.own refusal.GrowFailed) →
    reason.grows → Gives (vain_reasons p) reason
vain_for p reason f grows = record { own = refuses; grows = λ x. grows } where
  refuses : (why : Refusal) → VainRefuses p why → reason.own why
  refuses refusal.GrowFailed h = f h
  refuses why h = absurd h

-- ---- growth, of anything that may end early

module _ (B : List Asking) where
  -- what was decided, and the cause of that
  abbrev pub DecidedSince : {A : Type 0} → Plan A → Decision → World → Type 0
  DecidedSince p Granted v = Since B v
  DecidedSince p Failed v = Caused B (vain_reasons p) refusal.GrowFailed v
  DecidedSince p Faulted v = Caused B (vain_reasons p) refusal.LimiterFault v

  pub record Decided {A : Type 0} (p : Plan A) (d : Decision) (v : World) : Type 0 where
    pub by : DecidedSince p d v

  module _ {O : Type 0} {early : End → World → O} {reason : Reasons} {P : O → Type 0}
      (ends : Ends B early reason P) where
    module _ {A : Type 0} (w : World) (h : Since B w) (p : Plan A) (go : Decision → World → O)
        (j : (d : Decision) (v : World) → Decided p d v → P (go d v)) where
      by_size : plan_rule w.machine p ≡ Asks → (v : World) → Since B v → (d : Decision) → by_maximum p.growth ≡ d →
          Decided p d v
      by_size e v k Granted f = record { by = k }
      by_size e v k Failed f = record {
        by = record {
          more = k.more;
          course = k.course;
          cause = inr (vain_by_maximum w.machine.is_limited p e f);
        };
      }
      by_size e v k Faulted f = absurd (never_faults (within_maximum p.growth.desired p.growth.maximum) f)

      by_answer_since :
          plan_rule w.machine p ≡ Asks → (a : Answer) (v : World) → Since B v → Behind B a v
          → P (by_answer early p.growth go a v)
      by_answer_since e (Grown (Ok true)) v k b = j (by_maximum p.growth) v (by_size e v k (by_maximum p.growth) refl)
      by_answer_since e (Grown (Ok false)) v k b =
          j Failed v (record { by = caused_behind B (vain_reasons p) refusal.GrowFailed (Grown (Ok false)) v b (inl (tt, refl)) })
      by_answer_since e (Grown (Err fault)) v k b =
          j Faulted v (record { by = caused_behind B (vain_reasons p) refusal.LimiterFault (Grown (Err fault)) v b refl })
      by_answer_since e a v k b = ends.by Stuck v k

      by_rule_since : (r : Rule) → plan_rule w.machine p ≡ r → P (by_rule early w p go r)
      by_rule_since Grows e = j Granted w (record { by = h })
      by_rule_since Fails e = j Failed w (record {
        by = record {
          more = h.more;
          course = h.course;
          cause = inr (vain_by_rule w.machine.is_limited p e);
        };
      })
      by_rule_since Asks e =
          ask_since B ends (since_lasts B) w (Growing p.growth) (by_answer early p.growth go) h (by_answer_since e)

      pub decide_since : P (decide early w p go)
      decide_since = by_rule_since (plan_rule w.machine p) refl

module _ (B : List Asking) (reason : Reasons) where
  abbrev ends : Ends B Over reason (Keeps B reason)
  ends = code_ends B reason

  -- ---- borders

  module _ {K : World → Type 0} (lasts : Lasts B K) (go : World → Outcome)
      (j : (v : World) → K v → Keeps B reason (go v)) where
    passed_keeps : (a : Answer) (v : World) → K v → Behind B a v → Keeps B reason (passed go a v)
    passed_keeps (Passed (Ok done)) v k b = j v k
    passed_keeps (Passed (Err fault)) v k b =
        ends.by (Refused refusal.HookFault) v (caused_behind B reason refusal.HookFault (Passed (Err fault)) v b refl)
    passed_keeps a v k b = ends.by Stuck v (lasts.since v k)

    pub pass_keeps : (event : CallHook) (w : World) → K w → Keeps B reason (pass event w go)
    pass_keeps event w h =
        either B ends w.machine.is_hooked _ _ (ask_since B ends lasts w (Passing event) (passed go) h passed_keeps)
        (j w h)

  pub pass_behind_keeps : (event : CallHook) (o : Outcome) → Keeps B reason o → Keeps B reason (pass_behind event o)
  pass_behind_keeps event (Values s) h =
      pass_keeps (since_lasts B) (λ w. Values (record s { world = w })) (λ v k. record { by = k }) event s.world h.by
  pass_behind_keeps event (Branch l s) h = h
  pass_behind_keeps event (Return s) h = h
  pass_behind_keeps event (Over (Trapped t) w) h =
      pass_keeps (since_lasts B) (Over (Trapped t)) (λ v k. record { by = k }) event w h.by
  pass_behind_keeps event (Over (Refused why) w) h =
      pass_keeps (caused_lasts B reason why) (Over (Refused why)) (λ v k. record { by = k }) event w h.by
  pass_behind_keeps event (Over e w) h = record { by = h.by }

  -- ---- the check, of code

  pub on_fuel_keeps :
      (go : World → Outcome) → ((v : World) → Since B v → Keeps B reason (go v)) → (w : World) → Since B w
      → Keeps B reason (on_fuel w go)
  on_fuel_keeps go j w h = either B ends (has_fuel w.machine) _ _ (j w h) (ends.by (Trapped trap.OutOfFuel) w h)

  module _ (go : World → Outcome) (j : (v : World) → Since B v → Keeps B reason (go v)) where
    renewed_keeps : (ticks : ℕ) (a : Answer) (w : World) → Since B w → Behind B a w → Keeps B reason (renewed go ticks a w)
    renewed_keeps ticks (Read (Ok reading)) w h b =
        j (record w { machine = set_deadline w.machine (deadline reading ticks) })
        (record { more = h.more; course = h.course })
    renewed_keeps ticks (Read (Err fault)) w h b =
        ends.by (Refused refusal.EpochFault) w
        (caused_behind B reason refusal.EpochFault (Read (Err fault)) w b (inl refl))
    renewed_keeps ticks a w h b = ends.by Stuck w h

    behaved_keeps : (a : Answer) (w : World) → Since B w → Behind B a w → Keeps B reason (behaved go a w)
    behaved_keeps (Behaved (Ok update.Interrupt)) w h b = ends.by (Trapped trap.Interrupt) w h
    behaved_keeps (Behaved (Ok (update.Continue ticks))) w h b =
        ask_since B ends (since_lasts B) w Reading (renewed go ticks) h (renewed_keeps ticks)
    behaved_keeps (Behaved (Err fault)) w h b =
        ends.by (Refused refusal.EpochFault) w
        (caused_behind B reason refusal.EpochFault (Behaved (Err fault)) w b (inr refl))
    behaved_keeps a w h b = ends.by Stuck w h

    at_deadline_keeps : (w : World) → Since B w → Keeps B reason (at_deadline w go)
    at_deadline_keeps w h =
        either B ends w.machine.is_behaving _ _
        (ask_since B ends (since_lasts B) w Behaving (behaved go) h behaved_keeps) (ends.by (Trapped trap.Interrupt) w h)

    read_keeps : (a : Answer) (w : World) → Since B w → Behind B a w → Keeps B reason (read go a w)
    read_keeps (Read (Ok reading)) w h b =
        either B ends (nat_lt reading w.machine.deadline) _ _ (j w h) (at_deadline_keeps w h)
    read_keeps (Read (Err fault)) w h b =
        ends.by (Refused refusal.EpochFault) w
        (caused_behind B reason refusal.EpochFault (Read (Err fault)) w b (inl refl))
    read_keeps a w h b = ends.by Stuck w h

    on_epoch_keeps : (w : World) → Since B w → Keeps B reason (on_epoch w go)
    on_epoch_keeps w h =
        either B ends w.machine.engine.reads_epochs _ _
        (ask_since B ends (since_lasts B) w Reading (read go) h read_keeps) (j w h)

    pub check_keeps : (w : World) → Since B w → Keeps B reason (check w go)
    check_keeps w h = on_fuel_keeps (λ v. on_epoch v go) on_epoch_keeps w h
