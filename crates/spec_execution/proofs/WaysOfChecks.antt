-- Two runs side by side: growth, hooks and checks.
use Rattle.std.proofs.Common.{ℕ, suc, sym, ap, subst}
use Rattle.std.specs.Prelude.{Ok, Err, nat_lt}
use Rattle.wasm_meter.specs.Growths.{Growth}
use Rattle.wasm_meter.specs.declared.call_hook.CallHook.{CallHook}
use Rattle.wasm_meter.specs.declared.deadline.UpdateDeadline.TheVariants as update
use Rattle.wasm_values.specs.declared.refusals.Refusal.TheVariants as refusal
use Rattle.wasm_values.specs.declared.refusals.Trap.TheVariants as trap
use Rattle.spec_machine.specs.Changes.{set_deadline}
use Rattle.spec_machine.specs.Growth.{Decision, Granted, Failed, Rule, Grows, Fails, Asks, Plan, plan_rule, answered_growth}
use Rattle.spec_execution.specs.Askings.{Growing, Passing, Reading, Behaving, Answer, Grown, Passed, Read, Behaved}
use Rattle.spec_execution.specs.Checks.{by_answer, by_rule, decide, passed, pass, pass_behind, has_fuel, deadline, renewed, behaved, at_deadline, read, on_epoch, on_fuel, check}
use Rattle.spec_execution.specs.Outcomes.{World, Outcome, Values, Branch, Return, Over, End, Trapped, Refused, Stuck}
use Rattle.spec_execution.proofs.Ways.{Way, shift, Below, Alike, Ends, ended, code_ends, values, over, either, ask_alike, below_changed, here}

module _ (W : Way) where
  -- ---- growth, of anything that may end early

  module _ {O : Type 0} {early : End → World → O} {R : O → O → Type 0} (ends : Ends W early R) (m : ℕ) where
    abbrev Decided : (Decision → World → O) → (Decision → World → O) → Type 0
    Decided go go' = (d : Decision) (v : World) → Below W m v → R (go d v) (go' d (shift W v))

    by_answer_alike :
        (g : Growth) (go go' : Decision → World → O) → Decided go go' → (a : Answer) (w : World) → Below W m w
        → R (by_answer early g go a w) (by_answer early g go' a (shift W w))
    by_answer_alike g go go' j (Grown answer) w b = j (answered_growth g answer) w b
    by_answer_alike g go go' j a w b = ended W ends Stuck w b.held

    by_rule_alike :
        {A : Type 0} (w : World) (p : Plan A) (go go' : Decision → World → O) → Decided go go' → Below W m w
        → (r : Rule) → R (by_rule early w p go r) (by_rule early (shift W w) p go' r)
    by_rule_alike w p go go' j b Grows = j Granted w b
    by_rule_alike w p go go' j b Fails = j Failed w b
    by_rule_alike w p go go' j b Asks =
        ask_alike W ends m w (Growing p.growth) (by_answer early p.growth go) (by_answer early p.growth go') b
        (by_answer_alike p.growth go go' j)

    pub decide_alike :
        {A : Type 0} (w : World) (p : Plan A) (go go' : Decision → World → O) → Decided go go' → Below W m w
        → R (decide early w p go) (decide early (shift W w) p go')
    decide_alike w p go go' j b = by_rule_alike w p go go' j b (plan_rule w.machine p)

  -- worlds with fewer turns than m, and outcomes with fewer than n where code goes on
  module _ (n m : ℕ) where
    abbrev Onward : (World → Outcome) → (World → Outcome) → Type 0
    Onward go go' = (v : World) → Below W m v → Alike W n (go v) (go' (shift W v))

    -- ---- hooks

    passed_alike : (go go' : World → Outcome) → Onward go go' → (a : Answer) → Onward (passed go a) (passed go' a)
    passed_alike go go' j (Passed (Ok x)) w b = j w b
    passed_alike go go' j (Passed (Err fault)) w b = over W n (Refused refusal.HookFault) w b.held
    passed_alike go go' j a w b = over W n Stuck w b.held

    pub pass_alike :
        (event : CallHook) (w : World) (go go' : World → Outcome) → Onward go go' → Below W m w
        → Alike W n (pass event w go) (pass event (shift W w) go')
    pass_alike event w go go' j b =
        either W n w.machine.is_hooked _ _ _ _
        (ask_alike W (code_ends W n) m w (Passing event) (passed go) (passed go') b (passed_alike go go' j)) (j w b)

    -- ---- the check

    renewed_alike :
        (go go' : World → Outcome) (ticks : ℕ) → Onward go go' → (a : Answer)
        → Onward (renewed go ticks a) (renewed go' ticks a)
    renewed_alike go go' ticks j (Read (Ok reading)) w b =
        j _ (below_changed W m w (set_deadline w.machine (deadline reading ticks)) b)
    renewed_alike go go' ticks j (Read (Err fault)) w b = over W n (Refused refusal.EpochFault) w b.held
    renewed_alike go go' ticks j a w b = over W n Stuck w b.held

    behaved_alike : (go go' : World → Outcome) → Onward go go' → (a : Answer) → Onward (behaved go a) (behaved go' a)
    behaved_alike go go' j (Behaved (Ok update.Interrupt)) w b = over W n (Trapped trap.Interrupt) w b.held
    behaved_alike go go' j (Behaved (Ok (update.Continue ticks))) w b =
        ask_alike W (code_ends W n) m w Reading (renewed go ticks) (renewed go' ticks) b (renewed_alike go go' ticks j)
    behaved_alike go go' j (Behaved (Err fault)) w b = over W n (Refused refusal.EpochFault) w b.held
    behaved_alike go go' j a w b = over W n Stuck w b.held

    at_deadline_alike :
        (w : World) (go go' : World → Outcome) → Onward go go' → Below W m w
        → Alike W n (at_deadline w go) (at_deadline (shift W w) go')
    at_deadline_alike w go go' j b =
        either W n w.machine.is_behaving _ _ _ _
        (ask_alike W (code_ends W n) m w Behaving (behaved go) (behaved go') b (behaved_alike go go' j))
        (over W n (Trapped trap.Interrupt) w b.held)

    read_alike : (go go' : World → Outcome) → Onward go go' → (a : Answer) → Onward (read go a) (read go' a)
    read_alike go go' j (Read (Ok reading)) w b =
        either W n (nat_lt reading w.machine.deadline) _ _ _ _ (j w b) (at_deadline_alike w go go' j b)
    read_alike go go' j (Read (Err fault)) w b = over W n (Refused refusal.EpochFault) w b.held
    read_alike go go' j a w b = over W n Stuck w b.held

    on_epoch_alike :
        (w : World) (go go' : World → Outcome) → Onward go go' → Below W m w
        → Alike W n (on_epoch w go) (on_epoch (shift W w) go')
    on_epoch_alike w go go' j b =
        either W n w.machine.engine.reads_epochs _ _ _ _
        (ask_alike W (code_ends W n) m w Reading (read go) (read go') b (read_alike go go' j)) (j w b)

    pub on_fuel_alike :
        (w : World) (go go' : World → Outcome) → Onward go go' → Below W m w
        → Alike W n (on_fuel w go) (on_fuel (shift W w) go')
    on_fuel_alike w go go' j b =
        either W n (has_fuel w.machine) _ _ _ _ (j w b) (over W n (Trapped trap.OutOfFuel) w b.held)

    pub check_alike :
        (w : World) (go go' : World → Outcome) → Onward go go' → Below W m w
        → Alike W n (check w go) (check (shift W w) go')
    check_alike w go go' j b =
        on_fuel_alike w (λ v. on_epoch v go) (λ v. on_epoch v go') (λ v c. on_epoch_alike v go go' j c) b

  -- the hook behind a call
  pub pass_behind_alike :
      (n : ℕ) (event : CallHook) (o o' : Outcome) → Alike W n o o'
      → Alike W n (pass_behind event o) (pass_behind event o')
  pass_behind_alike n event (Values s) o' h =
      subst (λ (x : Outcome). Alike W n (pass_behind event (Values s)) (pass_behind event x)) (sym h.by.0)
      (pass_alike n n event s.world _ _ (λ v b. values W n (record s { world = v }) b) h.by.1)
  pass_behind_alike n event (Branch l s) o' h = record { by = (ap (pass_behind event) h.by.0, h.by.1) }
  pass_behind_alike n event (Return s) o' h = record { by = (ap (pass_behind event) h.by.0, h.by.1) }
  pass_behind_alike n event (Over (Trapped t) w) o' h =
      subst (λ (x : Outcome). Alike W n (pass_behind event (Over (Trapped t) w)) (pass_behind event x))
      (sym (h.by.0 tt))
      (pass_alike n (suc w.turns) event w _ _ (λ v b. over W n (Trapped t) v b.held) (here W w h.by.1))
  pass_behind_alike n event (Over (Refused r) w) o' h =
      subst (λ (x : Outcome). Alike W n (pass_behind event (Over (Refused r) w)) (pass_behind event x))
      (sym (h.by.0 tt))
      (pass_alike n (suc w.turns) event w _ _ (λ v b. over W n (Refused r) v b.held) (here W w h.by.1))
  pass_behind_alike n event (Over e w) o' h = record { by = (λ c. ap (pass_behind event) (h.by.0 c), h.by.1) }
