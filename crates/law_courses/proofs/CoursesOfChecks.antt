-- A run beside another: growth, hooks and checks.
use Rattle.std.proofs.Common.{◌≡◌, ℕ, suc, sym, ap, ◌∙◌, subst, inl, inr}
use Rattle.std.specs.Prelude.{Bool, not, ◌||◌, Ok, Err, nat_lt}
use Rattle.wasm_meter.specs.Fuel.{is_fuelled}
use Rattle.wasm_meter.specs.Growths.{Growth}
use Rattle.wasm_meter.specs.declared.call_hook.CallHook.{CallHook}
use Rattle.wasm_meter.specs.declared.deadline.UpdateDeadline.TheVariants as update
use Rattle.wasm_values.specs.declared.refusals.Refusal.TheVariants as refusal
use Rattle.wasm_values.specs.declared.refusals.Trap.TheVariants as trap
use Rattle.spec_machine.specs.Changes.{set_deadline}
use Rattle.spec_machine.specs.Growth.{Decision, Granted, Failed, Rule, Grows, Fails, Asks, Plan, plan_rule, growth_rule, answered_growth}
use Rattle.spec_machine.specs.Machine.{EngineParts, Machine}
use Rattle.spec_execution.specs.Askings.{Growing, Passing, Reading, Behaving, Answer, Grown, Passed, Read, Behaved}
use Rattle.spec_execution.specs.Checks.{by_answer, by_rule, decide, passed, pass, pass_behind, passing_end, has_fuel, deadline, renewed, behaved, at_deadline, read, on_epoch, on_fuel, check}
use Rattle.spec_execution.specs.Outcomes.{World, Outcome, Values, Branch, Return, Over, End, Trapped, Refused, Stuck}
use Rattle.law_courses.proofs.StrayLemmas.{pass_behind_lost}
use Rattle.law_courses.proofs.Bounds.{Bounds, HasSame, Turns}
use Rattle.law_courses.proofs.Courses.{twin, Inside, Below, Matches, Alike, Ends, ended, one_by, code_ends, values, over, ask_alike, below_in, here}

module _ (B : Bounds) (T : Turns B) where
  -- ---- growth, of anything that may end early

  module _ {O : Type 0} {early : End → World → O} {R : O → O → Type 0} (ends : Ends B early R) (m : ℕ) where
    abbrev Decided : (Decision → World → O) → (Decision → World → O) → Type 0
    Decided go go' = (d : Decision) (v : World) → Below B m v → R (go d v) (go' d (twin B v))

    by_answer_alike :
        (g : Growth) (go go' : Decision → World → O) → Decided go go' → (a : Answer) (v : World) → Below B m v
        → R (by_answer early g go a v) (by_answer early g go' a (twin B v))
    by_answer_alike g go go' j (Grown answer) v b = j (answered_growth g answer) v b
    by_answer_alike g go go' j a v b = ended B T ends Stuck v b.held

    by_rule_alike :
        {A : Type 0} (v : World) (p : Plan A) (after : Machine) (go go' : Decision → World → O) → Decided go go'
        → Below B m v → (r : Rule)
        → R (by_rule early v p go r) (by_rule early (twin B v) (record p { after = after }) go' r)
    by_rule_alike v p after go go' j b Grows = j Granted v b
    by_rule_alike v p after go go' j b Fails = j Failed v b
    by_rule_alike v p after go go' j b Asks =
        ask_alike B T ends m v (Growing p.growth) (by_answer early p.growth go) (by_answer early p.growth go') b
        (by_answer_alike p.growth go go' j)

    -- by plans that are the same but for the store that they leave
    pub decide_alike :
        {A : Type 0} (v : World) (p : Plan A) (after : Machine) (go go' : Decision → World → O) → Decided go go'
        → Below B m v → R (decide early v p go) (decide early (twin B v) (record p { after = after }) go')
    decide_alike v p after go go' j b =
        subst (λ (limited : Bool). R (decide early v p go)
        (by_rule early (twin B v) (record p { after = after }) go' (growth_rule limited p.range p.growth)))
        (sym (T.same v.machine b.held.store).is_limited)
        (by_rule_alike v p after go go' j b (plan_rule v.machine p))

  -- worlds with fewer turns than m, and outcomes with fewer than n where code goes on
  module _ (n m : ℕ) where
    abbrev pub Onward : (World → Outcome) → (World → Outcome) → Type 0
    Onward go go' = (v : World) → Below B m v → Alike B n (go v) (go' (twin B v))

    -- ---- hooks

    passed_alike : (go go' : World → Outcome) → Onward go go' → (a : Answer) → Onward (passed go a) (passed go' a)
    passed_alike go go' j (Passed (Ok x)) v b = j v b
    passed_alike go go' j (Passed (Err fault)) v b = over B n (Refused refusal.HookFault) v b.held
    passed_alike go go' j a v b = over B n Stuck v b.held

    pub pass_alike :
        (event : CallHook) (v : World) (go go' : World → Outcome) → Onward go go' → Below B m v
        → Alike B n (pass event v go) (pass event (twin B v) go')
    pass_alike event v go go' j b =
        one_by B T (code_ends B n) v.machine.is_hooked _ _ _ _ _ (T.same v.machine b.held.store).is_hooked
        (ask_alike B T (code_ends B n) m v (Passing event) (passed go) (passed go') b (passed_alike go go' j)) (j v b)

    -- ---- the check

    renewed_alike :
        (go go' : World → Outcome) (ticks : ℕ) → Onward go go' → (a : Answer)
        → Onward (renewed go ticks a) (renewed go' ticks a)
    renewed_alike go go' ticks j (Read (Ok reading)) v b =
        let c = T.delays v.machine (deadline reading ticks) b.held.store in
        subst (λ (x : Machine).
        Alike B n (go (record v { machine = set_deadline v.machine (deadline reading ticks) }))
        (go' (record v { machine = x })))
        (sym c.1)
        (j (record v { machine = set_deadline v.machine (deadline reading ticks) })
        (below_in B T m v (set_deadline v.machine (deadline reading ticks)) c.0 b))
    renewed_alike go go' ticks j (Read (Err fault)) v b = over B n (Refused refusal.EpochFault) v b.held
    renewed_alike go go' ticks j a v b = over B n Stuck v b.held

    behaved_alike : (go go' : World → Outcome) → Onward go go' → (a : Answer) → Onward (behaved go a) (behaved go' a)
    behaved_alike go go' j (Behaved (Ok update.Interrupt)) v b = over B n (Trapped trap.Interrupt) v b.held
    behaved_alike go go' j (Behaved (Ok (update.Continue ticks))) v b =
        ask_alike B T (code_ends B n) m v Reading (renewed go ticks) (renewed go' ticks) b (renewed_alike go go' ticks j)
    behaved_alike go go' j (Behaved (Err fault)) v b = over B n (Refused refusal.EpochFault) v b.held
    behaved_alike go go' j a v b = over B n Stuck v b.held

    at_deadline_alike :
        (v : World) (go go' : World → Outcome) → Onward go go' → Below B m v
        → Alike B n (at_deadline v go) (at_deadline (twin B v) go')
    at_deadline_alike v go go' j b =
        one_by B T (code_ends B n) v.machine.is_behaving _ _ _ _ _ (T.same v.machine b.held.store).is_behaving
        (ask_alike B T (code_ends B n) m v Behaving (behaved go) (behaved go') b (behaved_alike go go' j))
        (over B n (Trapped trap.Interrupt) v b.held)

    read_alike : (go go' : World → Outcome) → Onward go go' → (a : Answer) → Onward (read go a) (read go' a)
    read_alike go go' j (Read (Ok reading)) v b =
        one_by B T (code_ends B n) (nat_lt reading v.machine.deadline) _ _ _ _ _
        (ap (nat_lt reading) (T.same v.machine b.held.store).deadline) (j v b) (at_deadline_alike v go go' j b)
    read_alike go go' j (Read (Err fault)) v b = over B n (Refused refusal.EpochFault) v b.held
    read_alike go go' j a v b = over B n Stuck v b.held

    pub on_epoch_alike :
        (v : World) (go go' : World → Outcome) → Onward go go' → Below B m v
        → Alike B n (on_epoch v go) (on_epoch (twin B v) go')
    on_epoch_alike v go go' j b =
        one_by B T (code_ends B n) v.machine.engine.reads_epochs _ _ _ _ _
        (ap (λ (e : EngineParts). e.reads_epochs) (T.same v.machine b.held.store).engine)
        (ask_alike B T (code_ends B n) m v Reading (read go) (read go') b (read_alike go go' j)) (j v b)

    pub fuel_is : (x y : Machine) → HasSame x y → has_fuel y ≡ has_fuel x
    fuel_is x y s =
        ap (λ (e : EngineParts). not e.consumes_fuel || is_fuelled y.fuel) s.engine
        ∙ ap (λ f. not x.engine.consumes_fuel || is_fuelled f) s.fuel

    pub on_fuel_alike :
        (v : World) (go go' : World → Outcome) → Onward go go' → Below B m v
        → Alike B n (on_fuel v go) (on_fuel (twin B v) go')
    on_fuel_alike v go go' j b =
        one_by B T (code_ends B n) (has_fuel v.machine) _ _ _ _ _
        (fuel_is v.machine (B.other v.machine) (T.same v.machine b.held.store)) (j v b)
        (over B n (Trapped trap.OutOfFuel) v b.held)

    pub check_alike :
        (v : World) (go go' : World → Outcome) → Onward go go' → Below B m v
        → Alike B n (check v go) (check (twin B v) go')
    check_alike v go go' j b =
        on_fuel_alike v (λ u. on_epoch u go) (λ u. on_epoch u go') (λ u c. on_epoch_alike u go go' j c) b

  -- ---- the hook behind a call

  module _ (n : ℕ) where
    passing_alike :
        (event : CallHook) (v : World) (e : End) (o' : Outcome) → o' ≡ passing_end event (twin B v) e → Inside B v
        → Alike B n (passing_end event v e) o'
    passing_alike event v (Trapped t) o' p h =
        subst (λ (x : Outcome). Alike B n (passing_end event v (Trapped t)) x) (sym p)
        (pass_alike n (suc v.turns) event v _ _ (λ u b. over B n (Trapped t) u b.held) (here B T v h))
    passing_alike event v (Refused why) o' p h =
        subst (λ (x : Outcome). Alike B n (passing_end event v (Refused why)) x) (sym p)
        (pass_alike n (suc v.turns) event v _ _ (λ u b. over B n (Refused why) u b.held) (here B T v h))
    passing_alike event v e o' p h = record { by = inl (p, h) }

    behind_match :
        (event : CallHook) (o o' : Outcome) → Matches B n o o'
        → Alike B n (pass_behind event o) (pass_behind event o')
    behind_match event (Values s) o' h =
        subst (λ (x : Outcome). Alike B n (pass_behind event (Values s)) (pass_behind event x)) (sym h.0)
        (pass_alike n n event s.world _ _
        (λ v b. values B n (record s { world = v }) (record { world = b; locals = h.1.locals; operands = h.1.operands }))
        h.1.world)
    behind_match event (Branch l s) o' h = record { by = inl (ap (pass_behind event) h.0, h.1) }
    behind_match event (Return s) o' h = record { by = inl (ap (pass_behind event) h.0, h.1) }
    behind_match event (Over e v) o' h = passing_alike event v e _ (ap (pass_behind event) h.0) h.1

    pub pass_behind_alike :
        (event : CallHook) (o o' : Outcome) → Alike B n o o' → Alike B n (pass_behind event o) (pass_behind event o')
    pass_behind_alike event o o' h =
        elim h.by [
          | inl k ↦ behind_match event o o' k
          | inr k ↦ record { by = inr (pass_behind_lost B T event o k) }
        ]
