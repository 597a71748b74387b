-- Growth, hooks and checks are dialogues, where what follows is.
use Rattle.std.proofs.Common.{ℕ, ◌<◌, ◌≤◌, refl, arith}
use Rattle.std.specs.Prelude.{Ok, Err, nat_lt}
use Rattle.wasm_meter.specs.Growths.{Growth}
use Rattle.wasm_meter.specs.declared.call_hook.CallHook.{CallHook}
use Rattle.wasm_meter.specs.declared.deadline.UpdateDeadline.TheVariants as update
use Rattle.wasm_values.specs.declared.refusals.Refusal.TheVariants as refusal
use Rattle.wasm_values.specs.declared.refusals.Trap.TheVariants as trap
use Rattle.spec_machine.specs.Changes.{set_deadline}
use Rattle.spec_machine.specs.Growth.{Decision, Granted, Failed, Rule, Grows, Fails, Asks, Plan, plan_rule, answered_growth}
use Rattle.spec_execution.specs.Askings.{Growing, Passing, Reading, Behaving, Answer, Grown, Passed, Read, Behaved}
use Rattle.spec_execution.specs.Checks.{by_answer, by_rule, decide, passed, pass, pass_behind, passing_end, has_fuel, deadline, renewed, behaved, at_deadline, read, on_epoch, on_fuel, check}
use Rattle.spec_execution.specs.Outcomes.{World, Outcome, Values, Branch, Return, Over, End, Trapped, Refused, Stuck}
use Rattle.law_answers.proofs.Dialogues.{Ending, at, Reads, over, one_of, ask_reads, behind}
use Rattle.law_answers.proofs.CodeDialogues.{placed, HasTurns, code, Runs, ends_over, values, branch, «return»}

-- ---- growth, of anything that may end early, in worlds with fewer turns than so many

module _ (E : Ending) (k : ℕ) where
  abbrev pub Decided : (Decision → World → E.Result) → Type 0
  Decided go = (d : Decision) (v : World) → v.turns < E.limit → v.turns < k → Reads E (λ h l. go d (at v h l))

  by_answer_reads :
      (g : Growth) (go : Decision → World → E.Result) → Decided go → (a : Answer) (v : World) → v.turns < E.limit
      → v.turns < k → Reads E (λ h l. by_answer E.early g go a (at v h l))
  by_answer_reads g go j (Grown answer) v c d = j (answered_growth g answer) v c d
  by_answer_reads g go j a v c d = over E Stuck v c

  by_rule_reads :
      {A : Type 0} (v : World) (p : Plan A) (go : Decision → World → E.Result) → Decided go → v.turns < E.limit
      → v.turns < k → (r : Rule) → Reads E (λ h l. by_rule E.early (at v h l) p go r)
  by_rule_reads v p go j c d Grows = j Granted v c d
  by_rule_reads v p go j c d Fails = j Failed v c d
  by_rule_reads v p go j c d Asks =
      ask_reads E k v (Growing p.growth) (by_answer E.early p.growth go) c d (by_answer_reads p.growth go j)

  pub decide_reads :
      {A : Type 0} (v : World) (p : Plan A) (go : Decision → World → E.Result) → Decided go → v.turns < E.limit
      → v.turns < k → Reads E (λ h l. decide E.early (at v h l) p go)
  decide_reads v p go j c d = by_rule_reads v p go j c d (plan_rule v.machine p)

-- ---- hooks and checks of code, in worlds with fewer turns than k

module _ (n m k : ℕ) where
  abbrev pub Onward : (World → Outcome) → Type 0
  Onward go = (v : World) → v.turns < m → v.turns < k → Runs n m (λ h l. go (at v h l))

  passed_reads : (go : World → Outcome) → Onward go → (a : Answer) → Onward (passed go a)
  passed_reads go j (Passed (Ok x)) v c d = j v c d
  passed_reads go j (Passed (Err fault)) v c d = ends_over n m (Refused refusal.HookFault) v c
  passed_reads go j a v c d = ends_over n m Stuck v c

  pub pass_reads :
      (event : CallHook) (v : World) (go : World → Outcome) → Onward go → v.turns < m → v.turns < k
      → Runs n m (λ h l. pass event (at v h l) go)
  pass_reads event v go j c d =
      one_of (code n m) v.machine.is_hooked _ _
      (ask_reads (code n m) k v (Passing event) (passed go) c d (passed_reads go j)) (j v c d)

  renewed_reads : (go : World → Outcome) (ticks : ℕ) → Onward go → (a : Answer) → Onward (renewed go ticks a)
  renewed_reads go ticks j (Read (Ok reading)) v c d =
      j (record v { machine = set_deadline v.machine (deadline reading ticks) }) c d
  renewed_reads go ticks j (Read (Err fault)) v c d = ends_over n m (Refused refusal.EpochFault) v c
  renewed_reads go ticks j a v c d = ends_over n m Stuck v c

  behaved_reads : (go : World → Outcome) → Onward go → (a : Answer) → Onward (behaved go a)
  behaved_reads go j (Behaved (Ok update.Interrupt)) v c d = ends_over n m (Trapped trap.Interrupt) v c
  behaved_reads go j (Behaved (Ok (update.Continue ticks))) v c d =
      ask_reads (code n m) k v Reading (renewed go ticks) c d (renewed_reads go ticks j)
  behaved_reads go j (Behaved (Err fault)) v c d = ends_over n m (Refused refusal.EpochFault) v c
  behaved_reads go j a v c d = ends_over n m Stuck v c

  at_deadline_reads :
      (v : World) (go : World → Outcome) → Onward go → v.turns < m → v.turns < k → Runs n m (λ h l. at_deadline (at v h l) go)
  at_deadline_reads v go j c d =
      one_of (code n m) v.machine.is_behaving _ _
      (ask_reads (code n m) k v Behaving (behaved go) c d (behaved_reads go j)) (ends_over n m (Trapped trap.Interrupt) v c)

  read_reads : (go : World → Outcome) → Onward go → (a : Answer) → Onward (read go a)
  read_reads go j (Read (Ok reading)) v c d =
      one_of (code n m) (nat_lt reading v.machine.deadline) _ _ (j v c d) (at_deadline_reads v go j c d)
  read_reads go j (Read (Err fault)) v c d = ends_over n m (Refused refusal.EpochFault) v c
  read_reads go j a v c d = ends_over n m Stuck v c

  on_epoch_reads :
      (v : World) (go : World → Outcome) → Onward go → v.turns < m → v.turns < k → Runs n m (λ h l. on_epoch (at v h l) go)
  on_epoch_reads v go j c d =
      one_of (code n m) v.machine.engine.reads_epochs _ _
      (ask_reads (code n m) k v Reading (read go) c d (read_reads go j)) (j v c d)

  pub on_fuel_reads :
      (v : World) (go : World → Outcome) → Onward go → v.turns < m → v.turns < k → Runs n m (λ h l. on_fuel (at v h l) go)
  on_fuel_reads v go j c d =
      one_of (code n m) (has_fuel v.machine) _ _ (j v c d) (ends_over n m (Trapped trap.OutOfFuel) v c)

  pub check_reads :
      (v : World) (go : World → Outcome) → Onward go → v.turns < m → v.turns < k → Runs n m (λ h l. check (at v h l) go)
  check_reads v go j c d = on_fuel_reads v (λ u. on_epoch u go) (λ u e f. on_epoch_reads u go j e f) c d

-- ---- the hook behind a call

module _ (n m : ℕ) (le : n ≤ m) (event : CallHook) where
  passing_reads : (e : End) (v : World) → v.turns < m → Runs n m (λ h l. passing_end event (at v h l) e)
  passing_reads (Trapped t) v c = pass_reads n m m event v (Over (Trapped t)) (λ u d e. ends_over n m (Trapped t) u d) c c
  passing_reads (Refused why) v c = pass_reads n m m event v (Over (Refused why)) (λ u d e. ends_over n m (Refused why) u d) c c
  passing_reads e v c = ends_over n m e v c

  behind_reads : (o : Outcome) → HasTurns n m o → Runs n m (λ h l. pass_behind event (placed o h l))
  behind_reads (Values s) b =
      pass_reads n m n event s.world (λ w. Values (record s { world = w })) (λ v c d. values n m (record s { world = v }) d)
      (omega (arith, le, b)) b
  behind_reads (Branch l s) b = branch n m l s b
  behind_reads (Return s) b = «return» n m s b
  behind_reads (Over e v) b = passing_reads e v b

  pub pass_behind_reads : (run : _) → Runs n m run → Runs n m (λ h l. pass_behind event (run h l))
  pass_behind_reads run r = behind (code n m) (code n m) (pass_behind event) (λ q w. refl) behind_reads run r
