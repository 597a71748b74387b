-- Behind what leads out of the way everything does, since what was heard stays: so nothing is said there.
use Rattle.std.proofs.Common.{ℕ, zero, suc, List, [], ◌++◌, refl, arith}
use Rattle.std.specs.Prelude.{Bool, true, false, ◌&&◌, take, drop, length, nat_le, nat_eq, if◌then◌else◌}
use Rattle.std.specs.List.{list_all}
use Rattle.wasm_meter.specs.declared.call_hook.CallHook.{CallHook}
use Rattle.spec_machine.specs.Values.{owns_val, all_fit}
use Rattle.wasm_objects.specs.declared.raw.RawVal.{RawVal}
use Rattle.spec_execution.specs.Activations.{Activation, scope_of, replied}
use Rattle.spec_execution.specs.Bodies.{Exit, after, back, with_operands, exec}
use Rattle.spec_execution.specs.Checks.{pass_behind}
use Rattle.spec_execution.specs.Entering.{Code, Step, leave}
use Rattle.spec_execution.specs.Hosts.{go_on, said}
use Rattle.spec_execution.specs.Operands as on
use Rattle.spec_execution.specs.Outcomes.{World, State, state, Outcome, Values, Branch, Return, Over, Stuck}
use Rattle.spec_execution.specs.declared.answer.Answer.{Answer as Say}
use Rattle.spec_execution.specs.declared.answer.Answer.TheVariants as say
use Rattle.spec_execution.specs.declared.answer.Event.TheVariants.{Replied}
use Rattle.spec_execution.proofs.Ways as ways
use Rattle.spec_execution.proofs.EquationLemmas.{exec_alike, exec_fits}
use Rattle.spec_execution.proofs.WaysOfChecks.{pass_behind_alike}
use Rattle.spec_execution.proofs.WaysOfCommands.{operation_alike}
use Rattle.law_courses.proofs.Bounds.{Bounds, Turns}
use Rattle.law_courses.proofs.Courses.{heard_of}

module _ (B : Bounds) (T : Turns B) where
  abbrev straying : ways.Way
  straying = record {
    turns = λ t. t;
    answers = λ answers. answers;
    stops = Unit {0};
    waits = Unit {0};
    Holds = λ v. B.Strays v.heard;
    a_turn = λ t. refl;
    no_turn = λ c. refl;
    an_answer = λ a answers. refl;
    no_answer = λ c. refl;
    spent = λ v t e h. h;
    changed = λ v m h. h;
    heard = λ v q a rest e h. T.strays_on v.heard (q, a) h;
  }

  abbrev pub Lost : Outcome → Type 0
  Lost o = B.Strays (heard_of B o)

  lost_by : (n : ℕ) (o o' : Outcome) → ways.Alike straying n o o' → Lost o
  lost_by n (Values s) o' h = h.by.1.held
  lost_by n (Branch l s) o' h = h.by.1.held
  lost_by n (Return s) o' h = h.by.1.held
  lost_by n (Over e v) o' h = h.by.1

  pub exec_lost : (c : Code) (s : State) → B.Strays s.world.heard → Lost (exec c s)
  exec_lost c s h = lost_by (suc s.world.turns) (exec c s) (exec c s) (exec_alike straying c s h)

  -- ---- code behind code

  lost_if : (b : Bool) (x y : Outcome) → Lost x → Lost y → Lost (if b then x else y)
  lost_if true x y h j = h
  lost_if false x y h j = j

  front_lost :
      (k : ℕ) (v : World) (vs : List RawVal) (go : List RawVal → List RawVal → Outcome) → B.Strays v.heard
      → ((own below : List RawVal) → Lost (go own below)) → Lost (on.on_front (Over Stuck v) k vs go)
  front_lost k v vs go h j = lost_if (nat_le k (length vs)) _ _ (j (take k vs) (drop k vs)) h

  pub after_lost :
      (next : Code) (e : Exit) (below : List RawVal) (o : Outcome) → Lost o → Lost (after exec next e below o)
  after_lost next e below (Values s) h = exec_lost next (with_operands s (s.operands ++ below)) h
  after_lost next e below (Branch zero s) h =
      front_lost e.arity s.world s.operands (λ carried rest. exec e.target (with_operands s (carried ++ below))) h
      (λ carried rest. exec_lost e.target (with_operands s (carried ++ below)) h)
  after_lost next e below (Branch (suc l) s) h = h
  after_lost next e below (Return s) h = h
  after_lost next e below (Over end v) h = h

  pub back_lost :
      (next : Code) (locals below : List RawVal) (o : Outcome) → Lost o → Lost (back exec next locals below o)
  back_lost next locals below (Values s) h = exec_lost next (state s.world locals (s.operands ++ below)) h
  back_lost next locals below (Branch l s) h = h
  back_lost next locals below (Return s) h = h
  back_lost next locals below (Over e v) h = h

  pub leave_lost : (k : ℕ) (o : Outcome) → Lost o → Lost (leave k o)
  leave_lost k (Values s) h = lost_if (nat_eq (length s.operands) k) _ _ h h
  leave_lost k (Branch zero s) h =
      front_lost k s.world s.operands (λ own rest. Values (state s.world [] own)) h (λ own rest. h)
  leave_lost k (Branch (suc l) s) h = h
  leave_lost k (Return s) h =
      front_lost k s.world s.operands (λ own rest. Values (state s.world [] own)) h (λ own rest. h)
  leave_lost k (Over e v) h = h

  -- ---- a border behind a call

  turns_of : Outcome → ℕ
  turns_of (Values s) = s.world.turns
  turns_of (Branch l s) = s.world.turns
  turns_of (Return s) = s.world.turns
  turns_of (Over e v) = v.turns

  as_way : (o : Outcome) → Lost o → ways.Alike straying (suc (turns_of o)) o o
  unfolding turns_of
  as_way (Values s) h = record { by = (refl, record { fewer = omega arith; held = h }) }
  as_way (Branch l s) h = record { by = (refl, record { fewer = omega arith; held = h }) }
  as_way (Return s) h = record { by = (refl, record { fewer = omega arith; held = h }) }
  as_way (Over e v) h = record { by = (λ _. refl, h) }

  pub pass_behind_lost : (event : CallHook) (o : Outcome) → Lost o → Lost (pass_behind event o)
  pass_behind_lost event o h =
      lost_by (suc (turns_of o)) _ _ (pass_behind_alike straying (suc (turns_of o)) event o o (as_way o h))

  -- ---- an operation of a step of the host, and what goes on behind it

  pub said_lost : (a : Activation) (what : Say) (v : World) → B.Strays v.heard → Lost (said exec a what v)
  said_lost a (say.Return vals) v h =
      lost_if (list_all (owns_val v.machine) vals && all_fit v.machine vals a.results) _ _ h h
  said_lost a say.Fail v h = h
  said_lost a (say.Call op) v h =
      operation_alike straying {early = Over} {R = λ (o o' : Outcome). Lost o} (record { by = λ e u o' c k. k })
      (suc v.turns) exec exec (λ V. exec_fits V (suc v.turns)) (suc a.depth) (scope_of v.machine a) op v (go_on exec a)
      (go_on exec a) (λ u answer b. exec_lost (Step (replied a answer) Replied) (state u [] []) b.held)
      (record { fewer = omega arith; held = h })
