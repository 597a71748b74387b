-- Where no turns are left nothing of the outside is lacking: code asks in a turn, but whether there is a body.
use Rattle.std.proofs.Common.{◌≡◌, ℕ, zero, suc, List, [], ◌∷◌, Option, Some, None, refl, ap, ◌∙◌, subst, sym, Bool, true, false}
use Rattle.std.proofs.lemmas.Option.{same_Some}
use Rattle.wasm_types.specs.FunctionParts.{params}
use Rattle.std.specs.Prelude.{◌-◌, ◌^◌, ◌++◌, cond, slice_get, nat_le, nat_eq, length, take, drop}
use Rattle.wasm_syntax.specs.declared.instr.Instr.{Instr}
use Rattle.wasm_syntax.specs.declared.instr.Instr.TheVariants as i
use Rattle.wasm_objects.specs.declared.raw.RawVal.{RawVal}
use Rattle.spec_machine.specs.Changes.{charge}
use Rattle.spec_machine.specs.Growth.{Decision, Granted, Failed, Rule, Grows, Fails, Asks, Plan, plan_rule}
use Rattle.spec_execution.specs.Askings.{Growing, Reading}
use Rattle.spec_execution.specs.Bodies.{with_operands, Exit, after, back, loop_exit, at_once, grown, grow, memory_grow, table_grow, one, where_bulk, instruction, exec}
use Rattle.spec_execution.specs.Checks.{by_answer, by_rule, has_fuel, read, on_epoch, check}
use Rattle.spec_execution.specs.Costs.{is_bulk, cost}
use Rattle.spec_execution.specs.Entering.{Frame, Code, Run, Again, leave}
use Rattle.spec_execution.specs.Operands as on
use Rattle.spec_execution.specs.Outcomes.{World, State, state, Outcome, Values, Branch, Return, Over, Trapped, Refused, Stopped, Waiting, Exhausted, Stuck, on_turn, turn, spend, hear, ask}
use Rattle.wasm_values.specs.declared.refusals.Trap.TheVariants as trap
use Rattle.spec_execution.proofs.EquationLemmas.{run_nil, run_cons, again_at_once}
use Rattle.spec_execution.proofs.WaysOfCode.{memory_plan, table_plan}
use Rattle.code_stack.specs.Layers.{frame_of, target_of, exit_of, lost, outwards, Configuration, frame_at, state_at, means, resumed}
use Rattle.code_leaps.specs.Leading.{halted}
use Rattle.code_stack.specs.declared.layers.Activation.{Activation}
use Rattle.code_stack.specs.declared.layers.Label.{Label}
use Rattle.code_stack.specs.declared.layers.Layer.{Layer}
use Rattle.code_stack.specs.declared.layers.Layer.TheVariants.{Block, Call}

-- the outcome stands in this world, and nothing outside was lacking
abbrev pub Halted : World → Outcome → Type 0
Halted w o = halted o ≡ Some w

pub either_halts : (w : World) (b : Bool) (x y : Outcome) → Halted w x → Halted w y → Halted w (cond b x y)
either_halts w true x y h j = h
either_halts w false x y h j = j

pub leave_halts : (n : ℕ) (o : Outcome) (w : World) → Halted w o → Halted w (leave n o)
leave_halts n (Values s) w h =
    either_halts w (nat_eq (length s.operands) n) (Values (state s.world [] s.operands)) (Over Stuck s.world) h h
leave_halts n (Branch zero s) w h =
    either_halts w (nat_le n (length s.operands)) (Values (state s.world [] (take n s.operands)))
    (Over Stuck s.world) h h
leave_halts n (Branch (suc l) s) w h = h
leave_halts n (Return s) w h =
    either_halts w (nat_le n (length s.operands)) (Values (state s.world [] (take n s.operands)))
    (Over Stuck s.world) h h
leave_halts n (Over e v) w h = h

module _ (w : World) (none : w.turns ≡ 0) where
  pub turn_halts : (go : World → Outcome) → Halted w (turn Over w go)
  turn_halts go = subst (λ (k : ℕ). Halted w (on_turn Over w go k)) (sym none) refl

  pub check_halts : (go : World → Outcome) → Halted w (go w) → Halted w (check w go)
  check_halts go h =
      either_halts w (has_fuel w.machine) (on_epoch w go) (Over (Trapped trap.OutOfFuel) w)
      (either_halts w w.machine.engine.reads_epochs (ask Over w Reading (read go)) (go w)
      (turn_halts (λ v. hear Over v Reading (read go) v.answers)) h) refl

  pub found_halts : {A : Type 0} (o : Option A) (go : A → Outcome) → ((a : A) → Halted w (go a)) →
      Halted w (on.found (Over Stuck w) o go)
  found_halts None go h = refl
  found_halts (Some a) go h = h a

-- ---- code that is due at a turn

-- it ended early in this world, and nothing outside was lacking
abbrev Fallen : World → Outcome → Type 0
Fallen w (Over (Waiting q) v) = ⊥
Fallen w (Over Exhausted v) = ⊥
Fallen w (Over (Trapped t) v) = v ≡ w
Fallen w (Over (Refused why) v) = v ≡ w
Fallen w (Over Stopped v) = v ≡ w
Fallen w (Over Stuck v) = v ≡ w
Fallen w (Values s) = ⊥
Fallen w (Branch l s) = ⊥
Fallen w (Return s) = ⊥

fallen_halts : (w : World) (o : Outcome) → Fallen w o → Halted w o
fallen_halts w (Over (Waiting q) v) h = absurd h
fallen_halts w (Over Exhausted v) h = absurd h
fallen_halts w (Over (Trapped t) v) h = ap Some h
fallen_halts w (Over (Refused why) v) h = ap Some h
fallen_halts w (Over Stopped v) h = ap Some h
fallen_halts w (Over Stuck v) h = ap Some h
fallen_halts w (Values s) h = absurd h
fallen_halts w (Branch l s) h = absurd h
fallen_halts w (Return s) h = absurd h

either_fallen : (w : World) (b : Bool) (x y : Outcome) → Fallen w x → Fallen w y → Fallen w (cond b x y)
either_fallen w true x y h j = h
either_fallen w false x y h j = j

after_fallen : (w : World) (next : Code) (e : Exit) (below : List RawVal) (o : Outcome) → Fallen w o →
    Fallen w (after exec next e below o)
after_fallen w next e below (Over x v) h = h
after_fallen w next e below (Values s) h = absurd h
after_fallen w next e below (Branch l s) h = absurd h
after_fallen w next e below (Return s) h = absurd h

module _ (w : World) (none : w.turns ≡ 0) where
  turn_fallen : (go : World → Outcome) → Fallen w (turn Over w go)
  turn_fallen go = subst (λ (k : ℕ). Fallen w (on_turn Over w go k)) (sym none) refl

  spend_fallen : (amount : ℕ) (go : World → Outcome) → Fallen w (spend amount w go)
  spend_fallen amount go = turn_fallen (λ v. go (record v { machine = charge v.machine amount }))

  found_fallen : {A : Type 0} (o : Option A) (go : A → Outcome) → ((a : A) → Fallen w (go a)) →
      Fallen w (on.found (Over Stuck w) o go)
  found_fallen None go h = refl
  found_fallen (Some a) go h = h a

  value_fallen : (vs : List RawVal) (go : RawVal → List RawVal → Outcome) →
      ((v : RawVal) (rest : List RawVal) → Fallen w (go v rest)) → Fallen w (on.on_value (Over Stuck w) vs go)
  value_fallen [] go h = refl
  value_fallen (v ∷ rest) go h = h v rest

  check_fallen : (go : World → Outcome) → Fallen w (go w) → Fallen w (check w go)
  check_fallen go h =
      either_fallen w (has_fuel w.machine) (on_epoch w go) (Over (Trapped trap.OutOfFuel) w)
      (either_fallen w w.machine.engine.reads_epochs (ask Over w Reading (read go)) (go w)
      (turn_fallen (λ v. hear Over v Reading (read go) v.answers)) h) refl

  where_fallen : (b : Bool) (go : World → Outcome) → Fallen w (go w) → Fallen w (where_bulk b w go)
  where_fallen true go h = either_fallen w (has_fuel w.machine) (go w) (Over (Trapped trap.OutOfFuel) w) h refl
  where_fallen false go h = h

  rule_fallen : (p : Plan ℕ) (go : Decision → World → Outcome) → Fallen w (go Granted w) → Fallen w (go Failed w) →
      (r : Rule) → Fallen w (by_rule Over w p go r)
  rule_fallen p go h j Grows = h
  rule_fallen p go h j Fails = j
  rule_fallen p go h j Asks = turn_fallen (λ v. hear Over v (Growing p.growth) (by_answer Over p.growth go) v.answers)

module _ (fr : Frame) (is : List Instr) (s : State) (none : s.world.turns ≡ 0) where
  -- the state behind a growth, and behind one that failed
  abbrev granted : List RawVal → Plan ℕ → World → State
  granted operands p w =
      state (record w { machine = charge p.after 1 }) s.locals (on.integer 32 p.gives ∷ operands)

  abbrev denied : List RawVal → World → State
  denied operands w = state w s.locals (on.integer 32 (2 ^ 32 - 1) ∷ operands)

  grow_fallen : (operands : List RawVal) (p : Plan ℕ) →
      Fallen s.world (grow exec (Run fr is) (with_operands s operands) p)
  grow_fallen operands p =
      rule_fallen s.world none p (grown exec (Run fr is) (with_operands s operands) p)
      (spend_fallen s.world none 1 (λ v. exec (Run fr is) (granted operands p v)))
      (spend_fallen s.world none 1 (λ v. exec (Run fr is) (denied operands v))) (plan_rule s.world.machine p)

  memory_grow_fallen : (k : ℕ) → Fallen s.world (memory_grow exec fr k is s)
  memory_grow_fallen k =
      value_fallen s.world none s.operands _ (λ v rest. found_fallen s.world none (on.integer_in 32 v) _ (λ delta.
      found_fallen s.world none (slice_get s.world.machine.instances fr.instance) _ (λ parts.
      found_fallen s.world none (slice_get parts.memories k) _ (λ n.
      found_fallen s.world none (slice_get s.world.machine.memories n) _ (λ x.
      grow_fallen rest (memory_plan s.world.machine n x delta))))))

  table_grow_fallen : (k : ℕ) → Fallen s.world (table_grow exec fr k is s)
  table_grow_fallen k =
      value_fallen s.world none s.operands _ (λ v rest1. found_fallen s.world none (on.integer_in 32 v) _ (λ delta.
      value_fallen s.world none rest1 _ (λ u rest. found_fallen s.world none (on.reference_in u) _ (λ y.
      found_fallen s.world none (slice_get s.world.machine.instances fr.instance) _ (λ parts.
      found_fallen s.world none (slice_get parts.tables k) _ (λ n.
      found_fallen s.world none (slice_get s.world.machine.tables n) _ (λ x.
      grow_fallen rest (table_plan s.world.machine n x delta y))))))))

  instruction_fallen : (j : Instr) → Fallen s.world (instruction exec fr j is s)
  instruction_fallen (i.MemoryGrow k) = memory_grow_fallen k
  instruction_fallen (i.TableGrow k) = table_grow_fallen k
  instruction_fallen j =
      where_fallen s.world none (is_bulk j)
      (λ w. spend (cost j s.operands) w (λ v. one exec fr j is (record s { world = v })))
      (spend_fallen s.world none (cost j s.operands) (λ v. one exec fr j is (record s { world = v })))

at_once_fallen : (fr : Frame) (is : List Instr) (s : State) → s.world.turns ≡ 0 → Fallen s.world (at_once exec fr is s)
at_once_fallen fr [] s none = refl
at_once_fallen fr (j ∷ is) s none = instruction_fallen fr is s none j

-- instructions
pub run_halts : (fr : Frame) (is : List Instr) (s : State) → s.world.turns ≡ 0 → Halted s.world (exec (Run fr is) s)
run_halts fr [] s none = ap halted (run_nil fr s)
run_halts fr (j ∷ is) s none =
    ap halted (run_cons fr j is s)
    ∙ fallen_halts s.world (instruction exec fr j is s) (instruction_fallen fr is s none j)

-- a loop once more
again_halts : (fr : Frame) (b : ℕ) (is : List Instr) (s : State) → s.world.turns ≡ 0 →
    Halted s.world (exec (Again fr b is) s)
again_halts fr b is s none =
    ap halted (again_at_once fr b is s)
    ∙ fallen_halts s.world _ (found_fallen s.world none (slice_get fr.function.blocks b) _ (λ body.
    found_fallen s.world none (slice_get fr.decl.types body.ty) _ (λ t.
    either_fallen s.world (nat_le (length (params t)) (length s.operands)) _ _
    (after_fallen s.world (Run fr is) (loop_exit fr b is t) _ _
    (check_fallen s.world none _ (at_once_fallen fr body.instrs (with_operands s _) none))) refl)))

-- ---- what goes outwards

target_halts : (fr : Frame) (is : List Instr) (again : Option ℕ) (s : State) → s.world.turns ≡ 0 →
    Halted s.world (exec (target_of fr is again) s)
target_halts fr is None s none = run_halts fr is s none
target_halts fr is (Some b) s none = again_halts fr b is s none

module _ (w : World) (none : w.turns ≡ 0) where
  in_world : (v : World) → Some v ≡ Some w → v.turns ≡ 0
  in_world v h = ap (λ (u : World). u.turns) (same_Some v w h) ∙ none

  lost_halts : (o : Outcome) → Halted w o → Halted w (lost o)
  lost_halts (Values s) h = h
  lost_halts (Branch l s) h = h
  lost_halts (Return s) h = h
  lost_halts (Over e v) h = h

  after_halts : (fr : Frame) (p : Label) (below : List RawVal) (o : Outcome) → Halted w o →
      Halted w (after exec (Run fr p.rest.now) (exit_of fr p) below o)
  after_halts fr p below (Values s) h =
      run_halts fr p.rest.now (with_operands s (s.operands ++ below)) (in_world s.world h) ∙ h
  after_halts fr p below (Branch zero s) h =
      either_halts w (nat_le p.arity (length s.operands)) _ (Over Stuck s.world)
      (target_halts fr p.rest.now p.again (with_operands s (take p.arity s.operands ++ below)) (in_world s.world h)
      ∙ h) h
  after_halts fr p below (Branch (suc l) s) h = h
  after_halts fr p below (Return s) h = h
  after_halts fr p below (Over e v) h = h

  back_halts : (fr : Frame) (is : List Instr) (locals below : List RawVal) (o : Outcome) → Halted w o →
      Halted w (back exec (Run fr is) locals below o)
  back_halts fr is locals below (Values s) h =
      run_halts fr is (state s.world locals (s.operands ++ below)) (in_world s.world h) ∙ h
  back_halts fr is locals below (Branch l s) h = h
  back_halts fr is locals below (Return s) h = h
  back_halts fr is locals below (Over e v) h = h

  outwards_halts : (a : Activation) (ls : List Layer) (below own : List (List RawVal)) (o : Outcome) → Halted w o →
      Halted w (outwards a ls below own o)
  outwards_halts a [] [] own o h = lost_halts o h
  outwards_halts a [] (ops ∷ below) [] o h = lost_halts o h
  outwards_halts a [] (ops ∷ below) (locals ∷ own) o h = leave_halts a.results o w h
  outwards_halts a (Block p ∷ ls) [] own o h = lost_halts o h
  outwards_halts a (Block p ∷ ls) (ops ∷ below) own o h =
      outwards_halts a ls below own _ (after_halts (frame_of a) p ops o h)
  outwards_halts a (Call c ∷ ls) [] own o h = lost_halts o h
  outwards_halts a (Call c ∷ ls) (ops ∷ below) [] o h = lost_halts o h
  outwards_halts a (Call c ∷ ls) (ops ∷ below) (locals ∷ own) o h =
      outwards_halts c.activation ls below own _
      (back_halts (frame_of c.activation) c.rest.now locals ops _ (leave_halts a.results o w h))

-- a state
pub means_halts : (c : Configuration) (w : World) → w.turns ≡ 0 → Halted w (means c w)
means_halts c w none =
    outwards_halts w none c.activation c.layers c.values.below.operands c.values.below.locals
    (exec (Run (frame_at c) c.code) (state_at c w)) (run_halts (frame_at c) c.code (state_at c w) none)

-- a function that the innermost code called
pub resumed_halts : (c : Configuration) (count : ℕ) (o : Outcome) (w : World) → w.turns ≡ 0 → Halted w o →
    Halted w (resumed c count o)
resumed_halts c count o w none h =
    outwards_halts w none c.activation c.layers c.values.below.operands c.values.below.locals _
    (back_halts w none (frame_at c) c.code c.values.locals (drop count c.values.operands) o h)
