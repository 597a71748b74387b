-- Where no turns are left nothing is done: of code the whole world stays as it was, of a call the store, and of an
-- instantiation all but the counts.
use Rattle.std.proofs.Common.{◌≡◌, ℕ, zero, suc, List, [], ◌∷◌, Option, Some, None, refl, sym, ap, ◌∙◌, subst}
use Rattle.std.specs.Prelude.{Bool, true, false, ⊤, Result, Ok, Err, ◌+◌, ◌-◌, ◌^◌, ◌++◌, length, nat_le, nat_eq, if◌then◌else◌, slice_get}
use Rattle.wasm_types.specs.FunctionParts.{params, results}
use Rattle.wasm_types.specs.MemoryTypes.{MemoryParts}
use Rattle.wasm_syntax.specs.declared.declarations.ModuleDecl.{ModuleDecl}
use Rattle.wasm_syntax.specs.declared.declarations.TableDecl.{TableDecl}
use Rattle.wasm_syntax.specs.declared.instr.Instr.{Instr}
use Rattle.wasm_syntax.specs.declared.instr.Instr.TheVariants as i
use Rattle.wasm_meter.specs.declared.call_hook.CallHook.{CallHook}
use Rattle.wasm_meter.specs.declared.call_hook.CallHook.TheVariants.{CallingWasm, ReturningFromWasm, CallingHost, ReturningFromHost}
use Rattle.wasm_values.specs.declared.externals.Extern.{Extern}
use Rattle.wasm_values.specs.declared.refusals.Refusal.{Refusal}
use Rattle.wasm_values.specs.declared.refusals.Refusal.TheVariants as refusal
use Rattle.wasm_values.specs.declared.refusals.Trap.TheVariants as trap
use Rattle.wasm_objects.specs.declared.raw.RawVal.{RawVal}
use Rattle.spec_machine.specs.Changes.{charge}
use Rattle.spec_machine.specs.Growth.{Decision, Granted, Failed, Rule, Grows, Fails, Asks, Plan, plan_rule}
use Rattle.spec_machine.specs.Machine.{Machine, Function, guest, host}
use Rattle.spec_execution.specs.Askings.{Question, Growing, Having, Passing, Reading, Answer, Has, is_answer}
use Rattle.spec_execution.specs.Bodies.{with_operands, Exit, after, loop_exit, iterate, grown, grow, memory_grow, table_grow, one, where_bulk, instruction, at_once, step, exec}
use Rattle.spec_execution.specs.Checks.{by_answer, by_rule, decide, has_fuel, read, on_epoch, on_fuel, check, passed, pass, pass_behind}
use Rattle.spec_execution.specs.Costs.{is_bulk, cost}
use Rattle.spec_execution.specs.Entering.{Frame, Code, Run, Again, Step, Exec, leave_front, leave, frame, activation, step_first, begin_host, where_has, enter_function, enter, entry}
use Rattle.spec_execution.specs.Hosts as hosts
use Rattle.spec_execution.specs.Activations.{Activation}
use Rattle.spec_execution.specs.Instantiation.{imports_fit, Counted, Within, Past, counted, where_granted, new_memory_plan, new_table_plan, ask_memories, ask_tables, started, making, by_counts, by_checks, instantiate}
use Rattle.spec_execution.specs.Operands as on
use Rattle.spec_execution.specs.Outcomes.{World, State, state, Outcome, Values, Branch, Return, Over, End, Trapped, Refused, Stopped, Waiting, Stuck, on_turn, turn, spend, hear, ask}
use Rattle.spec_execution.specs.Segments.{make}
use Rattle.spec_execution.specs.declared.answer.Event.TheVariants.{Start}
use Rattle.spec_execution.proofs.LaterWorldLemmas.{world_of}
use Rattle.spec_execution.proofs.WaysOfCode.{memory_plan, table_plan}
use Rattle.spec_execution.proofs.EquationLemmas.{exec_is}

-- the run is over in this world
abbrev OverIn : World → Outcome → Type 0
OverIn w (Over e v) = v ≡ w
OverIn w o = ⊥

record IsOverIn (w : World) (o : Outcome) : Type 0 where
  by : OverIn w o

over_in : (w : World) (o : Outcome) → IsOverIn w o → world_of o ≡ w
over_in w (Values s) h = absurd h.by
over_in w (Branch l s) h = absurd h.by
over_in w (Return s) h = absurd h.by
over_in w (Over e v) h = h.by

ends : (w : World) (e : End) → IsOverIn w (Over e w)
ends w e = record { by = refl }

module _ (w : World) (none : w.turns ≡ 0) where
  turn_over : (go : World → Outcome) → IsOverIn w (turn Over w go)
  turn_over go = subst (λ (k : ℕ). IsOverIn w (on_turn Over w go k)) (sym none) (ends w Stopped)

  ask_over : (q : Question) (go : Answer → World → Outcome) → IsOverIn w (ask Over w q go)
  ask_over q go = turn_over (λ v. hear Over v q go v.answers)

  spend_over : (amount : ℕ) (go : World → Outcome) → IsOverIn w (spend amount w go)
  spend_over amount go = turn_over (λ v. go (record v { machine = charge v.machine amount }))

  found_over :
      {A : Type 0} (o : Option A) (go : A → Outcome) → ((a : A) → IsOverIn w (go a))
      → IsOverIn w (on.found (Over Stuck w) o go)
  found_over None go h = ends w Stuck
  found_over (Some a) go h = h a

  value_over :
      (vs : List RawVal) (go : RawVal → List RawVal → Outcome)
      → ((v : RawVal) (rest : List RawVal) → IsOverIn w (go v rest))
      → IsOverIn w (on.on_value (Over Stuck w) vs go)
  value_over [] go h = ends w Stuck
  value_over (v ∷ rest) go h = h v rest

  either_over : (b : Bool) (x y : Outcome) → IsOverIn w x → IsOverIn w y → IsOverIn w (if b then x else y)
  either_over true x y h j = h
  either_over false x y h j = j

  on_fuel_over : (go : World → Outcome) → IsOverIn w (go w) → IsOverIn w (on_fuel w go)
  on_fuel_over go h = either_over (has_fuel w.machine) _ _ h (ends w (Trapped trap.OutOfFuel))

  check_over : (go : World → Outcome) → IsOverIn w (go w) → IsOverIn w (check w go)
  check_over go h =
      on_fuel_over (λ v. on_epoch v go) (either_over w.machine.engine.reads_epochs _ _ (ask_over Reading (read go)) h)

  where_bulk_over : (bulk : Bool) (go : World → Outcome) → IsOverIn w (go w) → IsOverIn w (where_bulk bulk w go)
  where_bulk_over true go h = on_fuel_over go h
  where_bulk_over false go h = h

  by_rule_over :
      {A : Type 0} (p : Plan A) (go : Decision → World → Outcome) → IsOverIn w (go Granted w)
      → IsOverIn w (go Failed w) → (r : Rule) → IsOverIn w (by_rule Over w p go r)
  by_rule_over p go h j Grows = h
  by_rule_over p go h j Fails = j
  by_rule_over p go h j Asks = ask_over (Growing p.growth) (by_answer Over p.growth go)

  decide_over :
      {A : Type 0} (p : Plan A) (go : Decision → World → Outcome) → IsOverIn w (go Granted w)
      → IsOverIn w (go Failed w) → IsOverIn w (decide Over w p go)
  decide_over p go h j = by_rule_over p go h j (plan_rule w.machine p)

abbrev grown_state : State → Plan ℕ → World → State
grown_state s p w = state (record w { machine = charge p.after 1 }) s.locals (on.integer 32 p.gives ∷ s.operands)

abbrev denied_state : State → World → State
denied_state s w = state w s.locals (on.integer 32 (2 ^ 32 - 1) ∷ s.operands)

module _ (f : Exec) where
  after_over :
      (w : World) (next : Code) (e : Exit) (below : List RawVal) (o : Outcome) → IsOverIn w o
      → IsOverIn w (after f next e below o)
  after_over w next e below (Values s) h = absurd h.by
  after_over w next e below (Branch l s) h = absurd h.by
  after_over w next e below (Return s) h = absurd h.by
  after_over w next e below (Over end v) h = h

  module _ (s : State) (none : s.world.turns ≡ 0) where
    grow_over :
        (next : Code) (operands : List RawVal) (p : Plan ℕ)
        → IsOverIn s.world (grow f next (with_operands s operands) p)
    grow_over next operands p =
        let t : State = with_operands s operands in
        decide_over s.world none p (grown f next t p) (spend_over s.world none 1 (λ v. f next (grown_state t p v)))
        (spend_over s.world none 1 (λ v. f next (denied_state t v)))

    memory_grow_over : (fr : Frame) (k : ℕ) (is : List Instr) → IsOverIn s.world (memory_grow f fr k is s)
    memory_grow_over fr k is =
        value_over s.world none s.operands _ (λ v rest. found_over s.world none (on.integer_in 32 v) _ (λ delta.
        found_over s.world none (slice_get s.world.machine.instances fr.instance) _ (λ parts.
        found_over s.world none (slice_get parts.memories k) _ (λ n.
        found_over s.world none (slice_get s.world.machine.memories n) _ (λ x.
        grow_over (Run fr is) rest (memory_plan s.world.machine n x delta))))))

    table_grow_over : (fr : Frame) (k : ℕ) (is : List Instr) → IsOverIn s.world (table_grow f fr k is s)
    table_grow_over fr k is =
        value_over s.world none s.operands _ (λ v rest1. found_over s.world none (on.integer_in 32 v) _ (λ delta.
        value_over s.world none rest1 _ (λ u rest. found_over s.world none (on.reference_in u) _ (λ y.
        found_over s.world none (slice_get s.world.machine.instances fr.instance) _ (λ parts.
        found_over s.world none (slice_get parts.tables k) _ (λ n.
        found_over s.world none (slice_get s.world.machine.tables n) _ (λ x.
        grow_over (Run fr is) rest (table_plan s.world.machine n x delta y))))))))

    instruction_over : (fr : Frame) (j : Instr) (is : List Instr) → IsOverIn s.world (instruction f fr j is s)
    instruction_over fr (i.MemoryGrow k) is = memory_grow_over fr k is
    instruction_over fr (i.TableGrow k) is = table_grow_over fr k is
    instruction_over fr j is =
        let run : World → Outcome = λ w. one f fr j is (record s { world = w }) in
        where_bulk_over s.world none (is_bulk j) (λ w. spend (cost j s.operands) w run)
        (spend_over s.world none (cost j s.operands) run)

  at_once_over :
      (fr : Frame) (is : List Instr) (s : State) → s.world.turns ≡ 0 → IsOverIn s.world (at_once f fr is s)
  at_once_over fr [] s none = ends s.world Stuck
  at_once_over fr (j ∷ is) s none = instruction_over s none fr j is

  again_over :
      (fr : Frame) (k : ℕ) (is : List Instr) (s : State) → s.world.turns ≡ 0
      → IsOverIn s.world (iterate f fr k is s (λ body. at_once f fr body.instrs))
  again_over fr k is s none =
      found_over s.world none (slice_get fr.function.blocks k) _ (λ body.
      found_over s.world none (slice_get fr.decl.types body.ty) _ (λ t.
      either_over s.world none (nat_le (length (params t)) (length s.operands)) _ _
      (after_over s.world (Run fr is) (loop_exit fr k is t) _ _
      (check_over s.world none _ (at_once_over fr body.instrs (with_operands s _) none)))
      (ends s.world Stuck)))

  step_idle : (c : Code) (s : State) → s.world.turns ≡ 0 → world_of (step f c s) ≡ s.world
  unfolding step
  step_idle (Run fr []) s none = refl
  step_idle (Run fr (j ∷ is)) s none = over_in s.world (instruction f fr j is s) (instruction_over s none fr j is)
  step_idle (Again fr k is) s none = over_in s.world _ (again_over fr k is s none)
  step_idle (Step a event) s none =
      subst (λ (k : ℕ). world_of (hosts.step_with f a event s.world k) ≡ s.world)
      (sym none) refl

pub exec_idle : (c : Code) (s : State) → s.world.turns ≡ 0 → world_of (exec c s) ≡ s.world
exec_idle c s none = ap world_of (exec_is c s) ∙ step_idle exec c s none

-- ---- calls: whether the host has a body is asked in no turn, but the store stays

-- the store is this one, and no turns are left
record IsQuiet (m : Machine) (o : Outcome) : Type 0 where
  same : (world_of o).machine ≡ m
  none : (world_of o).turns ≡ 0

module _ (m : Machine) where
  quiet : (o : Outcome) (w : World) → world_of o ≡ w → w.machine ≡ m → w.turns ≡ 0 → IsQuiet m o
  quiet o w e same none = record {
    same = ap (λ (v : World). v.machine) e ∙ same;
    none = ap (λ (v : World). v.turns) e ∙ none;
  }

  quiet_over : (e : End) (w : World) → w.machine ≡ m → w.turns ≡ 0 → IsQuiet m (Over e w)
  quiet_over e w same none = record { same = same; none = none }

  either_quiet : (b : Bool) (x y : Outcome) → IsQuiet m x → IsQuiet m y → IsQuiet m (if b then x else y)
  either_quiet true x y h j = h
  either_quiet false x y h j = j

  found_quiet :
      {A : Type 0} (w : World) → w.machine ≡ m → w.turns ≡ 0 → (o : Option A) (go : A → Outcome)
      → ((a : A) → IsQuiet m (go a)) → IsQuiet m (on.found (Over Stuck w) o go)
  found_quiet w same none None go h = quiet_over Stuck w same none
  found_quiet w same none (Some a) go h = h a

  ask_quiet :
      (w : World) (q : Question) (go : Answer → World → Outcome) → w.machine ≡ m → w.turns ≡ 0
      → IsQuiet m (ask Over w q go)
  ask_quiet w q go same none = quiet (ask Over w q go) w (over_in w (ask Over w q go) (ask_over w none q go)) same none

  leave_front_quiet : (k : ℕ) (s : State) → s.world.machine ≡ m → s.world.turns ≡ 0 → IsQuiet m (leave_front k s)
  leave_front_quiet k s same none =
      either_quiet (nat_le k (length s.operands)) _ _ (record { same = same; none = none })
      (quiet_over Stuck s.world same none)

  leave_quiet : (k : ℕ) (o : Outcome) → IsQuiet m o → IsQuiet m (leave k o)
  leave_quiet k (Values s) h =
      either_quiet (nat_eq (length s.operands) k) _ _ (record { same = h.same; none = h.none })
      (quiet_over Stuck s.world h.same h.none)
  leave_quiet k (Branch zero s) h = leave_front_quiet k s h.same h.none
  leave_quiet k (Branch (suc l) s) h = quiet_over Stuck s.world h.same h.none
  leave_quiet k (Return s) h = leave_front_quiet k s h.same h.none
  leave_quiet k (Over e w) h = h

  pass_quiet :
      (event : CallHook) (w : World) (go : World → Outcome) → w.machine ≡ m → w.turns ≡ 0 → IsQuiet m (go w)
      → IsQuiet m (pass event w go)
  pass_quiet event w go same none h =
      either_quiet w.machine.is_hooked _ _ (ask_quiet w (Passing event) (passed go) same none) h

  pass_behind_quiet : (event : CallHook) (o : Outcome) → IsQuiet m o → IsQuiet m (pass_behind event o)
  pass_behind_quiet event (Values s) h =
      pass_quiet event s.world _ h.same h.none (record { same = h.same; none = h.none })
  pass_behind_quiet event (Over (Trapped t) w) h = pass_quiet event w (Over (Trapped t)) h.same h.none h
  pass_behind_quiet event (Over (Refused r) w) h = pass_quiet event w (Over (Refused r)) h.same h.none h
  pass_behind_quiet event o h = h

  exec_quiet : (c : Code) (s : State) → s.world.machine ≡ m → s.world.turns ≡ 0 → IsQuiet m (exec c s)
  exec_quiet c s same none = quiet (exec c s) s.world (exec_idle c s none) same none

  step_first_quiet : (a : Activation) (w : World) → w.machine ≡ m → w.turns ≡ 0 → IsQuiet m (step_first exec a w)
  step_first_quiet a w same none =
      pass_quiet CallingHost w _ same none
      (pass_behind_quiet ReturningFromHost _ (exec_quiet (Step a Start) (state w [] []) same none))

  where_has_quiet :
      (a : Activation) (kinds : Bool) (answer : Answer) (w : World) → w.machine ≡ m → w.turns ≡ 0
      → IsQuiet m (where_has (begin_host exec a kinds) answer w)
  where_has_quiet a kinds (Has true) w same none =
      either_quiet kinds _ _ (step_first_quiet a w same none) (quiet_over Stuck w same none)
  where_has_quiet a kinds (Has false) w same none = quiet_over (Refused refusal.NoHostBody) w same none
  where_has_quiet a kinds answer w same none = quiet_over Stuck w same none

  hear_quiet :
      (a : Activation) (kinds : Bool) (q : Question) (w : World) (answers : List Answer) → w.machine ≡ m → w.turns ≡ 0
      → IsQuiet m (hear Over w q (where_has (begin_host exec a kinds)) answers)
  hear_quiet a kinds q w [] same none = quiet_over (Waiting q) w same none
  hear_quiet a kinds q w (answer ∷ rest) same none =
      either_quiet (is_answer q answer) _ _
      (where_has_quiet a kinds answer (record w { heard = w.heard ++ (q, answer) ∷ []; answers = rest }) same none)
      (quiet_over (Waiting q) w same none)

  enter_function_quiet :
      (depth : ℕ) (args : List RawVal) (caller : Option ℕ) (w : World) (fn : Function) → w.machine ≡ m → w.turns ≡ 0
      → IsQuiet m (enter_function exec depth args caller w fn)
  enter_function_quiet depth args caller w (guest instance k) same none =
      found_quiet w same none (slice_get w.machine.instances instance) _ (λ parts.
      found_quiet w same none (slice_get parts.decl.functions k) _ (λ fn.
      found_quiet w same none (slice_get parts.decl.types fn.ty) _ (λ t.
      found_quiet w same none (slice_get fn.blocks 0) _ (λ body.
      either_quiet (has_fuel w.machine) _ _
      (either_quiet w.machine.engine.reads_epochs _ _ (ask_quiet w Reading (read _) same none)
      (leave_quiet (length (results t)) _
      (exec_quiet (Run (frame instance parts fn (suc depth)) body.instrs) _ same none)))
      (quiet_over (Trapped trap.OutOfFuel) w same none)))))
  enter_function_quiet depth args caller w (host t body stored) same none =
      hear_quiet (activation w.machine depth t body stored args caller) (on.have_kinds (params t) args) (Having body) w
      w.answers same none

  enter_quiet :
      (depth k : ℕ) (args : List RawVal) (caller : Option ℕ) (w : World) → w.machine ≡ m → w.turns ≡ 0
      → IsQuiet m (enter exec depth k args caller w)
  enter_quiet depth k args caller w same none =
      either_quiet (nat_eq depth w.machine.engine.frames) _ _ (quiet_over (Trapped trap.StackOverflow) w same none)
      (found_quiet w same none (slice_get w.machine.functions k) _ (λ fn.
      enter_function_quiet depth args caller w fn same none))

  entry_quiet :
      (depth k : ℕ) (args : List RawVal) (caller : Option ℕ) (w : World) → w.machine ≡ m → w.turns ≡ 0
      → IsQuiet m (entry exec depth k args caller w)
  entry_quiet depth k args caller w same none =
      pass_quiet CallingWasm w _ same none
      (pass_behind_quiet ReturningFromWasm _ (enter_quiet depth k args caller w same none))

pub enter_idle :
    (depth k : ℕ) (args : List RawVal) (caller : Option ℕ) (w : World) → w.turns ≡ 0
    → (world_of (enter exec depth k args caller w)).machine ≡ w.machine
enter_idle depth k args caller w none = (enter_quiet w.machine depth k args caller w refl none).same

pub entry_idle :
    (depth k : ℕ) (args : List RawVal) (caller : Option ℕ) (w : World) → w.turns ≡ 0
    → (world_of (entry exec depth k args caller w)).machine ≡ w.machine
entry_idle depth k args caller w none = (entry_quiet w.machine depth k args caller w refl none).same

-- ---- instantiation: its counts are raised before its first turn

-- the store with the counts that were raised
abbrev pub machine_of : Counted → Machine
machine_of (Within m) = m
machine_of (Past which m) = m

abbrev pub counts_raised : Machine → ModuleDecl → Result ⊤ Refusal → Machine
counts_raised m d (Err why) = m
counts_raised m d (Ok _) = machine_of (counted m d)

ask_memories_over :
    (tys : List MemoryParts) (w : World) (go : World → Outcome) → w.turns ≡ 0 → IsOverIn w (go w)
    → IsOverIn w (ask_memories tys w go)
ask_memories_over [] w go none h = h
ask_memories_over (ty ∷ more) w go none h =
    decide_over w none (new_memory_plan w.machine ty) (where_granted (λ v. ask_memories more v go))
    (ask_memories_over more w go none h) (ends w (Refused refusal.GrowFailed))

ask_tables_over :
    (ts : List TableDecl) (w : World) (go : World → Outcome) → w.turns ≡ 0 → IsOverIn w (go w)
    → IsOverIn w (ask_tables ts w go)
ask_tables_over [] w go none h = h
ask_tables_over (t ∷ more) w go none h =
    decide_over w none (new_table_plan w.machine t.ty) (where_granted (λ v. ask_tables more v go))
    (ask_tables_over more w go none h) (ends w (Refused refusal.GrowFailed))

module _ (depth : ℕ) (w : World) (d : ModuleDecl) (imports : List Extern) (none : w.turns ≡ 0) where
  making_over : (v : World) → v.turns ≡ 0 → IsOverIn v (making exec depth d imports v)
  making_over v e = turn_over v e (λ x. started exec depth d imports x (make x.machine d imports))

  by_counts_idle :
      (c : Counted) → world_of (by_counts exec depth w d imports c) ≡ record w { machine = machine_of c }
  by_counts_idle (Past which n) = refl
  by_counts_idle (Within n) =
      let v : World = record w { machine = n } in
      over_in v (by_counts exec depth w d imports (Within n))
      (ask_memories_over d.memories v (λ x. ask_tables d.tables x (making exec depth d imports)) none
      (ask_tables_over d.tables v (making exec depth d imports) none (making_over v none)))

  by_checks_idle :
      (fit : Result ⊤ Refusal)
      → world_of (by_checks exec depth w d imports fit) ≡ record w { machine = counts_raised w.machine d fit }
  by_checks_idle (Err why) = refl
  by_checks_idle (Ok _) = by_counts_idle (counted w.machine d)

  -- the counts are raised, where the imports fit, and nothing else is done
  pub instantiate_idle :
      world_of (instantiate exec depth w d imports)
      ≡ record w { machine = counts_raised w.machine d (imports_fit w.machine d imports) }
  instantiate_idle = by_checks_idle (imports_fit w.machine d imports)

-- of the store all but the counts stays
abbrev IsCountsAlone : Machine → Machine → Type 0
IsCountsAlone m n = n ≡ record m { counts = n.counts }

either_counted :
    (m : Machine) (b : Bool) (x y : Counted) → IsCountsAlone m (machine_of x) → IsCountsAlone m (machine_of y)
    → IsCountsAlone m (machine_of (if b then x else y))
either_counted m true x y h j = h
either_counted m false x y h j = j

pub raises_counts_alone :
    (m : Machine) (d : ModuleDecl) (fit : Result ⊤ Refusal)
    → counts_raised m d fit ≡ record m { counts = (counts_raised m d fit).counts }
raises_counts_alone m d (Err why) = refl
raises_counts_alone m d (Ok _) =
    either_counted m (nat_le (suc m.counts.instances) m.limits.instances) _ _
    (either_counted m (nat_le (m.counts.memories + length d.memories) m.limits.memories) _ _
    (either_counted m (nat_le (m.counts.tables + length d.tables) m.limits.tables) _ _ refl refl) refl) refl
