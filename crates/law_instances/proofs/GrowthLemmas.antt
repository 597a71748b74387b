-- What the instructions that grow a memory or a table come to.
use Rattle.std.proofs.Common.{◌≡◌, ◌⊎◌, ℕ, zero, suc, ◌+◌, ◌-◌, ◌*◌, ◌^◌, Bool, true, false, List, [], ◌∷◌, ◌++◌, length, set, replicate, slice_get, Option, Some, None, option_map, Result, Ok, if◌then◌else◌, refl, sym, ap, ◌∙◌, subst, inl, inr}
use Rattle.std.proofs.lemmas.Option.{same_Some}
use Rattle.std.specs.Prelude.{ℤ}
use Rattle.wasm_types.specs.MemoryTypes.{page_size}
use Rattle.wasm_types.specs.Memories.{Memory as Bytes}
use Rattle.wasm_types.specs.TableTypes.{TableParts}
use Rattle.wasm_meter.specs.Growths.{Growth}
use Rattle.wasm_syntax.specs.declared.entities.EntityIndex.TheVariants as entity
use Rattle.wasm_syntax.specs.declared.instr.Instr.{Instr}
use Rattle.wasm_syntax.specs.declared.instr.Instr.TheVariants as i
use Rattle.wasm_values.specs.Handles.{memory_of, table_of}
use Rattle.wasm_values.specs.declared.externals.Extern.{Extern}
use Rattle.wasm_values.specs.declared.externals.Extern.TheVariants as x
use Rattle.wasm_values.specs.declared.handles.Memory.{Memory}
use Rattle.wasm_values.specs.declared.handles.Table.{Table}
use Rattle.wasm_values.specs.declared.references.Ref.{Ref}
use Rattle.wasm_values.specs.declared.refusals.Refusal.{Refusal}
use Rattle.wasm_values.specs.declared.refusals.Refusal.TheVariants.{WrongStore}
use Rattle.wasm_objects.specs.Growth.{longer_memory, longer_table}
use Rattle.wasm_objects.specs.Tables.{Table as Elements}
use Rattle.wasm_objects.specs.declared.raw.RawRef.{RawRef}
use Rattle.wasm_objects.specs.declared.raw.RawVal.{RawVal}
use Rattle.spec_machine.specs.Changes.{set_memory, set_table, set_fuel, charge}
use Rattle.spec_machine.specs.Growth.{Decision, Granted, Failed, Faulted, Rule, Grows, Fails, Asks, Plan, plan, plan_rule, answered_growth, memory_range, memory_growing, table_range, table_growing, pages}
use Rattle.spec_machine.specs.InstanceCalls.{object}
use Rattle.spec_machine.specs.Machine.{Machine, InstanceParts}
use Rattle.spec_machine.specs.MemoryCalls.{memory_grow}
use Rattle.spec_machine.specs.Steps.{◌>>=◌}
use Rattle.spec_machine.specs.TableCalls.{table_at, table_ty, element_of}
use Rattle.spec_machine.specs.WellFormed.{IsWellFormed}
use Rattle.spec_execution.specs.Askings.{Question, Growing, Answer, Grown, is_answer}
use Rattle.spec_execution.specs.Bodies.{exec, instruction, grown, grow, with_operands}
use Rattle.spec_execution.specs.Checks.{by_answer, by_rule}
use Rattle.spec_execution.specs.Entering.{Frame, Code, Run, Exec}
use Rattle.spec_execution.specs.Operands as on
use Rattle.spec_execution.specs.Operands.{integer, integer_in, reference_in}
use Rattle.spec_execution.specs.Outcomes.{World, State, state, Outcome, Values, Over, Waiting, Stuck, on_turn, hear}
use Rattle.spec_execution.proofs.EquationLemmas.{run_cons}
use Rattle.law_store.proofs.Places.{id_own}
use Rattle.law_store.proofs.ReadLemmas.{grown_memory_size, grown_memory_keeps, grown_memory_is_zero, look_up, set_there}
use Rattle.law_store.proofs.RefusalLemmas.{given_is}
use Rattle.law_store.proofs.Slices.{slice_append_left, slice_append_right, slice_replicate}
use Rattle.law_store.proofs.Tables.{longer_length}
use Rattle.law_instances.specs.CodeGrowths.{nothing_more, by_itself, and_then, ComesFirst, Names, IsLongerMemory, IsLongerTable, handled, MemoriesGrow, TablesGrow, MemoryGrowthsComeFirst, TableGrowthsComeFirst}
use Rattle.law_instances.specs.CodeGrowths as law

-- ---- what the turn of a growth leaves, where it was granted and where it failed

module _ (s : State) (p : Plan ℕ) where
  abbrev granted_in : World → State
  granted_in v = state (record v { machine = charge p.after 1 }) s.locals (integer 32 p.gives ∷ s.operands)

  abbrev failed_in : World → State
  failed_in v =
      state (record v { machine = charge v.machine 1 }) s.locals (integer 32 (2 ^ 32 - 1) ∷ s.operands)

-- ---- first the instruction, and then the rest

module _ (rest : State → Outcome) where
  abbrev First : Outcome → Outcome → Type 0
  First o own = o ≡ and_then own rest

  turn_first : (w : World) (n : ℕ) (go own : World → Outcome) → ((v : World) → First (go v) (own v)) →
      First (on_turn Over w go n) (on_turn Over w own n)
  turn_first w zero go own h = refl
  turn_first w (suc n) go own h = h (record w { turns = n })

  found_first : {A : Type 0} (w : World) (o : Option A) (go own : A → Outcome) → ((a : A) → First (go a) (own a)) →
      First (on.found (Over Stuck w) o go) (on.found (Over Stuck w) o own)
  found_first w None go own h = refl
  found_first w (Some a) go own h = h a

  value_first : (w : World) (vs : List RawVal) (go own : RawVal → List RawVal → Outcome) →
      ((v : RawVal) (below : List RawVal) → First (go v below) (own v below)) →
      First (on.on_value (Over Stuck w) vs go) (on.on_value (Over Stuck w) vs own)
  value_first w [] go own h = refl
  value_first w (v ∷ vs) go own h = h v vs

  answer_if : (b : Bool) (v : World) (q : Question) (made own : Outcome) → First made own →
      First (if b then made else Over (Waiting q) v) (if b then own else Over (Waiting q) v)
  answer_if true v q made own h = h
  answer_if false v q made own h = refl

  hear_first : (v : World) (q : Question) (answers : List Answer) (go own : Answer → World → Outcome) →
      ((a : Answer) (u : World) → First (go a u) (own a u)) →
      First (hear Over v q go answers) (hear Over v q own answers)
  hear_first v q [] go own h = refl
  hear_first v q (a ∷ answers) go own h =
      let u : World = record v { heard = v.heard ++ (q, a) ∷ []; answers = answers } in
      answer_if (is_answer q a) v q (go a u) (own a u) (h a u)

  answered_first : (g : Growth) (go own : Decision → World → Outcome) →
      ((d : Decision) (u : World) → First (go d u) (own d u)) →
      (a : Answer) (u : World) → First (by_answer Over g go a u) (by_answer Over g own a u)
  answered_first g go own h (Grown answer) u = h (answered_growth g answer) u
  answered_first g go own h a u = refl

  rule_first : (w : World) (p : Plan ℕ) (go own : Decision → World → Outcome) →
      ((d : Decision) (u : World) → First (go d u) (own d u)) →
      (r : Rule) → First (by_rule Over w p go r) (by_rule Over w p own r)
  rule_first w p go own h Grows = h Granted w
  rule_first w p go own h Fails = h Failed w
  rule_first w p go own h Asks =
      turn_first w w.turns (λ v. hear Over v (Growing p.growth) (by_answer Over p.growth go) v.answers)
      (λ v. hear Over v (Growing p.growth) (by_answer Over p.growth own) v.answers) (λ v.
      hear_first v (Growing p.growth) v.answers (by_answer Over p.growth go) (by_answer Over p.growth own)
      (answered_first p.growth go own h))

module _ (f : Exec) (next last : Code) where
  grown_first : (s : State) (p : Plan ℕ) (d : Decision) (w : World) →
      First (f next) (grown f next s p d w) (grown nothing_more last s p d w)
  grown_first s p Granted w =
      turn_first (f next) w w.turns (λ v. f next (granted_in s p v)) (λ v. Values (granted_in s p v)) (λ v. refl)
  grown_first s p Failed w =
      turn_first (f next) w w.turns (λ v. f next (failed_in s p v)) (λ v. Values (failed_in s p v)) (λ v. refl)
  grown_first s p Faulted w = refl

  grow_first : (s : State) (p : Plan ℕ) → First (f next) (grow f next s p) (grow nothing_more last s p)
  grow_first s p =
      rule_first (f next) s.world p (grown f next s p) (grown nothing_more last s p) (grown_first s p)
      (plan_rule s.world.machine p)

module _ (f : Exec) (fr : Frame) (k : ℕ) (is : List Instr) (s : State) where
  abbrev rest : State → Outcome
  rest = f (Run fr is)

  memory_first : First rest (instruction f fr (i.MemoryGrow k) is s) (by_itself fr (i.MemoryGrow k) s)
  memory_first =
      value_first rest s.world s.operands _ _ (λ v below.
      found_first rest s.world (integer_in 32 v) _ _ (λ delta.
      found_first rest s.world (slice_get s.world.machine.instances fr.instance) _ _ (λ parts.
      found_first rest s.world (slice_get parts.memories k) _ _ (λ n.
      found_first rest s.world (slice_get s.world.machine.memories n) _ _ (λ y.
      grow_first f (Run fr is) (Run fr []) (with_operands s below)
      (plan (memory_range y.ty) (memory_growing y.ty (pages y) delta)
      (set_memory s.world.machine n (longer_memory y (delta * page_size y.ty))) (pages y)))))))

  table_first : First rest (instruction f fr (i.TableGrow k) is s) (by_itself fr (i.TableGrow k) s)
  table_first =
      value_first rest s.world s.operands _ _ (λ v below.
      found_first rest s.world (integer_in 32 v) _ _ (λ delta.
      value_first rest s.world below _ _ (λ u lower.
      found_first rest s.world (reference_in u) _ _ (λ r.
      found_first rest s.world (slice_get s.world.machine.instances fr.instance) _ _ (λ parts.
      found_first rest s.world (slice_get parts.tables k) _ _ (λ n.
      found_first rest s.world (slice_get s.world.machine.tables n) _ _ (λ y.
      grow_first f (Run fr is) (Run fr []) (with_operands s lower)
      (plan table_range (table_growing y.ty (length y.elements) delta)
      (set_table s.world.machine n (longer_table y delta r)) (length y.elements)))))))))

pub memory_growths_come_first : MemoryGrowthsComeFirst
memory_growths_come_first k fr is s = run_cons fr (i.MemoryGrow k) is s ∙ memory_first exec fr k is s

pub table_growths_come_first : TableGrowthsComeFirst
table_growths_come_first k fr is s = run_cons fr (i.TableGrow k) is s ∙ table_first exec fr k is s

-- ---- what it comes to where it does not end the run

abbrev state_in : State → Outcome → State
state_in other (Values s) = s
state_in other o = other

values_are : (a b : State) → Values a ≡ Values b → a ≡ b
values_are a b e = ap (state_in a) e

-- the growth was made, or it failed
abbrev Came : State → Plan ℕ → State → Type 0
Came s p after =
    ((after.operands ≡ integer 32 p.gives ∷ s.operands) × (after.world.machine ≡ charge p.after 1))
    ⊎ ((after.operands ≡ integer 32 (2 ^ 32 - 1) ∷ s.operands) × (after.world.machine ≡ charge s.world.machine 1))

-- of an outcome: where it goes on, this holds
module _ (after : State) (P : Type 0) where
  abbrev GoesOn : Outcome → Type 0
  GoesOn o = o ≡ Values after → P

  turn_goes : (w : World) (n : ℕ) (go : World → Outcome) → ((v : World) → v.machine ≡ w.machine → GoesOn (go v)) →
      GoesOn (on_turn Over w go n)
  turn_goes w zero go h e = absurd cc
  turn_goes w (suc n) go h e = h (record w { turns = n }) refl e

  found_goes : {A : Type 0} (w : World) (o : Option A) (go : A → Outcome) → ((a : A) → o ≡ Some a → GoesOn (go a)) →
      GoesOn (on.found (Over Stuck w) o go)
  found_goes w None go h e = absurd cc
  found_goes w (Some a) go h e = h a refl e

  goes_if : (b : Bool) (v : World) (q : Question) (made : Outcome) → GoesOn made →
      GoesOn (if b then made else Over (Waiting q) v)
  goes_if true v q made h e = h e
  goes_if false v q made h e = absurd cc

  hear_goes : (v : World) (q : Question) (answers : List Answer) (go : Answer → World → Outcome) →
      ((a : Answer) (u : World) → u.machine ≡ v.machine → GoesOn (go a u)) → GoesOn (hear Over v q go answers)
  hear_goes v q [] go h e = absurd cc
  hear_goes v q (a ∷ answers) go h e =
      let u : World = record v { heard = v.heard ++ (q, a) ∷ []; answers = answers } in
      goes_if (is_answer q a) v q (go a u) (h a u refl) e

  answered_goes : (g : Growth) (v : World) (go : Decision → World → Outcome) →
      ((d : Decision) (u : World) → u.machine ≡ v.machine → GoesOn (go d u)) →
      (a : Answer) (u : World) → u.machine ≡ v.machine → GoesOn (by_answer Over g go a u)
  answered_goes g v go h (Grown answer) u is e = h (answered_growth g answer) u is e
  answered_goes g v go h a u is e = absurd cc

  rule_goes : (w : World) (p : Plan ℕ) (go : Decision → World → Outcome) →
      ((d : Decision) (u : World) → u.machine ≡ w.machine → GoesOn (go d u)) →
      (r : Rule) → GoesOn (by_rule Over w p go r)
  rule_goes w p go h Grows e = h Granted w refl e
  rule_goes w p go h Fails e = h Failed w refl e
  rule_goes w p go h Asks e =
      turn_goes w w.turns (λ v. hear Over v (Growing p.growth) (by_answer Over p.growth go) v.answers) (λ v is.
      hear_goes v (Growing p.growth) v.answers (by_answer Over p.growth go)
      (answered_goes p.growth v go (λ d u same. h d u (same ∙ is)))) e

module _ (s : State) (p : Plan ℕ) (after : State) (last : Code) where
  grown_came : (d : Decision) (w : World) → w.machine ≡ s.world.machine →
      grown nothing_more last s p d w ≡ Values after → Came s p after
  grown_came Granted w is e =
      turn_goes after (Came s p after) w w.turns (λ v. Values (granted_in s p v)) (λ v same g.
      let t : granted_in s p v ≡ after = values_are (granted_in s p v) after g in
      inl (sym (ap (λ (o : State). o.operands) t), sym (ap (λ (o : State). o.world.machine) t))) e
  grown_came Failed w is e =
      turn_goes after (Came s p after) w w.turns (λ v. Values (failed_in s p v)) (λ v same g.
      let t : failed_in s p v ≡ after = values_are (failed_in s p v) after g in
      inr (
        sym (ap (λ (o : State). o.operands) t),
        sym (ap (λ (o : State). o.world.machine) t) ∙ ap (λ (m : Machine). charge m 1) (same ∙ is),
      )) e
  grown_came Faulted w is e = absurd cc

  grow_came : grow nothing_more last s p ≡ Values after → Came s p after
  grow_came e =
      rule_goes after (Came s p after) s.world p (grown nothing_more last s p) grown_came
      (plan_rule s.world.machine p) e

-- ---- fuel alone is taken

taken : (m : Machine) (b : Bool) (z : ℤ) →
    ◌≡◌ {A = Machine} (if b then set_fuel m z else m)
    (let n : Machine = if b then set_fuel m z else m in record m { fuel = n.fuel })
taken m true z = refl
taken m false z = refl

-- what holds of each store that differs in its fuel
by_fuel : (m : Machine) (P : Machine → Type 0) → ((z : ℤ) → P (record m { fuel = z })) → (after : Machine) →
    after ≡ charge m 1 → P after
by_fuel m P h after e = subst P (sym e) (subst P (sym (taken m m.engine.consumes_fuel _)) (h _))

unchanged : (m after : Machine) → after ≡ charge m 1 → after ≡ record m { fuel = after.fuel }
unchanged m after e = by_fuel m (λ (n : Machine). n ≡ record m { fuel = n.fuel }) (λ z. refl) after e

-- ---- memories

abbrev handle_in : Memory → Option Extern → Memory
handle_in other (Some (x.Memory h)) = h
handle_in other o = other

named_memory : (m : Machine) (o : Option ℕ) (n : ℕ) (h : Memory) → o ≡ Some n →
    option_map (λ j. x.Memory (memory_of m.id j)) o ≡ Some (x.Memory h) → h ≡ memory_of m.id n
named_memory m o n h found e =
    ap (handle_in h) (sym e ∙ ap (option_map (λ j. x.Memory (memory_of m.id j))) found)

abbrev memory_plan : Machine → ℕ → Bytes → ℕ → Plan ℕ
memory_plan m n y delta =
    plan (memory_range y.ty) (memory_growing y.ty (pages y) delta)
    (set_memory m n (longer_memory y (delta * page_size y.ty))) (pages y)

module _ (m : Machine) (n : ℕ) (y : Bytes) (delta : ℕ) (found : slice_get m.memories n ≡ Some y) where
  abbrev planned_memory : Plan ℕ
  planned_memory = memory_plan m n y delta

  abbrev planned : Result Bytes Refusal → Result (Plan ℕ) Refusal
  planned r =
      r >>= (λ (b : Bytes). Ok (memory_plan m n b delta))

  -- the same growth by a host, through a handle
  by_handle : memory_grow m (memory_of m.id n) delta ≡ Ok planned_memory
  by_handle = ap planned (look_up _ (slice_get m.memories n) WrongStore y (id_own m.id) found)

  longer : (s : IsWellFormed m) (z : ℤ) →
      IsLongerMemory m (memory_of m.id n) delta (pages y) (record planned_memory.after { fuel = z })
  longer s z = record {
    before = (grown_memory_size m (memory_of m.id n) delta planned_memory s by_handle).0;
    size = (grown_memory_size m (memory_of m.id n) delta planned_memory s by_handle).1;
    kept = λ at len bytes e. grown_memory_keeps m (memory_of m.id n) delta at len bytes planned_memory by_handle e;
    zeros = λ ty bytes e l. grown_memory_is_zero m (memory_of m.id n) ty delta bytes planned_memory by_handle e l;
  }

  memory_came : IsWellFormed m → (s after : State) → Came s planned_memory after → s.world.machine ≡ m →
      law.Grows (IsLongerMemory m (memory_of m.id n) delta) m s.operands after
  memory_came w s after (inl c) is =
      inl (
        pages y,
        c.0,
        by_fuel planned_memory.after (IsLongerMemory m (memory_of m.id n) delta (pages y)) (longer w) after.world.machine
            c.1,
      )
  memory_came w s after (inr c) is =
      inr (c.0, unchanged m after.world.machine (c.1 ∙ ap (λ (a : Machine). charge a 1) is))

pub memories_grow : MemoriesGrow
memories_grow fr k h w locals below by delta after s names by_is e =
    let m : Machine = w.machine in
    let P : Type 0 = law.Grows (IsLongerMemory m h delta) m below after in
    found_goes after P w (integer_in 32 by) _ (λ more p.
    found_goes after P w (slice_get m.instances fr.instance) _ (λ parts q.
    found_goes after P w (slice_get parts.memories k) _ (λ n r.
    found_goes after P w (slice_get m.memories n)
    (λ y. grow nothing_more (Run fr []) (state w locals below) (memory_plan m n y more)) (λ y found go.
    let same : names.parts ≡ parts = same_Some names.parts parts (sym names.found ∙ q) in
    let is : h ≡ memory_of m.id n =
    named_memory m (slice_get parts.memories k) n h r
    (subst (λ (i : InstanceParts). object m i (entity.Memory k) ≡ Some (x.Memory h)) same names.named) in
    let t : law.Grows (IsLongerMemory m (memory_of m.id n) more) m below after =
    memory_came m n y more found s (state w locals below) after
    (grow_came (state w locals below) (memory_plan m n y more) after (Run fr []) go) refl in
    subst (λ (d : ℕ). law.Grows (IsLongerMemory m h d) m below after) (same_Some more delta (sym p ∙ by_is))
    (subst (λ (g : Memory). law.Grows (IsLongerMemory m g more) m below after) (sym is) t))))) e

-- ---- tables

abbrev table_in : Table → Option Extern → Table
table_in other (Some (x.Table h)) = h
table_in other o = other

named_table : (m : Machine) (o : Option ℕ) (n : ℕ) (h : Table) → o ≡ Some n →
    option_map (λ j. x.Table (table_of m.id j)) o ≡ Some (x.Table h) → h ≡ table_of m.id n
named_table m o n h found e =
    ap (table_in h) (sym e ∙ ap (option_map (λ j. x.Table (table_of m.id j))) found)

abbrev table_plan : Machine → ℕ → Elements → ℕ → RawRef → Plan ℕ
table_plan m n y delta r =
    plan table_range (table_growing y.ty (length y.elements) delta) (set_table m n (longer_table y delta r))
    (length y.elements)

module _ (m : Machine) (n : ℕ) (y : Elements) (delta : ℕ) (r : RawRef) (found : slice_get m.tables n ≡ Some y) where
  abbrev h : Table
  h = table_of m.id n

  abbrev longer_one : Elements
  longer_one = longer_table y delta r

  abbrev planned_table : Plan ℕ
  planned_table = table_plan m n y delta r

  there : table_at m h ≡ Ok y
  there = look_up _ (slice_get m.tables n) WrongStore y (id_own m.id) found

  put : (z : ℤ) → table_at (record planned_table.after { fuel = z }) h ≡ Ok longer_one
  put z = look_up _ (slice_get (set m.tables n longer_one) n) WrongStore longer_one (id_own m.id)
      (set_there m.tables n y longer_one found)

  abbrev sized : Result Elements Refusal → Result ℕ Refusal
  sized t = t >>= (λ (b : Elements). Ok (length b.elements))

  abbrev shown : ℕ → Result Elements Refusal → Result (Option Ref) Refusal
  shown at t = t >>= (λ (b : Elements). Ok (option_map (element_of m b) (slice_get b.elements at)))

  type_is : (ty : TableParts) → table_ty m h ≡ Ok ty → y.ty ≡ ty
  type_is ty e = given_is y.ty ty (sym (ap (λ (t : Result Elements Refusal). t >>= (λ (b : Elements). Ok b.ty)) there) ∙ e)

  longer_by : (z : ℤ) → IsLongerTable m h delta r (length y.elements) (record planned_table.after { fuel = z })
  longer_by z = record {
    before = ap sized there;
    size = ap sized (put z) ∙ ap Ok (longer_length y delta r);
    kept = λ at l.
        ap (shown at) (put z)
        ∙ ap (λ o. Ok (option_map (element_of m y) o))
        (slice_append_left y.elements (replicate delta r) at l)
        ∙ sym (ap (shown at) there);
    given = λ ty k is l.
        ap (shown (length y.elements + k)) (put z)
        ∙ ap (λ o. Ok (option_map (element_of m y) o))
        (slice_append_right y.elements (replicate delta r) k ∙ slice_replicate delta r k l)
        ∙ ap (λ (t : TableParts). Ok (Some (handled m t r))) (type_is ty is);
  }

  table_came : (s after : State) → Came s planned_table after → s.world.machine ≡ m →
      law.Grows (IsLongerTable m h delta r) m s.operands after
  table_came s after (inl c) is =
      inl (
        length y.elements,
        c.0,
        by_fuel planned_table.after (IsLongerTable m h delta r (length y.elements)) longer_by after.world.machine c.1,
      )
  table_came s after (inr c) is =
      inr (c.0, unchanged m after.world.machine (c.1 ∙ ap (λ (a : Machine). charge a 1) is))

pub tables_grow : TablesGrow
tables_grow fr k h w locals below by delta r after names by_is e =
    let m : Machine = w.machine in
    let P : Type 0 = law.Grows (IsLongerTable m h delta r) m below after in
    found_goes after P w (integer_in 32 by) _ (λ more p.
    found_goes after P w (slice_get m.instances fr.instance) _ (λ parts q.
    found_goes after P w (slice_get parts.tables k) _ (λ n t.
    found_goes after P w (slice_get m.tables n)
    (λ y. grow nothing_more (Run fr []) (state w locals below) (table_plan m n y more r)) (λ y found go.
    let same : names.parts ≡ parts = same_Some names.parts parts (sym names.found ∙ q) in
    let is : h ≡ table_of m.id n =
    named_table m (slice_get parts.tables k) n h t
    (subst (λ (i : InstanceParts). object m i (entity.Table k) ≡ Some (x.Table h)) same names.named) in
    let t : law.Grows (IsLongerTable m (table_of m.id n) more r) m below after =
    table_came m n y more r found (state w locals below) after
    (grow_came (state w locals below) (table_plan m n y more r) after (Run fr []) go) refl in
    subst (λ (d : ℕ). law.Grows (IsLongerTable m h d r) m below after) (same_Some more delta (sym p ∙ by_is))
    (subst (λ (g : Table). law.Grows (IsLongerTable m g more r) m below after) (sym is) t))))) e
