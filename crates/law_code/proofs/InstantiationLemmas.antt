-- An instantiation of a module ends with an instance, or early; in either case in a well-formed store, later than the
-- one before. It is never stuck.
use Rattle.std.proofs.Common.{◌≡◌, ℕ, ◌≤◌, true, List, [], ◌∷◌, length, Result, Ok, Err, refl, ap, ◌∙◌, subst}
use Rattle.std.specs.Prelude.{⊤}
use Rattle.wasm_types.specs.Each.{Each}
use Rattle.wasm_types.specs.Memories.{new_memory}
use Rattle.wasm_types.specs.MemoryTypes.{MemoryParts, are_memory_limits}
use Rattle.wasm_syntax.specs.Contexts.{functions}
use Rattle.wasm_syntax.specs.Modules.{IsModule}
use Rattle.wasm_syntax.specs.declared.declarations.ModuleDecl.{ModuleDecl}
use Rattle.wasm_syntax.specs.declared.declarations.TableDecl.{TableDecl}
use Rattle.wasm_values.specs.declared.externals.Extern.{Extern}
use Rattle.wasm_values.specs.declared.refusals.Refusal.{Refusal}
use Rattle.spec_machine.specs.Growth.{Decision, Granted, Failed, Faulted, Plan, table_range}
use Rattle.spec_machine.specs.Machine.{Machine}
use Rattle.spec_machine.specs.WellFormed.{IsMemory, Has, IsWellFormed}
use Rattle.spec_execution.specs.Allocation.{function_numbers, global_values, new_instance, allocated}
use Rattle.spec_execution.specs.Entering.{Exec}
use Rattle.spec_execution.specs.Instantiation.{imports_fit, Counted, Within, Past, counted, where_granted, new_memory_plan, new_table_plan, ask_memories, ask_tables, started, making, by_counts, by_checks, instantiate}
use Rattle.spec_execution.specs.Outcomes.{World, Outcome, Over, End, Values, Branch, Return}
use Rattle.spec_execution.specs.Segments.{Taken, Done, OutOfRange, StuckSegment, make}
use Rattle.law_store.specs.Granted.{IsGranted}
use Rattle.law_store.specs.Later.{Extends}
use Rattle.law_store.proofs.Lists.{each_none, each_more, each_rest}
use Rattle.law_code.specs.Good.{IsGoodWorld, IsGoodEnd, IsReturned, IsInstanceOf, IsInstantiated}
use Rattle.law_code.specs.Runs.{IsSoundExec}
use Rattle.law_code.proofs.AllocationLemmas.{MayBeMade, allocated_safe}
use Rattle.law_code.proofs.NewValueLemmas.{functions_named, instance_found}
use Rattle.law_code.proofs.Changes.{IsSafeChange, safe_own, safe_on}
use Rattle.law_code.proofs.ConstantLemmas.{IsNamed}
use Rattle.law_code.proofs.ImportLemmas.{AreGiven, imports_good, given_later, function_later}
use Rattle.law_code.proofs.NewObjectLemmas.{memory_made, table_in_range}
use Rattle.law_code.proofs.SegmentLemmas.{IsTaken, segments_taken, made_later}
use Rattle.law_code.proofs.Worlds.{IsNext, next_own, next_on, machine_next}
use Rattle.law_code.proofs.CountLemmas.{IsCounted, all_counted, decides_here, turns_here}
use Rattle.law_code.proofs.StartLemmas.{start_good}

module _ (f : Exec) (sound : IsSoundExec f) (base : World) (depth : ℕ) (d : ModuleDecl) (is : IsModule d)
    (imports : List Extern) (number : ℕ) where
  abbrev pub P : Outcome → Type 0
  P = IsInstantiated base number d

  early : (e : End) (w : World) → IsGoodEnd base e w → P (Over e w)
  early e w h = h

  -- ---- the turn that makes the instance

  -- the functions of the new instance are there later, too
  named_later : (m after : Machine) (fs : List ℕ) → Extends m after → IsWellFormed m →
      Has (functions d) fs (IsNamed m) → Has (functions d) fs (IsNamed after)
  named_later m after fs x s h = record {
    as_many = h.as_many;
    each = λ k o n p q ty e. function_later m after x s ty n (h.each k o n p q ty e);
  }

  -- the instances of a store are so many as before
  abbrev pub IsSameMany : World → Type 0
  IsSameMany w = length w.machine.instances ≡ number

  -- a new instance is there
  made_first : (w : World) → AreGiven w.machine d imports → IsGoodWorld base w →
      IsInstanceOf (allocated w.machine d imports) (length w.machine.instances) d
  made_first w given g = record {
    parts = new_instance w.machine d imports;
    found = instance_found w.machine g.well d is imports given;
    same = refl;
  }

  started_by : (w : World) (given : AreGiven w.machine d imports) (may : MayBeMade d) (g : IsGoodWorld base w) →
      IsSameMany w → (taken : Taken) → IsTaken (allocated w.machine d imports) taken →
      P (started f depth d imports w taken)
  started_by w given may g many (Done after) h =
      let m : Machine = w.machine in
      let a : Machine = allocated m d imports in
      let x : IsSafeChange m a = allocated_safe m g.well d is imports given may in
      start_good f sound base depth d is number (length m.instances) (function_numbers m d imports)
      (record w { machine = after }) d.start refl
      (machine_next base w w after g (next_own base w g) (safe_on m a after x h)).good
      (subst (λ n. IsInstanceOf after n d) many
      (made_later a after (length m.instances) d h.later (made_first w given g)))
      (named_later a after (function_numbers m d imports) h.later x.well
      (functions_named m g.well d is imports given))
  started_by w given may g many (OutOfRange why after) h =
      let m : Machine = w.machine in
      let x : IsSafeChange m (allocated m d imports) = allocated_safe m g.well d is imports given may in
      (machine_next base w w after g (next_own base w g) (safe_on m (allocated m d imports) after x h)).good
  started_by w given may g many (StuckSegment after) h = absurd h

  started_good : (w : World) → AreGiven w.machine d imports → MayBeMade d → IsGoodWorld base w → IsSameMany w →
      P (started f depth d imports w (make w.machine d imports))
  started_good w given may g many =
      let m : Machine = w.machine in
      let a : Machine = allocated m d imports in
      let x : IsSafeChange m a = allocated_safe m g.well d is imports given may in
      started_by w given may g many (make m d imports)
      (segments_taken a d is (length m.instances) (function_numbers m d imports) (global_values m d imports) a
      (safe_own a x.well) (made_first w given g))

  -- in another world of the same store
  many_in : (w v : World) → v.machine ≡ w.machine → IsSameMany w → IsSameMany v
  many_in w v same many = ap (λ (m : Machine). length m.instances) same ∙ many

  making_good : (w : World) → AreGiven w.machine d imports → MayBeMade d → IsGoodWorld base w → IsSameMany w →
      P (making f depth d imports w)
  making_good w given may g many =
      turns_here base P early w (λ v. started f depth d imports v (make v.machine d imports)) g (λ v n same.
      started_good v (given_later w.machine v.machine n.since.store g.well d imports given) may n.good
      (many_in w v same many))

  -- ---- the questions

  granted_good : (w : World) (p : Plan ⊤) (go : World → Outcome) →
      ((v : World) → IsNext base w v → v.machine ≡ w.machine → IsGranted w.machine p → P (go v)) →
      (c : Decision) (v : World) → IsNext base w v → v.machine ≡ w.machine → (c ≡ Granted → IsGranted w.machine p) →
      P (where_granted go c v)
  granted_good w p go k Granted v n same h = k v n same (h refl)
  granted_good w p go k Failed v n same h = n.good
  granted_good w p go k Faulted v n same h = n.good

  memories_asked : (tys : List MemoryParts) (w : World) (go : World → Outcome) → IsGoodWorld base w → IsSameMany w →
      Each tys (λ ty. are_memory_limits ty ≡ true) →
      ((v : World) → IsNext base w v → IsSameMany v → Each tys (λ ty. IsMemory (new_memory ty)) → P (go v)) →
      P (ask_memories tys w go)
  memories_asked [] w go g many limits k = k w (next_own base w g) many (each_none (λ ty. IsMemory (new_memory ty)))
  memories_asked (ty ∷ more) w go g many limits k =
      decides_here base P early w (new_memory_plan w.machine ty) (where_granted (λ v. ask_memories more v go)) g
      (granted_good w (new_memory_plan w.machine ty) (λ v. ask_memories more v go) (λ v n same granted.
      memories_asked more v go n.good (many_in w v same many)
      (each_rest (λ ty. are_memory_limits ty ≡ true) ty more limits) (λ u next still made.
      k u (next_on base w v u n next) still
      (each_more (λ ty. IsMemory (new_memory ty)) ty more (memory_made w.machine ty g.well (limits 0 ty refl) granted)
      made))))

  abbrev InRange : TableDecl → Type 0
  InRange t = t.ty.minimum ≤ table_range

  tables_asked : (ts : List TableDecl) (w : World) (go : World → Outcome) → IsGoodWorld base w → IsSameMany w →
      ((v : World) → IsNext base w v → IsSameMany v → Each ts InRange → P (go v)) → P (ask_tables ts w go)
  tables_asked [] w go g many k = k w (next_own base w g) many (each_none InRange)
  tables_asked (t ∷ more) w go g many k =
      decides_here base P early w (new_table_plan w.machine t.ty) (where_granted (λ v. ask_tables more v go)) g
      (granted_good w (new_table_plan w.machine t.ty) (λ v. ask_tables more v go) (λ v n same granted.
      tables_asked more v go n.good (many_in w v same many) (λ u next still made.
      k u (next_on base w v u n next) still
      (each_more InRange t more (table_in_range w.machine t.ty granted) made))))

  -- ---- the whole

  counts_good : (w : World) (c : Counted) → IsCounted w.machine c → AreGiven w.machine d imports →
      IsGoodWorld base w → IsSameMany w → P (by_counts f depth w d imports c)
  counts_good w (Past which m) h given g many = (machine_next base w w m g (next_own base w g) h.safe).good
  counts_good w (Within m) h given g many =
      memories_asked d.memories (record w { machine = m }) (λ v. ask_tables d.tables v (making f depth d imports))
      (machine_next base w w m g (next_own base w g) h.safe).good
      (ap (λ is. length is) h.instances ∙ many) is.memories_are (λ v n many memories.
      tables_asked d.tables v (making f depth d imports) n.good many (λ u next many tables.
      making_good u
      (given_later v.machine u.machine next.since.store n.good.well d imports
      (given_later m v.machine n.since.store h.safe.well d imports
      (given_later w.machine m h.safe.later g.well d imports given)))
      (record { memories = memories; tables = tables }) next.good many))

  checks_good : (w : World) (r : Result ⊤ Refusal) → imports_fit w.machine d imports ≡ r → IsGoodWorld base w →
      IsSameMany w → P (by_checks f depth w d imports r)
  checks_good w (Err why) e g many = g
  checks_good w (Ok u) e g many =
      counts_good w (counted w.machine d) (all_counted w.machine d g.well) (imports_good w.machine d imports u e) g
      many

  pub instantiate_good : (w : World) → length w.machine.instances ≡ number → IsGoodWorld base w →
      P (instantiate f depth w d imports)
  instantiate_good w many g = checks_good w (imports_fit w.machine d imports) refl g many

-- an instantiation gives no operands
pub instantiated_returns : (base : World) (n : ℕ) (d : ModuleDecl) (o : Outcome) → IsInstantiated base n d o →
    IsReturned base [] o
instantiated_returns base n d (Values s) h = h.0
instantiated_returns base n d (Over e w) h = h
instantiated_returns base n d (Branch l s) h = absurd h
instantiated_returns base n d (Return s) h = absurd h
