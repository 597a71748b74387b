-- What the turn of an instantiation leaves is well formed, and what follows is never stuck.
use Rattle.std.proofs.Common.{◌≡◌, ℕ, ◌<◌, List, [], length, slice_get, Option, Some, None, refl, ap, ◌∙◌, subst, arith, inl, inr}
use Rattle.wasm_syntax.specs.Contexts.{functions, imported, as_table, as_memory}
use Rattle.wasm_syntax.specs.Modules.{IsModule}
use Rattle.wasm_syntax.specs.declared.declarations.ImportDecl.{ImportDecl}
use Rattle.wasm_syntax.specs.declared.declarations.ModuleDecl.{ModuleDecl}
use Rattle.wasm_values.specs.Externals.{extern_table, extern_memory}
use Rattle.wasm_values.specs.Handles.{table_index, memory_index}
use Rattle.wasm_values.specs.declared.externals.Extern.{Extern}
use Rattle.spec_machine.specs.Growth.{Plan}
use Rattle.spec_machine.specs.Machine.{Machine}
use Rattle.spec_machine.specs.WellFormed.{Has, HasTable, HasMemory, IsWellFormed}
use Rattle.spec_execution.specs.Allocation.{imported_numbers, function_numbers, global_values, new_instance, allocated}
use Rattle.spec_execution.specs.Askings.{Answer, Asking}
use Rattle.spec_execution.specs.Bodies.{exec}
use Rattle.spec_execution.specs.Entering.{entry}
use Rattle.spec_execution.specs.Instantiation.{Within, Past, counted, new_memory_plan, new_table_plan, start, started}
use Rattle.spec_execution.specs.Operands as on
use Rattle.spec_execution.specs.Outcomes.{World, world, Over, Stuck}
use Rattle.spec_execution.specs.Segments.{Taken, Done, OutOfRange, StuckSegment, make}
use Rattle.law_images.specs.Leading.{AreAligned}
use Rattle.law_store.specs.Later.{Extends}
use Rattle.law_store.proofs.GrowthLemmas as law
use Rattle.law_store.proofs.GrowthLemmas.{may_grow}
use Rattle.law_code.specs.Answers.{AreTyped}
use Rattle.law_code.specs.Good.{IsGoodWorld, IsReturned, IsInstanceOf}
use Rattle.law_code.proofs.AllocationLemmas.{MayBeMade, allocated_safe}
use Rattle.law_code.proofs.Calls.{good_begin}
use Rattle.law_code.proofs.Changes.{IsSafeChange, safe_own, safe_on}
use Rattle.law_code.proofs.ConstantLemmas.{IsNamed}
use Rattle.law_code.proofs.CountLemmas.{IsCounted, IsRaised, all_counted}
use Rattle.law_code.proofs.GivenLemmas.{IsGivenAs}
use Rattle.law_code.proofs.ImportLemmas.{AreGiven, imports_good, given_later, function_later}
use Rattle.law_code.proofs.InstantiationLemmas.{instantiated_returns}
use Rattle.law_code.proofs.NewObjectLemmas.{memory_made, table_in_range}
use Rattle.law_code.proofs.NewValueLemmas.{functions_named, instance_found}
use Rattle.law_code.proofs.Runs.{exec_sound}
use Rattle.law_code.proofs.SegmentLemmas.{IsTaken, segments_taken, made_later}
use Rattle.law_code.proofs.SpaceLemmas.{has_imported}
use Rattle.law_code.proofs.StartLemmas.{start_good}
use Rattle.law_code.proofs.Worlds.{machine_next, next_own}
use Rattle.store_state.specs.Within.{MayGrow}
use Rattle.wasm_call.specs.Starting.{IsSafeStart}
use Rattle.instance_parts.specs.Preparing.{AreInRange, EndsAs}
use Rattle.instance_parts.specs.declared.making.Ending.{Ending}
use Rattle.instance_parts.specs.declared.making.Ending.TheVariants as ending
use Rattle.wasm_instance.specs.Asking.{AreGranted}
use Rattle.wasm_instance.specs.Making.{IsReady}

-- growths that are granted pass no range
ranged : {A : Type 0} (p : Plan A) → law.MayGrow p → MayGrow p.range p.growth
ranged p (inl e) = inl e
ranged p (inr e) = inr e.0

pub in_range : (m : Machine) (d : ModuleDecl) → AreGranted m d → AreInRange d
in_range m d g = record {
  memories = λ k ty p.
      ranged (new_memory_plan m ty) (may_grow m (new_memory_plan m ty) (g.memories k ty p));
  tables = λ k t p.
      ranged (new_table_plan m t.ty) (may_grow m (new_table_plan m t.ty) (g.tables k t p));
}

-- the counts alone leave a well-formed store
pub past_formed : (old m : Machine) (d : ModuleDecl) (which : _) → IsWellFormed old → counted old d ≡ Past which m →
    IsWellFormed m
past_formed old m d which s e =
    let h : IsRaised old m = subst (IsCounted old) e (all_counted old d s) in h.safe.well

pub counted_formed : (old m : Machine) (d : ModuleDecl) → IsWellFormed old → counted old d ≡ Within m → IsWellFormed m
counted_formed old m d s e =
    let h : IsRaised old m = subst (IsCounted old) e (all_counted old d s) in h.safe.well

-- ---- the turn

module _ (m : Machine) (d : ModuleDecl) (imports : List Extern) (ready : IsReady m d imports) where
  raised : IsRaised ready.before m
  raised = subst (IsCounted ready.before) ready.within (all_counted ready.before d ready.formed)

  -- the store before it is well formed, and has the instances that it had
  pub ready_formed : IsWellFormed m
  ready_formed = raised.safe.well

  pub as_many : length m.instances ≡ length ready.before.instances
  as_many = ap length raised.instances

  is : IsModule d
  is = ready.module_is

  may : MayBeMade d
  may = record {
    memories = λ k ty p. memory_made m ty ready_formed (is.memories_are k ty p) (ready.granted.memories k ty p);
    tables = λ k t p. table_in_range m t.ty (ready.granted.tables k t p);
  }

  given : AreGiven m d imports
  given =
      given_later ready.before m raised.safe.later ready.formed d imports
      (imports_good ready.before d imports tt ready.fits)

  -- as many tables and memories are given as the module imports
  pub aligned : AreAligned d imports
  aligned =
      let tables : Has (imported as_table d) (imported_numbers extern_table table_index imports) (HasTable m) =
      has_imported (λ (i : ImportDecl). as_table i.ty) extern_table table_index (HasTable m) d.imports imports
      given.as_many (λ k i o p q. let h : IsGivenAs m i.ty o = given.each k i o p q in h.table) in
      let memories : Has (imported as_memory d) (imported_numbers extern_memory memory_index imports) (HasMemory m) =
      has_imported (λ (i : ImportDecl). as_memory i.ty) extern_memory memory_index (HasMemory m) d.imports imports
      given.as_many (λ k i o p q. let h : IsGivenAs m i.ty o = given.each k i o p q in h.memory) in
      record { tables = tables.as_many; memories = memories.as_many }

  abbrev a : Machine
  a = allocated m d imports

  abbrev number : ℕ
  number = length m.instances

  abbrev fs : List ℕ
  fs = function_numbers m d imports

  safe : IsSafeChange m a
  safe = allocated_safe m ready_formed d is imports given may

  made : IsInstanceOf a number d
  made = record {
    parts = new_instance m d imports;
    found = instance_found m ready_formed d is imports given;
    same = refl;
  }

  pub is_taken : IsTaken a (make m d imports)
  is_taken = segments_taken a d is number fs (global_values m d imports) a (safe_own a safe.well) made

  taken_formed : (t : Taken) (new : Machine) → IsTaken a t → t ≡ Done new → IsWellFormed new
  taken_formed t new h same = let k : IsSafeChange a new = subst (IsTaken a) same h in k.well

  trapped_formed : (t : Taken) (new : Machine) (why : _) → IsTaken a t → t ≡ OutOfRange why new → IsWellFormed new
  trapped_formed t new why h same = let k : IsSafeChange a new = subst (IsTaken a) same h in k.well

  -- ---- what follows

  -- the functions of the new instance are there later, too
  named_later : (after : Machine) → Extends a after → Has (functions d) fs (IsNamed a) →
      Has (functions d) fs (IsNamed after)
  named_later after x h = record {
    as_many = h.as_many;
    each = λ k o n p q ty e. function_later a after x safe.well ty n (h.each k o n p q ty e);
  }

  module _ (turns : ℕ) (heard : List Asking) (answers : List Answer) (few : turns < 1000000000)
      (typed : AreTyped answers) where
    abbrev w : World
    w = world m turns heard answers

    good : IsGoodWorld w w
    good = good_begin w (record { well = ready_formed; turns = omega (arith, few); typed = typed })

    good_in : (after : Machine) → IsSafeChange a after → IsGoodWorld w (record w { machine = after })
    good_in after h = (machine_next w w w after good (next_own w w good) (safe_on m a after safe h)).good

    returns_by : (t : Taken) → IsTaken a t → IsReturned w [] (started exec 0 d imports w t)
    returns_by (Done after) h =
        instantiated_returns w number d (start exec 0 number fs (record w { machine = after }) d.start)
        (start_good exec exec_sound w 0 d is number number fs (record w { machine = after }) d.start refl
        (good_in after h) (made_later a after number d h.later made)
        (named_later after h.later (functions_named m ready_formed d is imports given)))
    returns_by (OutOfRange why after) h = good_in after h
    returns_by (StuckSegment after) h = absurd h

    returns : IsReturned w [] (started exec 0 d imports w (make m d imports))
    returns = returns_by (make m d imports) is_taken

  -- its start function
  module _ (new : Machine) (done : make m d imports ≡ Done new) (k : ℕ) (start_is : d.start ≡ Some k) where
    start_by : (o : Option ℕ) → slice_get fs k ≡ o → (turns : ℕ) (heard : List Asking) (answers : List Answer) →
        started exec 0 d imports (world m turns heard answers) (make m d imports)
        ≡ on.found (Over Stuck (world new turns heard answers)) o
        (λ n. entry exec 0 n [] (Some number) (world new turns heard answers))
    start_by o found turns heard answers =
        ap (started exec 0 d imports (world m turns heard answers)) done
        ∙ ap (start exec 0 number fs (world new turns heard answers)) start_is
        ∙ ap (λ x. on.found (Over Stuck (world new turns heard answers)) x
        (λ n. entry exec 0 n [] (Some number) (world new turns heard answers))) found

    pub safe_start : (n : ℕ) → slice_get fs k ≡ Some n → IsSafeStart new n number
    safe_start n found turns heard answers few typed = (
      world m turns heard answers,
      subst (IsReturned (world m turns heard answers) []) (start_by (Some n) found turns heard answers)
          (returns turns heard answers few typed),
    )

  -- it is never stuck
  not_stuck : (v : World) → started exec 0 d imports (world m 0 [] []) (make m d imports) ≡ Over Stuck v → ⊥
  not_stuck v p =
      let no : IsReturned (world m 0 [] []) [] (Over Stuck v) =
      subst (IsReturned (world m 0 [] []) []) p (returns 0 [] [] (omega arith) tt) in
      no

  pub never_sticks : (new : Machine) → EndsAs fs d.start (make m d imports) ending.Sticks new → ⊥
  never_sticks new h = elim h [
    | inl p ↦ not_stuck (world new 0 [] []) (ap (started exec 0 d imports (world m 0 [] [])) p)
    | inr q ↦ not_stuck (world new 0 [] []) (start_by new q.0 q.1.0 q.1.1.0 None q.1.1.1 0 [] [])
  ]

  -- and the store that it leaves is well formed
  pub made_formed : (n : Ending) (new : Machine) → EndsAs fs d.start (make m d imports) n new → IsWellFormed new
  made_formed ending.Whole new h = taken_formed (make m d imports) new is_taken h.0
  made_formed (ending.Starts n) new h = taken_formed (make m d imports) new is_taken h.0
  made_formed (ending.Trapped t) new h = trapped_formed (make m d imports) new t is_taken h
  made_formed ending.Sticks new h = absurd (never_sticks new h)
