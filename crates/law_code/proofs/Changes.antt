-- The changes of a store that code makes are safe, one lemma for each by its name: each leaves a well-formed store,
-- later than the one before, that owes no more; a charge lets it owe as much more.
use Rattle.std.proofs.Common.{◌≡◌, ◌⊎◌, ℕ, zero, suc, ◌+◌, ◌-◌, ◌*◌, ◌/◌, ◌^◌, ◌≤◌, Bool, true, false, cond, ltb, if◌then◌else◌, le_trans, List, [], ◌∷◌, ◌++◌, length, set, take, drop, replicate, slice_get, Some, refl, sym, ap, ◌∙◌, subst, inl, inr, arith, length-set}
use Rattle.std.specs.Prelude.{ℤ, pos, negsuc, ◌-ℤ◌}
use Rattle.std.proofs.lemmas.Option.{same_Some}
use Rattle.wasm_types.specs.Each.{Each}
use Rattle.wasm_types.specs.Matching.{ref_matches}
use Rattle.wasm_types.specs.Memories.{Memory, memory}
use Rattle.wasm_types.specs.MemoryTypes.{page_size, within_maximum}
use Rattle.wasm_types.specs.Ranges.{is_range, range_of, with_range}
use Rattle.wasm_types.specs.declared.plain.Mutability.TheVariants.{Const}
use Rattle.wasm_types.specs.declared.value_types.RefType.{RefType}
use Rattle.wasm_objects.specs.Globals.{Global, global}
use Rattle.wasm_objects.specs.Tables.{Table, table}
use Rattle.wasm_objects.specs.declared.raw.RawRef.{RawRef}
use Rattle.wasm_objects.specs.declared.raw.RawVal.{RawVal}
use Rattle.spec_machine.specs.Growth.{memory_range, table_range}
use Rattle.spec_machine.specs.Changes.{set_memory, set_table, set_global, set_instance, drop_element, drop_data, set_fuel, charge, set_deadline}
use Rattle.spec_machine.specs.Machine.{Machine, InstanceParts, Numbers, debt, most_debt}
use Rattle.spec_machine.specs.Values.{raw_ref_fits}
use Rattle.spec_machine.specs.WellFormed.{is_raw_ref, IsMemory, IsTable, IsGlobal, IsSegment, IsInstance, IsWellFormed}
use Rattle.law_store.specs.Later.{Later, IsLaterMemory, IsLaterTable, IsLaterGlobal, IsLaterInstance, Extends}
use Rattle.law_store.proofs.LaterStoreLemmas.{memory_own, table_own, global_own, instance_own, extends_own, extends_on, extends_memories, extends_tables, extends_globals}
use Rattle.law_store.proofs.FitLemmas.{raw_ref_fits_along}
use Rattle.law_store.proofs.WellFormedLemmas.{kept}
use Rattle.law_store.proofs.Lists.{each_none, each_by, each_set, each_replicate, each_range, each_with_range, later_set}
use Rattle.law_store.proofs.Memories.{length_with_range}
use Rattle.spec_execution.specs.Straight.{with_bytes, with_elements}
use Rattle.law_code.specs.Typed.{HasType}

-- a change is safe: the store after it is well formed, later than the one before, and owes no more
pub record IsSafeChange (m after : Machine) : Type 0 where
  pub well : IsWellFormed after
  pub later : Extends m after
  pub owed : debt after.fuel ≤ debt m.fuel

pub safe_own : (m : Machine) → IsWellFormed m → IsSafeChange m m
safe_own m s = record { well = s; later = extends_own m; owed = omega arith }

pub safe_on : (a b c : Machine) → IsSafeChange a b → IsSafeChange b c → IsSafeChange a c
safe_on a b c p q = record {
  well = q.well;
  later = extends_on a b c p.later q.later;
  owed = le_trans q.owed p.owed;
}

-- references that are there, and fit
pub record AreRefs (m : Machine) (ty : RefType) (items : List RawRef) : Type 0 where
  pub there : Each items (λ r. is_raw_ref m r ≡ true)
  pub fits : Each items (λ r. raw_ref_fits m r ty ≡ true)

-- what is in a list with another member, by its place
pub set_cases : {A : Type 0} (xs : List A) (i j : ℕ) (y x : A) → slice_get (set xs i y) j ≡ Some x →
    ((j ≡ i) × (x ≡ y)) ⊎ (slice_get xs j ≡ Some x)
set_cases [] i j y x e = inr e
set_cases (a ∷ xs) zero zero y x e = inl (refl, sym (same_Some y x e))
set_cases (a ∷ xs) zero (suc j) y x e = inr e
set_cases (a ∷ xs) (suc i) zero y x e = inr e
set_cases (a ∷ xs) (suc i) (suc j) y x e =
    elim (set_cases xs i j y x e) [ inl h ↦ inl (ap suc h.0, h.1) | inr h ↦ inr h ]

-- a list in which a range is another one that is as long as asked
filled : {A : Type 0} (at len : ℕ) (piece xs : List A) → length piece ≡ len → is_range at len xs ≡ true →
    length (with_range at piece xs) ≡ length xs
filled at len piece xs same h = length_with_range at piece xs (ap (λ n. is_range at n xs) same ∙ h)

-- as many bytes, as many elements
same_memory : (x : Memory) (bytes : List ℕ) → length bytes ≡ length x.bytes → IsMemory x → IsMemory (memory x.ty bytes)
same_memory x bytes same h = record {
  limits = h.limits;
  whole = same ∙ h.whole ∙ sym (ap (λ n. (n / page_size x.ty) * page_size x.ty) same);
  least = subst (λ n. x.ty.minimum ≤ n / page_size x.ty) (sym same) h.least;
  most = ap (λ n. within_maximum (n / page_size x.ty) x.ty.maximum) same ∙ h.most;
  in_range = subst (λ n. n ≤ memory_range x.ty) (sym same) h.in_range;
}

same_table : (m : Machine) (x : Table) (elements : List RawRef) → length elements ≡ length x.elements →
    AreRefs m x.ty.element elements → IsTable m x → IsTable m (table x.ty elements)
same_table m x elements same e h = record {
  limits = h.limits;
  of_engine = h.of_engine;
  sound = h.sound;
  least = subst (λ n. x.ty.minimum ≤ n) (sym same) h.least;
  most = ap (λ n. within_maximum n x.ty.maximum) same ∙ h.most;
  in_range = subst (λ n. n ≤ table_range) (sym same) h.in_range;
  there = e.there;
  fits = e.fits;
}

-- ---- fuel

-- so much less fuel is so much more debt at most
less_by : (b : Bool) (a n k : ℕ) → debt (cond b (negsuc (suc k - suc a)) (pos n)) ≤ suc k
less_by true a n k = omega arith
less_by false a n k = omega arith

owes_more : (fuel : ℤ) (amount : ℕ) → debt (fuel -ℤ pos amount) ≤ debt fuel + amount
owes_more (pos n) zero = omega arith
owes_more (pos n) (suc k) = le_zero (less_by (ltb n (suc k)) n (n - suc k) k)
  where
    le_zero : {x : ℕ} → x ≤ suc k → x ≤ 0 + suc k
    le_zero h = omega (arith, h)
owes_more (negsuc n) zero = owes_less n (ltb 0 (suc n))
  where
    owes_less : (n : ℕ) (b : Bool) → debt (cond b (negsuc (suc n - suc 0)) (pos (0 - suc n))) ≤ suc n + 0
    owes_less n true = omega arith
    owes_less n false = omega arith
owes_more (negsuc n) (suc k) = omega arith

-- a store that owes so much more at most
pub record IsCharged (m : Machine) (amount : ℕ) (after : Machine) : Type 0 where
  pub well : IsWellFormed after
  pub later : Extends m after
  pub owed : debt after.fuel ≤ debt m.fuel + amount

module _ (m : Machine) (s : IsWellFormed m) where
  -- ---- one memory, table or global becomes another

  pub set_memory_safe :
      (n : ℕ) (x y : Memory) → slice_get m.memories n ≡ Some x → IsLaterMemory x y → IsMemory y
      → IsSafeChange m (set_memory m n y)
  set_memory_safe n x y found later is =
      let xs : List Memory = set m.memories n y in
      let e : Extends m (set_memory m n y) =
      extends_memories m xs (later_set IsLaterMemory m.memories n x y memory_own found later) in
      record {
        well = kept m (set_memory m n y) s e (each_set IsMemory m.memories n y s.memories_are is) s.tables_are
            s.globals_are s.tags_are s.functions_are s.instances_are s.deadline_is s.debt_is;
        later = e;
        owed = omega arith;
      }

  pub set_table_safe :
      (n : ℕ) (x y : Table) → slice_get m.tables n ≡ Some x → IsLaterTable x y → IsTable m y
      → IsSafeChange m (set_table m n y)
  set_table_safe n x y found later is =
      let e : Extends m (set_table m n y) =
      extends_tables m (set m.tables n y) (later_set IsLaterTable m.tables n x y table_own found later) in
      record {
        well = kept m (set_table m n y) s e s.memories_are (each_set (IsTable m) m.tables n y s.tables_are is)
            s.globals_are s.tags_are s.functions_are s.instances_are s.deadline_is s.debt_is;
        later = e;
        owed = omega arith;
      }

  pub set_global_safe :
      (n : ℕ) (x y : Global) → slice_get m.globals n ≡ Some x → IsLaterGlobal x y → IsGlobal m y
      → IsSafeChange m (set_global m n y)
  set_global_safe n x y found later is =
      let e : Extends m (set_global m n y) =
      extends_globals m (set m.globals n y) (later_set IsLaterGlobal m.globals n x y global_own found later) in
      record {
        well = kept m (set_global m n y) s e s.memories_are s.tables_are
            (each_set (IsGlobal m) m.globals n y s.globals_are is) s.tags_are s.functions_are s.instances_are
            s.deadline_is s.debt_is;
        later = e;
        owed = omega arith;
      }

  -- ---- a segment becomes empty

  extends_instances : (xs : List InstanceParts) → Later m.instances xs IsLaterInstance →
      Extends m (record m { instances = xs })
  extends_instances xs f = let e : Extends m m = extends_own m in
      record {
        id = refl;
        engine = refl;
        memories = e.memories;
        tables = e.tables;
        globals = e.globals;
        tags = e.tags;
        functions = e.functions;
        instances = f;
      }

  set_instance_safe :
      (n : ℕ) (i j : InstanceParts) → slice_get m.instances n ≡ Some i → IsLaterInstance i j
      → IsInstance m n j → IsSafeChange m (set_instance m n j)
  set_instance_safe n i j found later is =
      let x : Extends m (set_instance m n j) =
      extends_instances (set m.instances n j)
      (later_set IsLaterInstance m.instances n i j instance_own found later) in
      record {
        well = kept m (set_instance m n j) s x s.memories_are s.tables_are s.globals_are s.tags_are
            s.functions_are
            (λ k p e. elim (set_cases m.instances n k j p e) [
              | inl h ↦ subst (IsInstance m k) (sym h.1) (subst (λ b. IsInstance m b j) (sym h.0) is)
              | inr h ↦ s.instances_are k p h
            ])
            s.deadline_is s.debt_is;
        later = x;
        owed = omega arith;
      }

  pub drop_element_safe : (n : ℕ) (i : InstanceParts) (k : ℕ) → slice_get m.instances n ≡ Some i →
      IsSafeChange m (drop_element m n i k)
  drop_element_safe n i k found =
      let h : IsInstance m n i = s.instances_are n i found in
      set_instance_safe n i (record i { elements = set i.elements k [] }) found
      (record { decl = refl; functions = refl; tables = refl; memories = refl; globals = refl; tags = refl })
      (record {
        module_is = h.module_is;
        of_engine = h.of_engine;
        functions_fit = h.functions_fit;
        tables_fit = h.tables_fit;
        memories_fit = h.memories_fit;
        globals_fit = h.globals_fit;
        tags_fit = h.tags_fit;
        defined = h.defined;
        segments = length-set i.elements k [] ∙ h.segments;
        segments_fit = λ l declared items p q. elim (set_cases i.elements k l [] items q) [
          | inl e ↦ subst (IsSegment m declared) (sym e.1)
              (record {
                there = each_none (λ r. is_raw_ref m r ≡ true);
                fits = each_none (λ r. raw_ref_fits m r declared.ty ≡ true);
              })
          | inr e ↦ h.segments_fit l declared items p e
        ];
        datas = h.datas;
      })

  pub drop_data_safe : (n : ℕ) (i : InstanceParts) (k : ℕ) → slice_get m.instances n ≡ Some i →
      IsSafeChange m (drop_data m n i k)
  drop_data_safe n i k found =
      let h : IsInstance m n i = s.instances_are n i found in
      set_instance_safe n i (record i { datas = set i.datas k [] }) found
      (record { decl = refl; functions = refl; tables = refl; memories = refl; globals = refl; tags = refl })
      (record {
        module_is = h.module_is;
        of_engine = h.of_engine;
        functions_fit = h.functions_fit;
        tables_fit = h.tables_fit;
        memories_fit = h.memories_fit;
        globals_fit = h.globals_fit;
        tags_fit = h.tags_fit;
        defined = h.defined;
        segments = h.segments;
        segments_fit = h.segments_fit;
        datas = length-set i.datas k [] ∙ h.datas;
      })

  -- ---- fuel and deadline

  extends_fuel : (fuel : ℤ) → Extends m (set_fuel m fuel)
  extends_fuel fuel = let e : Extends m m = extends_own m in
      record {
        id = refl;
        engine = refl;
        memories = e.memories;
        tables = e.tables;
        globals = e.globals;
        tags = e.tags;
        functions = e.functions;
        instances = e.instances;
      }

  charged_by :
      (amount : ℕ) (b : Bool) → (b ≡ true → debt m.fuel + amount ≤ most_debt)
      → IsCharged m amount (if b then set_fuel m (m.fuel -ℤ pos amount) else m)
  charged_by amount true room =
      let x : Extends m (set_fuel m (m.fuel -ℤ pos amount)) = extends_fuel (m.fuel -ℤ pos amount) in
      record {
        well = kept m (set_fuel m (m.fuel -ℤ pos amount)) s x s.memories_are s.tables_are s.globals_are s.tags_are
            s.functions_are s.instances_are s.deadline_is (le_trans (owes_more m.fuel amount) (room refl));
        later = x;
        owed = owes_more m.fuel amount;
      }
  charged_by amount false room = record { well = s; later = extends_own m; owed = omega arith }

  -- a store may be charged, where fuel is consumed, what it may owe
  pub charge_safe :
      (amount : ℕ) → (m.engine.consumes_fuel ≡ true → debt m.fuel + amount ≤ most_debt)
      → IsCharged m amount (charge m amount)
  charge_safe amount room = charged_by amount m.engine.consumes_fuel room

  -- other counts
  pub set_counts_safe : (counts : Numbers) → IsSafeChange m (record m { counts = counts })
  set_counts_safe counts =
      let e : Extends m m = extends_own m in
      let after : Machine = record m { counts = counts } in
      let x : Extends m after = record {
        id = refl;
        engine = refl;
        memories = e.memories;
        tables = e.tables;
        globals = e.globals;
        tags = e.tags;
        functions = e.functions;
        instances = e.instances;
      } in
      record {
        well = kept m after s x s.memories_are s.tables_are s.globals_are s.tags_are s.functions_are s.instances_are
            s.deadline_is s.debt_is;
        later = x;
        owed = omega arith;
      }

  pub set_deadline_safe : (deadline : ℕ) → deadline ≤ 2 ^ 64 - 2 → IsSafeChange m (set_deadline m deadline)
  set_deadline_safe deadline h =
      let e : Extends m m = extends_own m in
      let x : Extends m (set_deadline m deadline) = record {
        id = refl;
        engine = refl;
        memories = e.memories;
        tables = e.tables;
        globals = e.globals;
        tags = e.tags;
        functions = e.functions;
        instances = e.instances;
      } in
      record {
        well = kept m (set_deadline m deadline) s x s.memories_are s.tables_are s.globals_are s.tags_are
            s.functions_are s.instances_are h s.debt_is;
        later = x;
        owed = omega arith;
      }

  -- ---- the changes of straight instructions, by these

  -- other bytes, as many
  bytes_safe : (n : ℕ) (x : Memory) (bytes : List ℕ) → slice_get m.memories n ≡ Some x →
      length bytes ≡ length x.bytes → IsSafeChange m (with_bytes m n x bytes)
  bytes_safe n x bytes found same =
      set_memory_safe n x (memory x.ty bytes) found (record { ty = refl; size = omega (arith, same) })
      (same_memory x bytes same (s.memories_are n x found))

  -- a range of bytes, as long
  pub bytes_range_safe : (n : ℕ) (x : Memory) (at len : ℕ) (piece : List ℕ) → slice_get m.memories n ≡ Some x →
      length piece ≡ len → is_range at len x.bytes ≡ true →
      IsSafeChange m (with_bytes m n x (take at x.bytes ++ piece ++ drop (at + len) x.bytes))
  bytes_range_safe n x at len piece found same h =
      subst (λ k. IsSafeChange m (with_bytes m n x (take at x.bytes ++ piece ++ drop (at + k) x.bytes))) same
      (bytes_safe n x (with_range at piece x.bytes) found (filled at len piece x.bytes same h))

  -- other elements, as many
  elements_safe : (n : ℕ) (x : Table) (elements : List RawRef) → slice_get m.tables n ≡ Some x →
      length elements ≡ length x.elements → AreRefs m x.ty.element elements →
      IsSafeChange m (with_elements m n x elements)
  elements_safe n x elements found same e =
      set_table_safe n x (table x.ty elements) found (record { ty = refl; size = omega (arith, same) })
      (same_table m x elements same e (s.tables_are n x found))

  -- the elements of a table that is there
  pub elements_are : (n : ℕ) (x : Table) → slice_get m.tables n ≡ Some x → AreRefs m x.ty.element x.elements
  elements_are n x found = let t : IsTable m x = s.tables_are n x found in
      record { there = t.there; fits = t.fits }

  -- one element, a range filled with one reference, a range of others
  pub set_safe : (n : ℕ) (x : Table) (at : ℕ) (y : RawRef) → slice_get m.tables n ≡ Some x → is_raw_ref m y ≡ true →
      raw_ref_fits m y x.ty.element ≡ true → IsSafeChange m (with_elements m n x (set x.elements at y))
  set_safe n x at y found p q =
      elements_safe n x (set x.elements at y) found (length-set x.elements at y)
      (let e : AreRefs m x.ty.element x.elements = elements_are n x found in
      record {
        there = each_set (λ r. is_raw_ref m r ≡ true) x.elements at y e.there p;
        fits = each_set (λ r. raw_ref_fits m r x.ty.element ≡ true) x.elements at y e.fits q;
      })

  pub range_safe : (n : ℕ) (x : Table) (at len : ℕ) (piece : List RawRef) → slice_get m.tables n ≡ Some x →
      length piece ≡ len → is_range at len x.elements ≡ true → AreRefs m x.ty.element piece →
      IsSafeChange m (with_elements m n x (take at x.elements ++ piece ++ drop (at + len) x.elements))
  range_safe n x at len piece found same h p =
      subst (λ k. IsSafeChange m (with_elements m n x (take at x.elements ++ piece ++ drop (at + k) x.elements))) same
      (elements_safe n x (with_range at piece x.elements) found (filled at len piece x.elements same h)
      (let e : AreRefs m x.ty.element x.elements = elements_are n x found in
      record {
        there = each_with_range (λ r. is_raw_ref m r ≡ true) at piece x.elements p.there e.there;
        fits = each_with_range (λ r. raw_ref_fits m r x.ty.element ≡ true) at piece x.elements p.fits e.fits;
      }))

  pub copies_are : (ty : RefType) (len : ℕ) (y : RawRef) → is_raw_ref m y ≡ true → raw_ref_fits m y ty ≡ true →
      AreRefs m ty (replicate len y)
  copies_are ty len y p q = record {
    there = each_replicate (λ r. is_raw_ref m r ≡ true) len y p;
    fits = each_replicate (λ r. raw_ref_fits m r ty ≡ true) len y q;
  }

  pub range_are : (from to : RefType) (at len : ℕ) (items : List RawRef) → AreRefs m from items →
      ref_matches from to ≡ true → AreRefs m to (range_of at len items)
  range_are from to at len items e q = record {
    there = each_range (λ r. is_raw_ref m r ≡ true) at len items e.there;
    fits = each_by (λ r. raw_ref_fits m r from ≡ true) (λ r. raw_ref_fits m r to ≡ true) (range_of at len items)
        (λ r h. raw_ref_fits_along m r from to h q)
        (each_range (λ r. raw_ref_fits m r from ≡ true) at len items e.fits);
  }

  -- another value in a global that is no constant one
  pub value_safe : (n : ℕ) (x : Global) (v : RawVal) → slice_get m.globals n ≡ Some x →
      (x.ty.mutability ≡ Const → ⊥) → HasType m x.ty.content v → IsSafeChange m (set_global m n (global x.ty v))
  value_safe n x v found variable h =
      let was : IsGlobal m x = s.globals_are n x found in
      set_global_safe n x (global x.ty v) found (record { ty = refl; constant = λ c. absurd (variable c) })
      (record { of_engine = was.of_engine; sound = was.sound; there = h.there; fits = h.fits })
