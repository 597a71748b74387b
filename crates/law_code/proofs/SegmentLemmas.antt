-- The segments of a new instance: each is written where it is in range, and is dropped. Each store on the way is well
-- formed and later than the one before, and no segment fits no rule.
use Rattle.std.proofs.Common.{◌≡◌, ℕ, suc, ◌+◌, Bool, true, false, ◌&&◌, List, [], ◌∷◌, length, map, slice_get, Option, Some, None, option_map, refl, sym, ap, ◌∙◌, subst, arith}
use Rattle.std.proofs.lemmas.Option.{slice_get-map}
use Rattle.wasm_types.specs.EqualityLaws.{both}
use Rattle.wasm_types.specs.Matching.{ref_matches}
use Rattle.wasm_types.specs.Memories.{Memory}
use Rattle.wasm_types.specs.MemoryTypes.{MemoryParts}
use Rattle.wasm_types.specs.Ranges.{is_range, range_of, with_range}
use Rattle.wasm_types.specs.TableTypes.{TableParts}
use Rattle.wasm_types.specs.declared.value_types.RefType.{RefType}
use Rattle.wasm_syntax.specs.Contexts.{tables, memories}
use Rattle.wasm_syntax.specs.Modules.{IsModule}
use Rattle.wasm_syntax.specs.Rules.{is_there, has_table, has_memory, matches_table, fits_table}
use Rattle.wasm_syntax.specs.declared.declarations.ModuleDecl.{ModuleDecl}
use Rattle.wasm_syntax.specs.declared.module_fault.Rule.TheVariants as rule
use Rattle.wasm_syntax.specs.declared.segments.DataDecl.{DataDecl}
use Rattle.wasm_syntax.specs.declared.segments.DataMode.{DataMode}
use Rattle.wasm_syntax.specs.declared.segments.DataMode.TheVariants as data_mode
use Rattle.wasm_syntax.specs.declared.segments.ElemDecl.{ElemDecl}
use Rattle.wasm_syntax.specs.declared.segments.ElemMode.{ElemMode}
use Rattle.wasm_syntax.specs.declared.segments.ElemMode.TheVariants as elem_mode
use Rattle.wasm_values.specs.declared.refusals.Trap.{Trap}
use Rattle.wasm_values.specs.declared.refusals.Trap.TheVariants as trap
use Rattle.wasm_objects.specs.Tables.{Table}
use Rattle.wasm_objects.specs.declared.raw.RawRef.{RawRef}
use Rattle.wasm_objects.specs.declared.raw.RawVal.{RawVal}
use Rattle.spec_machine.specs.Changes.{drop_element, drop_data}
use Rattle.spec_machine.specs.Machine.{Machine, InstanceParts}
use Rattle.spec_machine.specs.WellFormed.{IsWellFormed}
use Rattle.spec_execution.specs.Allocation.{offset_of}
use Rattle.spec_execution.specs.Operands as on
use Rattle.spec_execution.specs.Segments.{Taken, Done, OutOfRange, StuckSegment, taken_by, drop_taken_element, drop_taken_data, init_table, init_memory, take_element, take_elements, take_data, take_datas, take_segments}
use Rattle.spec_execution.specs.Straight.{Effect, Goes, Traps, Sticks, bounded, with_bytes, with_elements, copied_bytes, copied_elements}
use Rattle.law_store.specs.Later.{There, IsLaterInstance, Extends}
use Rattle.law_store.proofs.Tables.{length_range_of}
use Rattle.law_code.specs.Good.{IsInstanceOf}
use Rattle.law_code.proofs.Changes.{IsSafeChange, AreRefs, safe_own, safe_on, drop_element_safe, drop_data_safe, bytes_range_safe, range_safe, range_are}
use Rattle.law_code.proofs.Combinators.{at_found}
use Rattle.law_code.proofs.Functions.{not_false, within}
use Rattle.law_code.proofs.IndexLemmas.{NamedTable, NamedMemory, NamedElements, named_table, named_memory, named_elements, named_data}

-- what the segments come to: a store that follows safely; never are they stuck
abbrev pub IsTaken : Machine → Taken → Type 0
IsTaken m (Done after) = IsSafeChange m after
IsTaken m (OutOfRange why after) = IsSafeChange m after
IsTaken m (StuckSegment after) = ⊥

-- what one segment comes to
abbrev IsWritten : Machine → Effect → Type 0
IsWritten m (Goes after locals operands) = IsSafeChange m after
IsWritten m (Traps why) = Unit {0}
IsWritten m Sticks = ⊥

bounded_written : (m : Machine) (why : Trap) (b : Bool) (e : Effect) → (b ≡ true → IsWritten m e) →
    IsWritten m (bounded why b e)
bounded_written m why true e h = h refl
bounded_written m why false e h = tt

-- an instance of the module stays one
pub made_later : (m after : Machine) (n : ℕ) (d : ModuleDecl) → Extends m after → IsInstanceOf m n d → IsInstanceOf after n d
made_later m after n d x h =
    let u : There after.instances n (IsLaterInstance h.parts) = x.instances n h.parts h.found in
    record { parts = u.member; found = u.found; same = u.says.decl ∙ h.same }

-- what is found, or not
found_or : {O A : Type 0} (P : O → Type 0) (sticks : O) (o : Option A) (go : A → O) → P sticks →
    ((x : A) → o ≡ Some x → P (go x)) → P (on.found sticks o go)
found_or P sticks None go h k = h
found_or P sticks (Some x) go h k = k x refl

module _ (m : Machine) (s : IsWellFormed m) (n : ℕ) where
  drops_element : (k : ℕ) → IsSafeChange m (drop_taken_element n k m)
  drops_element k =
      found_or (IsSafeChange m) m (slice_get m.instances n)
      (λ (i : InstanceParts). on.found m (slice_get i.elements k) (λ items. drop_element m n i k)) (safe_own m s)
      (λ i p.
      found_or (IsSafeChange m) m (slice_get i.elements k) (λ items. drop_element m n i k) (safe_own m s)
      (λ items q. drop_element_safe m s n i k p))

  drops_data : (k : ℕ) → IsSafeChange m (drop_taken_data n k m)
  drops_data k =
      found_or (IsSafeChange m) m (slice_get m.instances n)
      (λ (i : InstanceParts). on.found m (slice_get i.datas k) (λ bytes. drop_data m n i k)) (safe_own m s)
      (λ i p.
      found_or (IsSafeChange m) m (slice_get i.datas k) (λ bytes. drop_data m n i k) (safe_own m s)
      (λ bytes q. drop_data_safe m s n i k p))

  -- a whole segment over a range of a table, of a memory
  elements_written : (k : ℕ) (x : Table) (at : ℕ) (from : RefType) (items : List RawRef) →
      slice_get m.tables k ≡ Some x → AreRefs m from items → ref_matches from x.ty.element ≡ true →
      IsWritten m (copied_elements (λ after. Goes after [] []) m k x at items 0 (length items))
  elements_written k x at from items found are fits =
      let piece : List RawRef = range_of 0 (length items) items in
      bounded_written m trap.TableOutOfBounds
      (is_range at (length items) x.elements && is_range 0 (length items) items)
      (Goes (with_elements m k x (with_range at piece x.elements)) [] []) (λ e.
      let b : (is_range at (length items) x.elements ≡ true) × (is_range 0 (length items) items ≡ true) = both _ _ e in
      range_safe m s k x at (length piece) piece found refl
      (subst (λ j. is_range at j x.elements ≡ true) (sym (length_range_of 0 (length items) items b.1)) b.0)
      (range_are m s from x.ty.element 0 (length items) items are fits))

  bytes_written : (k : ℕ) (x : Memory) (at : ℕ) (bytes : List ℕ) → slice_get m.memories k ≡ Some x →
      IsWritten m (copied_bytes (λ after. Goes after [] []) m k x at bytes 0 (length bytes))
  bytes_written k x at bytes found =
      let piece : List ℕ = range_of 0 (length bytes) bytes in
      bounded_written m trap.MemoryOutOfBounds
      (is_range at (length bytes) x.bytes && is_range 0 (length bytes) bytes)
      (Goes (with_bytes m k x (with_range at piece x.bytes)) [] []) (λ e.
      let b : (is_range at (length bytes) x.bytes ≡ true) × (is_range 0 (length bytes) bytes ≡ true) = both _ _ e in
      bytes_range_safe m s k x at (length piece) piece found refl
      (subst (λ j. is_range at j x.bytes ≡ true) (sym (length_range_of 0 (length bytes) bytes b.1)) b.0))

-- ---- the segments of an instance, by their numbers

module _ (base : Machine) (d : ModuleDecl) (is : IsModule d) (n : ℕ) (fs : List ℕ) (gs : List RawVal) where
  by_effect : (m : Machine) (e : Effect) (go : Machine → Taken) → IsSafeChange base m → IsWritten m e →
      ((after : Machine) → IsSafeChange m after → IsTaken base (go after)) → IsTaken base (taken_by e m go)
  by_effect m (Goes after locals operands) go s h k = k after h
  by_effect m (Traps why) go s h k = s
  by_effect m Sticks go s h k = absurd h

  -- what goes on from a store in which the instance is there
  abbrev Goes_on : (Machine → Taken) → Type 0
  Goes_on go = (after : Machine) → IsSafeChange base after → IsInstanceOf after n d → IsTaken base (go after)

  table_written : (m : Machine) (k table at : ℕ) (e : ElemDecl) → IsWellFormed m → IsInstanceOf m n d →
      slice_get d.elements k ≡ Some e → is_there (tables d) table ≡ true →
      matches_table e.ty (slice_get (tables d) table) ≡ true → IsWritten m (init_table n fs gs m k table at)
  table_written m k table at e s home p here fits =
      let u : (ty : TableParts) × (slice_get (tables d) table ≡ Some ty) = within (tables d) table here in
      let x : NamedTable m home.parts table u.0 =
      named_table m s n home.parts home.found table u.0
      (ap (λ (c : ModuleDecl). slice_get (tables c) table) home.same ∙ u.1) in
      let y : NamedElements m home.parts k e.ty =
      named_elements m s n home.parts home.found k e.ty
      (ap (λ (c : ModuleDecl). slice_get (map (λ (e : ElemDecl). e.ty) c.elements) k) home.same
      ∙ slice_get-map (λ (e : ElemDecl). e.ty) d.elements k
      ∙ ap (option_map (λ (e : ElemDecl). e.ty)) p) in
      let matched : ref_matches e.ty u.0.element ≡ true =
      sym (ap (matches_table e.ty) u.1) ∙ fits in
      at_found (IsWritten m) Sticks (slice_get m.instances n) home.parts _ home.found
      (at_found (IsWritten m) Sticks (slice_get home.parts.tables table) x.number _ x.named
      (at_found (IsWritten m) Sticks (slice_get m.tables x.number) x.object _ x.found
      (at_found (IsWritten m) Sticks (slice_get m.instances n) home.parts _ home.found
      (at_found (IsWritten m) Sticks (slice_get home.parts.elements k) y.items _ y.named
      (elements_written m s n x.number x.object at e.ty y.items x.found y.are
      (ap (ref_matches e.ty) x.same ∙ matched))))))

  memory_written : (m : Machine) (k memory at : ℕ) (e : DataDecl) → IsWellFormed m → IsInstanceOf m n d →
      slice_get d.datas k ≡ Some e → is_there (memories d) memory ≡ true →
      IsWritten m (init_memory n fs gs m k memory at)
  memory_written m k memory at e s home p here =
      let u : (ty : MemoryParts) × (slice_get (memories d) memory ≡ Some ty) = within (memories d) memory here in
      let x : NamedMemory m home.parts memory =
      named_memory m s n home.parts home.found memory u.0
      (ap (λ (c : ModuleDecl). slice_get (memories c) memory) home.same ∙ u.1) in
      let y : (y : List ℕ) × (slice_get home.parts.datas k ≡ Some y) =
      named_data m s n home.parts home.found k e (ap (λ (c : ModuleDecl). slice_get c.datas k) home.same ∙ p) in
      at_found (IsWritten m) Sticks (slice_get m.instances n) home.parts _ home.found
      (at_found (IsWritten m) Sticks (slice_get home.parts.memories memory) x.number _ x.named
      (at_found (IsWritten m) Sticks (slice_get m.memories x.number) x.object _ x.found
      (at_found (IsWritten m) Sticks (slice_get m.instances n) home.parts _ home.found
      (at_found (IsWritten m) Sticks (slice_get home.parts.datas k) y.0 _ y.1
      (bytes_written m s n x.number x.object at y.0 x.found)))))

  -- ---- element segments

  element_dropped : (m : Machine) (k : ℕ) (go : Machine → Taken) → IsSafeChange base m → IsInstanceOf m n d → Goes_on go →
      IsTaken base (go (drop_taken_element n k m))
  element_dropped m k go s home next =
      let x : IsSafeChange m (drop_taken_element n k m) = drops_element m s.well n k in
      next (drop_taken_element n k m) (safe_on base m (drop_taken_element n k m) s x)
      (made_later m (drop_taken_element n k m) n d x.later home)

  by_element_mode : (m : Machine) (k : ℕ) (e : ElemDecl) (mode : ElemMode) (go : Machine → Taken) →
      IsSafeChange base m → IsInstanceOf m n d → slice_get d.elements k ≡ Some e → has_table d mode ≡ true →
      fits_table d e.ty mode ≡ true → Goes_on go → IsTaken base (take_element n fs gs m k mode go)
  by_element_mode m k e elem_mode.Passive go s home p here fits next = next m s home
  by_element_mode m k e elem_mode.Declared go s home p here fits next = element_dropped m k go s home next
  by_element_mode m k e (elem_mode.Active table offset) go s home p here fits next =
      by_effect m (init_table n fs gs m k table (offset_of fs gs offset))
      (λ after. go (drop_taken_element n k after)) s
      (table_written m k table (offset_of fs gs offset) e s.well home p here fits)
      (λ after h.
      element_dropped after k go (safe_on base m after s h) (made_later m after n d h.later home) next)

  elements_taken : (m : Machine) (k : ℕ) (es : List ElemDecl) (go : Machine → Taken) → IsSafeChange base m →
      IsInstanceOf m n d → ((j i : ℕ) (e : ElemDecl) → i ≡ k + j → slice_get es j ≡ Some e → slice_get d.elements i ≡ Some e) →
      Goes_on go → IsTaken base (take_elements n fs gs m k es go)
  elements_taken m k [] go s home at next = next m s home
  elements_taken m k (e ∷ more) go s home at next =
      let p : slice_get d.elements k ≡ Some e = at 0 k e (omega arith) refl in
      by_element_mode m k e e.mode (λ after. take_elements n fs gs after (suc k) more go) s home p
      (not_false (has_table d e.mode) ((is.valid rule.Index).in_elements k e p))
      (not_false (fits_table d e.ty e.mode) ((is.valid rule.Element).in_elements k e p))
      (λ after h made.
      elements_taken after (suc k) more go h made (λ j i x q r. at (suc j) i x (omega (arith, q)) r) next)

  -- ---- data segments

  data_dropped : (m : Machine) (k : ℕ) (go : Machine → Taken) → IsSafeChange base m → IsInstanceOf m n d → Goes_on go →
      IsTaken base (go (drop_taken_data n k m))
  data_dropped m k go s home next =
      let x : IsSafeChange m (drop_taken_data n k m) = drops_data m s.well n k in
      next (drop_taken_data n k m) (safe_on base m (drop_taken_data n k m) s x)
      (made_later m (drop_taken_data n k m) n d x.later home)

  by_data_mode : (m : Machine) (k : ℕ) (e : DataDecl) (mode : DataMode) (go : Machine → Taken) →
      IsSafeChange base m → IsInstanceOf m n d → slice_get d.datas k ≡ Some e → has_memory d mode ≡ true →
      Goes_on go → IsTaken base (take_data n fs gs m k mode go)
  by_data_mode m k e data_mode.Passive go s home p here next = next m s home
  by_data_mode m k e (data_mode.Active memory offset) go s home p here next =
      by_effect m (init_memory n fs gs m k memory (offset_of fs gs offset))
      (λ after. go (drop_taken_data n k after)) s
      (memory_written m k memory (offset_of fs gs offset) e s.well home p here)
      (λ after h.
      data_dropped after k go (safe_on base m after s h) (made_later m after n d h.later home) next)

  datas_taken : (m : Machine) (k : ℕ) (es : List DataDecl) → IsSafeChange base m → IsInstanceOf m n d →
      ((j i : ℕ) (e : DataDecl) → i ≡ k + j → slice_get es j ≡ Some e → slice_get d.datas i ≡ Some e) →
      IsTaken base (take_datas n fs gs m k es)
  datas_taken m k [] s home at = s
  datas_taken m k (e ∷ more) s home at =
      let p : slice_get d.datas k ≡ Some e = at 0 k e (omega arith) refl in
      by_data_mode m k e e.mode (λ after. take_datas n fs gs after (suc k) more) s home p
      (not_false (has_memory d e.mode) ((is.valid rule.Index).in_datas k e p))
      (λ after h made. datas_taken after (suc k) more h made (λ j i x q r. at (suc j) i x (omega (arith, q)) r))

  -- all of them
  pub segments_taken : (m : Machine) → IsSafeChange base m → IsInstanceOf m n d → IsTaken base (take_segments n fs gs m d)
  segments_taken m s home =
      elements_taken m 0 d.elements (λ after. take_datas n fs gs after 0 d.datas) s home
      (λ j i e q p. subst (λ o. slice_get d.elements o ≡ Some e) (own j i q) p)
      (λ after h made.
      datas_taken after 0 d.datas h made (λ j i e q p. subst (λ o. slice_get d.datas o ≡ Some e) (own j i q) p))
    where
      own : (j i : ℕ) → i ≡ 0 + j → j ≡ i
      own j i q = omega (arith, q)
