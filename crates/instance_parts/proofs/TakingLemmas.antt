-- Segments of a new instance that are written or dropped, in the store of a run.
use Rattle.std.proofs.Common.{◌≡◌, ℕ, zero, suc, ◌+◌, ◌<◌, List, [], ◌∷◌, length, set, refl, ap, sym, ◌∙◌, subst, arith}
use Rattle.std.proofs.lemmas.List.{get_or-set_same}
use Rattle.std.specs.Prelude.{slice_get, Some, None}
use Rattle.wasm_syntax.specs.declared.constants.ConstExpr.{ConstExpr}
use Rattle.wasm_syntax.specs.declared.segments.DataDecl.{DataDecl}
use Rattle.wasm_syntax.specs.declared.segments.DataMode.{DataMode}
use Rattle.wasm_syntax.specs.declared.segments.DataMode.TheVariants as data_mode
use Rattle.wasm_syntax.specs.declared.segments.ElemDecl.{ElemDecl}
use Rattle.wasm_syntax.specs.declared.segments.ElemMode.{ElemMode}
use Rattle.wasm_syntax.specs.declared.segments.ElemMode.TheVariants as elem_mode
use Rattle.wasm_objects.specs.declared.raw.RawRef.{RawRef}
use Rattle.wasm_objects.specs.declared.raw.RawVal.{RawVal}
use Rattle.spec_machine.specs.Changes.{drop_element, drop_data}
use Rattle.spec_machine.specs.Machine.{Machine}
use Rattle.spec_execution.specs.Allocation.{offset_of}
use Rattle.spec_execution.specs.Segments.{Taken, Done, taken_by, drop_taken_element, drop_taken_data, init_table, init_memory, take_element, take_elements, take_data, take_datas}
use Rattle.spec_execution.specs.Straight.{Effect}
use Rattle.store_state.specs.Machine.{run_machine, segments_at, elements_of, data_of, without_elements, without_data}
use Rattle.store_state.specs.Parts.{Names, SegmentParts, segment_parts, ProgramParts, HeldParts}
use Rattle.code_straight.proofs.InstanceLemmas.{found_as, on_elements_is, on_elements_none, on_data_is, on_data_none, emptied_elements, emptied_data}
use Rattle.code_straight.specs.Acting.{effect_of, Keeps}
use Rattle.code_straight.specs.declared.acted.Acted.{Acted}
use Rattle.code_straight.specs.declared.acted.Acted.TheVariants as acted
use Rattle.instance_parts.specs.Taking.{followed, HasSize, ElementsStand, DatasStand, SameElementsBehind, SameDatasBehind, SameDatas}

-- ---- what is dropped, and what stands as it was

slice_get_behind : {A : Type 0} (xs : List A) (k j : ℕ) (v : A) → k < j → slice_get (set xs k v) j ≡ slice_get xs j
slice_get_behind [] k j v h = refl
slice_get_behind (x ∷ xs) zero zero v h = absurd (omega (arith, h))
slice_get_behind (x ∷ xs) zero (suc j) v h = refl
slice_get_behind (x ∷ xs) (suc k) zero v h = absurd (omega (arith, h))
slice_get_behind (x ∷ xs) (suc k) (suc j) v h = slice_get_behind xs k j v (omega (arith, h))

module _ (h h' : HeldParts) (i k : ℕ) (within : i < length h.segments) where
  abbrev own : SegmentParts
  own = segments_at h.segments i

  module _ (e : h' ≡ without_elements h i k) where
    elements_left : segments_at h'.segments i ≡ segment_parts (set own.elements k []) own.datas
    elements_left =
        ap (λ (x : HeldParts). segments_at x.segments i) e
        ∙ get_or-set_same h.segments i (segment_parts (set own.elements k []) own.datas) (segment_parts [] []) within

    pub elements_behind : SameElementsBehind i k h h'
    elements_behind j past =
        ap (λ (s : SegmentParts). slice_get s.elements j) elements_left
        ∙ slice_get_behind own.elements k j [] past

    pub datas_stay : SameDatas i h h'
    datas_stay j = ap (λ (s : SegmentParts). slice_get s.datas j) elements_left

  module _ (e : h' ≡ without_data h i k) where
    datas_left : segments_at h'.segments i ≡ segment_parts own.elements (set own.datas k [])
    datas_left =
        ap (λ (x : HeldParts). segments_at x.segments i) e
        ∙ get_or-set_same h.segments i (segment_parts own.elements (set own.datas k [])) (segment_parts [] []) within

    pub datas_behind : SameDatasBehind i k h h'
    datas_behind j past =
        ap (λ (s : SegmentParts). slice_get s.datas j) datas_left ∙ slice_get_behind own.datas k j [] past

module _ (base : Machine) (p : ProgramParts) (h : HeldParts) (i k : ℕ) where
  abbrev m : Machine
  m = run_machine base p h

  pub no_instance_element : None ≡ slice_get p.instances i → drop_taken_element i k m ≡ m
  no_instance_element none = on_elements_none m base p h i k (sym none) (λ parts items. drop_element m i parts k)

  pub no_instance_data : None ≡ slice_get p.instances i → drop_taken_data i k m ≡ m
  no_instance_data none = on_data_none m base p h i k (sym none) (λ parts bytes. drop_data m i parts k)

  module _ (n : Names) (there : Some n ≡ slice_get p.instances i) where
    pub element_missing : elements_of h i k ≡ None → drop_taken_element i k m ≡ m
    element_missing none =
        on_elements_is m base p h i k n (sym there) (λ parts items. drop_element m i parts k)
        ∙ found_as m _ none

    pub data_missing : data_of h i k ≡ None → drop_taken_data i k m ≡ m
    data_missing none =
        on_data_is m base p h i k n (sym there) (λ parts bytes. drop_data m i parts k)
        ∙ found_as m _ none

    module _ (within : i < length h.segments) (h' : HeldParts) where
      pub element_dropped : (y : List RawRef) → elements_of h i k ≡ Some y → h' ≡ without_elements h i k →
          drop_taken_element i k m ≡ run_machine base p h'
      element_dropped y found new =
          on_elements_is m base p h i k n (sym there) (λ parts items. drop_element m i parts k)
          ∙ found_as m _ found
          ∙ sym (ap (run_machine base p) new ∙ emptied_elements base p h i k n (sym there) within)

      pub data_dropped : (y : List ℕ) → data_of h i k ≡ Some y → h' ≡ without_data h i k →
          drop_taken_data i k m ≡ run_machine base p h'
      data_dropped y found new =
          on_data_is m base p h i k n (sym there) (λ parts bytes. drop_data m i parts k)
          ∙ found_as m _ found
          ∙ sym (ap (run_machine base p) new ∙ emptied_data base p h i k n (sym there) within)

-- ---- one segment

-- it was written, or it was out of range and the store is as it was
ended_by : (e : Effect) (a : Acted) (before after : Machine) (go next : Machine → Taken) → ¬ (a ≡ acted.Goes) →
    e ≡ effect_of a after [] [] → after ≡ before → taken_by e before next ≡ followed a after go
ended_by e acted.Goes before after go next not_done wrote same = absurd (not_done refl)
ended_by e (acted.Traps t) before after go next not_done wrote same =
    ap (λ f. taken_by f before next) wrote ∙ ap (λ (x : Machine). followed (acted.Traps t) x go) (sym same)
ended_by e acted.Sticks before after go next not_done wrote same =
    ap (λ f. taken_by f before next) wrote ∙ ap (λ (x : Machine). followed acted.Sticks x go) (sym same)

pub kept_in : (base : Machine) (p : ProgramParts) (h h' : HeldParts) (a : Acted) → ¬ (a ≡ acted.Goes) → Keeps a h h' →
    run_machine base p h' ≡ run_machine base p h
kept_in base p h h' acted.Goes not_done kept = absurd (not_done refl)
kept_in base p h h' (acted.Traps t) not_done kept = ap (run_machine base p) kept
kept_in base p h h' acted.Sticks not_done kept = ap (run_machine base p) kept

module _ (i : ℕ) (fs : List ℕ) (gs : List RawVal) (m : Machine) (k : ℕ) (go : Machine → Taken) where
  module _ (mode : ElemMode) (table at : ℕ) (offset : ConstExpr) (is : mode ≡ elem_mode.Active table offset)
      (at_is : at ≡ offset_of fs gs offset) where
    element_by : take_element i fs gs m k mode go
        ≡ taken_by (init_table i fs gs m k table at) m (λ after. go (drop_taken_element i k after))
    element_by =
        ap (λ (x : ElemMode). take_element i fs gs m k x go) is
        ∙ ap (λ (x : ℕ). taken_by (init_table i fs gs m k table x) m (λ after. go (drop_taken_element i k after)))
        (sym at_is)

    pub element_written : (mid after : Machine) → init_table i fs gs m k table at ≡ effect_of acted.Goes mid [] [] →
        drop_taken_element i k mid ≡ after → take_element i fs gs m k mode go ≡ go after
    element_written mid after wrote dropped =
        element_by ∙ ap (λ f. taken_by f m (λ x. go (drop_taken_element i k x))) wrote ∙ ap go dropped

    pub element_ended : (a : Acted) (after : Machine) → ¬ (a ≡ acted.Goes) →
        init_table i fs gs m k table at ≡ effect_of a after [] [] → after ≡ m →
        take_element i fs gs m k mode go ≡ followed a after go
    element_ended a after not_done wrote same =
        element_by
        ∙ ended_by (init_table i fs gs m k table at) a m after go (λ x. go (drop_taken_element i k x)) not_done wrote same

  module _ (mode : DataMode) (memory at : ℕ) (offset : ConstExpr) (is : mode ≡ data_mode.Active memory offset)
      (at_is : at ≡ offset_of fs gs offset) where
    data_by : take_data i fs gs m k mode go
        ≡ taken_by (init_memory i fs gs m k memory at) m (λ after. go (drop_taken_data i k after))
    data_by =
        ap (λ (x : DataMode). take_data i fs gs m k x go) is
        ∙ ap (λ (x : ℕ). taken_by (init_memory i fs gs m k memory x) m (λ after. go (drop_taken_data i k after)))
        (sym at_is)

    pub data_written : (mid after : Machine) → init_memory i fs gs m k memory at ≡ effect_of acted.Goes mid [] [] →
        drop_taken_data i k mid ≡ after → take_data i fs gs m k mode go ≡ go after
    data_written mid after wrote dropped =
        data_by ∙ ap (λ f. taken_by f m (λ x. go (drop_taken_data i k x))) wrote ∙ ap go dropped

    pub data_ended : (a : Acted) (after : Machine) → ¬ (a ≡ acted.Goes) →
        init_memory i fs gs m k memory at ≡ effect_of a after [] [] → after ≡ m →
        take_data i fs gs m k mode go ≡ followed a after go
    data_ended a after not_done wrote same =
        data_by
        ∙ ended_by (init_memory i fs gs m k memory at) a m after go (λ x. go (drop_taken_data i k x)) not_done wrote same

-- ---- one more of them is taken

next : (k j : ℕ) → (k + 1) + j ≡ k + suc j
next k j = omega arith

past : (k j : ℕ) → k < k + suc j
past k j = omega arith

module _ (i : ℕ) (gs : List RawVal) (p : ProgramParts) (h h' : HeldParts) (k : ℕ) (e : ElemDecl)
    (rest tail : List ElemDecl) (first : rest ≡ e ∷ tail) where
  -- the declaration of it, and those of the rest
  pub element_stands : ElementsStand h i k rest → HasSize (length e.items) (elements_of h i k)
  element_stands s =
      let none : k + 0 ≡ k = omega arith in
      subst (λ (n : ℕ). HasSize (length e.items) (elements_of h i n)) none
      (s 0 e (ap (λ (l : List ElemDecl). slice_get l 0) first))

  pub elements_stand_behind : ElementsStand h i k rest → SameElementsBehind i k h h' → ElementsStand h' i (k + 1) tail
  elements_stand_behind s same j x found items at =
      s (suc j) x (ap (λ (l : List ElemDecl). slice_get l (suc j)) first ∙ found) items
      (sym (same (k + suc j) (past k j)) ∙ ap (elements_of h' i) (sym (next k j)) ∙ at)

  -- what goes on behind it
  module _ (fs : List ℕ) (base : Machine) (result : Acted)
      (taken : (go : Machine → Taken) → take_element i fs gs (run_machine base p h) k e.mode go
      ≡ followed result (run_machine base p h') go) (go : Machine → Taken) where
    by_first : take_elements i fs gs (run_machine base p h) k rest go
        ≡ followed result (run_machine base p h') (λ after. take_elements i fs gs after (k + 1) tail go)
    by_first =
        let more : suc k ≡ k + 1 = omega arith in
        ap (λ (l : List ElemDecl). take_elements i fs gs (run_machine base p h) k l go) first
        ∙ taken (λ after. take_elements i fs gs after (suc k) tail go)
        ∙ ap (λ (n : ℕ). followed result (run_machine base p h') (λ after. take_elements i fs gs after n tail go)) more

    pub elements_more : result ≡ acted.Goes → take_elements i fs gs (run_machine base p h') (k + 1) tail go
        ≡ take_elements i fs gs (run_machine base p h) k rest go
    elements_more e =
        sym (by_first ∙ ap (λ (a : Acted). followed a (run_machine base p h')
        (λ after. take_elements i fs gs after (k + 1) tail go)) e)

    pub elements_end : ¬ (result ≡ acted.Goes) → take_elements i fs gs (run_machine base p h) k rest go
        ≡ followed result (run_machine base p h') go
    elements_end over = by_first ∙ ended_as result over where
      ended_as : (a : Acted) → ¬ (a ≡ acted.Goes) →
          followed a (run_machine base p h') (λ after. take_elements i fs gs after (k + 1) tail go)
          ≡ followed a (run_machine base p h') go
      ended_as acted.Goes not = absurd (not refl)
      ended_as (acted.Traps t) not = refl
      ended_as acted.Sticks not = refl

module _ (i : ℕ) (gs : List RawVal) (p : ProgramParts) (h h' : HeldParts) (k : ℕ) (e : DataDecl)
    (rest tail : List DataDecl) (first : rest ≡ e ∷ tail) where
  pub data_stands : DatasStand h i k rest → HasSize (length e.bytes) (data_of h i k)
  data_stands s =
      let none : k + 0 ≡ k = omega arith in
      subst (λ (n : ℕ). HasSize (length e.bytes) (data_of h i n)) none
      (s 0 e (ap (λ (l : List DataDecl). slice_get l 0) first))

  pub datas_stand_behind : DatasStand h i k rest → SameDatasBehind i k h h' → DatasStand h' i (k + 1) tail
  datas_stand_behind s same j x found items at =
      s (suc j) x (ap (λ (l : List DataDecl). slice_get l (suc j)) first ∙ found) items
      (sym (same (k + suc j) (past k j)) ∙ ap (data_of h' i) (sym (next k j)) ∙ at)

  module _ (fs : List ℕ) (base : Machine) (result : Acted)
      (taken : (go : Machine → Taken) → take_data i fs gs (run_machine base p h) k e.mode go
      ≡ followed result (run_machine base p h') go) where
    by_first_data : take_datas i fs gs (run_machine base p h) k rest
        ≡ followed result (run_machine base p h') (λ after. take_datas i fs gs after (k + 1) tail)
    by_first_data =
        let more : suc k ≡ k + 1 = omega arith in
        ap (λ (l : List DataDecl). take_datas i fs gs (run_machine base p h) k l) first
        ∙ taken (λ after. take_datas i fs gs after (suc k) tail)
        ∙ ap (λ (n : ℕ). followed result (run_machine base p h') (λ after. take_datas i fs gs after n tail)) more

    pub datas_more : result ≡ acted.Goes → take_datas i fs gs (run_machine base p h') (k + 1) tail
        ≡ take_datas i fs gs (run_machine base p h) k rest
    datas_more e =
        sym (by_first_data ∙ ap (λ (a : Acted). followed a (run_machine base p h')
        (λ after. take_datas i fs gs after (k + 1) tail)) e)

    pub datas_end : ¬ (result ≡ acted.Goes) → take_datas i fs gs (run_machine base p h) k rest
        ≡ followed result (run_machine base p h') Done
    datas_end over = by_first_data ∙ ended_as result over where
      ended_as : (a : Acted) → ¬ (a ≡ acted.Goes) →
          followed a (run_machine base p h') (λ after. take_datas i fs gs after (k + 1) tail)
          ≡ followed a (run_machine base p h') Done
      ended_as acted.Goes not = absurd (not refl)
      ended_as (acted.Traps t) not = refl
      ended_as acted.Sticks not = refl
