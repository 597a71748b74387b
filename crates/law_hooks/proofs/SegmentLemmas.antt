-- The segments of a new instance change not whether a hook is asked, and nor do the counts.
use Rattle.std.proofs.Common.{◌≡◌, ℕ, suc, Bool, true, false, List, [], ◌∷◌, Option, Some, None, refl, ◌∙◌}
use Rattle.std.specs.Prelude.{length, slice_get, if◌then◌else◌}
use Rattle.wasm_types.specs.declared.plain.Resource.{Resource}
use Rattle.wasm_syntax.specs.declared.declarations.ModuleDecl.{ModuleDecl}
use Rattle.wasm_syntax.specs.declared.segments.DataDecl.{DataDecl}
use Rattle.wasm_syntax.specs.declared.segments.DataMode.{DataMode}
use Rattle.wasm_syntax.specs.declared.segments.DataMode.TheVariants as data_mode
use Rattle.wasm_syntax.specs.declared.segments.ElemDecl.{ElemDecl}
use Rattle.wasm_syntax.specs.declared.segments.ElemMode.{ElemMode}
use Rattle.wasm_syntax.specs.declared.segments.ElemMode.TheVariants as elem_mode
use Rattle.wasm_values.specs.declared.externals.Extern.{Extern}
use Rattle.wasm_objects.specs.declared.raw.RawVal.{RawVal}
use Rattle.spec_machine.specs.Machine.{Machine}
use Rattle.spec_execution.specs.Allocation.{global_values, function_numbers, offset_of, allocated}
use Rattle.spec_execution.specs.Instantiation.{Counted, Within, Past, counted}
use Rattle.spec_execution.specs.Operands as on
use Rattle.spec_execution.specs.Segments.{Taken, Done, OutOfRange, StuckSegment, taken_by, drop_taken_element, drop_taken_data, init_table, init_memory, take_element, take_elements, take_data, take_datas, make}
use Rattle.spec_execution.specs.Straight.{Effect, Goes, Traps, Sticks}
use Rattle.law_hooks.specs.Askers.{Flags, flags_of}
use Rattle.law_hooks.proofs.StraightLemmas.{LeavesHook, goes, found_leaves, bounded_leaves}

-- ---- the segments

abbrev pub TakenHooked : Flags → Taken → Type 0
TakenHooked flags (Done m) = flags_of m ≡ flags
TakenHooked flags (OutOfRange t m) = flags_of m ≡ flags
TakenHooked flags (StuckSegment m) = flags_of m ≡ flags

pub record TakesHook (flags : Flags) (t : Taken) : Type 0 where
  pub by : TakenHooked flags t

-- a segment that is dropped, where it is there
found_hooked :
    {A : Type 0} (m : Machine) (o : Option A) (go : A → Machine) → ((a : A) → flags_of (go a) ≡ flags_of m)
    → flags_of (on.found m o go) ≡ flags_of m
found_hooked m None go j = refl
found_hooked m (Some a) go j = j a

drop_taken_element_hooked : (n k : ℕ) (m : Machine) → flags_of (drop_taken_element n k m) ≡ flags_of m
drop_taken_element_hooked n k m =
    found_hooked m (slice_get m.instances n) _ (λ i. found_hooked m (slice_get i.elements k) _ (λ items. refl))

drop_taken_data_hooked : (n k : ℕ) (m : Machine) → flags_of (drop_taken_data n k m) ≡ flags_of m
drop_taken_data_hooked n k m =
    found_hooked m (slice_get m.instances n) _ (λ i. found_hooked m (slice_get i.datas k) _ (λ bytes. refl))

module _ (flags : Flags) where
  abbrev Onward : (Machine → Taken) → Type 0
  Onward go = (m : Machine) → flags_of m ≡ flags → TakesHook flags (go m)

  taken_by_hooked :
      (e : Effect) (before : Machine) (go : Machine → Taken) → LeavesHook flags e → flags_of before ≡ flags → Onward go
      → TakesHook flags (taken_by e before go)
  taken_by_hooked (Goes m locals operands) before go h p j = j m h.by
  taken_by_hooked (Traps t) before go h p j = record { by = p }
  taken_by_hooked Sticks before go h p j = record { by = p }

  module _ (n : ℕ) (fs : List ℕ) (gs : List RawVal) where
    init_table_leaves :
        (m : Machine) (k table at : ℕ) → flags_of m ≡ flags → LeavesHook flags (init_table n fs gs m k table at)
    init_table_leaves m k table at e = search (found_leaves flags, bounded_leaves flags, goes flags, e) depth 20

    init_memory_leaves :
        (m : Machine) (k memory at : ℕ) → flags_of m ≡ flags → LeavesHook flags (init_memory n fs gs m k memory at)
    init_memory_leaves m k memory at e = search (found_leaves flags, bounded_leaves flags, goes flags, e) depth 20

    take_element_hooked :
        (m : Machine) (k : ℕ) (mode : ElemMode) (go : Machine → Taken) → flags_of m ≡ flags → Onward go
        → TakesHook flags (take_element n fs gs m k mode go)
    take_element_hooked m k elem_mode.Passive go e j = j m e
    take_element_hooked m k elem_mode.Declared go e j =
        j (drop_taken_element n k m) (drop_taken_element_hooked n k m ∙ e)
    take_element_hooked m k (elem_mode.Active table offset) go e j =
        taken_by_hooked (init_table n fs gs m k table (offset_of fs gs offset)) m _
        (init_table_leaves m k table (offset_of fs gs offset) e) e
        (λ after p. j (drop_taken_element n k after) (drop_taken_element_hooked n k after ∙ p))

    take_elements_hooked :
        (es : List ElemDecl) (m : Machine) (k : ℕ) (go : Machine → Taken) → flags_of m ≡ flags → Onward go
        → TakesHook flags (take_elements n fs gs m k es go)
    take_elements_hooked [] m k go e j = j m e
    take_elements_hooked (x ∷ more) m k go e j =
        take_element_hooked m k x.mode _ e (λ after p. take_elements_hooked more after (suc k) go p j)

    take_data_hooked :
        (m : Machine) (k : ℕ) (mode : DataMode) (go : Machine → Taken) → flags_of m ≡ flags → Onward go
        → TakesHook flags (take_data n fs gs m k mode go)
    take_data_hooked m k data_mode.Passive go e j = j m e
    take_data_hooked m k (data_mode.Active memory offset) go e j =
        taken_by_hooked (init_memory n fs gs m k memory (offset_of fs gs offset)) m _
        (init_memory_leaves m k memory (offset_of fs gs offset) e) e
        (λ after p. j (drop_taken_data n k after) (drop_taken_data_hooked n k after ∙ p))

    take_datas_hooked :
        (es : List DataDecl) (m : Machine) (k : ℕ) → flags_of m ≡ flags
        → TakesHook flags (take_datas n fs gs m k es)
    take_datas_hooked [] m k e = record { by = e }
    take_datas_hooked (x ∷ more) m k e =
        take_data_hooked m k x.mode _ e (λ after p. take_datas_hooked more after (suc k) p)

  pub make_hooked :
      (m : Machine) (d : ModuleDecl) (imports : List Extern) → flags_of m ≡ flags
      → TakesHook flags (make m d imports)
  make_hooked m d imports e =
      take_elements_hooked (length m.instances) (function_numbers m d imports) (global_values m d imports) d.elements
      (allocated m d imports) 0 _ e
      (λ after p.
      take_datas_hooked (length m.instances) (function_numbers m d imports) (global_values m d imports) d.datas after 0
      p)

-- ---- the counts

abbrev pub CountedHooked : Flags → Counted → Type 0
CountedHooked flags (Within m) = flags_of m ≡ flags
CountedHooked flags (Past which m) = flags_of m ≡ flags

pub record CountsHook (flags : Flags) (c : Counted) : Type 0 where
  pub by : CountedHooked flags c

module _ (flags : Flags) where
  within_counts : (m : Machine) → flags_of m ≡ flags → CountsHook flags (Within m)
  within_counts m e = record { by = e }

  past_counts : (which : Resource) (m : Machine) → flags_of m ≡ flags → CountsHook flags (Past which m)
  past_counts which m e = record { by = e }

  either_counts :
      (b : Bool) (x y : Counted) → CountsHook flags x → CountsHook flags y
      → CountsHook flags (if b then x else y)
  either_counts true x y h j = h
  either_counts false x y h j = j

  pub counted_hooked : (m : Machine) (d : ModuleDecl) → flags_of m ≡ flags → CountsHook flags (counted m d)
  counted_hooked m d e = search (either_counts, within_counts, past_counts, e)
