-- The store with the new objects of an instance is the one in which the segments that lead are taken.
use Rattle.std.proofs.Common.{◌≡◌, ℕ, zero, suc, ◌+◌, List, [], ◌∷◌, ◌++◌, length, map, drop, refl, sym, ap, ◌∙◌, arith}
use Rattle.std.proofs.lemmas.List.{length-map}
use Rattle.std.proofs.lemmas.Option.{slice_get-map, same_Some, none-some}
use Rattle.std.specs.Prelude.{Result, Ok, Err, OnOk, slice_get, option_map, Some}
use Rattle.wasm_syntax.specs.declared.declarations.ModuleDecl.{ModuleDecl}
use Rattle.wasm_syntax.specs.declared.segments.DataDecl.{DataDecl}
use Rattle.wasm_syntax.specs.declared.segments.ElemDecl.{ElemDecl}
use Rattle.wasm_values.specs.declared.externals.Extern.{Extern}
use Rattle.wasm_objects.specs.Objects.{memories_of, tables_of}
use Rattle.wasm_objects.specs.declared.raw.RawVal.{RawVal}
use Rattle.spec_machine.specs.Machine.{Machine, InstanceParts}
use Rattle.wasm_module.specs.Images.{leading_elements, leading_datas}
use Rattle.law_images.specs.Leading.{left, references, left_references, whole_data, left_data, left_elements, kept_elements, kept_datas, begun_instance, led}
use Rattle.spec_execution.specs.Allocation.{reference_of, function_numbers, global_numbers, global_values}
use Rattle.store_state.specs.Machine.{instance_of, instances_of, run_machine, segments_at}
use Rattle.store_state.specs.Parts.{Names, SegmentParts, segment_parts, ProgramParts, program_parts, HeldParts}
use Rattle.store_state.specs.declared.additions.NewObjects.{NewObjects}
use Rattle.instance_parts.specs.Objects.{names_with, AreNew, AreShaped}
use Rattle.instance_parts.specs.Taking.{HasSize, ElementsStand, DatasStand}

-- ---- instances, each with its segments

pub instance_count : (ns : List Names) (ss : List SegmentParts) → length (instances_of ns ss) ≡ length ns
instance_count [] ss = refl
instance_count (n ∷ ns) [] = ap suc (instance_count ns [])
instance_count (n ∷ ns) (s ∷ ss) = ap suc (instance_count ns ss)

-- one more, behind those that were there
instance_behind : (ns : List Names) (ss : List SegmentParts) (n : Names) (s : SegmentParts) → length ss ≡ length ns →
    instances_of (ns ++ n ∷ []) (ss ++ s ∷ []) ≡ instances_of ns ss ++ instance_of n s ∷ []
instance_behind [] [] n s e = refl
instance_behind [] (t ∷ ss) n s e = absurd (omega (arith, e))
instance_behind (m ∷ ns) [] n s e = absurd (omega (arith, e))
instance_behind (m ∷ ns) (t ∷ ss) n s e =
    ap (λ (l : List InstanceParts). instance_of m t ∷ l) (instance_behind ns ss n s (omega (arith, e)))

-- what an instance names, with its segments
pub named_instance : (m : Machine) (d : ModuleDecl) (imports : List Extern) (fs gs : List ℕ) (values : List RawVal)
    (n : Names) (s : SegmentParts) → n ≡ names_with m d imports fs gs → fs ≡ function_numbers m d imports →
    gs ≡ global_numbers m d imports → values ≡ global_values m d imports →
    s ≡ segment_parts (left_elements fs values (leading_elements d) d.elements) (kept_datas d) →
    instance_of n s ≡ begun_instance m d imports (kept_elements m d imports) (kept_datas d)
named_instance m d imports fs gs values n s named f g v kept =
    let e : List ℕ → List RawVal → SegmentParts =
    λ xs ws. segment_parts (left_elements xs ws (leading_elements d) d.elements) (kept_datas d) in
    ap (λ (x : Names). instance_of x s) named
    ∙ ap (instance_of (names_with m d imports fs gs)) kept
    ∙ ap (λ (xs : List ℕ). instance_of (names_with m d imports xs gs) (e xs values)) f
    ∙ ap (λ (xs : List ℕ). instance_of (names_with m d imports (function_numbers m d imports) xs)
    (e (function_numbers m d imports) values)) g
    ∙ ap (λ (ws : List RawVal). instance_of
    (names_with m d imports (function_numbers m d imports) (global_numbers m d imports))
    (e (function_numbers m d imports) ws)) v

module _ (base : Machine) (p : ProgramParts) (h : HeldParts) (d : ModuleDecl) (imports : List Extern) (o : NewObjects)
    (new : AreNew (run_machine base p h) d imports o) where
  abbrev m : Machine
  m = run_machine base p h

  -- the store has them, where it holds segments for just so many instances as there were
  module _ (segments : List SegmentParts)
      (same : instances_of p.instances segments ≡ instances_of p.instances h.segments)
      (fitted : length segments ≡ length p.instances) where
    instances_are :
        instances_of (p.instances ++ o.instance ∷ []) (segments ++ o.segments ∷ [])
        ≡ instances_of p.instances h.segments ++ begun_instance m d imports (kept_elements m d imports) (kept_datas d) ∷ []
    instances_are =
        instance_behind p.instances segments o.instance o.segments fitted
        ∙ ap (λ (is : List InstanceParts). is ++ instance_of o.instance o.segments ∷ []) same
        ∙ ap (λ (i : InstanceParts). instances_of p.instances h.segments ++ i ∷ []) new.instance

    added :
        run_machine base (program_parts (p.functions ++ o.functions.items) (p.instances ++ o.instance ∷ []))
        (record h {
          memories = h.memories ++ memories_of o.memories.items;
          tables = h.tables ++ tables_of o.tables.items;
          globals = h.globals ++ o.globals.items;
          tags = h.tags ++ o.tags.items;
          segments = segments ++ o.segments ∷ [];
        })
        ≡ led m d imports
    added = λ j. record m {
      memories = h.memories ++ new.memories j;
      tables = h.tables ++ new.tables j;
      globals = h.globals ++ new.globals j;
      tags = h.tags ++ new.tags j;
      functions = p.functions ++ new.functions j;
      instances = instances_are j;
    }

-- the store that code leaves: segments were held for just so many instances first, and then all was added
pub all_added : (base : Machine) (p after : ProgramParts) (h mid last : HeldParts) (d : ModuleDecl)
    (imports : List Extern) (o : NewObjects) →
    AreNew (run_machine base p h) d imports o →
    instances_of p.instances mid.segments ≡ instances_of p.instances h.segments →
    length mid.segments ≡ length p.instances → mid ≡ record h { segments = mid.segments } →
    after ≡ program_parts (p.functions ++ o.functions.items) (p.instances ++ o.instance ∷ []) →
    last ≡ record mid {
      memories = mid.memories ++ memories_of o.memories.items;
      tables = mid.tables ++ tables_of o.tables.items;
      globals = mid.globals ++ o.globals.items;
      tags = mid.tags ++ o.tags.items;
      segments = mid.segments ++ o.segments ∷ [];
    } →
    run_machine base after last ≡ led (run_machine base p h) d imports
all_added base p after h mid last d imports o new same fitted rest program held =
    ap (λ (q : ProgramParts). run_machine base q last) program
    ∙ ap (run_machine base (program_parts (p.functions ++ o.functions.items) (p.instances ++ o.instance ∷ []))) (held
    ∙ ap (λ (k : HeldParts). record k {
      memories = k.memories ++ memories_of o.memories.items;
      tables = k.tables ++ tables_of o.tables.items;
      globals = k.globals ++ o.globals.items;
      tags = k.tags ++ o.tags.items;
      segments = mid.segments ++ o.segments ∷ [];
    }) rest)
    ∙ added base p h d imports o new mid.segments same fitted

-- and its segments are those of the new instance
at_end : (ss : List SegmentParts) (s : SegmentParts) (n : ℕ) → length ss ≡ n → segments_at (ss ++ s ∷ []) n ≡ s
at_end [] s zero e = refl
at_end [] s (suc n) e = absurd (omega (arith, e))
at_end (t ∷ ss) s zero e = absurd (omega (arith, e))
at_end (t ∷ ss) s (suc n) e = at_end ss s n (omega (arith, e))

pub own_segments : (mid last : HeldParts) (s : SegmentParts) (n : ℕ) → length mid.segments ≡ n →
    last.segments ≡ mid.segments ++ s ∷ [] → segments_at last.segments n ≡ s
own_segments mid last s n fitted e =
    ap (λ (ss : List SegmentParts). segments_at ss n) e ∙ at_end mid.segments s n fitted

-- ---- those that do not lead hold so many items as are declared

module _ {Declared Item : Type 0} (kept whole : Declared → List Item) where
  behind_leading : (n : ℕ) (xs : List Declared) (j : ℕ) (x : Declared) → slice_get (drop n xs) j ≡ Some x →
      slice_get (left kept whole n xs) (n + j) ≡ Some (whole x)
  behind_leading zero xs j x e =
      let first : zero + j ≡ j = omega arith in
      ap (slice_get (map whole xs)) first ∙ slice_get-map whole xs j ∙ ap (option_map whole) e
  behind_leading (suc n) [] j x e = absurd (none-some x e)
  behind_leading (suc n) (y ∷ xs) j x e =
      let next : suc n + j ≡ suc (n + j) = omega arith in
      ap (slice_get (left kept whole (suc n) (y ∷ xs))) next ∙ behind_leading n xs j x e

  sized_behind : (size : Declared → ℕ) → ((x : Declared) → length (whole x) ≡ size x) → (n : ℕ) (xs : List Declared)
      (j : ℕ) (x : Declared) → slice_get (drop n xs) j ≡ Some x →
      HasSize (size x) (slice_get (left kept whole n xs) (n + j))
  sized_behind size is n xs j x found items e =
      let same : whole x ≡ items = same_Some (whole x) items (sym (behind_leading n xs j x found) ∙ e) in
      ap length (sym same) ∙ is x

module _ (h : HeldParts) (i : ℕ) (d : ModuleDecl) (o : NewObjects) (shaped : AreShaped d o)
    (own : segments_at h.segments i ≡ o.segments) where
  abbrev fs : List ℕ
  fs = shaped.functions

  abbrev vs : List RawVal
  vs = shaped.values

  segments_are : segments_at h.segments i
      ≡ segment_parts (left_elements fs vs (leading_elements d) d.elements) (kept_datas d)
  segments_are = own ∙ shaped.segments

  pub elements_stand : ElementsStand h i (leading_elements d) (drop (leading_elements d) d.elements)
  elements_stand j e found items at =
      sized_behind (left_references fs vs) (references fs vs) (λ (x : ElemDecl). length x.items)
      (λ x. length-map x.items (reference_of fs vs)) (leading_elements d) d.elements j e found items
      (sym (ap (λ (s : SegmentParts). slice_get s.elements (leading_elements d + j)) segments_are) ∙ at)

  pub datas_stand : DatasStand h i (leading_datas d) (drop (leading_datas d) d.datas)
  datas_stand j e found items at =
      sized_behind left_data whole_data (λ (x : DataDecl). length x.bytes) (λ x. refl) (leading_datas d) d.datas j e found
      items (sym (ap (λ (s : SegmentParts). slice_get s.datas (leading_datas d + j)) segments_are) ∙ at)

-- what follows where a call went well
pub on_both : {A E : Type 0} (r : Result A E) (P Q R : Type 0) → (P → Q → R) → OnOk r P → OnOk r Q → OnOk r R
on_both (Ok a) P Q R f x y = f x y
on_both (Err e) P Q R f x y = tt

pub on_ok : {A E : Type 0} (r : Result A E) (P R : Type 0) → (P → R) → OnOk r P → OnOk r R
on_ok (Ok a) P R f x = f x
on_ok (Err e) P R f x = tt
