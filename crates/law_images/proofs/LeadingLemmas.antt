-- The segments that lead, taken one after another, leave the images of the module and nothing else.
use Rattle.std.proofs.Common.{◌≡◌, ℕ, zero, suc, ◌+◌, List, [], ◌∷◌, ◌++◌, length, set, map, drop, replicate, Bool, true, false, Option, Some, None, refl, sym, ap, ◌∙◌, arith, append_assoc}
use Rattle.std.specs.Prelude.{slice_get, nat_eq, if◌then◌else◌}
use Rattle.std.specs.Option.{option_map_or}
use Rattle.std.proofs.lemmas.Bool.{eqb-true}
use Rattle.std.proofs.lemmas.List.{set_at, drop_all, length_push}
use Rattle.std.proofs.lemmas.Option.{same_Some, slice_get_within}
use Rattle.wasm_types.specs.MemoryTypes.{MemoryParts}
use Rattle.wasm_types.specs.Memories.{Memory, new_memory}
use Rattle.wasm_types.specs.declared.plain.Cell.{Cell}
use Rattle.wasm_syntax.specs.declared.constants.ConstExpr.{ConstExpr}
use Rattle.wasm_syntax.specs.declared.declarations.ModuleDecl.{ModuleDecl}
use Rattle.wasm_syntax.specs.declared.declarations.TableDecl.{TableDecl}
use Rattle.wasm_syntax.specs.declared.segments.DataDecl.{DataDecl}
use Rattle.wasm_syntax.specs.declared.segments.DataMode.{DataMode}
use Rattle.wasm_syntax.specs.declared.segments.DataMode.TheVariants as data_mode
use Rattle.wasm_syntax.specs.declared.segments.ElemDecl.{ElemDecl}
use Rattle.wasm_syntax.specs.declared.segments.ElemMode.{ElemMode}
use Rattle.wasm_syntax.specs.declared.segments.ElemMode.TheVariants as elem_mode
use Rattle.wasm_values.specs.Externals.{extern_table, extern_memory}
use Rattle.wasm_values.specs.Handles.{table_index, memory_index}
use Rattle.wasm_values.specs.declared.externals.Extern.{Extern}
use Rattle.wasm_module.specs.Images.{led_element, led_data, led_by, one_more, led_alone, none_written, leading_elements, table_images}
use Rattle.wasm_objects.specs.Lazy.{cell_reference, lazy_table, imaged_memory}
use Rattle.wasm_objects.specs.Tables.{Table, new_table}
use Rattle.wasm_objects.specs.declared.raw.RawRef.{RawRef}
use Rattle.wasm_objects.specs.declared.raw.RawVal.{RawVal}
use Rattle.spec_machine.specs.Machine.{Machine}
use Rattle.spec_execution.specs.Allocation.{reference_of, imported_numbers, imported_values, function_numbers, global_values, allocated}
use Rattle.spec_execution.specs.Segments.{Taken, taken_by, drop_taken_element, drop_taken_data, init_table, init_memory, take_element, take_elements, take_data, take_datas, make}
use Rattle.law_images.specs.Leading.{AreAligned, imaged_tables, imaged, left_items, left_bytes, left, references, left_references, whole_data, left_data, begun, make_led}
use Rattle.law_images.proofs.BegunLemmas.{element_dropped, data_dropped, elements_written, bytes_written}
use Rattle.law_images.proofs.LeadLemmas.{ElementLeads, DataLeads, element_leads, data_leads}
use Rattle.law_images.proofs.ListLemmas.{seam_there, behind_there, defined_there, imaged_there, imaged_set, imaged_none}
use Rattle.law_images.proofs.WrittenLemmas.{empty_table, table_written, table_room, empty_memory, memory_written, memory_room, cells_are, offset_is}

-- segments of which those in front were taken
module _ {Item : Type 0} (front : List (List Item)) (whole behind : List Item) (rest : List (List Item)) (k : ℕ)
    (stands : length front ≡ k) where
  segment_there : slice_get (front ++ whole ∷ rest) k ≡ Some whole
  segment_there = ap (slice_get (front ++ whole ∷ rest)) (sym stands) ∙ seam_there front whole rest

  segment_empty : set (front ++ whole ∷ rest) k [] ≡ front ++ [] ∷ rest
  segment_empty = set_at front whole rest [] k stands

  one_longer : length (front ++ behind ∷ []) ≡ suc k
  one_longer = omega (arith, length_push front behind, stands)

module _ (m : Machine) (d : ModuleDecl) (imports : List Extern) (aligned : AreAligned d imports) where
  abbrev instance : ℕ
  instance = length m.instances

  abbrev fs : List ℕ
  fs = function_numbers m d imports

  abbrev gs : List RawVal
  gs = global_values m d imports

  abbrev init_of : TableDecl → RawRef
  init_of t = reference_of fs (imported_values m imports) t.init

  abbrev tables : List (List Cell) → List Table
  tables images = imaged_tables fs (imported_values m imports) d.tables images

  abbrev memories : List (List ℕ) → List Memory
  memories images = imaged imaged_memory d.memories images

  abbrev store : List (List Cell) → List (List ℕ) → List (List RawRef) → List (List ℕ) → Machine
  store images bytes elements datas = begun m d imports (tables images) (memories bytes) elements datas

  -- ---- one element segment that leads

  module _ (images : List (List Cell)) (bytes : List (List ℕ)) (E E' : List (List RawRef)) (D : List (List ℕ)) (k : ℕ)
      (items : List ConstExpr) (there : slice_get E k ≡ Some (map (reference_of fs gs) items)) (empty : set E k [] ≡ E')
      (next : Machine → Taken) where
    active_element : (table : ℕ) (offset : ConstExpr) (after : List (List Cell)) →
        ElementLeads d images table offset items after →
        take_element instance fs gs (store images bytes E D) k (elem_mode.Active table offset) next
        ≡ next (store after bytes E' D)
    active_element table offset after l =
        let t : TableDecl = l.declared in
        let init : RawRef = init_of t in
        let image : List Cell = l.writes.image in
        let written : List RawRef = map (cell_reference init fs) l.cells in
        let same : map (reference_of fs gs) items ≡ written = cells_are fs gs init items l.cells l.cells_are in
        let stands : slice_get E k ≡ Some written = there ∙ ap Some same in
        let found : slice_get (tables images) l.number ≡ Some (lazy_table t.ty init image fs) =
        imaged_there (λ (x : TableDecl) y. lazy_table x.ty (init_of x) y fs) d.tables images l.number t image
        l.declared_is l.writes.there in
        let placed : set (tables images) l.number _ ≡ tables after =
        ap (set (tables images) l.number) (sym (table_written t.ty init fs l.at l.cells image l.writes.fits))
        ∙ sym (imaged_set (λ (x : TableDecl) y. lazy_table x.ty (init_of x) y fs) d.tables images l.number t image _
        l.declared_is l.writes.there)
        ∙ ap tables l.writes.leaves in
        let named = defined_there (imported_numbers extern_table table_index imports) (length m.tables) (length d.tables)
        table l.number (l.index_is ∙ ap (λ n. n + l.number) (sym aligned.tables))
        (slice_get_within d.tables l.number t l.declared_is) in
        ap (λ n. taken_by (init_table instance fs gs (store images bytes E D) k table n) (store images bytes E D)
        (λ x. next (drop_taken_element instance k x))) (offset_is fs gs offset l.at l.offset_is)
        ∙ ap (λ e. taken_by e (store images bytes E D) (λ x. next (drop_taken_element instance k x)))
        (elements_written m d imports (tables images) (memories bytes) E D k table l.number l.at
        (lazy_table t.ty init image fs) written (tables after) named
        (behind_there m.tables (tables images) l.number ∙ found) stands
        (table_room t.ty init fs l.at l.cells image l.writes.fits) placed fs gs)
        ∙ ap next (element_dropped m d imports (tables after) (memories bytes) E D k written E' stands empty)

  element_led : (images after : List (List Cell)) (bytes : List (List ℕ)) (D : List (List ℕ))
      (front rest : List (List RawRef)) (k : ℕ) → length front ≡ k → (mode : ElemMode) (items : List ConstExpr) →
      led_element d images mode items ≡ Some after → (next : Machine → Taken) →
      take_element instance fs gs (store images bytes (front ++ map (reference_of fs gs) items ∷ rest) D) k mode next
      ≡ next (store after bytes (front ++ left_items mode (map (reference_of fs gs) items) ∷ rest) D)
  element_led images after bytes D front rest k stands elem_mode.Passive items e next =
      ap (λ i. next (store i bytes (front ++ map (reference_of fs gs) items ∷ rest) D)) (same_Some images after e)
  element_led images after bytes D front rest k stands elem_mode.Declared items e next =
      let own : List RawRef = map (reference_of fs gs) items in
      ap next (element_dropped m d imports (tables images) (memories bytes) (front ++ own ∷ rest) D k own
      (front ++ [] ∷ rest) (segment_there front own [] rest k stands) (segment_empty front own [] rest k stands))
      ∙ ap (λ i. next (store i bytes (front ++ [] ∷ rest) D)) (same_Some images after e)
  element_led images after bytes D front rest k stands (elem_mode.Active table offset) items e next =
      let own : List RawRef = map (reference_of fs gs) items in
      active_element images bytes (front ++ own ∷ rest) (front ++ [] ∷ rest) D k items
      (segment_there front own [] rest k stands) (segment_empty front own [] rest k stands) next table offset after
      (element_leads d images table offset items after e)

  -- ---- one data segment that leads

  module _ (images : List (List Cell)) (bytes : List (List ℕ)) (E : List (List RawRef)) (D D' : List (List ℕ)) (k : ℕ)
      (piece : List ℕ) (there : slice_get D k ≡ Some piece) (empty : set D k [] ≡ D') (next : Machine → Taken) where
    active_data : (memory : ℕ) (offset : ConstExpr) (after : List (List ℕ)) → DataLeads d bytes memory offset piece after →
        take_data instance fs gs (store images bytes E D) k (data_mode.Active memory offset) next
        ≡ next (store images after E D')
    active_data memory offset after l =
        let ty : MemoryParts = l.declared in
        let image : List ℕ = l.writes.image in
        let found : slice_get (memories bytes) l.number ≡ Some (imaged_memory ty image) =
        imaged_there imaged_memory d.memories bytes l.number ty image l.declared_is l.writes.there in
        let placed : set (memories bytes) l.number _ ≡ memories after =
        ap (set (memories bytes) l.number) (sym (memory_written ty l.at piece image l.writes.fits))
        ∙ sym (imaged_set imaged_memory d.memories bytes l.number ty image _ l.declared_is l.writes.there)
        ∙ ap memories l.writes.leaves in
        let named = defined_there (imported_numbers extern_memory memory_index imports) (length m.memories)
        (length d.memories) memory l.number (l.index_is ∙ ap (λ n. n + l.number) (sym aligned.memories))
        (slice_get_within d.memories l.number ty l.declared_is) in
        ap (λ n. taken_by (init_memory instance fs gs (store images bytes E D) k memory n) (store images bytes E D)
        (λ x. next (drop_taken_data instance k x))) (offset_is fs gs offset l.at l.offset_is)
        ∙ ap (λ e. taken_by e (store images bytes E D) (λ x. next (drop_taken_data instance k x)))
        (bytes_written m d imports (tables images) (memories bytes) E D k memory l.number l.at (imaged_memory ty image)
        piece (memories after) named (behind_there m.memories (memories bytes) l.number ∙ found) there
        (memory_room ty l.at piece image l.writes.fits) placed fs gs)
        ∙ ap next (data_dropped m d imports (tables images) (memories after) E D k piece D' there empty)

  data_led : (images : List (List Cell)) (bytes after : List (List ℕ)) (E : List (List RawRef))
      (front rest : List (List ℕ)) (k : ℕ) → length front ≡ k → (mode : DataMode) (piece : List ℕ) →
      led_data d bytes mode piece ≡ Some after → (next : Machine → Taken) →
      take_data instance fs gs (store images bytes E (front ++ piece ∷ rest)) k mode next
      ≡ next (store images after E (front ++ left_bytes mode piece ∷ rest))
  data_led images bytes after E front rest k stands data_mode.Passive piece e next =
      ap (λ i. next (store images i E (front ++ piece ∷ rest))) (same_Some bytes after e)
  data_led images bytes after E front rest k stands (data_mode.Active memory offset) piece e next =
      active_data images bytes E (front ++ piece ∷ rest) (front ++ [] ∷ rest) k piece
      (segment_there front piece [] rest k stands) (segment_empty front piece [] rest k stands) next memory offset after
      (data_leads d bytes memory offset piece after e)

  -- ---- all that lead

  abbrev element_step : List (List Cell) → ElemDecl → Option (List (List Cell))
  element_step images e = led_element d images e.mode e.items

  abbrev data_step : List (List ℕ) → DataDecl → Option (List (List ℕ))
  data_step images e = led_data d images e.mode e.bytes

  no_more : (k : ℕ) → k ≡ k + zero
  no_more k = omega arith

  module _ (bytes : List (List ℕ)) (D : List (List ℕ)) (go : Machine → Taken) where
    -- behind what so many led to
    abbrev elements_behind : List (List RawRef) → ℕ → List ElemDecl → ℕ × List (List Cell) → Taken
    elements_behind front k declared led =
        take_elements instance fs gs
        (store led.1 bytes (front ++ left (left_references fs gs) (references fs gs) led.0 declared) D) (k + led.0)
        (drop led.0 declared) go

    abbrev elements_due : List (List RawRef) → List (List Cell) → ℕ → List ElemDecl → Taken
    elements_due front images k declared =
        take_elements instance fs gs (store images bytes (front ++ map (references fs gs) declared) D) k declared go

    -- one more leads, or none does
    elements_more : (e : ElemDecl) (more : List ElemDecl) (front : List (List RawRef)) (images : List (List Cell)) (k : ℕ) →
        length front ≡ k →
        ((after : List (List Cell)) →
        elements_due (front ++ left_references fs gs e ∷ []) after (suc k) more
        ≡ elements_behind (front ++ left_references fs gs e ∷ []) (suc k) more (led_by element_step after more)) →
        (o : Option (List (List Cell))) → element_step images e ≡ o →
        elements_due front images k (e ∷ more)
        ≡ elements_behind front k (e ∷ more)
        (option_map_or (λ after. one_more (led_by element_step after more)) o (zero, images))
    elements_more e more front images k stands others None stops =
        ap (λ n. take_elements instance fs gs
        (store images bytes (front ++ map (references fs gs) (e ∷ more)) D) n (e ∷ more) go) (no_more k)
    elements_more e more front images k stands others (Some after) goes =
        let rest : List (List RawRef) = map (references fs gs) more in
        let behind : ℕ × List (List Cell) = led_by element_step after more in
        let count : suc k + behind.0 ≡ k + suc behind.0 = omega arith in
        element_led images after bytes D front rest k stands e.mode e.items goes
        (λ x. take_elements instance fs gs x (suc k) more go)
        ∙ ap (λ es. take_elements instance fs gs (store after bytes es D) (suc k) more go)
        (sym (append_assoc front (left_references fs gs e ∷ []) rest))
        ∙ others after
        ∙ ap (λ es. take_elements instance fs gs (store behind.1 bytes es D) (suc k + behind.0) (drop behind.0 more) go)
        (append_assoc front (left_references fs gs e ∷ []) (left (left_references fs gs) (references fs gs) behind.0 more))
        ∙ ap (λ n. take_elements instance fs gs
        (store behind.1 bytes (front ++ left_references fs gs e ∷ left (left_references fs gs) (references fs gs) behind.0 more) D) n
        (drop behind.0 more) go) count

    elements_led : (declared : List ElemDecl) (front : List (List RawRef)) (images : List (List Cell)) (k : ℕ) →
        length front ≡ k →
        elements_due front images k declared ≡ elements_behind front k declared (led_by element_step images declared)
    elements_led [] front images k stands =
        ap (λ n. take_elements instance fs gs (store images bytes (front ++ []) D) n [] go) (no_more k)
    elements_led (e ∷ more) front images k stands =
        elements_more e more front images k stands
        (λ after. elements_led more (front ++ left_references fs gs e ∷ []) after (suc k)
        (one_longer front (references fs gs e) (left_references fs gs e) (map (references fs gs) more) k stands))
        (element_step images e) refl

  module _ (images : List (List Cell)) (E : List (List RawRef)) where
    abbrev datas_behind : List (List ℕ) → ℕ → List DataDecl → ℕ × List (List ℕ) → Taken
    datas_behind front k declared led =
        take_datas instance fs gs (store images led.1 E (front ++ left left_data whole_data led.0 declared)) (k + led.0)
        (drop led.0 declared)

    abbrev datas_due : List (List ℕ) → List (List ℕ) → ℕ → List DataDecl → Taken
    datas_due front bytes k declared =
        take_datas instance fs gs (store images bytes E (front ++ map whole_data declared)) k declared

    datas_more : (e : DataDecl) (more : List DataDecl) (front : List (List ℕ)) (bytes : List (List ℕ)) (k : ℕ) →
        length front ≡ k →
        ((after : List (List ℕ)) →
        datas_due (front ++ left_data e ∷ []) after (suc k) more
        ≡ datas_behind (front ++ left_data e ∷ []) (suc k) more (led_by data_step after more)) →
        (o : Option (List (List ℕ))) → data_step bytes e ≡ o →
        datas_due front bytes k (e ∷ more)
        ≡ datas_behind front k (e ∷ more)
        (option_map_or (λ after. one_more (led_by data_step after more)) o (zero, bytes))
    datas_more e more front bytes k stands others None stops =
        ap (λ n. take_datas instance fs gs (store images bytes E (front ++ map whole_data (e ∷ more))) n (e ∷ more))
        (no_more k)
    datas_more e more front bytes k stands others (Some after) goes =
        let rest : List (List ℕ) = map whole_data more in
        let behind : ℕ × List (List ℕ) = led_by data_step after more in
        let count : suc k + behind.0 ≡ k + suc behind.0 = omega arith in
        data_led images bytes after E front rest k stands e.mode e.bytes goes
        (λ x. take_datas instance fs gs x (suc k) more)
        ∙ ap (λ ds. take_datas instance fs gs (store images after E ds) (suc k) more)
        (sym (append_assoc front (left_data e ∷ []) rest))
        ∙ others after
        ∙ ap (λ ds. take_datas instance fs gs (store images behind.1 E ds) (suc k + behind.0) (drop behind.0 more))
        (append_assoc front (left_data e ∷ []) (left left_data whole_data behind.0 more))
        ∙ ap (λ n. take_datas instance fs gs
        (store images behind.1 E (front ++ left_data e ∷ left left_data whole_data behind.0 more)) n
        (drop behind.0 more)) count

    datas_led : (declared : List DataDecl) (front : List (List ℕ)) (bytes : List (List ℕ)) (k : ℕ) →
        length front ≡ k →
        datas_due front bytes k declared ≡ datas_behind front k declared (led_by data_step bytes declared)
    datas_led [] front bytes k stands =
        ap (λ n. take_datas instance fs gs (store images bytes E (front ++ [])) n []) (no_more k)
    datas_led (e ∷ more) front bytes k stands =
        datas_more e more front bytes k stands
        (λ after. datas_led more (front ++ left_data e ∷ []) after (suc k)
        (one_longer front e.bytes (left_data e) (map whole_data more) k stands))
        (data_step bytes e) refl

  -- ---- the whole

  abbrev no_cells : List (List Cell)
  no_cells = replicate (length d.tables) []

  abbrev elements_left : List (List RawRef)
  elements_left = left (left_references fs gs) (references fs gs) (leading_elements d) d.elements

  abbrev last : List ElemDecl
  last = drop (leading_elements d) d.elements

  is_allocated :
      allocated m d imports
      ≡ store no_cells (none_written d) (map (references fs gs) d.elements) (map whole_data d.datas)
  is_allocated =
      sym (λ j. begun m d imports
      (imaged_none (λ (t : TableDecl) image. lazy_table t.ty (init_of t) image fs)
      (λ (t : TableDecl). new_table t.ty (init_of t)) (λ t. empty_table t.ty (init_of t) fs) d.tables j)
      (imaged_none imaged_memory new_memory empty_memory d.memories j) (map (references fs gs) d.elements)
      (map whole_data d.datas))

  abbrev all_datas : Machine → Taken
  all_datas after = take_datas instance fs gs after 0 d.datas

  -- the element segments that lead are taken
  elements_taken :
      make m d imports
      ≡ take_elements instance fs gs (store (table_images d) (none_written d) elements_left (map whole_data d.datas))
      (leading_elements d) last all_datas
  elements_taken =
      let none : 0 + leading_elements d ≡ leading_elements d = omega arith in
      ap (λ s. take_elements instance fs gs s 0 d.elements all_datas) is_allocated
      ∙ elements_led (none_written d) (map whole_data d.datas) all_datas d.elements [] no_cells 0 refl
      ∙ ap (λ n. take_elements instance fs gs
      (store (table_images d) (none_written d) elements_left (map whole_data d.datas)) n last all_datas) none

  -- and where they are all, the data segments that lead
  abbrev datas_taken : ℕ × List (List ℕ) → Taken
  datas_taken led =
      take_elements instance fs gs
      (store (table_images d) led.1 elements_left (left left_data whole_data led.0 d.datas)) (leading_elements d) last
      (λ after. take_datas instance fs gs after led.0 (drop led.0 d.datas))

  both_taken : (all : Bool) → nat_eq (leading_elements d) (length d.elements) ≡ all →
      take_elements instance fs gs (store (table_images d) (none_written d) elements_left (map whole_data d.datas))
      (leading_elements d) last all_datas
      ≡ datas_taken (if all then led_alone d else (0, none_written d))
  both_taken false e = refl
  both_taken true e =
      let count : leading_elements d ≡ length d.elements = eqb-true (leading_elements d) (length d.elements) e in
      let none : last ≡ [] = drop_all (leading_elements d) d.elements (omega (arith, count)) in
      let alone : ℕ × List (List ℕ) = led_alone d in
      let first : 0 + alone.0 ≡ alone.0 = omega arith in
      let left_by : Machine = store (table_images d) alone.1 elements_left (left left_data whole_data alone.0 d.datas) in
      ap (λ es. take_elements instance fs gs
      (store (table_images d) (none_written d) elements_left (map whole_data d.datas)) (leading_elements d) es all_datas) none
      ∙ datas_led (table_images d) elements_left d.datas [] (none_written d) 0 refl
      ∙ ap (λ n. take_datas instance fs gs left_by n (drop alone.0 d.datas)) first
      ∙ ap (λ es. take_elements instance fs gs left_by (leading_elements d) es
      (λ after. take_datas instance fs gs after alone.0 (drop alone.0 d.datas))) (sym none)

  pub made_by_images : make m d imports ≡ make_led m d imports
  made_by_images = elements_taken ∙ both_taken (nat_eq (leading_elements d) (length d.elements)) refl
