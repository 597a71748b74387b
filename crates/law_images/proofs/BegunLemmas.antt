-- The store of a new instance, and one segment that is taken in it.
use Rattle.std.proofs.Common.{◌≡◌, ℕ, ◌+◌, List, [], ◌∷◌, ◌++◌, length, set, Bool, true, Some, refl, ap, ◌∙◌, arith}
use Rattle.std.specs.Prelude.{slice_get, ◌&&◌}
use Rattle.std.proofs.lemmas.Bool.{le-leb}
use Rattle.std.proofs.lemmas.List.{set_at, take_all}
use Rattle.wasm_types.specs.Memories.{Memory, memory}
use Rattle.wasm_types.specs.Ranges.{is_range, range_of, with_range}
use Rattle.wasm_syntax.specs.declared.declarations.ModuleDecl.{ModuleDecl}
use Rattle.wasm_values.specs.declared.externals.Extern.{Extern}
use Rattle.wasm_values.specs.declared.refusals.Trap.TheVariants as trap
use Rattle.wasm_objects.specs.Tables.{Table, table}
use Rattle.wasm_objects.specs.declared.raw.RawRef.{RawRef}
use Rattle.wasm_objects.specs.declared.raw.RawVal.{RawVal}
use Rattle.spec_machine.specs.Changes.{set_memory, set_table, drop_element, drop_data}
use Rattle.spec_machine.specs.Machine.{Machine, InstanceParts}
use Rattle.spec_execution.specs.Allocation.{table_numbers, memory_numbers}
use Rattle.spec_execution.specs.Operands as on
use Rattle.spec_execution.specs.Segments.{drop_taken_element, drop_taken_data, init_table, init_memory}
use Rattle.spec_execution.specs.Straight.{Effect, Goes, Sticks, bounded, copied_bytes, copied_elements, with_bytes, with_elements}
use Rattle.law_images.specs.Leading.{begun_instance, begun}
use Rattle.law_images.proofs.ListLemmas.{seam_there, behind_set}

-- a whole piece of which there is room for
module _ {A : Type 0} (piece : List A) where
  whole_piece : range_of 0 (length piece) piece ≡ piece
  whole_piece = take_all (length piece) piece (omega arith)

  whole_is_there : (b : Bool) → b ≡ true → (b && is_range 0 (length piece) piece) ≡ true
  whole_is_there b e =
      ap (λ t. t && is_range 0 (length piece) piece) e ∙ le-leb (0 + length piece) (length piece) (omega arith)

copies_elements :
    (go : Machine → Effect) (m : Machine) (n : ℕ) (x : Table) (at : ℕ) (piece : List RawRef) →
    is_range at (length piece) x.elements ≡ true →
    copied_elements go m n x at piece 0 (length piece)
    ≡ go (set_table m n (table x.ty (with_range at piece x.elements)))
copies_elements go m n x at piece room =
    ap (λ b. bounded trap.TableOutOfBounds b
    (go (with_elements m n x (with_range at (range_of 0 (length piece) piece) x.elements))))
    (whole_is_there piece (is_range at (length piece) x.elements) room)
    ∙ ap (λ l. go (set_table m n (table x.ty (with_range at l x.elements)))) (whole_piece piece)

copies_bytes :
    (go : Machine → Effect) (m : Machine) (n : ℕ) (x : Memory) (at : ℕ) (piece : List ℕ) →
    is_range at (length piece) x.bytes ≡ true →
    copied_bytes go m n x at piece 0 (length piece)
    ≡ go (set_memory m n (memory x.ty (with_range at piece x.bytes)))
copies_bytes go m n x at piece room =
    ap (λ b. bounded trap.MemoryOutOfBounds b
    (go (with_bytes m n x (with_range at (range_of 0 (length piece) piece) x.bytes))))
    (whole_is_there piece (is_range at (length piece) x.bytes) room)
    ∙ ap (λ l. go (set_memory m n (memory x.ty (with_range at l x.bytes)))) (whole_piece piece)

module _ (m : Machine) (d : ModuleDecl) (imports : List Extern) where
  abbrev instance : ℕ
  instance = length m.instances

  abbrev parts : List (List RawRef) → List (List ℕ) → InstanceParts
  parts elements datas = begun_instance m d imports elements datas

  module _ (T : List Table) (M : List Memory) (E : List (List RawRef)) (D : List (List ℕ)) where
    abbrev store : Machine
    store = begun m d imports T M E D

    -- ---- what the instance has

    module _ {O : Type 0} (sticks : O) (k : ℕ) where
      own : (go : InstanceParts → O) → on.on_instance sticks store instance go ≡ go (parts E D)
      own go = ap (λ o. on.found sticks o go) (seam_there m.instances (parts E D) [])

      own_elements : (items : List RawRef) (go : InstanceParts → List RawRef → O) → slice_get E k ≡ Some items →
          on.on_elements sticks store instance k go ≡ go (parts E D) items
      own_elements items go e =
          own (λ i. on.found sticks (slice_get i.elements k) (go i))
          ∙ ap (λ o. on.found sticks o (go (parts E D))) e

      own_data : (bytes : List ℕ) (go : InstanceParts → List ℕ → O) → slice_get D k ≡ Some bytes →
          on.on_data sticks store instance k go ≡ go (parts E D) bytes
      own_data bytes go e =
          own (λ i. on.found sticks (slice_get i.datas k) (go i)) ∙ ap (λ o. on.found sticks o (go (parts E D))) e

      own_table : (n : ℕ) (x : Table) (go : ℕ → Table → O) → slice_get (table_numbers m d imports) k ≡ Some n →
          slice_get (m.tables ++ T) n ≡ Some x → on.on_table sticks store instance k go ≡ go n x
      own_table n x go e f =
          own (λ i. on.found sticks (slice_get i.tables k) (λ j. on.found sticks (slice_get store.tables j) (go j)))
          ∙ ap (λ o. on.found sticks o (λ j. on.found sticks (slice_get store.tables j) (go j))) e
          ∙ ap (λ o. on.found sticks o (go n)) f

      own_memory : (n : ℕ) (x : Memory) (go : ℕ → Memory → O) → slice_get (memory_numbers m d imports) k ≡ Some n →
          slice_get (m.memories ++ M) n ≡ Some x → on.on_memory sticks store instance k go ≡ go n x
      own_memory n x go e f =
          own (λ i. on.found sticks (slice_get i.memories k) (λ j. on.found sticks (slice_get store.memories j) (go j)))
          ∙ ap (λ o. on.found sticks o (λ j. on.found sticks (slice_get store.memories j) (go j))) e
          ∙ ap (λ o. on.found sticks o (go n)) f

    -- ---- what is changed

    other_instance : (E' : List (List RawRef)) (D' : List (List ℕ)) →
        set store.instances instance (parts E' D') ≡ m.instances ++ parts E' D' ∷ []
    other_instance E' D' = set_at m.instances (parts E D) [] (parts E' D') instance refl

    pub element_dropped : (k : ℕ) (items : List RawRef) (E' : List (List RawRef)) → slice_get E k ≡ Some items →
        set E k [] ≡ E' → drop_taken_element instance k store ≡ begun m d imports T M E' D
    element_dropped k items E' e f =
        own_elements store k items (λ i xs. drop_element store instance i k) e
        ∙ (λ j. record store { instances = other_instance (set E k []) D j })
        ∙ ap (λ es. begun m d imports T M es D) f

    pub data_dropped : (k : ℕ) (bytes : List ℕ) (D' : List (List ℕ)) → slice_get D k ≡ Some bytes →
        set D k [] ≡ D' → drop_taken_data instance k store ≡ begun m d imports T M E D'
    data_dropped k bytes D' e f =
        own_data store k bytes (λ i xs. drop_data store instance i k) e
        ∙ (λ j. record store { instances = other_instance E (set D k []) j })
        ∙ ap (λ ds. begun m d imports T M E ds) f

    -- an active segment is written where there is room
    module _ (k index number at : ℕ) where
      pub elements_written : (x : Table) (items : List RawRef) (T' : List Table) →
          slice_get (table_numbers m d imports) index ≡ Some (length m.tables + number) →
          slice_get (m.tables ++ T) (length m.tables + number) ≡ Some x → slice_get E k ≡ Some items →
          is_range at (length items) x.elements ≡ true →
          set T number (table x.ty (with_range at items x.elements)) ≡ T' →
          (fs : List ℕ) (gs : List RawVal) →
          init_table instance fs gs store k index at ≡ Goes (begun m d imports T' M E D) [] []
      elements_written x items T' named there own_items room placed fs gs =
          let n = length m.tables + number in
          let y = table x.ty (with_range at items x.elements) in
          own_table Sticks index n x
          (λ j z. on.on_elements Sticks store instance k (λ i xs.
          copied_elements (λ after. Goes after [] []) store j z at xs 0 (length xs))) named there
          ∙ own_elements Sticks k items
          (λ i xs. copied_elements (λ after. Goes after [] []) store n x at xs 0 (length xs)) own_items
          ∙ copies_elements (λ after. Goes after [] []) store n x at items room
          ∙ (λ j. Goes (record store { tables = behind_set m.tables T number y j }) [] [])
          ∙ ap (λ ts. Goes (begun m d imports ts M E D) [] []) placed

      pub bytes_written : (x : Memory) (bytes : List ℕ) (M' : List Memory) →
          slice_get (memory_numbers m d imports) index ≡ Some (length m.memories + number) →
          slice_get (m.memories ++ M) (length m.memories + number) ≡ Some x → slice_get D k ≡ Some bytes →
          is_range at (length bytes) x.bytes ≡ true →
          set M number (memory x.ty (with_range at bytes x.bytes)) ≡ M' →
          (fs : List ℕ) (gs : List RawVal) →
          init_memory instance fs gs store k index at ≡ Goes (begun m d imports T M' E D) [] []
      bytes_written x bytes M' named there own_bytes room placed fs gs =
          let n = length m.memories + number in
          let y = memory x.ty (with_range at bytes x.bytes) in
          own_memory Sticks index n x
          (λ j z. on.on_data Sticks store instance k (λ i xs.
          copied_bytes (λ after. Goes after [] []) store j z at xs 0 (length xs))) named there
          ∙ own_data Sticks k bytes
          (λ i xs. copied_bytes (λ after. Goes after [] []) store n x at xs 0 (length xs)) own_bytes
          ∙ copies_bytes (λ after. Goes after [] []) store n x at bytes room
          ∙ (λ j. Goes (record store { memories = behind_set m.memories M number y j }) [] [])
          ∙ ap (λ ms. Goes (begun m d imports T ms E D) [] []) placed
