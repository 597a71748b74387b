-- New memories and tables whose growth from nothing may be are of a size that there may be.
use Rattle.std.proofs.Common.{◌≡◌, ℕ, zero, suc, ◌+◌, ◌*◌, ◌≤◌, ◌<◌, List, [], ◌∷◌, length, map, Some, refl, sym, ap, subst, arith, inl, inr, mul-div_cancel, zero-add, zero-mul}
use Rattle.std.proofs.lemmas.List.{length-map}
use Rattle.std.proofs.lemmas.Nat.{pow_pos}
use Rattle.std.specs.List.{All}
use Rattle.std.specs.Prelude.{slice_get}
use Rattle.wasm_meter.specs.Growths.{Growth}
use Rattle.wasm_types.proofs.RangeLemmas.{padded_length}
use Rattle.wasm_types.specs.Each.{Each}
use Rattle.wasm_types.specs.MemoryTypes.{MemoryParts, page_size}
use Rattle.wasm_types.specs.declared.plain.Cell.{Cell}
use Rattle.wasm_syntax.specs.declared.declarations.ModuleDecl.{ModuleDecl}
use Rattle.wasm_syntax.specs.declared.declarations.TableDecl.{TableDecl}
use Rattle.wasm_module.proofs.LeadLemmas.{tables_are, memories_are}
use Rattle.wasm_module.specs.Images.{table_images, memory_images}
use Rattle.wasm_objects.specs.Lazy.{cell_reference, lazy_table, imaged_memory}
use Rattle.wasm_objects.specs.declared.raw.RawRef.{RawRef}
use Rattle.wasm_objects.specs.declared.raw.RawVal.{RawVal}
use Rattle.spec_machine.specs.Growth.{memory_range, memory_growing, table_range, table_growing}
use Rattle.spec_execution.specs.Allocation.{reference_of}
use Rattle.law_images.specs.Leading.{imaged, imaged_tables, led_memories}
use Rattle.store_state.specs.Within.{IsSize, IsMemorySized, IsTableSized, MayGrow}
use Rattle.instance_parts.specs.Preparing.{MemoryMayBe, TableMayBe}

-- a growth from nothing that may be stays in the range
in_range : (range : ℕ) (g : Growth) → g.current ≡ 0 → MayGrow range g → g.desired ≤ range
in_range range g none (inl e) = omega (arith, e, none)
in_range range g none (inr h) = h

page_is : (ty : MemoryParts) → 0 < page_size ty
page_is ty = pow_pos ty.page_size_log2

sized_memory : (ty : MemoryParts) (image : List ℕ) → length image ≤ ty.minimum * page_size ty → MemoryMayBe ty →
    IsMemorySized (imaged_memory ty image)
sized_memory ty image fits e =
    let ps : ℕ = page_size ty in
    let size : length (imaged_memory ty image).bytes ≡ ty.minimum * ps =
    omega (arith, fits, padded_length (ty.minimum * ps) 0 image) in
    let s : IsSize ty (ty.minimum * ps) = record {
      whole = ap (λ (n : ℕ). n * ps) (sym (mul-div_cancel ty.minimum (page_is ty)));
      in_range =
          subst (λ (n : ℕ). n * ps ≤ memory_range ty) (zero-add ty.minimum)
          (in_range (memory_range ty) (memory_growing ty 0 ty.minimum) (zero-mul ps) e);
    } in
    subst (IsSize ty) (sym size) s

sized_table : (t : TableDecl) (init : RawRef) (image : List Cell) (fs : List ℕ) → length image ≤ t.ty.minimum →
    TableMayBe t → IsTableSized (lazy_table t.ty init image fs)
sized_table t init image fs fits e =
    let size : length (lazy_table t.ty init image fs).elements ≡ t.ty.minimum =
    omega (
      arith,
      fits,
      length-map image (cell_reference init fs),
      padded_length t.ty.minimum init (map (cell_reference init fs) image),
    ) in
    let most : 0 + t.ty.minimum ≤ table_range = in_range table_range (table_growing t.ty 0 t.ty.minimum) refl e in
    omega (arith, size, most)

-- what holds of each object over its image holds of all of them
module _ {Declared Item Object : Type 0} (object : Declared → List Item → Object) (P : Object → Type 0) where
  all_imaged : (ds : List Declared) (images : List (List Item)) →
      ((k : ℕ) (d : Declared) (image : List Item) → slice_get ds k ≡ Some d → slice_get images k ≡ Some image →
      P (object d image)) → All P (imaged object ds images)
  all_imaged [] images each k x h = absurd (omega (arith, h))
  all_imaged (d ∷ ds) [] each k x h = absurd (omega (arith, h))
  all_imaged (d ∷ ds) (i ∷ images) each zero x h = each zero d i refl refl
  all_imaged (d ∷ ds) (i ∷ images) each (suc k) x h =
      all_imaged ds images (λ n e image there owned. each (suc n) e image there owned) k x (omega (arith, h))

pub sized_memories : (d : ModuleDecl) → Each d.memories MemoryMayBe → All IsMemorySized (led_memories d)
sized_memories d may =
    all_imaged imaged_memory IsMemorySized d.memories (memory_images d)
    (λ k ty image there owned. sized_memory ty image ((memories_are d).fits k image ty owned there) (may k ty there))

pub sized_tables : (d : ModuleDecl) (fs : List ℕ) (gs : List RawVal) → Each d.tables TableMayBe →
    All IsTableSized (imaged_tables fs gs d.tables (table_images d))
sized_tables d fs gs may =
    all_imaged (λ (t : TableDecl) image. lazy_table t.ty (reference_of fs gs t.init) image fs) IsTableSized d.tables
    (table_images d)
    (λ k t image there owned.
    sized_table t (reference_of fs gs t.init) image fs ((tables_are d).fits k image t owned there) (may k t there))
