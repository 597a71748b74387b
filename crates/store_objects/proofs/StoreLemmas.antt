-- What each store keeps once it was changed, and sizes of what is in it.
use Rattle.std.proofs.Common.{◌≡◌, ℕ, true, List, [], ◌∷◌, ◌++◌, inl, inr, refl, ap, sym, ◌∙◌, subst}
use Rattle.std.proofs.lemmas.Option.{same_Some}
use Rattle.std.specs.Prelude.{length, slice_get, Option, Some, Ok}
use Rattle.wasm_types.specs.Each.{Each}
use Rattle.wasm_types.specs.Memories.{Memory, new_memory}
use Rattle.wasm_types.specs.MemoryTypes.{MemoryParts, are_memory_limits}
use Rattle.wasm_types.specs.SoundTypes.{IsRefSound}
use Rattle.wasm_types.specs.TableTypes.{TableParts, are_table_limits}
use Rattle.wasm_values.specs.Handles.{memory_index, table_index}
use Rattle.wasm_values.specs.declared.handles.Memory.{Memory as MemoryHandle}
use Rattle.wasm_values.specs.declared.handles.Table.{Table as TableHandle}
use Rattle.wasm_values.specs.declared.references.Ref.{Ref}
use Rattle.wasm_objects.specs.Tables.{Table, new_table}
use Rattle.spec_machine.specs.Growth.{Plan, memory_range, memory_growing, pages, table_range, table_growing}
use Rattle.spec_machine.specs.Machine.{Machine}
use Rattle.spec_machine.specs.MemoryCalls.{memory_new, memory_grow}
use Rattle.spec_machine.specs.TableCalls.{table_new, table_grow, raw_given}
use Rattle.spec_machine.specs.WellFormed.{IsMemory, IsTable, IsWellFormed}
use Rattle.law_store.proofs.GrowthLemmas.{MayGrow, may_grow}
use Rattle.law_store.proofs.Lists.{each_rest}
use Rattle.law_store.proofs.Memories.{MemoryGrow, memory_grow_passed, keeps_memory_new}
use Rattle.law_store.proofs.Tables.{TableNew, table_new_passed, keeps_table_new, TableGrow, table_grow_passed}
use Rattle.law_store.specs.Granted.{IsGranted}
use Rattle.store_state.specs.Within.{IsMemorySized, IsTableSized, MayGrow as MayBe}

each_last : {A : Type 0} (P : A → Type 0) (xs : List A) (y : A) → Each (xs ++ y ∷ []) P → P y
each_last P [] y h = h 0 y refl
each_last P (x ∷ xs) y h = each_last P xs y (each_rest P x (xs ++ y ∷ []) h)

-- memories and tables of a store are of a size that there may be
pub memory_sized : (x : Memory) → IsMemory x → IsMemorySized x
memory_sized x is = record { whole = is.whole; in_range = is.in_range }

pub new_memory_sized : (m : Machine) (ty : MemoryParts) → IsWellFormed m → are_memory_limits ty ≡ true →
    IsGranted m (memory_new m ty) → IsMemorySized (new_memory ty)
new_memory_sized m ty w limits g =
    memory_sized (new_memory ty)
    (each_last IsMemory m.memories (new_memory ty) (keeps_memory_new m ty w limits g).memories_are)

pub new_table_sized : (m : Machine) (ty : TableParts) (init : Option Ref) (p : Plan TableHandle) → IsWellFormed m →
    are_table_limits ty ≡ true → IsRefSound ty.element → table_new m ty init ≡ Ok p → IsGranted m p →
    IsTableSized (new_table ty (raw_given init))
new_table_sized m ty init p w limits sound e g =
    let q : TableNew m ty init p = table_new_passed m ty init p e in
    let made : Table = new_table ty (raw_given init) in
    let after : Machine = record m { tables = m.tables ++ made ∷ [] } in
    let now : IsWellFormed after =
    subst IsWellFormed (sym (ap (λ (r : Plan TableHandle). r.after) q.is)) (keeps_table_new m ty init p w limits sound e g) in
    let last : IsTable after made = each_last (IsTable after) m.tables made now.tables_are in
    last.in_range

-- a growth that is granted may take place
may_be : {A : Type 0} (p : Plan A) → MayGrow p → MayBe p.range p.growth
may_be p h = elim h [ inl e ↦ inl e | inr e ↦ inr e.0 ]

pub memory_may_grow : (m : Machine) (h : MemoryHandle) (delta : ℕ) (p : Plan ℕ) → memory_grow m h delta ≡ Ok p →
    IsGranted m p → (x : Memory) → slice_get m.memories (memory_index h) ≡ Some x →
    MayBe (memory_range x.ty) (memory_growing x.ty (pages x) delta)
memory_may_grow m h delta p e g x found =
    let q : MemoryGrow m h delta p = memory_grow_passed m h delta p e in
    subst (λ (y : Memory). MayBe (memory_range y.ty) (memory_growing y.ty (pages y) delta))
    (same_Some q.object x (sym q.found ∙ found))
    (subst (λ (r : Plan ℕ). MayBe r.range r.growth) (sym q.is) (may_be p (may_grow m p g)))

pub table_may_grow : (m : Machine) (h : TableHandle) (delta : ℕ) (init : Option Ref) (p : Plan ℕ) →
    table_grow m h delta init ≡ Ok p → IsGranted m p → (x : Table) → slice_get m.tables (table_index h) ≡ Some x →
    MayBe table_range (table_growing x.ty (length x.elements) delta)
table_may_grow m h delta init p e g x found =
    let q : TableGrow m h delta init p = table_grow_passed m h delta init p e in
    subst (λ (y : Table). MayBe table_range (table_growing y.ty (length y.elements) delta))
    (same_Some q.object x (sym q.found ∙ found))
    (subst (λ (r : Plan ℕ). MayBe r.range r.growth) (sym q.is) (may_be p (may_grow m p g)))
