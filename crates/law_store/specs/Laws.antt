-- What a host can rely on, in the terms of its calls.
use Rattle.std.specs.Prelude.{◌≡◌, ◌≢◌, ◌⊎◌, ℕ, ◌+◌, ◌*◌, ◌<◌, ◌≤◌, true, List, Option, length, replicate, Some, Result, Ok}
use Rattle.wasm_types.specs.GlobalTypes.{GlobalParts}
use Rattle.wasm_types.specs.Matching.{ref_matches, val_matches}
use Rattle.wasm_types.specs.MemoryTypes.{MemoryParts, page_size}
use Rattle.wasm_types.specs.Signatures.{Signature}
use Rattle.wasm_types.specs.SoundTypes.{IsExternSound}
use Rattle.wasm_types.specs.TableTypes.{TableParts}
use Rattle.wasm_types.specs.declared.plain.Mutability.TheVariants.{Const}
use Rattle.wasm_types.specs.declared.value_types.RefType.{RefType}
use Rattle.wasm_types.specs.declared.value_types.ValType.{ValType}
use Rattle.wasm_syntax.specs.declared.declarations.ModuleDecl.{ModuleDecl}
use Rattle.wasm_values.specs.declared.externals.Extern.{Extern}
use Rattle.wasm_values.specs.declared.handles.Func.{Func}
use Rattle.wasm_values.specs.declared.handles.Global.{Global}
use Rattle.wasm_values.specs.declared.handles.Instance.{Instance}
use Rattle.wasm_values.specs.declared.handles.Memory.{Memory}
use Rattle.wasm_values.specs.declared.handles.Table.{Table}
use Rattle.wasm_values.specs.declared.handles.Tag.{Tag}
use Rattle.wasm_values.specs.declared.references.Ref.{Ref}
use Rattle.wasm_values.specs.declared.refusals.Refusal.{Refusal}
use Rattle.wasm_values.specs.declared.store_id.StoreId.{StoreId}
use Rattle.wasm_values.specs.declared.values.Val.{Val}
use Rattle.spec_machine.specs.Commands.{row}
use Rattle.spec_machine.specs.FuelCalls.{get_fuel, fill_fuel, yield_interval}
use Rattle.spec_machine.specs.GlobalCalls.{global_ty, global_new, global_get, global_set, tag_ty}
use Rattle.spec_machine.specs.Growth.{Plan}
use Rattle.spec_machine.specs.InstanceCalls.{get_export}
use Rattle.spec_machine.specs.Machine.{EngineParts, Machine, are_engine_limits, new_machine}
use Rattle.spec_machine.specs.MemoryCalls.{memory_ty, memory_size, memory_data_size, memory_read, memory_write, memory_grow}
use Rattle.spec_machine.specs.Names.{Scope}
use Rattle.spec_machine.specs.TableCalls.{table_ty, table_size, table_get, table_set, table_fill, table_grow, table_copy}
use Rattle.spec_machine.specs.ValueCalls.{func_ty}
use Rattle.spec_machine.specs.Values.{ref_fits, val_fits}
use Rattle.spec_machine.specs.WellFormed.{IsWellFormed}
use Rattle.spec_machine.specs.declared.command.Command.{Command}
use Rattle.law_store.specs.HostCalls.{OfAnyType, CallsLeave}
use Rattle.law_store.specs.Later.{LeavesRest}
use Rattle.law_store.specs.Rows.{LeavesBy, IsTyped}

-- a reference, a value that fits a type fits each type that this one matches
-- WebAssembly core specification, "Validation, matching" and "Validity, values"
abbrev pub RefsFitAlong : Type 0
RefsFitAlong = (m : Machine) (r : Ref) (a b : RefType) → ref_fits m r a ≡ true → ref_matches a b ≡ true →
    ref_fits m r b ≡ true

abbrev pub ValuesFitAlong : Type 0
ValuesFitAlong = (m : Machine) (v : Val) (a b : ValType) → val_fits m v a ≡ true → val_matches a b ≡ true →
    val_fits m v b ≡ true

-- a global gives the value that it was made with, or that was set last
abbrev pub NewGlobalGives : Type 0
NewGlobalGives =
    (m after : Machine) (ty : GlobalParts) (v : Val) (h : Global) → global_new m ty v ≡ Ok (after, h) →
    global_get after h ≡ Ok v

abbrev pub SetGlobalGives : Type 0
SetGlobalGives = (m after : Machine) (h : Global) (v : Val) → global_set m h v ≡ Ok after → global_get after h ≡ Ok v

-- a table gives the reference that was set last in the place, and the other places stay
abbrev pub SetElementGives : Type 0
SetElementGives =
    (m after : Machine) (h : Table) (at : ℕ) (r : Ref) → table_set m h at (Some r) ≡ Ok after →
    table_get after h at ≡ Ok (Some r)

abbrev pub SetKeepsOthers : Type 0
SetKeepsOthers =
    (m after : Machine) (h : Table) (at i : ℕ) (r : Ref) → table_set m h at (Some r) ≡ Ok after → i ≢ at →
    table_get after h i ≡ table_get m h i

-- the places of a range and those outside of it
abbrev pub IsOutside : ℕ → ℕ → ℕ → Type 0
IsOutside at len i = (i < at) ⊎ (at + len ≤ i)

-- a filled range gives the one reference, and the other places stay
abbrev pub FilledRangeGives : Type 0
FilledRangeGives =
    (m after : Machine) (h : Table) (at len k : ℕ) (r : Ref) → table_fill m h at (Some r) len ≡ Ok after → k < len →
    table_get after h (at + k) ≡ Ok (Some r)

abbrev pub FillKeepsOthers : Type 0
FillKeepsOthers =
    (m after : Machine) (h : Table) (at len i : ℕ) (r : Ref) → table_fill m h at (Some r) len ≡ Ok after →
    IsOutside at len i → table_get after h i ≡ table_get m h i

-- a copied range gives the source as it was before, also where the two ranges overlap, and the other places stay
abbrev pub CopyGivesSource : Type 0
CopyGivesSource =
    (m after : Machine) (dst : Table) (dst_at : ℕ) (src : Table) (src_at len k : ℕ) →
    table_copy m dst dst_at src src_at len ≡ Ok after → k < len →
    table_get after dst (dst_at + k) ≡ table_get m src (src_at + k)

abbrev pub CopyKeepsOthers : Type 0
CopyKeepsOthers =
    (m after : Machine) (dst : Table) (dst_at : ℕ) (src : Table) (src_at len i : ℕ) →
    table_copy m dst dst_at src src_at len ≡ Ok after → IsOutside dst_at len i →
    table_get after dst i ≡ table_get m dst i

-- a table that grew has so many elements more, answers how many it had, keeps these and has the given one behind them
abbrev pub GrownTableSize : Type 0
GrownTableSize =
    (m : Machine) (h : Table) (delta : ℕ) (r : Ref) (p : Plan ℕ) → table_grow m h delta (Some r) ≡ Ok p →
    (table_size m h ≡ Ok p.gives) × (table_size p.after h ≡ Ok (p.gives + delta))

abbrev pub GrownTableKeeps : Type 0
GrownTableKeeps =
    (m : Machine) (h : Table) (delta i : ℕ) (r : Ref) (p : Plan ℕ) → table_grow m h delta (Some r) ≡ Ok p →
    i < p.gives →
    table_get p.after h i ≡ table_get m h i

abbrev pub GrownTableGives : Type 0
GrownTableGives =
    (m : Machine) (h : Table) (delta k : ℕ) (r : Ref) (p : Plan ℕ) → table_grow m h delta (Some r) ≡ Ok p → k < delta →
    table_get p.after h (p.gives + k) ≡ Ok (Some r)

-- a memory is whole pages
abbrev pub IsWholePages : Type 0
IsWholePages =
    (m : Machine) (h : Memory) (ty : MemoryParts) (n bytes : ℕ) → IsWellFormed m →
    memory_ty m h ≡ Ok ty → memory_size m h ≡ Ok n → memory_data_size m h ≡ Ok bytes → bytes ≡ n * page_size ty

-- a memory that grew has so many pages more, answers how many it had, keeps its bytes and has zeros behind them
abbrev pub GrownMemorySize : Type 0
GrownMemorySize =
    (m : Machine) (h : Memory) (delta : ℕ) (p : Plan ℕ) → IsWellFormed m → memory_grow m h delta ≡ Ok p →
    (memory_size m h ≡ Ok p.gives) × (memory_size p.after h ≡ Ok (p.gives + delta))

abbrev pub GrownMemoryKeeps : Type 0
GrownMemoryKeeps =
    (m : Machine) (h : Memory) (delta at len : ℕ) (bytes : List ℕ) (p : Plan ℕ) → memory_grow m h delta ≡ Ok p →
    memory_read m h at len ≡ Ok bytes → memory_read p.after h at len ≡ Ok bytes

abbrev pub GrownMemoryIsZero : Type 0
GrownMemoryIsZero =
    (m : Machine) (h : Memory) (ty : MemoryParts) (delta bytes : ℕ) (p : Plan ℕ) → memory_grow m h delta ≡ Ok p →
    memory_ty m h ≡ Ok ty → memory_data_size m h ≡ Ok bytes →
    memory_read p.after h bytes (delta * page_size ty) ≡ Ok (replicate (delta * page_size ty) 0)

-- a written range gives the bytes that were written, and a range beside it what it gave before
abbrev pub WrittenRangeGives : Type 0
WrittenRangeGives =
    (m after : Machine) (h : Memory) (at : ℕ) (bytes : List ℕ) → memory_write m h at bytes ≡ Ok after →
    memory_read after h at (length bytes) ≡ Ok bytes

abbrev pub WriteKeepsOthers : Type 0
WriteKeepsOthers =
    (m after : Machine) (h : Memory) (at i len : ℕ) (bytes : List ℕ) → memory_write m h at bytes ≡ Ok after →
    (i + len ≤ at) ⊎ (at + length bytes ≤ i) → memory_read after h i len ≡ memory_read m h i len

-- a call gives a number, of at least so many
pub record GivesAtLeast (answer : Result ℕ Refusal) (n : ℕ) : Type 0 where
  pub number : ℕ
  pub is : answer ≡ Ok number
  pub least : n ≤ number

-- every handle gives the type that it gave, and no smaller size; a constant global gives its value, and an instance its
-- exports
-- WebAssembly core specification, "Soundness, store extension"
pub record KeepsObjects (m after : Machine) : Type 0 where
  pub function_types : (h : Func) (ty : Signature) → func_ty m h ≡ Ok ty → func_ty after h ≡ Ok ty
  pub global_types : (h : Global) (ty : GlobalParts) → global_ty m h ≡ Ok ty → global_ty after h ≡ Ok ty
  pub tag_types : (h : Tag) (ty : Signature) → tag_ty m h ≡ Ok ty → tag_ty after h ≡ Ok ty
  pub memory_types : (h : Memory) (ty : MemoryParts) → memory_ty m h ≡ Ok ty → memory_ty after h ≡ Ok ty
  pub table_types : (h : Table) (ty : TableParts) → table_ty m h ≡ Ok ty → table_ty after h ≡ Ok ty
  pub memory_sizes : (h : Memory) (n : ℕ) → memory_size m h ≡ Ok n → GivesAtLeast (memory_size after h) n
  pub table_sizes : (h : Table) (n : ℕ) → table_size m h ≡ Ok n → GivesAtLeast (table_size after h) n
  pub constants : (h : Global) (ty : GlobalParts) (v : Val) → global_ty m h ≡ Ok ty → ty.mutability ≡ Const →
      global_get m h ≡ Ok v → global_get after h ≡ Ok v
  pub exports : (h : Instance) (name : List ℕ) (o : Extern) → get_export m h name ≡ Ok o →
      get_export after h name ≡ Ok o

-- a store keeps its own objects, and what keeps them twice keeps them
abbrev pub ObjectsStayOwn : Type 0
ObjectsStayOwn = (m : Machine) → KeepsObjects m m

abbrev pub ObjectsStayAlong : Type 0
ObjectsStayAlong = (a b c : Machine) → KeepsObjects a b → KeepsObjects b c → KeepsObjects a c

-- what each call of a host leaves keeps every object and its type, and no memory or table shrinks
abbrev pub CallsKeepObjects : Type 0
CallsKeepObjects = (m : Machine) → CallsLeave OfAnyType (KeepsObjects m) m

-- fuel that was filled in is told, and another interval changes nothing of what is told
abbrev pub FilledFuelIsTold : Type 0
FilledFuelIsTold = (m after : Machine) (amount : ℕ) → fill_fuel m amount ≡ Ok after → get_fuel after ≡ Ok amount

abbrev pub IntervalKeepsFuel : Type 0
IntervalKeepsFuel =
    (m after : Machine) (interval : Option ℕ) → yield_interval m interval ≡ Ok after → get_fuel after ≡ get_fuel m

-- it has the engine, the instances, fuel, deadline, counts, limits and flags that there were
abbrev pub CallsLeaveRest : Type 0
CallsLeaveRest = (m : Machine) → CallsLeave OfAnyType (LeavesRest m) m

-- what a command that runs no code leaves keeps every object and its type, and no memory or table shrinks
abbrev pub RowsKeepObjects : Type 0
RowsKeepObjects =
    (modules : List ModuleDecl) (m : Machine) (s : Scope) (c : Command) →
    LeavesBy (KeepsObjects m) m (row modules m s c)

-- a new store of an engine whose limits are in range is well formed
abbrev pub NewIsWellFormed : Type 0
NewIsWellFormed =
    (id : StoreId) (engine : EngineParts) → are_engine_limits engine.frames engine.turns ≡ true →
    IsWellFormed (new_machine id engine)

-- what each call of a host leaves is well formed, where the type of an object that is made is a type
abbrev pub CallsKeepWellFormed : Type 0
CallsKeepWellFormed = (m : Machine) → IsWellFormed m → CallsLeave IsExternSound IsWellFormed m

-- and so is what a command that runs no code leaves
abbrev pub RowsKeepWellFormed : Type 0
RowsKeepWellFormed =
    (modules : List ModuleDecl) (m : Machine) (s : Scope) (c : Command) → IsWellFormed m → IsTyped c →
    LeavesBy IsWellFormed m (row modules m s c)
