-- What a host can rely on of the calls on a store, in the terms of their clauses.
-- WebAssembly core specification, "Execution, modules, growing tables", "growing memories"; "Soundness, store extension"
use Rattle.std.specs.Prelude.{◌≡◌, ℕ, ◌+◌, Bool, ⊤, List, Option, Some, Result, Ok}
use Rattle.wasm_types.specs.GlobalTypes.{GlobalParts}
use Rattle.wasm_types.specs.MemoryTypes.{MemoryParts}
use Rattle.wasm_types.specs.Signatures.{Signature}
use Rattle.wasm_types.specs.TableTypes.{TableParts}
use Rattle.wasm_meter.specs.Growths.{Growth}
use Rattle.wasm_meter.specs.declared.faults.LimiterFailed.{LimiterFailed}
use Rattle.wasm_values.specs.declared.externals.Extern.{Extern}
use Rattle.wasm_values.specs.declared.handles.Func.{Func}
use Rattle.wasm_values.specs.declared.handles.Global.{Global}
use Rattle.wasm_values.specs.declared.handles.Memory.{Memory}
use Rattle.wasm_values.specs.declared.handles.Table.{Table}
use Rattle.wasm_values.specs.declared.handles.Tag.{Tag}
use Rattle.wasm_values.specs.declared.references.Ref.{Ref}
use Rattle.wasm_values.specs.declared.refusals.Refusal.{Refusal}
use Rattle.wasm_values.specs.declared.values.Val.{Val}
use Rattle.spec_machine.specs.GlobalCalls.{global_new, global_set, tag_new}
use Rattle.spec_machine.specs.Growth.{Plan}
use Rattle.spec_machine.specs.Machine.{Machine}
use Rattle.spec_machine.specs.MemoryCalls.{memory_new, memory_size, memory_write, memory_grow}
use Rattle.spec_machine.specs.TableCalls.{table_new, table_size, table_set, table_fill, table_copy, table_grow}
use Rattle.spec_machine.specs.ValueCalls.{func_new}
use Rattle.spec_machine.specs.WellFormed.{IsWellFormed}
use Rattle.law_store.specs.Granted.{IsGranted}
use Rattle.law_store.specs.Laws.{KeepsObjects}
use Rattle.store_state.specs.Calls.{Changes, Makes}
use Rattle.wasm_store.specs.Growths.{GrowsAs}
use Rattle.wasm_store.specs.Stores.{StoreParts}

-- what a limiter answers, by its host data before and after
abbrev pub Limiter : Type 0 → Type 1
Limiter T = T → Growth → Result Bool LimiterFailed → T → Type 0

-- the growth that was due and granted, of which this is the answer, and which left this store
pub record IsGrown {A : Type 0} (due : Result (Plan A) Refusal) (old : Machine) (answer : A)
    (new : Machine) : Type 0 where
  pub plan : Plan A
  pub is : due ≡ Ok plan
  pub granted : IsGranted old plan
  pub gives : answer ≡ plan.gives
  pub after : new ≡ plan.after

-- a growth that answered was due and granted, and left what it planned
abbrev pub GrowthsAreGranted : {T : Type 0} → Limiter T → Type 0
GrowthsAreGranted {T} growths =
    (old new : StoreParts T) (due : Result (Plan ℕ) Refusal) (n : ℕ) →
    GrowsAs growths due old (Ok n) new → IsGrown due old.machine n new.machine

-- a memory or table that grew answers how many pages or elements it had, and has so many more
abbrev pub MemoryGrowthSize : {T : Type 0} → Limiter T → Type 0
MemoryGrowthSize {T} growths =
    (old new : StoreParts T) (h : Memory) (delta n : ℕ) → IsWellFormed old.machine →
    GrowsAs growths (memory_grow old.machine h delta) old (Ok n) new →
    (memory_size old.machine h ≡ Ok n) × (memory_size new.machine h ≡ Ok (n + delta))

abbrev pub TableGrowthSize : {T : Type 0} → Limiter T → Type 0
TableGrowthSize {T} growths =
    (old new : StoreParts T) (h : Table) (delta n : ℕ) (r : Ref) →
    GrowsAs growths (table_grow old.machine h delta (Some r)) old (Ok n) new →
    (table_size old.machine h ≡ Ok n) × (table_size new.machine h ≡ Ok (n + delta))

-- a call keeps every object and its type, whatever it answers, and no memory or table shrinks: those that grow or make a
-- memory or a table
abbrev pub MemoryNewKeeps : {T : Type 0} → Limiter T → Type 0
MemoryNewKeeps {T} growths =
    (old new : StoreParts T) (ty : MemoryParts) (answer : Result Memory Refusal) →
    GrowsAs growths (Ok (memory_new old.machine ty)) old answer new → KeepsObjects old.machine new.machine

abbrev pub MemoryGrowthKeeps : {T : Type 0} → Limiter T → Type 0
MemoryGrowthKeeps {T} growths =
    (old new : StoreParts T) (h : Memory) (delta : ℕ) (answer : Result ℕ Refusal) →
    GrowsAs growths (memory_grow old.machine h delta) old answer new → KeepsObjects old.machine new.machine

abbrev pub TableNewKeeps : {T : Type 0} → Limiter T → Type 0
TableNewKeeps {T} growths =
    (old new : StoreParts T) (ty : TableParts) (init : Option Ref) (answer : Result Table Refusal) →
    GrowsAs growths (table_new old.machine ty init) old answer new → KeepsObjects old.machine new.machine

abbrev pub TableGrowthKeeps : {T : Type 0} → Limiter T → Type 0
TableGrowthKeeps {T} growths =
    (old new : StoreParts T) (h : Table) (delta : ℕ) (r : Option Ref) (answer : Result ℕ Refusal) →
    GrowsAs growths (table_grow old.machine h delta r) old answer new → KeepsObjects old.machine new.machine

-- those that change objects
abbrev pub MemoryWriteKeeps : Type 0
MemoryWriteKeeps =
    (old new : Machine) (h : Memory) (at : ℕ) (bytes : List ℕ) (answer : Result ⊤ Refusal) →
    Changes (memory_write old h at bytes) old answer new → KeepsObjects old new

abbrev pub TableSetKeeps : Type 0
TableSetKeeps =
    (old new : Machine) (h : Table) (at : ℕ) (val : Option Ref) (answer : Result ⊤ Refusal) →
    Changes (table_set old h at val) old answer new → KeepsObjects old new

abbrev pub TableFillKeeps : Type 0
TableFillKeeps =
    (old new : Machine) (h : Table) (at : ℕ) (val : Option Ref) (len : ℕ) (answer : Result ⊤ Refusal) →
    Changes (table_fill old h at val len) old answer new → KeepsObjects old new

abbrev pub TableCopyKeeps : Type 0
TableCopyKeeps =
    (old new : Machine) (dst : Table) (dst_at : ℕ) (src : Table) (src_at len : ℕ) (answer : Result ⊤ Refusal) →
    Changes (table_copy old dst dst_at src src_at len) old answer new → KeepsObjects old new

abbrev pub GlobalSetKeeps : Type 0
GlobalSetKeeps =
    (old new : Machine) (h : Global) (val : Val) (answer : Result ⊤ Refusal) →
    Changes (global_set old h val) old answer new → KeepsObjects old new

-- those that make another object
abbrev pub GlobalNewKeeps : Type 0
GlobalNewKeeps =
    (old new : Machine) (ty : GlobalParts) (val : Val) (answer : Result Global Refusal) →
    Makes (global_new old ty val) old answer new → KeepsObjects old new

abbrev pub TagNewKeeps : Type 0
TagNewKeeps =
    (old new : Machine) (ty : Signature) (answer : Result Tag Refusal) →
    Makes (tag_new old ty) old answer new → KeepsObjects old new

abbrev pub FuncNewKeeps : Type 0
FuncNewKeeps =
    (old new : Machine) (ty : Signature) (body : ℕ) (stored : List Extern) (answer : Result Func Refusal) →
    Makes (func_new old ty body stored) old answer new → KeepsObjects old new
