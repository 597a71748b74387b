-- A well-formed store: what each store keeps at every moment.
-- WebAssembly core specification, "Soundness, store validity" and "module validity"; that types are of the store's engine,
-- the limits of sizes and of the engine, and the fuel are this project's own.
-- What no field says the Rust types give: a byte is below 256; an index, an offset and a 32-bit float below 2^32; an
-- external number and a 64-bit float below 2^64; an integer of 32 or 64 bits is in its signed range.
use Rattle.std.specs.Prelude.{◌≡◌, ℕ, ◌+◌, ◌-◌, ◌*◌, ◌^◌, ◌≤◌, ◌<◌, Bool, true, List, length, nat_lt, slice_get, Some}
use Rattle.std.specs.List.{list_all}
use Rattle.wasm_types.specs.ExternTypes.{table_fits, memory_fits, global_fits}
use Rattle.wasm_types.specs.Equality.{same}
use Rattle.wasm_types.specs.Each.{Each}
use Rattle.wasm_types.specs.FunctionParts.{ref_is_of, val_is_of}
use Rattle.wasm_types.specs.FunctionRules.{IsSound}
use Rattle.wasm_types.specs.GlobalTypes.{GlobalParts}
use Rattle.wasm_types.specs.Matching.{matches}
use Rattle.wasm_types.specs.Memories.{Memory}
use Rattle.wasm_types.specs.MemoryTypes.{MemoryParts, are_memory_limits, page_size, within_maximum}
use Rattle.wasm_types.specs.Signatures.{Signature, is_of}
use Rattle.wasm_types.specs.SoundTypes.{IsRefSound, IsValSound}
use Rattle.wasm_types.specs.TableTypes.{TableParts, are_table_limits}
use Rattle.wasm_syntax.specs.Contexts.{functions, tables, memories, globals, tags, imported, as_function}
use Rattle.wasm_syntax.specs.Modules.{IsModule}
use Rattle.wasm_syntax.specs.declared.segments.ElemDecl.{ElemDecl}
use Rattle.wasm_values.specs.declared.externals.Extern.{Extern}
use Rattle.wasm_objects.specs.Globals.{Global}
use Rattle.wasm_objects.specs.Tables.{Table}
use Rattle.wasm_objects.specs.declared.raw.RawRef.{RawRef}
use Rattle.wasm_objects.specs.declared.raw.RawRef.TheVariants as raw
use Rattle.wasm_objects.specs.declared.raw.RawVal.{RawVal}
use Rattle.wasm_objects.specs.declared.raw.RawVal.TheVariants as w
use Rattle.spec_machine.specs.Growth.{memory_range, table_range, pages}
use Rattle.spec_machine.specs.Machine.{Machine, Function, guest, host, InstanceParts, are_engine_limits, debt, most_debt}
use Rattle.spec_machine.specs.Values.{function_type, owns_extern, raw_ref_fits, raw_val_fits}

-- a function in a reference is there, and a number of 31 bits is one
abbrev pub is_raw_ref : Machine → RawRef → Bool
is_raw_ref m (raw.Func f) = nat_lt f (length m.functions)
is_raw_ref m (raw.I31 n) = nat_lt n (2 ^ 31)
is_raw_ref m _ = true

abbrev pub is_raw_val : Machine → RawVal → Bool
is_raw_val m (w.Reference r) = is_raw_ref m r
is_raw_val m _ = true

-- whole pages, within the declared limits and the range of indices
pub record IsMemory (x : Memory) : Type 0 where
  pub limits : are_memory_limits x.ty ≡ true
  pub whole : length x.bytes ≡ pages x * page_size x.ty
  pub least : x.ty.minimum ≤ pages x
  pub most : within_maximum (pages x) x.ty.maximum ≡ true
  pub in_range : length x.bytes ≤ memory_range x.ty

-- elements that fit, within the declared limits and the range of indices
pub record IsTable (m : Machine) (x : Table) : Type 0 where
  pub limits : are_table_limits x.ty ≡ true
  pub of_engine : ref_is_of m.engine.number x.ty.element ≡ true
  pub sound : IsRefSound x.ty.element
  pub least : x.ty.minimum ≤ length x.elements
  pub most : within_maximum (length x.elements) x.ty.maximum ≡ true
  pub in_range : length x.elements ≤ table_range
  pub there : Each x.elements (λ r. is_raw_ref m r ≡ true)
  pub fits : Each x.elements (λ r. raw_ref_fits m r x.ty.element ≡ true)

pub record IsGlobal (m : Machine) (x : Global) : Type 0 where
  pub of_engine : val_is_of m.engine.number x.ty.content ≡ true
  pub sound : IsValSound x.ty.content
  pub there : is_raw_val m x.value ≡ true
  pub fits : raw_val_fits m x.value x.ty.content ≡ true

pub record IsType (m : Machine) (ty : Signature) : Type 0 where
  pub of_engine : is_of m.engine.number ty ≡ true
  pub sound : IsSound ty

-- a function of the host: its type, and the stored objects are there
pub record IsHost (m : Machine) (ty : Signature) (stored : List Extern) : Type 0 where
  pub type_is : IsType m ty
  pub there : list_all (owns_extern m) stored ≡ true

-- a function of an instance: the instance is there, and defines it
pub record IsGuest (m : Machine) (instance n : ℕ) : Type 0 where
  pub parts : InstanceParts
  pub found : slice_get m.instances instance ≡ Some parts
  pub defined : n < length parts.decl.functions

abbrev pub IsFunction : Machine → Function → Type 0
IsFunction m (guest instance n) = IsGuest m instance n
IsFunction m (host ty body stored) = IsHost m ty stored

-- an object of an instance, by its number, matches what its module declares of it, at its present size
pub record HasFunction (m : Machine) (declared : Signature) (f : ℕ) : Type 0 where
  pub ty : Signature
  pub found : function_type m f ≡ Some ty
  pub fits : matches ty declared ≡ true

pub record HasTable (m : Machine) (declared : TableParts) (n : ℕ) : Type 0 where
  pub table : Table
  pub found : slice_get m.tables n ≡ Some table
  pub fits : table_fits declared table.ty (length table.elements) ≡ true

pub record HasMemory (m : Machine) (declared : MemoryParts) (n : ℕ) : Type 0 where
  pub memory : Memory
  pub found : slice_get m.memories n ≡ Some memory
  pub fits : memory_fits declared memory.ty (pages memory) ≡ true

pub record HasGlobal (m : Machine) (declared : GlobalParts) (n : ℕ) : Type 0 where
  pub global : Global
  pub found : slice_get m.globals n ≡ Some global
  pub fits : global_fits declared global.ty ≡ true

pub record HasTag (m : Machine) (declared : Signature) (n : ℕ) : Type 0 where
  pub ty : Signature
  pub found : slice_get m.tags n ≡ Some ty
  pub fits : same declared ty ≡ true

-- as many numbers as there are items declared, each of an object that matches
pub record Has {A : Type 0} (declared : List A) (numbers : List ℕ) (Fits : A → ℕ → Type 0) : Type 0 where
  pub as_many : length numbers ≡ length declared
  pub each : (k : ℕ) (a : A) (n : ℕ) → slice_get declared k ≡ Some a → slice_get numbers k ≡ Some n → Fits a n

-- the members of an element segment fit its type
pub record IsSegment (m : Machine) (declared : ElemDecl) (items : List RawRef) : Type 0 where
  pub there : Each items (λ r. is_raw_ref m r ≡ true)
  pub fits : Each items (λ r. raw_ref_fits m r declared.ty ≡ true)

-- an instance, by its number
pub record IsInstance (m : Machine) (number : ℕ) (i : InstanceParts) : Type 0 where
  pub module_is : IsModule i.decl
  pub of_engine : i.decl.engine.0 ≡ m.engine.number
  pub functions_fit : Has (functions i.decl) i.functions (λ declared f. (ty : Signature) → declared ≡ Some ty → HasFunction m ty f)
  pub tables_fit : Has (tables i.decl) i.tables (HasTable m)
  pub memories_fit : Has (memories i.decl) i.memories (HasMemory m)
  pub globals_fit : Has (globals i.decl) i.globals (HasGlobal m)
  pub tags_fit : Has (tags i.decl) i.tags (λ declared n. (ty : Signature) → declared ≡ Some ty → HasTag m ty n)
  pub defined : (n f : ℕ) → slice_get i.functions (length (imported as_function i.decl) + n) ≡ Some f → slice_get m.functions f ≡ Some (guest number n)
  pub segments : length i.elements ≡ length i.decl.elements
  pub segments_fit : (k : ℕ) (declared : ElemDecl) (items : List RawRef) → slice_get i.decl.elements k ≡ Some declared → slice_get i.elements k ≡ Some items → IsSegment m declared items
  pub datas : length i.datas ≡ length i.decl.datas

pub record IsWellFormed (m : Machine) : Type 0 where
  pub memories_are : Each m.memories IsMemory
  pub tables_are : Each m.tables (IsTable m)
  pub globals_are : Each m.globals (IsGlobal m)
  pub tags_are : Each m.tags (IsType m)
  pub functions_are : Each m.functions (IsFunction m)
  pub instances_are : (n : ℕ) (i : InstanceParts) → slice_get m.instances n ≡ Some i → IsInstance m n i
  pub deadline_is : m.deadline ≤ 2 ^ 64 - 2
  pub engine_is : are_engine_limits m.engine.frames m.engine.turns ≡ true
  pub debt_is : debt m.fuel ≤ most_debt
