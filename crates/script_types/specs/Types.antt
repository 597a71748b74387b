-- Types as JSON data: this project's own format. A type is named by its place in the list of types, counted from 0.
use Rattle.std.specs.Prelude.{ℕ, ◌^◌, ◌-◌, List, [], ◌∷◌, ◌++◌, Bool, true, false, Option, Some, None, slice_get, codes, if◌then◌else◌}
use Rattle.std.specs.Str.{bytes_eq}
use Rattle.serde_json.specs.Data.{Data, Items, no_items, item}
use Rattle.serde_json.specs.Find.{as_str, as_array}
use Rattle.wasm_types.specs.FunctionParts.{Parts, parts, from_parts, ref_type, nullable_ref}
use Rattle.wasm_types.specs.FunctionRules.{fault}
use Rattle.wasm_types.specs.GlobalTypes.{GlobalParts, global_parts}
use Rattle.wasm_types.specs.MemoryTypes.{MemoryParts, memory_parts, are_memory_limits}
use Rattle.wasm_types.specs.Signatures.{Signature}
use Rattle.wasm_types.specs.TableTypes.{TableParts, table_parts, are_table_limits}
use Rattle.wasm_types.specs.declared.faults.TypeFault.{TypeFault}
use Rattle.wasm_types.specs.declared.plain.Finality.{Finality}
use Rattle.wasm_types.specs.declared.plain.Finality.TheVariants.{Final, NonFinal}
use Rattle.wasm_types.specs.declared.plain.Mutability.{Mutability}
use Rattle.wasm_types.specs.declared.plain.Mutability.TheVariants.{Const, Var}
use Rattle.wasm_types.specs.declared.value_types.HeapType.{HeapType}
use Rattle.wasm_types.specs.declared.value_types.HeapType.TheVariants as h
use Rattle.wasm_types.specs.declared.value_types.RefType.{RefType}
use Rattle.wasm_types.specs.declared.value_types.ValType.{ValType}
use Rattle.wasm_types.specs.declared.value_types.ValType.TheVariants as t
use Rattle.script_json.specs.Fields.{◌>>=◌, field, required, field_or, optional, only, truth, whole, whole_to, list_or_empty}

-- a whole number of 32 bits
abbrev pub whole_32 : Data → Option ℕ
whole_32 d = whole_to (2 ^ 32 - 1) d

-- what a text names, or what data that is no text spells
abbrev pub named_or : {A : Type 0} → (List ℕ → Option A) → Option A → Option (List ℕ) → Option A
named_or f other None = other
named_or f other (Some name) = f name

-- the type of this number
abbrev pub type_at : List Signature → Data → Option Signature
type_at types d = whole d >>= slice_get types

-- a heap type is one of eight names, or the number of a type
-- WebAssembly core specification, "Types, heap types"
abbrev pub heap_named : List ℕ → Option HeapType
heap_named name =
    if bytes_eq name (codes "func") then Some h.Func else
    (if bytes_eq name (codes "nofunc") then Some h.NoFunc else
    (if bytes_eq name (codes "extern") then Some h.Extern else
    (if bytes_eq name (codes "noextern") then Some h.NoExtern else
    (if bytes_eq name (codes "any") then Some h.Any else
    (if bytes_eq name (codes "eq") then Some h.Eq else
    (if bytes_eq name (codes "i31") then Some h.I31 else
    (if bytes_eq name (codes "none") then Some h.None else None)))))))

abbrev pub concrete_of : List Signature → Data → Option HeapType
concrete_of types d = type_at types d >>= (λ t. Some (h.ConcreteFunc t))

abbrev pub heap_type_of : List Signature → Data → Option HeapType
heap_type_of types d = named_or heap_named (concrete_of types d) (as_str d)

-- a reference type: its heap type at "ref", and whether it is nullable at "null", as it is where that key is not there
-- "Types, reference types"
abbrev pub reference_of : List Signature → Data → Option RefType
reference_of types d = do
  _ ← only (codes "ref" ∷ codes "null" ∷ []) d
  heap ← required (heap_type_of types) (codes "ref") d
  nullable ← field_or true truth (field (codes "null") d)
  Some (ref_type nullable heap)

-- a value type is one of eight names, or a reference type
-- "Types, value types"
abbrev pub val_named : List ℕ → Option ValType
val_named name =
    if bytes_eq name (codes "i32") then Some t.I32 else
    (if bytes_eq name (codes "i64") then Some t.I64 else
    (if bytes_eq name (codes "f32") then Some t.F32 else
    (if bytes_eq name (codes "f64") then Some t.F64 else
    (if bytes_eq name (codes "v128") then Some t.V128 else
    (if bytes_eq name (codes "funcref") then Some (nullable_ref h.Func) else
    (if bytes_eq name (codes "externref") then Some (nullable_ref h.Extern) else
    (if bytes_eq name (codes "anyref") then Some (nullable_ref h.Any) else None)))))))

abbrev pub reference_type_of : List Signature → Data → Option ValType
reference_type_of types d = reference_of types d >>= (λ r. Some (t.Ref r))

abbrev pub val_type_of : List Signature → Data → Option ValType
val_type_of types d = named_or val_named (reference_type_of types d) (as_str d)

-- a value type that is a reference type, by its name too
abbrev pub as_reference : ValType → Option RefType
as_reference (t.Ref r) = Some r
as_reference _ = None

abbrev pub ref_type_of : List Signature → Data → Option RefType
ref_type_of types d = val_type_of types d >>= as_reference

-- the function type of parts that break no rule
abbrev pub made_by : Option TypeFault → Signature → Option Signature
made_by None made = Some made
made_by (Some broken) made = None

abbrev pub function_type_by : Parts → Option Signature
function_type_by p = made_by (fault p) (from_parts p)

abbrev pub finality_of : Bool → Finality
finality_of true = Final
finality_of false = NonFinal

-- a function type, of engine number 1: by default without parameters and results, final, and without a supertype; where
-- the parts break a rule there is none
-- "Types, function types" and "sub types"
abbrev pub function_type_of : List Signature → Data → Option Signature
function_type_of types d = do
  _ ← only (codes "params" ∷ codes "results" ∷ codes "final" ∷ codes "super" ∷ []) d
  params ← list_or_empty (val_type_of types) (codes "params") d
  results ← list_or_empty (val_type_of types) (codes "results") d
  is_final ← field_or true truth (field (codes "final") d)
  supertype ← optional (type_at types) (field (codes "super") d)
  function_type_by (parts 1 (finality_of is_final) supertype params results)

-- the list of types: each may name those before it
abbrev pub types_after : List Signature → Items → Option (List Signature)
types_after types no_items = Some types
types_after types (item d ds) = function_type_of types d >>= (λ ty. types_after (types ++ ty ∷ []) ds)

abbrev pub type_list_of : Data → Option (List Signature)
type_list_of d = as_array d >>= types_after []

-- the table type of these limits, where they are some
abbrev pub table_type_if : TableParts → Bool → Option TableParts
table_type_if limits true = Some limits
table_type_if limits false = None

abbrev pub table_type_by : RefType → ℕ → Option ℕ → Option TableParts
table_type_by element minimum maximum =
    let limits = table_parts element minimum maximum in table_type_if limits (are_table_limits limits)

-- a table type by the keys "ref", "min" and, where there is a greatest number, "max" of an object
-- "Types, table types"
abbrev pub table_type_in : List Signature → Data → Option TableParts
table_type_in types d = do
  element ← required (ref_type_of types) (codes "ref") d
  minimum ← required whole_32 (codes "min") d
  maximum ← optional whole_32 (field (codes "max") d)
  table_type_by element minimum maximum

-- the memory type of these limits, where they are some
abbrev pub memory_type_if : MemoryParts → Bool → Option MemoryParts
memory_type_if limits true = Some limits
memory_type_if limits false = None

abbrev pub memory_type_by : ℕ → Option ℕ → ℕ → Option MemoryParts
memory_type_by minimum maximum page_size_log2 =
    let limits = memory_parts minimum maximum page_size_log2 in memory_type_if limits (are_memory_limits limits)

-- a memory type by the keys "min", "max" and "page" of an object: the last is the size of a page as an exponent of 2, 16
-- where it is not there
-- "Types, memory types"
abbrev pub memory_type_in : Data → Option MemoryParts
memory_type_in d = do
  minimum ← required whole_32 (codes "min") d
  maximum ← optional whole_32 (field (codes "max") d)
  page ← field_or 16 (whole_to 16) (field (codes "page") d)
  memory_type_by minimum maximum page

abbrev pub mutability_of : Bool → Mutability
mutability_of true = Var
mutability_of false = Const

-- a global type by the keys "val" and "mut" of an object: it is constant where the last is not there
-- "Types, global types"
abbrev pub global_type_in : List Signature → Data → Option GlobalParts
global_type_in types d = do
  content ← required (val_type_of types) (codes "val") d
  is_variable ← field_or false truth (field (codes "mut") d)
  Some (global_parts content (mutability_of is_variable))
