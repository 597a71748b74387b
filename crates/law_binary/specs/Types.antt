-- Types. WebAssembly core specification, "Binary Format, Types", narrowed to this project's profile. That a code or a number
-- that stands for no type is a fault at its place is this project's own.
use Rattle.std.specs.Prelude.{ℕ, List, length, Bool, true, false, nat_lt, Option, Some, None, option_map, slice_get, if◌then◌else◌, [], ◌∷◌}
use Rattle.std.specs.Option.{option_or}
use Rattle.wasm_types.specs.Signatures.{Signature}
use Rattle.wasm_types.specs.FunctionParts.{ref_type}
use Rattle.wasm_types.specs.GlobalTypes.{GlobalParts, global_parts}
use Rattle.wasm_types.specs.MemoryTypes.{MemoryParts, are_memory_limits}
use Rattle.wasm_types.specs.TableTypes.{TableParts, are_table_limits}
use Rattle.wasm_types.specs.declared.faults.TypeFault.{TypeFault}
use Rattle.wasm_types.specs.declared.faults.TypeFault.TheVariants.{BadLimits}
use Rattle.wasm_types.specs.declared.plain.Mutability.{Mutability}
use Rattle.wasm_types.specs.declared.value_types.HeapType.{HeapType}
use Rattle.wasm_types.specs.declared.value_types.HeapType.TheVariants as h
use Rattle.wasm_types.specs.declared.value_types.RefType.{RefType}
use Rattle.wasm_types.specs.declared.value_types.ValType.{ValType}
use Rattle.wasm_types.specs.declared.value_types.ValType.TheVariants as v
use Rattle.binary_types.specs.Types as codes
use Rattle.binary_types.specs.Types.{abstract_heap, number_type, is_code, limits_of, memory_of, nullable, table_of}
use Rattle.binary_types.specs.declared.faults.BinaryFault.{BinaryFault}
use Rattle.binary_types.specs.declared.faults.BinaryFault.TheVariants.{Unsupported, Index}
use Rattle.law_binary.specs.Formats.{Format, Rows, ◌>>=◌, gives, byte, u32, s33_from_zero, standing_for, unless_refused, by_code, by_first, no_table}

abbrev pub unsupported : ℕ → ℕ → BinaryFault
unsupported at code = Unsupported at code

abbrev pub no_type : ℕ → ℕ → BinaryFault
no_type at n = Index at

-- the number of a type of the type section; and the type that it names
abbrev pub index_of : List Signature → ℕ → Option ℕ
index_of types n = if nat_lt n (length types) then Some n else None

abbrev pub type_index : List Signature → Format ℕ
type_index types = standing_for u32 (index_of types) no_type

abbrev pub type_at : List Signature → Format Signature
type_at types = standing_for u32 (slice_get types) no_type

abbrev pub signed_index : List Signature → Format ℕ
signed_index types = standing_for s33_from_zero (index_of types) no_type

-- a heap type: the code of an abstract one, or the number of a type. A byte from 40 to 7f begins no number from zero on
abbrev pub abstract_type : Format HeapType
abstract_type = standing_for byte abstract_heap unsupported

abbrev pub concrete_heap : List Signature → ℕ → Option HeapType
concrete_heap types n = option_map h.ConcreteFunc (slice_get types n)

abbrev pub concrete_type : List Signature → Format HeapType
concrete_type types = standing_for s33_from_zero (concrete_heap types) no_type

abbrev pub heap_type : List Signature → Format HeapType
heap_type types = by_first is_code abstract_type (concrete_type types)

-- a reference type: a heap type behind 63 or 64, or the code of an abstract heap type alone, which is nullable
abbrev pub reference_to : Bool → List Signature → Format RefType
reference_to nullable types = do
  t ← heap_type types
  gives (ref_type nullable t)

abbrev pub abstract_reference : ℕ → Option RefType
abstract_reference code = option_map nullable (abstract_heap code)

abbrev pub references : List Signature → Rows RefType
references types = (0x63, reference_to true types) ∷ (0x64, reference_to false types) ∷ []

abbrev pub reference_type : List Signature → Format RefType
reference_type types = by_code byte abstract_reference (references types)

-- a value type: the code of a number type, of the type of vectors, or a reference type
abbrev pub value_to : Bool → List Signature → Format ValType
value_to nullable types = do
  t ← reference_to nullable types
  gives (v.Ref t)

abbrev pub value_code : ℕ → Option ValType
value_code code = option_or (number_type code) (option_map v.Ref (abstract_reference code))

abbrev pub reference_values : List Signature → Rows ValType
reference_values types = (0x63, value_to true types) ∷ (0x64, value_to false types) ∷ []

abbrev pub value_type : List Signature → Format ValType
value_type types = by_code byte value_code (reference_values types)

-- the type of a value
abbrev pub TypeOf : {A : Type 0} → A → Type 0
TypeOf {A = A} x = A

-- limits, with a greatest number or without
abbrev pub Limits : Type 0
Limits = TypeOf (limits_of 0 None)

abbrev pub open_limits : Format Limits
open_limits = do
  minimum ← u32
  gives (limits_of minimum None)

abbrev pub closed_limits : Format Limits
closed_limits = do
  minimum ← u32
  maximum ← u32
  gives (limits_of minimum (Some maximum))

abbrev pub limits : Format Limits
limits = by_code byte no_table ((0x00, open_limits) ∷ (0x01, closed_limits) ∷ [])

-- types of tables and of memories, which keep their limits
abbrev pub rule_if_not : Bool → Option TypeFault
rule_if_not test = if test then None else Some BadLimits

abbrev pub table_rule : TableParts → Option TypeFault
table_rule t = rule_if_not (are_table_limits t)

abbrev pub table_parts : List Signature → Format TableParts
table_parts types = do
  element ← reference_type types
  l ← limits
  gives (table_of element l)

abbrev pub table_type : List Signature → Format TableParts
table_type types = unless_refused (table_parts types) table_rule

abbrev pub memory_rule : MemoryParts → Option TypeFault
memory_rule m = rule_if_not (are_memory_limits m)

abbrev pub memory_parts : Format MemoryParts
memory_parts = do
  l ← limits
  gives (memory_of l)

abbrev pub memory_type : Format MemoryParts
memory_type = unless_refused memory_parts memory_rule

-- types of globals
abbrev pub mutability : Format Mutability
mutability = standing_for byte codes.mutability unsupported

abbrev pub global_type : List Signature → Format GlobalParts
global_type types = do
  content ← value_type types
  m ← mutability
  gives (global_parts content m)
