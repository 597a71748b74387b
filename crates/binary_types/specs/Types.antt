-- Types in the binary format. WebAssembly core specification, "Binary Format, Types", narrowed to this project's profile.
use Rattle.std.specs.Prelude.{◌≡◌, ℕ, ℤ, pos, negsuc, List, length, Bool, true, false, ◌&&◌, nat_eq, nat_le, nat_lt, if◌then◌else◌, Option, Some, None, option_map, slice_get, Result, Ok, Err}
use Rattle.wasm_types.specs.Signatures.{Signature}
use Rattle.wasm_types.specs.FunctionParts.{ref_type}
use Rattle.wasm_types.specs.GlobalTypes.{GlobalParts, global_parts}
use Rattle.wasm_types.specs.MemoryTypes.{MemoryParts, memory_parts, are_memory_limits}
use Rattle.wasm_types.specs.TableTypes.{TableParts, table_parts, are_table_limits}
use Rattle.wasm_types.specs.declared.faults.TypeFault.TheVariants.{BadLimits}
use Rattle.wasm_types.specs.declared.plain.Mutability.{Mutability}
use Rattle.wasm_types.specs.declared.plain.Mutability.TheVariants.{Const, Var}
use Rattle.wasm_types.specs.declared.value_types.HeapType.{HeapType}
use Rattle.wasm_types.specs.declared.value_types.HeapType.TheVariants as h
use Rattle.wasm_types.specs.declared.value_types.RefType.{RefType}
use Rattle.wasm_types.specs.declared.value_types.ValType.{ValType}
use Rattle.wasm_types.specs.declared.value_types.ValType.TheVariants as v
use Rattle.binary_types.specs.Reading.{Read, ◌>>=◌, done, here, unless, some_or, byte, peek, u32, s33}
use Rattle.binary_types.specs.declared.faults.BinaryFault.{BinaryFault}
use Rattle.binary_types.specs.declared.faults.BinaryFault.TheVariants.{Malformed, Unsupported, Index, Refused, OutOfMemory}
use Rattle.binary_types.specs.declared.limits.Limits.{Limits}

-- the number of a type of the type section
abbrev pub type_index : List Signature → Read ℕ
type_index types = do
  at ← here
  n ← u32
  _ ← unless (Index at) (nat_lt n (length types))
  done n

-- the type that such a number names
abbrev pub type_at : List Signature → Read Signature
type_at types = do
  at ← here
  n ← u32
  some_or (Index at) (slice_get types n)

-- what the code answers for such a number, at the place where it stands; want of memory is free
abbrev pub NamedBy : ℕ → Option Signature → Result Signature BinaryFault → Type 0
NamedBy at o (Ok t) = o ≡ Some t
NamedBy at o (Err OutOfMemory) = Unit {0}
NamedBy at o (Err e) = (o ≡ None) × (e ≡ Index at)

abbrev pub Named : List Signature → ℕ → ℕ → Result Signature BinaryFault → Type 0
Named types at n result = NamedBy at (slice_get types n) result

-- a number of 33 bits with sign that is not below zero
abbrev pub whole : ℤ → Option ℕ
whole (pos n) = Some n
whole (negsuc n) = None

abbrev pub not_below_zero : Read ℕ
not_below_zero = do
  z ← s33
  some_or Malformed (whole z)

-- the number of a type, written as such a number
abbrev pub signed_index : List Signature → Read ℕ
signed_index types = do
  at ← here
  n ← not_below_zero
  _ ← unless (Index at) (nat_lt n (length types))
  done n

-- the abstract heap types
abbrev pub abstract_heap : ℕ → Option HeapType
abstract_heap code =
    if nat_eq code 0x70 then Some h.Func else
    (if nat_eq code 0x73 then Some h.NoFunc else
    (if nat_eq code 0x6f then Some h.Extern else
    (if nat_eq code 0x72 then Some h.NoExtern else
    (if nat_eq code 0x6e then Some h.Any else
    (if nat_eq code 0x6d then Some h.Eq else
    (if nat_eq code 0x6c then Some h.I31 else
    (if nat_eq code 0x71 then Some h.None else None)))))))

-- a byte from 40 to 7f, which as a number with sign is below zero, is the code of a type; any other byte begins a number
abbrev pub is_code : ℕ → Bool
is_code b = nat_le 0x40 b && nat_lt b 0x80

-- a heap type: a code, or the number of a type
abbrev pub abstract_type : Read HeapType
abstract_type = do
  at ← here
  code ← byte
  some_or (Unsupported at code) (abstract_heap code)

abbrev pub concrete_type : List Signature → Read HeapType
concrete_type types = do
  at ← here
  n ← not_below_zero
  t ← some_or (Index at) (slice_get types n)
  done (h.ConcreteFunc t)

abbrev pub heap_if : Bool → List Signature → Read HeapType
heap_if true types = abstract_type
heap_if false types = concrete_type types

abbrev pub heap_type : List Signature → Read HeapType
heap_type types = do
  b ← peek
  heap_if (is_code b) types

abbrev pub nullable : HeapType → RefType
nullable t = ref_type true t

abbrev pub prefixed : Bool → List Signature → Read RefType
prefixed nullable types = do
  t ← heap_type types
  done (ref_type nullable t)

-- a reference type of this first byte: 63 and 64 stand before a heap type, and a byte of a heap type stands for itself
abbrev pub reference_by : List Signature → ℕ → ℕ → Read RefType
reference_by types at code p =
    if nat_eq code 0x63 then prefixed true types p
    else (if nat_eq code 0x64 then prefixed false types p
    else some_or (Unsupported at code) (option_map nullable (abstract_heap code)) p)

abbrev pub reference_type : List Signature → Read RefType
reference_type types = do
  at ← here
  code ← byte
  reference_by types at code

-- the types of numbers and of vectors
abbrev pub number_type : ℕ → Option ValType
number_type code =
    if nat_eq code 0x7f then Some v.I32 else
    (if nat_eq code 0x7e then Some v.I64 else
    (if nat_eq code 0x7d then Some v.F32 else
    (if nat_eq code 0x7c then Some v.F64 else
    (if nat_eq code 0x7b then Some v.V128 else None))))

-- a value type of this first byte
abbrev pub value_by : List Signature → ℕ → ℕ → Option ValType → Read ValType
value_by types at code (Some t) = done t
value_by types at code None = do
  t ← reference_by types at code
  done (v.Ref t)

abbrev pub value_type : List Signature → Read ValType
value_type types = do
  at ← here
  code ← byte
  value_by types at code (number_type code)

-- limits: the least number, and the greatest one where it is named
abbrev pub limits_of : ℕ → Option ℕ → Limits
limits_of minimum maximum = record { minimum = minimum; maximum = maximum }

abbrev pub open_limits : Read Limits
open_limits = do
  minimum ← u32
  done (limits_of minimum None)

abbrev pub closed_limits : Read Limits
closed_limits = do
  minimum ← u32
  maximum ← u32
  done (limits_of minimum (Some maximum))

abbrev pub limits_by : ℕ → ℕ → Read Limits
limits_by at code p =
    if nat_eq code 0x00 then open_limits p
    else (if nat_eq code 0x01 then closed_limits p
    else Err (Unsupported at code))

abbrev pub limits : Read Limits
limits = do
  at ← here
  code ← byte
  limits_by at code

-- what the code answers for a type that is to keep its limits: the type, or the refusal at the place where it begins
abbrev pub Limited : {A : Type 0} → ℕ → Bool → A → Result A BinaryFault → Type 0
Limited at keeps t (Ok x) = (keeps ≡ true) × (x ≡ t)
Limited at keeps t (Err e) = (keeps ≡ false) × (e ≡ Refused at BadLimits)

abbrev pub table_of : RefType → Limits → TableParts
table_of element l = table_parts element l.minimum l.maximum

abbrev pub TableMade : ℕ → RefType → Limits → Result TableParts BinaryFault → Type 0
TableMade at element l result = Limited at (are_table_limits (table_of element l)) (table_of element l) result

abbrev pub table_type : List Signature → Read TableParts
table_type types = do
  at ← here
  element ← reference_type types
  l ← limits
  _ ← unless (Refused at BadLimits) (are_table_limits (table_of element l))
  done (table_of element l)

-- pages of 64 KiB
abbrev pub memory_of : Limits → MemoryParts
memory_of l = memory_parts l.minimum l.maximum 16

abbrev pub MemoryMade : ℕ → Limits → Result MemoryParts BinaryFault → Type 0
MemoryMade at l result = Limited at (are_memory_limits (memory_of l)) (memory_of l) result

abbrev pub memory_type : Read MemoryParts
memory_type = do
  at ← here
  l ← limits
  _ ← unless (Refused at BadLimits) (are_memory_limits (memory_of l))
  done (memory_of l)

abbrev pub mutability : ℕ → Option Mutability
mutability code = if nat_eq code 0x00 then Some Const else (if nat_eq code 0x01 then Some Var else None)

abbrev pub mutability_at : Read Mutability
mutability_at = do
  at ← here
  code ← byte
  some_or (Unsupported at code) (mutability code)

abbrev pub global_type : List Signature → Read GlobalParts
global_type types = do
  content ← value_type types
  m ← mutability_at
  done (global_parts content m)
