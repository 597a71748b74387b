-- Types as JSON data, as they are written: in the form in which scripts have them, each function type as the number of the
-- first equal type of a list. This project's own format.
use Rattle.std.specs.Prelude.{◌≡◌, ℕ, suc, ◌^◌, ◌<◌, ◌≤◌, Bool, true, false, List, [], ◌∷◌, codes, if◌then◌else◌, Option, Some, None, IfSome}
use Rattle.serde_json.specs.Data as json
use Rattle.serde_json.specs.Data.{Data, Members, no_members, member}
use Rattle.wasm_types.specs.Equality.{same}
use Rattle.wasm_types.specs.FunctionParts.{heap_type, is_nullable}
use Rattle.wasm_types.specs.MemoryTypes.{MemoryParts, are_memory_limits}
use Rattle.wasm_types.specs.Signatures.{Signature}
use Rattle.wasm_types.specs.TableTypes.{TableParts, are_table_limits}
use Rattle.wasm_types.specs.declared.plain.Mutability.{Mutability}
use Rattle.wasm_types.specs.declared.plain.Mutability.TheVariants.{Const, Var}
use Rattle.wasm_types.specs.declared.value_types.HeapType.{HeapType}
use Rattle.wasm_types.specs.declared.value_types.HeapType.TheVariants as h
use Rattle.wasm_types.specs.declared.value_types.RefType.{RefType}
use Rattle.wasm_types.specs.declared.value_types.ValType.{ValType}
use Rattle.wasm_types.specs.declared.value_types.ValType.TheVariants as t
use Rattle.script_json.specs.Fields.{◌>>=◌}
use Rattle.tape_values.specs.Writing.{whole_data, text_data}

-- the number of the first type that is equal to this one, where the first of the list has the number n
abbrev pub number_from : ℕ → Signature → List Signature → Option ℕ
number_from n ty [] = None
number_from n ty (other ∷ types) = if same other ty then Some n else number_from (suc n) ty types

abbrev pub number_of : List Signature → Signature → Option ℕ
number_of types ty = number_from 0 ty types

abbrev pub type_data : List Signature → Signature → Option Data
type_data types ty = number_of types ty >>= (λ n. Some (whole_data n))

-- WebAssembly core specification, "Types, heap types"
abbrev pub heap_data : List Signature → HeapType → Option Data
heap_data types h.Func = Some (text_data (codes "func"))
heap_data types h.NoFunc = Some (text_data (codes "nofunc"))
heap_data types h.Extern = Some (text_data (codes "extern"))
heap_data types h.NoExtern = Some (text_data (codes "noextern"))
heap_data types h.Any = Some (text_data (codes "any"))
heap_data types h.Eq = Some (text_data (codes "eq"))
heap_data types h.I31 = Some (text_data (codes "i31"))
heap_data types h.None = Some (text_data (codes "none"))
heap_data types (h.ConcreteFunc ty) = type_data types ty

-- "Types, reference types"
abbrev pub reference_by : Bool → Data → Data
reference_by nullable heap =
    json.object (member (codes "null") (json.boolean nullable) (member (codes "ref") heap no_members))

abbrev pub reference_data : List Signature → RefType → Option Data
reference_data types ty = heap_data types (heap_type ty) >>= (λ heap. Some (reference_by (is_nullable ty) heap))

-- "Types, value types"
abbrev pub val_type_data : List Signature → ValType → Option Data
val_type_data types t.I32 = Some (text_data (codes "i32"))
val_type_data types t.I64 = Some (text_data (codes "i64"))
val_type_data types t.F32 = Some (text_data (codes "f32"))
val_type_data types t.F64 = Some (text_data (codes "f64"))
val_type_data types t.V128 = Some (text_data (codes "v128"))
val_type_data types (t.Ref ty) = reference_data types ty

-- whether a global may be set
abbrev pub mutability_data : Mutability → Data
mutability_data Const = json.boolean false
mutability_data Var = json.boolean true

-- the limits of a type of memories, of tables are some, and each is a number of 32 bits
pub record MemoryInRange (ty : MemoryParts) : Type 0 where
  pub limits : are_memory_limits ty ≡ true
  pub minimum : ty.minimum < 2 ^ 32
  pub maximum : IfSome ty.maximum (λ most. most < 2 ^ 32)
  pub page : ty.page_size_log2 ≤ 16

pub record TableInRange (ty : TableParts) : Type 0 where
  pub limits : are_table_limits ty ≡ true
  pub minimum : ty.minimum < 2 ^ 32
  pub maximum : IfSome ty.maximum (λ most. most < 2 ^ 32)
