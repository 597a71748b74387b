-- Values as arguments: which stand for parameters of which types. This project's own.
use Rattle.std.specs.Prelude.{Bool, true, false, ◌&&◌, List, [], ◌∷◌, Option, Some, None}
use Rattle.wasm_types.specs.FunctionParts.{nullable_ref}
use Rattle.wasm_types.specs.Matching.{val_matches}
use Rattle.wasm_types.specs.declared.value_types.HeapType.TheVariants as h
use Rattle.wasm_types.specs.declared.value_types.ValType.{ValType}
use Rattle.wasm_types.specs.declared.value_types.ValType.TheVariants as t
use Rattle.wasm_values.specs.declared.values.Val.{Val}
use Rattle.wasm_values.specs.declared.values.Val.TheVariants as v

-- the least type of a value. A reference that is not null has none: what it leads to is of another store
abbrev pub type_of : Val → Option ValType
type_of (v.I32 n) = Some t.I32
type_of (v.I64 n) = Some t.I64
type_of (v.F32 bits) = Some t.F32
type_of (v.F64 bits) = Some t.F64
type_of (v.V128 bits) = Some t.V128
type_of (v.FuncRef None) = Some (nullable_ref h.NoFunc)
type_of (v.ExternRef None) = Some (nullable_ref h.NoExtern)
type_of (v.AnyRef None) = Some (nullable_ref h.None)
type_of (v.FuncRef (Some f)) = None
type_of (v.ExternRef (Some e)) = None
type_of (v.AnyRef (Some a)) = None

abbrev pub is_below : Option ValType → ValType → Bool
is_below None ty = false
is_below (Some least) ty = val_matches least ty

-- one for each type, which may stand where it is wanted
abbrev pub all_fit : List ValType → List Val → Bool
all_fit [] [] = true
all_fit [] (val ∷ vals) = false
all_fit (ty ∷ types) [] = false
all_fit (ty ∷ types) (val ∷ vals) = is_below (type_of val) ty && all_fit types vals
