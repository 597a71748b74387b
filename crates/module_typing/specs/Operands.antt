-- The types of operands, in the code of a function.
use Rattle.std.specs.Prelude.{List, map, slice_get, Option, Some, None}
use Rattle.wasm_types.specs.declared.value_types.ValType.{ValType}
use Rattle.wasm_types.specs.declared.value_types.ValType.TheVariants as v
use Rattle.module_typing.specs.Code.{in_code}
use Rattle.module_typing.specs.declared.code.Code.{Code}
use Rattle.module_typing.specs.declared.operand.Operand.{Operand}
use Rattle.module_typing.specs.declared.operand.Operand.TheVariants as operand

-- the type of a local; a number where the local is not there, which no operand is read from; this project's own
abbrev pub type_or_number : Option ValType → ValType
type_or_number None = v.I32
type_or_number (Some ty) = ty

-- the type of an operand; this project's own
abbrev pub type_in : Code → Operand → ValType
type_in c (operand.Own ty) = ty
type_in c (operand.Local index) = type_or_number (slice_get (in_code c).locals index)

-- no abbreviation, so that a proof goes by what is said of it
unfoldable pub types_in : Code → List Operand → List ValType
types_in c operands = map (type_in c) operands
