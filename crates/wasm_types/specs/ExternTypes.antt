-- The types of imports and exports, and when what is given for an import matches what is declared.
-- WebAssembly core specification, "Types, external types" and "Validation, matching, external types"
use Rattle.std.specs.Prelude.{ℕ, Bool, true, false, ◌&&◌, nat_le, nat_eq, Option, Some, None}
use Rattle.std.specs.Bool.{beq}
use Rattle.std.specs.Coded.{Coded}
use Rattle.wasm_types.specs.Signatures.{end}
use Rattle.wasm_types.specs.Equality.{same, same_heap, same_types}
use Rattle.wasm_types.specs.FunctionParts.{is_nullable, heap_type, heap_of, with_type}
use Rattle.wasm_types.specs.Matching.{matches, val_matches}
use Rattle.wasm_types.specs.GlobalTypes.{GlobalParts}
use Rattle.wasm_types.specs.MemoryTypes.{MemoryParts}
use Rattle.wasm_types.specs.TableTypes.{TableParts}
use Rattle.wasm_types.specs.declared.plain.Mutability.{Mutability}
use Rattle.wasm_types.specs.declared.plain.Mutability.TheVariants.{Const, Var}
use Rattle.wasm_types.specs.declared.value_types.RefType.{RefType}
use Rattle.wasm_types.specs.declared.value_types.ValType.{ValType}
use Rattle.wasm_types.specs.declared.extern_type.ExternType.{ExternType}
use Rattle.wasm_types.specs.declared.extern_type.ExternType.TheVariants as x
use Rattle.wasm_types.specs.contracts.extern_type.ExternType as extern_type

-- whether two reference types, two value types are equal
abbrev pub same_ref_type : RefType → RefType → Bool
same_ref_type a b = beq (is_nullable a) (is_nullable b) && same_heap (heap_of (heap_type a)) (heap_of (heap_type b))

abbrev pub same_val_type : ValType → ValType → Bool
same_val_type a b = same_types (with_type a end) (with_type b end)

-- the present size is at least the declared minimum; where a maximum is declared, the actual one is there and is not
-- greater
-- "Validation, matching, limits"; the present size stands for the actual minimum, since "Execution, modules, growing
-- tables" and "growing memories" set the minimum to it
abbrev pub maximum_fits : Option ℕ → Option ℕ → Bool
maximum_fits None actual = true
maximum_fits (Some declared) None = false
maximum_fits (Some declared) (Some actual) = nat_le actual declared

abbrev pub limits_fit : ℕ → Option ℕ → Option ℕ → ℕ → Bool
limits_fit minimum maximum actual current = nat_le minimum current && maximum_fits maximum actual

-- a constant global has a content that matches, a variable one an equal content
-- "Validation, matching, global types"
abbrev pub content_fits : Mutability → Mutability → ValType → ValType → Bool
content_fits Const Const declared actual = val_matches actual declared
content_fits Var Var declared actual = same_val_type declared actual
content_fits _ _ declared actual = false

abbrev pub global_fits : GlobalParts → GlobalParts → Bool
global_fits declared actual = content_fits declared.mutability actual.mutability declared.content actual.content

-- "Validation, matching, table types"
abbrev pub table_fits : TableParts → TableParts → ℕ → Bool
table_fits declared actual current =
    same_ref_type declared.element actual.element && limits_fit declared.minimum declared.maximum actual.maximum current

-- "Validation, matching, memory types"
abbrev pub memory_fits : MemoryParts → MemoryParts → ℕ → Bool
memory_fits declared actual current =
    nat_eq declared.page_size_log2 actual.page_size_log2
    && limits_fit declared.minimum declared.maximum actual.maximum current

-- what is declared, what is given, and the present size of what is given, in pages or elements
-- a function's type matches, a tag's type is equal
abbrev pub import_matches : ExternType → ExternType → ℕ → Bool
import_matches (x.Func declared) (x.Func actual) current = matches actual declared
import_matches (x.Global declared) (x.Global actual) current = global_fits declared actual
import_matches (x.Table declared) (x.Table actual) current = table_fits declared actual current
import_matches (x.Memory declared) (x.Memory actual) current = memory_fits declared actual current
import_matches (x.Tag declared) (x.Tag actual) current = same declared actual
import_matches _ _ _ = false

-- the code by which proofs tell the types of imports apart
abbrev pub extern_type_code : Coded ExternType
extern_type_code = extern_type.the_row.coded
