-- Which types of references, values, tables, globals and externals are types.
-- WebAssembly core specification, "Validation, types"; that a type in a type keeps the limits of depth and size, and one
-- engine, is this project's own
use Rattle.std.specs.Prelude.{◌≡◌, true}
use Rattle.wasm_types.specs.FunctionParts.{heap_of, heap_type}
use Rattle.wasm_types.specs.FunctionRules.{IsHeapSound, IsSound}
use Rattle.wasm_types.specs.GlobalTypes.{GlobalParts}
use Rattle.wasm_types.specs.MemoryTypes.{are_memory_limits}
use Rattle.wasm_types.specs.TableTypes.{TableParts, are_table_limits}
use Rattle.wasm_types.specs.declared.extern_type.ExternType.{ExternType}
use Rattle.wasm_types.specs.declared.extern_type.ExternType.TheVariants as x
use Rattle.wasm_types.specs.declared.value_types.RefType.{RefType}
use Rattle.wasm_types.specs.declared.value_types.ValType.{ValType}
use Rattle.wasm_types.specs.declared.value_types.ValType.TheVariants as t

-- the function types in a type keep the rule on supertypes
abbrev pub IsRefSound : RefType → Type 0
IsRefSound ty = IsHeapSound (heap_of (heap_type ty))

abbrev pub IsValSound : ValType → Type 0
IsValSound (t.Ref ty) = IsRefSound ty
IsValSound _ = Unit {0}

-- a table type has its limits in order, and a sound element type
abbrev pub IsTableSound : TableParts → Type 0
IsTableSound ty = (are_table_limits ty ≡ true) × IsRefSound ty.element

-- a global type has a sound content
abbrev pub IsGlobalSound : GlobalParts → Type 0
IsGlobalSound ty = IsValSound ty.content

-- the type of an import or an export is one; a memory type has its limits in order and in range
abbrev pub IsExternSound : ExternType → Type 0
IsExternSound (x.Func ty) = IsSound ty
IsExternSound (x.Global ty) = IsGlobalSound ty
IsExternSound (x.Table ty) = IsTableSound ty
IsExternSound (x.Memory ty) = are_memory_limits ty ≡ true
IsExternSound (x.Tag ty) = IsSound ty
