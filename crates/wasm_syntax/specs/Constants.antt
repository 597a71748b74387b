-- The types of constant expressions, and which fit where.
-- WebAssembly core specification, "Validation, Instructions, Constant expressions" and "Validation, Modules, Globals"; the
-- type of a null is this project's own
use Rattle.std.specs.Prelude.{ℕ, ◌+◌, Bool, true, false, ◌&&◌, List, length, take, Option, Some, None, option_and_then, option_map, slice_get}
use Rattle.std.specs.List.{list_all}
use Rattle.wasm_types.specs.Signatures.{Signature}
use Rattle.wasm_types.specs.FunctionParts.{ref_type, nullable_ref}
use Rattle.wasm_types.specs.GlobalTypes.{GlobalParts}
use Rattle.wasm_types.specs.Matching.{val_matches}
use Rattle.wasm_types.specs.declared.plain.HeapTopType.{HeapTopType}
use Rattle.wasm_types.specs.declared.plain.HeapTopType.TheVariants as top
use Rattle.wasm_types.specs.declared.plain.Mutability.{Mutability}
use Rattle.wasm_types.specs.declared.plain.Mutability.TheVariants.{Const, Var}
use Rattle.wasm_types.specs.declared.value_types.HeapType.{HeapType}
use Rattle.wasm_types.specs.declared.value_types.HeapType.TheVariants as h
use Rattle.wasm_types.specs.declared.value_types.ValType.{ValType}
use Rattle.wasm_types.specs.declared.value_types.ValType.TheVariants as v
use Rattle.wasm_syntax.specs.Contexts.{imported, as_global, functions, globals, function_type}
use Rattle.wasm_syntax.specs.declared.constants.ConstExpr.{ConstExpr}
use Rattle.wasm_syntax.specs.declared.constants.ConstExpr.TheVariants as c
use Rattle.wasm_syntax.specs.declared.declarations.GlobalDecl.{GlobalDecl}
use Rattle.wasm_syntax.specs.declared.declarations.ModuleDecl.{ModuleDecl}
use Rattle.wasm_syntax.specs.declared.declarations.TableDecl.{TableDecl}
use Rattle.wasm_syntax.specs.declared.segments.DataDecl.{DataDecl}
use Rattle.wasm_syntax.specs.declared.segments.DataMode.{DataMode}
use Rattle.wasm_syntax.specs.declared.segments.DataMode.TheVariants as data_mode
use Rattle.wasm_syntax.specs.declared.segments.ElemDecl.{ElemDecl}
use Rattle.wasm_syntax.specs.declared.segments.ElemMode.{ElemMode}
use Rattle.wasm_syntax.specs.declared.segments.ElemMode.TheVariants as elem_mode

-- the least heap type of a family
abbrev pub bottom : HeapTopType → HeapType
bottom top.Func = h.NoFunc
bottom top.Extern = h.NoExtern
bottom top.Any = h.None

-- the type of a null: nullable references to the least heap type; this project's own
abbrev pub null_type : HeapTopType → ValType
null_type t = nullable_ref (bottom t)

-- the type of a reference to a function: non-null
abbrev pub function_ref : Signature → ValType
function_ref t = v.Ref (ref_type false (h.ConcreteFunc t))

-- the content of a constant global
abbrev pub constant : Mutability → ValType → Option ValType
constant Const t = Some t
constant Var t = None

abbrev pub constant_content : GlobalParts → Option ValType
constant_content g = constant g.mutability g.content

-- the type of a constant expression over these functions and globals, if what it names is there and constant
abbrev pub const_type : List (Option Signature) → List GlobalParts → ConstExpr → Option ValType
const_type fs gs (c.I32 n) = Some v.I32
const_type fs gs (c.I64 n) = Some v.I64
const_type fs gs (c.F32 bits) = Some v.F32
const_type fs gs (c.F64 bits) = Some v.F64
const_type fs gs (c.V128 n) = Some v.V128
const_type fs gs (c.RefNull t) = Some (null_type t)
const_type fs gs (c.RefFunc f) = option_map function_ref (function_type fs f)
const_type fs gs (c.GlobalGet g) = option_and_then constant_content (slice_get gs g)

abbrev pub is_below : Option ValType → ValType → Bool
is_below None wanted = false
is_below (Some t) wanted = val_matches t wanted

-- whether it has a type, and that matches the wanted one
abbrev pub const_fits : List (Option Signature) → List GlobalParts → ValType → ConstExpr → Bool
const_fits fs gs wanted e = is_below (const_type fs gs e) wanted

-- the globals that a global's start value may name: the imports and those defined before it; for the elements of a table,
-- which no defined global is before, the imports
abbrev pub globals_before : ModuleDecl → ℕ → List GlobalParts
globals_before d n = take (length (imported as_global d) + n) (globals d)

abbrev pub table_fits : ModuleDecl → TableDecl → Bool
table_fits d t = const_fits (functions d) (imported as_global d) (v.Ref t.ty.element) t.init

abbrev pub global_fits : ModuleDecl → ℕ → GlobalDecl → Bool
global_fits d n g = const_fits (functions d) (globals_before d n) g.ty.content g.init

-- an offset is a number; it and the items of a segment may name each global
abbrev pub offset_fits : ModuleDecl → ConstExpr → Bool
offset_fits d e = const_fits (functions d) (globals d) v.I32 e

abbrev pub elem_offset_fits : ModuleDecl → ElemMode → Bool
elem_offset_fits d (elem_mode.Active table offset) = offset_fits d offset
elem_offset_fits d _ = true

abbrev pub element_fits : ModuleDecl → ElemDecl → Bool
element_fits d e =
    elem_offset_fits d e.mode && list_all (const_fits (functions d) (globals d) (v.Ref e.ty)) e.items

abbrev pub data_offset_fits : ModuleDecl → DataMode → Bool
data_offset_fits d (data_mode.Active memory offset) = offset_fits d offset
data_offset_fits d _ = true

abbrev pub data_fits : ModuleDecl → DataDecl → Bool
data_fits d s = data_offset_fits d s.mode
