-- The rules that a valid declaration keeps, each as a test of every item that tells whether the item breaks it.
-- WebAssembly core specification, "Validation, Modules"; the limits, the rule on engines and the rule on locals are this
-- project's own. Where an item names what is not there, the rules behind Index say nothing of it.
use Rattle.std.specs.Prelude.{◌≡◌, ℕ, ◌+◌, ◌^◌, Bool, true, false, not, ◌&&◌, ◌||◌, List, length, take, Option, Some, None, nat_eq, nat_lt, option_to_list, slice_get}
use Rattle.std.specs.List.{list_all, list_any}
use Rattle.std.specs.Str.{bytes_eq}
use Rattle.wasm_types.specs.Signatures.{Signature, is_of}
use Rattle.wasm_types.specs.FunctionParts.{params, results, is_nullable, ref_is_of, val_is_of}
use Rattle.wasm_types.specs.Matching.{ref_matches}
use Rattle.wasm_types.specs.MemoryTypes.{MemoryParts}
use Rattle.wasm_types.specs.TableTypes.{TableParts}
use Rattle.wasm_types.specs.declared.extern_type.ExternType.{ExternType}
use Rattle.wasm_types.specs.declared.extern_type.ExternType.TheVariants as x
use Rattle.wasm_types.specs.declared.value_types.RefType.{RefType}
use Rattle.wasm_types.specs.declared.value_types.ValType.{ValType}
use Rattle.wasm_types.specs.declared.value_types.ValType.TheVariants as v
use Rattle.wasm_syntax.specs.Constants.{table_fits, global_fits, element_fits, data_fits}
use Rattle.wasm_syntax.specs.Contexts.{functions, tables, memories, globals, tags, function_type, params_of}
use Rattle.wasm_syntax.specs.Shapes.{is_empty, has_shape}
use Rattle.wasm_syntax.specs.Typing.{is_typed}
use Rattle.wasm_syntax.specs.declared.declarations.Block.{Block}
use Rattle.wasm_syntax.specs.declared.declarations.ExportDecl.{ExportDecl}
use Rattle.wasm_syntax.specs.declared.declarations.FuncDecl.{FuncDecl}
use Rattle.wasm_syntax.specs.declared.declarations.GlobalDecl.{GlobalDecl}
use Rattle.wasm_syntax.specs.declared.declarations.ImportDecl.{ImportDecl}
use Rattle.wasm_syntax.specs.declared.declarations.ModuleDecl.{ModuleDecl}
use Rattle.wasm_syntax.specs.declared.declarations.TableDecl.{TableDecl}
use Rattle.wasm_syntax.specs.declared.entities.EntityIndex.{EntityIndex}
use Rattle.wasm_syntax.specs.declared.entities.EntityIndex.TheVariants as e
use Rattle.wasm_syntax.specs.declared.module_fault.Rule.{Rule}
use Rattle.wasm_syntax.specs.declared.module_fault.Rule.TheVariants as rule
use Rattle.wasm_syntax.specs.declared.segments.DataDecl.{DataDecl}
use Rattle.wasm_syntax.specs.declared.segments.DataMode.{DataMode}
use Rattle.wasm_syntax.specs.declared.segments.DataMode.TheVariants as data_mode
use Rattle.wasm_syntax.specs.declared.segments.ElemDecl.{ElemDecl}
use Rattle.wasm_syntax.specs.declared.segments.ElemMode.{ElemMode}
use Rattle.wasm_syntax.specs.declared.segments.ElemMode.TheVariants as elem_mode

-- for each part, whether the item of this number breaks a rule
pub record Tests : Type 0 where
  pub types : ℕ → Signature → Bool
  pub imports : ℕ → ImportDecl → Bool
  pub functions : ℕ → FuncDecl → Bool
  pub tables : ℕ → TableDecl → Bool
  pub memories : ℕ → MemoryParts → Bool
  pub globals : ℕ → GlobalDecl → Bool
  pub tags : ℕ → ℕ → Bool
  pub exports : ℕ → ExportDecl → Bool
  pub elements : ℕ → ElemDecl → Bool
  pub datas : ℕ → DataDecl → Bool
  pub start : ℕ → ℕ → Bool

-- no item breaks it
abbrev pub never : {A : Type 0} → ℕ → A → Bool
never n a = false

abbrev pub no_tests : Tests
no_tests = record {
  types = never;
  imports = never;
  functions = never;
  tables = never;
  memories = never;
  globals = never;
  tags = never;
  exports = never;
  elements = never;
  datas = never;
  start = never;
}

-- Size: a list has at most 1,000,000 items, a function at most 10,000 parameters and locals, a data segment at most 2^24
-- bytes; this project's own. Where a function's type number is not there, its locals alone count.
abbrev pub is_past : {A : Type 0} → ℕ → A → Bool
is_past n a = nat_eq n 1000000

abbrev pub has_many_locals : ModuleDecl → FuncDecl → Bool
has_many_locals d f = nat_lt 10000 (length (params_of (slice_get d.types f.ty)) + length f.locals)

abbrev pub has_many_items : ElemDecl → Bool
has_many_items s = nat_lt 1000000 (length s.items)

abbrev pub has_many_bytes : DataDecl → Bool
has_many_bytes s = nat_lt (2 ^ 24) (length s.bytes)

abbrev pub size : ModuleDecl → Tests
size d = record {
  types = is_past;
  imports = is_past;
  functions = λ n f. is_past n f || has_many_locals d f;
  tables = is_past;
  memories = is_past;
  globals = is_past;
  tags = is_past;
  exports = is_past;
  elements = λ n s. is_past n s || has_many_items s;
  datas = λ n s. is_past n s || has_many_bytes s;
  start = never;
}

-- Engine: each type within an item is of the module's engine; this project's own
abbrev pub extern_is_of : ℕ → ExternType → Bool
extern_is_of engine (x.Func t) = is_of engine t
extern_is_of engine (x.Global t) = val_is_of engine t.content
extern_is_of engine (x.Table t) = ref_is_of engine t.element
extern_is_of engine (x.Memory t) = true
extern_is_of engine (x.Tag t) = is_of engine t

abbrev pub engine : ModuleDecl → Tests
engine d = record no_tests {
  types = λ n t. not (is_of d.engine.0 t);
  imports = λ n import. not (extern_is_of d.engine.0 import.ty);
  functions = λ n f. not (list_all (val_is_of d.engine.0) f.locals);
  tables = λ n t. not (ref_is_of d.engine.0 t.ty.element);
  globals = λ n g. not (val_is_of d.engine.0 g.ty.content);
  elements = λ n s. not (ref_is_of d.engine.0 s.ty);
}

-- Index: what is named outside of code and of constant expressions is there
-- "Validation, Modules, Functions", "Tags", "Exports", "Element segments", "Data segments", "Start function"
abbrev pub is_there : {A : Type 0} → List A → ℕ → Bool
is_there xs n = nat_lt n (length xs)

abbrev pub has_types : ModuleDecl → FuncDecl → Bool
has_types d f = is_there d.types f.ty && list_all (λ (b : Block). is_there d.types b.ty) f.blocks

abbrev pub has_entity : ModuleDecl → EntityIndex → Bool
has_entity d (e.Func n) = is_there (functions d) n
has_entity d (e.Global n) = is_there (globals d) n
has_entity d (e.Table n) = is_there (tables d) n
has_entity d (e.Memory n) = is_there (memories d) n
has_entity d (e.Tag n) = is_there (tags d) n

abbrev pub has_table : ModuleDecl → ElemMode → Bool
has_table d (elem_mode.Active table offset) = is_there (tables d) table
has_table d _ = true

abbrev pub has_memory : ModuleDecl → DataMode → Bool
has_memory d (data_mode.Active memory offset) = is_there (memories d) memory
has_memory d _ = true

abbrev pub index : ModuleDecl → Tests
index d = record no_tests {
  functions = λ n f. not (has_types d f);
  tags = λ n t. not (is_there d.types t);
  exports = λ n export. not (has_entity d export.entity);
  elements = λ n s. not (has_table d s.mode);
  datas = λ n s. not (has_memory d s.mode);
  start = λ n f. not (is_there (functions d) f);
}

-- Local: each local has a default value; this project's own, since the core specification lets a local be set first
abbrev pub has_default : ValType → Bool
has_default (v.Ref r) = is_nullable r
has_default _ = true

abbrev pub local : ModuleDecl → Tests
local d = record no_tests { functions = λ n f. not (list_all has_default f.locals) }

-- Shape: the blocks of a function are a tree below its body, within the limits; this project's own
abbrev pub shape : ModuleDecl → Tests
shape d = record no_tests { functions = λ n f. not (has_shape f) }

-- Const: each constant expression fits
-- "Validation, Modules, Tables", "Globals", "Element segments", "Data segments"
abbrev pub constants : ModuleDecl → Tests
constants d = record no_tests {
  tables = λ n t. not (table_fits d t);
  globals = λ n g. not (global_fits d n g);
  elements = λ n s. not (element_fits d s);
  datas = λ n s. not (data_fits d s);
}

-- Element: the type of an active element segment matches the element type of its table
-- "Validation, Modules, Element segments"
abbrev pub matches_table : RefType → Option TableParts → Bool
matches_table r None = true
matches_table r (Some table) = ref_matches r table.element

abbrev pub fits_table : ModuleDecl → RefType → ElemMode → Bool
fits_table d r (elem_mode.Active table offset) = matches_table r (slice_get (tables d) table)
fits_table d r _ = true

abbrev pub element : ModuleDecl → Tests
element d = record no_tests { elements = λ n s. not (fits_table d s.ty s.mode) }

-- ExportName: no earlier export has the same name
-- "Validation, Modules, Modules"
abbrev pub is_named_before : ModuleDecl → ℕ → ExportDecl → Bool
is_named_before d n export = list_any (λ (other : ExportDecl). bytes_eq other.name export.name) (take n d.exports)

abbrev pub export_name : ModuleDecl → Tests
export_name d = record no_tests { exports = is_named_before d }

-- Start: the start function has neither parameters nor results
-- "Validation, Modules, Start function"
abbrev pub is_plain : Option Signature → Bool
is_plain None = true
is_plain (Some t) = is_empty (params t) && is_empty (results t)

abbrev pub start : ModuleDecl → Tests
start d = record no_tests { start = λ n f. not (is_plain (function_type (functions d) f)) }

-- Body: the code of each function is well typed
-- "Validation, Modules, Functions"
abbrev pub body : ModuleDecl → Tests
body d = record no_tests { functions = λ n f. not (is_typed d f) }

abbrev pub tests : Rule → ModuleDecl → Tests
tests rule.Size = size
tests rule.Engine = engine
tests rule.Index = index
tests rule.Local = local
tests rule.Shape = shape
tests rule.Const = constants
tests rule.Element = element
tests rule.ExportName = export_name
tests rule.Start = start
tests rule.Body = body

-- no item of a declaration passes its part's test
pub record IsKept (t : Tests) (d : ModuleDecl) : Type 0 where
  pub in_types : (n : ℕ) (a : Signature) → slice_get d.types n ≡ Some a → t.types n a ≡ false
  pub in_imports : (n : ℕ) (a : ImportDecl) → slice_get d.imports n ≡ Some a → t.imports n a ≡ false
  pub in_functions : (n : ℕ) (a : FuncDecl) → slice_get d.functions n ≡ Some a → t.functions n a ≡ false
  pub in_tables : (n : ℕ) (a : TableDecl) → slice_get d.tables n ≡ Some a → t.tables n a ≡ false
  pub in_memories : (n : ℕ) (a : MemoryParts) → slice_get d.memories n ≡ Some a → t.memories n a ≡ false
  pub in_globals : (n : ℕ) (a : GlobalDecl) → slice_get d.globals n ≡ Some a → t.globals n a ≡ false
  pub in_tags : (n a : ℕ) → slice_get d.tags n ≡ Some a → t.tags n a ≡ false
  pub in_exports : (n : ℕ) (a : ExportDecl) → slice_get d.exports n ≡ Some a → t.exports n a ≡ false
  pub in_elements : (n : ℕ) (a : ElemDecl) → slice_get d.elements n ≡ Some a → t.elements n a ≡ false
  pub in_datas : (n : ℕ) (a : DataDecl) → slice_get d.datas n ≡ Some a → t.datas n a ≡ false
  pub in_start : (n a : ℕ) → slice_get (option_to_list d.start) n ≡ Some a → t.start n a ≡ false

-- each rule is kept
abbrev pub IsValid : ModuleDecl → Type 0
IsValid d = (r : Rule) → IsKept (tests r d) d
