-- What texts spell of modules and their entries, each by computation.
use Rattle.std.proofs.Common.{◌≡◌, ℕ, pos, negsuc, List, [], ◌∷◌, Option, Some, None, true, false, refl}
use Rattle.std.specs.Prelude.{codes}
use Rattle.std.specs.Str.{is_utf8, chars}
use Rattle.serde_json.proofs.OnLiterals.{serde_json_on_literals}
use Rattle.serde_json.specs.Data.{Data}
use Rattle.hex.proofs.OnLiterals.{hex_on_literals}
use Rattle.wasm_types.specs.FunctionParts.{parts, from_parts, ref_type, nullable_ref}
use Rattle.wasm_types.specs.GlobalTypes.{global_parts}
use Rattle.wasm_types.specs.MemoryTypes.{memory_parts}
use Rattle.wasm_types.specs.Signatures.{Signature}
use Rattle.wasm_types.specs.TableTypes.{table_parts}
use Rattle.wasm_types.specs.declared.extern_type.ExternType.TheVariants as x
use Rattle.wasm_types.specs.declared.plain.Finality.TheVariants.{Final}
use Rattle.wasm_types.specs.declared.plain.HeapTopType.TheVariants as top
use Rattle.wasm_types.specs.declared.plain.Mutability.TheVariants.{Const, Var}
use Rattle.wasm_types.specs.declared.value_types.HeapType.TheVariants as h
use Rattle.wasm_types.specs.declared.value_types.ValType.TheVariants as t
use Rattle.script_json.specs.Fields.{◌>>=◌}
use Rattle.script_json.specs.Json.{json_of}
use Rattle.wasm_syntax.specs.declared.constants.ConstExpr.TheVariants as const
use Rattle.wasm_syntax.specs.declared.declarations.ModuleDecl.{ModuleDecl}
use Rattle.wasm_syntax.specs.declared.entities.EntityIndex.TheVariants as e
use Rattle.wasm_syntax.specs.declared.instr.Instr.TheVariants as i
use Rattle.wasm_syntax.specs.declared.segments.DataMode.TheVariants as data_mode
use Rattle.wasm_syntax.specs.declared.segments.ElemMode.TheVariants as elem_mode
use Rattle.script_modules.specs.Code.{code_to}
use Rattle.script_modules.specs.CodeParts.{block}
use Rattle.script_modules.specs.Entries.{global_of, memory_of, table_of}
use Rattle.script_modules.specs.Exports.{export_of}
use Rattle.script_modules.specs.Functions.{function_of}
use Rattle.script_modules.specs.Imports.{import_of}
use Rattle.script_modules.specs.InstrNames.{name_of}
use Rattle.script_modules.specs.Modules.{module_of, modules_of}
use Rattle.script_modules.specs.Segments.{data_of, elements_of}

-- what a reader gives of the data that a text spells
abbrev reading : {A : Type 0} → (Data → Option A) → List ℕ → Option A
reading f text = json_of text >>= f

-- the types of a session: () -> () and i32 -> ()
abbrev none : Signature
none = from_parts (parts 1 Final None [] [])

abbrev one : Signature
one = from_parts (parts 1 Final None (t.I32 ∷ []) [])

abbrev types : List Signature
types = none ∷ one ∷ []

abbrev empty : ModuleDecl
empty = record {
  engine = record { 0 = 1 };
  number = 3;
  types = types;
  imports = [];
  functions = [];
  tables = [];
  memories = [];
  globals = [];
  tags = [];
  exports = [];
  elements = [];
  datas = [];
  start = None;
}

abbrev whole : ModuleDecl
whole = record empty {
  imports = record { «module» = 109 ∷ []; name = 110 ∷ []; ty = x.Func one } ∷ [];
  functions = record { ty = 0; locals = []; blocks = block 0 [] ∷ []; targets = [] } ∷ [];
  tables = record { ty = table_parts (ref_type true h.Func) 1 None; init = const.RefNull top.Func } ∷ [];
  memories = memory_parts 1 None 16 ∷ [];
  globals = record { ty = global_parts t.I32 Const; init = const.I32 (pos 7) } ∷ [];
  tags = 0 ∷ 9 ∷ [];
  exports = record { name = 102 ∷ []; entity = e.Func 1 } ∷ [];
  elements = record { ty = ref_type true h.Func; mode = elem_mode.Passive; items = [] } ∷ [];
  datas = record { mode = data_mode.Passive; bytes = 1 ∷ [] } ∷ [];
  start = Some 1;
}

-- ---- functions

-- locals and code may be left out
function_alone : reading (function_of types) (codes "{\"type\":1}") ≡ Some (record { ty = 1; locals = []; blocks = block 1 [] ∷ []; targets = [] })
unfolding serde_json_on_literals is_utf8 chars
function_alone = refl

-- that the type is there is the validator's matter
function_whole : reading (function_of types) (codes "{\"type\":4294967295,\"locals\":[\"i64\",{\"ref\":1}],\"code\":[[\"block\",2,[[\"br_table\",[],0]]]]}") ≡ Some (record { ty = 4294967295; locals = t.I64 ∷ nullable_ref (h.ConcreteFunc one) ∷ []; blocks = block 4294967295 (i.Block 1 ∷ []) ∷ block 2 (i.BrTable 0 ∷ []) ∷ []; targets = (0 ∷ []) ∷ [] })
unfolding serde_json_on_literals is_utf8 chars name_of code_to
function_whole = refl

function_without_type : reading (function_of types) (codes "{\"code\":[]}") ≡ None
unfolding serde_json_on_literals is_utf8 chars name_of code_to
function_without_type = refl

function_type_past_indices : reading (function_of types) (codes "{\"type\":4294967296}") ≡ None
unfolding serde_json_on_literals is_utf8 chars
function_type_past_indices = refl

-- null is no default
null_locals : reading (function_of types) (codes "{\"type\":0,\"locals\":null}") ≡ None
unfolding serde_json_on_literals is_utf8 chars
null_locals = refl

local_of_no_type : reading (function_of types) (codes "{\"type\":0,\"locals\":[{\"ref\":2}]}") ≡ None
unfolding serde_json_on_literals is_utf8 chars
local_of_no_type = refl

other_key_of_a_function : reading (function_of types) (codes "{\"type\":0,\"name\":\"f\"}") ≡ None
unfolding serde_json_on_literals is_utf8 chars
other_key_of_a_function = refl

-- ---- tables, memories, globals

-- a table starts with the null of its family
table_alone : reading (table_of types) (codes "{\"ref\":{\"ref\":0},\"min\":1}") ≡ Some (record { ty = table_parts (ref_type true (h.ConcreteFunc none)) 1 None; init = const.RefNull top.Func })
unfolding serde_json_on_literals is_utf8 chars
table_alone = refl

table_whole : reading (table_of types) (codes "{\"ref\":\"externref\",\"min\":1,\"max\":2,\"init\":[\"global.get\",0]}") ≡ Some (record { ty = table_parts (ref_type true h.Extern) 1 (Some 2); init = const.GlobalGet 0 })
unfolding serde_json_on_literals is_utf8 chars
table_whole = refl

table_null : reading (table_of types) (codes "{\"ref\":\"funcref\",\"min\":1,\"init\":null}") ≡ None
unfolding serde_json_on_literals is_utf8 chars
table_null = refl

table_of_numbers : reading (table_of types) (codes "{\"ref\":\"i32\",\"min\":1}") ≡ None
unfolding serde_json_on_literals is_utf8 chars
table_of_numbers = refl

table_out_of_order : reading (table_of types) (codes "{\"ref\":\"funcref\",\"min\":2,\"max\":1}") ≡ None
unfolding serde_json_on_literals is_utf8 chars
table_out_of_order = refl

memory_alone : reading memory_of (codes "{\"min\":1}") ≡ Some (memory_parts 1 None 16)
unfolding serde_json_on_literals is_utf8 chars
memory_alone = refl

memory_whole : reading memory_of (codes "{\"min\":1,\"max\":70000,\"page\":0}") ≡ Some (memory_parts 1 (Some 70000) 0)
unfolding serde_json_on_literals is_utf8 chars
memory_whole = refl

memory_shared : reading memory_of (codes "{\"min\":1,\"shared\":true}") ≡ None
unfolding serde_json_on_literals is_utf8 chars
memory_shared = refl

global_alone : reading (global_of types) (codes "{\"val\":\"i64\",\"init\":[\"i64.const\",-1]}") ≡ Some (record { ty = global_parts t.I64 Const; init = const.I64 (negsuc 0) })
unfolding serde_json_on_literals is_utf8 chars
global_alone = refl

-- that the value fits is the validator's matter
global_whole : reading (global_of types) (codes "{\"val\":{\"ref\":\"func\",\"null\":false},\"mut\":true,\"init\":[\"ref.func\",0]}") ≡ Some (record { ty = global_parts (t.Ref (ref_type false h.Func)) Var; init = const.RefFunc 0 })
unfolding serde_json_on_literals is_utf8 chars
global_whole = refl

global_without_value : reading (global_of types) (codes "{\"val\":\"i64\"}") ≡ None
unfolding serde_json_on_literals is_utf8 chars
global_without_value = refl

-- ---- imports and exports

imported_function : reading (import_of types) (codes "{\"module\":\"m\",\"name\":\"n\",\"func\":1}") ≡ Some (record { «module» = 109 ∷ []; name = 110 ∷ []; ty = x.Func one })
unfolding serde_json_on_literals is_utf8 chars
imported_function = refl

imported_table : reading (import_of types) (codes "{\"module\":\"m\",\"name\":\"n\",\"table\":{\"ref\":\"anyref\",\"min\":0}}") ≡ Some (record { «module» = 109 ∷ []; name = 110 ∷ []; ty = x.Table (table_parts (ref_type true h.Any) 0 None) })
unfolding serde_json_on_literals is_utf8 chars
imported_table = refl

imported_memory : reading (import_of types) (codes "{\"module\":\"m\",\"name\":\"n\",\"memory\":{\"min\":0,\"max\":3}}") ≡ Some (record { «module» = 109 ∷ []; name = 110 ∷ []; ty = x.Memory (memory_parts 0 (Some 3) 16) })
unfolding serde_json_on_literals is_utf8 chars
imported_memory = refl

imported_global : reading (import_of types) (codes "{\"module\":\"m\",\"name\":\"n\",\"global\":{\"val\":\"f32\",\"mut\":true}}") ≡ Some (record { «module» = 109 ∷ []; name = 110 ∷ []; ty = x.Global (global_parts t.F32 Var) })
unfolding serde_json_on_literals is_utf8 chars
imported_global = refl

imported_tag : reading (import_of types) (codes "{\"module\":\"m\",\"name\":\"n\",\"tag\":0}") ≡ Some (record { «module» = 109 ∷ []; name = 110 ∷ []; ty = x.Tag none })
unfolding serde_json_on_literals is_utf8 chars
imported_tag = refl

-- the type of an import is there
imported_type_not_there : reading (import_of types) (codes "{\"module\":\"m\",\"name\":\"n\",\"func\":2}") ≡ None
unfolding serde_json_on_literals is_utf8 chars
imported_type_not_there = refl

-- an import has no start value
imported_value : reading (import_of types) (codes "{\"module\":\"m\",\"name\":\"n\",\"table\":{\"ref\":\"anyref\",\"min\":0,\"init\":[\"ref.null\",\"any\"]}}") ≡ None
unfolding serde_json_on_literals is_utf8 chars
imported_value = refl

-- just one of the five keys
two_kinds : reading (import_of types) (codes "{\"module\":\"m\",\"name\":\"n\",\"func\":0,\"tag\":0}") ≡ None
unfolding serde_json_on_literals is_utf8 chars
two_kinds = refl

no_kind : reading (import_of types) (codes "{\"module\":\"m\",\"name\":\"n\"}") ≡ None
unfolding serde_json_on_literals is_utf8 chars
no_kind = refl

one_name : reading (import_of types) (codes "{\"module\":\"m\",\"func\":0}") ≡ None
unfolding serde_json_on_literals is_utf8 chars
one_name = refl

empty_names : reading (import_of types) (codes "{\"module\":\"\",\"name\":\"\",\"tag\":0}") ≡ Some (record { «module» = []; name = []; ty = x.Tag none })
unfolding serde_json_on_literals is_utf8 chars
empty_names = refl

-- names hold no line feed and no carriage return
line_feed : reading (import_of types) (codes "{\"module\":\"m\\n\",\"name\":\"n\",\"func\":0}") ≡ None
unfolding serde_json_on_literals is_utf8 chars
line_feed = refl

carriage_return : reading (import_of types) (codes "{\"module\":\"m\",\"name\":\"\\r\",\"func\":0}") ≡ None
unfolding serde_json_on_literals is_utf8 chars
carriage_return = refl

tabulator : reading export_of (codes "{\"name\":\"\\t\",\"func\":0}") ≡ Some (record { name = 9 ∷ []; entity = e.Func 0 })
unfolding serde_json_on_literals is_utf8 chars
tabulator = refl

exported_func : reading export_of (codes "{\"name\":\"n\",\"func\":4}") ≡ Some (record { name = 110 ∷ []; entity = e.Func 4 })
unfolding serde_json_on_literals is_utf8 chars
exported_func = refl

exported_table : reading export_of (codes "{\"name\":\"n\",\"table\":4}") ≡ Some (record { name = 110 ∷ []; entity = e.Table 4 })
unfolding serde_json_on_literals is_utf8 chars
exported_table = refl

exported_memory : reading export_of (codes "{\"name\":\"n\",\"memory\":4}") ≡ Some (record { name = 110 ∷ []; entity = e.Memory 4 })
unfolding serde_json_on_literals is_utf8 chars
exported_memory = refl

exported_global : reading export_of (codes "{\"name\":\"n\",\"global\":4}") ≡ Some (record { name = 110 ∷ []; entity = e.Global 4 })
unfolding serde_json_on_literals is_utf8 chars
exported_global = refl

exported_tag : reading export_of (codes "{\"name\":\"n\",\"tag\":4}") ≡ Some (record { name = 110 ∷ []; entity = e.Tag 4 })
unfolding serde_json_on_literals is_utf8 chars
exported_tag = refl

two_exports : reading export_of (codes "{\"name\":\"n\",\"func\":0,\"table\":0}") ≡ None
unfolding serde_json_on_literals is_utf8 chars
two_exports = refl

line_feed_exported : reading export_of (codes "{\"name\":\"a\\nb\",\"func\":0}") ≡ None
unfolding serde_json_on_literals is_utf8 chars
line_feed_exported = refl

-- ---- segments

passive_elements : reading (elements_of types) (codes "{\"ref\":\"funcref\",\"items\":[[\"ref.func\",0],[\"ref.null\",\"func\"]]}") ≡ Some (record { ty = ref_type true h.Func; mode = elem_mode.Passive; items = const.RefFunc 0 ∷ const.RefNull top.Func ∷ [] })
unfolding serde_json_on_literals is_utf8 chars
passive_elements = refl

declared_elements : reading (elements_of types) (codes "{\"ref\":\"funcref\",\"items\":[],\"declared\":true}") ≡ Some (record { ty = ref_type true h.Func; mode = elem_mode.Declared; items = [] })
unfolding serde_json_on_literals is_utf8 chars
declared_elements = refl

active_elements : reading (elements_of types) (codes "{\"ref\":\"funcref\",\"items\":[],\"table\":2,\"offset\":[\"global.get\",1]}") ≡ Some (record { ty = ref_type true h.Func; mode = elem_mode.Active 2 (const.GlobalGet 1); items = [] })
unfolding serde_json_on_literals is_utf8 chars
active_elements = refl

not_declared : reading (elements_of types) (codes "{\"ref\":\"funcref\",\"items\":[],\"declared\":false}") ≡ None
unfolding serde_json_on_literals is_utf8 chars
not_declared = refl

-- a table and an offset come together, and not where the segment is declared
elements_without_offset : reading (elements_of types) (codes "{\"ref\":\"funcref\",\"items\":[],\"table\":0}") ≡ None
unfolding serde_json_on_literals is_utf8 chars
elements_without_offset = refl

elements_without_table : reading (elements_of types) (codes "{\"ref\":\"funcref\",\"items\":[],\"offset\":[\"i32.const\",0]}") ≡ None
unfolding serde_json_on_literals is_utf8 chars
elements_without_table = refl

declared_and_active : reading (elements_of types) (codes "{\"ref\":\"funcref\",\"items\":[],\"table\":0,\"offset\":[\"i32.const\",0],\"declared\":true}") ≡ None
unfolding serde_json_on_literals is_utf8 chars
declared_and_active = refl

no_items : reading (elements_of types) (codes "{\"ref\":\"funcref\"}") ≡ None
unfolding serde_json_on_literals is_utf8 chars
no_items = refl

passive_data : reading data_of (codes "{\"bytes\":\"00fF\"}") ≡ Some (record { mode = data_mode.Passive; bytes = 0 ∷ 255 ∷ [] })
unfolding serde_json_on_literals hex_on_literals is_utf8 chars
passive_data = refl

active_data : reading data_of (codes "{\"bytes\":\"\",\"memory\":0,\"offset\":[\"i32.const\",8]}") ≡ Some (record { mode = data_mode.Active 0 (const.I32 (pos 8)); bytes = [] })
unfolding serde_json_on_literals hex_on_literals is_utf8 chars
active_data = refl

data_without_memory : reading data_of (codes "{\"bytes\":\"\",\"offset\":[\"i32.const\",8]}") ≡ None
unfolding serde_json_on_literals hex_on_literals is_utf8 chars
data_without_memory = refl

half_a_byte : reading data_of (codes "{\"bytes\":\"0\"}") ≡ None
unfolding serde_json_on_literals hex_on_literals is_utf8 chars
half_a_byte = refl

-- ---- modules

-- a module has the types, the engine and the number that are given
no_entries : reading (module_of types (record { 0 = 1 }) 3) (codes "{}") ≡ Some empty
unfolding serde_json_on_literals is_utf8 chars module_of
no_entries = refl

each_entry : reading (module_of types (record { 0 = 1 }) 3) (codes "{\"imports\":[{\"module\":\"m\",\"name\":\"n\",\"func\":1}],\"functions\":[{\"type\":0}],\"tables\":[{\"ref\":\"funcref\",\"min\":1}],\"memories\":[{\"min\":1}],\"globals\":[{\"val\":\"i32\",\"init\":[\"i32.const\",7]}],\"tags\":[0,9],\"exports\":[{\"name\":\"f\",\"func\":1}],\"elements\":[{\"ref\":\"funcref\",\"items\":[]}],\"datas\":[{\"bytes\":\"01\"}],\"start\":1}") ≡ Some whole
unfolding serde_json_on_literals hex_on_literals is_utf8 chars module_of
each_entry = refl

start_in_a_list : reading (module_of types (record { 0 = 1 }) 3) (codes "{\"start\":[1]}") ≡ None
unfolding serde_json_on_literals is_utf8 chars module_of
start_in_a_list = refl

null_start : reading (module_of types (record { 0 = 1 }) 3) (codes "{\"start\":null}") ≡ None
unfolding serde_json_on_literals is_utf8 chars module_of
null_start = refl

-- a module has no types of its own
own_types : reading (module_of types (record { 0 = 1 }) 3) (codes "{\"types\":[]}") ≡ None
unfolding serde_json_on_literals is_utf8 chars module_of
own_types = refl

one_entry_alone : reading (module_of types (record { 0 = 1 }) 3) (codes "{\"memories\":{\"min\":1}}") ≡ None
unfolding serde_json_on_literals is_utf8 chars module_of
one_entry_alone = refl

bad_entry : reading (module_of types (record { 0 = 1 }) 3) (codes "{\"tags\":[0,-1]}") ≡ None
unfolding serde_json_on_literals is_utf8 chars module_of
bad_entry = refl

no_module : reading (module_of types (record { 0 = 1 }) 3) (codes "[]") ≡ None
unfolding serde_json_on_literals is_utf8 chars module_of
no_module = refl

-- the modules of a list have their places as numbers
two_modules : reading (modules_of types (record { 0 = 1 })) (codes "[{},{\"tags\":[0]}]") ≡ Some (record empty { number = 0 } ∷ record empty { number = 1; tags = 0 ∷ [] } ∷ [])
unfolding serde_json_on_literals is_utf8 chars module_of
two_modules = refl

bad_module : reading (modules_of types (record { 0 = 1 })) (codes "[{},{\"tag\":0}]") ≡ None
unfolding serde_json_on_literals is_utf8 chars module_of
bad_module = refl

no_modules : reading (modules_of types (record { 0 = 1 })) (codes "{}") ≡ None
unfolding serde_json_on_literals is_utf8 chars module_of
no_modules = refl
