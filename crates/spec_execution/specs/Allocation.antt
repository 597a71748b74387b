-- What instantiation appends to a store: the instance, its objects, and the values that its constant expressions have.
-- WebAssembly core specification, "Execution, modules, allocation"; "Execution, instructions, expressions"
use Rattle.std.specs.Prelude.{ℕ, zero, suc, List, [], ◌∷◌, ◌++◌, map, length, drop, slice_get, Option, option_map}
use Rattle.std.specs.List.{filter_map}
use Rattle.wasm_types.specs.Memories.{new_memory}
use Rattle.wasm_types.specs.Signatures.{Signature}
use Rattle.wasm_syntax.specs.declared.constants.ConstExpr.{ConstExpr}
use Rattle.wasm_syntax.specs.declared.constants.ConstExpr.TheVariants as c
use Rattle.wasm_syntax.specs.declared.declarations.GlobalDecl.{GlobalDecl}
use Rattle.wasm_syntax.specs.declared.declarations.ModuleDecl.{ModuleDecl}
use Rattle.wasm_syntax.specs.declared.declarations.TableDecl.{TableDecl}
use Rattle.wasm_syntax.specs.declared.segments.DataDecl.{DataDecl}
use Rattle.wasm_syntax.specs.declared.segments.ElemDecl.{ElemDecl}
use Rattle.wasm_values.specs.Externals.{extern_func, extern_global, extern_table, extern_memory, extern_tag}
use Rattle.wasm_values.specs.Handles.{func_index, global_index, table_index, memory_index, tag_index}
use Rattle.wasm_values.specs.declared.externals.Extern.{Extern}
use Rattle.wasm_objects.specs.Globals.{Global, global}
use Rattle.wasm_objects.specs.Tables.{Table, new_table}
use Rattle.wasm_objects.specs.declared.raw.RawRef.{RawRef}
use Rattle.wasm_objects.specs.declared.raw.RawRef.TheVariants as r
use Rattle.wasm_objects.specs.declared.raw.RawVal.{RawVal}
use Rattle.wasm_objects.specs.declared.raw.RawVal.TheVariants as w
use Rattle.spec_machine.specs.Changes.{append_memories, append_tables, append_globals, append_tags, append_functions, append_instance}
use Rattle.spec_machine.specs.Machine.{Machine, Function, guest, InstanceParts}
use Rattle.spec_execution.specs.Operands as on

-- ---- constant expressions

-- the value of one, over the numbers of the functions and the values of the globals; in a valid module it has one, of
-- the wanted type
abbrev pub value_of : List ℕ → List RawVal → ConstExpr → RawVal
value_of fs gs (c.I32 n) = w.I32 n
value_of fs gs (c.I64 n) = w.I64 n
value_of fs gs (c.F32 bits) = w.F32 bits
value_of fs gs (c.F64 bits) = w.F64 bits
value_of fs gs (c.V128 bits) = w.V128 bits
value_of fs gs (c.RefNull t) = w.Reference r.Null
value_of fs gs (c.RefFunc f) = w.Reference (on.found r.Null (slice_get fs f) r.Func)
value_of fs gs (c.GlobalGet g) = on.found (w.Reference r.Null) (slice_get gs g) (λ v. v)

abbrev pub reference_of : List ℕ → List RawVal → ConstExpr → RawRef
reference_of fs gs e = on.found r.Null (on.reference_in (value_of fs gs e)) (λ y. y)

abbrev pub offset_of : List ℕ → List RawVal → ConstExpr → ℕ
offset_of fs gs e = on.found 0 (on.integer_in 32 (value_of fs gs e)) (λ n. n)

-- ---- the index spaces: of each kind the numbers of what is imported, and behind them those of the new objects

-- so many numbers, from this one on
abbrev pub from : ℕ → ℕ → List ℕ
from n zero = []
from n (suc k) = n ∷ from (suc n) k

abbrev pub imported_numbers : {A : Type 0} → (Extern → Option A) → (A → ℕ) → List Extern → List ℕ
imported_numbers as_kind index imports = filter_map (λ e. option_map index (as_kind e)) imports

abbrev pub function_numbers : Machine → ModuleDecl → List Extern → List ℕ
function_numbers m d imports =
    imported_numbers extern_func func_index imports ++ from (length m.functions) (length d.functions)

abbrev pub table_numbers : Machine → ModuleDecl → List Extern → List ℕ
table_numbers m d imports =
    imported_numbers extern_table table_index imports ++ from (length m.tables) (length d.tables)

abbrev pub memory_numbers : Machine → ModuleDecl → List Extern → List ℕ
memory_numbers m d imports =
    imported_numbers extern_memory memory_index imports ++ from (length m.memories) (length d.memories)

abbrev pub global_numbers : Machine → ModuleDecl → List Extern → List ℕ
global_numbers m d imports =
    imported_numbers extern_global global_index imports ++ from (length m.globals) (length d.globals)

abbrev pub tag_numbers : Machine → ModuleDecl → List Extern → List ℕ
tag_numbers m d imports = imported_numbers extern_tag tag_index imports ++ from (length m.tags) (length d.tags)

-- ---- the values of the globals: those of the imported ones, and then that of each defined one over those before it

abbrev pub imported_values : Machine → List Extern → List RawVal
imported_values m imports =
    filter_map (λ n. option_map (λ (g : Global). g.value) (slice_get m.globals n))
    (imported_numbers extern_global global_index imports)

abbrev pub values_from : List ℕ → List RawVal → List GlobalDecl → List RawVal
values_from fs gs [] = gs
values_from fs gs (g ∷ more) = values_from fs (gs ++ value_of fs gs g.init ∷ []) more

abbrev pub global_values : Machine → ModuleDecl → List Extern → List RawVal
global_values m d imports = values_from (function_numbers m d imports) (imported_values m imports) d.globals

-- ---- the new objects

-- a table begins with a value over the imported globals alone
abbrev pub new_tables : Machine → ModuleDecl → List Extern → List Table
new_tables m d imports =
    map (λ (t : TableDecl).
    new_table t.ty (reference_of (function_numbers m d imports) (imported_values m imports) t.init)) d.tables

abbrev pub globals_with : List RawVal → List GlobalDecl → List Global
globals_with (v ∷ vs) (g ∷ more) = global g.ty v ∷ globals_with vs more
globals_with _ _ = []

abbrev pub new_globals : Machine → ModuleDecl → List Extern → List Global
new_globals m d imports =
    globals_with (drop (length (imported_values m imports)) (global_values m d imports)) d.globals

-- the types of the tags; in a valid module each is there
abbrev pub new_tags : ModuleDecl → List Signature
new_tags d = filter_map (slice_get d.types) d.tags

abbrev pub new_functions : Machine → ModuleDecl → List Function
new_functions m d = map (guest (length m.instances)) (from 0 (length d.functions))

-- ---- the instance, with each segment whole

abbrev pub elements_of : Machine → ModuleDecl → List Extern → List (List RawRef)
elements_of m d imports =
    map (λ (e : ElemDecl).
    map (reference_of (function_numbers m d imports) (global_values m d imports)) e.items) d.elements

abbrev pub new_instance : Machine → ModuleDecl → List Extern → InstanceParts
new_instance m d imports = record {
  decl = d;
  functions = function_numbers m d imports;
  tables = table_numbers m d imports;
  memories = memory_numbers m d imports;
  globals = global_numbers m d imports;
  tags = tag_numbers m d imports;
  elements = elements_of m d imports;
  datas = map (λ (e : DataDecl). e.bytes) d.datas;
}

-- the store with all of them
abbrev pub allocated : Machine → ModuleDecl → List Extern → Machine
allocated m d imports =
    append_instance (append_functions (append_tags (append_globals (append_tables (append_memories m
    (map new_memory d.memories)) (new_tables m d imports)) (new_globals m d imports)) (new_tags d))
    (new_functions m d)) (new_instance m d imports)
