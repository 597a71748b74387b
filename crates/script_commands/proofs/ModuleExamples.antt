-- What texts spell of modules in scripts, each by computation.
use Rattle.std.proofs.Common.{◌≡◌, ℕ, pos, List, [], ◌∷◌, Option, Some, None, true, refl}
use Rattle.std.specs.Prelude.{codes}
use Rattle.std.specs.Str.{is_utf8, chars}
use Rattle.serde_json.proofs.OnLiterals.{serde_json_on_literals}
use Rattle.serde_json.specs.Data.{Data}
use Rattle.hex.proofs.OnLiterals.{hex_on_literals}
use Rattle.wasm_types.specs.FunctionParts.{parts, from_parts, ref_type}
use Rattle.wasm_types.specs.GlobalTypes.{global_parts}
use Rattle.wasm_types.specs.MemoryTypes.{memory_parts}
use Rattle.wasm_types.specs.Signatures.{Signature}
use Rattle.wasm_types.specs.TableTypes.{table_parts}
use Rattle.wasm_types.specs.declared.extern_type.ExternType.TheVariants as x
use Rattle.wasm_types.specs.declared.plain.Finality.TheVariants.{Final}
use Rattle.wasm_types.specs.declared.plain.HeapTopType.TheVariants as top
use Rattle.wasm_types.specs.declared.plain.Mutability.TheVariants.{Const}
use Rattle.wasm_types.specs.declared.value_types.HeapType.TheVariants as h
use Rattle.wasm_types.specs.declared.value_types.ValType.TheVariants as t
use Rattle.wasm_values.specs.declared.values.Val.TheVariants as v
use Rattle.wasm_syntax.specs.declared.constants.ConstExpr.TheVariants as const
use Rattle.wasm_syntax.specs.declared.declarations.FuncDecl.{FuncDecl}
use Rattle.wasm_syntax.specs.declared.declarations.ModuleDecl.{ModuleDecl}
use Rattle.wasm_syntax.specs.declared.entities.EntityIndex.TheVariants as e
use Rattle.wasm_syntax.specs.declared.instr.Instr.{Instr}
use Rattle.wasm_syntax.specs.declared.instr.Instr.TheVariants as i
use Rattle.wasm_syntax.specs.declared.operators.BinOp.TheVariants as binary
use Rattle.wasm_syntax.specs.declared.segments.DataMode.TheVariants as data_mode
use Rattle.wasm_syntax.specs.declared.segments.ElemMode.TheVariants as elem_mode
use Rattle.script_json.specs.Fields.{◌>>=◌}
use Rattle.script_json.specs.Json.{json_of}
use Rattle.script_modules.specs.Code.{code_to}
use Rattle.script_modules.specs.CodeParts.{block}
use Rattle.script_modules.specs.InstrNames.{name_of}
use Rattle.script_modules.specs.Modules.{module_of, modules_of}
use Rattle.spec_machine.specs.declared.name.Name.TheVariants as name
use Rattle.spec_machine.specs.declared.name.Operand.TheVariants as operand
use Rattle.spec_machine.specs.declared.operation.Op.TheVariants as op
use Rattle.spec_machine.specs.declared.command.Command.TheVariants as command
use Rattle.script_commands.specs.Engines.{default_engine}
use Rattle.script_commands.specs.ScriptModules.{engine_number}
use Rattle.script_commands.specs.HostAnswers.{no_answers}
use Rattle.script_commands.specs.Scripts.{NoScript, Spells, spelling}

-- what a reader gives of the data that a text spells
abbrev reading : {A : Type 0} → (Data → Option A) → List ℕ → Option A
reading f text = json_of text >>= f

-- types () -> (), i32 -> i32 and () -> i32
abbrev plain : Signature
plain = from_parts (parts 1 Final None [] [])

abbrev unary : Signature
unary = from_parts (parts 1 Final None (t.I32 ∷ []) (t.I32 ∷ []))

abbrev constant : Signature
constant = from_parts (parts 1 Final None [] (t.I32 ∷ []))

abbrev types : List Signature
types = plain ∷ unary ∷ []

-- the empty module of this number
abbrev empty : ℕ → ModuleDecl
empty number = record {
  engine = record { 0 = 1 };
  number = number;
  types = types;
  imports = [];
  functions = [];
  tables = [];
  memories = [];
  globals = [];
  tags = [];
  exports = [];
  elements = [];
  datas = [];
  start = None;
}

-- a module with one entry under each key
abbrev whole : ModuleDecl
whole = record (empty 0) {
  imports = record { «module» = codes "a"; name = codes "b"; ty = x.Func unary } ∷ [];
  functions = record { ty = 0; locals = []; blocks = block 0 [] ∷ []; targets = [] } ∷ [];
  tables = record { ty = table_parts (ref_type true h.Func) 1 None; init = const.RefNull top.Func } ∷ [];
  memories = memory_parts 1 None 16 ∷ [];
  globals = record { ty = global_parts t.I32 Const; init = const.I32 (pos 7) } ∷ [];
  tags = 0 ∷ [];
  exports = record { name = codes "f"; entity = e.Func 0 } ∷ [];
  elements =
      record { ty = ref_type true h.Func; mode = elem_mode.Active 0 (const.I32 (pos 0)); items = const.RefFunc 1 ∷ [] } ∷ [];
  datas = record { mode = data_mode.Active 0 (const.I32 (pos 8)); bytes = 255 ∷ [] } ∷ [];
  start = Some 1;
}

-- n less k, under fib
abbrev fib_of_less : ℕ → List Instr → List Instr
fib_of_less k rest =
    i.LocalGet 0 ∷ i.Const32 (pos k) ∷ i.Binary binary.I32Sub ∷ i.Call 0 ∷ rest

abbrev fib : FuncDecl
fib = record {
  ty = 0;
  locals = [];
  blocks =
      block 0 (i.LocalGet 0 ∷ i.Const32 (pos 2) ∷ i.Binary binary.I32LtU ∷ i.If 1 2 ∷ [])
      ∷ block 1 (i.LocalGet 0 ∷ [])
      ∷ block 1 (fib_of_less 1 (fib_of_less 2 (i.Binary binary.I32Add ∷ [])))
      ∷ [];
  targets = [];
}

-- ---- lists of modules

none_of_them : reading (modules_of types engine_number) (codes "[]") ≡ Some []
unfolding serde_json_on_literals hex_on_literals is_utf8 chars module_of
none_of_them = refl

-- a module has all types of the script, and its place as its number
two_empty : reading (modules_of types engine_number) (codes "[{},{}]") ≡ Some (empty 0 ∷ empty 1 ∷ [])
unfolding serde_json_on_literals hex_on_literals is_utf8 chars module_of
two_empty = refl

-- the keys that a module may have
each_key : reading (modules_of types engine_number) (codes "[{\"imports\":[{\"module\":\"a\",\"name\":\"b\",\"func\":1}],\"functions\":[{\"type\":0}],\"tables\":[{\"ref\":\"funcref\",\"min\":1}],\"memories\":[{\"min\":1}],\"globals\":[{\"val\":\"i32\",\"init\":[\"i32.const\",7]}],\"tags\":[0],\"exports\":[{\"name\":\"f\",\"func\":0}],\"elements\":[{\"ref\":\"funcref\",\"table\":0,\"offset\":[\"i32.const\",0],\"items\":[[\"ref.func\",1]]}],\"datas\":[{\"bytes\":\"ff\",\"memory\":0,\"offset\":[\"i32.const\",8]}],\"start\":1}]") ≡ Some (whole ∷ [])
unfolding serde_json_on_literals hex_on_literals is_utf8 chars module_of
each_key = refl

-- lists that are empty are as those that are not there
empty_lists : reading (modules_of types engine_number) (codes "[{\"imports\":[],\"elements\":[],\"datas\":[]}]") ≡ Some (empty 0 ∷ [])
unfolding serde_json_on_literals hex_on_literals is_utf8 chars module_of
empty_lists = refl

-- null is no start function
null_start : reading (modules_of types engine_number) (codes "[{\"start\":null}]") ≡ None
unfolding serde_json_on_literals hex_on_literals is_utf8 chars module_of
null_start = refl

-- an import that is none, in the second module
bad_import : reading (modules_of types engine_number) (codes "[{},{\"imports\":[{\"module\":\"a\",\"name\":\"b\"}]}]") ≡ None
unfolding serde_json_on_literals hex_on_literals is_utf8 chars module_of
bad_import = refl

own_types : reading (modules_of types engine_number) (codes "[{\"types\":[]}]") ≡ None
unfolding serde_json_on_literals hex_on_literals is_utf8 chars module_of
own_types = refl

other_key : reading (modules_of types engine_number) (codes "[{\"name\":\"m\"}]") ≡ None
unfolding serde_json_on_literals hex_on_literals is_utf8 chars module_of
other_key = refl

bad_entry : reading (modules_of types engine_number) (codes "[{\"tags\":[-1]}]") ≡ None
unfolding serde_json_on_literals hex_on_literals is_utf8 chars module_of
bad_entry = refl

one_module_alone : reading (modules_of types engine_number) (codes "{}") ≡ None
unfolding serde_json_on_literals hex_on_literals is_utf8 chars module_of
one_module_alone = refl

list_for_a_module : reading (modules_of types engine_number) (codes "[[]]") ≡ None
unfolding serde_json_on_literals hex_on_literals is_utf8 chars module_of
list_for_a_module = refl

-- ---- scripts

-- null is no default
null_modules : spelling (codes "{\"modules\":null,\"commands\":[]}") ≡ NoScript
unfolding serde_json_on_literals hex_on_literals is_utf8 chars module_of
null_modules = refl

type_not_there : spelling (codes "{\"types\":[{}],\"modules\":[{\"functions\":[{\"type\":0,\"locals\":[{\"ref\":1}]}]}],\"commands\":[]}") ≡ NoScript
unfolding serde_json_on_literals hex_on_literals is_utf8 chars module_of
type_not_there = refl

-- that a module is valid is not asked
invalid_module : spelling (codes "{\"modules\":[{\"tags\":[9]}],\"commands\":[]}") ≡ Spells (record { engine = default_engine; modules = record (empty 0) { types = []; tags = 9 ∷ [] } ∷ []; answers = no_answers; bodies = []; commands = [] })
unfolding serde_json_on_literals hex_on_literals is_utf8 chars module_of
invalid_module = refl

-- an instance of a module, its export, and a call
fib_of_10 : spelling (codes "{\"types\":[{\"params\":[\"i32\"],\"results\":[\"i32\"]},{\"results\":[\"i32\"]}],\"modules\":[{\"functions\":[{\"type\":0,\"code\":[[\"local.get\",0],[\"i32.const\",2],[\"i32.lt_u\"],[\"if\",1,[[\"local.get\",0]],[[\"local.get\",0],[\"i32.const\",1],[\"i32.sub\"],[\"call\",0],[\"local.get\",0],[\"i32.const\",2],[\"i32.sub\"],[\"call\",0],[\"i32.add\"]]]]}],\"exports\":[{\"name\":\"fib\",\"func\":0}]}],\"commands\":[{\"do\":\"instantiate\",\"module\":0},{\"do\":\"get_export\",\"instance\":0,\"name\":\"fib\"},{\"do\":\"call\",\"func\":1,\"args\":[{\"i32\":10}]}]}") ≡ Spells (record { engine = default_engine; modules = record (empty 0) { types = unary ∷ constant ∷ []; functions = fib ∷ []; exports = record { name = codes "fib"; entity = e.Func 0 } ∷ [] } ∷ []; answers = no_answers; bodies = []; commands = command.Instantiate 0 [] ∷ command.Op (op.GetExport (name.Reply 0) (codes "fib")) ∷ command.Op (op.Call (name.Reply 1) (operand.Val (v.I32 (pos 10)) ∷ []) None) ∷ [] })
unfolding serde_json_on_literals hex_on_literals is_utf8 chars module_of name_of code_to
fib_of_10 = refl

-- two modules, of which the second imports what the first exports
linked : spelling (codes "{\"modules\":[{\"memories\":[{\"min\":1}],\"exports\":[{\"name\":\"m\",\"memory\":0}]},{\"imports\":[{\"module\":\"a\",\"name\":\"m\",\"memory\":{\"min\":1}}],\"datas\":[{\"bytes\":\"07\",\"memory\":0,\"offset\":[\"i32.const\",3]}]}],\"commands\":[{\"do\":\"instantiate\",\"module\":0},{\"do\":\"get_export\",\"instance\":0,\"name\":\"m\"},{\"do\":\"instantiate\",\"module\":1,\"imports\":[1]}]}") ≡ Spells (record { engine = default_engine; modules = record (empty 0) { types = []; memories = memory_parts 1 None 16 ∷ []; exports = record { name = codes "m"; entity = e.Memory 0 } ∷ [] } ∷ record (empty 1) { types = []; imports = record { «module» = codes "a"; name = codes "m"; ty = x.Memory (memory_parts 1 None 16) } ∷ []; datas = record { mode = data_mode.Active 0 (const.I32 (pos 3)); bytes = 7 ∷ [] } ∷ [] } ∷ []; answers = no_answers; bodies = []; commands = command.Instantiate 0 [] ∷ command.Op (op.GetExport (name.Reply 0) (codes "m")) ∷ command.Instantiate 1 (name.Reply 1 ∷ []) ∷ [] })
unfolding serde_json_on_literals hex_on_literals is_utf8 chars module_of
linked = refl
