-- No operation of a script has a literal function for an operand: a line for each reader.
use Rattle.std.proofs.Common.{◌≡◌, ℕ, List, [], ◌∷◌, Option, Some}
use Rattle.std.specs.Prelude.{codes}
use Rattle.serde_json.specs.Data.{Data}
use Rattle.wasm_types.specs.Signatures.{Signature}
use Rattle.spec_machine.specs.declared.command.Command.{Command}
use Rattle.spec_machine.specs.declared.command.Command.TheVariants as command
use Rattle.spec_machine.specs.declared.name.Operand.{Operand}
use Rattle.spec_machine.specs.declared.operation.Op.{Op}
use Rattle.spec_machine.specs.declared.operation.Op.TheVariants as op
use Rattle.script_json.specs.Fields.{text, hex_bytes, ◌>>=◌, field, only, required, optional, list_or_empty, null_or, whole}
use Rattle.script_commands.specs.Commands as read
use Rattle.script_commands.specs.Commands.{verb_of, command_by, command_of, operation}
use Rattle.script_commands.specs.Names.{name_of}
use Rattle.script_types.specs.Types.{type_at, memory_type_in, table_type_in, global_type_in}
use Rattle.script_modules.specs.Texts.{line_of}
use Rattle.script_commands.specs.Operands.{operand_of}
use Rattle.law_scripts.specs.Literals.{IsNoFunction, OperatesByNames}
use Rattle.law_scripts.proofs.ReadOperands.{Gives, some, none, bind, step, Behind, by_key, required_gives, list_or_empty_gives, operand_gives}

-- ---- operations

abbrev pub CommandByNames : Command → Type 0
CommandByNames (command.Op o) = OperatesByNames o
CommandByNames _ = Unit {0}

operation_gives : (o : Option Op) → Gives OperatesByNames o → Gives CommandByNames (operation o)
operation_gives o h = bind CommandByNames o _ (λ x e. some CommandByNames (command.Op x) (h.is x e))

abbrev O : Op → Type 0
O = OperatesByNames

module _ (types : List Signature) (d : Data) where
  value_is : (key : List ℕ) (x : Operand) → required operand_of key d ≡ Some x → IsNoFunction x
  value_is key x e = (required_gives IsNoFunction operand_of operand_gives key d).is x e

  func_new_gives : Gives CommandByNames (read.func_new_of types d)
  func_new_gives =
      step CommandByNames (only (codes "do" ∷ codes "type" ∷ codes "body" ∷ codes "stored" ∷ []) d) _ (λ only_.
      step CommandByNames (required (type_at types) (codes "type") d) _ (λ ty.
      step CommandByNames (required whole (codes "body") d) _ (λ body.
      step CommandByNames (list_or_empty name_of (codes "stored") d) _ (λ stored.
      some CommandByNames (command.FuncNew ty body stored) tt))))

  instantiate_gives : Gives CommandByNames (read.instantiate_of d)
  instantiate_gives =
      step CommandByNames (only (codes "do" ∷ codes "module" ∷ codes "imports" ∷ []) d) _ (λ only_.
      step CommandByNames (required whole (codes "module") d) _ (λ number.
      step CommandByNames (list_or_empty name_of (codes "imports") d) _ (λ imports.
      some CommandByNames (command.Instantiate number imports) tt)))

  memory_new_gives : Gives O (read.memory_new_of d)
  memory_new_gives =
      step O (only (codes "do" ∷ codes "min" ∷ codes "max" ∷ codes "page" ∷ []) d) _ (λ only_.
      step O (memory_type_in d) _ (λ ty.
      some O (op.MemoryNew ty) tt))

  memory_read_gives : Gives O (read.memory_read_of d)
  memory_read_gives =
      step O (only (codes "do" ∷ codes "memory" ∷ codes "at" ∷ codes "len" ∷ []) d) _ (λ only_.
      step O (required name_of (codes "memory") d) _ (λ memory.
      step O (required whole (codes "at") d) _ (λ at.
      step O (required whole (codes "len") d) _ (λ len.
      some O (op.MemoryRead memory at len) tt))))

  memory_write_gives : Gives O (read.memory_write_of d)
  memory_write_gives =
      step O (only (codes "do" ∷ codes "memory" ∷ codes "at" ∷ codes "bytes" ∷ []) d) _ (λ only_.
      step O (required name_of (codes "memory") d) _ (λ memory.
      step O (required whole (codes "at") d) _ (λ at.
      step O (required hex_bytes (codes "bytes") d) _ (λ bytes.
      some O (op.MemoryWrite memory at bytes) tt))))

  memory_size_gives : Gives O (read.memory_size_of d)
  memory_size_gives =
      step O (only (codes "do" ∷ codes "memory" ∷ []) d) _ (λ only_.
      step O (required name_of (codes "memory") d) _ (λ memory.
      some O (op.MemorySize memory) tt))

  memory_grow_gives : Gives O (read.memory_grow_of d)
  memory_grow_gives =
      step O (only (codes "do" ∷ codes "memory" ∷ codes "delta" ∷ []) d) _ (λ only_.
      step O (required name_of (codes "memory") d) _ (λ memory.
      step O (required whole (codes "delta") d) _ (λ delta.
      some O (op.MemoryGrow memory delta) tt)))

  table_new_gives : Gives O (read.table_new_of types d)
  table_new_gives =
      step O (only (codes "do" ∷ codes "ref" ∷ codes "min" ∷ codes "max" ∷ codes "init" ∷ []) d) _ (λ only_.
      step O (table_type_in types d) _ (λ ty.
      bind O (required operand_of (codes "init") d) (λ init. Some (op.TableNew ty init)) (λ init is.
      some O (op.TableNew ty init) (value_is (codes "init") init is))))

  table_get_gives : Gives O (read.table_get_of d)
  table_get_gives =
      step O (only (codes "do" ∷ codes "table" ∷ codes "at" ∷ []) d) _ (λ only_.
      step O (required name_of (codes "table") d) _ (λ table.
      step O (required whole (codes "at") d) _ (λ at.
      some O (op.TableGet table at) tt)))

  table_set_gives : Gives O (read.table_set_of d)
  table_set_gives =
      step O (only (codes "do" ∷ codes "table" ∷ codes "at" ∷ codes "value" ∷ []) d) _ (λ only_.
      step O (required name_of (codes "table") d) _ (λ table.
      step O (required whole (codes "at") d) _ (λ at.
      bind O (required operand_of (codes "value") d) (λ value. Some (op.TableSet table at value)) (λ value is.
      some O (op.TableSet table at value) (value_is (codes "value") value is)))))

  table_size_gives : Gives O (read.table_size_of d)
  table_size_gives =
      step O (only (codes "do" ∷ codes "table" ∷ []) d) _ (λ only_.
      step O (required name_of (codes "table") d) _ (λ table.
      some O (op.TableSize table) tt))

  table_grow_gives : Gives O (read.table_grow_of d)
  table_grow_gives =
      step O (only (codes "do" ∷ codes "table" ∷ codes "delta" ∷ codes "value" ∷ []) d) _ (λ only_.
      step O (required name_of (codes "table") d) _ (λ table.
      step O (required whole (codes "delta") d) _ (λ delta.
      bind O (required operand_of (codes "value") d) (λ value. Some (op.TableGrow table delta value)) (λ value is.
      some O (op.TableGrow table delta value) (value_is (codes "value") value is)))))

  table_copy_gives : Gives O (read.table_copy_of d)
  table_copy_gives =
      step O (only (codes "do" ∷ codes "dst" ∷ codes "dst_at" ∷ codes "src" ∷ codes "src_at" ∷ codes "len" ∷ []) d) _ (λ only_.
      step O (required name_of (codes "dst") d) _ (λ dst.
      step O (required whole (codes "dst_at") d) _ (λ dst_at.
      step O (required name_of (codes "src") d) _ (λ src.
      step O (required whole (codes "src_at") d) _ (λ src_at.
      step O (required whole (codes "len") d) _ (λ len.
      some O (op.TableCopy dst dst_at src src_at len) tt))))))

  table_fill_gives : Gives O (read.table_fill_of d)
  table_fill_gives =
      step O (only (codes "do" ∷ codes "table" ∷ codes "at" ∷ codes "value" ∷ codes "len" ∷ []) d) _ (λ only_.
      step O (required name_of (codes "table") d) _ (λ table.
      step O (required whole (codes "at") d) _ (λ at.
      bind O (required operand_of (codes "value") d)
      (λ value. required whole (codes "len") d >>= λ len. Some (op.TableFill table at value len)) (λ value is.
      step O (required whole (codes "len") d) (λ len. Some (op.TableFill table at value len)) (λ len.
      some O (op.TableFill table at value len) (value_is (codes "value") value is))))))

  global_new_gives : Gives O (read.global_new_of types d)
  global_new_gives =
      step O (only (codes "do" ∷ codes "val" ∷ codes "mut" ∷ codes "init" ∷ []) d) _ (λ only_.
      step O (global_type_in types d) _ (λ ty.
      bind O (required operand_of (codes "init") d) (λ init. Some (op.GlobalNew ty init)) (λ init is.
      some O (op.GlobalNew ty init) (value_is (codes "init") init is))))

  global_get_gives : Gives O (read.global_get_of d)
  global_get_gives =
      step O (only (codes "do" ∷ codes "global" ∷ []) d) _ (λ only_.
      step O (required name_of (codes "global") d) _ (λ global.
      some O (op.GlobalGet global) tt))

  global_set_gives : Gives O (read.global_set_of d)
  global_set_gives =
      step O (only (codes "do" ∷ codes "global" ∷ codes "value" ∷ []) d) _ (λ only_.
      step O (required name_of (codes "global") d) _ (λ global.
      bind O (required operand_of (codes "value") d) (λ value. Some (op.GlobalSet global value)) (λ value is.
      some O (op.GlobalSet global value) (value_is (codes "value") value is))))

  tag_new_gives : Gives O (read.tag_new_of types d)
  tag_new_gives =
      step O (only (codes "do" ∷ codes "type" ∷ []) d) _ (λ only_.
      step O (required (type_at types) (codes "type") d) _ (λ ty.
      some O (op.TagNew ty) tt))

  get_export_gives : Gives O (read.get_export_of d)
  get_export_gives =
      step O (only (codes "do" ∷ codes "instance" ∷ codes "name" ∷ []) d) _ (λ only_.
      step O (required name_of (codes "instance") d) _ (λ instance.
      step O (required line_of (codes "name") d) _ (λ name.
      some O (op.GetExport instance name) tt)))

  get_fuel_gives : Gives O (read.get_fuel_of d)
  get_fuel_gives =
      step O (only (codes "do" ∷ []) d) _ (λ only_.
      some O op.GetFuel tt)

  set_fuel_gives : Gives O (read.set_fuel_of d)
  set_fuel_gives =
      step O (only (codes "do" ∷ codes "fuel" ∷ []) d) _ (λ only_.
      step O (required whole (codes "fuel") d) _ (λ fuel.
      some O (op.SetFuel fuel) tt))

  yield_interval_gives : Gives O (read.yield_interval_of d)
  yield_interval_gives =
      step O (only (codes "do" ∷ codes "interval" ∷ []) d) _ (λ only_.
      step O (required (null_or whole) (codes "interval") d) _ (λ interval.
      some O (op.YieldInterval interval) tt))

  set_epoch_deadline_gives : Gives O (read.set_epoch_deadline_of d)
  set_epoch_deadline_gives =
      step O (only (codes "do" ∷ codes "ticks" ∷ []) d) _ (λ only_.
      step O (required whole (codes "ticks") d) _ (λ ticks.
      some O (op.SetEpochDeadline ticks) tt))

  call_gives : Gives O (read.call_of d)
  call_gives =
      step O (only (codes "do" ∷ codes "func" ∷ codes "args" ∷ codes "results" ∷ []) d) _ (λ only_.
      step O (required name_of (codes "func") d) _ (λ func.
      bind O (list_or_empty operand_of (codes "args") d)
      (λ args. optional whole (field (codes "results") d) >>= λ results. Some (op.Call func args results)) (λ args is.
      step O (optional whole (field (codes "results") d)) (λ results. Some (op.Call func args results)) (λ results.
      some O (op.Call func args results)
      ((list_or_empty_gives IsNoFunction operand_of operand_gives (codes "args") d).is args is)))))

  by_verb : (name : List ℕ) → Behind CommandByNames (command_by types d) (verb_of name)
  by_verb name =
      by_key CommandByNames (command_by types d) name (codes "func_new") _ _
      (record { gives = func_new_gives })
      (by_key CommandByNames (command_by types d) name (codes "instantiate") _ _
      (record { gives = instantiate_gives })
      (by_key CommandByNames (command_by types d) name (codes "memory_new") _ _
      (record { gives = operation_gives (read.memory_new_of d) memory_new_gives })
      (by_key CommandByNames (command_by types d) name (codes "memory_read") _ _
      (record { gives = operation_gives (read.memory_read_of d) memory_read_gives })
      (by_key CommandByNames (command_by types d) name (codes "memory_write") _ _
      (record { gives = operation_gives (read.memory_write_of d) memory_write_gives })
      (by_key CommandByNames (command_by types d) name (codes "memory_size") _ _
      (record { gives = operation_gives (read.memory_size_of d) memory_size_gives })
      (by_key CommandByNames (command_by types d) name (codes "memory_grow") _ _
      (record { gives = operation_gives (read.memory_grow_of d) memory_grow_gives })
      (by_key CommandByNames (command_by types d) name (codes "table_new") _ _
      (record { gives = operation_gives (read.table_new_of types d) table_new_gives })
      (by_key CommandByNames (command_by types d) name (codes "table_get") _ _
      (record { gives = operation_gives (read.table_get_of d) table_get_gives })
      (by_key CommandByNames (command_by types d) name (codes "table_set") _ _
      (record { gives = operation_gives (read.table_set_of d) table_set_gives })
      (by_key CommandByNames (command_by types d) name (codes "table_size") _ _
      (record { gives = operation_gives (read.table_size_of d) table_size_gives })
      (by_key CommandByNames (command_by types d) name (codes "table_grow") _ _
      (record { gives = operation_gives (read.table_grow_of d) table_grow_gives })
      (by_key CommandByNames (command_by types d) name (codes "table_copy") _ _
      (record { gives = operation_gives (read.table_copy_of d) table_copy_gives })
      (by_key CommandByNames (command_by types d) name (codes "table_fill") _ _
      (record { gives = operation_gives (read.table_fill_of d) table_fill_gives })
      (by_key CommandByNames (command_by types d) name (codes "global_new") _ _
      (record { gives = operation_gives (read.global_new_of types d) global_new_gives })
      (by_key CommandByNames (command_by types d) name (codes "global_get") _ _
      (record { gives = operation_gives (read.global_get_of d) global_get_gives })
      (by_key CommandByNames (command_by types d) name (codes "global_set") _ _
      (record { gives = operation_gives (read.global_set_of d) global_set_gives })
      (by_key CommandByNames (command_by types d) name (codes "tag_new") _ _
      (record { gives = operation_gives (read.tag_new_of types d) tag_new_gives })
      (by_key CommandByNames (command_by types d) name (codes "get_export") _ _
      (record { gives = operation_gives (read.get_export_of d) get_export_gives })
      (by_key CommandByNames (command_by types d) name (codes "get_fuel") _ _
      (record { gives = operation_gives (read.get_fuel_of d) get_fuel_gives })
      (by_key CommandByNames (command_by types d) name (codes "set_fuel") _ _
      (record { gives = operation_gives (read.set_fuel_of d) set_fuel_gives })
      (by_key CommandByNames (command_by types d) name (codes "yield_interval") _ _
      (record { gives = operation_gives (read.yield_interval_of d) yield_interval_gives })
      (by_key CommandByNames (command_by types d) name (codes "set_epoch_deadline") _ _
      (record { gives = operation_gives (read.set_epoch_deadline_of d) set_epoch_deadline_gives })
      (by_key CommandByNames (command_by types d) name (codes "call") _ _
      (record { gives = operation_gives (read.call_of d) call_gives })
      (record { gives = none CommandByNames }))))))))))))))))))))))))

  pub command_gives : Gives CommandByNames (command_of types d)
  command_gives = step CommandByNames (required text (codes "do") d) _ (λ name. (by_verb name).gives)
