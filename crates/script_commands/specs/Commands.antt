-- Commands as JSON data: this project's own format. Each is an object with its name at "do" and with the keys of its
-- operation, and no others.
use Rattle.std.specs.Prelude.{ℕ, List, [], ◌∷◌, Option, Some, None, codes, if◌then◌else◌}
use Rattle.std.specs.Str.{bytes_eq}
use Rattle.serde_json.specs.Data.{Data}
use Rattle.wasm_types.specs.Signatures.{Signature}
use Rattle.script_json.specs.Fields.{◌>>=◌, field, required, optional, null_or, only, whole, text, hex_bytes, list_or_empty}
use Rattle.spec_machine.specs.declared.command.Command.{Command}
use Rattle.spec_machine.specs.declared.command.Command.TheVariants as command
use Rattle.spec_machine.specs.declared.operation.Op.{Op}
use Rattle.spec_machine.specs.declared.operation.Op.TheVariants as op
use Rattle.script_commands.specs.Names.{name_of}
use Rattle.script_commands.specs.Operands.{operand_of}
use Rattle.script_types.specs.Types.{type_at, memory_type_in, table_type_in, global_type_in}
use Rattle.script_modules.specs.Texts.{line_of}
use Rattle.script_commands.specs.declared.commands.Verb.{Verb}
use Rattle.script_commands.specs.declared.commands.Verb.TheVariants as verb

abbrev pub verb_of : List ℕ → Option Verb
verb_of name =
    if bytes_eq name (codes "func_new") then Some verb.FuncNew else
    (if bytes_eq name (codes "instantiate") then Some verb.Instantiate else
    (if bytes_eq name (codes "memory_new") then Some verb.MemoryNew else
    (if bytes_eq name (codes "memory_read") then Some verb.MemoryRead else
    (if bytes_eq name (codes "memory_write") then Some verb.MemoryWrite else
    (if bytes_eq name (codes "memory_size") then Some verb.MemorySize else
    (if bytes_eq name (codes "memory_grow") then Some verb.MemoryGrow else
    (if bytes_eq name (codes "table_new") then Some verb.TableNew else
    (if bytes_eq name (codes "table_get") then Some verb.TableGet else
    (if bytes_eq name (codes "table_set") then Some verb.TableSet else
    (if bytes_eq name (codes "table_size") then Some verb.TableSize else
    (if bytes_eq name (codes "table_grow") then Some verb.TableGrow else
    (if bytes_eq name (codes "table_copy") then Some verb.TableCopy else
    (if bytes_eq name (codes "table_fill") then Some verb.TableFill else
    (if bytes_eq name (codes "global_new") then Some verb.GlobalNew else
    (if bytes_eq name (codes "global_get") then Some verb.GlobalGet else
    (if bytes_eq name (codes "global_set") then Some verb.GlobalSet else
    (if bytes_eq name (codes "tag_new") then Some verb.TagNew else
    (if bytes_eq name (codes "get_export") then Some verb.GetExport else
    (if bytes_eq name (codes "get_fuel") then Some verb.GetFuel else
    (if bytes_eq name (codes "set_fuel") then Some verb.SetFuel else
    (if bytes_eq name (codes "yield_interval") then Some verb.YieldInterval else
    (if bytes_eq name (codes "set_epoch_deadline") then Some verb.SetEpochDeadline else
    (if bytes_eq name (codes "call") then Some verb.Call else None)))))))))))))))))))))))

-- a function of the host: the number of its type, the number of its body, and the names of the objects to be stored
abbrev pub func_new_of : List Signature → Data → Option Command
func_new_of types d = do
  _ ← only (codes "do" ∷ codes "type" ∷ codes "body" ∷ codes "stored" ∷ []) d
  ty ← required (type_at types) (codes "type") d
  body ← required whole (codes "body") d
  stored ← list_or_empty name_of (codes "stored") d
  Some (command.FuncNew ty body stored)

-- an instance: the number of its module, and the names of what it imports, none by default
abbrev pub instantiate_of : Data → Option Command
instantiate_of d = do
  _ ← only (codes "do" ∷ codes "module" ∷ codes "imports" ∷ []) d
  number ← required whole (codes "module") d
  imports ← list_or_empty name_of (codes "imports") d
  Some (command.Instantiate number imports)

abbrev pub memory_new_of : Data → Option Op
memory_new_of d = do
  _ ← only (codes "do" ∷ codes "min" ∷ codes "max" ∷ codes "page" ∷ []) d
  ty ← memory_type_in d
  Some (op.MemoryNew ty)

abbrev pub memory_read_of : Data → Option Op
memory_read_of d = do
  _ ← only (codes "do" ∷ codes "memory" ∷ codes "at" ∷ codes "len" ∷ []) d
  memory ← required name_of (codes "memory") d
  at ← required whole (codes "at") d
  len ← required whole (codes "len") d
  Some (op.MemoryRead memory at len)

abbrev pub memory_write_of : Data → Option Op
memory_write_of d = do
  _ ← only (codes "do" ∷ codes "memory" ∷ codes "at" ∷ codes "bytes" ∷ []) d
  memory ← required name_of (codes "memory") d
  at ← required whole (codes "at") d
  bytes ← required hex_bytes (codes "bytes") d
  Some (op.MemoryWrite memory at bytes)

abbrev pub memory_size_of : Data → Option Op
memory_size_of d = do
  _ ← only (codes "do" ∷ codes "memory" ∷ []) d
  memory ← required name_of (codes "memory") d
  Some (op.MemorySize memory)

abbrev pub memory_grow_of : Data → Option Op
memory_grow_of d = do
  _ ← only (codes "do" ∷ codes "memory" ∷ codes "delta" ∷ []) d
  memory ← required name_of (codes "memory") d
  delta ← required whole (codes "delta") d
  Some (op.MemoryGrow memory delta)

abbrev pub table_new_of : List Signature → Data → Option Op
table_new_of types d = do
  _ ← only (codes "do" ∷ codes "ref" ∷ codes "min" ∷ codes "max" ∷ codes "init" ∷ []) d
  ty ← table_type_in types d
  init ← required operand_of (codes "init") d
  Some (op.TableNew ty init)

abbrev pub table_get_of : Data → Option Op
table_get_of d = do
  _ ← only (codes "do" ∷ codes "table" ∷ codes "at" ∷ []) d
  table ← required name_of (codes "table") d
  at ← required whole (codes "at") d
  Some (op.TableGet table at)

abbrev pub table_set_of : Data → Option Op
table_set_of d = do
  _ ← only (codes "do" ∷ codes "table" ∷ codes "at" ∷ codes "value" ∷ []) d
  table ← required name_of (codes "table") d
  at ← required whole (codes "at") d
  value ← required operand_of (codes "value") d
  Some (op.TableSet table at value)

abbrev pub table_size_of : Data → Option Op
table_size_of d = do
  _ ← only (codes "do" ∷ codes "table" ∷ []) d
  table ← required name_of (codes "table") d
  Some (op.TableSize table)

abbrev pub table_grow_of : Data → Option Op
table_grow_of d = do
  _ ← only (codes "do" ∷ codes "table" ∷ codes "delta" ∷ codes "value" ∷ []) d
  table ← required name_of (codes "table") d
  delta ← required whole (codes "delta") d
  value ← required operand_of (codes "value") d
  Some (op.TableGrow table delta value)

abbrev pub table_copy_of : Data → Option Op
table_copy_of d = do
  _ ← only (codes "do" ∷ codes "dst" ∷ codes "dst_at" ∷ codes "src" ∷ codes "src_at" ∷ codes "len" ∷ []) d
  dst ← required name_of (codes "dst") d
  dst_at ← required whole (codes "dst_at") d
  src ← required name_of (codes "src") d
  src_at ← required whole (codes "src_at") d
  len ← required whole (codes "len") d
  Some (op.TableCopy dst dst_at src src_at len)

abbrev pub table_fill_of : Data → Option Op
table_fill_of d = do
  _ ← only (codes "do" ∷ codes "table" ∷ codes "at" ∷ codes "value" ∷ codes "len" ∷ []) d
  table ← required name_of (codes "table") d
  at ← required whole (codes "at") d
  value ← required operand_of (codes "value") d
  len ← required whole (codes "len") d
  Some (op.TableFill table at value len)

abbrev pub global_new_of : List Signature → Data → Option Op
global_new_of types d = do
  _ ← only (codes "do" ∷ codes "val" ∷ codes "mut" ∷ codes "init" ∷ []) d
  ty ← global_type_in types d
  init ← required operand_of (codes "init") d
  Some (op.GlobalNew ty init)

abbrev pub global_get_of : Data → Option Op
global_get_of d = do
  _ ← only (codes "do" ∷ codes "global" ∷ []) d
  global ← required name_of (codes "global") d
  Some (op.GlobalGet global)

abbrev pub global_set_of : Data → Option Op
global_set_of d = do
  _ ← only (codes "do" ∷ codes "global" ∷ codes "value" ∷ []) d
  global ← required name_of (codes "global") d
  value ← required operand_of (codes "value") d
  Some (op.GlobalSet global value)

abbrev pub tag_new_of : List Signature → Data → Option Op
tag_new_of types d = do
  _ ← only (codes "do" ∷ codes "type" ∷ []) d
  ty ← required (type_at types) (codes "type") d
  Some (op.TagNew ty)

-- an export: the name of an instance, and the export's own, which is one line of text
abbrev pub get_export_of : Data → Option Op
get_export_of d = do
  _ ← only (codes "do" ∷ codes "instance" ∷ codes "name" ∷ []) d
  instance ← required name_of (codes "instance") d
  name ← required line_of (codes "name") d
  Some (op.GetExport instance name)

abbrev pub get_fuel_of : Data → Option Op
get_fuel_of d = do
  _ ← only (codes "do" ∷ []) d
  Some op.GetFuel

abbrev pub set_fuel_of : Data → Option Op
set_fuel_of d = do
  _ ← only (codes "do" ∷ codes "fuel" ∷ []) d
  fuel ← required whole (codes "fuel") d
  Some (op.SetFuel fuel)

-- an interval, or null for none
abbrev pub yield_interval_of : Data → Option Op
yield_interval_of d = do
  _ ← only (codes "do" ∷ codes "interval" ∷ []) d
  interval ← required (null_or whole) (codes "interval") d
  Some (op.YieldInterval interval)

abbrev pub set_epoch_deadline_of : Data → Option Op
set_epoch_deadline_of d = do
  _ ← only (codes "do" ∷ codes "ticks" ∷ []) d
  ticks ← required whole (codes "ticks") d
  Some (op.SetEpochDeadline ticks)

-- a call: by default without arguments, and with as many results as the function has
abbrev pub call_of : Data → Option Op
call_of d = do
  _ ← only (codes "do" ∷ codes "func" ∷ codes "args" ∷ codes "results" ∷ []) d
  func ← required name_of (codes "func") d
  args ← list_or_empty operand_of (codes "args") d
  results ← optional whole (field (codes "results") d)
  Some (op.Call func args results)

abbrev pub operation : Option Op → Option Command
operation read = read >>= (λ o. Some (command.Op o))

abbrev pub command_by : List Signature → Data → Verb → Option Command
command_by types d verb.FuncNew = func_new_of types d
command_by types d verb.Instantiate = instantiate_of d
command_by types d verb.MemoryNew = operation (memory_new_of d)
command_by types d verb.MemoryRead = operation (memory_read_of d)
command_by types d verb.MemoryWrite = operation (memory_write_of d)
command_by types d verb.MemorySize = operation (memory_size_of d)
command_by types d verb.MemoryGrow = operation (memory_grow_of d)
command_by types d verb.TableNew = operation (table_new_of types d)
command_by types d verb.TableGet = operation (table_get_of d)
command_by types d verb.TableSet = operation (table_set_of d)
command_by types d verb.TableSize = operation (table_size_of d)
command_by types d verb.TableGrow = operation (table_grow_of d)
command_by types d verb.TableCopy = operation (table_copy_of d)
command_by types d verb.TableFill = operation (table_fill_of d)
command_by types d verb.GlobalNew = operation (global_new_of types d)
command_by types d verb.GlobalGet = operation (global_get_of d)
command_by types d verb.GlobalSet = operation (global_set_of d)
command_by types d verb.TagNew = operation (tag_new_of types d)
command_by types d verb.GetExport = operation (get_export_of d)
command_by types d verb.GetFuel = operation (get_fuel_of d)
command_by types d verb.SetFuel = operation (set_fuel_of d)
command_by types d verb.YieldInterval = operation (yield_interval_of d)
command_by types d verb.SetEpochDeadline = operation (set_epoch_deadline_of d)
command_by types d verb.Call = operation (call_of d)

-- the command that the data spells, where the types are those of the script
abbrev pub command_of : List Signature → Data → Option Command
command_of types d = do
  name ← required text (codes "do") d
  verb ← verb_of name
  command_by types d verb
