-- Operations on a tape as JSON data, as they are read: as scripts have them, but that an operand may be a function by its
-- handle, and that the name of an export is any text. This project's own format.
use Rattle.std.specs.Prelude.{ℕ, List, [], ◌∷◌, Option, Some, None, codes, if◌then◌else◌}
use Rattle.std.specs.Str.{bytes_eq}
use Rattle.serde_json.specs.Data.{Data}
use Rattle.wasm_types.specs.Signatures.{Signature}
use Rattle.spec_machine.specs.declared.operation.Op.{Op}
use Rattle.spec_machine.specs.declared.operation.Op.TheVariants as op
use Rattle.script_json.specs.Fields.{◌>>=◌, field, required, optional, only, whole, text, list_or_empty}
use Rattle.script_types.specs.Types.{table_type_in, global_type_in}
use Rattle.script_commands.specs.Commands.{memory_new_of, memory_read_of, memory_write_of, memory_size_of, memory_grow_of, table_get_of, table_size_of, table_copy_of, global_get_of, tag_new_of, get_fuel_of, set_fuel_of, yield_interval_of, set_epoch_deadline_of}
use Rattle.script_commands.specs.Names.{name_of}
use Rattle.tape_values.specs.OperandsRead.{operand_in}

abbrev pub table_new_in : List Signature → Data → Option Op
table_new_in types d = do
  _ ← only (codes "do" ∷ codes "ref" ∷ codes "min" ∷ codes "max" ∷ codes "init" ∷ []) d
  ty ← table_type_in types d
  init ← required operand_in (codes "init") d
  Some (op.TableNew ty init)

abbrev pub table_set_in : Data → Option Op
table_set_in d = do
  _ ← only (codes "do" ∷ codes "table" ∷ codes "at" ∷ codes "value" ∷ []) d
  table ← required name_of (codes "table") d
  at ← required whole (codes "at") d
  value ← required operand_in (codes "value") d
  Some (op.TableSet table at value)

abbrev pub table_grow_in : Data → Option Op
table_grow_in d = do
  _ ← only (codes "do" ∷ codes "table" ∷ codes "delta" ∷ codes "value" ∷ []) d
  table ← required name_of (codes "table") d
  delta ← required whole (codes "delta") d
  value ← required operand_in (codes "value") d
  Some (op.TableGrow table delta value)

abbrev pub table_fill_in : Data → Option Op
table_fill_in d = do
  _ ← only (codes "do" ∷ codes "table" ∷ codes "at" ∷ codes "value" ∷ codes "len" ∷ []) d
  table ← required name_of (codes "table") d
  at ← required whole (codes "at") d
  value ← required operand_in (codes "value") d
  len ← required whole (codes "len") d
  Some (op.TableFill table at value len)

abbrev pub global_new_in : List Signature → Data → Option Op
global_new_in types d = do
  _ ← only (codes "do" ∷ codes "val" ∷ codes "mut" ∷ codes "init" ∷ []) d
  ty ← global_type_in types d
  init ← required operand_in (codes "init") d
  Some (op.GlobalNew ty init)

abbrev pub global_set_in : Data → Option Op
global_set_in d = do
  _ ← only (codes "do" ∷ codes "global" ∷ codes "value" ∷ []) d
  global ← required name_of (codes "global") d
  value ← required operand_in (codes "value") d
  Some (op.GlobalSet global value)

-- an export: the name of an instance, and the export's own, which is any text
abbrev pub get_export_in : Data → Option Op
get_export_in d = do
  _ ← only (codes "do" ∷ codes "instance" ∷ codes "name" ∷ []) d
  instance ← required name_of (codes "instance") d
  name ← required text (codes "name") d
  Some (op.GetExport instance name)

-- a call: by default without arguments, and with as many results as the function has
abbrev pub call_in : Data → Option Op
call_in d = do
  _ ← only (codes "do" ∷ codes "func" ∷ codes "args" ∷ codes "results" ∷ []) d
  func ← required name_of (codes "func") d
  args ← list_or_empty operand_in (codes "args") d
  results ← optional whole (field (codes "results") d)
  Some (op.Call func args results)

abbrev pub op_named : List Signature → Data → List ℕ → Option Op
op_named types d name =
    if bytes_eq name (codes "memory_new") then memory_new_of d else
    (if bytes_eq name (codes "memory_read") then memory_read_of d else
    (if bytes_eq name (codes "memory_write") then memory_write_of d else
    (if bytes_eq name (codes "memory_size") then memory_size_of d else
    (if bytes_eq name (codes "memory_grow") then memory_grow_of d else
    (if bytes_eq name (codes "table_new") then table_new_in types d else
    (if bytes_eq name (codes "table_get") then table_get_of d else
    (if bytes_eq name (codes "table_set") then table_set_in d else
    (if bytes_eq name (codes "table_size") then table_size_of d else
    (if bytes_eq name (codes "table_grow") then table_grow_in d else
    (if bytes_eq name (codes "table_copy") then table_copy_of d else
    (if bytes_eq name (codes "table_fill") then table_fill_in d else
    (if bytes_eq name (codes "global_new") then global_new_in types d else
    (if bytes_eq name (codes "global_get") then global_get_of d else
    (if bytes_eq name (codes "global_set") then global_set_in d else
    (if bytes_eq name (codes "tag_new") then tag_new_of types d else
    (if bytes_eq name (codes "get_export") then get_export_in d else
    (if bytes_eq name (codes "get_fuel") then get_fuel_of d else
    (if bytes_eq name (codes "set_fuel") then set_fuel_of d else
    (if bytes_eq name (codes "yield_interval") then yield_interval_of d else
    (if bytes_eq name (codes "set_epoch_deadline") then set_epoch_deadline_of d else
    (if bytes_eq name (codes "call") then call_in d else None)))))))))))))))))))))

-- the operation that the data spells, by its name at the key "do"; the types are those that it may name
abbrev pub op_in : List Signature → Data → Option Op
op_in types d = required text (codes "do") d >>= op_named types d
