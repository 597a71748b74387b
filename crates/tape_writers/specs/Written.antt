-- Operations on a tape as JSON data, as they are written: members stand in the order of their keys. This project's own format.
use Rattle.std.specs.Prelude.{ℕ, List, codes, Option, Some, None}
use Rattle.std.specs.List.{AllByRecursion}
use Rattle.hex.specs.Hex.{IsBytes, encode_lower}
use Rattle.serde_json.specs.Data as json
use Rattle.serde_json.specs.Data.{Data, Members, no_members, member}
use Rattle.wasm_types.specs.GlobalTypes.{GlobalParts}
use Rattle.wasm_types.specs.MemoryTypes.{MemoryParts}
use Rattle.wasm_types.specs.TableTypes.{TableParts}
use Rattle.wasm_types.specs.Signatures.{Signature}
use Rattle.spec_machine.specs.declared.name.Name.{Name}
use Rattle.spec_machine.specs.declared.name.Operand.{Operand}
use Rattle.spec_machine.specs.declared.operation.Op.{Op}
use Rattle.spec_machine.specs.declared.operation.Op.TheVariants as op
use Rattle.script_json.specs.Fields.{◌>>=◌}
use Rattle.tape_values.specs.Operands.{name_data, operand_data, OperandInRange}
use Rattle.tape_values.specs.Types.{MemoryInRange, TableInRange, type_data, reference_data, val_type_data, mutability_data}
use Rattle.tape_values.specs.Writing.{whole_data, text_data, list_data}

-- a member with what an operation is called, and one where there is a number
abbrev pub verb : List ℕ → Members → Members
verb name rest = member (codes "do") (text_data name) rest

abbrev pub optional_member : List ℕ → Option ℕ → Members → Members
optional_member key None rest = rest
optional_member key (Some n) rest = member key (whole_data n) rest

-- ---- memories

abbrev pub memory_new_data : MemoryParts → Data
memory_new_data ty =
    json.object (verb (codes "memory_new") (optional_member (codes "max") ty.maximum
    (member (codes "min") (whole_data ty.minimum) (member (codes "page") (whole_data ty.page_size_log2) no_members))))

abbrev pub memory_read_data : Name → ℕ → ℕ → Data
memory_read_data memory at len =
    json.object (member (codes "at") (whole_data at) (verb (codes "memory_read")
    (member (codes "len") (whole_data len) (member (codes "memory") (name_data memory) no_members))))

abbrev pub memory_write_data : Name → ℕ → List ℕ → Data
memory_write_data memory at bytes =
    json.object (member (codes "at") (whole_data at) (member (codes "bytes") (text_data (encode_lower bytes))
    (verb (codes "memory_write") (member (codes "memory") (name_data memory) no_members))))

abbrev pub memory_size_data : Name → Data
memory_size_data memory =
    json.object (verb (codes "memory_size") (member (codes "memory") (name_data memory) no_members))

abbrev pub memory_grow_data : Name → ℕ → Data
memory_grow_data memory delta =
    json.object (member (codes "delta") (whole_data delta) (verb (codes "memory_grow")
    (member (codes "memory") (name_data memory) no_members)))

-- ---- tables

abbrev pub table_new_by : TableParts → Data → Data → Data
table_new_by ty init element =
    json.object (verb (codes "table_new") (member (codes "init") init (optional_member (codes "max") ty.maximum
    (member (codes "min") (whole_data ty.minimum) (member (codes "ref") element no_members)))))

abbrev pub table_new_data : List Signature → TableParts → Operand → Option Data
table_new_data types ty init =
    reference_data types ty.element >>= (λ element. Some (table_new_by ty (operand_data init) element))

abbrev pub table_get_data : Name → ℕ → Data
table_get_data table at =
    json.object (member (codes "at") (whole_data at) (verb (codes "table_get")
    (member (codes "table") (name_data table) no_members)))

abbrev pub table_set_data : Name → ℕ → Operand → Data
table_set_data table at value =
    json.object (member (codes "at") (whole_data at) (verb (codes "table_set")
    (member (codes "table") (name_data table) (member (codes "value") (operand_data value) no_members))))

abbrev pub table_size_data : Name → Data
table_size_data table = json.object (verb (codes "table_size") (member (codes "table") (name_data table) no_members))

abbrev pub table_grow_data : Name → ℕ → Operand → Data
table_grow_data table delta value =
    json.object (member (codes "delta") (whole_data delta) (verb (codes "table_grow")
    (member (codes "table") (name_data table) (member (codes "value") (operand_data value) no_members))))

abbrev pub table_copy_data : Name → ℕ → Name → ℕ → ℕ → Data
table_copy_data dst dst_at src src_at len =
    json.object (verb (codes "table_copy") (member (codes "dst") (name_data dst) (member (codes "dst_at") (whole_data dst_at)
    (member (codes "len") (whole_data len) (member (codes "src") (name_data src)
    (member (codes "src_at") (whole_data src_at) no_members))))))

abbrev pub table_fill_data : Name → ℕ → Operand → ℕ → Data
table_fill_data table at value len =
    json.object (member (codes "at") (whole_data at) (verb (codes "table_fill") (member (codes "len") (whole_data len)
    (member (codes "table") (name_data table) (member (codes "value") (operand_data value) no_members)))))

-- ---- globals, tags and exports

abbrev pub global_new_by : GlobalParts → Operand → Data → Data
global_new_by ty init content =
    json.object (verb (codes "global_new") (member (codes "init") (operand_data init)
    (member (codes "mut") (mutability_data ty.mutability) (member (codes "val") content no_members))))

abbrev pub global_new_data : List Signature → GlobalParts → Operand → Option Data
global_new_data types ty init = val_type_data types ty.content >>= (λ content. Some (global_new_by ty init content))

abbrev pub global_get_data : Name → Data
global_get_data global = json.object (verb (codes "global_get") (member (codes "global") (name_data global) no_members))

abbrev pub global_set_data : Name → Operand → Data
global_set_data global value =
    json.object (verb (codes "global_set") (member (codes "global") (name_data global)
    (member (codes "value") (operand_data value) no_members)))

abbrev pub tag_new_by : Data → Data
tag_new_by ty = json.object (verb (codes "tag_new") (member (codes "type") ty no_members))

abbrev pub tag_new_data : List Signature → Signature → Option Data
tag_new_data types ty = type_data types ty >>= (λ number. Some (tag_new_by number))

abbrev pub get_export_data : Name → List ℕ → Data
get_export_data instance name =
    json.object (verb (codes "get_export") (member (codes "instance") (name_data instance)
    (member (codes "name") (text_data name) no_members)))

-- ---- fuel, interval and deadline

abbrev pub get_fuel_data : Data
get_fuel_data = json.object (verb (codes "get_fuel") no_members)

abbrev pub set_fuel_data : ℕ → Data
set_fuel_data fuel = json.object (verb (codes "set_fuel") (member (codes "fuel") (whole_data fuel) no_members))

-- an interval, or null for none
abbrev pub interval_data : Option ℕ → Data
interval_data None = json.null
interval_data (Some n) = whole_data n

abbrev pub yield_interval_data : Option ℕ → Data
yield_interval_data interval =
    json.object (verb (codes "yield_interval") (member (codes "interval") (interval_data interval) no_members))

abbrev pub set_epoch_deadline_data : ℕ → Data
set_epoch_deadline_data ticks =
    json.object (verb (codes "set_epoch_deadline") (member (codes "ticks") (whole_data ticks) no_members))

-- ---- calls

-- an operand, as an item of a list
abbrev pub argument_data : Operand → Option Data
argument_data argument = Some (operand_data argument)

abbrev pub call_by : Name → Option ℕ → Data → Data
call_by func results arguments =
    json.object (member (codes "args") arguments (verb (codes "call") (member (codes "func") (name_data func)
    (optional_member (codes "results") results no_members))))

abbrev pub call_data : Name → List Operand → Option ℕ → Option Data
call_data func args results = list_data argument_data args >>= (λ arguments. Some (call_by func results arguments))

-- what is written of an operation, or none where a function type in it equals none of the types
abbrev pub op_data : List Signature → Op → Option Data
op_data types (op.MemoryNew ty) = Some (memory_new_data ty)
op_data types (op.MemoryRead memory at len) = Some (memory_read_data memory at len)
op_data types (op.MemoryWrite memory at bytes) = Some (memory_write_data memory at bytes)
op_data types (op.MemorySize memory) = Some (memory_size_data memory)
op_data types (op.MemoryGrow memory delta) = Some (memory_grow_data memory delta)
op_data types (op.TableNew ty init) = table_new_data types ty init
op_data types (op.TableGet table at) = Some (table_get_data table at)
op_data types (op.TableSet table at value) = Some (table_set_data table at value)
op_data types (op.TableSize table) = Some (table_size_data table)
op_data types (op.TableGrow table delta value) = Some (table_grow_data table delta value)
op_data types (op.TableCopy dst dst_at src src_at len) = Some (table_copy_data dst dst_at src src_at len)
op_data types (op.TableFill table at value len) = Some (table_fill_data table at value len)
op_data types (op.GlobalNew ty init) = global_new_data types ty init
op_data types (op.GlobalGet global) = Some (global_get_data global)
op_data types (op.GlobalSet global value) = Some (global_set_data global value)
op_data types (op.TagNew ty) = tag_new_data types ty
op_data types (op.GetExport instance name) = Some (get_export_data instance name)
op_data types op.GetFuel = Some get_fuel_data
op_data types (op.SetFuel fuel) = Some (set_fuel_data fuel)
op_data types (op.YieldInterval interval) = Some (yield_interval_data interval)
op_data types (op.SetEpochDeadline ticks) = Some (set_epoch_deadline_data ticks)
op_data types (op.Call func args results) = call_data func args results

-- each number in an operation is one of its type
abbrev pub OpInRange : Op → Type 0
OpInRange (op.MemoryNew ty) = MemoryInRange ty
OpInRange (op.MemoryWrite memory at bytes) = IsBytes bytes
OpInRange (op.TableNew ty init) = TableInRange ty × OperandInRange init
OpInRange (op.TableSet table at value) = OperandInRange value
OpInRange (op.TableGrow table delta value) = OperandInRange value
OpInRange (op.TableFill table at value len) = OperandInRange value
OpInRange (op.GlobalNew ty init) = OperandInRange init
OpInRange (op.GlobalSet global value) = OperandInRange value
OpInRange (op.Call func args results) = AllByRecursion OperandInRange args
OpInRange _ = Unit {0}
