-- Operands as JSON data, as they are read: as scripts have them, but that a value may be a function too, by its handle. This
-- project's own format.
use Rattle.std.specs.Prelude.{ℕ, List, codes, if◌then◌else◌, Option, Some, None}
use Rattle.std.specs.Str.{bytes_eq}
use Rattle.serde_json.specs.Data.{Data}
use Rattle.wasm_values.specs.Handles.{func_of}
use Rattle.wasm_values.specs.declared.handles.Func.{Func}
use Rattle.wasm_values.specs.declared.values.Val.{Val}
use Rattle.wasm_values.specs.declared.values.Val.TheVariants as v
use Rattle.spec_machine.specs.declared.name.Operand.{Operand}
use Rattle.spec_machine.specs.declared.name.Operand.TheVariants as operand
use Rattle.script_json.specs.Fields.{◌>>=◌, null_or, one_member, two_items, whole}
use Rattle.script_commands.specs.Operands.{given, operand_by, operand_kind_of}
use Rattle.tape_values.specs.StoreNumbers.{store_id_of}

abbrev pub handle_by : Data → Data → Option Func
handle_by id index = do
  n ← whole id
  store ← store_id_of n
  place ← whole index
  Some (func_of store place)

abbrev pub handle_in : Data → Option Func
handle_in d = two_items d >>= (λ both. handle_by both.0 both.1)

-- an operand by its kind: that of a function is null or a handle, and each other one as scripts have it
abbrev pub operand_named : List ℕ → Data → Option Operand
operand_named kind d =
    if bytes_eq kind (codes "func") then (null_or handle_in d >>= (λ f. given (v.FuncRef f))) else
    (operand_kind_of kind >>= operand_by d)

abbrev pub operand_in : Data → Option Operand
operand_in d = one_member d >>= (λ m. operand_named m.0 m.1)

-- a value is an operand that is no name
abbrev pub as_value : Operand → Option Val
as_value (operand.Val val) = Some val
as_value (operand.Named named) = None

abbrev pub val_in : Data → Option Val
val_in d = operand_in d >>= as_value
