-- The arguments of a call, looked at one by one: where there is no memory for a list of them. This project's own.
use Rattle.std.specs.Prelude.{◌≡◌, if◌then◌else◌, ℕ, Bool, true, false, ◌&&◌, List, [], ◌∷◌, Option, Some, None}
use Rattle.wasm_types.specs.Signatures.{Signature}
use Rattle.wasm_types.specs.declared.value_types.ValType.{ValType}
use Rattle.wasm_values.specs.Handles.{func_store, func_index}
use Rattle.wasm_values.specs.declared.handles.Func.{Func}
use Rattle.wasm_values.specs.declared.store_id.StoreId.{StoreId}
use Rattle.wasm_values.specs.declared.values.Val.{Val}
use Rattle.spec_machine.specs.Commands.{Row, named}
use Rattle.spec_machine.specs.Machine.{Machine}
use Rattle.spec_machine.specs.Names.{Scope, operand_value, operand_values}
use Rattle.spec_machine.specs.Values.{is_id, owns_val, val_fits}
use Rattle.spec_machine.specs.declared.name.Operand.{Operand}
use Rattle.store_state.specs.Machine.{run_machine, type_named}
use Rattle.store_state.specs.Parts.{ProgramParts, HeldParts}
use Rattle.wasm_call.specs.Calls.{call_row}

-- the row of a call of this function on what these operands give
abbrev pub call_on : Machine → Scope → Func → List Operand → Option ℕ → Row
call_on m s f args wanted = named (operand_values s args) (λ vals. call_row m f vals wanted)

-- in each store of this id whose code reads this program
abbrev pub InStores : ProgramParts → StoreId → (Machine → Type 0) → Type 0
InStores program id Says =
    (base : Machine) (held : HeldParts) → base.id ≡ id → Says (run_machine base program held)

-- the type of a function, where it is of a store of this id whose code reads this program
abbrev pub own_type : ProgramParts → StoreId → Func → Option Signature
own_type program id f = if is_id (func_store f) id then type_named program (func_index f) else None

-- a value, where there is one, is of the store; it may stand where one of the type is wanted
abbrev pub is_owned : Machine → Option Val → Bool
is_owned m (Some val) = owns_val m val
is_owned m None = true

abbrev pub is_fitting : Machine → Option Val → ValType → Bool
is_fitting m (Some val) ty = val_fits m val ty
is_fitting m None ty = false

-- there are as many operands as types, and each gives a value that may stand where its type is wanted
abbrev pub are_fitting : Machine → Scope → List Operand → List ValType → Bool
are_fitting m s [] [] = true
are_fitting m s (arg ∷ args) (ty ∷ tys) = is_fitting m (operand_value s arg) ty && are_fitting m s args tys
are_fitting m s _ _ = false
