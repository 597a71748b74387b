-- What a host asks before a function is called: the conditions of the wasmtime crate's call.
-- WebAssembly core specification, "Execution, modules, invocation"; the order of the conditions is this project's own
use Rattle.std.specs.Prelude.{ℕ, Bool, true, List, map, length, nat_eq, Option, Some, None, Result, Ok}
use Rattle.std.specs.List.{list_all}
use Rattle.wasm_types.specs.FunctionParts.{params, results}
use Rattle.wasm_types.specs.declared.value_types.ValType.{ValType}
use Rattle.wasm_values.specs.Handles.{func_index}
use Rattle.wasm_values.specs.declared.handles.Func.{Func}
use Rattle.wasm_values.specs.declared.refusals.Refusal.{Refusal}
use Rattle.wasm_values.specs.declared.refusals.Refusal.TheVariants.{WrongStore, ArgumentCount, ResultCount, TypeMismatch}
use Rattle.wasm_values.specs.declared.values.Val.{Val}
use Rattle.wasm_objects.specs.declared.raw.RawVal.{RawVal}
use Rattle.spec_machine.specs.Machine.{Machine}
use Rattle.spec_machine.specs.Steps.{◌>>=◌, unless}
use Rattle.spec_machine.specs.ValueCalls.{func_ty}
use Rattle.spec_machine.specs.Values.{owns_val, raw_val, all_fit}

-- a call whose conditions hold: the number of the function, the arguments as a store holds them, and the result types
pub record Called : Type 0 where
  pub function : ℕ
  pub arguments : List RawVal
  pub results : List ValType

-- as many results as are asked for, where it is said how many
abbrev pub is_count : Option ℕ → ℕ → Bool
is_count None n = true
is_count (Some wanted) n = nat_eq wanted n

abbrev pub called : Machine → Func → List Val → Option ℕ → Result Called Refusal
called m f args wanted = do
  t ← func_ty m f
  _ ← unless WrongStore (list_all (owns_val m) args)
  _ ← unless ArgumentCount (nat_eq (length args) (length (params t)))
  _ ← unless ResultCount (is_count wanted (length (results t)))
  _ ← unless TypeMismatch (all_fit m args (params t))
  Ok (record { function = func_index f; arguments = map raw_val args; results = results t })
