-- A function that an instance exports, by static types of the host: the wasmtime crate's `Instance::get_typed_func`.
use Rattle.std.specs.Prelude.{ℕ, List, Result}
use Rattle.std.specs.Option.{ok_or}
use Rattle.wasm_types.specs.declared.value_types.ValType.{ValType}
use Rattle.wasm_values.specs.Externals.{extern_func}
use Rattle.wasm_values.specs.declared.handles.Instance.{Instance}
use Rattle.wasm_values.specs.declared.refusals.Refusal.{Refusal}
use Rattle.wasm_values.specs.declared.refusals.Refusal.TheVariants.{NoExport}
use Rattle.spec_machine.specs.Machine.{Machine}
use Rattle.spec_machine.specs.Steps.{◌>>=◌}
use Rattle.wasm_instance.specs.Exports.{export_as}
use Rattle.wasm_typed.specs.TypedFunctions.{TypedFunction, typed}

-- the export of the name, where it is a function with these static types
abbrev pub get_typed_func : List ValType → List ValType → Machine → Instance → List ℕ → Result TypedFunction Refusal
get_typed_func taken given m instance name = do
  found ← export_as extern_func m instance name
  f ← ok_or found NoExport
  typed taken given m f
