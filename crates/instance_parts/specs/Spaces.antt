-- The index spaces of a new instance as code tells them apart.
-- WebAssembly core specification, "Structure, modules, indices"; "Execution, modules, allocation"
use Rattle.std.specs.Prelude.{ℕ, Option, option_map}
use Rattle.wasm_values.specs.Externals.{extern_func, extern_global, extern_table, extern_memory, extern_tag}
use Rattle.wasm_values.specs.Handles.{func_index, global_index, table_index, memory_index, tag_index}
use Rattle.wasm_values.specs.declared.externals.Extern.{Extern}
use Rattle.instance_parts.specs.declared.spaces.Space.{Space}
use Rattle.instance_parts.specs.declared.spaces.Space.TheVariants as space

-- the number in the store of an object, where it is one of this space
abbrev pub number_as : Space → Extern → Option ℕ
number_as space.Functions = λ e. option_map func_index (extern_func e)
number_as space.Tables = λ e. option_map table_index (extern_table e)
number_as space.Memories = λ e. option_map memory_index (extern_memory e)
number_as space.Globals = λ e. option_map global_index (extern_global e)
number_as space.Tags = λ e. option_map tag_index (extern_tag e)
