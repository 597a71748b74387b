-- The one fault of a host's program: how it tells what each part answers. This project's own.
use Rattle.std.specs.Prelude.{◌≡◌, Result, Ok, Err}
use Rattle.binary_types.specs.declared.faults.BinaryFault.{BinaryFault}
use Rattle.binary_types.specs.declared.faults.BinaryFault.TheVariants as bytes
use Rattle.linker_map.specs.declared.faults.LinkFault.{LinkFault}
use Rattle.linker_map.specs.declared.faults.LinkFault.TheVariants as link
use Rattle.script_json.specs.declared.faults.JsonFault.{JsonFault}
use Rattle.script_json.specs.declared.faults.JsonFault.TheVariants as json
use Rattle.script_json.specs.declared.faults.ScriptFault.{ScriptFault}
use Rattle.script_json.specs.declared.faults.ScriptFault.TheVariants as script
use Rattle.wasm_syntax.specs.declared.module_fault.ModuleFault.{ModuleFault}
use Rattle.wasm_syntax.specs.declared.module_fault.ModuleFault.TheVariants as invalid
use Rattle.wasm_types.specs.declared.faults.TypeFault.{TypeFault}
use Rattle.wasm_types.specs.declared.faults.TypeFault.TheVariants as type
use Rattle.wasm_values.specs.declared.refusals.Refusal.{Refusal}
use Rattle.wasm_values.specs.declared.refusals.Refusal.TheVariants as refusal
use Rattle.wasm_plugins.specs.declared.faults.PluginFault.{PluginFault}
use Rattle.wasm_plugins.specs.declared.faults.PluginFault.TheVariants as plugin
use Rattle.wasm_embedding.specs.declared.faults.Fault.{Fault}
use Rattle.wasm_embedding.specs.declared.faults.Fault.TheVariants as fault

-- each cause under its part, but that a refusal is told as one and want of memory as such, whoever tells it
abbrev pub of_refusal : Refusal → Fault
of_refusal refusal.OutOfMemory = fault.OutOfMemory
of_refusal why = fault.Refused why

abbrev pub of_link : LinkFault → Fault
of_link (link.Refused why) = of_refusal why
of_link link.OutOfMemory = fault.OutOfMemory
of_link why = fault.Unlinked why

abbrev pub of_plugin : PluginFault → Fault
of_plugin (plugin.Refused why) = of_refusal why
of_plugin plugin.OutOfMemory = fault.OutOfMemory
of_plugin why = fault.Guest why

abbrev pub of_bytes : BinaryFault → Fault
of_bytes bytes.OutOfMemory = fault.OutOfMemory
of_bytes why = fault.Unreadable why

abbrev pub of_module : ModuleFault → Fault
of_module (invalid.InvalidModule rule place) = fault.Invalid rule place
of_module invalid.OutOfMemory = fault.OutOfMemory

abbrev pub of_type : TypeFault → Fault
of_type type.OutOfMemory = fault.OutOfMemory
of_type why = fault.NoType why

-- a text is no JSON, or JSON that declares no module
abbrev pub of_json : JsonFault → Fault
of_json json.NotJson = fault.NotJson
of_json json.OutOfMemory = fault.OutOfMemory

abbrev pub of_script : ScriptFault → Fault
of_script script.NotScript = fault.NotModule
of_script script.OutOfMemory = fault.OutOfMemory

-- what is answered where this is due; want of memory is free
abbrev pub Answers : {A : Type 0} → Result A Fault → Result A Fault → Type 0
Answers due (Ok x) = due ≡ Ok x
Answers due (Err fault.OutOfMemory) = Unit {0}
Answers due (Err why) = due ≡ Err why
