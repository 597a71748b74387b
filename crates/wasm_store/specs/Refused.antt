-- Want of memory as a refusal.
use Rattle.std.specs.Prelude.{Result, Ok, Err}
use Rattle.wasm_types.specs.declared.faults.OutOfMemory.{OutOfMemory as NoMemory}
use Rattle.wasm_values.specs.declared.refusals.Refusal.{Refusal}
use Rattle.wasm_values.specs.declared.refusals.Refusal.TheVariants.{OutOfMemory}

abbrev pub refused_by_memory : {A : Type 0} → Result A NoMemory → Result A Refusal
refused_by_memory (Ok a) = Ok a
refused_by_memory (Err none) = Err OutOfMemory
