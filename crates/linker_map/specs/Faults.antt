-- The refusal of a call on a store, as a linker tells it. This project's own.
use Rattle.wasm_values.specs.declared.refusals.Refusal.{Refusal}
use Rattle.wasm_values.specs.declared.refusals.Refusal.TheVariants as refusal
use Rattle.linker_map.specs.declared.faults.LinkFault.{LinkFault}
use Rattle.linker_map.specs.declared.faults.LinkFault.TheVariants.{Refused, OutOfMemory}

-- want of memory is want of memory
abbrev pub told_fault : Refusal → LinkFault
told_fault refusal.OutOfMemory = OutOfMemory
told_fault why = Refused why
