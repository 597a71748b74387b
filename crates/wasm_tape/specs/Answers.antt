-- What the calls on the JSON of a tape answer; want of memory is free. This project's own.
use Rattle.std.specs.Prelude.{◌≡◌, Option, Some, None, Result, Ok, Err}
use Rattle.serde_json.specs.Data.{Data}
use Rattle.serde_json.specs.View.{view}
use Rattle.serde_json.specs.declared.value.Value.{Value}
use Rattle.script_json.specs.declared.faults.ScriptFault.{ScriptFault}
use Rattle.script_json.specs.declared.faults.ScriptFault.TheVariants as script
use Rattle.law_replay.specs.Tapes.{TapeParts}
use Rattle.wasm_tape.specs.Parts.{parts_of}
use Rattle.wasm_tape.specs.declared.faults.TapeFault.{TapeFault}
use Rattle.wasm_tape.specs.declared.faults.TapeFault.TheVariants.{UnknownType, BadTape, OutOfMemory}
use Rattle.wasm_tape.specs.declared.tape.Tape.{Tape}

-- what is written of a tape: the data, or that a function type on it has no number
abbrev pub WritesTape : Option Data → Result Value TapeFault → Type 0
WritesTape o (Ok value) = o ≡ Some (view value)
WritesTape o (Err UnknownType) = o ≡ None
WritesTape o (Err BadTape) = ⊥
WritesTape o (Err OutOfMemory) = Unit {0}

-- what is read of data: a tape that holds this, or that it is none
abbrev pub ReadsTape : Option TapeParts → Result Tape TapeFault → Type 0
ReadsTape o (Ok t) = o ≡ Some (parts_of t)
ReadsTape o (Err UnknownType) = ⊥
ReadsTape o (Err BadTape) = o ≡ None
ReadsTape o (Err OutOfMemory) = Unit {0}

-- the same by the fault of the readers
abbrev pub ReadsParts : Option TapeParts → Result Tape ScriptFault → Type 0
ReadsParts o (Ok t) = o ≡ Some (parts_of t)
ReadsParts o (Err script.NotScript) = o ≡ None
ReadsParts o (Err script.OutOfMemory) = Unit {0}
