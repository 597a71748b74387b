-- How the program ends, and what each status says of the input and of the sink. This project's own.
use Rattle.std.specs.Prelude.{◌≡◌, ℕ, ◌+◌, ◌≤◌, List, length, nat_le, if◌then◌else◌, Option, Result, Ok, Err}
use Rattle.wasm_types.specs.declared.plain.EngineId.{EngineId}
use Rattle.wasm_syntax.specs.declared.declarations.ModuleDecl.{ModuleDecl}
use Rattle.wasm_streams.specs.Streams.{after, Fronts}
use Rattle.binary_types.specs.declared.faults.BinaryFault.{BinaryFault}
use Rattle.binary_types.specs.declared.faults.BinaryFault.TheVariants as fault
use Rattle.binary_program.specs.Lines.{line_of}
use Rattle.wasm_binary.specs.Modules.{module_of}
use Rattle.binary_program.specs.declared.status.BinaryStatus.{BinaryStatus}
use Rattle.binary_program.specs.declared.status.BinaryStatus.TheVariants.{Done, Refused, ReadFault, TooLong, OutOfMemory, WriteFault}

-- 2 and 5 to 7 are left to what programs for sessions say of words, of texts and of modules
abbrev pub exit_code : BinaryStatus → ℕ
exit_code Done = 0
exit_code Refused = 1
exit_code ReadFault = 3
exit_code TooLong = 4
exit_code OutOfMemory = 8
exit_code WriteFault = 9

-- the most bytes of an input: 2^24
abbrev pub limit : ℕ
limit = 16777216

-- the module that the program reads: of engine 1, with number 0
abbrev pub first_engine : EngineId
first_engine = record { 0 = 1 }

abbrev pub read_of : List ℕ → Result ModuleDecl BinaryFault
read_of input = module_of first_engine 0 input

-- the status that is due for what was read, and for a whole input, where nothing fails and memory does not run out
abbrev pub due_for_module : Result ModuleDecl BinaryFault → BinaryStatus
due_for_module (Ok m) = Done
due_for_module (Err fault.OutOfMemory) = OutOfMemory
due_for_module (Err e) = Refused

abbrev pub due : List ℕ → BinaryStatus
due input = if nat_le (length input) limit then due_for_module (read_of input) else TooLong

-- this answer was written: it is due for these bytes, which are within the limit, and so is the line
pub record Answered (taken : List ℕ) (old new : Option (List ℕ)) (status : BinaryStatus) : Type 0 where
  pub within : length taken ≤ limit
  pub due_status : status ≡ due_for_module (read_of taken)
  pub wrote : new ≡ after (line_of (read_of taken)) old

-- the bytes are within the limit, and a front of their line was written
pub record Broken (taken : List ℕ) (old new : Option (List ℕ)) : Type 0 where
  pub within : length taken ≤ limit
  pub front : Fronts (line_of (read_of taken)) old new

-- what a status says of the bytes that were taken of the source, and of what the sink held and holds
abbrev pub Says : List ℕ → Option (List ℕ) → Option (List ℕ) → BinaryStatus → Type 0
Says taken old new Done = Answered taken old new Done
Says taken old new Refused = Answered taken old new Refused
Says taken old new ReadFault = (length taken ≤ limit) × (new ≡ old)
Says taken old new TooLong = (length taken ≡ limit + 1) × (new ≡ old)
Says taken old new OutOfMemory = Broken taken old new
Says taken old new WriteFault = Broken taken old new

-- the whole line was written
abbrev pub IsWritten : BinaryStatus → Type 0
IsWritten Done = Unit {0}
IsWritten Refused = Unit {0}
IsWritten status = ⊥

-- nothing was written, and the sink was not touched
abbrev pub IsQuiet : BinaryStatus → Type 0
IsQuiet ReadFault = Unit {0}
IsQuiet TooLong = Unit {0}
IsQuiet OutOfMemory = Unit {0}
IsQuiet status = ⊥

-- it comes only after the source gave its end
abbrev pub IsOfWhole : BinaryStatus → Type 0
IsOfWhole Done = Unit {0}
IsOfWhole Refused = Unit {0}
IsOfWhole WriteFault = Unit {0}
IsOfWhole status = ⊥

-- the bytes alone decide it
abbrev pub IsDecided : BinaryStatus → Type 0
IsDecided Done = Unit {0}
IsDecided Refused = Unit {0}
IsDecided TooLong = Unit {0}
IsDecided status = ⊥
