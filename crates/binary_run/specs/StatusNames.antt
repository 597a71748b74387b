-- The text of each status and the exit status of the program: this project's own.
use Rattle.std.specs.Prelude.{ℕ, List, ◌++◌, codes}
use Rattle.std.specs.Fmt.{decimal}
use Rattle.binary_types.specs.declared.faults.BinaryFault.{BinaryFault}
use Rattle.binary_types.specs.declared.faults.BinaryFault.TheVariants as binary
use Rattle.wasm_run.specs.StatusNames as session
use Rattle.wasm_run.specs.declared.status.Status.TheVariants as session_status
use Rattle.binary_run.specs.declared.status.BytesPart.{BytesPart}
use Rattle.binary_run.specs.declared.status.BytesPart.TheVariants as part
use Rattle.binary_run.specs.declared.status.Status.{Status}
use Rattle.binary_run.specs.declared.status.Status.TheVariants.{Done, BadWords, ReadFault, TooLong, BadModule, InvalidModule, NoFunction, TakesNoBytes, BadArguments, OutOfMemory, WriteFault}

-- what is wrong with the bytes, and the place
abbrev pub fault_text : BinaryFault → List ℕ
fault_text binary.Malformed = codes "malformed"
fault_text (binary.Unsupported at code) = codes "unsupported " ++ decimal at ++ codes " " ++ decimal code
fault_text (binary.Index at) = codes "index " ++ decimal at
fault_text (binary.Alignment at) = codes "alignment " ++ decimal at
fault_text (binary.Refused at fault) = codes "refused " ++ decimal at
fault_text binary.OutOfMemory = codes "OutOfMemory"

-- what of a module takes no bytes
abbrev pub part_text : BytesPart → List ℕ
part_text part.Memory = codes "memory"
part_text part.Alloc = codes "alloc"
part_text part.Function = codes "function"

-- its name; what is wrong with the bytes; and of a module that is not valid what a session says of its first module
abbrev pub status_text : Status → List ℕ
status_text Done = codes "Done"
status_text BadWords = codes "BadWords"
status_text ReadFault = codes "ReadFault"
status_text TooLong = codes "TooLong"
status_text (BadModule fault) = fault_text fault
status_text (InvalidModule rule place) = session.status_text (session_status.InvalidModule 0 rule place)
status_text NoFunction = codes "NoFunction"
status_text (TakesNoBytes part) = codes "TakesNoBytes " ++ part_text part
status_text BadArguments = codes "BadArguments"
status_text OutOfMemory = codes "OutOfMemory"
status_text WriteFault = codes "WriteFault"

-- as those of a session, where the cause is the same; 1 is left to faults of the system, 11 and 12 to who tells ends apart
abbrev pub exit_code : Status → ℕ
exit_code Done = 0
exit_code BadWords = 2
exit_code ReadFault = 3
exit_code TooLong = 4
exit_code (BadModule fault) = 5
exit_code NoFunction = 6
exit_code (InvalidModule rule place) = 7
exit_code OutOfMemory = 8
exit_code WriteFault = 9
exit_code BadArguments = 10
exit_code (TakesNoBytes part) = 13
