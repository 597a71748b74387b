-- The numbers by which C is told how a call ended. This project's own.
use Rattle.std.specs.Prelude.{ℕ}
use Rattle.wasm_values.specs.declared.refusals.Refusal.{Refusal}
use Rattle.wasm_values.specs.declared.refusals.Refusal.TheVariants as refusal
use Rattle.wasm_values.specs.declared.refusals.Trap.{Trap}
use Rattle.wasm_values.specs.declared.refusals.Trap.TheVariants as trap
use Rattle.binary_call.specs.declared.faults.CallFault.{CallFault}
use Rattle.binary_call.specs.declared.faults.CallFault.TheVariants as fault
use Rattle.c_calls.specs.declared.ends.End.{End}
use Rattle.c_calls.specs.declared.ends.End.TheVariants as end

abbrev pub trap_number : Trap → ℕ
trap_number trap.MemoryOutOfBounds = 1
trap_number trap.TableOutOfBounds = 2
trap_number trap.IndirectCallToNull = 3
trap_number trap.BadSignature = 4
trap_number trap.IntegerDivisionByZero = 5
trap_number trap.IntegerOverflow = 6
trap_number trap.UnreachableCodeReached = 7
trap_number trap.StackOverflow = 8
trap_number trap.OutOfFuel = 9
trap_number trap.Interrupt = 10

-- a refusal among refusals; a trap among traps
abbrev pub refusal_number : Refusal → ℕ
refusal_number (refusal.Trap t) = trap_number t
refusal_number refusal.NoReply = 1
refusal_number refusal.WrongStore = 2
refusal_number refusal.WrongEngine = 3
refusal_number refusal.FuelNotConfigured = 4
refusal_number refusal.FuelInterval = 5
refusal_number refusal.ImmutableGlobal = 6
refusal_number refusal.ImportCount = 7
refusal_number (refusal.ImportType place) = 8
refusal_number refusal.ArgumentCount = 9
refusal_number refusal.ResultCount = 10
refusal_number refusal.TypeMismatch = 11
refusal_number (refusal.ResourceLimit kind) = 12
refusal_number refusal.MemoryAccessError = 13
refusal_number refusal.GrowFailed = 14
refusal_number refusal.LimiterFault = 15
refusal_number refusal.HookFault = 16
refusal_number refusal.EpochFault = 17
refusal_number refusal.NoHostBody = 18
refusal_number refusal.HostFault = 19
refusal_number refusal.HostResultType = 20
refusal_number refusal.TurnLimit = 21
refusal_number refusal.NoExport = 22
refusal_number refusal.OutOfMemory = 23

abbrev pub refusal_code : Refusal → ℕ
refusal_code (refusal.Trap t) = 14
refusal_code _ = 15

-- as those of a run, where the cause is the same
abbrev pub fault_code : CallFault → ℕ
fault_code fault.BadBounds = 2
fault_code fault.TooLong = 4
fault_code (fault.BadModule why) = 5
fault_code fault.NoFunction = 6
fault_code (fault.InvalidModule rule place) = 7
fault_code fault.OutOfMemory = 8
fault_code fault.BadArguments = 10
fault_code (fault.TakesNoBytes part) = 13

abbrev pub code : End → ℕ
code end.Values = 0
code end.NoRoom = 9
code end.BadValue = 16
code (end.Refused why) = refusal_code why
code (end.Fault why) = fault_code why

abbrev pub cause : End → ℕ
cause (end.Refused why) = refusal_number why
cause _ = 0
