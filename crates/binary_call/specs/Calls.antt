-- The call that bounds, a name, values and the bytes of a module ask for, or why they ask for none. This project's own.
use Rattle.std.specs.Prelude.{◌≡◌, ℕ, ◌^◌, List, length, map, nat_le, nat_lt, Bool, true, if◌then◌else◌, Option, Some, None, Result, Ok, Err}
use Rattle.wasm_types.specs.Signatures.{Signature}
use Rattle.wasm_types.specs.declared.value_types.ValType.{ValType}
use Rattle.wasm_syntax.specs.FirstBroken.{first_broken}
use Rattle.wasm_syntax.specs.declared.declarations.ModuleDecl.{ModuleDecl}
use Rattle.wasm_syntax.specs.declared.module_fault.Place.{Place}
use Rattle.wasm_syntax.specs.declared.module_fault.Rule.{Rule}
use Rattle.wasm_values.specs.declared.values.Val.{Val}
use Rattle.spec_machine.specs.Machine.{are_engine_limits}
use Rattle.spec_machine.specs.declared.name.Operand.{Operand}
use Rattle.spec_machine.specs.declared.name.Operand.TheVariants as operand
use Rattle.binary_types.specs.declared.faults.BinaryFault.{BinaryFault}
use Rattle.binary_types.specs.declared.faults.BinaryFault.TheVariants as binary
use Rattle.wasm_run.specs.Sessions.{limit}
use Rattle.binary_run.specs.Calls.{Call, call_parts, module_in, word_types}
use Rattle.binary_run.specs.Exports.{exported_function}
use Rattle.binary_run.specs.Words.{frames}
use Rattle.binary_run.specs.declared.options.Options.{Options}
use Rattle.binary_run.specs.declared.status.BytesPart.{BytesPart}
use Rattle.binary_call.specs.Arguments.{all_fit}
use Rattle.binary_call.specs.declared.bounds.Bounds.{Bounds}
use Rattle.binary_call.specs.declared.faults.CallFault.{CallFault}
use Rattle.binary_call.specs.declared.faults.CallFault.TheVariants.{BadBounds, TooLong, BadModule, InvalidModule, NoFunction, TakesNoBytes, BadArguments, OutOfMemory}

-- ---- the module

-- what a reader's fault comes to
abbrev pub fault_of : BinaryFault → CallFault
fault_of binary.OutOfMemory = OutOfMemory
fault_of fault = BadModule fault

-- a declaration is a module where its first broken rule is none
abbrev pub unbroken : ModuleDecl → Option (Rule × Place) → Result ModuleDecl CallFault
unbroken decl None = Ok decl
unbroken decl (Some broken) = Err (InvalidModule broken.0 broken.1)

abbrev pub valid : Result ModuleDecl BinaryFault → Result ModuleDecl CallFault
valid (Ok decl) = unbroken decl (first_broken decl)
valid (Err fault) = Err (fault_of fault)

-- the valid module that bytes spell, 2^24 of them at most
abbrev pub guest_in : List ℕ → Result ModuleDecl CallFault
guest_in bytes = if nat_le (length bytes) limit then valid (module_in bytes) else Err TooLong

-- ---- the call

-- what is asked for beside the module
pub record Asked : Type 0 where
  pub bounds : Bounds
  pub name : List ℕ
  pub arguments : List Val
  -- the bytes that the call is given, where it is given some
  pub bytes : Option (List ℕ)

abbrev pub asked_for : Bounds → List ℕ → List Val → Option (List ℕ) → Asked
asked_for bounds name arguments bytes =
    record { bounds = bounds; name = name; arguments = arguments; bytes = bytes }

-- as words have them that do not say how many bytes of their input the call is given
abbrev pub options_of : Bounds → Options
options_of b = record {
  fuel = b.fuel;
  turns = b.turns;
  pages = b.pages;
  elements = b.elements;
  bytes = None;
}

abbrev pub operands_of : List Val → List Operand
operands_of values = map operand.Val values

abbrev pub call_of : Asked → ModuleDecl → Call
call_of a decl = call_parts (options_of a.bounds) decl a.name (operands_of a.arguments) a.bytes

abbrev pub call_of_types : Asked → ModuleDecl → Result (List ValType) BytesPart → Result Call CallFault
call_of_types a decl (Err part) = Err (TakesNoBytes part)
call_of_types a decl (Ok types) = if all_fit types a.arguments then Ok (call_of a decl) else Err BadArguments

abbrev pub call_of_function : Asked → ModuleDecl → Option Signature → Result Call CallFault
call_of_function a decl None = Err NoFunction
call_of_function a decl (Some ty) = call_of_types a decl (word_types decl a.bytes ty)

abbrev pub call_in : Asked → Result ModuleDecl CallFault → Result Call CallFault
call_in a (Ok decl) = call_of_function a decl (exported_function decl a.name)
call_in a (Err fault) = Err fault

-- whether a memory has room for the bytes
abbrev pub are_few : Option (List ℕ) → Bool
are_few None = true
are_few (Some bytes) = nat_lt (length bytes) (2 ^ 32)

-- the call that is asked for of the bytes of a module
abbrev pub spelled : Asked → List ℕ → Result Call CallFault
spelled a guest =
    if are_engine_limits frames a.bounds.turns
    then (if are_few a.bytes then call_in a (guest_in guest) else Err TooLong)
    else Err BadBounds

-- ---- a fault that is answered: it is due, or memory ran out

abbrev pub IsDue : {A : Type 0} → Result A CallFault → CallFault → Type 0
IsDue due OutOfMemory = Unit {0}
IsDue due fault = due ≡ Err fault
