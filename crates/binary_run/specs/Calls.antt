-- The call that words and bytes spell, or the status that is due where they spell none. This project's own.
use Rattle.std.specs.Prelude.{◌≡◌, ℕ, List, [], ◌∷◌, length, take, drop, nat_le, if◌then◌else◌, Option, Some, None, option_map, Result, Ok, Err}
use Rattle.std.specs.Int.{w32, w64}
use Rattle.wasm_types.specs.FunctionParts.{params}
use Rattle.wasm_types.specs.Signatures.{Signature}
use Rattle.wasm_types.specs.declared.plain.EngineId.{EngineId}
use Rattle.wasm_types.specs.declared.value_types.ValType.{ValType}
use Rattle.wasm_types.specs.declared.value_types.ValType.TheVariants as val_type
use Rattle.wasm_syntax.specs.FirstBroken.{first_broken}
use Rattle.wasm_syntax.specs.declared.declarations.ModuleDecl.{ModuleDecl}
use Rattle.wasm_syntax.specs.declared.module_fault.Place.{Place}
use Rattle.wasm_syntax.specs.declared.module_fault.Rule.{Rule}
use Rattle.wasm_values.specs.declared.values.Val.TheVariants as val
use Rattle.spec_machine.specs.Names.{with_first}
use Rattle.spec_machine.specs.declared.name.Operand.{Operand}
use Rattle.spec_machine.specs.declared.name.Operand.TheVariants as operand
use Rattle.binary_types.specs.declared.faults.BinaryFault.{BinaryFault}
use Rattle.binary_types.specs.declared.faults.BinaryFault.TheVariants as binary
use Rattle.wasm_binary.specs.Modules.{module_of}
use Rattle.wasm_run.specs.Sessions.{limit}
use Rattle.binary_run.specs.Bytes.{taking_bytes}
use Rattle.binary_run.specs.Exports.{exported_function}
use Rattle.binary_run.specs.Numbers.{integer}
use Rattle.binary_run.specs.Words.{Asked, asked}
use Rattle.binary_run.specs.declared.options.Options.{Options}
use Rattle.binary_run.specs.declared.status.BytesPart.{BytesPart}
use Rattle.binary_run.specs.declared.status.Status.{Status}
use Rattle.binary_run.specs.declared.status.Status.TheVariants.{Done, BadWords, TooLong, BadModule, InvalidModule, NoFunction, TakesNoBytes, BadArguments, OutOfMemory}

-- an argument by the type of its parameter, which is one of integers
abbrev pub argument : ValType → List ℕ → Option Operand
argument val_type.I32 word = option_map (λ n. operand.Val (val.I32 n)) (integer w32 32 word)
argument val_type.I64 word = option_map (λ n. operand.Val (val.I64 n)) (integer w64 64 word)
argument _ word = None

-- one for each parameter
abbrev pub arguments : List ValType → List (List ℕ) → Option (List Operand)
arguments [] [] = Some []
arguments [] (word ∷ words) = None
arguments (ty ∷ types) [] = None
arguments (ty ∷ types) (word ∷ words) = with_first (argument ty word) (arguments types words)

-- a call: a valid module, the name of one of its exports, which is a function, its arguments, and the bytes that it is given
-- beside them, where it is given some
pub record Call : Type 0 where
  pub options : Options
  pub decl : ModuleDecl
  pub name : List ℕ
  pub arguments : List Operand
  pub bytes : Option (List ℕ)

abbrev pub call_parts : Options → ModuleDecl → List ℕ → List Operand → Option (List ℕ) → Call
call_parts options decl name operands bytes =
    record { options = options; decl = decl; name = name; arguments = operands; bytes = bytes }

abbrev pub call_of : Asked → ModuleDecl → Option (List ℕ) → List Operand → Call
call_of a decl bytes operands = call_parts a.options decl a.name operands bytes

abbrev pub call_with : Asked → ModuleDecl → Option (List ℕ) → Option (List Operand) → Result Call Status
call_with a decl bytes None = Err BadArguments
call_with a decl bytes (Some operands) = Ok (call_of a decl bytes operands)

-- the types that the words of the arguments are for: without bytes those of all parameters
abbrev pub word_types : ModuleDecl → Option (List ℕ) → Signature → Result (List ValType) BytesPart
word_types d None ty = Ok (params ty)
word_types d (Some bytes) ty = taking_bytes d ty

abbrev pub call_by_types : Asked → ModuleDecl → Option (List ℕ) → Result (List ValType) BytesPart → Result Call Status
call_by_types a decl bytes (Err part) = Err (TakesNoBytes part)
call_by_types a decl bytes (Ok types) = call_with a decl bytes (arguments types a.arguments)

abbrev pub call_of_function : Asked → ModuleDecl → Option (List ℕ) → Option Signature → Result Call Status
call_of_function a decl bytes None = Err NoFunction
call_of_function a decl bytes (Some ty) = call_by_types a decl bytes (word_types decl bytes ty)

abbrev pub call_in_valid : Asked → ModuleDecl → Option (List ℕ) → Option (Rule × Place) → Result Call Status
call_in_valid a decl bytes None = call_of_function a decl bytes (exported_function decl a.name)
call_in_valid a decl bytes (Some broken) = Err (InvalidModule broken.0 broken.1)

-- what a reader's fault comes to
abbrev pub status_of : BinaryFault → Status
status_of binary.OutOfMemory = OutOfMemory
status_of fault = BadModule fault

abbrev pub call_in_module : Asked → Option (List ℕ) → Result ModuleDecl BinaryFault → Result Call Status
call_in_module a bytes (Ok decl) = call_in_valid a decl bytes (first_broken decl)
call_in_module a bytes (Err fault) = Err (status_of fault)

-- the module that bytes spell: of the engine 1, and with the number 0
abbrev pub engine_number : EngineId
engine_number = record { 0 = 1 }

abbrev pub module_in : List ℕ → Result ModuleDecl BinaryFault
module_in input = module_of engine_number 0 input

-- the bytes that a call is given stand before the module: as many as the words say, or where they say nothing of it none.
-- Where the input has fewer, nothing is left for the module
abbrev pub given_bytes : Option ℕ → List ℕ → Option (List ℕ)
given_bytes count input = option_map (λ n. take n input) count

abbrev pub behind_bytes : Option ℕ → List ℕ → List ℕ
behind_bytes None input = input
behind_bytes (Some n) input = drop n input

abbrev pub call_within : Asked → List ℕ → Result Call Status
call_within a input =
    call_in_module a (given_bytes a.options.bytes input) (module_in (behind_bytes a.options.bytes input))

-- in an input of 2^24 bytes at most
abbrev pub call_in : Asked → List ℕ → Result Call Status
call_in a input = if nat_le (length input) limit then call_within a input else Err TooLong

abbrev pub call_by : Option Asked → List ℕ → Result Call Status
call_by None input = Err BadWords
call_by (Some a) input = call_in a input

-- the call that words and a whole input spell
abbrev pub spelled : List (List ℕ) → List ℕ → Result Call Status
spelled words input = call_by (asked words) input

-- the status that is due, where nothing fails and memory does not run out
abbrev pub due_for : Result Call Status → Status
due_for (Ok call) = Done
due_for (Err status) = status

abbrev pub due : List (List ℕ) → List ℕ → Status
due words input = due_for (spelled words input)

-- a status of a whole input within the limit: it is due, or memory ran out
abbrev pub IsDue : Result Call Status → Status → Type 0
IsDue due (BadModule fault) = due ≡ Err (BadModule fault)
IsDue due (InvalidModule rule place) = due ≡ Err (InvalidModule rule place)
IsDue due NoFunction = due ≡ Err NoFunction
IsDue due (TakesNoBytes part) = due ≡ Err (TakesNoBytes part)
IsDue due BadArguments = due ≡ Err BadArguments
IsDue due OutOfMemory = Unit {0}
IsDue due status = ⊥

-- and of the first broken rule of a declaration, where there is one
abbrev pub IsFault : Option (Rule × Place) → Status → Type 0
IsFault broken (InvalidModule rule place) = broken ≡ Some (rule, place)
IsFault broken OutOfMemory = Unit {0}
IsFault broken status = ⊥
