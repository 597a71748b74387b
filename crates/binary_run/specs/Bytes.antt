-- The convention by which a call is given bytes and answers some: what the module has to export, and the commands of such a
-- call. This project's own.
--
-- The module exports a memory `memory` and a function `alloc`, of a length to a pointer. The function that is called has a
-- pointer and a length, of 32 bits each, behind its other parameters, and answers one value: the length, of 32 bits, where
-- it wrote in place, or both in one value of 64 bits, the pointer in the high half.
use Rattle.std.specs.Prelude.{ℕ, ℤ, ◌^◌, ◌-◌, ◌/◌, ◌%◌, List, [], ◌∷◌, ◌++◌, length, take, drop, Bool, true, false, ◌&&◌, ◌||◌, if◌then◌else◌, Option, Some, None, option_and_then, Result, Ok, Err, slice_get, codes}
use Rattle.std.specs.Int.{w32, w64, cast_signed, cast_unsigned}
use Rattle.wasm_types.specs.FunctionParts.{params, results}
use Rattle.wasm_types.specs.Signatures.{Signature}
use Rattle.wasm_types.specs.declared.value_types.ValType.{ValType}
use Rattle.wasm_types.specs.declared.value_types.ValType.TheVariants as val_type
use Rattle.wasm_syntax.specs.declared.declarations.ModuleDecl.{ModuleDecl}
use Rattle.wasm_values.specs.declared.values.Val.{Val}
use Rattle.wasm_values.specs.declared.values.Val.TheVariants as val
use Rattle.spec_machine.specs.Names.{reply_values}
use Rattle.spec_machine.specs.declared.command.Command.{Command}
use Rattle.spec_machine.specs.declared.command.Command.TheVariants as command
use Rattle.spec_machine.specs.declared.name.Name.TheVariants as named
use Rattle.spec_machine.specs.declared.name.Operand.{Operand}
use Rattle.spec_machine.specs.declared.name.Operand.TheVariants as operand
use Rattle.spec_machine.specs.declared.operation.Op.TheVariants as op
use Rattle.spec_machine.specs.declared.reply.Reply.{Reply}
use Rattle.wasm_call.specs.Outside.{Moving, Surrounded}
use Rattle.wasm_session.specs.Sessions.{Runs}
use Rattle.binary_run.specs.Exports.{exported_function, exports_memory}
use Rattle.binary_run.specs.declared.parts.Region.{Region}
use Rattle.binary_run.specs.declared.status.BytesPart.{BytesPart}
use Rattle.binary_run.specs.declared.status.BytesPart.TheVariants as part

-- ---- what takes bytes

abbrev pub memory_name : List ℕ
memory_name = codes "memory"

abbrev pub alloc_name : List ℕ
alloc_name = codes "alloc"

abbrev pub is_one_i32 : List ValType → Bool
is_one_i32 (val_type.I32 ∷ []) = true
is_one_i32 _ = false

abbrev pub is_one_i64 : List ValType → Bool
is_one_i64 (val_type.I64 ∷ []) = true
is_one_i64 _ = false

-- a pointer and a length
abbrev pub are_two_i32 : List ValType → Bool
are_two_i32 (val_type.I32 ∷ val_type.I32 ∷ []) = true
are_two_i32 _ = false

-- the parameters before a pointer and a length, where these are the last two
abbrev pub before_bytes : List ValType → Option (List ValType)
before_bytes types =
    if are_two_i32 (drop (length types - 2) types) then Some (take (length types - 2) types) else None

abbrev pub answers_bytes : List ValType → Bool
answers_bytes types = is_one_i32 types || is_one_i64 types

-- whether a function makes room for so many bytes
abbrev pub is_alloc : Option Signature → Bool
is_alloc None = false
is_alloc (Some ty) = is_one_i32 (params ty) && is_one_i32 (results ty)

abbrev pub exports_alloc : ModuleDecl → Bool
exports_alloc d = is_alloc (exported_function d alloc_name)

-- the parameters that a function has beside its bytes, or that it takes none
abbrev pub beside_bytes : Option (List ValType) → Result (List ValType) BytesPart
beside_bytes None = Err part.Function
beside_bytes (Some types) = Ok types

-- the same in its module, or what there takes no bytes: the memory first
abbrev pub taking_bytes : ModuleDecl → Signature → Result (List ValType) BytesPart
taking_bytes d ty =
    if exports_memory d memory_name
    then (if exports_alloc d
    then (if answers_bytes (results ty) then beside_bytes (before_bytes (params ty)) else Err part.Function)
    else Err part.Alloc)
    else Err part.Memory

-- ---- the commands

-- the export of the instance under a name, a call of what a reply has, and a number of bytes as an argument
abbrev pub get_export : List ℕ → Command
get_export name = command.Op (op.GetExport (named.Reply 0) name)

abbrev pub call : ℕ → List Operand → Command
call place arguments = command.Op (op.Call (named.Reply place) arguments None)

abbrev pub count_operand : ℕ → Operand
count_operand count = operand.Val (val.I32 (cast_signed w32 count))

-- an instance of the module without imports, its memory, its `alloc` and its export of the name, and a call of `alloc` for so
-- many bytes
abbrev pub first_part : List ℕ → ℕ → List Command
first_part name count =
    command.Instantiate 0 []
    ∷ get_export memory_name
    ∷ get_export alloc_name
    ∷ get_export name
    ∷ call 2 (count_operand count ∷ [])
    ∷ []

-- the bytes are written to where `alloc` said, and the function is called: pointer and length stand behind its arguments
abbrev pub second_part : ℕ → List ℕ → List Operand → List Command
second_part at bytes arguments =
    command.Op (op.MemoryWrite (named.Reply 1) at bytes)
    ∷ call 3 (arguments ++ operand.Named (named.Value 4 0) ∷ count_operand (length bytes) ∷ [])
    ∷ []

-- what it answered is read
abbrev pub third_part : Region → List Command
third_part region = command.Op (op.MemoryRead (named.Reply 1) region.at region.len) ∷ []

-- the first value of the reply at a place
abbrev pub value_at : List Reply → ℕ → Option Val
value_at replies place = option_and_then (λ r. slice_get (reply_values r) 0) (slice_get replies place)

-- the pointer that `alloc` answered. Where it answered none its reply is a refusal, which is told, and no function is called
abbrev pub pointer_of : Option Val → ℕ
pointer_of (Some (val.I32 n)) = cast_unsigned w32 n
pointer_of _ = 0

abbrev pub region : ℕ → ℕ → Region
region at len = record { at = at; len = len }

-- the halves of a value of 64 bits: where bytes begin, and how many there are
abbrev pub halves : ℤ → Region
halves n = region (cast_unsigned w64 n / 2 ^ 32) (cast_unsigned w64 n % 2 ^ 32)

-- where the bytes of an answer stand: from the pointer that the function was given on, or where the halves of one value say.
-- Where it answered none its reply is a refusal, which is told
abbrev pub region_of : ℕ → Option Val → Region
region_of at (Some (val.I32 n)) = region at (cast_unsigned w32 n)
region_of at (Some (val.I64 n)) = halves n
region_of at _ = region 0 0

-- the pointer and the region by the replies so far
abbrev pub pointer_in : List Reply → ℕ
pointer_in replies = pointer_of (value_at replies 4)

abbrev pub region_in : List Reply → Region
region_in replies = region_of (pointer_in replies) (value_at replies 6)

-- the commands of a call with bytes were run, part by part, each by the replies to those before it
pub record RunsWithBytes {T H E : Type 0} (moves : Moving T H E) (modules : List ModuleDecl) (name : List ℕ)
    (arguments : List Operand) (bytes : List ℕ) (old new : Surrounded T H E) (replies : List Reply) : Type 0 where
  pub made : Surrounded T H E
  pub room : List Reply
  pub makes_room : Runs moves modules (first_part name (length bytes)) old [] made room
  pub done : Surrounded T H E
  pub answer : List Reply
  pub calls : Runs moves modules (second_part (pointer_in room) bytes arguments) made room done answer
  pub reads : Runs moves modules (third_part (region_in answer)) done answer new replies
