-- The line of each reply, of each note, and of a hook: this project's own format. Words are separated by one space, an
-- empty text is no word, and each line ends with a line feed.
use Rattle.std.specs.Prelude.{◌≡◌, ◌≢◌, ℕ, ◌-◌, List, [], ◌∷◌, ◌++◌, drop, take, Option, Some, None, codes}
use Rattle.std.specs.Fmt.{decimal, signed_decimal}
use Rattle.std.specs.Int.{w32, w64, w128, to_be_bytes}
use Rattle.std.specs.List.{flat_map}
use Rattle.hex.specs.Hex.{encode_lower}
use Rattle.wasm_types.specs.declared.plain.Resource.{Resource}
use Rattle.wasm_types.specs.declared.plain.Resource.TheVariants as resource
use Rattle.wasm_values.specs.Handles.{func_index, global_index, table_index, memory_index, tag_index, instance_index}
use Rattle.wasm_values.specs.References.{i31}
use Rattle.wasm_values.specs.declared.externals.Extern.{Extern}
use Rattle.wasm_values.specs.declared.externals.Extern.TheVariants as x
use Rattle.wasm_values.specs.declared.handles.Func.{Func}
use Rattle.wasm_values.specs.declared.handles.Instance.{Instance}
use Rattle.wasm_values.specs.declared.references.AnyRef.{AnyRef}
use Rattle.wasm_values.specs.declared.references.ExternRef.{ExternRef}
use Rattle.wasm_values.specs.declared.refusals.Refusal.{Refusal}
use Rattle.wasm_values.specs.declared.refusals.Refusal.TheVariants as refusal
use Rattle.wasm_values.specs.declared.refusals.Trap.{Trap}
use Rattle.wasm_values.specs.declared.refusals.Trap.TheVariants as trap
use Rattle.wasm_values.specs.declared.values.Val.{Val}
use Rattle.wasm_values.specs.declared.values.Val.TheVariants as v
use Rattle.wasm_meter.specs.declared.call_hook.CallHook.{CallHook}
use Rattle.wasm_meter.specs.declared.call_hook.CallHook.TheVariants as event
use Rattle.spec_machine.specs.declared.reply.Reply.{Reply}
use Rattle.spec_machine.specs.declared.reply.Reply.TheVariants as reply

-- a front of a line was put at the end of a text, and the rest, of which there is some, was not
pub record Begun (line old new : List ℕ) : Type 0 where
  pub front : List ℕ
  pub rest : List ℕ
  pub whole : line ≡ front ++ rest
  pub missing : rest ≢ []
  pub put : new ≡ old ++ front

-- a text as one more word
abbrev pub word_of : List ℕ → List ℕ
word_of [] = []
word_of (c ∷ cs) = 32 ∷ c ∷ cs

-- the number of what a reference points to, or null
abbrev pub func_text : Option Func → List ℕ
func_text None = codes "null"
func_text (Some f) = decimal (func_index f)

abbrev pub extern_text : Option ExternRef → List ℕ
extern_text None = codes "null"
extern_text (Some e) = decimal e.0

abbrev pub any_text : Option AnyRef → List ℕ
any_text None = codes "null"
any_text (Some a) = decimal (i31 a)

-- a value: an integer as a signed number; the bits of a float and of a vector as two lower case hexadecimal digits a byte,
-- the highest byte first; a reference by its number
abbrev pub value_text : Val → List ℕ
value_text (v.I32 n) = codes "i32:" ++ signed_decimal n
value_text (v.I64 n) = codes "i64:" ++ signed_decimal n
value_text (v.F32 bits) = codes "f32:" ++ encode_lower (to_be_bytes w32 bits)
value_text (v.F64 bits) = codes "f64:" ++ encode_lower (to_be_bytes w64 bits)
value_text (v.V128 bits) = codes "v128:" ++ encode_lower (to_be_bytes w128 bits.0)
value_text (v.FuncRef f) = codes "funcref:" ++ func_text f
value_text (v.ExternRef e) = codes "externref:" ++ extern_text e
value_text (v.AnyRef a) = codes "anyref:" ++ any_text a

-- an object, and an instance: its kind and its number in the store
abbrev pub object_text : Extern → List ℕ
object_text (x.Func f) = codes "func " ++ decimal (func_index f)
object_text (x.Global g) = codes "global " ++ decimal (global_index g)
object_text (x.Table t) = codes "table " ++ decimal (table_index t)
object_text (x.Memory m) = codes "memory " ++ decimal (memory_index m)
object_text (x.Tag t) = codes "tag " ++ decimal (tag_index t)

abbrev pub instance_text : Instance → List ℕ
instance_text found = codes "instance " ++ decimal (instance_index found)

abbrev pub trap_name : Trap → List ℕ
trap_name trap.MemoryOutOfBounds = codes "MemoryOutOfBounds"
trap_name trap.TableOutOfBounds = codes "TableOutOfBounds"
trap_name trap.IndirectCallToNull = codes "IndirectCallToNull"
trap_name trap.BadSignature = codes "BadSignature"
trap_name trap.IntegerDivisionByZero = codes "IntegerDivisionByZero"
trap_name trap.IntegerOverflow = codes "IntegerOverflow"
trap_name trap.UnreachableCodeReached = codes "UnreachableCodeReached"
trap_name trap.StackOverflow = codes "StackOverflow"
trap_name trap.OutOfFuel = codes "OutOfFuel"
trap_name trap.Interrupt = codes "Interrupt"

abbrev pub resource_name : Resource → List ℕ
resource_name resource.Instance = codes "instance"
resource_name resource.Memory = codes "memory"
resource_name resource.Table = codes "table"

-- the name of a refusal; that of a trap is the trap's
abbrev pub refusal_name : Refusal → List ℕ
refusal_name refusal.NoReply = codes "NoReply"
refusal_name refusal.WrongStore = codes "WrongStore"
refusal_name refusal.WrongEngine = codes "WrongEngine"
refusal_name refusal.FuelNotConfigured = codes "FuelNotConfigured"
refusal_name refusal.FuelInterval = codes "FuelInterval"
refusal_name refusal.ImmutableGlobal = codes "ImmutableGlobal"
refusal_name refusal.ImportCount = codes "ImportCount"
refusal_name (refusal.ImportType place) = codes "ImportType"
refusal_name refusal.ArgumentCount = codes "ArgumentCount"
refusal_name refusal.ResultCount = codes "ResultCount"
refusal_name refusal.TypeMismatch = codes "TypeMismatch"
refusal_name (refusal.ResourceLimit kind) = codes "ResourceLimit"
refusal_name refusal.MemoryAccessError = codes "MemoryAccessError"
refusal_name refusal.GrowFailed = codes "GrowFailed"
refusal_name refusal.LimiterFault = codes "LimiterFault"
refusal_name refusal.HookFault = codes "HookFault"
refusal_name refusal.EpochFault = codes "EpochFault"
refusal_name refusal.NoHostBody = codes "NoHostBody"
refusal_name refusal.HostFault = codes "HostFault"
refusal_name refusal.HostResultType = codes "HostResultType"
refusal_name refusal.TurnLimit = codes "TurnLimit"
refusal_name refusal.NoExport = codes "NoExport"
refusal_name (refusal.Trap t) = trap_name t
refusal_name refusal.OutOfMemory = codes "OutOfMemory"

-- a trap stands apart from the other refusals; of an import its number is told, and of a limit what had reached it
abbrev pub refusal_text : Refusal → List ℕ
refusal_text (refusal.Trap t) = codes "trap " ++ trap_name t
refusal_text (refusal.ImportType place) = codes "refused ImportType " ++ decimal place
refusal_text (refusal.ResourceLimit kind) = codes "refused ResourceLimit " ++ resource_name kind
refusal_text cause = codes "refused " ++ refusal_name cause

-- bytes are written as two lower case hexadecimal digits each
abbrev pub reply_text : Reply → List ℕ
reply_text reply.Done = codes "ok"
reply_text (reply.Number n) = codes "ok " ++ decimal n
reply_text (reply.Bytes bytes) = codes "ok bytes" ++ word_of (encode_lower bytes)
reply_text (reply.Values vals) = codes "ok values" ++ flat_map (λ val. 32 ∷ value_text val) vals
reply_text (reply.Object found) = codes "ok " ++ object_text found
reply_text (reply.Instance found) = codes "ok " ++ instance_text found
reply_text reply.Absent = codes "ok none"
reply_text (reply.Refused cause) = refusal_text cause

abbrev pub line_of : Reply → List ℕ
line_of answer = reply_text answer ++ codes "\n"

-- the lines of replies, in order
abbrev pub lines_of : List Reply → List ℕ
lines_of replies = flat_map line_of replies

-- the name of an event of a hook
abbrev pub event_name : CallHook → List ℕ
event_name event.CallingWasm = codes "CallingWasm"
event_name event.ReturningFromWasm = codes "ReturningFromWasm"
event_name event.CallingHost = codes "CallingHost"
event_name event.ReturningFromHost = codes "ReturningFromHost"

-- the line of the events that a hook was told of, in order
abbrev pub hooks_line : List CallHook → List ℕ
hooks_line events = codes "hooks" ++ flat_map (λ happened. 32 ∷ event_name happened) events ++ codes "\n"

-- that line where there is a hook, and nothing where there is none
abbrev pub hooks_part : Option (List CallHook) → List ℕ
hooks_part None = []
hooks_part (Some events) = hooks_line events

-- the lines of a session: those of its replies, and that of its hook
abbrev pub session_lines : List Reply → Option (List CallHook) → List ℕ
session_lines replies events = lines_of replies ++ hooks_part events

-- a note: its text behind a word
abbrev pub note_line : List ℕ → List ℕ
note_line text = codes "note" ++ word_of text ++ codes "\n"

-- the lines of notes, in order
abbrev pub note_lines : List (List ℕ) → List ℕ
note_lines notes = flat_map note_line notes

-- the line of a reply, behind the notes that were taken while its command ran
abbrev pub noted_line : List (List ℕ) × Reply → List ℕ
noted_line noted = note_lines noted.0 ++ line_of noted.1

-- the lines of replies, in order, each behind its notes
abbrev pub noted_lines_of : List (List (List ℕ) × Reply) → List ℕ
noted_lines_of all = flat_map noted_line all

-- the lines of a session with notes: those of its replies, each behind its notes, and that of its hook
abbrev pub noted_session_lines : List (List (List ℕ) × Reply) → Option (List CallHook) → List ℕ
noted_session_lines all events = noted_lines_of all ++ hooks_part events

-- the replies, each with its notes, by how many notes there were when each command was finished; so many were there before
-- the first of these commands. The notes of a command that was not finished stand behind those, and are none of these
abbrev pub noted_from : ℕ → List ℕ → List (List ℕ) → List Reply → List (List (List ℕ) × Reply)
noted_from before (count ∷ counts) notes (answer ∷ replies) =
    (take (count - before) (drop before notes), answer) ∷ noted_from count counts notes replies
noted_from before _ notes _ = []
