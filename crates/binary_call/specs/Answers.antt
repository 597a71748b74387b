-- What a call answers: the reply of the session that it is. This project's own.
use Rattle.std.specs.Prelude.{◌≡◌, ℕ, List, Option, Some, None, Ok}
use Rattle.wasm_meter.specs.Epochs.{CountsReadings}
use Rattle.spec_machine.specs.declared.reply.Reply.{Reply}
use Rattle.spec_machine.specs.declared.reply.Reply.TheVariants as reply
use Rattle.binary_run.specs.Calls.{Call}
use Rattle.binary_run.specs.Statuses.{IsReply}
use Rattle.binary_call.specs.Calls.{Asked, spelled}
use Rattle.binary_call.specs.declared.answers.Answer.{Answer}
use Rattle.binary_call.specs.declared.answers.Answer.TheVariants.{Values, Bytes, Refused}

-- as a session says it
abbrev pub reply_of : Answer → Reply
reply_of (Values values) = reply.Values values
reply_of (Bytes bytes) = reply.Bytes bytes
reply_of (Refused cause) = reply.Refused cause

-- the replies that there are answers for
abbrev pub IsTold : Reply → Type 0
IsTold (reply.Values values) = Unit {0}
IsTold (reply.Bytes bytes) = Unit {0}
IsTold (reply.Refused cause) = Unit {0}
IsTold _ = ⊥

-- those that a call may have: without bytes results, and with some those that it answers
abbrev pub IsAnswer : Option (List ℕ) → Reply → Type 0
IsAnswer None (reply.Values values) = Unit {0}
IsAnswer None (reply.Refused cause) = Unit {0}
IsAnswer None _ = ⊥
IsAnswer (Some given) (reply.Bytes bytes) = Unit {0}
IsAnswer (Some given) (reply.Refused cause) = Unit {0}
IsAnswer (Some given) _ = ⊥

-- the call was made: the written machine ran its commands on a new store, without bytes an instance of the module, its export
-- of the name, and the call of that, and with some those by which they are given and read; and this is the first refusal among their replies, or else the last one. Epochs are counted from 0
-- on, and the engine reads none
pub record HasAnswered (a : Asked) (guest : List ℕ) (answer : Answer) : Type 0 where
  pub call : Call
  pub is_call : spelled a guest ≡ Ok call
  pub epochs : ℕ
  pub is_reply : IsReply CountsReadings 0 epochs call (reply_of answer)
