-- What each status says of the words, of the bytes that were taken, and of the sink. This project's own.
use Rattle.std.specs.Prelude.{◌≡◌, ◌||◌, ℕ, nat_eq, List, [], ◌∷◌, length, Bool, true, false, if◌then◌else◌, Option, Some, None, Result, Ok, Err, ⊤}
use Rattle.wasm_meter.specs.Unhooked.{LetsPass, Interrupts}
use Rattle.spec_machine.specs.declared.reply.Reply.{Reply}
use Rattle.spec_machine.specs.declared.reply.Reply.TheVariants.{Refused}
use Rattle.wasm_host.specs.Hosts.{Idles}
use Rattle.wasm_host.specs.declared.no_host.NoHost.{NoHost}
use Rattle.wasm_pool.specs.Pools.{AnswersFromPool}
use Rattle.wasm_pool.specs.declared.pooled.Pooled.{Pooled}
use Rattle.wasm_store.specs.Stores.{StoreParts}
use Rattle.wasm_call.specs.Outside.{Moving, Readings, asked, surrounded}
use Rattle.wasm_streams.specs.Streams.{after, Fronts}
use Rattle.script_lines.specs.Lines.{line_of}
use Rattle.binary_run.specs.Calls.{Call}
use Rattle.binary_run.specs.Starts.{start, command_count, RunsCall}
use Rattle.binary_run.specs.declared.status.Status.{Status}
use Rattle.binary_run.specs.declared.status.Status.TheVariants.{Done, BadWords, ReadFault, TooLong, OutOfMemory, WriteFault}

abbrev pub is_refused : Reply → Bool
is_refused (Refused cause) = true
is_refused _ = false

-- the first reply that is a refusal, and where there is none the last one
abbrev pub verdict : List Reply → Option Reply
verdict [] = None
verdict (reply ∷ replies) = if nat_eq (length replies) 0 || is_refused reply then Some reply else verdict replies

-- how what is outside of a call goes: its limiter is a pool, and it has no host, no hook and no deadline behaviour
abbrev pub relations : {E : Type 0} → Readings E → Moving (Pooled ⊤) NoHost E
relations readings =
    asked (λ s question answer t. AnswersFromPool s question answer t) (λ host body. false)
    (λ s event answer t. LetsPass s answer t) (λ s answer t. Interrupts s answer t) readings
    (λ host s body state cause view after say host_after t. Idles host s state after say host_after t)

abbrev pub no_host : NoHost
no_host = record {}

-- a source of epochs that goes by these readings, before and after
module _ {E : Type 0} (readings : Readings E) (epochs epochs_after : E) where
  -- the written machine ran the commands of a call on its module, from a new store on, with these replies
  pub record HasRun (call : Call) (replies : List Reply) : Type 0 where
    pub store : StoreParts (Pooled ⊤)
    pub ran :
        RunsCall (relations readings) call (surrounded (start call.options) no_host epochs)
        (surrounded store no_host epochs_after) replies
    pub answered : length replies ≡ command_count call.bytes

  -- and this is the reply that is told
  pub record IsReply (call : Call) (reply : Reply) : Type 0 where
    pub replies : List Reply
    pub ran : HasRun call replies
    pub is_verdict : verdict replies ≡ Some reply

  -- and the sink, before and after
  module _ (old new : Option (List ℕ)) where
    -- the call was made, and the line of its reply was written
    pub record Written (call : Call) : Type 0 where
      pub reply : Reply
      pub is_reply : IsReply call reply
      pub wrote : new ≡ after (line_of reply) old

    -- the call was made, and a front of the line of its reply was written
    pub record WrittenInPart (call : Call) : Type 0 where
      pub reply : Reply
      pub is_reply : IsReply call reply
      pub front : Fronts (line_of reply) old new

    -- nothing came of it: nothing was written, and no epoch was read
    pub record Quiet : Type 0 where
      pub sink : new ≡ old
      pub unread : epochs_after ≡ epochs

    -- what a status says, where this call or status is due; with want of memory nothing was written
    abbrev pub Says : Result Call Status → Status → Type 0
    Says due Done = (call : Call) × (due ≡ Ok call) × Written call
    Says due WriteFault = (call : Call) × (due ≡ Ok call) × WrittenInPart call
    Says due ReadFault = Quiet
    Says due OutOfMemory = new ≡ old
    Says due status = (due ≡ Err status) × Quiet

-- what a status says of the line of a reply, and of the sink before and after
abbrev pub IsLine : List ℕ → Option (List ℕ) → Option (List ℕ) → Status → Type 0
IsLine line old new Done = new ≡ after line old
IsLine line old new WriteFault = Fronts line old new
IsLine line old new OutOfMemory = new ≡ old
IsLine line old new status = ⊥

-- nothing was written, and the sink was not touched
abbrev pub IsQuiet : Status → Type 0
IsQuiet Done = ⊥
IsQuiet WriteFault = ⊥
IsQuiet status = Unit {0}

-- the statuses that come after an input within the limit was read
abbrev pub IsAfterInput : Status → Type 0
IsAfterInput BadWords = ⊥
IsAfterInput ReadFault = ⊥
IsAfterInput TooLong = ⊥
IsAfterInput status = Unit {0}

-- the statuses that come only after the source gave its end
abbrev pub IsOfWhole : Status → Type 0
IsOfWhole BadWords = ⊥
IsOfWhole ReadFault = ⊥
IsOfWhole TooLong = ⊥
IsOfWhole OutOfMemory = ⊥
IsOfWhole status = Unit {0}

-- the statuses that the words and the input decide
abbrev pub IsDecided : Status → Type 0
IsDecided ReadFault = ⊥
IsDecided OutOfMemory = ⊥
IsDecided WriteFault = ⊥
IsDecided status = Unit {0}
