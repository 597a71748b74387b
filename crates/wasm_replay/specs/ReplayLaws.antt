-- A replay of a record is the recorded run. This project's own.
use Rattle.std.specs.Prelude.{◌≡◌, ℕ, List}
use Rattle.wasm_syntax.specs.declared.declarations.ModuleDecl.{ModuleDecl}
use Rattle.spec_machine.specs.declared.command.Command.{Command}
use Rattle.spec_machine.specs.declared.reply.Reply.{Reply}
use Rattle.spec_execution.specs.Askings.{Question, Answer}
use Rattle.law_replay.specs.Tapes.{TapeParts}
use Rattle.wasm_store.specs.Stores.{StoreParts}
use Rattle.wasm_replay.specs.Calls.{Records}
use Rattle.wasm_replay.specs.Recordings.{Actual}
use Rattle.wasm_replay.specs.ReplayCalls.{RanReplayed}
use Rattle.wasm_replay.specs.declared.ends.ReplayEnd.{ReplayEnd}
use Rattle.wasm_replay.specs.declared.ends.ReplayEnd.TheVariants as end
use Rattle.wasm_replay.specs.declared.recorded.Recorded.{Recorded}
use Rattle.wasm_replay.specs.declared.replayed.Replayed.{Replayed}

-- two stores are equal, whatever the host keeps in each: the machine, and the turns of the last command
pub record AreEqual {T U : Type 0} (s : StoreParts T) (t : StoreParts U) : Type 0 where
  pub machine : s.machine ≡ t.machine
  pub turns : s.turns ≡ t.turns

-- a replay came to what was recorded
pub record IsRecordedRun {T : Type 0} (new : StoreParts T) (all : List Reply) (after : StoreParts Replayed)
    (again : List Reply) (ended : ReplayEnd) : Type 0 where
  pub ended_same : ended ≡ end.Same
  pub replies : again ≡ all
  pub store : AreEqual after new

-- so does each: of a tape that a run of commands was recorded on, from an equal store, with the same modules, replies
-- before and commands, and over as many bodies
abbrev pub LawOfReplays : {T H E : Type 0} → (ℕ → Actual T H E → Question → Answer → Actual T H E → Type 0) → Type 0
LawOfReplays {T} {H} {E} moves =
    (bodies room : ℕ) (modules : List ModuleDecl) (commands : List Command) (tape : TapeParts)
    (old new : StoreParts (Recorded T)) (host host' : H) (source source' : E) (before after : StoreParts Replayed)
    (replies all again : List Reply) (ended : ReplayEnd)
    → Records (moves bodies) bodies modules commands room tape old host source replies new host' source' all
    → AreEqual before old → RanReplayed bodies modules commands tape before replies after again ended
    → IsRecordedRun new all after again ended

-- two replays of one tape came to the same
pub record AreSameReplays (new : StoreParts Replayed) (all : List Reply) (ended : ReplayEnd) (after : StoreParts Replayed)
    (again : List Reply) (ended' : ReplayEnd) : Type 0 where
  pub ends : ended' ≡ ended
  pub replies : again ≡ all
  pub store : AreEqual after new

-- so do any two, from equal stores, with the same modules, replies before and commands, and over as many bodies
abbrev pub ReplaysAgree : Type 0
ReplaysAgree =
    (bodies : ℕ) (modules : List ModuleDecl) (commands : List Command) (tape : TapeParts)
    (old new before after : StoreParts Replayed) (replies all again : List Reply) (ended ended' : ReplayEnd)
    → AreEqual before old → RanReplayed bodies modules commands tape old replies new all ended
    → RanReplayed bodies modules commands tape before replies after again ended'
    → AreSameReplays new all ended after again ended'
