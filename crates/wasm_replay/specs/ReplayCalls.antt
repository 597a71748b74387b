-- What replaying commands comes to. This project's own.
use Rattle.std.specs.Prelude.{◌≡◌, ℕ, ◌+◌, ◌<◌, ◌≤◌, List, ◌++◌, length, Some}
use Rattle.wasm_types.specs.Each.{Each}
use Rattle.wasm_syntax.specs.declared.declarations.ModuleDecl.{ModuleDecl}
use Rattle.spec_machine.specs.declared.command.Command.{Command}
use Rattle.spec_machine.specs.declared.reply.Reply.{Reply}
use Rattle.spec_execution.specs.Askings.{Answer, Asking, answers_in, Chain}
use Rattle.spec_execution.specs.Runs.{run, IsStop}
use Rattle.law_store.specs.Rows.{RunsNoCode}
use Rattle.law_replay.specs.Replays.{HasBelow, IsOff}
use Rattle.law_replay.specs.Tapes.{TapeParts, Holds}
use Rattle.wasm_store.specs.Stores.{StoreParts}
use Rattle.wasm_call.specs.Outside.{turns_heard}
use Rattle.wasm_call.specs.Runs.{state_of}
use Rattle.wasm_replay.specs.Played.{not_played}
use Rattle.wasm_replay.specs.Progress.{Progress, at_start, Gives, GivesOrWants, ending}
use Rattle.wasm_replay.specs.declared.ends.ReplayEnd.{ReplayEnd}
use Rattle.wasm_replay.specs.declared.replayed.Replayed.{Replayed}

-- host data that were made from this tape and not asked yet, in a store without a hook and a deadline behaviour
pub record IsUnasked (tape : TapeParts) (s : StoreParts Replayed) : Type 0 where
  pub growths : s.host_data.growths ≡ tape.growths
  pub played : s.host_data.played ≡ not_played
  pub off : IsOff s.machine

-- by what was heard the store and the replies are the machine's
abbrev pub RunsTo : {T : Type 0} → List ModuleDecl → List Command → StoreParts T → List Reply → List Asking → StoreParts T →
    List Reply → Type 0
RunsTo modules commands old replies heard new all =
    (prior : List Asking) (rest : List Answer) →
    run modules (state_of old replies prior (answers_in heard ++ rest)) commands
    ≡ Some (state_of new all (prior ++ heard) rest)

-- commands were replayed, and each has its reply: each answer is what the tape gives there, the store and the replies are
-- the machine's for these, and the replay ended by how far it came
pub record RanReplayed (bodies : ℕ) (modules : List ModuleDecl) (commands : List Command) (tape : TapeParts)
    (old : StoreParts Replayed) (replies : List Reply) (new : StoreParts Replayed) (all : List Reply)
    (ended : ReplayEnd) : Type 0 where
  pub heard : List Asking
  pub left : Progress
  pub given : Chain (Gives bodies) (at_start tape) heard left
  pub ends : RunsTo modules commands old replies heard new all
  pub ended_so : ended ≡ ending left

-- the store and the replies are the machine's for questions and answers that the tape holds, over the bodies below a
-- number
pub record RanByTape {T : Type 0} (bodies : ℕ) (modules : List ModuleDecl) (commands : List Command) (tape : TapeParts)
    (old : StoreParts T) (replies : List Reply) (new : StoreParts T) (all : List Reply) : Type 0 where
  pub heard : List Asking
  pub holds : Holds tape heard
  pub below : HasBelow bodies heard
  pub ends : RunsTo modules commands old replies heard new all

-- a replay was ended for want of memory: the first commands have their replies, and the next one was stopped after so
-- many turns. Where no command runs code each of these was a question
pub record StopsReplayed (bodies : ℕ) (modules : List ModuleDecl) (commands : List Command) (tape : TapeParts)
    (turns : ℕ) (old : StoreParts Replayed) (replies : List Reply) (new : StoreParts Replayed) (all : List Reply) :
    Type 0 where
  pub finished : ℕ
  pub unfinished : finished < length commands
  pub heard : List Asking
  pub left : Progress
  pub given : Chain (GivesOrWants bodies) (at_start tape) heard left
  pub stop : (prior : List Asking) (rest : List Answer) →
      IsStop modules (state_of old replies prior (answers_in heard ++ rest)) commands finished turns
      (state_of new all (prior ++ heard) rest)
  pub questions : Each commands RunsNoCode → turns ≤ turns_heard heard
  pub answered : length all ≡ length replies + finished
  pub told : new.turns ≡ turns
