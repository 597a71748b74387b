-- Why commands of a session are refused: each by what was heard in it. This project's own.
use Rattle.std.specs.Prelude.{◌≡◌, ℕ, ◌+◌, List, ◌++◌, length, take, slice_get, Some}
use Rattle.wasm_syntax.specs.declared.declarations.ModuleDecl.{ModuleDecl}
use Rattle.wasm_values.specs.declared.refusals.Refusal.{Refusal}
use Rattle.spec_machine.specs.Commands.{row}
use Rattle.spec_machine.specs.Names.{outermost}
use Rattle.spec_machine.specs.declared.command.Command.{Command}
use Rattle.spec_machine.specs.declared.reply.Reply.{Reply}
use Rattle.spec_machine.specs.declared.reply.Reply.TheVariants.{Refused}
use Rattle.spec_execution.specs.Askings.{Asking}
use Rattle.law_causes.specs.Causes.{GrowsInVain}
use Rattle.wasm_store.specs.Stores.{StoreParts}
use Rattle.wasm_call.specs.Outside.{Moving, Surrounded, Hears}
use Rattle.wasm_call.specs.Runs.{Steps}
use Rattle.wasm_session.specs.Sessions.{Runs, StopsIn}

-- of one command, from a store and replies: a growth of it fails without a limiter, too
abbrev pub CommandInVain : {T : Type 0} → List ModuleDecl → StoreParts T → List Reply → Command → Type 0
CommandInVain modules s replies command =
    GrowsInVain s.machine (row modules s.machine (outermost replies) command)

-- by a relation that says why a command of this store and outside is refused, with a reason for its growth
module _ {T H E : Type 0} (moves : Moving T H E) (refuses : Surrounded T H E → Surrounded T H E → Type 0 → Refusal → Type 0)
    (modules : List ModuleDecl) (commands : List Command) (old : Surrounded T H E) (replies : List Reply) where
  -- in a run by what was heard, the command at this place was refused by what was heard in it: those before it were run,
  -- then it was, and the rest was heard behind it
  pub record RefusedIn (n : ℕ) (why : Refusal) (heard : List Asking) (new : Surrounded T H E) : Type 0 where
    pub next : Command
    pub is_next : slice_get commands n ≡ Some next
    pub mid : Surrounded T H E
    pub more : List Reply
    pub before : Runs moves modules (take n commands) old replies mid more
    pub after : Surrounded T H E
    pub all : List Reply
    pub step : Steps moves modules next mid more after all
    pub rest : List Asking
    pub onwards : Hears moves after rest new
    pub in_turn : heard ≡ before.heard ++ (step.heard ++ rest)
    pub refused : refuses mid after (CommandInVain modules mid.store more next) why

  -- commands were run, and each refusal among their replies has its cause in its own command
  pub record RunsCaused (new : Surrounded T H E) (all : List Reply) : Type 0 where
    pub ran : Runs moves modules commands old replies new all
    pub causes : (n : ℕ) (why : Refusal) → slice_get all (length replies + n) ≡ Some (Refused why)
        → RefusedIn n why ran.heard new

  -- the first commands were run, and the next one was ended for want of memory after so many turns: so it is with each of
  -- them
  pub record StopsCaused (turns : ℕ) (new : Surrounded T H E) (all : List Reply) : Type 0 where
    pub stopped : StopsIn moves modules commands turns old replies new all
    pub causes : (n : ℕ) (why : Refusal) → slice_get all (length replies + n) ≡ Some (Refused why)
        → RefusedIn n why stopped.stops.heard new
