-- A run of commands on a store, finished or not, over the modules of a session. This project's own.
use Rattle.std.specs.Prelude.{◌≡◌, ℕ, ◌+◌, ◌<◌, ◌≤◌, List, length}
use Rattle.wasm_types.specs.Each.{Each}
use Rattle.wasm_syntax.specs.declared.declarations.ModuleDecl.{ModuleDecl}
use Rattle.spec_machine.specs.declared.command.Command.{Command}
use Rattle.spec_machine.specs.declared.reply.Reply.{Reply}
use Rattle.spec_execution.specs.Runs.{run}
use Rattle.law_store.specs.Rows.{RunsNoCode}
use Rattle.wasm_call.specs.Outside.{Moving, Surrounded, turns_heard}
use Rattle.wasm_call.specs.Runs.{Takes, Stops}

-- the commands were run in order, and each has its reply
abbrev pub Runs : {T H E : Type 0} → Moving T H E → List ModuleDecl → List Command → Surrounded T H E → List Reply →
    Surrounded T H E → List Reply → Type 0
Runs moves modules commands old replies new all = Takes moves (λ s. run modules s commands) old replies new all

-- the first commands were run, and each has its reply; the next one was ended for want of memory after so many turns.
-- Where no command runs code each of these was a question
pub record StopsIn {T H E : Type 0} (moves : Moving T H E) (modules : List ModuleDecl) (commands : List Command)
    (turns : ℕ) (old : Surrounded T H E) (replies : List Reply) (new : Surrounded T H E) (all : List Reply) :
    Type 0 where
  pub finished : ℕ
  pub unfinished : finished < length commands
  pub stops : Stops moves modules commands finished turns old replies new all
  pub questions : Each commands RunsNoCode → turns ≤ turns_heard stops.heard
  pub answered : length all ≡ length replies + finished
  pub told : new.store.turns ≡ turns
