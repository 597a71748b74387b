-- A part of a run of commands on a store, with what was heard on its way. This project's own.
use Rattle.std.specs.Prelude.{◌≡◌, ℕ, List, [], ◌∷◌, ◌++◌, Option, Some}
use Rattle.wasm_syntax.specs.declared.declarations.ModuleDecl.{ModuleDecl}
use Rattle.spec_machine.specs.declared.command.Command.{Command}
use Rattle.spec_machine.specs.declared.reply.Reply.{Reply}
use Rattle.spec_execution.specs.Askings.{Answer, Asking, answers_in}
use Rattle.spec_execution.specs.Runs.{State, state, step, IsStop}
use Rattle.law_store.specs.Rows.{RunsNoCode}
use Rattle.wasm_store.specs.Stores.{StoreParts}
use Rattle.wasm_call.specs.Outside.{Moving, Surrounded, Hears, turns_heard}

-- a store with its replies, of which its machine, the turns of its last command and the replies are seen
abbrev pub state_of : {T : Type 0} → StoreParts T → List Reply → List Asking → List Answer → State
state_of s replies heard answers = state s.machine s.turns replies heard answers

-- this part of a run took a store and replies to another store and replies, by what was heard. Whatever was heard
-- before stands before it, and whatever answers are left over stay
pub record Takes {T H E : Type 0} (moves : Moving T H E) (part : State → Option State) (old : Surrounded T H E)
    (replies : List Reply) (new : Surrounded T H E) (all : List Reply) : Type 0 where
  pub heard : List Asking
  pub chained : Hears moves old heard new
  pub ends : (before : List Asking) (rest : List Answer) →
      part (state_of old.store replies before (answers_in heard ++ rest))
      ≡ Some (state_of new.store all (before ++ heard) rest)

-- one command was run, and has its reply
abbrev pub Steps : {T H E : Type 0} → Moving T H E → List ModuleDecl → Command → Surrounded T H E → List Reply →
    Surrounded T H E → List Reply → Type 0
Steps moves modules command old replies new all = Takes moves (λ s. step modules s command) old replies new all

-- a run of commands was ended for want of memory after so many turns of the command at this place, by what was heard:
-- it is a stop
pub record Stops {T H E : Type 0} (moves : Moving T H E) (modules : List ModuleDecl) (commands : List Command)
    (n turns : ℕ) (old : Surrounded T H E) (replies : List Reply) (new : Surrounded T H E) (all : List Reply) : Type 0
  where
    pub heard : List Asking
    pub chained : Hears moves old heard new
    pub stop : (before : List Asking) (rest : List Answer) →
        IsStop modules (state_of old.store replies before (answers_in heard ++ rest)) commands n turns
        (state_of new.store all (before ++ heard) rest)

-- one command was, and it has no reply; where it runs no code each of its turns was a question
pub record Breaks {T H E : Type 0} (moves : Moving T H E) (modules : List ModuleDecl) (command : Command) (turns : ℕ)
    (old : Surrounded T H E) (replies : List Reply) (new : Surrounded T H E) (all : List Reply) : Type 0 where
  pub stops : Stops moves modules (command ∷ []) 0 turns old replies new all
  pub questions : RunsNoCode command → turns ≡ turns_heard stops.heard
  pub unanswered : all ≡ replies
  pub told : new.store.turns ≡ turns
