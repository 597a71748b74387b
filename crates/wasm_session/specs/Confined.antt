-- What commands leave as it was: all outside of what they reach. This project's own.
use Rattle.std.specs.Prelude.{ℕ, List, [], take}
use Rattle.wasm_syntax.specs.declared.declarations.ModuleDecl.{ModuleDecl}
use Rattle.spec_machine.specs.declared.command.Command.{Command}
use Rattle.spec_machine.specs.declared.reply.Reply.{Reply}
use Rattle.spec_execution.specs.Askings.{answers_in}
use Rattle.law_confined.specs.RunLaws.{Confines, RunConfines, StopConfines}
use Rattle.wasm_call.specs.Outside.{Moving, Surrounded}
use Rattle.wasm_call.specs.Runs.{state_of, Steps, Breaks}
use Rattle.wasm_session.specs.Sessions.{Runs, StopsIn}

module _ {T H E : Type 0} (moves : Moving T H E) (modules : List ModuleDecl) where
  -- one command was run, and has its reply: by what was heard nothing is changed outside of what it reaches
  pub record StepsConfined (command : Command) (old : Surrounded T H E) (replies : List Reply) (new : Surrounded T H E)
      (all : List Reply) : Type 0 where
    pub ran : Steps moves modules command old replies new all
    pub confined :
        Confines (state_of old.store replies [] (answers_in ran.heard)) command (state_of new.store all ran.heard [])

  -- one command was ended for want of memory after so many turns: the same
  pub record BreaksConfined (command : Command) (turns : ℕ) (old : Surrounded T H E) (replies : List Reply)
      (new : Surrounded T H E) (all : List Reply) : Type 0 where
    pub broke : Breaks moves modules command turns old replies new all
    pub confined :
        Confines (state_of old.store replies [] (answers_in broke.stops.heard)) command
        (state_of new.store all broke.stops.heard [])

  -- commands were run in order, and each has its reply: so it is with each of them
  pub record RunsConfined (commands : List Command) (old : Surrounded T H E) (replies : List Reply)
      (new : Surrounded T H E) (all : List Reply) : Type 0 where
    pub ran : Runs moves modules commands old replies new all
    pub confined : RunConfines modules (state_of old.store replies [] (answers_in ran.heard)) commands

  -- the first commands were run, and the next one was ended for want of memory after so many turns: so it is with each of
  -- them, and with that one
  pub record StopsConfined (commands : List Command) (turns : ℕ) (old : Surrounded T H E) (replies : List Reply)
      (new : Surrounded T H E) (all : List Reply) : Type 0 where
    pub stopped : StopsIn moves modules commands turns old replies new all
    pub finished :
        RunConfines modules (state_of old.store replies [] (answers_in stopped.stops.heard))
        (take stopped.finished commands)
    pub unfinished :
        StopConfines modules (state_of old.store replies [] (answers_in stopped.stops.heard)) commands stopped.finished
        (state_of new.store all stopped.stops.heard [])
