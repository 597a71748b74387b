-- An outermost command, by what it leaves of a store and answers, whatever the modules of the session. This project's
-- own.
use Rattle.std.specs.Prelude.{◌≡◌, true, List, [], ◌∷◌, ◌++◌, None}
use Rattle.wasm_syntax.specs.declared.declarations.ModuleDecl.{ModuleDecl}
use Rattle.spec_machine.specs.Commands.{operation}
use Rattle.spec_machine.specs.Names.{outermost}
use Rattle.spec_machine.specs.declared.command.Command.{Command}
use Rattle.spec_machine.specs.declared.command.Command.TheVariants as command
use Rattle.spec_machine.specs.declared.operation.Op.{Op}
use Rattle.spec_machine.specs.declared.operation.Op.TheVariants.{Call}
use Rattle.spec_machine.specs.declared.reply.Reply.{Reply}
use Rattle.spec_execution.specs.Bodies.{exec}
use Rattle.spec_execution.specs.Commands as execution
use Rattle.wasm_call.specs.Outcomes.{Short}
use Rattle.wasm_call.specs.Outside.{Moving, Surrounded}
use Rattle.wasm_call.specs.Room.{takes_memory, refusal_of}
use Rattle.wasm_call.specs.Runs.{Steps, Breaks}

-- after these replies it gave its reply
abbrev pub CommandAnswered : {T H E : Type 0} → Moving T H E → List Reply → Command → Surrounded T H E → Reply →
    Surrounded T H E → Type 0
CommandAnswered moves replies command old reply new =
    (modules : List ModuleDecl) → Steps moves modules command old replies new (replies ++ reply ∷ [])

-- memory ran out in it, and it is stopped after the turns that the store tells
abbrev pub CommandCut : {T H E : Type 0} → Moving T H E → List Reply → Command → Surrounded T H E →
    Surrounded T H E → Type 0
CommandCut moves replies command old new =
    (modules : List ModuleDecl) → Breaks moves modules command new.store.turns old replies new replies

-- the act of an operation that is no call was due
abbrev pub IsActDue : {T H E : Type 0} → Moving T H E → List Reply → Op → Surrounded T H E → Surrounded T H E → Type 0
IsActDue moves replies (Call func args results) old new = Unit {0}
IsActDue moves replies op old new =
    (modules : List ModuleDecl) →
    Short moves (execution.command exec modules (outermost replies) (command.Op op)) old new

-- memory ran out in an operation: it takes memory, it is not refused, and but for a call its act was due
pub record OpShort {T H E : Type 0} (moves : Moving T H E) (replies : List Reply) (op : Op) (old new : Surrounded T H E) :
    Type 0 where
  pub room : takes_memory op ≡ true
  pub met : refusal_of (operation old.store.machine (outermost replies) op) ≡ None
  pub due : IsActDue moves replies op old new
