-- What want of memory in a command of a session says, by the kind of the command. This project's own.
use Rattle.std.specs.Prelude.{◌≡◌, ◌⊎◌, ℕ, ◌+◌, List, length, take, slice_get, Some}
use Rattle.wasm_syntax.specs.declared.declarations.ModuleDecl.{ModuleDecl}
use Rattle.spec_machine.specs.declared.command.Command.{Command}
use Rattle.spec_machine.specs.declared.command.Command.TheVariants as command
use Rattle.spec_machine.specs.declared.reply.Reply.{Reply}
use Rattle.wasm_call.specs.Commands.{OpShort}
use Rattle.wasm_call.specs.Outside.{Moving, Surrounded}
use Rattle.wasm_instance.specs.Instances.{IsUntouched, NamedRanShort}
use Rattle.wasm_session.specs.Sessions.{Runs}

-- memory ran out in what a command does: no function of the host is made; or it ran out in an instantiation, of the
-- module and the objects that the command names; or in an operation that takes memory and is not refused, and the act of
-- one that is no call was due
abbrev pub ActsShort : {T H E : Type 0} → Moving T H E → List ModuleDecl → List Reply → Command → Surrounded T H E →
    Surrounded T H E → Type 0
ActsShort moves modules replies (command.FuncNew ty body stored) old new = IsUntouched old new
ActsShort moves modules replies (command.Instantiate number imports) old new =
    NamedRanShort moves modules replies number imports old new
ActsShort moves modules replies (command.Op op) old new = OpShort moves replies op old new

-- or before that, for its reply
abbrev pub CommandShort : {T H E : Type 0} → Moving T H E → List ModuleDecl → List Reply → Command → Surrounded T H E →
    Surrounded T H E → Type 0
CommandShort moves modules replies command old new = IsUntouched old new ⊎ ActsShort moves modules replies command old new

-- the first commands were run, and each has its reply; in the next one memory ran out so
pub record RunShort {T H E : Type 0} (moves : Moving T H E) (modules : List ModuleDecl) (commands : List Command)
    (old : Surrounded T H E) (replies : List Reply) (new : Surrounded T H E) (all : List Reply) : Type 0 where
  pub finished : ℕ
  pub next : Command
  pub is_next : slice_get commands finished ≡ Some next
  pub between : Surrounded T H E
  pub ran : Runs moves modules (take finished commands) old replies between all
  pub answered : length all ≡ length replies + finished
  pub short : CommandShort moves modules all next between new
