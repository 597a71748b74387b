-- Refusals by what is outside have their causes in what was heard. This project's own.
use Rattle.std.specs.Prelude.{◌≡◌, ℕ, List, ◌++◌, Option}
use Rattle.wasm_syntax.specs.declared.declarations.ModuleDecl.{ModuleDecl}
use Rattle.wasm_values.specs.declared.externals.Extern.{Extern}
use Rattle.wasm_values.specs.declared.refusals.Refusal.{Refusal}
use Rattle.wasm_objects.specs.declared.raw.RawVal.{RawVal}
use Rattle.spec_machine.specs.Commands.{row}
use Rattle.spec_machine.specs.Names.{Scope}
use Rattle.spec_machine.specs.declared.command.Command.{Command}
use Rattle.spec_machine.specs.declared.reply.Reply.TheVariants as reply
use Rattle.spec_execution.specs.Askings.{Asking}
use Rattle.spec_execution.specs.Bodies.{exec}
use Rattle.spec_execution.specs.Commands.{Replied, command}
use Rattle.spec_execution.specs.Entering.{entry}
use Rattle.spec_execution.specs.Instantiation.{instantiate}
use Rattle.spec_execution.specs.Outcomes.{World, Over, Refused}
use Rattle.law_causes.specs.Causes.{Reasons, HasCause, code_reasons, making_reasons, row_reasons}

-- what was heard from the first world to the second has the cause of a refusal there
pub record CausedSince (reason : Reasons) (w v : World) (why : Refusal) : Type 0 where
  pub more : List Asking
  pub course : v.heard ≡ w.heard ++ more
  pub cause : HasCause reason why more

-- a call from outside of all code, which no growth refuses: what it is refused by is outside, or a function of the host
abbrev pub CallsHaveCauses : Type 0
CallsHaveCauses =
    (depth n : ℕ) (args : List RawVal) (caller : Option ℕ) (w v : World) (why : Refusal)
    → entry exec depth n args caller w ≡ Over (Refused why) v → CausedSince code_reasons w v why

abbrev pub InstantiationsHaveCauses : Type 0
InstantiationsHaveCauses =
    (depth : ℕ) (w v : World) (d : ModuleDecl) (imports : List Extern) (why : Refusal)
    → instantiate exec depth w d imports ≡ Over (Refused why) v
    → CausedSince (making_reasons w.machine d imports) w v why

-- an outermost command, over the modules of a session
abbrev pub CommandsHaveCauses : Type 0
CommandsHaveCauses =
    (modules : List ModuleDecl) (s : Scope) (c : Command) (w v : World) (why : Refusal)
    → command exec modules s c w ≡ Replied (reply.Refused why) v
    → CausedSince (row_reasons w.machine (row modules w.machine s c)) w v why
