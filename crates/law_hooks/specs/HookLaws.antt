-- The events that a hook hears in a run of code lie in brackets, however it ends. This project's own.
use Rattle.std.specs.Prelude.{◌≡◌, ℕ, List, ◌++◌, Option}
use Rattle.wasm_syntax.specs.declared.declarations.ModuleDecl.{ModuleDecl}
use Rattle.wasm_values.specs.declared.externals.Extern.{Extern}
use Rattle.wasm_objects.specs.declared.raw.RawVal.{RawVal}
use Rattle.spec_machine.specs.Names.{Scope}
use Rattle.spec_machine.specs.declared.command.Command.{Command}
use Rattle.spec_execution.specs.Askings.{Asking}
use Rattle.spec_execution.specs.Bodies.{exec}
use Rattle.spec_execution.specs.Commands.{Finish, Replied, Early, command}
use Rattle.spec_execution.specs.Entering.{entry}
use Rattle.spec_execution.specs.Instantiation.{instantiate}
use Rattle.spec_execution.specs.Outcomes.{World, Outcome, Values, Branch, Return, Over, Trapped, Refused}
use Rattle.law_hooks.specs.Brackets.{AreBracketed, IsBracketed, IsBracketedSoFar, events_in, NoHookFailed}

-- of what was heard from one world of a run to a later one
pub record HeardSince (w v : World) (Says : List Asking → Type 0) : Type 0 where
  pub more : List Asking
  pub course : v.heard ≡ w.heard ++ more
  pub says : Says more

module _ (Says : List Asking → Type 0) (w : World) where
  -- of what a call or an instantiation heard that began in a world and ended by results, a trap or a refusal; none ends
  -- by a branch or a return
  abbrev pub AtEnd : Outcome → Type 0
  AtEnd (Values s) = HeardSince w s.world Says
  AtEnd (Branch l s) = ⊥
  AtEnd (Return s) = ⊥
  AtEnd (Over (Trapped t) v) = HeardSince w v Says
  AtEnd (Over (Refused why) v) = HeardSince w v Says
  AtEnd (Over early v) = Unit {0}

  -- of what one heard that was stopped, waits for an answer, had no memory, or is stuck, as no valid code is
  abbrev pub AtStop : Outcome → Type 0
  AtStop (Over (Trapped t) v) = Unit {0}
  AtStop (Over (Refused why) v) = Unit {0}
  AtStop (Over early v) = HeardSince w v Says
  AtStop o = Unit {0}

  -- of what a command heard that came to a reply, and one that did not
  abbrev pub AtReply : Finish → Type 0
  AtReply (Replied answer v) = HeardSince w v Says
  AtReply (Early early v) = Unit {0}

  abbrev pub WithoutReply : Finish → Type 0
  WithoutReply (Replied answer v) = Unit {0}
  WithoutReply (Early early v) = HeardSince w v Says

-- a call from outside of all code, with so many functions open around it
abbrev pub OfCalls : (World → Outcome → Type 0) → Type 0
OfCalls P =
    (depth n : ℕ) (args : List RawVal) (caller : Option ℕ) (w : World) → P w (entry exec depth n args caller w)

abbrev pub OfInstantiations : (World → Outcome → Type 0) → Type 0
OfInstantiations P =
    (depth : ℕ) (w : World) (d : ModuleDecl) (imports : List Extern) → P w (instantiate exec depth w d imports)

-- an outermost command, over the modules of a session
abbrev pub OfCommands : (World → Finish → Type 0) → Type 0
OfCommands P = (modules : List ModuleDecl) (s : Scope) (c : Command) (w : World) → P w (command exec modules s c w)

-- where it comes to its end no call is left open
abbrev pub CallsAreBracketed : Type 0
CallsAreBracketed = OfCalls (AtEnd IsBracketed)

abbrev pub InstantiationsAreBracketed : Type 0
InstantiationsAreBracketed = OfInstantiations (AtEnd IsBracketed)

abbrev pub CommandsAreBracketed : Type 0
CommandsAreBracketed = OfCommands (AtReply IsBracketed)

-- where it comes to none, calls may be left open, but each that was closed was the newest
pub record StopsAreBracketedSoFar : Type 0 where
  pub calls : OfCalls (AtStop IsBracketedSoFar)
  pub instantiations : OfInstantiations (AtStop IsBracketedSoFar)
  pub commands : OfCommands (WithoutReply IsBracketedSoFar)

-- where no hook failed these are all events of which a hook was told
abbrev pub HasBracketedEvents : List Asking → Type 0
HasBracketedEvents heard = NoHookFailed heard → AreBracketed (events_in heard)

pub record EventsAreBracketed : Type 0 where
  pub calls : OfCalls (AtEnd HasBracketedEvents)
  pub instantiations : OfInstantiations (AtEnd HasBracketedEvents)
  pub commands : OfCommands (AtReply HasBracketedEvents)
