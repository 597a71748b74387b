-- What a command leaves as it was and does not read that a body of the host asks for, however many functions are open around
-- it. This project's own.
use Rattle.std.specs.Prelude.{◌≡◌, ℕ, List}
use Rattle.wasm_syntax.specs.declared.declarations.ModuleDecl.{ModuleDecl}
use Rattle.spec_machine.specs.Commands.{row}
use Rattle.spec_machine.specs.Machine.{Machine}
use Rattle.spec_machine.specs.Names.{Scope}
use Rattle.spec_machine.specs.declared.command.Command.{Command}
use Rattle.spec_execution.specs.Bodies.{exec}
use Rattle.spec_execution.specs.Commands.{Finish, Early, perform, replied}
use Rattle.spec_execution.specs.Outcomes.{World}
use Rattle.spec_reach.specs.Nodes.{Node}
use Rattle.spec_reach.specs.Outside.{SameOutside}
use Rattle.spec_reach.specs.Reach.{reach}
use Rattle.spec_reach.specs.ReachLaws.{HoldsReach}
use Rattle.spec_reach.specs.Roots.{roots}
use Rattle.law_confined.specs.Laws.{left_by, all_roots, KeepsReach}
use Rattle.law_confined.specs.Sight.{finish_in, SeesInside}

-- a command by itself, with so many functions open around it: an outermost one has none
abbrev pub command_at : ℕ → List ModuleDecl → Scope → Command → World → Finish
command_at depth modules s c w = perform Early exec depth w (row modules w.machine s c) replied

-- a property of the store where such a command began, of the one that it left, and of all roots: whatever the depth, the
-- turns, the modules and the answers, finished or stopped
abbrev pub OfCommands : (Machine → Machine → List Node → Type 0) → Type 0
OfCommands P =
    (depth : ℕ) (modules : List ModuleDecl) (s : Scope) (c : Command) (w : World)
    → let v = left_by (command_at depth modules s c w) in P w.machine v.machine (all_roots (roots w.machine.id s c) w v)

-- nothing outside of what is reached is changed, nor outside of any set that holds the roots and all that its members lead
-- to
abbrev pub CommandsConfine : Type 0
CommandsConfine = OfCommands (λ m after from. SameOutside (reach m from) m after)

abbrev pub CommandsConfineToSets : Type 0
CommandsConfineToSets = OfCommands (λ m after from. (set : List Node) → HoldsReach m from set → SameOutside set m after)

-- what was out of reach stays out of reach
abbrev pub CommandsKeepReach : Type 0
CommandsKeepReach = OfCommands (λ m after from. KeepsReach m after (reach m from))

abbrev pub CommandsKeepReachOfSets : Type 0
CommandsKeepReachOfSets = OfCommands (λ m after from. (set : List Node) → HoldsReach m from set → KeepsReach m after set)

-- nothing outside of a set is read that goes with the store and all roots: of what is reached, or of such a set
abbrev pub CommandsSeeInside : (Machine → List Node → List Node → Type 0) → Type 0
CommandsSeeInside Of =
    (depth : ℕ) (modules : List ModuleDecl) (s : Scope) (c : Command) (w : World) (set : List Node)
    → Of w.machine (all_roots (roots w.machine.id s c) w (left_by (command_at depth modules s c w))) set
    → SeesInside left_by finish_in (command_at depth modules s c) w set

abbrev pub CommandsSeeReach : Type 0
CommandsSeeReach = CommandsSeeInside (λ m from set. set ≡ reach m from)

abbrev pub CommandsSeeSets : Type 0
CommandsSeeSets = CommandsSeeInside HoldsReach
