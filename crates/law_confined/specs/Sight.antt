-- That a command reads nothing outside of what it reaches, however it ends. This project's own.
use Rattle.std.specs.Prelude.{◌≡◌, ℕ, List, ◌++◌, flat_map, Option}
use Rattle.wasm_syntax.specs.declared.declarations.ModuleDecl.{ModuleDecl}
use Rattle.wasm_values.specs.declared.externals.Extern.{Extern}
use Rattle.wasm_objects.specs.declared.raw.RawVal.{RawVal}
use Rattle.spec_machine.specs.Machine.{Machine}
use Rattle.spec_machine.specs.Names.{Scope}
use Rattle.spec_machine.specs.declared.command.Command.{Command}
use Rattle.spec_execution.specs.Bodies.{exec}
use Rattle.spec_execution.specs.Commands.{Finish, Replied, Early, command}
use Rattle.spec_execution.specs.Entering.{entry}
use Rattle.spec_execution.specs.Instantiation.{instantiate}
use Rattle.spec_execution.specs.Outcomes.{World, State, Outcome, Values, Branch, Return, Over}
use Rattle.spec_reach.specs.Inside.{SameInside}
use Rattle.spec_reach.specs.Nodes.{Node}
use Rattle.spec_reach.specs.Outside.{new_nodes}
use Rattle.spec_reach.specs.Reach.{in_object, reach}
use Rattle.spec_reach.specs.ReachLaws.{HoldsReach}
use Rattle.spec_reach.specs.Roots.{roots, call_roots}
use Rattle.law_confined.specs.Laws.{left, left_by, all_roots}

-- what something came to, but that it leaves this store
abbrev pub state_in : Machine → State → State
state_in t s = record s { world = record s.world { machine = t } }

abbrev pub outcome_in : Machine → Outcome → Outcome
outcome_in t (Values s) = Values (state_in t s)
outcome_in t (Branch l s) = Branch l (state_in t s)
outcome_in t (Return s) = Return (state_in t s)
outcome_in t (Over e v) = Over e (record v { machine = t })

abbrev pub finish_in : Machine → Finish → Finish
finish_in t (Replied answer v) = Replied answer (record v { machine = t })
finish_in t (Early e v) = Early e (record v { machine = t })

-- of a run that leaves a world
module _ {O : Type 0} (left_of : O → World) (in_store : Machine → O → O) (run : World → O) (w : World) where
  -- from the second store it comes to the same, with the same turns, questions and answers left, but for the store that it
  -- leaves; and that one is the same as the one that it left, inside of what is reached there from the set and from what is
  -- new
  pub record SeesAlike (set : List Node) (second : Machine) : Type 0 where
    pub after : Machine
    pub same : run (record w { machine = second }) ≡ in_store after (run w)
    pub inside :
        let v = left_of (run w) in
        SameInside (reach v.machine (set ++ new_nodes w.machine v.machine)) v.machine after

  -- whatever is outside of the set
  abbrev pub SeesInside : List Node → Type 0
  SeesInside set = (second : Machine) → SameInside set w.machine second → SeesAlike set second

-- each call from outside of all code, each instantiation and each command reads nothing outside of a set, whatever the
-- turns, the modules and the answers, finished or stopped; the set is one of those that go with the store and all roots
pub record Sight (Of : Machine → List Node → List Node → Type 0) : Type 0 where
  pub calls :
      (depth n : ℕ) (args : List RawVal) (caller : Option ℕ) (w : World) (set : List Node)
      → Of w.machine (all_roots (call_roots n args caller) w (left (entry exec depth n args caller w))) set
      → SeesInside left outcome_in (entry exec depth n args caller) w set
  pub instantiations :
      (depth : ℕ) (w : World) (d : ModuleDecl) (imports : List Extern) (set : List Node)
      → Of w.machine (all_roots (flat_map (in_object w.machine.id) imports) w
      (left (instantiate exec depth w d imports))) set
      → SeesInside left outcome_in (λ u. instantiate exec depth u d imports) w set
  pub commands :
      (modules : List ModuleDecl) (s : Scope) (c : Command) (w : World) (set : List Node)
      → Of w.machine (all_roots (roots w.machine.id s c) w (left_by (command exec modules s c w))) set
      → SeesInside left_by finish_in (command exec modules s c) w set

-- nothing outside of what is reached is read
abbrev pub LawS : Type 0
LawS = Sight (λ m from set. set ≡ reach m from)

-- nor outside of any set that holds the roots and all that its members lead to
abbrev pub LawSOfSets : Type 0
LawSOfSets = Sight HoldsReach

-- two stores that are the same inside of what is reached in the first reach the same
abbrev pub ReachIsSame : Type 0
ReachIsSame = (m n : Machine) (from : List Node) → SameInside (reach m from) m n → reach n from ≡ reach m from
