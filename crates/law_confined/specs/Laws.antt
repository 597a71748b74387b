-- What a command leaves as it was, however it ends: all outside of what it reaches. This project's own.
use Rattle.std.specs.Prelude.{◌≡◌, ◌⊎◌, ℕ, true, false, List, ◌++◌, length, drop, flat_map, Option}
use Rattle.wasm_syntax.specs.declared.declarations.ModuleDecl.{ModuleDecl}
use Rattle.wasm_values.specs.declared.externals.Extern.{Extern}
use Rattle.wasm_objects.specs.declared.raw.RawVal.{RawVal}
use Rattle.spec_machine.specs.Machine.{Machine}
use Rattle.spec_machine.specs.Names.{Scope}
use Rattle.spec_machine.specs.declared.command.Command.{Command}
use Rattle.spec_execution.specs.Askings.{Asking}
use Rattle.spec_execution.specs.Bodies.{exec}
use Rattle.spec_execution.specs.Commands.{Finish, Replied, Early, command}
use Rattle.spec_execution.specs.Entering.{entry}
use Rattle.spec_execution.specs.Instantiation.{instantiate}
use Rattle.spec_execution.specs.Outcomes.{World, Outcome, Values, Branch, Return, Over}
use Rattle.spec_reach.specs.Nodes.{Node, has, is_there}
use Rattle.spec_reach.specs.Outside.{SameOutside, new_nodes}
use Rattle.spec_reach.specs.Reach.{in_object, reach}
use Rattle.spec_reach.specs.ReachLaws.{HoldsReach}
use Rattle.spec_reach.specs.Roots.{roots, call_roots}
use Rattle.law_confined.specs.Shown.{unshown}

-- the world that an outcome, a command leaves
abbrev pub left : Outcome → World
left (Values s) = s.world
left (Branch l s) = s.world
left (Return s) = s.world
left (Over e w) = w

abbrev pub left_by : Finish → World
left_by (Replied answer w) = w
left_by (Early e w) = w

-- what was heard from one world of a run to a later one; and these roots, with the functions that bodies handed out
-- meanwhile and were not shown
abbrev pub heard_since : World → World → List Asking
heard_since w v = drop (length w.heard) v.heard

abbrev pub all_roots : List Node → World → World → List Node
all_roots from w v = from ++ unshown w.machine.id (heard_since w v)

-- a property of the store where something began, of the one that it left, and of all roots: of each call from outside of
-- all code, each instantiation and each command, whatever the turns, the modules and the answers, finished or stopped
pub record OfAll (P : Machine → Machine → List Node → Type 0) : Type 0 where
  pub calls :
      (depth n : ℕ) (args : List RawVal) (caller : Option ℕ) (w : World)
      → let v = left (entry exec depth n args caller w) in
      P w.machine v.machine (all_roots (call_roots n args caller) w v)
  pub instantiations :
      (depth : ℕ) (w : World) (d : ModuleDecl) (imports : List Extern)
      → let v = left (instantiate exec depth w d imports) in
      P w.machine v.machine (all_roots (flat_map (in_object w.machine.id) imports) w v)
  pub commands :
      (modules : List ModuleDecl) (s : Scope) (c : Command) (w : World)
      → let v = left_by (command exec modules s c w) in
      P w.machine v.machine (all_roots (roots w.machine.id s c) w v)

-- nothing outside of what is reached is changed
abbrev pub LawC : Type 0
LawC = OfAll (λ m after from. SameOutside (reach m from) m after)

-- nor outside of any set that holds the roots and all that its members lead to
abbrev pub LawCOfSets : Type 0
LawCOfSets = OfAll (λ m after from. (set : List Node) → HoldsReach m from set → SameOutside set m after)

-- what is reached in the second store, from the set and from what is new there, is of that set, or is new
abbrev pub KeepsReach : Machine → Machine → List Node → Type 0
KeepsReach m after set =
    (x : Node) → has (reach after (set ++ new_nodes m after)) x ≡ true → (has set x ≡ true) ⊎ (is_there m x ≡ false)

-- so nothing that was out of reach is reached behind it
abbrev pub LawG : Type 0
LawG = OfAll (λ m after from. KeepsReach m after (reach m from))

abbrev pub LawGOfSets : Type 0
LawGOfSets = OfAll (λ m after from. (set : List Node) → HoldsReach m from set → KeepsReach m after set)
