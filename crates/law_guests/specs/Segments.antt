-- Two stores whose instances have as many segments: this project's own.
use Rattle.std.specs.Prelude.{◌≡◌, ℕ, List, length, flat_map, Option, Some, slice_get}
use Rattle.wasm_syntax.specs.declared.declarations.ModuleDecl.{ModuleDecl}
use Rattle.wasm_values.specs.declared.externals.Extern.{Extern}
use Rattle.wasm_objects.specs.declared.raw.RawVal.{RawVal}
use Rattle.spec_machine.specs.Machine.{Machine, InstanceParts}
use Rattle.spec_machine.specs.Names.{Scope}
use Rattle.spec_machine.specs.declared.command.Command.{Command}
use Rattle.spec_execution.specs.Bodies.{exec}
use Rattle.spec_execution.specs.Entering.{entry}
use Rattle.spec_execution.specs.Instantiation.{instantiate}
use Rattle.spec_execution.specs.Outcomes.{World}
use Rattle.spec_reach.specs.Inside.{SameInside}
use Rattle.spec_reach.specs.Nodes.{Node}
use Rattle.spec_reach.specs.Reach.{in_object}
use Rattle.spec_reach.specs.ReachLaws.{HoldsReach}
use Rattle.spec_reach.specs.Roots.{roots, call_roots}
use Rattle.law_confined.specs.Laws.{left, left_by, all_roots}
use Rattle.law_guests.specs.Depths.{command_at}

-- two instances have as many segments of each kind
pub record HasAsMany (i j : InstanceParts) : Type 0 where
  pub elements : length j.elements ≡ length i.elements
  pub datas : length j.datas ≡ length i.datas

-- so has each instance of one store and the one in its place in the other
abbrev pub HaveAsManySegments : Machine → Machine → Type 0
HaveAsManySegments m n =
    (k : ℕ) (i j : InstanceParts) → slice_get m.instances k ≡ Some i → slice_get n.instances k ≡ Some j → HasAsMany i j

-- of a run that leaves a world: from a store that is the same inside of a set, and whose instances outside have as many
-- segments, it leaves one of which that is so
abbrev pub KeepsSegments : {O : Type 0} → (O → World) → (World → O) → World → List Node → Type 0
KeepsSegments left_of run w set =
    (second : Machine) → SameInside set w.machine second → HaveAsManySegments w.machine second
    → HaveAsManySegments (left_of (run w)).machine (left_of (run (record w { machine = second }))).machine

-- of each set that holds all roots and what its members lead to
pub record SegmentsStayAsMany : Type 0 where
  pub calls :
      (depth n : ℕ) (args : List RawVal) (caller : Option ℕ) (w : World) (set : List Node)
      → HoldsReach w.machine (all_roots (call_roots n args caller) w (left (entry exec depth n args caller w))) set
      → KeepsSegments left (entry exec depth n args caller) w set
  pub instantiations :
      (depth : ℕ) (w : World) (d : ModuleDecl) (imports : List Extern) (set : List Node)
      → HoldsReach w.machine (all_roots (flat_map (in_object w.machine.id) imports) w
      (left (instantiate exec depth w d imports))) set
      → KeepsSegments left (λ u. instantiate exec depth u d imports) w set
  pub commands :
      (depth : ℕ) (modules : List ModuleDecl) (s : Scope) (c : Command) (w : World) (set : List Node)
      → HoldsReach w.machine (all_roots (roots w.machine.id s c) w (left_by (command_at depth modules s c w))) set
      → KeepsSegments left_by (command_at depth modules s c) w set
