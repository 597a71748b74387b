-- What a command sees of answers that begin alike, in a store and in another one that is the same inside of what it
-- reaches. This project's own.
use Rattle.std.specs.Prelude.{◌⊎◌, ℕ, List, ◌++◌, flat_map, Option}
use Rattle.wasm_syntax.specs.declared.declarations.ModuleDecl.{ModuleDecl}
use Rattle.wasm_values.specs.declared.externals.Extern.{Extern}
use Rattle.wasm_objects.specs.declared.raw.RawVal.{RawVal}
use Rattle.spec_machine.specs.Machine.{Machine}
use Rattle.spec_machine.specs.Names.{Scope}
use Rattle.spec_machine.specs.declared.command.Command.{Command}
use Rattle.spec_execution.specs.Askings.{Answer, Asking}
use Rattle.spec_execution.specs.Bodies.{exec}
use Rattle.spec_execution.specs.Commands.{Early, command}
use Rattle.spec_execution.specs.Entering.{entry}
use Rattle.spec_execution.specs.Instantiation.{instantiate}
use Rattle.spec_execution.specs.Outcomes.{World, Over, End}
use Rattle.spec_reach.specs.Inside.{SameInside}
use Rattle.spec_reach.specs.Nodes.{Node}
use Rattle.spec_reach.specs.Outside.{new_nodes}
use Rattle.spec_reach.specs.Reach.{in_object, reach}
use Rattle.spec_reach.specs.ReachLaws.{HoldsReach}
use Rattle.spec_reach.specs.Roots.{roots, call_roots}
use Rattle.law_answers.specs.Fronts.{world_with, outcome_with, finish_with, outcome_heard, finish_heard, ComeToTheSame, AskTheSame}
use Rattle.law_confined.specs.Laws.{left, left_by, all_roots}
use Rattle.law_confined.specs.Sight.{outcome_in, finish_in}

-- of runs that may end early and leave a world
module _ {O : Type 0} (early : End → World → O) (with_left : List Answer → O → O) (heard_by : O → List Asking)
    (left_of : O → World) (in_store : Machine → O → O) where
  -- a run with common answers and a rest, from the store; and one with the common answers and another rest, from the
  -- second store. They come to the same, but for the rests and the stores that they leave, or both ask the same question
  -- behind the common answers. The store that the first leaves is the same as one beside it, inside of what is reached
  -- there from the set and from what is new; and where both come to the same, the second leaves that one
  pub record SeeFronts (w : World) (set : List Node) (common rest rest' : List Answer) (o o' : O) : Type 0 where
    pub after : Machine
    pub inside :
        let v = left_of o in
        SameInside (reach v.machine (set ++ new_nodes w.machine v.machine)) v.machine after
    pub go :
        ComeToTheSame early with_left heard_by rest rest' (in_store after o) o'
        ⊎ AskTheSame early with_left heard_by w.heard common o o'

  -- of a set that holds what these roots lead to, with what was handed out unshown in the first run
  abbrev pub SeesFronts : (World → O) → List Node → World → Type 0
  SeesFronts run from w =
      (common rest rest' : List Answer) (set : List Node) (second : Machine) →
      let o = run (world_with (common ++ rest) w) in
      HoldsReach w.machine (all_roots from w (left_of o)) set → SameInside set w.machine second →
      SeeFronts w set common rest rest' o (run (world_with (common ++ rest') (record w { machine = second })))

-- each call from outside of all code, each instantiation and each command
pub record LawSOfFronts : Type 0 where
  pub calls :
      (depth n : ℕ) (args : List RawVal) (caller : Option ℕ) (w : World)
      → SeesFronts Over outcome_with outcome_heard left outcome_in (entry exec depth n args caller)
      (call_roots n args caller) w
  pub instantiations :
      (depth : ℕ) (w : World) (d : ModuleDecl) (imports : List Extern)
      → SeesFronts Over outcome_with outcome_heard left outcome_in (λ u. instantiate exec depth u d imports)
      (flat_map (in_object w.machine.id) imports) w
  pub commands :
      (modules : List ModuleDecl) (s : Scope) (c : Command) (w : World)
      → SeesFronts Early finish_with finish_heard left_by finish_in (command exec modules s c)
      (roots w.machine.id s c) w
