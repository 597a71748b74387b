-- Sets of nodes as the code has them. This project's own.
use Rattle.std.specs.Prelude.{◌≡◌, ℕ, ◌<◌, true, ◌||◌, List, [], ◌∷◌, ◌++◌, map, flat_map, if◌then◌else◌, Option, Some, None, slice_get}
use Rattle.spec_machine.specs.Machine.{Machine}
use Rattle.spec_reach.specs.Nodes.{Node as Reached, has, is_there}
use Rattle.spec_reach.specs.Reach.{links, reach}
use Rattle.store_objects.specs.declared.node.Node.{Node}
use Rattle.wasm_store.specs.LinkLaws.{as_reached}
use Rattle.store_reach.specs.Marks.{MarkParts, is_node_marked}

-- one node, what stands at a place, and at each of some places
abbrev pub one : Node → List Reached
one x = as_reached x ∷ []

abbrev pub placed : Option Node → List Reached
placed None = []
placed (Some x) = one x

abbrev pub all_placed : List (Option Node) → List Reached
all_placed = flat_map placed

-- a node, where the store has it
abbrev pub if_there : Machine → Node → Option Node
if_there m x = if is_there m (as_reached x) then Some x else None

abbrev pub members_of : List Node → List Reached
members_of = map as_reached

-- what is marked is a member
abbrev pub AreMembers : MarkParts → List Node → Type 0
AreMembers marks members = (x : Node) → is_node_marked marks x ≡ has (members_of members) (as_reached x)

-- these were added behind what was there, as far as they were none of it
pub record Adds (old xs new : List Reached) : Type 0 where
  pub more : List Reached
  pub behind : new ≡ old ++ more
  pub added : (y : Reached) → has new y ≡ (has old y || has xs y)

-- a set is what is reached
abbrev pub IsReach : Machine → List Reached → List Reached → Type 0
IsReach m roots set = (x : Reached) → has set x ≡ has (reach m roots) x

-- a set on the way there: it has the roots, it has nothing but what is reached, and of the members before a place it
-- has all that they lead to
pub record IsOnTheWay (m : Machine) (roots : List Reached) (next : ℕ) (set : List Reached) : Type 0 where
  pub rooted : (x : Reached) → has roots x ≡ true → is_there m x ≡ true → has set x ≡ true
  pub within : (x : Reached) → has set x ≡ true → has (reach m roots) x ≡ true
  pub closed :
      (i : ℕ) (x y : Reached) → i < next → slice_get set i ≡ Some x → has (links m x) y ≡ true → has set y ≡ true
