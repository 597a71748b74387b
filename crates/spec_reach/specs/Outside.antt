-- When two stores are the same outside of a set of nodes. This project's own.
use Rattle.std.specs.Prelude.{◌≡◌, ℕ, false, not, List, filter, slice_get, Some}
use Rattle.wasm_types.specs.Memories.{Memory}
use Rattle.wasm_objects.specs.Globals.{Global}
use Rattle.wasm_objects.specs.Tables.{Table}
use Rattle.spec_machine.specs.Machine.{Machine, InstanceParts}
use Rattle.spec_reach.specs.Nodes.{Node, instance, memory, table, global, has, nodes, is_there}

-- a store has an instance of this number, whose segments are those of this one
pub record HasSegmentsOf (i : InstanceParts) (n : ℕ) (m : Machine) : Type 0 where
  pub now : InstanceParts
  pub found : slice_get m.instances n ≡ Some now
  pub elements : now.elements ≡ i.elements
  pub datas : now.datas ≡ i.datas

-- each memory, table and global of the first store that is not in the set is the same in the second, its length
-- included, and so is each segment of an instance that is not in the set
pub record SameOutside (set : List Node) (m after : Machine) : Type 0 where
  pub memories :
      (n : ℕ) (x : Memory) → has set (memory n) ≡ false → slice_get m.memories n ≡ Some x
      → slice_get after.memories n ≡ Some x
  pub tables :
      (n : ℕ) (x : Table) → has set (table n) ≡ false → slice_get m.tables n ≡ Some x
      → slice_get after.tables n ≡ Some x
  pub globals :
      (n : ℕ) (x : Global) → has set (global n) ≡ false → slice_get m.globals n ≡ Some x
      → slice_get after.globals n ≡ Some x
  pub segments :
      (n : ℕ) (i : InstanceParts) → has set (instance n) ≡ false → slice_get m.instances n ≡ Some i
      → HasSegmentsOf i n after

-- what the second store has and the first has not
abbrev pub new_nodes : Machine → Machine → List Node
new_nodes m after = filter (λ x. not (is_there m x)) (nodes after)
