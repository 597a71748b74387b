-- Another store for each store on the way, that has the same members and takes their changes alike.
use Rattle.std.proofs.Common.{◌≡◌, ℕ, Bool, slice_get}
use Rattle.wasm_types.specs.Memories.{Memory}
use Rattle.wasm_objects.specs.Globals.{Global}
use Rattle.wasm_objects.specs.Tables.{Table}
use Rattle.spec_machine.specs.Changes.{set_memory, set_table, set_global, set_instance}
use Rattle.spec_machine.specs.Machine.{Machine, InstanceParts}
use Rattle.spec_reach.specs.Nodes.{Node, instance, memory, table, global}
use Rattle.law_confined.specs.Members.{IsMember, IsIn}

-- another store for each store on the way: it has the same members, and each change of members goes alike
pub record Sees (M : Node → Bool) (first : Machine) (other : Machine → Machine) : Type 0 where
  pub instances :
      (m : Machine) (n : ℕ) → IsIn M first m → IsMember M (instance n)
      → slice_get (other m).instances n ≡ slice_get m.instances n
  pub memories :
      (m : Machine) (n : ℕ) → IsIn M first m → IsMember M (memory n)
      → slice_get (other m).memories n ≡ slice_get m.memories n
  pub tables :
      (m : Machine) (n : ℕ) → IsIn M first m → IsMember M (table n)
      → slice_get (other m).tables n ≡ slice_get m.tables n
  pub globals :
      (m : Machine) (n : ℕ) → IsIn M first m → IsMember M (global n)
      → slice_get (other m).globals n ≡ slice_get m.globals n
  pub set_memory :
      (m : Machine) (n : ℕ) (x : Memory) → IsIn M first m → IsMember M (memory n)
      → set_memory (other m) n x ≡ other (set_memory m n x)
  pub set_table :
      (m : Machine) (n : ℕ) (x : Table) → IsIn M first m → IsMember M (table n)
      → set_table (other m) n x ≡ other (set_table m n x)
  pub set_global :
      (m : Machine) (n : ℕ) (x : Global) → IsIn M first m → IsMember M (global n)
      → set_global (other m) n x ≡ other (set_global m n x)
  pub set_instance :
      (m : Machine) (n : ℕ) (i : InstanceParts) → IsIn M first m → IsMember M (instance n)
      → set_instance (other m) n i ≡ other (set_instance m n i)
