-- When two stores are the same inside of a set of nodes. This project's own.
use Rattle.std.specs.Prelude.{◌≡◌, ℕ, true, List, length, slice_get, Some}
use Rattle.wasm_types.specs.Memories.{Memory}
use Rattle.wasm_objects.specs.Globals.{Global}
use Rattle.wasm_objects.specs.Tables.{Table}
use Rattle.spec_machine.specs.Machine.{Machine, InstanceParts}
use Rattle.spec_reach.specs.Nodes.{Node, instance, memory, table, global, has}

-- two instances name the same; their segments may differ
pub record NamesTheSame (i j : InstanceParts) : Type 0 where
  pub decl : j.decl ≡ i.decl
  pub functions : j.functions ≡ i.functions
  pub tables : j.tables ≡ i.tables
  pub memories : j.memories ≡ i.memories
  pub globals : j.globals ≡ i.globals
  pub tags : j.tags ≡ i.tags

-- the two stores differ at most in the contents of memories, tables, globals and segments; and each memory, table and
-- global in the set is the same in both, its length included, and so is each segment of an instance in the set
pub record SameInside (set : List Node) (m n : Machine) : Type 0 where
  pub rest : n ≡ record m { memories = n.memories; tables = n.tables; globals = n.globals; instances = n.instances }
  pub as_many_memories : length n.memories ≡ length m.memories
  pub as_many_tables : length n.tables ≡ length m.tables
  pub as_many_globals : length n.globals ≡ length m.globals
  pub as_many_instances : length n.instances ≡ length m.instances
  pub memory_types :
      (k : ℕ) (x y : Memory) → slice_get m.memories k ≡ Some x → slice_get n.memories k ≡ Some y → y.ty ≡ x.ty
  pub table_types :
      (k : ℕ) (x y : Table) → slice_get m.tables k ≡ Some x → slice_get n.tables k ≡ Some y → y.ty ≡ x.ty
  pub global_types :
      (k : ℕ) (x y : Global) → slice_get m.globals k ≡ Some x → slice_get n.globals k ≡ Some y → y.ty ≡ x.ty
  pub names :
      (k : ℕ) (i j : InstanceParts) → slice_get m.instances k ≡ Some i → slice_get n.instances k ≡ Some j
      → NamesTheSame i j
  pub memories : (k : ℕ) → has set (memory k) ≡ true → slice_get n.memories k ≡ slice_get m.memories k
  pub tables : (k : ℕ) → has set (table k) ≡ true → slice_get n.tables k ≡ slice_get m.tables k
  pub globals : (k : ℕ) → has set (global k) ≡ true → slice_get n.globals k ≡ slice_get m.globals k
  pub instances : (k : ℕ) → has set (instance k) ≡ true → slice_get n.instances k ≡ slice_get m.instances k
