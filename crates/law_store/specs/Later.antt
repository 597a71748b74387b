-- A later store: what was in it before is there, in its place and of its type; no memory or table is smaller; a constant
-- global has its value; and an instance names what it named.
-- WebAssembly core specification, "Soundness, store extension"; that the id and the engine stay is this project's own
use Rattle.std.specs.Prelude.{◌≡◌, ℕ, ◌≤◌, List, length, slice_get, Some}
use Rattle.wasm_types.specs.Memories.{Memory}
use Rattle.wasm_types.specs.declared.plain.Mutability.TheVariants.{Const}
use Rattle.wasm_objects.specs.Globals.{Global}
use Rattle.wasm_objects.specs.Tables.{Table}
use Rattle.spec_machine.specs.Machine.{Machine, InstanceParts, debt}

-- a member of a list, by its place, with what is said of it
pub record There {A : Type 0} (xs : List A) (n : ℕ) (Says : A → Type 0) : Type 0 where
  pub member : A
  pub found : slice_get xs n ≡ Some member
  pub says : Says member

-- each member of the first list has one in its place in the second, and the two are related
abbrev pub Later : {A : Type 0} → List A → List A → (A → A → Type 0) → Type 0
Later xs ys R = (n : ℕ) (x : _) → slice_get xs n ≡ Some x → There ys n (R x)

-- an object before and later
abbrev pub IsSame : {A : Type 0} → A → A → Type 0
IsSame x y = y ≡ x

pub record IsLaterMemory (x y : Memory) : Type 0 where
  pub ty : y.ty ≡ x.ty
  pub size : length x.bytes ≤ length y.bytes

pub record IsLaterTable (x y : Table) : Type 0 where
  pub ty : y.ty ≡ x.ty
  pub size : length x.elements ≤ length y.elements

pub record IsLaterGlobal (x y : Global) : Type 0 where
  pub ty : y.ty ≡ x.ty
  pub constant : x.ty.mutability ≡ Const → y.value ≡ x.value

-- the segments of an instance may be dropped
pub record IsLaterInstance (x y : InstanceParts) : Type 0 where
  pub decl : y.decl ≡ x.decl
  pub functions : y.functions ≡ x.functions
  pub tables : y.tables ≡ x.tables
  pub memories : y.memories ≡ x.memories
  pub globals : y.globals ≡ x.globals
  pub tags : y.tags ≡ x.tags

pub record Extends (m after : Machine) : Type 0 where
  pub id : after.id ≡ m.id
  pub engine : after.engine ≡ m.engine
  pub memories : Later m.memories after.memories IsLaterMemory
  pub tables : Later m.tables after.tables IsLaterTable
  pub globals : Later m.globals after.globals IsLaterGlobal
  pub tags : Later m.tags after.tags IsSame
  pub functions : Later m.functions after.functions IsSame
  pub instances : Later m.instances after.instances IsLaterInstance

-- what no call on an object changes
pub record LeavesRest (m after : Machine) : Type 0 where
  pub engine : after.engine ≡ m.engine
  pub instances : after.instances ≡ m.instances
  pub fuel : after.fuel ≡ m.fuel
  pub deadline : after.deadline ≡ m.deadline
  pub counts : after.counts ≡ m.counts
  pub limits : after.limits ≡ m.limits
  pub is_limited : after.is_limited ≡ m.is_limited
  pub is_hooked : after.is_hooked ≡ m.is_hooked
  pub is_behaving : after.is_behaving ≡ m.is_behaving

-- what no command that runs no code changes, and no more fuel is owed
pub record LeavesFlags (m after : Machine) : Type 0 where
  pub engine : after.engine ≡ m.engine
  pub instances : after.instances ≡ m.instances
  pub counts : after.counts ≡ m.counts
  pub limits : after.limits ≡ m.limits
  pub is_limited : after.is_limited ≡ m.is_limited
  pub is_hooked : after.is_hooked ≡ m.is_hooked
  pub is_behaving : after.is_behaving ≡ m.is_behaving
  pub owed : debt after.fuel ≤ debt m.fuel
