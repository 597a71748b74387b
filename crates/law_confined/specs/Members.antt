-- What code may hold that is confined to a set: its members, and what is new. This project's own.
use Rattle.std.specs.Prelude.{◌≡◌, ℕ, ◌≤◌, Bool, true, false, not, ◌||◌, List, length, Some, slice_get}
use Rattle.wasm_types.specs.Each.{Each}
use Rattle.wasm_values.specs.declared.externals.Extern.{Extern}
use Rattle.wasm_values.specs.declared.store_id.StoreId.{StoreId}
use Rattle.wasm_objects.specs.Globals.{Global}
use Rattle.wasm_objects.specs.Tables.{Table}
use Rattle.wasm_objects.specs.declared.raw.RawRef.{RawRef}
use Rattle.wasm_objects.specs.declared.raw.RawRef.TheVariants as raw
use Rattle.wasm_objects.specs.declared.raw.RawVal.{RawVal}
use Rattle.wasm_objects.specs.declared.raw.RawVal.TheVariants as w
use Rattle.spec_machine.specs.Machine.{Machine, Function, guest, host, InstanceParts}
use Rattle.spec_reach.specs.Nodes.{Node, func, instance, memory, table, global, has, is_there}
use Rattle.spec_reach.specs.Reach.{in_object}

-- a member of a set, or what the first store has not
abbrev pub is_member : Machine → List Node → Node → Bool
is_member first set x = has set x || not (is_there first x)

module _ (M : Node → Bool) where
  abbrev pub IsMember : Node → Type 0
  IsMember x = M x ≡ true

  abbrev pub IsHeldRef : RawRef → Type 0
  IsHeldRef (raw.Func n) = IsMember (func n)
  IsHeldRef _ = Unit {0}

  abbrev pub IsHeld : RawVal → Type 0
  IsHeld (w.Reference r) = IsHeldRef r
  IsHeld _ = Unit {0}

  abbrev pub IsHeldObject : StoreId → Extern → Type 0
  IsHeldObject id x = Each (in_object id x) IsMember

  -- an instance names members alone, a function leads to members alone
  pub record NamesMembers (i : InstanceParts) : Type 0 where
    pub functions : Each i.functions (λ n. IsMember (func n))
    pub memories : Each i.memories (λ n. IsMember (memory n))
    pub tables : Each i.tables (λ n. IsMember (table n))
    pub globals : Each i.globals (λ n. IsMember (global n))
    pub elements : Each i.elements (λ items. Each items IsHeldRef)

  abbrev pub LeadsToMembers : StoreId → Function → Type 0
  LeadsToMembers id (guest n k) = IsMember (instance n)
  LeadsToMembers id (host ty body stored) = Each stored (IsHeldObject id)

  -- members lead to members alone
  pub record IsClosed (m : Machine) : Type 0 where
    pub functions : (n : ℕ) (f : Function) → IsMember (func n) → slice_get m.functions n ≡ Some f → LeadsToMembers m.id f
    pub instances :
        (n : ℕ) (i : InstanceParts) → IsMember (instance n) → slice_get m.instances n ≡ Some i → NamesMembers i
    pub tables : (n : ℕ) (t : Table) → IsMember (table n) → slice_get m.tables n ≡ Some t → Each t.elements IsHeldRef
    pub globals : (n : ℕ) (g : Global) → IsMember (global n) → slice_get m.globals n ≡ Some g → IsHeld g.value

  -- what is no member is as it was
  pub record IsUntouched (first m : Machine) : Type 0 where
    pub memories : (n : ℕ) → M (memory n) ≡ false → slice_get m.memories n ≡ slice_get first.memories n
    pub tables : (n : ℕ) → M (table n) ≡ false → slice_get m.tables n ≡ slice_get first.tables n
    pub globals : (n : ℕ) → M (global n) ≡ false → slice_get m.globals n ≡ slice_get first.globals n
    pub instances : (n : ℕ) → M (instance n) ≡ false → slice_get m.instances n ≡ slice_get first.instances n

  -- there is no less of anything
  pub record IsLonger (first m : Machine) : Type 0 where
    pub functions : length first.functions ≤ length m.functions
    pub instances : length first.instances ≤ length m.instances
    pub memories : length first.memories ≤ length m.memories
    pub tables : length first.tables ≤ length m.tables
    pub globals : length first.globals ≤ length m.globals

  -- a store on the way from the first
  pub record IsIn (first m : Machine) : Type 0 where
    pub id : m.id ≡ first.id
    pub untouched : IsUntouched first m
    pub closed : IsClosed m
    pub longer : IsLonger first m
