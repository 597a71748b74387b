-- What holds of every store that a call of a host leaves: of each call that changes objects, over the call itself.
-- This project's own.
use Rattle.std.specs.Prelude.{◌≡◌, ℕ, List, Option, Ok}
use Rattle.wasm_types.specs.GlobalTypes.{GlobalParts}
use Rattle.wasm_types.specs.MemoryTypes.{MemoryParts}
use Rattle.wasm_types.specs.Signatures.{Signature}
use Rattle.wasm_types.specs.TableTypes.{TableParts}
use Rattle.wasm_types.specs.declared.extern_type.ExternType.{ExternType}
use Rattle.wasm_types.specs.declared.extern_type.ExternType.TheVariants as x
use Rattle.wasm_values.specs.declared.externals.Extern.{Extern}
use Rattle.wasm_values.specs.declared.handles.Func.{Func}
use Rattle.wasm_values.specs.declared.handles.Global.{Global}
use Rattle.wasm_values.specs.declared.handles.Memory.{Memory}
use Rattle.wasm_values.specs.declared.handles.Table.{Table}
use Rattle.wasm_values.specs.declared.handles.Tag.{Tag}
use Rattle.wasm_values.specs.declared.references.Ref.{Ref}
use Rattle.wasm_values.specs.declared.values.Val.{Val}
use Rattle.spec_machine.specs.FuelCalls as fuel
use Rattle.spec_machine.specs.GlobalCalls as globals
use Rattle.spec_machine.specs.Growth.{Plan}
use Rattle.spec_machine.specs.Machine.{Machine}
use Rattle.spec_machine.specs.MemoryCalls as memories
use Rattle.spec_machine.specs.TableCalls as tables
use Rattle.spec_machine.specs.ValueCalls as values
use Rattle.law_store.specs.Granted.{IsGranted}

-- an object of whatever type
abbrev pub OfAnyType : ExternType → Type 0
OfAnyType ty = Unit {0}

-- of the store that each call leaves that was not refused; a call that makes an object does so of a type of this kind,
-- and a growth takes place where it is granted
pub record CallsLeave (IsGood : ExternType → Type 0) (P : Machine → Type 0) (m : Machine) : Type 0 where
  pub memory_new : (ty : MemoryParts) → IsGood (x.Memory ty) → IsGranted m (memories.memory_new m ty) →
      P (memories.memory_new m ty).after
  pub memory_write : (h : Memory) (at : ℕ) (bytes : List ℕ) (after : Machine) →
      memories.memory_write m h at bytes ≡ Ok after → P after
  pub memory_grow : (h : Memory) (delta : ℕ) (p : Plan ℕ) → memories.memory_grow m h delta ≡ Ok p →
      IsGranted m p → P p.after
  pub table_new : (ty : TableParts) (init : Option Ref) (p : Plan Table) → IsGood (x.Table ty) →
      tables.table_new m ty init ≡ Ok p → IsGranted m p → P p.after
  pub table_set : (h : Table) (at : ℕ) (val : Option Ref) (after : Machine) →
      tables.table_set m h at val ≡ Ok after → P after
  pub table_fill : (h : Table) (at : ℕ) (val : Option Ref) (len : ℕ) (after : Machine) →
      tables.table_fill m h at val len ≡ Ok after → P after
  pub table_copy : (dst : Table) (dst_at : ℕ) (src : Table) (src_at len : ℕ) (after : Machine) →
      tables.table_copy m dst dst_at src src_at len ≡ Ok after → P after
  pub table_grow : (h : Table) (delta : ℕ) (init : Option Ref) (p : Plan ℕ) →
      tables.table_grow m h delta init ≡ Ok p → IsGranted m p → P p.after
  pub global_new : (ty : GlobalParts) (val : Val) (made : Machine × Global) → IsGood (x.Global ty) →
      globals.global_new m ty val ≡ Ok made → P made.0
  pub global_set : (h : Global) (val : Val) (after : Machine) → globals.global_set m h val ≡ Ok after → P after
  pub tag_new : (ty : Signature) (made : Machine × Tag) → IsGood (x.Tag ty) → globals.tag_new m ty ≡ Ok made →
      P made.0
  pub func_new : (ty : Signature) (body : ℕ) (stored : List Extern) (made : Machine × Func) → IsGood (x.Func ty) →
      values.func_new m ty body stored ≡ Ok made → P made.0

-- of the store that each call on fuel and deadline leaves that was not refused
pub record MetersLeave (P : Machine → Type 0) (m : Machine) : Type 0 where
  pub fill_fuel : (amount : ℕ) (after : Machine) → fuel.fill_fuel m amount ≡ Ok after → P after
  pub yield_interval : (interval : Option ℕ) (after : Machine) → fuel.yield_interval m interval ≡ Ok after → P after
  pub move_deadline : (ticks reading : ℕ) → P (fuel.move_deadline m ticks reading)
