-- Instructions that lead to no other code: what each does to the store, the locals and the operands.
-- WebAssembly core specification, "Execution, instructions": numeric, reference, parametric, variable, table and memory
-- instructions
use Rattle.std.specs.Prelude.{ℕ, ◌+◌, ◌==◌, Bool, true, false, ◌&&◌, List, ◌∷◌, length, set, replicate, nat_lt, if◌then◌else◌, slice_get, Option, Some, None}
use Rattle.std.specs.Int.{Width, w8, w16, w32, w64, from_le_bytes, to_le_bytes}
use Rattle.wasm_types.specs.Memories.{Memory, memory}
use Rattle.wasm_types.specs.Ranges.{is_range, range_of, with_range}
use Rattle.wasm_syntax.specs.Operators.{ArithOutcome, Number, IntegerDivisionByZero, IntegerOverflow, arith, binary_width, binary_result_width, extend_s, unary_arith, unary_width, unary_result_width, wrap}
use Rattle.wasm_syntax.specs.declared.accesses.LoadOp.{LoadOp}
use Rattle.wasm_syntax.specs.declared.accesses.LoadOp.TheVariants as l
use Rattle.wasm_syntax.specs.declared.accesses.StoreOp.{StoreOp}
use Rattle.wasm_syntax.specs.declared.accesses.StoreOp.TheVariants as s
use Rattle.wasm_syntax.specs.declared.instr.Instr.{Instr}
use Rattle.wasm_syntax.specs.declared.instr.Instr.TheVariants as i
use Rattle.wasm_values.specs.declared.refusals.Trap.{Trap}
use Rattle.wasm_values.specs.declared.refusals.Trap.TheVariants as trap
use Rattle.wasm_objects.specs.Globals.{global}
use Rattle.wasm_objects.specs.Tables.{Table, table}
use Rattle.wasm_objects.specs.declared.raw.RawRef.{RawRef}
use Rattle.wasm_objects.specs.declared.raw.RawRef.TheVariants as r
use Rattle.wasm_objects.specs.declared.raw.RawVal.{RawVal}
use Rattle.wasm_objects.specs.declared.raw.RawVal.TheVariants as w
use Rattle.spec_machine.specs.Changes.{set_memory, set_table, set_global, drop_element, drop_data}
use Rattle.spec_machine.specs.Growth.{pages}
use Rattle.spec_machine.specs.Machine.{Machine}
use Rattle.spec_execution.specs.Operands as on

-- what an instruction comes to: the store, the locals and the operands that it leaves; a trap, which leaves all as it
-- was; or operands that it does not fit
pub data Effect : Type 0 where
  Goes : Machine → List RawVal → List RawVal → Effect
  Traps : Trap → Effect
  Sticks : Effect

-- a condition, or a trap
abbrev pub bounded : Trap → Bool → Effect → Effect
bounded t true e = e
bounded t false e = Traps t

-- an element, or a trap
abbrev pub element : Option RawRef → (RawRef → Effect) → Effect
element None go = Traps trap.TableOutOfBounds
element (Some r) go = go r

-- the store with other bytes or elements
abbrev pub with_bytes : Machine → ℕ → Memory → List ℕ → Machine
with_bytes m n x bytes = set_memory m n (memory x.ty bytes)

abbrev pub with_elements : Machine → ℕ → Table → List RawRef → Machine
with_elements m n x elements = set_table m n (table x.ty elements)

-- ---- numbers

-- what an operator gives, on top of the other operands
abbrev pub result_of : (RawVal → Effect) → ℕ → ArithOutcome → Effect
result_of go n (Number x) = go (on.integer n x)
result_of go n IntegerDivisionByZero = Traps trap.IntegerDivisionByZero
result_of go n IntegerOverflow = Traps trap.IntegerOverflow

-- ---- memories: "Memory instructions"

-- the bytes that a load reads; whether it extends them by their sign; and the width in bits of what it gives
pub record LoadShape : Type 0 where
  pub reads : Width
  pub is_signed : Bool
  pub gives : ℕ

abbrev pub loads : Width → Bool → ℕ → LoadShape
loads reads is_signed gives = record { reads = reads; is_signed = is_signed; gives = gives }

abbrev pub load_shape : LoadOp → LoadShape
load_shape l.I32Load = loads w32 false 32
load_shape l.I32Load8S = loads w8 true 32
load_shape l.I32Load8U = loads w8 false 32
load_shape l.I32Load16S = loads w16 true 32
load_shape l.I32Load16U = loads w16 false 32
load_shape l.I64Load = loads w64 false 64
load_shape l.I64Load8S = loads w8 true 64
load_shape l.I64Load8U = loads w8 false 64
load_shape l.I64Load16S = loads w16 true 64
load_shape l.I64Load16U = loads w16 false 64
load_shape l.I64Load32S = loads w32 true 64
load_shape l.I64Load32U = loads w32 false 64

-- the width in bits of the operand of a store, and the low bytes of it that are written
pub record StoreShape : Type 0 where
  pub takes : ℕ
  pub writes : Width

abbrev pub stores : ℕ → Width → StoreShape
stores takes writes = record { takes = takes; writes = writes }

abbrev pub store_shape : StoreOp → StoreShape
store_shape s.I32Store = stores 32 w32
store_shape s.I32Store8 = stores 32 w8
store_shape s.I32Store16 = stores 32 w16
store_shape s.I64Store = stores 64 w64
store_shape s.I64Store8 = stores 64 w8
store_shape s.I64Store16 = stores 64 w16
store_shape s.I64Store32 = stores 64 w32

-- bits and bytes of a width of std
abbrev pub bits : Width → ℕ
bits w8 = 8
bits w16 = 16
bits w32 = 32
bits _ = 64

abbrev pub bytes : Width → ℕ
bytes w8 = 1
bytes w16 = 2
bytes w32 = 4
bytes _ = 8

-- what a load gives of the number that it read
abbrev pub extended : ℕ → Bool → ℕ → ℕ → ℕ
extended n false m x = x
extended n true m x = extend_s n m x

abbrev pub loaded : LoadOp → List ℕ → RawVal
loaded op piece =
    on.integer (load_shape op).gives
    (extended (bits (load_shape op).reads) (load_shape op).is_signed (load_shape op).gives
    (from_le_bytes (load_shape op).reads piece))

-- and the bytes that a store writes
abbrev pub stored : StoreOp → ℕ → List ℕ
stored op x = to_le_bytes (store_shape op).writes (wrap (bits (store_shape op).writes) x)

-- the range of a memory becomes these bytes
abbrev pub write : (Machine → Effect) → Machine → ℕ → Memory → ℕ → List ℕ → Effect
write go m n x at piece =
    bounded trap.MemoryOutOfBounds (is_range at (length piece) x.bytes)
    (go (with_bytes m n x (with_range at piece x.bytes)))

-- and the range of a table these references
abbrev pub put : (Machine → Effect) → Machine → ℕ → Table → ℕ → List RawRef → Effect
put go m n x at piece =
    bounded trap.TableOutOfBounds (is_range at (length piece) x.elements)
    (go (with_elements m n x (with_range at piece x.elements)))

-- a range of the first becomes a range of the second, as it was
abbrev pub copied_bytes : (Machine → Effect) → Machine → ℕ → Memory → ℕ → List ℕ → ℕ → ℕ → Effect
copied_bytes go m n x at source from len =
    bounded trap.MemoryOutOfBounds (is_range at len x.bytes && is_range from len source)
    (go (with_bytes m n x (with_range at (range_of from len source) x.bytes)))

abbrev pub copied_elements : (Machine → Effect) → Machine → ℕ → Table → ℕ → List RawRef → ℕ → ℕ → Effect
copied_elements go m n x at source from len =
    bounded trap.TableOutOfBounds (is_range at len x.elements && is_range from len source)
    (go (with_elements m n x (with_range at (range_of from len source) x.elements)))

-- ---- references

-- 1 for null, else 0
abbrev pub null_bit : RawRef → ℕ
null_bit r.Null = 1
null_bit _ = 0

-- ---- the instructions

-- the number of an instance, the store, the locals, and the operands on which an instruction acts
module _ (instance : ℕ) (m : Machine) (locals : List RawVal) where
  -- with another operand on top, with other operands, in another store
  abbrev pub push : List RawVal → RawVal → Effect
  push rest v = Goes m locals (v ∷ rest)

  abbrev pub leave : List RawVal → Effect
  leave rest = Goes m locals rest

  abbrev pub change : List RawVal → Machine → Effect
  change rest after = Goes after locals rest

  -- the three lengths and addresses of a copy, a fill or an initialization, the last on top
  abbrev pub three : List RawVal → (ℕ → ℕ → ℕ → List RawVal → Effect) → Effect
  three operands go =
      on.on_i32 Sticks operands (λ c rest2. on.on_i32 Sticks rest2 (λ b rest1. on.on_i32 Sticks rest1 (λ a rest.
      go a b c rest)))

  abbrev pub act : Instr → List RawVal → Effect
  act i.Nop ops = leave ops
  act i.Drop ops = on.on_value Sticks ops (λ v rest. leave rest)
  act i.Select ops =
      on.on_i32 Sticks ops (λ c rest2. on.on_value Sticks rest2 (λ y rest1. on.on_value Sticks rest1 (λ x rest.
      push rest (if c == 0 then y else x))))
  act (i.LocalGet x) ops = on.found Sticks (slice_get locals x) (push ops)
  act (i.LocalSet x) ops =
      on.on_value Sticks ops (λ v rest. on.found Sticks (slice_get locals x) (λ before. Goes m (set locals x v) rest))
  act (i.LocalTee x) ops =
      on.on_value Sticks ops (λ v rest. on.found Sticks (slice_get locals x) (λ before. Goes m (set locals x v) ops))
  act (i.GlobalGet g) ops = on.on_global Sticks m instance g (λ n x. push ops x.value)
  act (i.GlobalSet g) ops =
      on.on_value Sticks ops (λ v rest. on.on_global Sticks m instance g (λ n x.
      if on.has_kind x.ty.content v then change rest (set_global m n (global x.ty v)) else Sticks))
  act (i.Const32 n) ops = push ops (w.I32 n)
  act (i.Const64 n) ops = push ops (w.I64 n)
  act (i.Unary op) ops =
      on.on_integer Sticks (unary_width op) ops (λ x rest.
      push rest (on.integer (unary_result_width op) (unary_arith op x)))
  act (i.Binary op) ops =
      on.on_integer Sticks (binary_width op) ops (λ y rest1. on.on_integer Sticks (binary_width op) rest1 (λ x rest.
      result_of (push rest) (binary_result_width op) (arith op x y)))
  act (i.Load op k offset) ops =
      on.on_i32 Sticks ops (λ a rest. on.on_memory Sticks m instance k (λ n x.
      bounded trap.MemoryOutOfBounds (is_range (a + offset) (bytes (load_shape op).reads) x.bytes)
      (push rest (loaded op (range_of (a + offset) (bytes (load_shape op).reads) x.bytes)))))
  act (i.Store op k offset) ops =
      on.on_integer Sticks (store_shape op).takes ops (λ v rest1. on.on_i32 Sticks rest1 (λ a rest.
      on.on_memory Sticks m instance k (λ n x. write (change rest) m n x (a + offset) (stored op v))))
  act (i.MemorySize k) ops = on.on_memory Sticks m instance k (λ n x. push ops (on.integer 32 (wrap 32 (pages x))))
  act (i.MemoryFill k) ops =
      three ops (λ at v len rest. on.on_memory Sticks m instance k (λ n x.
      write (change rest) m n x at (replicate len (wrap 8 v))))
  act (i.MemoryCopy dst src) ops =
      three ops (λ at from len rest. on.on_memory Sticks m instance dst (λ n x. on.on_memory Sticks m instance src (λ k y.
      copied_bytes (change rest) m n x at y.bytes from len)))
  act (i.MemoryInit k segment) ops =
      three ops (λ at from len rest. on.on_memory Sticks m instance k (λ n x.
      on.on_data Sticks m instance segment (λ parts y.
      copied_bytes (change rest) m n x at y from len)))
  act (i.DataDrop segment) ops =
      on.on_data Sticks m instance segment (λ parts y.
      change ops (drop_data m instance parts segment))
  act (i.RefNull t) ops = push ops (w.Reference r.Null)
  act i.RefIsNull ops = on.on_reference Sticks ops (λ x rest. push rest (on.integer 32 (null_bit x)))
  act (i.RefFunc f) ops = on.on_function Sticks m instance f (λ n. push ops (w.Reference (r.Func n)))
  act (i.TableGet k) ops =
      on.on_i32 Sticks ops (λ at rest. on.on_table Sticks m instance k (λ n x.
      element (slice_get x.elements at) (λ y. push rest (w.Reference y))))
  act (i.TableSet k) ops =
      on.on_reference Sticks ops (λ y rest1. on.on_i32 Sticks rest1 (λ at rest. on.on_table Sticks m instance k (λ n x.
      bounded trap.TableOutOfBounds (nat_lt at (length x.elements))
      (change rest (with_elements m n x (set x.elements at y))))))
  act (i.TableSize k) ops =
      on.on_table Sticks m instance k (λ n x. push ops (on.integer 32 (wrap 32 (length x.elements))))
  act (i.TableFill k) ops =
      on.on_i32 Sticks ops (λ len rest2. on.on_reference Sticks rest2 (λ y rest1. on.on_i32 Sticks rest1 (λ at rest.
      on.on_table Sticks m instance k (λ n x. put (change rest) m n x at (replicate len y)))))
  act (i.TableCopy dst src) ops =
      three ops (λ at from len rest. on.on_table Sticks m instance dst (λ n x. on.on_table Sticks m instance src (λ k y.
      copied_elements (change rest) m n x at y.elements from len)))
  act (i.TableInit k segment) ops =
      three ops (λ at from len rest. on.on_table Sticks m instance k (λ n x.
      on.on_elements Sticks m instance segment (λ parts y.
      copied_elements (change rest) m n x at y from len)))
  act (i.ElemDrop segment) ops =
      on.on_elements Sticks m instance segment (λ parts y.
      change ops (drop_element m instance parts segment))
  act _ ops = Sticks
