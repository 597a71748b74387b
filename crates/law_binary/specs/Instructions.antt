-- Straight instructions: those that hold no list of instructions and no list of labels.
-- WebAssembly core specification, "Binary Format, Instructions", narrowed to this project's profile; that a number of another
-- memory stands behind an exponent from 64 on is that of the proposal for several memories.
use Rattle.std.specs.Prelude.{ℕ, ◌+◌, List, [], ◌∷◌, ◌++◌, Bool, true, false, Option, Some, None, if◌then◌else◌}
use Rattle.std.specs.Option.{option_or}
use Rattle.wasm_types.specs.Signatures.{Signature}
use Rattle.wasm_types.specs.Matching.{heap_top}
use Rattle.wasm_syntax.specs.declared.instr.Instr.{Instr}
use Rattle.wasm_syntax.specs.declared.instr.Instr.TheVariants as i
use Rattle.wasm_syntax.specs.declared.accesses.LoadOp.{LoadOp}
use Rattle.wasm_syntax.specs.declared.accesses.LoadOp.TheVariants as l
use Rattle.wasm_syntax.specs.declared.accesses.StoreOp.{StoreOp}
use Rattle.wasm_syntax.specs.declared.accesses.StoreOp.TheVariants as s
use Rattle.binary_types.specs.declared.faults.BinaryFault.{BinaryFault}
use Rattle.binary_types.specs.declared.faults.BinaryFault.TheVariants.{Alignment}
use Rattle.binary_code.specs.AccessCodes.{load_width, store_width}
use Rattle.binary_code.specs.InstrCodes.{operator_of, plain_of}
use Rattle.binary_code.specs.Instructions.{is_aligned, names_memory}
use Rattle.law_binary.specs.Formats.{Format, Rows, ◌>>=◌, gives, holds, u32, i32, i64, standing_for, by_code, no_table}
use Rattle.law_binary.specs.Types.{heap_type, type_index}

-- of one number, and of two
abbrev pub one : (ℕ → Instr) → Format Instr
one instr = do
  n ← u32
  gives (instr n)

abbrev pub two : (ℕ → ℕ → Instr) → Format Instr
two instr = do
  first ← u32
  second ← u32
  gives (instr first second)

-- loads and stores: an alignment, as an exponent of 2, that is at most the width; the memory, where it is named; the offset
abbrev pub misaligned : ℕ → ℕ → BinaryFault
misaligned at exponent = Alignment at

abbrev pub aligned : ℕ → ℕ → Option ℕ
aligned width exponent = if is_aligned width exponent then Some exponent else None

abbrev pub alignment : ℕ → Format ℕ
alignment width = standing_for u32 (aligned width) misaligned

abbrev pub memory_if : Bool → Format ℕ
memory_if true = u32
memory_if false = gives 0

abbrev pub access : ℕ → (ℕ → ℕ → Instr) → Format Instr
access width instr = do
  exponent ← alignment width
  memory ← memory_if (names_memory exponent)
  offset ← u32
  gives (instr memory offset)

abbrev pub load : LoadOp → Format Instr
load op = access (load_width op) (i.Load op)

abbrev pub store : StoreOp → Format Instr
store op = access (store_width op) (i.Store op)

-- constants
abbrev pub const_32 : Format Instr
const_32 = do
  z ← i32
  gives (i.Const32 z)

abbrev pub const_64 : Format Instr
const_64 = do
  z ← i64
  gives (i.Const64 z)

-- the null of a heap type is that of its family
abbrev pub ref_null : List Signature → Format Instr
ref_null types = do
  t ← heap_type types
  gives (i.RefNull (heap_top t))

-- a call by a type and a table
abbrev pub call_indirect : List Signature → Format Instr
call_indirect types = do
  ty ← type_index types
  table ← u32
  gives (i.CallIndirect ty table)

-- instructions of two codes: fc, and a number behind it
abbrev pub long_code : Format ℕ
long_code = do
  n ← u32
  gives (0xfc00 + n)

-- where data segments were counted
abbrev pub if_counted : Bool → Format Instr → Format Instr
if_counted counted F = do
  _ ← holds counted
  F

abbrev pub longs : Bool → Rows Instr
longs counted =
    (0xfc08, if_counted counted (two (λ segment memory. i.MemoryInit memory segment)))
    ∷ (0xfc09, if_counted counted (one i.DataDrop))
    ∷ (0xfc0a, two i.MemoryCopy) ∷ (0xfc0b, one i.MemoryFill)
    ∷ (0xfc0c, two (λ segment table. i.TableInit table segment)) ∷ (0xfc0d, one i.ElemDrop)
    ∷ (0xfc0e, two i.TableCopy) ∷ (0xfc0f, one i.TableGrow) ∷ (0xfc10, one i.TableSize) ∷ (0xfc11, one i.TableFill) ∷ []

abbrev pub long : Bool → Format Instr
long counted = by_code long_code no_table (longs counted)

-- the codes of one byte: those of operators and others stand for themselves, and something follows these
abbrev pub alone : ℕ → Option Instr
alone code = option_or (operator_of code) (plain_of code)

abbrev pub controls : List Signature → Rows Instr
controls types = (0x0c, one i.Br) ∷ (0x0d, one i.BrIf) ∷ (0x10, one i.Call) ∷ (0x11, call_indirect types) ∷ []

abbrev pub references : List Signature → Rows Instr
references types = (0xd0, ref_null types) ∷ (0xd2, one i.RefFunc) ∷ []

abbrev pub variables : Rows Instr
variables =
    (0x20, one i.LocalGet) ∷ (0x21, one i.LocalSet) ∷ (0x22, one i.LocalTee) ∷ (0x23, one i.GlobalGet) ∷ (0x24, one i.GlobalSet)
    ∷ (0x25, one i.TableGet) ∷ (0x26, one i.TableSet) ∷ (0x3f, one i.MemorySize) ∷ (0x40, one i.MemoryGrow) ∷ []

abbrev pub loads : Rows Instr
loads =
    (0x28, load l.I32Load) ∷ (0x29, load l.I64Load) ∷ (0x2c, load l.I32Load8S) ∷ (0x2d, load l.I32Load8U)
    ∷ (0x2e, load l.I32Load16S) ∷ (0x2f, load l.I32Load16U) ∷ (0x30, load l.I64Load8S) ∷ (0x31, load l.I64Load8U)
    ∷ (0x32, load l.I64Load16S) ∷ (0x33, load l.I64Load16U) ∷ (0x34, load l.I64Load32S) ∷ (0x35, load l.I64Load32U) ∷ []

abbrev pub stores : Rows Instr
stores =
    (0x36, store s.I32Store) ∷ (0x37, store s.I64Store) ∷ (0x3a, store s.I32Store8) ∷ (0x3b, store s.I32Store16)
    ∷ (0x3c, store s.I64Store8) ∷ (0x3d, store s.I64Store16) ∷ (0x3e, store s.I64Store32) ∷ []

abbrev pub numbers : Bool → Rows Instr
numbers counted = (0x41, const_32) ∷ (0x42, const_64) ∷ (0xfc, long counted) ∷ []

abbrev pub straights : List Signature → Bool → Rows Instr
straights types counted = controls types ++ references types ++ variables ++ loads ++ stores ++ numbers counted
