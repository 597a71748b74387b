-- Straight instructions in the binary format: those that hold no list of instructions and no list of labels.
-- WebAssembly core specification, "Binary Format, Instructions", narrowed to this project's profile
use Rattle.std.specs.Prelude.{ℕ, ◌+◌, List, Bool, true, false, not, ◌&&◌, ◌||◌, nat_eq, nat_le}
use Rattle.wasm_types.specs.Signatures.{Signature}
use Rattle.wasm_types.specs.Matching.{heap_top}
use Rattle.wasm_syntax.specs.declared.instr.Instr.{Instr}
use Rattle.wasm_syntax.specs.declared.instr.Instr.TheVariants as i
use Rattle.wasm_syntax.specs.declared.accesses.LoadOp.{LoadOp}
use Rattle.wasm_syntax.specs.declared.accesses.StoreOp.{StoreOp}
use Rattle.binary_types.specs.Reading.{Read, ◌>>=◌, done, here, unless, some_or, u32, i32, i64}
use Rattle.binary_types.specs.Types.{type_index, heap_type}
use Rattle.binary_types.specs.declared.faults.BinaryFault.TheVariants.{Malformed, Unsupported, Alignment}
use Rattle.binary_code.specs.AccessCodes.{load_width, store_width}
use Rattle.binary_code.specs.InstrCodes.{instr_of_one, instr_of_two, long_of}
use Rattle.binary_code.specs.declared.access_codes.Argument.{Argument}
use Rattle.binary_code.specs.declared.forms.IndexedForm.{IndexedForm}
use Rattle.binary_code.specs.declared.forms.LongForm.{LongForm}
use Rattle.binary_code.specs.declared.forms.LongForm.TheVariants as long
use Rattle.binary_code.specs.declared.forms.PairedForm.{PairedForm}
use Rattle.binary_code.specs.declared.forms.StraightForm.{StraightForm}
use Rattle.binary_code.specs.declared.forms.StraightForm.TheVariants as form

abbrev pub one_number : IndexedForm → Read Instr
one_number f = do
  n ← u32
  done (instr_of_one f n)

abbrev pub two_numbers : PairedForm → Read Instr
two_numbers f = do
  first ← u32
  second ← u32
  done (instr_of_two f first second)

-- an exponent from 64 on says that a memory is named, and counts less 64
abbrev pub names_memory : ℕ → Bool
names_memory exponent = nat_le 64 exponent

abbrev pub is_aligned : ℕ → ℕ → Bool
is_aligned width exponent = nat_le exponent width || (nat_le 64 exponent && nat_le exponent (64 + width))

abbrev pub memory_if : Bool → Read ℕ
memory_if true = u32
memory_if false = done 0

-- the alignment as an exponent of 2, which is at most the width; the memory, where it is not the first; the offset
abbrev pub argument : ℕ → Read Argument
argument width = do
  at ← here
  exponent ← u32
  _ ← unless (Alignment at) (is_aligned width exponent)
  memory ← memory_if (names_memory exponent)
  offset ← u32
  done (record { memory = memory; offset = offset })

abbrev pub load : LoadOp → Read Instr
load op = do
  a ← argument (load_width op)
  done (i.Load op a.memory a.offset)

abbrev pub store : StoreOp → Read Instr
store op = do
  a ← argument (store_width op)
  done (i.Store op a.memory a.offset)

-- the type is named before the table
abbrev pub call_indirect : List Signature → Read Instr
call_indirect types = do
  ty ← type_index types
  table ← u32
  done (i.CallIndirect ty table)

abbrev pub null : List Signature → Read Instr
null types = do
  t ← heap_type types
  done (i.RefNull (heap_top t))

abbrev pub const_32 : Read Instr
const_32 = do
  z ← i32
  done (i.Const32 z)

abbrev pub const_64 : Read Instr
const_64 = do
  z ← i64
  done (i.Const64 z)

abbrev pub long_by : LongForm → Read Instr
long_by (long.Indexed f) = one_number f
long_by (long.Paired f) = two_numbers f

-- memory.init and data.drop, which stand only behind a count of data segments
abbrev pub is_counted : Bool → ℕ → Bool
is_counted counted n = counted || not (nat_eq n 8 || nat_eq n 9)

-- 64,512 is the code fc and a byte of zeros behind it
abbrev pub long_instr : Bool → Read Instr
long_instr counted = do
  at ← here
  n ← u32
  f ← some_or (Unsupported at (64512 + n)) (long_of n)
  _ ← unless Malformed (is_counted counted n)
  long_by f

-- what follows the code of a straight instruction
abbrev pub straight : List Signature → Bool → StraightForm → Read Instr
straight types counted (form.Plain instr) = done instr
straight types counted (form.Indexed f) = one_number f
straight types counted (form.Load op) = load op
straight types counted (form.Store op) = store op
straight types counted form.Const32 = const_32
straight types counted form.Const64 = const_64
straight types counted form.RefNull = null types
straight types counted form.CallIndirect = call_indirect types
straight types counted form.Long = long_instr counted
