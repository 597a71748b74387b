-- Constant expressions in the binary format: one instruction and the end.
-- WebAssembly core specification, "Binary Format, Instructions, Expressions", narrowed to this project's profile
use Rattle.std.specs.Prelude.{ℕ, List, nat_eq, if◌then◌else◌, Err}
use Rattle.std.specs.Int.{w32, w64, w128, from_le_bytes}
use Rattle.wasm_types.specs.Signatures.{Signature}
use Rattle.wasm_types.specs.Matching.{heap_top}
use Rattle.wasm_syntax.specs.declared.constants.ConstExpr.{ConstExpr}
use Rattle.wasm_syntax.specs.declared.constants.ConstExpr.TheVariants as c
use Rattle.binary_types.specs.Reading.{Read, ◌>>=◌, done, here, byte, u32, i32, i64, raw, fixed}
use Rattle.binary_types.specs.Types.{heap_type}
use Rattle.binary_types.specs.declared.faults.BinaryFault.TheVariants.{Unsupported}

-- the bits of floats and vectors stand least byte first; a vector's behind the number of its instruction
abbrev pub bits_32 : Read ℕ
bits_32 = do
  bytes ← raw 4
  done (from_le_bytes w32 bytes)

abbrev pub bits_64 : Read ℕ
bits_64 = do
  bytes ← raw 8
  done (from_le_bytes w64 bytes)

abbrev pub bits_128 : Read ℕ
bits_128 = do
  _ ← fixed 0x0c
  bytes ← raw 16
  done (from_le_bytes w128 bytes)

-- the instruction of this code
abbrev pub number_by : ℕ → ℕ → Read ConstExpr
number_by at code p =
    if nat_eq code 0x41 then (do z ← i32; done (c.I32 z)) p else
    (if nat_eq code 0x42 then (do z ← i64; done (c.I64 z)) p else
    (if nat_eq code 0x43 then (do bits ← bits_32; done (c.F32 bits)) p else
    (if nat_eq code 0x44 then (do bits ← bits_64; done (c.F64 bits)) p else
    (if nat_eq code 0xfd then (do bits ← bits_128; done (c.V128 bits)) p else
    Err (Unsupported at code)))))

-- the null of a heap type is that of its family
abbrev pub null : List Signature → Read ConstExpr
null types = do
  t ← heap_type types
  done (c.RefNull (heap_top t))

abbrev pub constant_by : List Signature → ℕ → ℕ → Read ConstExpr
constant_by types at code p =
    if nat_eq code 0x23 then (do n ← u32; done (c.GlobalGet n)) p else
    (if nat_eq code 0xd0 then null types p else
    (if nat_eq code 0xd2 then (do n ← u32; done (c.RefFunc n)) p else
    number_by at code p))

abbrev pub constant : List Signature → Read ConstExpr
constant types = do
  at ← here
  code ← byte
  e ← constant_by types at code
  _ ← fixed 0x0b
  done e
