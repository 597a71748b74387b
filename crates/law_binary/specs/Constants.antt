-- Constant expressions: one instruction and the end.
-- WebAssembly core specification, "Binary Format, Instructions, Expressions", narrowed to this project's profile; floats,
-- "Binary Format, Values, Floating-Point".
use Rattle.std.specs.Prelude.{List, [], ◌∷◌}
use Rattle.std.specs.Int.{w32, w64, w128, from_le_bytes}
use Rattle.wasm_types.specs.Signatures.{Signature}
use Rattle.wasm_types.specs.Matching.{heap_top}
use Rattle.wasm_syntax.specs.declared.constants.ConstExpr.{ConstExpr}
use Rattle.wasm_syntax.specs.declared.constants.ConstExpr.TheVariants as c
use Rattle.law_binary.specs.Formats.{Format, Rows, ◌>>=◌, gives, byte, the_byte, raw, u32, i32, i64, by_code, no_table}
use Rattle.law_binary.specs.Types.{heap_type}

abbrev pub const_i32 : Format ConstExpr
const_i32 = do
  z ← i32
  gives (c.I32 z)

abbrev pub const_i64 : Format ConstExpr
const_i64 = do
  z ← i64
  gives (c.I64 z)

-- bits, the least byte first
abbrev pub const_f32 : Format ConstExpr
const_f32 = do
  bytes ← raw 4
  gives (c.F32 (from_le_bytes w32 bytes))

abbrev pub const_f64 : Format ConstExpr
const_f64 = do
  bytes ← raw 8
  gives (c.F64 (from_le_bytes w64 bytes))

abbrev pub const_v128 : Format ConstExpr
const_v128 = do
  _ ← the_byte 0x0c
  bytes ← raw 16
  gives (c.V128 (from_le_bytes w128 bytes))

abbrev pub global_get : Format ConstExpr
global_get = do
  n ← u32
  gives (c.GlobalGet n)

abbrev pub ref_func : Format ConstExpr
ref_func = do
  n ← u32
  gives (c.RefFunc n)

-- the null of a heap type is that of its family
abbrev pub ref_null : List Signature → Format ConstExpr
ref_null types = do
  t ← heap_type types
  gives (c.RefNull (heap_top t))

abbrev pub constants : List Signature → Rows ConstExpr
constants types =
    (0x23, global_get) ∷ (0xd0, ref_null types) ∷ (0xd2, ref_func) ∷ (0x41, const_i32) ∷ (0x42, const_i64)
    ∷ (0x43, const_f32) ∷ (0x44, const_f64) ∷ (0xfd, const_v128) ∷ []

abbrev pub constant : List Signature → Format ConstExpr
constant types = do
  e ← by_code byte no_table (constants types)
  _ ← the_byte 0x0b
  gives e
