-- A list with one value type more in front.
use Rattle.std.specs.Prelude.{ℕ, ◌&&◌, ◌≡◌, ◌+◌, max, refl}
use Rattle.std.proofs.Common.{arith}
use Rattle.wasm_types.specs.Signatures.{Types, end, depth_in, size_in, are_of}
use Rattle.wasm_types.specs.FunctionParts.{with_type, val_is_of}
use Rattle.wasm_types.specs.FunctionRules.{AreSound}
use Rattle.wasm_types.specs.declared.value_types.ValType.{ValType}
use Rattle.wasm_types.specs.declared.value_types.ValType.TheVariants as v

pub depth_more : (t : ValType) (ts : Types) → depth_in (with_type t ts) ≡ max (depth_in (with_type t end)) (depth_in ts)
depth_more (v.Ref r) ts = omega arith
depth_more _ ts = omega arith

pub size_more : (t : ValType) (ts : Types) → size_in (with_type t ts) ≡ size_in (with_type t end) + size_in ts
size_more (v.Ref r) ts = omega arith
size_more _ ts = omega arith

pub are_more : (n : ℕ) (t : ValType) (ts : Types) → are_of n (with_type t ts) ≡ (val_is_of n t && are_of n ts)
are_more n (v.Ref r) ts = refl
are_more n _ ts = refl

pub sound_more : (t : ValType) (ts : Types) → AreSound (with_type t end) → AreSound ts → AreSound (with_type t ts)
sound_more (v.Ref r) ts h hs = (h.0, hs)
sound_more v.I32 ts h hs = hs
sound_more v.I64 ts h hs = hs
sound_more v.F32 ts h hs = hs
sound_more v.F64 ts h hs = hs
sound_more v.V128 ts h hs = hs
