-- Block types by what they say: where the first type is that gives their results. This project's own
use Rattle.std.specs.Prelude.{◌≡◌, ℕ, List, [], ◌∷◌, true, false, Option, Some, position, slice_get, unwrap_or}
use Rattle.wasm_types.specs.Signatures.{Signature, signature, root, end}
use Rattle.wasm_types.specs.FunctionParts.{ref_type, types_of}
use Rattle.wasm_types.specs.declared.plain.Finality.TheVariants.{Final}
use Rattle.wasm_types.specs.declared.value_types.HeapType.TheVariants as h
use Rattle.wasm_types.specs.declared.value_types.HeapType.{HeapType}
use Rattle.wasm_types.specs.declared.value_types.ValType.{ValType}
use Rattle.wasm_types.specs.declared.value_types.ValType.TheVariants as v
use Rattle.binary_index.specs.Keys.{IsKeyOf, is_named}
use Rattle.binary_code.specs.BlockTypes.{gives}

abbrev pub nullable : HeapType → List ValType
nullable t = v.Ref (ref_type true t) ∷ []

-- those that name no function type, but for references that are not nullable
abbrev pub kinds : List (List ValType)
kinds =
    [] ∷ (v.I32 ∷ []) ∷ (v.I64 ∷ []) ∷ (v.F32 ∷ []) ∷ (v.F64 ∷ []) ∷ (v.V128 ∷ [])
    ∷ nullable h.NoFunc ∷ nullable h.Func ∷ nullable h.NoExtern ∷ nullable h.Extern
    ∷ nullable h.None ∷ nullable h.I31 ∷ nullable h.Eq ∷ nullable h.Any ∷ []

-- the results of the block type of this number
abbrev pub results_of : ℕ → List ValType
results_of k = unwrap_or (slice_get kinds k) []

-- what is known of the types: each number that is kept is that of the first type with these results
abbrev pub AreKnown : List Signature → List (Option ℕ) → Type 0
AreKnown types slots = (k n : ℕ) → slice_get slots k ≡ Some (Some n) → position (gives (results_of k)) types ≡ Some n

-- the type of a block, but for its engine, and a key that says what it says
abbrev pub block_of : List ValType → Signature
block_of rs = signature 0 Final root end (types_of rs)

abbrev pub IsBlockKey : List Signature → List ValType → List ℕ → Type 0
IsBlockKey ts rs key = IsKeyOf ts (block_of rs) key

-- no result, or one that names no function type
abbrev pub IsPlainBlock : List ValType → Type 0
IsPlainBlock [] = Unit {0}
IsPlainBlock (t ∷ []) = is_named t ≡ false
IsPlainBlock (t ∷ u ∷ ts) = ⊥
