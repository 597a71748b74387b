-- Matching: whether a value of the first type may stand where one of the second is wanted.
-- WebAssembly core specification, "Validation, matching"
use Rattle.std.specs.Prelude.{Bool, true, false, not, ◌&&◌, ◌||◌, List, [], ◌∷◌}
use Rattle.std.specs.List.{list_any}
use Rattle.wasm_types.specs.Signatures.{Signature, chain}
use Rattle.wasm_types.specs.Equality.{same}
use Rattle.wasm_types.specs.FunctionParts.{is_nullable, heap_type}
use Rattle.wasm_types.specs.declared.plain.HeapTopType.{HeapTopType}
use Rattle.wasm_types.specs.declared.plain.HeapTopType.TheVariants as top
use Rattle.wasm_types.specs.declared.value_types.HeapType.{HeapType}
use Rattle.wasm_types.specs.declared.value_types.HeapType.TheVariants as h
use Rattle.wasm_types.specs.declared.value_types.RefType.{RefType}
use Rattle.wasm_types.specs.declared.value_types.ValType.{ValType}
use Rattle.wasm_types.specs.declared.value_types.ValType.TheVariants as v

-- the greatest heap type that a heap type is below
abbrev pub heap_top : HeapType → HeapTopType
heap_top h.NoFunc = top.Func
heap_top (h.ConcreteFunc t) = top.Func
heap_top h.Func = top.Func
heap_top h.NoExtern = top.Extern
heap_top h.Extern = top.Extern
heap_top _ = top.Any

abbrev pub is_concrete : HeapType → Bool
is_concrete (h.ConcreteFunc t) = true
is_concrete _ = false

abbrev pub is_func : HeapTopType → Bool
is_func top.Func = true
is_func _ = false

abbrev pub is_extern : HeapTopType → Bool
is_extern top.Extern = true
is_extern _ = false

abbrev pub is_any : HeapTopType → Bool
is_any top.Any = true
is_any _ = false

-- whether a function type equals a member of a list
abbrev pub has : Signature → List Signature → Bool
has t us = list_any (same t) us

-- a function type matches each member of its chain
-- "Validation, matching, defined types": a type matches itself and what its declared supertypes match
abbrev pub matches : Signature → Signature → Bool
matches t u = has u (chain t)

-- NoFunc is below every concrete type, and these below Func; NoExtern is below Extern; None below I31 below Eq below Any
-- "Validation, matching, heap types"
abbrev pub heap_matches : HeapType → HeapType → Bool
heap_matches h.NoFunc b = is_func (heap_top b)
heap_matches (h.ConcreteFunc t) (h.ConcreteFunc u) = matches t u
heap_matches (h.ConcreteFunc t) h.Func = true
heap_matches h.Func h.Func = true
heap_matches h.NoExtern b = is_extern (heap_top b)
heap_matches h.Extern h.Extern = true
heap_matches h.None b = is_any (heap_top b)
heap_matches h.I31 h.I31 = true
heap_matches h.I31 h.Eq = true
heap_matches h.I31 h.Any = true
heap_matches h.Eq h.Eq = true
heap_matches h.Eq h.Any = true
heap_matches h.Any h.Any = true
heap_matches _ _ = false

-- the heap types match, and the first is non-null or the second nullable
-- "Validation, matching, reference types"
abbrev pub ref_matches : RefType → RefType → Bool
ref_matches r s = heap_matches (heap_type r) (heap_type s) && (not (is_nullable r) || is_nullable s)

-- "Validation, matching, value types"
abbrev pub val_matches : ValType → ValType → Bool
val_matches v.I32 v.I32 = true
val_matches v.I64 v.I64 = true
val_matches v.F32 v.F32 = true
val_matches v.F64 v.F64 = true
val_matches v.V128 v.V128 = true
val_matches (v.Ref r) (v.Ref s) = ref_matches r s
val_matches _ _ = false

-- as many types, each matching the other list's at its place
-- "Validation, matching, result types"
abbrev pub all_match : List ValType → List ValType → Bool
all_match [] [] = true
all_match (a ∷ as') (b ∷ bs) = val_matches a b && all_match as' bs
all_match _ _ = false
