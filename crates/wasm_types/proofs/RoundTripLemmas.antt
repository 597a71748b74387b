-- The lists of a function type's value are the lists that it was made of, and are compared alike.
use Rattle.std.specs.Prelude.{eqb, false, ◌&&◌, ◌≡◌, ◌≤◌, ◌+◌, ◌*◌, refl, List, [], ◌∷◌, Option, Some, None}
use Rattle.std.proofs.Common.{arith, ap, sym, ◌∙◌, true≢false, true}
use Rattle.std.specs.Cmp.Lexicographic.{pointwise}
use Rattle.std.specs.Option.{option_eq}
use Rattle.std.specs.Bool.{beq}
use denote.Param.Weighed.{most}
use Rattle.wasm_types.specs.Falls.{types_fall}
use Rattle.wasm_types.specs.Signatures.{depth_in, Signature, Types, end}
use Rattle.wasm_types.specs.Equality.{same, same_types, same_heap, same_above, of_finality}
use Rattle.wasm_types.specs.FunctionParts.{val_types, types_of, with_type, heap_of, heap_type_of, option_of, supertype_of}
use Rattle.wasm_types.specs.declared.value_types.FuncType.TheDeep.{deep-ValType, size-ValType}
use Rattle.wasm_types.specs.declared.value_types.HeapType.{HeapType}
use Rattle.wasm_types.specs.declared.value_types.HeapType.TheVariants as h
use Rattle.wasm_types.specs.declared.value_types.ValType.{ValType}
use Rattle.wasm_types.specs.declared.value_types.ValType.TheVariants as v
use Rattle.wasm_types.specs.contracts.value_types.ValTypePartialEq.TheImpl.{ghosts as val_eq}
use Rattle.wasm_types.specs.Laws.{IsExact, HasItsParts}
use Rattle.wasm_types.specs.EqualityLaws.{both, heap_is, heap_refl}
use Rattle.std.specs.Cmp.{booleans_Decides}
use Rattle.std.specs.Cmp.Derive.{both_true}
use Rattle.wasm_types.specs.declared.value_types.RefType.{RefType}
use Rattle.wasm_types.specs.contracts.value_types.RefTypePartialEq.TheImpl.{ghosts as ref_eq}
use Rattle.wasm_types.specs.contracts.value_types.HeapTypePartialEq.TheImpl.{ghosts as heap_eq}
use Rattle.wasm_types.specs.contracts.plain.FinalityPartialEq.TheImpl.{ghosts as finality_eq}
use Rattle.wasm_types.specs.declared.plain.Finality.{Finality}
use Rattle.wasm_types.specs.declared.plain.Finality.TheVariants.{Final, NonFinal}

most_sizes : (ts : List ValType) → most size-ValType ts ≤ 5 * most deep-ValType ts + 3
most_sizes [] = omega arith
most_sizes (t ∷ ts) = omega (arith, most_sizes ts)

pub types_size : (ts : List ValType) → most size-ValType ts ≤ 5 * depth_in (types_of ts) + 8
types_size ts = omega (arith, most_sizes ts, types_fall ts)

heap_round : (t : HeapType) → heap_type_of (heap_of t) ≡ t
heap_round (h.ConcreteFunc t) = refl
heap_round _ = refl

type_round : (t : ValType) (ts : Types) → val_types (with_type t ts) ≡ t ∷ val_types ts
type_round (v.Ref r) ts = λ i. v.Ref (record { nullable = r.nullable; heap_type = heap_round r.heap_type i }) ∷ val_types ts
type_round _ ts = refl

pub val_types_of : (ts : List ValType) → val_types (types_of ts) ≡ ts
val_types_of [] = refl
val_types_of (t ∷ ts) = type_round t (types_of ts) ∙ ap (λ us. t ∷ us) (val_types_of ts)

pub option_of_supertype : (s : Option Signature) → option_of (supertype_of s) ≡ s
option_of_supertype None = refl
option_of_supertype (Some t) = refl

pub heaps_alike : (t u : HeapType) → heap_eq.eq t u ≡ same_heap (heap_of t) (heap_of u)
heaps_alike (h.ConcreteFunc t) (h.ConcreteFunc u) = refl
heaps_alike (h.ConcreteFunc t) _ = refl
heaps_alike h.NoFunc h.NoFunc = refl
heaps_alike h.NoFunc _ = refl
heaps_alike h.Func h.Func = refl
heaps_alike h.Func _ = refl
heaps_alike h.NoExtern h.NoExtern = refl
heaps_alike h.NoExtern _ = refl
heaps_alike h.Extern h.Extern = refl
heaps_alike h.Extern _ = refl
heaps_alike h.None h.None = refl
heaps_alike h.None _ = refl
heaps_alike h.I31 h.I31 = refl
heaps_alike h.I31 _ = refl
heaps_alike h.Eq h.Eq = refl
heaps_alike h.Eq _ = refl
heaps_alike h.Any h.Any = refl
heaps_alike h.Any _ = refl

pub type_alike : (t u : ValType) (ts us : Types) → (val_eq.eq t u && same_types ts us) ≡ same_types (with_type t ts) (with_type u us)
type_alike (v.Ref r) (v.Ref s) ts us = ap (λ b. (beq r.nullable s.nullable && b) && same_types ts us) (heaps_alike r.heap_type s.heap_type)
type_alike (v.Ref r) _ ts us = refl
type_alike v.I32 v.I32 ts us = refl
type_alike v.I32 _ ts us = refl
type_alike v.I64 v.I64 ts us = refl
type_alike v.I64 _ ts us = refl
type_alike v.F32 v.F32 ts us = refl
type_alike v.F32 _ ts us = refl
type_alike v.F64 v.F64 ts us = refl
type_alike v.F64 _ ts us = refl
type_alike v.V128 v.V128 ts us = refl
type_alike v.V128 _ ts us = refl

left_over : (t : ValType) (ts : Types) → false ≡ same_types (with_type t ts) end
left_over (v.Ref r) ts = refl
left_over _ ts = refl

left_out : (t : ValType) (ts : Types) → false ≡ same_types end (with_type t ts)
left_out (v.Ref r) ts = refl
left_out _ ts = refl

pub types_alike : (ts us : List ValType) → pointwise val_eq.eq ts us ≡ same_types (types_of ts) (types_of us)
types_alike [] [] = refl
types_alike (t ∷ ts) [] = left_over t (types_of ts)
types_alike [] (u ∷ us) = left_out u (types_of us)
types_alike (t ∷ ts) (u ∷ us) = ap (λ b. val_eq.eq t u && b) (types_alike ts us) ∙ type_alike t u (types_of ts) (types_of us)

pub finality_alike : (f g : Finality) → finality_eq.eq f g ≡ eqb (of_finality f) (of_finality g)
finality_alike Final Final = refl
finality_alike Final NonFinal = refl
finality_alike NonFinal Final = refl
finality_alike NonFinal NonFinal = refl

pub above_alike : (s t : Option Signature) → option_eq same s t ≡ same_above (supertype_of s) (supertype_of t)
above_alike None None = refl
above_alike None (Some u) = refl
above_alike (Some t) None = refl
above_alike (Some t) (Some u) = refl

pub heap_exact : IsExact heap_eq.eq
heap_exact t u = (
  λ p. sym (heap_round t) ∙ ap heap_type_of (heap_is (heap_of t) (heap_of u) (sym (heaps_alike t u) ∙ p)) ∙ heap_round u,
  λ p. heaps_alike t u ∙ ap (λ x. same_heap (heap_of t) (heap_of x)) (sym p) ∙ heap_refl (heap_of t),
)

ref_is : (r s : RefType) → r.nullable ≡ s.nullable → r.heap_type ≡ s.heap_type → r ≡ s
ref_is r s p q = λ i. record { nullable = p i; heap_type = q i }

pub ref_exact : IsExact ref_eq.eq
ref_exact r s = (
  λ p. let q : (beq r.nullable s.nullable ≡ true) × (heap_eq.eq r.heap_type s.heap_type ≡ true) = both _ _ p in
      ref_is r s ((booleans_Decides r.nullable s.nullable).0 q.0) ((heap_exact r.heap_type s.heap_type).0 q.1),
  λ p. both_true ((booleans_Decides r.nullable s.nullable).1 (ap (λ x. x.nullable) p)) ((heap_exact r.heap_type s.heap_type).1 (ap (λ x. x.heap_type) p)),
)

val_is : (t u : ValType) → val_eq.eq t u ≡ true → t ≡ u
val_is (v.Ref r) (v.Ref s) p = ap v.Ref ((ref_exact r s).0 p)
val_is (v.Ref r) _ p = absurd (true≢false (sym p))
val_is v.I32 v.I32 p = refl
val_is v.I32 _ p = absurd (true≢false (sym p))
val_is v.I64 v.I64 p = refl
val_is v.I64 _ p = absurd (true≢false (sym p))
val_is v.F32 v.F32 p = refl
val_is v.F32 _ p = absurd (true≢false (sym p))
val_is v.F64 v.F64 p = refl
val_is v.F64 _ p = absurd (true≢false (sym p))
val_is v.V128 v.V128 p = refl
val_is v.V128 _ p = absurd (true≢false (sym p))

val_own : (t : ValType) → val_eq.eq t t ≡ true
val_own (v.Ref r) = (ref_exact r r).1 refl
val_own _ = refl

pub val_exact : IsExact val_eq.eq
val_exact t u = (val_is t u, λ p. ap (val_eq.eq t) (sym p) ∙ val_own t)

pub has_its_parts : HasItsParts
has_its_parts p = λ i. record { engine = p.engine; finality = p.finality; supertype = option_of_supertype p.supertype i; params = val_types_of p.params i; results = val_types_of p.results i }
