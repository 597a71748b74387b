-- Matching is reflexive and transitive.
use Rattle.std.specs.Prelude.{Bool, true, false, not, ◌||◌, ◌≡◌, refl}
use Rattle.std.proofs.Common.{ap, sym, subst, true≢false}
use Rattle.std.specs.Cmp.Derive.{both_true}
use Rattle.wasm_types.specs.Signatures.{Signature, Supertype, chain, chain_above}
use Rattle.wasm_types.specs.Equality.{same}
use Rattle.wasm_types.specs.Signatures as sig
use Rattle.wasm_types.specs.EqualityLaws.{same_is, same_refl, both}
use Rattle.wasm_types.specs.Matching.{has, matches, heap_top, heap_matches, ref_matches, val_matches, is_func, is_extern, is_any}
use Rattle.wasm_types.specs.Laws.{IsReflexive, IsTransitive}
use Rattle.wasm_types.specs.declared.plain.HeapTopType.{HeapTopType}
use Rattle.wasm_types.specs.declared.plain.HeapTopType.TheVariants as top
use Rattle.wasm_types.specs.declared.value_types.HeapType.{HeapType}
use Rattle.wasm_types.specs.declared.value_types.HeapType.TheVariants as h
use Rattle.wasm_types.specs.declared.value_types.ValType.TheVariants as v

pub no : {A : Type 0} → false ≡ true → A
no p = absurd (true≢false (sym p))

first : (a b : Bool) → a ≡ true → (a || b) ≡ true
first a b p = ap (λ x. x || b) p

second : (a b : Bool) → b ≡ true → (a || b) ≡ true
second true b p = refl
second false b p = p

pub either : {P : Type 0} (a b : Bool) → (a || b) ≡ true → (a ≡ true → P) → (b ≡ true → P) → P
either true b p f g = f refl
either false b p f g = g p

pub matches_reflexive : IsReflexive matches
matches_reflexive (sig.signature e f s ps rs) = first _ _ (same_refl (sig.signature e f s ps rs))

mutual
  matches_on : (t u w : Signature) → has u (chain t) ≡ true → has w (chain u) ≡ true → has w (chain t) ≡ true
  matches_on (sig.signature e f s ps rs) u w p q =
      either (same u (sig.signature e f s ps rs)) (has u (chain_above s)) p
      (λ own. subst (λ x. has w (chain x) ≡ true) (same_is u (sig.signature e f s ps rs) own) q)
      (λ up. second _ _ (above_on s u w up q))

  above_on : (s : Supertype) (u w : Signature) → has u (chain_above s) ≡ true → has w (chain u) ≡ true → has w (chain_above s) ≡ true
  above_on sig.root u w p q = no p
  above_on (sig.below t) u w p q = matches_on t u w p q

pub matches_transitive : IsTransitive matches
matches_transitive = matches_on

pub heap_reflexive : IsReflexive heap_matches
heap_reflexive (h.ConcreteFunc t) = matches_reflexive t
heap_reflexive _ = refl

func_top : (t : HeapTopType) → is_func t ≡ true → top.Func ≡ t
func_top top.Func p = refl
func_top _ p = no p

extern_top : (t : HeapTopType) → is_extern t ≡ true → top.Extern ≡ t
extern_top top.Extern p = refl
extern_top _ p = no p

any_top : (t : HeapTopType) → is_any t ≡ true → top.Any ≡ t
any_top top.Any p = refl
any_top _ p = no p

pub top_kept : (a b : HeapType) → heap_matches a b ≡ true → heap_top a ≡ heap_top b
top_kept h.NoFunc b p = func_top (heap_top b) p
top_kept h.NoExtern b p = extern_top (heap_top b) p
top_kept h.None b p = any_top (heap_top b) p
top_kept (h.ConcreteFunc t) (h.ConcreteFunc u) p = refl
top_kept (h.ConcreteFunc t) h.Func p = refl
top_kept (h.ConcreteFunc t) _ p = no p
top_kept h.Func h.Func p = refl
top_kept h.Func _ p = no p
top_kept h.Extern h.Extern p = refl
top_kept h.Extern _ p = no p
top_kept h.I31 h.I31 p = refl
top_kept h.I31 h.Eq p = refl
top_kept h.I31 h.Any p = refl
top_kept h.I31 _ p = no p
top_kept h.Eq h.Eq p = refl
top_kept h.Eq h.Any p = refl
top_kept h.Eq _ p = no p
top_kept h.Any h.Any p = refl
top_kept h.Any _ p = no p

pub heap_transitive : IsTransitive heap_matches
heap_transitive h.NoFunc b c p q = subst (λ t. is_func t ≡ true) (top_kept b c q) p
heap_transitive h.NoExtern b c p q = subst (λ t. is_extern t ≡ true) (top_kept b c q) p
heap_transitive h.None b c p q = subst (λ t. is_any t ≡ true) (top_kept b c q) p
heap_transitive (h.ConcreteFunc t) (h.ConcreteFunc u) (h.ConcreteFunc w) p q = matches_transitive t u w p q
heap_transitive (h.ConcreteFunc t) (h.ConcreteFunc u) h.Func p q = refl
heap_transitive (h.ConcreteFunc t) (h.ConcreteFunc u) _ p q = no q
heap_transitive (h.ConcreteFunc t) h.Func h.Func p q = refl
heap_transitive (h.ConcreteFunc t) h.Func _ p q = no q
heap_transitive (h.ConcreteFunc t) _ c p q = no p
heap_transitive h.Func h.Func c p q = q
heap_transitive h.Func _ c p q = no p
heap_transitive h.Extern h.Extern c p q = q
heap_transitive h.Extern _ c p q = no p
heap_transitive h.I31 h.I31 c p q = q
heap_transitive h.I31 h.Eq h.Eq p q = refl
heap_transitive h.I31 h.Eq h.Any p q = refl
heap_transitive h.I31 h.Eq _ p q = no q
heap_transitive h.I31 h.Any h.Any p q = refl
heap_transitive h.I31 h.Any _ p q = no q
heap_transitive h.I31 _ c p q = no p
heap_transitive h.Eq h.Eq c p q = q
heap_transitive h.Eq h.Any h.Any p q = refl
heap_transitive h.Eq h.Any _ p q = no q
heap_transitive h.Eq _ c p q = no p
heap_transitive h.Any h.Any c p q = q
heap_transitive h.Any _ c p q = no p

null_on : (a b c : Bool) → (not a || b) ≡ true → (not b || c) ≡ true → (not a || c) ≡ true
null_on false b c p q = refl
null_on true true c p q = q
null_on true false c p q = no p

null_own : (a : Bool) → (not a || a) ≡ true
null_own true = refl
null_own false = refl

pub ref_reflexive : IsReflexive ref_matches
ref_reflexive r = both_true (heap_reflexive r.heap_type) (null_own r.nullable)

pub ref_transitive : IsTransitive ref_matches
ref_transitive a b c p q =
    let x : (heap_matches a.heap_type b.heap_type ≡ true) × ((not a.nullable || b.nullable) ≡ true) = both _ _ p in
    let y : (heap_matches b.heap_type c.heap_type ≡ true) × ((not b.nullable || c.nullable) ≡ true) = both _ _ q in
    both_true (heap_transitive a.heap_type b.heap_type c.heap_type x.0 y.0) (null_on a.nullable b.nullable c.nullable x.1 y.1)

pub val_reflexive : IsReflexive val_matches
val_reflexive (v.Ref r) = ref_reflexive r
val_reflexive _ = refl

pub val_transitive : IsTransitive val_matches
val_transitive v.I32 v.I32 c p q = q
val_transitive v.I32 _ c p q = no p
val_transitive v.I64 v.I64 c p q = q
val_transitive v.I64 _ c p q = no p
val_transitive v.F32 v.F32 c p q = q
val_transitive v.F32 _ c p q = no p
val_transitive v.F64 v.F64 c p q = q
val_transitive v.F64 _ c p q = no p
val_transitive v.V128 v.V128 c p q = q
val_transitive v.V128 _ c p q = no p
val_transitive (v.Ref a) (v.Ref b) (v.Ref c) p q = ref_transitive a b c p q
val_transitive (v.Ref a) (v.Ref b) _ p q = no q
val_transitive (v.Ref a) _ c p q = no p
