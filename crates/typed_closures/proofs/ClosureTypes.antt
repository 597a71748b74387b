-- At most six types in which no function type is make a function type with at most six others.
use Rattle.std.proofs.Common.{ap, ◌∙◌, arith, inl, inr, subst}
use Rattle.std.proofs.lemmas.Bool.{and_parts, and_from, false≢true, eq-eqb, le-ltb, leb-true}
use Rattle.std.specs.Prelude.{ℕ, suc, max, ◌+◌, nat_le, ◌≡◌, ◌⊎◌, refl, Bool, true, false, not, ◌&&◌, ◌||◌, ltb, eqb, if◌then◌else◌, List, [], ◌∷◌, length, Option, Some, None, Result, Ok, Err}
use Rattle.wasm_types.specs.FunctionParts.{parts, types_of, heap_of, heap_type}
use Rattle.wasm_types.specs.FunctionRules.{fault, is_too_large, Makes, IsMade}
use Rattle.wasm_types.specs.Matching.{is_concrete}
use Rattle.wasm_types.specs.Signatures.{Signature, are_of, is_of, is_heap_of, depth, depth_in, heap_depth, size, size_in, heap_size}
use Rattle.wasm_types.specs.declared.faults.TypeFault.{TypeFault}
use Rattle.wasm_types.specs.declared.faults.TypeFault.TheVariants.{WrongEngine, TypeDepth, OutOfMemory}
use Rattle.wasm_types.specs.declared.plain.Finality.TheVariants.{Final}
use Rattle.wasm_types.specs.declared.value_types.HeapType.{HeapType}
use Rattle.wasm_types.specs.declared.value_types.HeapType.TheVariants as h
use Rattle.wasm_types.specs.declared.value_types.ValType.{ValType}
use Rattle.wasm_types.specs.declared.value_types.ValType.TheVariants as t
use Rattle.typed_closures.specs.ClosureTypes.{closure_type}
use Rattle.typed_values.specs.StaticTypes.{are_plain}

-- a heap type that is no function type: of each engine, without depth and without size
heap_of_each : (n : ℕ) (a : HeapType) → not (is_concrete a) ≡ true → is_heap_of n (heap_of a) ≡ true
heap_of_each n h.NoFunc p = refl
heap_of_each n (h.ConcreteFunc f) p = absurd (false≢true p)
heap_of_each n h.Func p = refl
heap_of_each n h.NoExtern p = refl
heap_of_each n h.Extern p = refl
heap_of_each n h.None p = refl
heap_of_each n h.I31 p = refl
heap_of_each n h.Eq p = refl
heap_of_each n h.Any p = refl

flat_heap : (a : HeapType) → not (is_concrete a) ≡ true → heap_depth (heap_of a) ≡ 0
flat_heap h.NoFunc p = refl
flat_heap (h.ConcreteFunc f) p = absurd (false≢true p)
flat_heap h.Func p = refl
flat_heap h.NoExtern p = refl
flat_heap h.Extern p = refl
flat_heap h.None p = refl
flat_heap h.I31 p = refl
flat_heap h.Eq p = refl
flat_heap h.Any p = refl

small_heap : (a : HeapType) → not (is_concrete a) ≡ true → heap_size (heap_of a) ≡ 0
small_heap h.NoFunc p = refl
small_heap (h.ConcreteFunc f) p = absurd (false≢true p)
small_heap h.Func p = refl
small_heap h.NoExtern p = refl
small_heap h.Extern p = refl
small_heap h.None p = refl
small_heap h.I31 p = refl
small_heap h.Eq p = refl
small_heap h.Any p = refl

-- so of lists of types
types_of_each : (n : ℕ) (tys : List ValType) → are_plain tys ≡ true → are_of n (types_of tys) ≡ true
types_of_each n [] p = refl
types_of_each n (t.I32 ∷ tys) p = types_of_each n tys p
types_of_each n (t.I64 ∷ tys) p = types_of_each n tys p
types_of_each n (t.F32 ∷ tys) p = types_of_each n tys p
types_of_each n (t.F64 ∷ tys) p = types_of_each n tys p
types_of_each n (t.V128 ∷ tys) p = types_of_each n tys p
types_of_each n (t.Ref r ∷ tys) p =
    let x = and_parts (not (is_concrete (heap_type r))) (are_plain tys) p in
    and_from (is_heap_of n (heap_of (heap_type r))) (are_of n (types_of tys)) (heap_of_each n (heap_type r) x.0)
    (types_of_each n tys x.1)

flat_types : (tys : List ValType) → are_plain tys ≡ true → depth_in (types_of tys) ≡ 0
flat_types [] p = refl
flat_types (t.I32 ∷ tys) p = flat_types tys p
flat_types (t.I64 ∷ tys) p = flat_types tys p
flat_types (t.F32 ∷ tys) p = flat_types tys p
flat_types (t.F64 ∷ tys) p = flat_types tys p
flat_types (t.V128 ∷ tys) p = flat_types tys p
flat_types (t.Ref r ∷ tys) p =
    let x = and_parts (not (is_concrete (heap_type r))) (are_plain tys) p in
    ap (λ (k : ℕ). max k (depth_in (types_of tys))) (flat_heap (heap_type r) x.0)
    ∙ ap (λ (k : ℕ). max 0 k) (flat_types tys x.1)

one_more : (k n : ℕ) → k ≡ n → 1 + k ≡ suc n
one_more k n e = omega (arith, e)

two_more : (j k n : ℕ) → j ≡ 0 → k ≡ n → 1 + (j + k) ≡ suc n
two_more j k n none e = omega (arith, none, e)

small_types : (tys : List ValType) → are_plain tys ≡ true → size_in (types_of tys) ≡ length tys
small_types [] p = refl
small_types (t.I32 ∷ tys) p = one_more _ _ (small_types tys p)
small_types (t.I64 ∷ tys) p = one_more _ _ (small_types tys p)
small_types (t.F32 ∷ tys) p = one_more _ _ (small_types tys p)
small_types (t.F64 ∷ tys) p = one_more _ _ (small_types tys p)
small_types (t.V128 ∷ tys) p = one_more _ _ (small_types tys p)
small_types (t.Ref r ∷ tys) p =
    let x = and_parts (not (is_concrete (heap_type r))) (are_plain tys) p in
    two_more (heap_size (heap_of (heap_type r))) (size_in (types_of tys)) (length tys) (small_heap (heap_type r) x.0)
    (small_types tys x.1)

module _ (n : ℕ) (taken given : List ValType) (p : are_plain taken ≡ true) (q : are_plain given ≡ true) where
  -- the type is of its engine
  pub closure_is_of : is_of n (closure_type n taken given) ≡ true
  closure_is_of =
      and_from (eqb n n) (are_of n (types_of taken) && are_of n (types_of given)) (eq-eqb n n refl)
      (and_from (are_of n (types_of taken)) (are_of n (types_of given)) (types_of_each n taken p)
      (types_of_each n given q))

  module _ (few : nat_le (length taken) 6 ≡ true) (some : nat_le (length given) 6 ≡ true) where
    closure_depth : depth (closure_type n taken given) ≡ 1
    closure_depth =
        ap (λ (k : ℕ). 1 + max 0 (max k (depth_in (types_of given)))) (flat_types taken p)
        ∙ ap (λ (k : ℕ). 1 + max 0 (max 0 k)) (flat_types given q)

    closure_size : size (closure_type n taken given) ≡ 1 + (0 + (length taken + length given))
    closure_size =
        ap (λ (k : ℕ). 1 + (0 + (k + size_in (types_of given)))) (small_types taken p)
        ∙ ap (λ (k : ℕ). 1 + (0 + (length taken + k))) (small_types given q)

    small : is_too_large (closure_type n taken given) ≡ false
    small =
        ap (λ (k : ℕ). ltb 32 k || ltb 65536 (size (closure_type n taken given))) closure_depth
        ∙ ap (λ (k : ℕ). ltb 65536 k) closure_size
        ∙ le-ltb 65536 (1 + (0 + (length taken + length given)))
        (omega (arith, leb-true (length taken) 6 few, leb-true (length given) 6 some))

    no_fault : fault (parts n Final None taken given) ≡ None
    no_fault =
        ap (λ (b : Bool). if not b then Some WrongEngine
        else if is_too_large (closure_type n taken given) then Some TypeDepth else None) closure_is_of
        ∙ ap (λ (b : Bool). if b then Some TypeDepth else None) small

    made_by : (f : Option TypeFault) (r : Result Signature TypeFault) → f ≡ None →
        Makes f (closure_type n taken given) r → (r ≡ Ok (closure_type n taken given)) ⊎ (r ≡ Err OutOfMemory)
    made_by f r e made = subst (λ (o : Option TypeFault). Makes o (closure_type n taken given) r) e made

    ok_is : (r : Result Signature TypeFault) (ty : Signature) → r ≡ Ok ty →
        (r ≡ Ok (closure_type n taken given)) ⊎ (r ≡ Err OutOfMemory) → ty ≡ closure_type n taken given
    ok_is r ty is (inl e) = cc
    ok_is r ty is (inr e) = absurd cc

    err_is : (r : Result Signature TypeFault) (why : TypeFault) → r ≡ Err why →
        (r ≡ Ok (closure_type n taken given)) ⊎ (r ≡ Err OutOfMemory) → why ≡ OutOfMemory
    err_is r why is (inl e) = absurd cc
    err_is r why is (inr e) = cc

    -- so the constructor makes it, or refuses it for want of memory
    pub closure_is : (ty : Signature) → IsMade (parts n Final None taken given) (Ok ty) → ty ≡ closure_type n taken given
    closure_is ty made =
        ok_is (Ok ty) ty refl (made_by (fault (parts n Final None taken given)) (Ok ty) no_fault made)

    pub closure_refused : (why : TypeFault) → IsMade (parts n Final None taken given) (Err why) → why ≡ OutOfMemory
    closure_refused why made =
        err_is (Err why) why refl (made_by (fault (parts n Final None taken given)) (Err why) no_fault made)
