-- What a sound type has taken.
use Rattle.std.specs.Prelude.{ℕ, eqb, Bool, true, false, not, ◌&&◌, ◌||◌, ◌≡◌, ◌≤◌, ◌+◌, min, ltb, refl, List, Option, Some, None, is_some, if◌then◌else◌}
use Rattle.std.proofs.Common.{arith, ap, sym, ◌∙◌, subst, true≢false}
use Rattle.std.proofs.lemmas.Bool.{eqb-true, eq-eqb, ltb-false, le-ltb}
use Rattle.wasm_types.specs.Signatures.{Signature, Supertype, Types, Heap, is_of, are_of, is_heap_of, is_above_of, depth, size, size_above, size_in}
use Rattle.wasm_types.specs.Signatures as sig
use Rattle.wasm_types.specs.FunctionParts.{parts, from_parts, val_types, types_of, with_type, heap_of, heap_type_of, option_of, supertype_of, number_type, engine, view_of}
use Rattle.wasm_types.specs.Laws.{IsOfItsParts}
use Rattle.wasm_types.proofs.RoundTripLemmas.{option_of_supertype, val_types_of}
use Rattle.wasm_types.specs.FunctionRules.{IsSound, IsAboveSound, AreSound, IsKept, IsTested, fault, fits_below, is_too_large}
use Rattle.wasm_types.specs.declared.value_types.FuncType.TheInside.{Inside}
use Rattle.wasm_types.specs.declared.value_types.ValType.{ValType}
use Rattle.wasm_types.specs.declared.plain.Finality.{Finality}
use Rattle.wasm_types.specs.declared.faults.TypeFault.TheVariants.{WrongEngine, BadSupertype, TypeDepth}

some_is_not_none : {A : Type 0} {P : Type 0} (x : A) → Some x ≡ None → P
some_is_not_none x p = absurd (true≢false (ap is_some p))

pub taken : (a b c : Bool) → (if not a then Some WrongEngine else if not b then Some BadSupertype else if c then Some TypeDepth else None) ≡ None → (a ≡ true) × (b ≡ true) × (c ≡ false)
taken false b c p = some_is_not_none _ p
taken true false c p = some_is_not_none _ p
taken true true true p = some_is_not_none _ p
taken true true false p = (refl, refl, refl)

heap_back : (h : Heap) → heap_of (heap_type_of h) ≡ h
heap_back (sig.concrete t) = refl
heap_back (sig.abstract sig.no_func) = refl
heap_back (sig.abstract sig.func) = refl
heap_back (sig.abstract sig.no_extern) = refl
heap_back (sig.abstract sig.extern) = refl
heap_back (sig.abstract sig.none) = refl
heap_back (sig.abstract sig.i31) = refl
heap_back (sig.abstract sig.eq) = refl
heap_back (sig.abstract sig.any) = refl

number_back : (n : sig.Number) (ts : Types) → with_type (number_type n) ts ≡ sig.number n ts
number_back sig.i32 ts = refl
number_back sig.i64 ts = refl
number_back sig.f32 ts = refl
number_back sig.f64 ts = refl
number_back sig.v128 ts = refl

pub types_back : (ts : Types) → types_of (val_types ts) ≡ ts
types_back sig.end = refl
types_back (sig.number n ts) = number_back n _ ∙ ap (sig.number n) (types_back ts)
types_back (sig.ref b h ts) = λ i. sig.ref b (heap_back h i) (types_back ts i)

above_back : (s : Supertype) → supertype_of (option_of s) ≡ s
above_back sig.root = refl
above_back (sig.below t) = refl

pub parts_back : (e : ℕ) (f : Finality) (s : Supertype) (ps rs : Types) → from_parts (parts e f (option_of s) (val_types ps) (val_types rs)) ≡ sig.signature e f s ps rs
parts_back e f s ps rs = λ i. sig.signature e f (above_back s i) (types_back ps i) (types_back rs i)

pub own_engine : (t : Signature) → IsSound t → is_of (engine t) t ≡ true
own_engine (sig.signature e f s ps rs) h =
    subst (λ t. is_of e t ≡ true) (parts_back e f s ps rs) (taken _ (fits_below (option_of s) (val_types ps) (val_types rs)) _ h.0).0

other_engine : (n : ℕ) (t : Signature) → eqb (engine t) n ≡ false → is_of n t ≡ false
other_engine n (sig.signature e f s ps rs) p = ap (λ b. b && (is_above_of n s && (are_of n ps && are_of n rs))) p

by_test : (b : Bool) (n : ℕ) (t : Signature) → IsSound t → eqb (engine t) n ≡ b → eqb (engine t) n ≡ is_of n t
by_test true n t h p = p ∙ sym (own_engine t h) ∙ ap (λ m. is_of m t) (eqb-true _ _ p)
by_test false n t h p = p ∙ sym (other_engine n t p)

pub is_of_by_engine : (n : ℕ) (t : Signature) → IsSound t → is_of n t ≡ eqb (engine t) n
is_of_by_engine n t h = sym (by_test (eqb (engine t) n) n t h refl)

neither : (a b : Bool) → (a || b) ≡ false → (a ≡ false) × (b ≡ false)
neither false b p = (refl, p)
neither true b p = absurd (true≢false p)

own_limits : (t : Signature) → IsSound t → is_too_large t ≡ false
own_limits (sig.signature e f s ps rs) h =
    subst (λ t. is_too_large t ≡ false) (parts_back e f s ps rs)
    (taken (is_of e (from_parts (parts e f (option_of s) (val_types ps) (val_types rs)))) (fits_below (option_of s) (val_types ps) (val_types rs)) _ h.0).2

pub depth_fits : (t : Signature) → IsSound t → depth t ≤ 32
depth_fits t h = omega (arith, ltb-false 32 (depth t) (neither (ltb 32 (depth t)) _ (own_limits t h)).0)

pub size_fits : (t : Signature) → IsSound t → size t ≤ 65536
size_fits t h = omega (arith, ltb-false 65536 (size t) (neither (ltb 32 (depth t)) _ (own_limits t h)).1)

pub size_kept : (a : Inside) → IsKept a → a.parts.value.size ≤ 65536
size_kept a h = rw h.size_is (size_fits (view_of a) h.sound)

pub depth_kept : (a : Inside) → IsKept a → a.parts.value.depth ≤ 32
depth_kept a h = rw h.depth_is (depth_fits (view_of a) h.sound)

-- parts that break no rule make a sound type
pub sound_made : (e : ℕ) (f : Finality) (s : Option Signature) (ps rs : List ValType) →
    fault (parts e f s ps rs) ≡ None → IsAboveSound (supertype_of s) → AreSound (types_of ps) → AreSound (types_of rs) → IsSound (from_parts (parts e f s ps rs))
sound_made e f s ps rs h a p r =
    (rw (option_of_supertype s, val_types_of ps, val_types_of rs) h, a, p, r)

pub eqb_own : (e : ℕ) → eqb e e ≡ true
eqb_own e = eq-eqb e e refl

chosen : (a b c : Bool) → a ≡ true → b ≡ true → c ≡ false → (if not a then Some WrongEngine else if not b then Some BadSupertype else if c then Some TypeDepth else None) ≡ None
chosen a b c p q r = rw (p, q, r) refl

pub is_tested : (e : ℕ) (f : Finality) (s : Option Signature) (ps rs : List ValType) (d n a p r : ℕ) →
    is_of e (from_parts (parts e f s ps rs)) ≡ true → fits_below s ps rs ≡ true →
    d ≡ depth (from_parts (parts e f s ps rs)) → d ≤ 32 →
    a ≡ size_above (supertype_of s) → p ≡ min 65537 (size_in (types_of ps)) → r ≡ min 65537 (size_in (types_of rs)) → n ≡ 1 + (a + (p + r)) → n ≤ 65536 →
    IsAboveSound (supertype_of s) → AreSound (types_of ps) → AreSound (types_of rs) →
    IsTested (parts e f s ps rs) (record { depth = d; size = n })
is_tested e f s ps rs d n a p r one below deep deep_fits sa sp sr sum fits above taken given =
    let size_is : n ≡ size (from_parts (parts e f s ps rs)) = omega (arith, sa, sp, sr, sum, fits) in
    let fits_too : is_too_large (from_parts (parts e f s ps rs)) ≡ false =
    rw (le-ltb 32 (depth (from_parts (parts e f s ps rs))) (omega (arith, deep, deep_fits)), le-ltb 65536 (size (from_parts (parts e f s ps rs))) (omega (arith, size_is, fits))) refl in
    let none : fault (parts e f s ps rs) ≡ None = chosen _ _ _ one below fits_too in
    record { no_fault = none; depth_is = deep; size_is = size_is; sound = sound_made e f s ps rs none above taken given }

pub is_of_its_parts : IsOfItsParts
is_of_its_parts (sig.signature e f s ps rs) = parts_back e f s ps rs
