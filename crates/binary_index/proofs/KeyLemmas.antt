-- A key says what its type says, and nothing else does; and it says the same in a longer list.
use Rattle.std.proofs.Common.{◌≡◌, ℕ, ◌+◌, ◌≤◌, Bool, true, false, List, [], ◌∷◌, ◌++◌, Some, refl, sym, ◌∙◌, ap, arith, append_assoc}
use Rattle.std.specs.Prelude.{get_or, slice_get, unwrap_or}
use Rattle.std.proofs.lemmas.List.Quantifiers.{position-Some}
use Rattle.wasm_types.specs.Equality.{of_abstract, of_finality, of_number}
use Rattle.wasm_types.specs.EqualityLaws.{same_decides}
use Rattle.wasm_types.specs.FunctionParts.{engine}
use Rattle.wasm_types.specs.SignatureCode.{to_abstract, to_of_abstract, to_finality, to_of_finality, to_number, to_of_number}
use Rattle.wasm_types.specs.Signatures.{Abstract, Number, Signature, Supertype, Types, Heap}
use Rattle.wasm_types.specs.Signatures as sig
use Rattle.binary_index.specs.Keys.{ArePlaced, HasPlaced, IsAbovePlaced, IsHeapPlaced, IsPlaced, above_key, alike, bare, bit, first_alike, heap_key, key_of, place, types_key}
use Rattle.binary_index.proofs.Positions.{first_more, is_found}

-- ---- lists of numbers

first_is : (a b : ℕ) (xs ys : List ℕ) → a ∷ xs ≡ b ∷ ys → a ≡ b
first_is a b xs ys e = ap (λ (l : List ℕ). get_or l 0 0) e

rest_is : (a b : ℕ) (xs ys : List ℕ) → a ∷ xs ≡ b ∷ ys → xs ≡ ys
rest_is a b xs ys e = cc e

-- ---- types but for their engines

pub alike_is : (t u : Signature) → alike t u ≡ true → bare t ≡ bare u
alike_is t u e = (same_decides (bare t) (bare u)).0 e

pub is_alike : (t u : Signature) → bare t ≡ bare u → alike t u ≡ true
is_alike t u e = (same_decides (bare t) (bare u)).1 e

whole : ℕ → Signature → Signature
whole e (sig.signature n f s ps rs) = sig.signature e f s ps rs

whole_bare : (t : Signature) → whole (engine t) (bare t) ≡ t
unfolding whole
whole_bare (sig.signature e f s ps rs) = refl

is_by_engine : (t u : Signature) → bare t ≡ bare u → engine t ≡ engine u → t ≡ u
is_by_engine t u b e =
    sym (whole_bare t) ∙ ap (λ (n : ℕ). whole n (bare t)) e ∙ ap (whole (engine u)) b ∙ whole_bare u

-- ---- places

place_is : (ts : List Signature) (t : Signature) (n : ℕ) → first_alike ts t ≡ Some n → place ts t ≡ n
place_is ts t n e = ap (λ o. unwrap_or o 0) e

same_place : (ts : List Signature) (t u : Signature) → IsPlaced ts t → IsPlaced ts u → place ts t ≡ place ts u → bare t ≡ bare u
same_place ts t u p q e =
    let n : p.0 ≡ q.0 = sym (place_is ts t p.0 p.1) ∙ e ∙ place_is ts u q.0 q.1 in
    let a : alike t (get_or ts p.0 t) ≡ true = (position-Some (alike t) ts p.0 t p.1).1 in
    let b : alike u (get_or ts q.0 t) ≡ true = (position-Some (alike u) ts q.0 t q.1).1 in
    alike_is t (get_or ts p.0 t) a ∙ ap (λ (k : ℕ). bare (get_or ts k t)) n ∙ sym (alike_is u (get_or ts q.0 t) b)

pub member_placed : (ts : List Signature) (k : ℕ) (t : Signature) → slice_get ts k ≡ Some t → IsPlaced ts t
member_placed ts k t e = is_found (alike t) k ts t e (is_alike t t refl)

placed_more : (ts more : List Signature) (t : Signature) → IsPlaced ts t → IsPlaced (ts ++ more) t
placed_more ts more t p = (p.0, first_more (alike t) p.0 ts more p.1)

place_more : (ts more : List Signature) (t : Signature) → IsPlaced ts t → place (ts ++ more) t ≡ place ts t
place_more ts more t p =
    place_is (ts ++ more) t p.0 (first_more (alike t) p.0 ts more p.1) ∙ sym (place_is ts t p.0 p.1)

-- ---- parts of keys in a longer list

heap_more : (ts more : List Signature) (h : Heap) → IsHeapPlaced ts h → IsHeapPlaced (ts ++ more) h × (heap_key (ts ++ more) h ≡ heap_key ts h)
heap_more ts more (sig.abstract a) p = (tt, refl)
heap_more ts more (sig.concrete t) p =
    (placed_more ts more t p, ap (λ (n : ℕ). (8 + n) ∷ engine t ∷ []) (place_more ts more t p))

types_more : (ts more : List Signature) (xs : Types) → ArePlaced ts xs → ArePlaced (ts ++ more) xs × (types_key (ts ++ more) xs ≡ types_key ts xs)
types_more ts more sig.end p = (tt, refl)
types_more ts more (sig.number n xs) p =
    let r : ArePlaced (ts ++ more) xs × (types_key (ts ++ more) xs ≡ types_key ts xs) = types_more ts more xs p in
    (r.0, ap (λ (l : List ℕ). (1 + of_number n) ∷ l) r.1)
types_more ts more (sig.ref b h xs) p =
    let q : IsHeapPlaced (ts ++ more) h × (heap_key (ts ++ more) h ≡ heap_key ts h) = heap_more ts more h p.0 in
    let r : ArePlaced (ts ++ more) xs × (types_key (ts ++ more) xs ≡ types_key ts xs) = types_more ts more xs p.1 in
    ((q.0, r.0), ap (λ (l : List ℕ). (6 + bit b) ∷ (l ++ types_key (ts ++ more) xs)) q.1 ∙ ap (λ (l : List ℕ). (6 + bit b) ∷ (heap_key ts h ++ l)) r.1)

above_more : (ts more : List Signature) (s : Supertype) → IsAbovePlaced ts s → IsAbovePlaced (ts ++ more) s × (above_key (ts ++ more) s ≡ above_key ts s)
above_more ts more sig.root p = (tt, refl)
above_more ts more (sig.below t) p =
    (placed_more ts more t p, ap (λ (n : ℕ). (1 + n) ∷ engine t ∷ []) (place_more ts more t p))

pub key_more : (ts more : List Signature) (t : Signature) → HasPlaced ts t → HasPlaced (ts ++ more) t × (key_of (ts ++ more) t ≡ key_of ts t)
key_more ts more (sig.signature e f s ps rs) p =
    let a : IsAbovePlaced (ts ++ more) s × (above_key (ts ++ more) s ≡ above_key ts s) = above_more ts more s p.0 in
    let b : ArePlaced (ts ++ more) ps × (types_key (ts ++ more) ps ≡ types_key ts ps) = types_more ts more ps p.1 in
    let c : ArePlaced (ts ++ more) rs × (types_key (ts ++ more) rs ≡ types_key ts rs) = types_more ts more rs p.2 in (
      (a.0, b.0, c.0),
      ap (λ (l : List ℕ). of_finality f ∷ (l ++ (types_key (ts ++ more) ps ++ 0 ∷ types_key (ts ++ more) rs))) a.1
          ∙ ap (λ (l : List ℕ). of_finality f ∷ (above_key ts s ++ (l ++ 0 ∷ types_key (ts ++ more) rs))) b.1
          ∙ ap (λ (l : List ℕ). of_finality f ∷ (above_key ts s ++ (types_key ts ps ++ 0 ∷ l))) c.1,
    )

-- ---- what a key says

number_below : (n : Number) → of_number n ≤ 4
number_below sig.i32 = omega arith
number_below sig.i64 = omega arith
number_below sig.f32 = omega arith
number_below sig.f64 = omega arith
number_below sig.v128 = omega arith

abstract_below : (a : Abstract) → of_abstract a ≤ 7
abstract_below sig.no_func = omega arith
abstract_below sig.func = omega arith
abstract_below sig.no_extern = omega arith
abstract_below sig.extern = omega arith
abstract_below sig.none = omega arith
abstract_below sig.i31 = omega arith
abstract_below sig.eq = omega arith
abstract_below sig.any = omega arith

number_is : (n m : Number) → of_number n ≡ of_number m → n ≡ m
number_is n m e = sym (to_of_number n) ∙ ap to_number e ∙ to_of_number m

abstract_is : (a b : Abstract) → of_abstract a ≡ of_abstract b → a ≡ b
abstract_is a b e = sym (to_of_abstract a) ∙ ap to_abstract e ∙ to_of_abstract b

bit_is : (a b : Bool) → 6 + bit a ≡ 6 + bit b → a ≡ b
bit_is true true e = refl
bit_is false false e = refl
bit_is true false e = absurd (omega arith)
bit_is false true e = absurd (omega arith)

heap_is : (ts : List Signature) (h k : Heap) (r q : List ℕ) → IsHeapPlaced ts h → IsHeapPlaced ts k → heap_key ts h ++ r ≡ heap_key ts k ++ q → (h ≡ k) × (r ≡ q)
heap_is ts (sig.abstract a) (sig.abstract b) r q p s e =
    (ap sig.abstract (abstract_is a b (first_is _ _ _ _ e)), rest_is _ _ _ _ e)
heap_is ts (sig.abstract a) (sig.concrete t) r q p s e =
    let n : of_abstract a ≡ 8 + place ts t = first_is _ _ _ _ e in
    absurd (omega (arith, abstract_below a))
heap_is ts (sig.concrete t) (sig.abstract a) r q p s e =
    let n : 8 + place ts t ≡ of_abstract a = first_is _ _ _ _ e in
    absurd (omega (arith, abstract_below a))
heap_is ts (sig.concrete t) (sig.concrete u) r q p s e =
    let n : 8 + place ts t ≡ 8 + place ts u = first_is _ _ _ _ e in
    let more : engine t ∷ r ≡ engine u ∷ q = rest_is _ _ _ _ e in
    (ap sig.concrete (is_by_engine t u (same_place ts t u p s (omega arith)) (first_is _ _ _ _ more)), rest_is _ _ _ _ more)

types_are : (ts : List Signature) (xs ys : Types) (r q : List ℕ) → ArePlaced ts xs → ArePlaced ts ys → types_key ts xs ++ 0 ∷ r ≡ types_key ts ys ++ 0 ∷ q → (xs ≡ ys) × (r ≡ q)
types_are ts sig.end sig.end r q p s e = (refl, rest_is _ _ _ _ e)
types_are ts sig.end (sig.number n ys) r q p s e =
    let m : 0 ≡ 1 + of_number n = first_is _ _ _ _ e in absurd (omega arith)
types_are ts sig.end (sig.ref b h ys) r q p s e =
    let m : 0 ≡ 6 + bit b = first_is _ _ _ _ e in absurd (omega arith)
types_are ts (sig.number n xs) sig.end r q p s e =
    let m : 1 + of_number n ≡ 0 = first_is _ _ _ _ e in absurd (omega arith)
types_are ts (sig.ref b h xs) sig.end r q p s e =
    let m : 6 + bit b ≡ 0 = first_is _ _ _ _ e in absurd (omega arith)
types_are ts (sig.number n xs) (sig.number m ys) r q p s e =
    let k : 1 + of_number n ≡ 1 + of_number m = first_is _ _ _ _ e in
    let more : (xs ≡ ys) × (r ≡ q) = types_are ts xs ys r q p s (rest_is _ _ _ _ e) in
    let same : n ≡ m = number_is n m (omega arith) in
    (λ i. sig.number (same i) (more.0 i), more.1)
types_are ts (sig.number n xs) (sig.ref b h ys) r q p s e =
    let m : 1 + of_number n ≡ 6 + bit b = first_is _ _ _ _ e in absurd (omega (arith, number_below n))
types_are ts (sig.ref b h xs) (sig.number n ys) r q p s e =
    let m : 6 + bit b ≡ 1 + of_number n = first_is _ _ _ _ e in absurd (omega (arith, number_below n))
types_are ts (sig.ref b h xs) (sig.ref c k ys) r q p s e =
    let m : b ≡ c = bit_is b c (first_is _ _ _ _ e) in
    let heaps : heap_key ts h ++ (types_key ts xs ++ 0 ∷ r) ≡ heap_key ts k ++ (types_key ts ys ++ 0 ∷ q) =
    sym (append_assoc (heap_key ts h) (types_key ts xs) (0 ∷ r)) ∙ rest_is _ _ _ _ e ∙ append_assoc (heap_key ts k) (types_key ts ys) (0 ∷ q) in
    let g : (h ≡ k) × (types_key ts xs ++ 0 ∷ r ≡ types_key ts ys ++ 0 ∷ q) = heap_is ts h k _ _ p.0 s.0 heaps in
    let more : (xs ≡ ys) × (r ≡ q) = types_are ts xs ys r q p.1 s.1 g.1 in
    (λ i. sig.ref (m i) (g.0 i) (more.0 i), more.1)

above_is : (ts : List Signature) (s u : Supertype) (r q : List ℕ) → IsAbovePlaced ts s → IsAbovePlaced ts u → above_key ts s ++ r ≡ above_key ts u ++ q → (s ≡ u) × (r ≡ q)
above_is ts sig.root sig.root r q p o e = (refl, rest_is _ _ _ _ e)
above_is ts sig.root (sig.below t) r q p o e =
    let n : 0 ≡ 1 + place ts t = first_is _ _ _ _ e in absurd (omega arith)
above_is ts (sig.below t) sig.root r q p o e =
    let n : 1 + place ts t ≡ 0 = first_is _ _ _ _ e in absurd (omega arith)
above_is ts (sig.below t) (sig.below u) r q p o e =
    let n : 1 + place ts t ≡ 1 + place ts u = first_is _ _ _ _ e in
    let more : engine t ∷ r ≡ engine u ∷ q = rest_is _ _ _ _ e in
    (ap sig.below (is_by_engine t u (same_place ts t u p o (omega arith)) (first_is _ _ _ _ more)), rest_is _ _ _ _ more)

pub key_is : (ts : List Signature) (t u : Signature) → HasPlaced ts t → HasPlaced ts u → key_of ts t ≡ key_of ts u → bare t ≡ bare u
key_is ts (sig.signature e f s ps rs) (sig.signature d g o xs ys) p q k =
    let finality : f ≡ g = sym (to_of_finality f) ∙ ap to_finality (first_is _ _ _ _ k) ∙ to_of_finality g in
    let above : (s ≡ o) × (types_key ts ps ++ 0 ∷ types_key ts rs ≡ types_key ts xs ++ 0 ∷ types_key ts ys) =
    above_is ts s o _ _ p.0 q.0 (rest_is _ _ _ _ k) in
    let params : (ps ≡ xs) × (types_key ts rs ≡ types_key ts ys) = types_are ts ps xs _ _ p.1 q.1 above.1 in
    let results : (rs ≡ ys) × ([] ≡ []) = types_are ts rs ys [] [] p.2 q.2 (ap (λ (l : List ℕ). l ++ 0 ∷ []) params.1) in
    λ i. sig.signature 0 (finality i) (above.0 i) (params.0 i) (results.0 i)

key_bare : (ts : List Signature) (t : Signature) → key_of ts t ≡ key_of ts (bare t)
key_bare ts (sig.signature e f s ps rs) = refl

pub is_key : (ts : List Signature) (t u : Signature) → bare t ≡ bare u → key_of ts t ≡ key_of ts u
is_key ts t u e = key_bare ts t ∙ ap (key_of ts) e ∙ sym (key_bare ts u)
