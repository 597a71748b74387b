-- Readers of single bytes, of lists and of sized parts, and those that look at the first byte, agree with their formats.
use Rattle.std.proofs.Common.{◌≡◌, ◌⊎◌, ℕ, ◌+◌, ◌≤◌, List, [], ◌∷◌, ◌++◌, length, take, drop, Bool, true, false, nat_eq, nat_le, Some, None, Result, Ok, Err, inl, inr, arith, refl, sym, ◌∙◌, ap, subst, append-nil}
use Rattle.std.proofs.lemmas.Bool.{eqb-true, eq-eqb, leb-true, le-leb}
use Rattle.std.proofs.lemmas.List.{length-append, length-take-le, take-append-drop}
use Rattle.std.proofs.Math.Seq.{take-append_seam, drop-append_seam}
use Rattle.std.specs.Prelude.{⊤}
use Rattle.wasm_leb.specs.Items.{Lie}
use Rattle.wasm_leb.specs.Places.{Place, place, first, further}
use Rattle.wasm_leb.specs.Places as places
use Rattle.wasm_leb.proofs.NumberLemmas.{chosen, taken}
use Rattle.binary_types.specs.Reading.{Read, ◌>>=◌, then, done, given, unless, peek, times, all_read, within, sized, fixed}
use Rattle.binary_types.specs.Reading as reading
use Rattle.binary_types.specs.declared.faults.BinaryFault.{BinaryFault}
use Rattle.binary_types.specs.declared.faults.BinaryFault.TheVariants.{Malformed}
use Rattle.law_binary.specs.Agreement.{Agree}
use Rattle.law_binary.specs.Formats.{Format, Begins, InOrder, by_first, part_if}
use Rattle.law_binary.specs.Formats as formats
use Rattle.law_binary.proofs.Combining.{then_ok, then_err, both, read_alike, same_value, same_place, lie_on, given_ok, given_err, agree_item}

-- ---- bytes

first_found : (at : ℕ) (bs : List ℕ) (b : ℕ) (after : Place) → first at bs ≡ Some (both b after) → (item : List ℕ) × (item ≡ b ∷ []) × Lie (place at bs) item after
first_found at [] b after e = absurd (cc e)
first_found at (c ∷ bs) b after e =
    let same : both c (place (at + 1) bs) ≡ both b after = cc e in
    let value : c ≡ b = ap (λ (r : ℕ × Place). r.0) same in
    let end : place (at + 1) bs ≡ after = ap (λ (r : ℕ × Place). r.1) same in
    (c ∷ [], ap (λ (x : ℕ). x ∷ []) value, lie_on (place at (c ∷ bs)) (place (at + 1) bs) after (c ∷ []) (record { left = refl; at = refl }) end)

first_again : (at b : ℕ) (rest : List ℕ) → first at ((b ∷ []) ++ rest) ≡ Some (both b (place (at + length (b ∷ [])) rest))
first_again at b rest = refl

pub agree_byte : Agree reading.byte formats.byte
agree_byte = agree_item places.byte (λ bytes b. bytes ≡ b ∷ [])
    (λ p b after e. first_found p.at p.left b after e)
    (λ at item rest b e. ap (λ (xs : List ℕ). first at (xs ++ rest)) e ∙ first_again at b rest ∙ ap (λ (xs : List ℕ). Some (both b (place (at + length xs) rest))) (sym e))

pub unless_ok : (test : Bool) (p : Place) (x : ⊤) (q : Place) → unless Malformed test p ≡ Ok (both x q) → (test ≡ true) × (p ≡ q)
unless_ok true p x q e = (refl, same_place tt x p q e)
unless_ok false p x q e = absurd (cc e)

pub unless_err : (test : Bool) (p : Place) (f : BinaryFault) → unless Malformed test p ≡ Err f → f ≡ Malformed
unless_err true p f e = absurd (cc e)
unless_err false p f e = let s : Malformed ≡ f = cc e in sym s

pub agree_fixed : (wanted : ℕ) → Agree (fixed wanted) (formats.the_byte wanted)
agree_fixed wanted = record {
  found = λ p x after e.
      let h = then_ok (reading.byte p) (λ b. unless Malformed (nat_eq b wanted)) x after e in
      let m = agree_byte.found p h.0 h.1 h.2 in
      let k = unless_ok (nat_eq h.0 wanted) h.1 x after h.3 in
      (m.0, m.1 ∙ ap (λ (b : ℕ). b ∷ []) (eqb-true h.0 wanted k.0), lie_on p h.1 after m.0 m.2 k.1);
  only = λ p item rest x e s.
      ap (λ (o : Result (ℕ × Place) BinaryFault). then o (λ b. unless Malformed (nat_eq b wanted))) (agree_byte.only p item rest wanted e s)
      ∙ ap (λ (b : Bool). unless Malformed b (place (p.at + length item) rest)) (eq-eqb wanted wanted refl)
      ∙ read_alike tt x (p.at + length item) (p.at + length item) rest rest refl refl refl;
  fault = λ p f e. elim (then_err (reading.byte p) (λ b. unless Malformed (nat_eq b wanted)) f e) [
    | inl h ↦ agree_byte.fault p f h
    | inr h ↦ inl (unless_err (nat_eq h.0 wanted) h.1 f h.3)
  ];
  first = λ p f h. absurd h;
}

-- so many bytes
raw_ok : (n : ℕ) (p : Place) (part : List ℕ) (behind : Place) → reading.raw n p ≡ Ok (both part behind) → (n ≤ length p.left) × (take n p.left ≡ part) × (further n p ≡ behind)
raw_ok n p part behind e =
    let o : places.bytes n p ≡ Some (both part behind) = given_ok (places.bytes n p) part behind e in
    elim (chosen (nat_le n (length p.left)) (Some (both (take n p.left) (further n p))) None (Some (both part behind)) o) as (λ _. (n ≤ length p.left) × (take n p.left ≡ part) × (further n p ≡ behind)) [
      | inl h ↦
          let same : both (take n p.left) (further n p) ≡ both part behind = cc h.1 in
          (leb-true n (length p.left) h.0, ap (λ (r : List ℕ × Place). r.0) same, ap (λ (r : List ℕ × Place). r.1) same)
      | inr h ↦ absurd (cc h.1)
    ]

raw_read : (n : ℕ) (p : Place) → n ≤ length p.left → reading.raw n p ≡ Ok (both (take n p.left) (further n p))
raw_read n p h = ap given (taken (nat_le n (length p.left)) _ _ (le-leb n (length p.left) h))

raw_lies : (n : ℕ) (p : Place) → n ≤ length p.left → Lie p (take n p.left) (further n p)
raw_lies n p h = record {
  left = sym (take-append-drop n p.left);
  at = ap (λ (k : ℕ). p.at + k) (sym (length-take-le n p.left h));
}

raw_again : (n : ℕ) (p : Place) (item rest : List ℕ) → p.left ≡ item ++ rest → length item ≡ n → reading.raw n p ≡ done item (place (p.at + length item) rest)
raw_again n p item rest e l =
    ap (λ (k : ℕ). reading.raw k p) (sym l)
    ∙ raw_read (length item) p (omega (arith, ap length e, length-append item rest))
    ∙ read_alike (take (length item) p.left) item (p.at + length item) (p.at + length item) (drop (length item) p.left) rest
    (ap (take (length item)) e ∙ take-append_seam item rest) refl (ap (drop (length item)) e ∙ drop-append_seam item rest)

pub agree_raw : (n : ℕ) → Agree (reading.raw n) (formats.raw n)
agree_raw n = record {
  found = λ p x after e.
      let h = raw_ok n p x after e in
      (take n p.left, (h.1, ap length (sym h.1) ∙ length-take-le n p.left h.0), lie_on p (further n p) after (take n p.left) (raw_lies n p h.0) h.2);
  only = λ p item rest x e s.
      raw_again n p item rest e (ap length s.0 ∙ s.1)
      ∙ read_alike item x (p.at + length item) (p.at + length item) rest rest s.0 refl refl;
  fault = λ p f e. inl (given_err (places.bytes n p) f e);
  first = λ p f h. absurd h;
}

-- ---- a part of just so many bytes

all_read_ok : {A : Type 0} (behind : Place) (r : Result (A × Place) BinaryFault) (x : A) (q : Place) → all_read behind r ≡ Ok (both x q) → (end : Place) × (r ≡ Ok (both x end)) × (length end.left ≡ 0) × (behind ≡ q)
all_read_ok {A = A} behind (Ok (y, end)) x q e =
    let h = then_ok (unless Malformed (nat_eq (length end.left) 0) end) (λ _ _. done y behind) x q e in
    let k = unless_ok (nat_eq (length end.left) 0) end h.0 h.1 h.2 in
    (end, ap (λ (z : A). done z end) (same_value y x behind q h.3), eqb-true (length end.left) 0 k.0, same_place y x behind q h.3)
all_read_ok behind (Err f) x q e = absurd (cc e)

all_read_err : {A : Type 0} (behind : Place) (r : Result (A × Place) BinaryFault) (f : BinaryFault) → all_read behind r ≡ Err f → (f ≡ Malformed) ⊎ (r ≡ Err f)
all_read_err behind (Ok (y, end)) f e =
    elim (then_err (unless Malformed (nat_eq (length end.left) 0) end) (λ _ _. done y behind) f e) [
      | inl h ↦ inl (unless_err (nat_eq (length end.left) 0) end f h)
      | inr h ↦ absurd (cc h.3)
    ]
all_read_err behind (Err g) f e = let s : g ≡ f = cc e in inr (ap (λ (x : BinaryFault). Err x) s)

nothing : (xs : List ℕ) → length xs ≡ 0 → xs ≡ []
nothing [] e = refl
nothing (x ∷ xs) e = absurd (omega arith)

whole_part : (part item left : List ℕ) → part ≡ item ++ left → length left ≡ 0 → item ≡ part
whole_part part item left e l = sym (append-nil item) ∙ ap (λ (xs : List ℕ). item ++ xs) (sym (nothing left l)) ∙ sym e

-- agreement on parts of which all bytes are read
pub record AgreeWhole {A : Type 0} (read : Read A) (F : Format A) : Type 0 where
  pub found : (p : Place) (x : A) (after : Place) → read p ≡ Ok (both x after) → (item : List ℕ) × F.Spells item x × Lie p item after
  pub only : (p : Place) (x : A) → F.Spells p.left x → read p ≡ done x (place (p.at + length p.left) [])
  pub fault : (p : Place) (f : BinaryFault) → read p ≡ Err f → (f ≡ Malformed) ⊎ F.Fails p.at p.left f
  pub first : (p : Place) (f : BinaryFault) → F.Fails p.at p.left f → read p ≡ Err f

pub as_whole : {A : Type 0} {read : Read A} {F : Format A} → Agree read F → AgreeWhole read F
as_whole a = record {
  found = a.found;
  only = λ p x s. a.only p p.left [] x (sym (append-nil p.left)) s;
  fault = a.fault;
  first = a.first;
}

pub agree_within : {A : Type 0} (n : ℕ) (read : Read A) (F : Format A) → AgreeWhole read F → Agree (within read n) (formats.within n F)
agree_within {A = A} n read F a = record {
  found = λ p x after e.
      let h = then_ok (reading.raw n p) (λ part behind. all_read behind (read (place p.at part))) x after e in
      let r = raw_ok n p h.0 h.1 h.2 in
      let k = all_read_ok h.1 (read (place p.at h.0)) x after h.3 in
      let m = a.found (place p.at h.0) x k.0 k.1 in
      let same : m.0 ≡ take n p.left = whole_part h.0 m.0 k.0.left m.2.left k.2 ∙ sym r.1 in
      (take n p.left, (length-take-le n p.left r.0, subst (λ (xs : List ℕ). F.Spells xs x) same m.1), lie_on p (further n p) after (take n p.left) (raw_lies n p r.0) (r.2 ∙ k.3));
  only = λ p item rest x e s.
      let behind : Place = place (p.at + length item) rest in
      ap (λ (o : Result (List ℕ × Place) BinaryFault). then o (λ part end. all_read end (read (place p.at part)))) (raw_again n p item rest e s.0)
      ∙ ap (all_read behind) (a.only (place p.at item) x s.1);
  fault = λ p f e. elim (then_err (reading.raw n p) (λ part behind. all_read behind (read (place p.at part))) f e) [
    | inl h ↦ inl (given_err (places.bytes n p) f h)
    | inr h ↦ elim (all_read_err h.1 (read (place p.at h.0)) f h.3) [
      | inl m ↦ inl m
      | inr m ↦ elim (a.fault (place p.at h.0) f m) [
        | inl k ↦ inl k
        | inr k ↦
            let r = raw_ok n p h.0 h.1 h.2 in
            inr (r.0, subst (λ (xs : List ℕ). F.Fails p.at xs f) (sym r.1) k)
      ]
    ]
  ];
  first = λ p f h.
      ap (λ (o : Result (List ℕ × Place) BinaryFault). then o (λ part end. all_read end (read (place p.at part)))) (raw_read n p h.0)
      ∙ ap (all_read (further n p)) (a.first (place p.at (take n p.left)) f h.1);
}
