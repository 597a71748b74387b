-- Readers made of others agree with the formats made of those that they agree with.
use Rattle.std.proofs.Common.{◌≡◌, ◌⊎◌, ℕ, ◌+◌, List, [], ◌++◌, length, Bool, true, false, Option, Some, None, Result, Ok, Err, inl, inr, arith, refl, sym, ◌∙◌, ap, subst, append_assoc}
use Rattle.std.proofs.lemmas.List.{length-append}
use Rattle.std.specs.Prelude.{⊤}
use Rattle.wasm_leb.specs.Items.{Lie}
use Rattle.wasm_leb.specs.Places.{Place, place}
use Rattle.binary_types.specs.Reading.{Read, ◌>>=◌, then, given, done, unless, some_or}
use Rattle.binary_types.specs.declared.faults.BinaryFault.{BinaryFault}
use Rattle.binary_types.specs.declared.faults.BinaryFault.TheVariants.{Malformed}
use Rattle.law_binary.specs.Agreement.{Agree}
use Rattle.law_binary.specs.Formats.{Format, Begins, gives, item, holds, standing_for}
use Rattle.law_binary.specs.Formats as formats

-- ---- what was read by one reader and then another

pub then_ok : {A B : Type 0} (r : Result (A × Place) BinaryFault) (f : A → Read B) (y : B) (q : Place) → then r f ≡ Ok (y, q) → (x : A) × (p : Place) × (r ≡ Ok (x, p)) × (f x p ≡ Ok (y, q))
then_ok (Ok r) f y q e = (r.0, r.1, refl, e)
then_ok (Err g) f y q e = absurd (cc e)

pub then_err : {A B : Type 0} (r : Result (A × Place) BinaryFault) (f : A → Read B) (g : BinaryFault) → then r f ≡ Err g → (r ≡ Err g) ⊎ ((x : A) × (p : Place) × (r ≡ Ok (x, p)) × (f x p ≡ Err g))
then_err (Ok r) f g e = inr (r.0, r.1, refl, e)
then_err (Err h) f g e = let same : h ≡ g = cc e in inl (ap (λ (x : BinaryFault). Err x) same)

-- there is one answer
pub same_answer : {A : Type 0} (r : Result A BinaryFault) (x y : A) → r ≡ Ok x → r ≡ Ok y → x ≡ y
same_answer (Ok z) x y e h = let a : z ≡ x = cc e in let b : z ≡ y = cc h in sym a ∙ b
same_answer (Err g) x y e h = absurd (cc e)

pub same_fault : {A : Type 0} (r : Result A BinaryFault) (f g : BinaryFault) → r ≡ Err f → r ≡ Err g → f ≡ g
same_fault (Ok z) f g e h = absurd (cc e)
same_fault (Err k) f g e h = let a : k ≡ f = cc e in let b : k ≡ g = cc h in sym a ∙ b

pub no_fault : {A : Type 0} (r : Result A BinaryFault) (x : A) (f : BinaryFault) → r ≡ Ok x → r ≡ Err f → ⊥
no_fault (Ok z) x f e h = absurd (cc h)
no_fault (Err k) x f e h = absurd (cc e)

-- a reading with its place
abbrev pub both : {A : Type 0} → A → Place → A × Place
both x p = (x, p)

pub read_alike : {A : Type 0} (x y : A) (at end : ℕ) (left rest : List ℕ) → x ≡ y → at ≡ end → left ≡ rest → done x (place at left) ≡ done y (place end rest)
read_alike x y at end left rest e f g = cc

pub same_value : {A : Type 0} (x y : A) (p q : Place) → done x p ≡ done y q → x ≡ y
same_value {A = A} x y p q e = let s : both x p ≡ both y q = cc e in ap (λ (r : A × Place). r.0) s

pub same_place : {A : Type 0} (x y : A) (p q : Place) → done x p ≡ done y q → p ≡ q
same_place {A = A} x y p q e = let s : both x p ≡ both y q = cc e in ap (λ (r : A × Place). r.1) s

pub no_bytes_lie : (p q : Place) → p ≡ q → Lie p [] q
no_bytes_lie p q e = subst (λ (r : Place). Lie p [] r) e (record { left = refl; at = omega arith })

pub both_lie : (p q r : Place) (front rest : List ℕ) → Lie p front q → Lie q rest r → Lie p (front ++ rest) r
both_lie p q r front rest l m = record {
  left = l.left ∙ ap (λ (xs : List ℕ). front ++ xs) m.left ∙ sym (append_assoc front rest r.left);
  at = omega (arith, l.at, m.at, length-append front rest);
}

-- ---- no bytes

pub agree_gives : {A : Type 0} (x : A) → Agree (done x) (gives x)
agree_gives x = record {
  found = λ p y after e. ([], (refl, sym (same_value x y p after e)), no_bytes_lie p after (same_place x y p after e));
  only = λ p item rest y e s. read_alike x y p.at (p.at + length item) p.left rest (sym s.1) (omega (arith, ap length s.0)) (e ∙ ap (λ (xs : List ℕ). xs ++ rest) s.0);
  fault = λ p f e. absurd (cc e);
  first = λ p f h. absurd h;
}

unless_ok : (test : Bool) (p : Place) (x : ⊤) (q : Place) → unless Malformed test p ≡ Ok (x, q) → (test ≡ true) × (p ≡ q)
unless_ok true p x q e = (refl, same_place tt x p q e)
unless_ok false p x q e = absurd (cc e)

unless_err : (test : Bool) (p : Place) (f : BinaryFault) → unless Malformed test p ≡ Err f → f ≡ Malformed
unless_err true p f e = absurd (cc e)
unless_err false p f e = let s : Malformed ≡ f = cc e in sym s

pub agree_holds : (test : Bool) → Agree (unless Malformed test) (holds test)
agree_holds test = record {
  found = λ p x after e. let h = unless_ok test p x after e in ([], (refl, h.0), no_bytes_lie p after h.1);
  only = λ p item rest x e s.
      ap (λ (b : Bool). unless Malformed b p) s.1
      ∙ read_alike tt x p.at (p.at + length item) p.left rest refl (omega (arith, ap length s.0)) (e ∙ ap (λ (xs : List ℕ). xs ++ rest) s.0);
  fault = λ p f e. inl (unless_err test p f e);
  first = λ p f h. absurd h;
}

-- ---- one part behind another

spelled_behind : {B : Type 0} (r : Result (B × Place) BinaryFault) (y : B) (at end : ℕ) (rest : List ℕ) → r ≡ Ok (both y (place at rest)) → at ≡ end → r ≡ Ok (both y (place end rest))
spelled_behind r y at end rest e f = e ∙ read_alike y y at end rest rest refl f refl

pub agree_then : {A B : Type 0} (r : Read A) (s : A → Read B) (F : Format A) (G : A → Format B) → Agree r F → ((x : A) → Agree (s x) (G x)) → Agree (r >>= s) (formats.◌>>=◌ F G)
agree_then {A = A} {B = B} r s F G a b = record {
  found = λ p y after e.
      let h = then_ok (r p) s y after e in
      let m = a.found p h.0 h.1 h.2 in
      let n = (b h.0).found h.1 y after h.3 in
      (m.0 ++ n.0, record { value = h.0; front = m.0; rest = n.0; split = refl; spelled = m.1; holds = n.1 }, both_lie p h.1 after m.0 n.0 m.2 n.2);
  only = λ p item rest y e t.
      let behind : List ℕ = t.rest ++ rest in
      let split : p.left ≡ t.front ++ behind = e ∙ ap (λ (xs : List ℕ). xs ++ rest) t.split ∙ append_assoc t.front t.rest rest in
      let here : Place = place (p.at + length t.front) behind in
      ap (λ (o : Result (A × Place) BinaryFault). then o s) (a.only p t.front behind t.value split t.spelled)
      ∙ spelled_behind (s t.value here) y ((p.at + length t.front) + length t.rest) (p.at + length item) rest
      ((b t.value).only here t.rest rest y refl t.holds)
      (omega (arith, ap length t.split, length-append t.front t.rest));
  fault = λ p f e. elim (then_err (r p) s f e) [
    | inl h ↦ elim (a.fault p f h) [ inl m ↦ inl m | inr m ↦ inr (inl m) ]
    | inr h ↦ let m = a.found p h.0 h.1 h.2 in
        elim ((b h.0).fault h.1 f h.3) [
          | inl n ↦ inl n
          | inr n ↦ inr (inr (record {
            value = h.0;
            front = m.0;
            rest = h.1.left;
            split = m.2.left;
            spelled = m.1;
            holds = subst (λ (at : ℕ). (G h.0).Fails at h.1.left f) m.2.at n;
          }))
        ]
  ];
  first = λ p f h. elim h [
    | inl k ↦ ap (λ (o : Result (A × Place) BinaryFault). then o s) (a.first p f k)
    | inr k ↦
        ap (λ (o : Result (A × Place) BinaryFault). then o s) (a.only p k.front k.rest k.value k.split k.spelled)
        ∙ (b k.value).first (place (p.at + length k.front) k.rest) f k.holds
  ];
}

-- ---- an item

pub given_ok : {A : Type 0} (o : Option (A × Place)) (x : A) (q : Place) → given o ≡ Ok (both x q) → o ≡ Some (both x q)
given_ok (Some r) x q e = cc e
given_ok None x q e = absurd (cc e)

pub given_err : {A : Type 0} (o : Option (A × Place)) (f : BinaryFault) → given o ≡ Err f → f ≡ Malformed
given_err (Some r) f e = absurd (cc e)
given_err None f e = let s : Malformed ≡ f = cc e in sym s

pub agree_item : {A : Type 0} (o : Place → Option (A × Place)) (IsItem : List ℕ → A → Type 0) → ((p : Place) (x : A) (after : Place) → o p ≡ Some (both x after) → (item : List ℕ) × IsItem item x × Lie p item after) → ((at : ℕ) (item rest : List ℕ) (x : A) → IsItem item x → o (place at (item ++ rest)) ≡ Some (both x (place (at + length item) rest))) → Agree (λ p. given (o p)) (formats.item IsItem)
agree_item o IsItem found only = record {
  found = λ p x after e. found p x after (given_ok (o p) x after e);
  only = λ p item rest x e s.
      ap (λ (xs : List ℕ). given (o (place p.at xs))) e ∙ ap given (only p.at item rest x s);
  fault = λ p f e. inl (given_err (o p) f e);
  first = λ p f h. absurd h;
}

-- ---- a part that stands for something

pub some_or_ok : {A : Type 0} (f : BinaryFault) (o : Option A) (p : Place) (x : A) (q : Place) → some_or f o p ≡ Ok (both x q) → (o ≡ Some x) × (p ≡ q)
some_or_ok f (Some y) p x q e = (ap (λ (z : _). Some z) (same_value y x p q e), same_place y x p q e)
some_or_ok f None p x q e = absurd (cc e)

pub some_or_err : {A : Type 0} (f : BinaryFault) (o : Option A) (p : Place) (g : BinaryFault) → some_or f o p ≡ Err g → (o ≡ None) × (g ≡ f)
some_or_err f (Some y) p g e = absurd (cc e)
some_or_err f None p g e = let s : f ≡ g = cc e in (refl, sym s)

pub lie_on : (p q r : Place) (item : List ℕ) → Lie p item q → q ≡ r → Lie p item r
lie_on p q r item l e = subst (λ (s : Place). Lie p item s) e l

abbrev pub standing : {A B : Type 0} → Read A → (A → Option B) → (ℕ → A → BinaryFault) → Read B
standing r value fault p = then (r p) (λ x q. some_or (fault p.at x) (value x) q)

pub agree_standing : {A B : Type 0} (r : Read A) (F : Format A) (value : A → Option B) (fault : ℕ → A → BinaryFault) → Agree r F → Agree (standing r value fault) (standing_for F value fault)
agree_standing {A = A} r F value fault a = record {
  found = λ p y after e.
      let h = then_ok (r p) (λ x q. some_or (fault p.at x) (value x) q) y after e in
      let m = a.found p h.0 h.1 h.2 in
      let k = some_or_ok (fault p.at h.0) (value h.0) h.1 y after h.3 in
      (m.0, (h.0, m.1, k.0), lie_on p h.1 after m.0 m.2 k.1);
  only = λ p item rest y e t.
      ap (λ (o : Result (A × Place) BinaryFault). then o (λ x q. some_or (fault p.at x) (value x) q)) (a.only p item rest t.0 e t.1)
      ∙ ap (λ (o : Option _). some_or (fault p.at t.0) o (place (p.at + length item) rest)) t.2;
  fault = λ p f e. elim (then_err (r p) (λ x q. some_or (fault p.at x) (value x) q) f e) [
    | inl h ↦ elim (a.fault p f h) [ inl m ↦ inl m | inr m ↦ inr (inl m) ]
    | inr h ↦
        let m = a.found p h.0 h.1 h.2 in
        inr (inr (record {
          value = h.0;
          front = m.0;
          rest = h.1.left;
          split = m.2.left;
          spelled = m.1;
          holds = some_or_err (fault p.at h.0) (value h.0) h.1 f h.3;
        }))
  ];
  first = λ p f h. elim h [
    | inl k ↦ ap (λ (o : Result (A × Place) BinaryFault). then o (λ x q. some_or (fault p.at x) (value x) q)) (a.first p f k)
    | inr k ↦
        ap (λ (o : Result (A × Place) BinaryFault). then o (λ x q. some_or (fault p.at x) (value x) q)) (a.only p k.front k.rest k.value k.split k.spelled)
        ∙ ap (λ (o : Option _). some_or (fault p.at k.value) o (place (p.at + length k.front) k.rest)) k.holds.0
        ∙ ap (λ (g : BinaryFault). Err g) (sym k.holds.1)
  ];
}
