-- Numbers and names, and lists of items, are read as the grammar has them.
use Rattle.std.proofs.Common.{◌≡◌, ◌⊎◌, ℕ, zero, suc, ◌+◌, ◌<◌, ℤ, pos, negsuc, List, [], ◌∷◌, ◌++◌, length, Bool, true, false, Some, Result, Ok, Err, inl, inr, arith, refl, sym, ◌∙◌, ap, subst, append_assoc}
use Rattle.std.proofs.lemmas.List.{length-append}
use Rattle.wasm_leb.specs.Items.{Lie}
use Rattle.wasm_leb.specs.Names as names
use Rattle.wasm_leb.specs.Numbers as numbers
use Rattle.wasm_leb.specs.Numbers.{IsSigned, IsUnsigned}
use Rattle.wasm_leb.specs.Places.{Place, place, first}
use Rattle.wasm_leb.proofs.NameLemmas.{name_found, name_again}
use Rattle.wasm_leb.proofs.NumberLemmas.{unsigned_found, unsigned-again, signed_found}
use Rattle.wasm_leb.proofs.ItemLemmas.{signed_read}
use Rattle.binary_types.specs.Reading.{Read, ◌>>=◌, then, done, given, some_or, peek}
use Rattle.binary_types.specs.Reading as reading
use Rattle.binary_types.specs.Types.{whole, not_below_zero}
use Rattle.binary_types.specs.declared.faults.BinaryFault.{BinaryFault}
use Rattle.binary_types.specs.declared.faults.BinaryFault.TheVariants.{Malformed}
use Rattle.law_binary.specs.Agreement.{Agree}
use Rattle.law_binary.specs.Formats.{Format, Begins, InOrder, by_first, part_if}
use Rattle.law_binary.specs.Formats as formats
use Rattle.law_binary.proofs.Combining.{then_ok, then_err, both, read_alike, same_value, same_place, no_bytes_lie, both_lie, lie_on, some_or_ok, some_or_err, agree_item, agree_then}
use Rattle.law_binary.proofs.Lists.{agree_raw, agree_within, as_whole}

pub agree_u32 : Agree reading.u32 formats.u32
agree_u32 = agree_item (numbers.unsigned 32) (IsUnsigned 32)
    (λ p n after e. unsigned_found 32 p n after e)
    (λ at item rest n s. unsigned-again 32 at item rest n s)

agree_signed : (bits : ℕ) → Agree (λ p. given (numbers.signed bits p)) (formats.item (IsSigned bits))
agree_signed bits = agree_item (numbers.signed bits) (IsSigned bits)
    (λ p z after e. signed_found bits p z after e)
    (λ at item rest z s. signed_read bits (place at (item ++ rest)) item rest z refl s)

pub agree_i32 : Agree reading.i32 formats.i32
agree_i32 = agree_signed 32

pub agree_i64 : Agree reading.i64 formats.i64
agree_i64 = agree_signed 64

pub agree_name : Agree reading.name formats.name
agree_name = agree_item names.name names.IsName
    (λ p x after e. name_found p x after e)
    (λ at item rest x s. name_again at item rest x s)

whole_is : (z : ℤ) (n : ℕ) → whole z ≡ Some n → z ≡ pos n
whole_is (pos m) n e = let s : m ≡ n = cc e in ap pos s
whole_is (negsuc m) n e = absurd (cc e)

pub agree_not_below_zero : Agree not_below_zero formats.s33_from_zero
agree_not_below_zero =
    let a = agree_signed 33 in
    record {
      found = λ p n after e.
          let h = then_ok (reading.s33 p) (λ z. some_or Malformed (whole z)) n after e in
          let m = a.found p h.0 h.1 h.2 in
          let k = some_or_ok Malformed (whole h.0) h.1 n after h.3 in
          (m.0, subst (λ (z : ℤ). IsSigned 33 m.0 z) (whole_is h.0 n k.0) m.1, lie_on p h.1 after m.0 m.2 k.1);
      only = λ p item rest n e s.
          ap (λ (o : Result (ℤ × Place) BinaryFault). then o (λ z. some_or Malformed (whole z))) (a.only p item rest (pos n) e s);
      fault = λ p f e. elim (then_err (reading.s33 p) (λ z. some_or Malformed (whole z)) f e) [
        | inl h ↦ a.fault p f h
        | inr h ↦ let k = some_or_err Malformed (whole h.0) h.1 f h.3 in inl k.1
      ];
      first = λ p f h. absurd h;
    }

-- ---- so many parts, one behind another

module _ {A : Type 0} (r : Read A) (F : Format A) (a : Agree r F) where
  times_found : (n : ℕ) (p : Place) (xs : List A) (after : Place) → reading.times n r p ≡ Ok (both xs after) → (item : List ℕ) × ((length xs ≡ n) × InOrder F.Spells item xs) × Lie p item after
  times_found zero p xs after e =
      let s : [] ≡ xs = same_value [] xs p after e in
      ([], subst (λ (ys : List A). (length ys ≡ 0) × InOrder F.Spells [] ys) s (refl {a = 0}, refl {a = []}), no_bytes_lie p after (same_place [] xs p after e))
  times_found (suc n) p xs after e =
      let h = then_ok (r p) (λ x q. then (reading.times n r q) (λ ys. done (x ∷ ys))) xs after e in
      let k = then_ok (reading.times n r h.1) (λ ys. done (h.0 ∷ ys)) xs after h.3 in
      let m = a.found p h.0 h.1 h.2 in
      let t = times_found n h.1 k.0 k.1 k.2 in
      let s : h.0 ∷ k.0 ≡ xs = same_value (h.0 ∷ k.0) xs k.1 after k.3 in (
        m.0 ++ t.0,
        subst (λ (ys : List A). (length ys ≡ suc n) × InOrder F.Spells (m.0 ++ t.0) ys) s (ap suc t.1.0, (m.0, t.0, refl {a = m.0 ++ t.0}, m.1, t.1.1)),
        lie_on p k.1 after (m.0 ++ t.0) (both_lie p h.1 k.1 m.0 t.0 m.2 t.2) (same_place (h.0 ∷ k.0) xs k.1 after k.3),
      )

  times_only : (n : ℕ) (xs : List A) (p : Place) (item rest : List ℕ) → p.left ≡ item ++ rest → length xs ≡ n → InOrder F.Spells item xs → reading.times n r p ≡ done xs (place (p.at + length item) rest)
  times_only zero [] p item rest e l s =
      read_alike [] [] p.at (p.at + length item) p.left rest refl (omega (arith, ap length s)) (e ∙ ap (λ (ys : List ℕ). ys ++ rest) s)
  times_only (suc n) [] p item rest e l s = absurd (omega arith)
  times_only zero (x ∷ xs) p item rest e l s = absurd (omega arith)
  times_only (suc n) (x ∷ xs) p item rest e l s =
      let behind : List ℕ = s.1 ++ rest in
      let here : Place = place (p.at + length s.0) behind in
      let split : p.left ≡ s.0 ++ behind = e ∙ ap (λ (ys : List ℕ). ys ++ rest) s.2 ∙ append_assoc s.0 s.1 rest in
      let few : length xs ≡ n = omega arith in
      ap (λ (o : Result (A × Place) BinaryFault). then o (λ y q. then (reading.times n r q) (λ ys. done (y ∷ ys)))) (a.only p s.0 behind x split s.3)
      ∙ ap (λ (o : Result (List A × Place) BinaryFault). then o (λ ys. done (x ∷ ys))) (times_only n xs here s.1 rest refl few s.4)
      ∙ read_alike (x ∷ xs) (x ∷ xs) ((p.at + length s.0) + length s.1) (p.at + length item) rest rest refl (omega (arith, ap length s.2, length-append s.0 s.1)) refl

  -- so many whole parts, fewer than all, and then a part at fault
  abbrev TimesFail : ℕ → ℕ → List ℕ → BinaryFault → Type 0
  TimesFail n at bytes f = Begins (InOrder F.Spells) bytes (λ xs front rest. (length xs < n) × F.Fails (at + length front) rest f)

  fails_at : (at end : ℕ) (bytes : List ℕ) (f : BinaryFault) → at ≡ end → F.Fails at bytes f → F.Fails end bytes f
  fails_at at end bytes f e h = subst (λ (k : ℕ). F.Fails k bytes f) e h

  fails_first : (n at : ℕ) (bytes : List ℕ) (f : BinaryFault) → F.Fails at bytes f → TimesFail (suc n) at bytes f
  fails_first n at bytes f h = record {
    value = [];
    front = [];
    rest = bytes;
    split = refl;
    spelled = refl;
    holds = (omega arith, fails_at at (at + 0) bytes f (omega arith) h);
  }

  fails_behind : (n at : ℕ) (x : A) (item : List ℕ) (q : Place) (bytes : List ℕ) (f : BinaryFault) → F.Spells item x → Lie (place at bytes) item q → TimesFail n q.at q.left f → TimesFail (suc n) at bytes f
  fails_behind n at x item q bytes f s l t = record {
    value = x ∷ t.value;
    front = item ++ t.front;
    rest = t.rest;
    split = l.left ∙ ap (λ (ys : List ℕ). item ++ ys) t.split ∙ sym (append_assoc item t.front t.rest);
    spelled = (item, t.front, refl, s, t.spelled);
    holds = (omega (arith, t.holds.0), fails_at (q.at + length t.front) (at + length (item ++ t.front)) t.rest f (omega (arith, l.at, length-append item t.front)) t.holds.1);
  }

  times_fault : (n : ℕ) (p : Place) (f : BinaryFault) → reading.times n r p ≡ Err f → (f ≡ Malformed) ⊎ TimesFail n p.at p.left f
  times_fault zero p f e = absurd (cc e)
  times_fault (suc n) p f e = elim (then_err (r p) (λ x q. then (reading.times n r q) (λ ys. done (x ∷ ys))) f e) [
    | inl h ↦ elim (a.fault p f h) [ inl m ↦ inl m | inr m ↦ inr (fails_first n p.at p.left f m) ]
    | inr h ↦ elim (then_err (reading.times n r h.1) (λ ys. done (h.0 ∷ ys)) f h.3) [
      | inl k ↦ elim (times_fault n h.1 f k) [
        | inl m ↦ inl m
        | inr m ↦ let t = a.found p h.0 h.1 h.2 in inr (fails_behind n p.at h.0 t.0 h.1 p.left f t.1 t.2 m)
      ]
      | inr k ↦ absurd (cc k.3)
    ]
  ]

  times_first : (n : ℕ) (xs : List A) (p : Place) (front rest : List ℕ) (f : BinaryFault) → p.left ≡ front ++ rest → InOrder F.Spells front xs → length xs < n → F.Fails (p.at + length front) rest f → reading.times n r p ≡ Err f
  times_first zero xs p front rest f e s l h = absurd (omega arith)
  times_first (suc n) [] p front rest f e s l h =
      let left : rest ≡ p.left = sym (e ∙ ap (λ (ys : List ℕ). ys ++ rest) s) in
      let here : F.Fails p.at p.left f = subst (λ (ys : List ℕ). F.Fails p.at ys f) left (fails_at (p.at + length front) p.at rest f (omega (arith, ap length s)) h) in
      ap (λ (o : Result (A × Place) BinaryFault). then o (λ y q. then (reading.times n r q) (λ ys. done (y ∷ ys)))) (a.first p f here)
  times_first (suc n) (x ∷ xs) p front rest f e s l h =
      let behind : List ℕ = s.1 ++ rest in
      let here : Place = place (p.at + length s.0) behind in
      let split : p.left ≡ s.0 ++ behind = e ∙ ap (λ (ys : List ℕ). ys ++ rest) s.2 ∙ append_assoc s.0 s.1 rest in
      let few : length xs < n = omega arith in
      let there : F.Fails ((p.at + length s.0) + length s.1) rest f = fails_at (p.at + length front) ((p.at + length s.0) + length s.1) rest f (omega (arith, ap length s.2, length-append s.0 s.1)) h in
      ap (λ (o : Result (A × Place) BinaryFault). then o (λ y q. then (reading.times n r q) (λ ys. done (y ∷ ys)))) (a.only p s.0 behind x split s.3)
      ∙ ap (λ (o : Result (List A × Place) BinaryFault). then o (λ ys. done (x ∷ ys))) (times_first n xs here s.1 rest f refl s.4 few there)

  pub agree_times : (n : ℕ) → Agree (reading.times n r) (formats.times n F)
  agree_times n = record {
    found = times_found n;
    only = λ p item rest xs e s. times_only n xs p item rest e s.0 s.1;
    fault = times_fault n;
    first = λ p f h. times_first n h.value p h.front h.rest f h.split h.spelled h.holds.0 h.holds.1;
  }

  pub agree_listed : Agree (reading.listed r) (formats.vector F)
  agree_listed = agree_then reading.u32 (λ n. reading.times n r) formats.u32 (λ n. formats.times n F) agree_u32 agree_times

  pub agree_sized : Agree (reading.sized r) (formats.sized F)
  agree_sized = agree_then reading.u32 (reading.within r) formats.u32 (λ n. formats.within n F) agree_u32 (λ n. agree_within n r F (as_whole a))

pub agree_byte_list : Agree reading.byte_list formats.byte_vector
agree_byte_list = agree_then reading.u32 reading.raw formats.u32 formats.raw agree_u32 agree_raw

-- ---- one of two parts, by the first byte

-- no value is spelled by no bytes
abbrev pub IsNotEmpty : {A : Type 0} → Format A → Type 0
IsNotEmpty F = (x : _) → F.Spells [] x → ⊥

abbrev pub beginning : {A : Type 0} → (ℕ → Bool) → (Bool → Read A) → Read A
beginning test read p = then (peek p) (λ b q. read (test b) q)

peek_is : (p : Place) (b : ℕ) (bs : List ℕ) → p.left ≡ b ∷ bs → peek p ≡ done b p
peek_is p b bs e = ap (λ (xs : List ℕ). then (given (first p.at xs)) (λ c _. done c p)) e

pub nothing_before : (front rest : List ℕ) → [] ≡ front ++ rest → front ≡ []
nothing_before [] rest e = refl
nothing_before (x ∷ xs) rest e = absurd (cc e)

pub nothing_begins : {A : Type 0} (Spells : List ℕ → A → Type 0) (Holds : A → List ℕ → List ℕ → Type 0) → ((x : A) → Spells [] x → ⊥) → Begins Spells [] Holds → ⊥
nothing_begins Spells Holds none b = none b.value (subst (λ (xs : List ℕ). Spells xs b.value) (nothing_before b.front b.rest b.split) b.spelled)

module _ {A : Type 0} (test : ℕ → Bool) (read : Bool → Read A) (F G : Format A) (a : Agree (read true) F) (b : Agree (read false) G) (nf : IsNotEmpty F) (ng : IsNotEmpty G) where
  picked : (c : Bool) → Agree (read c) (part_if c F G)
  picked true = a
  picked false = b

  picked_not_empty : (c : Bool) → IsNotEmpty (part_if c F G)
  picked_not_empty true = nf
  picked_not_empty false = ng

  begins_so : (c : ℕ) (bs item : List ℕ) (after : Place) (at : ℕ) (x : A) → (part_if (test c) F G).Spells item x → Lie (place at (c ∷ bs)) item after → (by_first test F G).Spells item x
  begins_so c bs [] after at x s l = absurd (picked_not_empty (test c) x s)
  begins_so c bs (d ∷ ds) after at x s l =
      let same : c ≡ d = cc (l.left) in
      (c, ds, ap (λ (k : ℕ). k ∷ ds) (sym same), s)

  first_found : (at : ℕ) (left : List ℕ) (x : A) (after : Place) → beginning test read (place at left) ≡ Ok (both x after) → (item : List ℕ) × (by_first test F G).Spells item x × Lie (place at left) item after
  first_found at [] x after e = absurd (cc e)
  first_found at (c ∷ bs) x after e =
      let m = (picked (test c)).found (place at (c ∷ bs)) x after e in
      (m.0, begins_so c bs m.0 after at x m.1 m.2, m.2)

  first_fault : (at : ℕ) (left : List ℕ) (f : BinaryFault) → beginning test read (place at left) ≡ Err f → (f ≡ Malformed) ⊎ (by_first test F G).Fails at left f
  first_fault at [] f e = let s : Malformed ≡ f = cc e in inl (sym s)
  first_fault at (c ∷ bs) f e = elim ((picked (test c)).fault (place at (c ∷ bs)) f e) [ inl m ↦ inl m | inr m ↦ inr (c, bs, refl, m) ]

  pub agree_by_first : Agree (beginning test read) (by_first test F G)
  agree_by_first = record {
    found = λ p x after e. first_found p.at p.left x after e;
    only = λ p item rest x e s.
        ap (λ (o : Result (ℕ × Place) BinaryFault). then o (λ c q. read (test c) q)) (peek_is p s.0 (s.1 ++ rest) (e ∙ ap (λ (xs : List ℕ). xs ++ rest) s.2))
        ∙ (picked (test s.0)).only p item rest x e s.3;
    fault = λ p f e. first_fault p.at p.left f e;
    first = λ p f h.
        ap (λ (o : Result (ℕ × Place) BinaryFault). then o (λ c q. read (test c) q)) (peek_is p h.0 h.1 h.2)
        ∙ (picked (test h.0)).first p f h.3;
  }
