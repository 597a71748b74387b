-- Numbers as they are read are those of the grammar.
use Rattle.std.proofs.Common.{◌≡◌, ℕ, ◌+◌, ◌-◌, ◌*◌, ◌^◌, ◌<◌, ◌≤◌, ◌⊎◌, inl, inr, ℤ, pos, ◌+ℤ◌, ◌*ℤ◌, List, [], ◌∷◌, ◌++◌, length, Option, Some, None, option_map, Bool, true, false, nat_lt, nat_le, arith, sym, ◌∙◌, ap, refl, subst, if◌then◌else◌}
use Rattle.std.proofs.lemmas.Bool.{ltb-true, ltb-false, leb-true, lt-ltb, le-ltb, le-leb}
use Rattle.wasm_leb.specs.Items.{Lie, ReadsItem}
use Rattle.wasm_leb.specs.Numbers.{IsUnsigned, IsSignedByte, IsSigned, unsigned, signed, with_low, unsigned_at, signed_byte, with_low_signed, signed_at}
use Rattle.wasm_leb.specs.Places.{Place, place, Reads}

-- what a choice by a test came to, and which way the test went
pub chosen : {A : Type 0} (b : Bool) (x y z : A) → (if b then x else y) ≡ z → ((b ≡ true) × (x ≡ z)) ⊎ ((b ≡ false) × (y ≡ z))
chosen true x y z e = inl (refl, e)
chosen false x y z e = inr (refl, e)

pub taken : {A : Type 0} (b : Bool) (x y : A) → b ≡ true → (if b then x else y) ≡ x
taken true x y e = refl
taken false x y e = absurd (cc e)

left_out : {A : Type 0} (b : Bool) (x y : A) → b ≡ false → (if b then x else y) ≡ y
left_out false x y e = refl
left_out true x y e = absurd (cc e)

pub mapped : {A B : Type 0} (f : A → B) (o : Option A) (y : B) → option_map f o ≡ Some y → (x : A) × (o ≡ Some x) × (f x ≡ y)
mapped f None y e = absurd (cc e)
mapped f (Some x) y e = (x, refl, cc e)

-- what was read, and where it ends
abbrev pub both : {A : Type 0} → A → Place → A × Place
both x p = (x, p)

-- one byte, and bytes behind one
one_lies : (at b : ℕ) (bs : List ℕ) (end : Place) → place (at + 1) bs ≡ end → Lie (place at (b ∷ bs)) (b ∷ []) end
one_lies at b bs end e =
    subst (λ (q : Place). Lie (place at (b ∷ bs)) (b ∷ []) q) e (record { left = refl; at = refl })

more_lie : (at b : ℕ) (bs item : List ℕ) (end : Place) → Lie (place (at + 1) bs) item end → Lie (place at (b ∷ bs)) (b ∷ item) end
more_lie at b bs item end l = record { left = ap (λ (xs : List ℕ). b ∷ xs) l.left; at = omega (arith, l.at) }

-- a group of seven bits in front
longer : (bits b : ℕ) (item : List ℕ) (n : ℕ) → 128 ≤ b → 7 < bits → IsUnsigned (bits - 7) item n → IsUnsigned bits (b ∷ item) ((b - 128) + 128 * n)
longer bits b [] n h k u = absurd u
longer bits b (c ∷ cs) n h k u = (h, k, n, u, refl)

pub record Found {A : Type 0} (Spells : List ℕ → A → Type 0) (at : ℕ) (bytes : List ℕ) (x : A) (end : Place) : Type 0 where
  pub item : List ℕ
  pub spelled : Spells item x
  pub lie : Lie (place at bytes) item end

found_last : (bits at b : ℕ) (bs : List ℕ) (n : ℕ) (end : Place) → b < 128 → (if nat_lt b (2 ^ bits) then Some (both b (place (at + 1) bs)) else None) ≡ Some (n, end) → Found (IsUnsigned bits) at (b ∷ bs) n end
found_last bits at b bs n end h e =
    elim (chosen (nat_lt b (2 ^ bits)) (Some (both b (place (at + 1) bs))) None (Some (n, end)) e) as (λ _. Found (IsUnsigned bits) at (b ∷ bs) n end) [
      | inl k ↦ let same : both b (place (at + 1) bs) ≡ (n, end) = cc k.1 in
          record { item = b ∷ []; spelled = (h, ltb-true b (2 ^ bits) k.0, sym (ap (λ (r : ℕ × Place). r.0) same)); lie = one_lies at b bs end (ap (λ (r : ℕ × Place). r.1) same) }
      | inr k ↦ absurd (cc k.1)
    ]

found_more : (bits at b : ℕ) (bs : List ℕ) (n : ℕ) (end : Place) (high : ℕ × Place) → 128 ≤ b → 7 < bits → with_low b high ≡ (n, end) → Found (IsUnsigned (bits - 7)) (at + 1) bs high.0 high.1 → Found (IsUnsigned bits) at (b ∷ bs) n end
found_more bits at b bs n end high h k e f =
    subst (λ (r : ℕ × Place). Found (IsUnsigned bits) at (b ∷ bs) r.0 r.1) e
    (record { item = b ∷ f.item; spelled = longer bits b f.item high.0 h k f.spelled; lie = more_lie at b bs f.item high.1 f.lie })

pub unsigned_at-found : (bits at : ℕ) (bytes : List ℕ) (n : ℕ) (end : Place) → unsigned_at bits at bytes ≡ Some (n, end) → Found (IsUnsigned bits) at bytes n end
unsigned_at-found bits at [] n end e = absurd (cc e)
unsigned_at-found bits at (b ∷ bs) n end e =
    elim (chosen (nat_lt b 128) _ _ (Some (n, end)) e) as (λ _. Found (IsUnsigned bits) at (b ∷ bs) n end) [
      | inl h ↦ found_last bits at b bs n end (ltb-true b 128 h.0) h.1
      | inr h ↦ elim (chosen (nat_lt 7 bits) _ _ (Some (n, end)) h.1) as (λ _. Found (IsUnsigned bits) at (b ∷ bs) n end) [
        | inl k ↦ let m : (high : ℕ × Place) × (unsigned_at (bits - 7) (at + 1) bs ≡ Some high) × (with_low b high ≡ (n, end)) = mapped (with_low b) (unsigned_at (bits - 7) (at + 1) bs) (n, end) k.1 in
            found_more bits at b bs n end m.0 (ltb-false b 128 h.0) (ltb-true 7 bits k.0) m.2 (unsigned_at-found (bits - 7) (at + 1) bs m.0.0 m.0.1 m.1)
        | inr k ↦ absurd (cc k.1)
      ]
    ]

read_alike : (m n at end : ℕ) (rest : List ℕ) → m ≡ n → at ≡ end → Some (both m (place at rest)) ≡ Some (both n (place end rest))
read_alike m n at end rest p q = cc

pub none_or : {A : Type 0} (o : Option A) (x : A) → o ≡ None → o ≡ Some x → ⊥
none_or o x e f = cc

-- what the grammar spells is read, whatever follows
pub unsigned_at-again : (bits at : ℕ) (item rest : List ℕ) (n : ℕ) → IsUnsigned bits item n → unsigned_at bits at (item ++ rest) ≡ Some (n, place (at + length item) rest)
unsigned_at-again bits at [] rest n u = absurd u
unsigned_at-again bits at (b ∷ []) rest n u =
    taken (nat_lt b 128) _ _ (lt-ltb b 128 u.0) ∙ taken (nat_lt b (2 ^ bits)) _ _ (lt-ltb b (2 ^ bits) u.1)
    ∙ ap (λ (m : ℕ). Some (m, place (at + 1) rest)) (sym u.2)
unsigned_at-again bits at (b ∷ c ∷ bs) rest n u =
    left_out (nat_lt b 128) _ _ (le-ltb b 128 u.0) ∙ taken (nat_lt 7 bits) _ _ (lt-ltb 7 bits u.1)
    ∙ ap (option_map (with_low b)) (unsigned_at-again (bits - 7) (at + 1) (c ∷ bs) rest u.2 u.3)
    ∙ read_alike _ _ _ _ rest (sym u.4) (omega arith)

-- an answer of the reader is one of the grammar
pub unsigned_found : (bits : ℕ) (p : Place) (n : ℕ) (new : Place) → unsigned bits p ≡ Some (n, new) → (item : List ℕ) × IsUnsigned bits item n × Lie p item new
unfolding unsigned
unsigned_found bits p n new e = let f : Found (IsUnsigned bits) p.at p.left n new = unsigned_at-found bits p.at p.left n new e in (f.item, f.spelled, f.lie)

pub unsigned-again : (bits at : ℕ) (item rest : List ℕ) (n : ℕ) → IsUnsigned bits item n → unsigned bits (place at (item ++ rest)) ≡ Some (n, place (at + length item) rest)
unfolding unsigned
unsigned-again bits at item rest n u = unsigned_at-again bits at item rest n u

pub unsigned_none : (bits : ℕ) (p : Place) → unsigned bits p ≡ None → (item rest : List ℕ) → p.left ≡ item ++ rest → (n : ℕ) → IsUnsigned bits item n → ⊥
unfolding unsigned
unsigned_none bits p e item rest split n u =
    none_or (unsigned_at bits p.at (item ++ rest)) _ (ap (unsigned_at bits p.at) (sym split) ∙ e) (unsigned_at-again bits p.at item rest n u)

-- numbers with sign, in the same way
byte_found : (bits b : ℕ) (z : ℤ) → b < 128 → signed_byte bits b ≡ Some z → IsSignedByte bits b z
byte_found bits b z h e =
    elim (chosen (nat_lt b 64) _ _ (Some z) e) as (λ _. IsSignedByte bits b z) [
      | inl k ↦ elim (chosen (nat_lt b (2 ^ (bits - 1))) _ _ (Some z) k.1) as (λ _. IsSignedByte bits b z) [
        | inl l ↦ inl (ltb-true b 64 k.0, ltb-true b (2 ^ (bits - 1)) l.0, cc l.1)
        | inr l ↦ absurd (cc l.1)
      ]
      | inr k ↦ elim (chosen (nat_le 128 (b + 2 ^ (bits - 1))) _ _ (Some z) k.1) as (λ _. IsSignedByte bits b z) [
        | inl l ↦ inr (ltb-false b 64 k.0, h, leb-true 128 (b + 2 ^ (bits - 1)) l.0, cc l.1)
        | inr l ↦ absurd (cc l.1)
      ]
    ]

byte_again : (bits b : ℕ) (z : ℤ) → IsSignedByte bits b z → (b < 128) × (signed_byte bits b ≡ Some z)
byte_again bits b z (inl u) =
    let small : b < 64 = u.0 in
    (omega arith, taken (nat_lt b 64) _ _ (lt-ltb b 64 small) ∙ taken (nat_lt b (2 ^ (bits - 1))) _ _ (lt-ltb b (2 ^ (bits - 1)) u.1) ∙ ap (λ (x : ℤ). Some x) (sym u.2))
byte_again bits b z (inr u) =
    (u.1, left_out (nat_lt b 64) _ _ (le-ltb b 64 u.0) ∙ taken (nat_le 128 (b + 2 ^ (bits - 1))) _ _ (le-leb 128 (b + 2 ^ (bits - 1)) u.2) ∙ ap (λ (x : ℤ). Some x) (sym u.3))

longer_signed : (bits b : ℕ) (item : List ℕ) (z : ℤ) → 128 ≤ b → 7 < bits → IsSigned (bits - 7) item z → IsSigned bits (b ∷ item) (pos (b - 128) +ℤ pos 128 *ℤ z)
longer_signed bits b [] z h k u = absurd u
longer_signed bits b (c ∷ cs) z h k u = (h, k, z, u, refl)

found_last_signed : (bits at b : ℕ) (bs : List ℕ) (z : ℤ) (end : Place) → b < 128 → option_map (λ (y : ℤ). both y (place (at + 1) bs)) (signed_byte bits b) ≡ Some (z, end) → Found (IsSigned bits) at (b ∷ bs) z end
found_last_signed bits at b bs z end h e =
    let m : (y : ℤ) × (signed_byte bits b ≡ Some y) × (both y (place (at + 1) bs) ≡ (z, end)) = mapped (λ (y : ℤ). both y (place (at + 1) bs)) (signed_byte bits b) (z, end) e in
    let same : m.0 ≡ z = ap (λ (r : ℤ × Place). r.0) m.2 in
    record { item = b ∷ []; spelled = byte_found bits b z h (m.1 ∙ ap (λ (x : ℤ). Some x) same); lie = one_lies at b bs end (ap (λ (r : ℤ × Place). r.1) m.2) }

found_more_signed : (bits at b : ℕ) (bs : List ℕ) (z : ℤ) (end : Place) (high : ℤ × Place) → 128 ≤ b → 7 < bits → with_low_signed b high ≡ (z, end) → Found (IsSigned (bits - 7)) (at + 1) bs high.0 high.1 → Found (IsSigned bits) at (b ∷ bs) z end
found_more_signed bits at b bs z end high h k e f =
    subst (λ (r : ℤ × Place). Found (IsSigned bits) at (b ∷ bs) r.0 r.1) e
    (record { item = b ∷ f.item; spelled = longer_signed bits b f.item high.0 h k f.spelled; lie = more_lie at b bs f.item high.1 f.lie })

pub signed_at-found : (bits at : ℕ) (bytes : List ℕ) (z : ℤ) (end : Place) → signed_at bits at bytes ≡ Some (z, end) → Found (IsSigned bits) at bytes z end
signed_at-found bits at [] z end e = absurd (cc e)
signed_at-found bits at (b ∷ bs) z end e =
    elim (chosen (nat_lt b 128) _ _ (Some (z, end)) e) as (λ _. Found (IsSigned bits) at (b ∷ bs) z end) [
      | inl h ↦ found_last_signed bits at b bs z end (ltb-true b 128 h.0) h.1
      | inr h ↦ elim (chosen (nat_lt 7 bits) _ _ (Some (z, end)) h.1) as (λ _. Found (IsSigned bits) at (b ∷ bs) z end) [
        | inl k ↦ let m : (high : ℤ × Place) × (signed_at (bits - 7) (at + 1) bs ≡ Some high) × (with_low_signed b high ≡ (z, end)) = mapped (with_low_signed b) (signed_at (bits - 7) (at + 1) bs) (z, end) k.1 in
            found_more_signed bits at b bs z end m.0 (ltb-false b 128 h.0) (ltb-true 7 bits k.0) m.2 (signed_at-found (bits - 7) (at + 1) bs m.0.0 m.0.1 m.1)
        | inr k ↦ absurd (cc k.1)
      ]
    ]

signed_alike : (y z : ℤ) (at end : ℕ) (rest : List ℕ) → y ≡ z → at ≡ end → Some (both y (place at rest)) ≡ Some (both z (place end rest))
signed_alike y z at end rest p q = cc

pub signed_at-again : (bits at : ℕ) (item rest : List ℕ) (z : ℤ) → IsSigned bits item z → signed_at bits at (item ++ rest) ≡ Some (z, place (at + length item) rest)
signed_at-again bits at [] rest z u = absurd u
signed_at-again bits at (b ∷ []) rest z u =
    let again : (b < 128) × (signed_byte bits b ≡ Some z) = byte_again bits b z u in
    taken (nat_lt b 128) _ _ (lt-ltb b 128 again.0) ∙ ap (option_map (λ (y : ℤ). both y (place (at + 1) rest))) again.1
signed_at-again bits at (b ∷ c ∷ bs) rest z u =
    left_out (nat_lt b 128) _ _ (le-ltb b 128 u.0) ∙ taken (nat_lt 7 bits) _ _ (lt-ltb 7 bits u.1)
    ∙ ap (option_map (with_low_signed b)) (signed_at-again (bits - 7) (at + 1) (c ∷ bs) rest u.2 u.3)
    ∙ signed_alike _ _ _ _ rest (sym u.4) (omega arith)

pub signed_found : (bits : ℕ) (p : Place) (z : ℤ) (new : Place) → signed bits p ≡ Some (z, new) → (item : List ℕ) × IsSigned bits item z × Lie p item new
unfolding signed
signed_found bits p z new e = let f : Found (IsSigned bits) p.at p.left z new = signed_at-found bits p.at p.left z new e in (f.item, f.spelled, f.lie)

pub signed_none : (bits : ℕ) (p : Place) → signed bits p ≡ None → (item rest : List ℕ) → p.left ≡ item ++ rest → (z : ℤ) → IsSigned bits item z → ⊥
unfolding signed
signed_none bits p e item rest split z u =
    none_or (signed_at bits p.at (item ++ rest)) _ (ap (signed_at bits p.at) (sym split) ∙ e) (signed_at-again bits p.at item rest z u)

pub signed_item : (bits : ℕ) (p : Place) (r : Option ℤ) (new : Place) → Reads (signed bits p) p r new → ReadsItem (IsSigned bits) p r new
signed_item bits p (Some z) new h = signed_found bits p z new h
signed_item bits p None new h = signed_none bits p h.0
