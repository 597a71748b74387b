-- Names as they are read are those of the grammar.
use Rattle.std.proofs.Common.{◌≡◌, ℕ, ◌+◌, ◌≤◌, inl, inr, List, ◌++◌, length, take, Option, Some, None, option_and_then, true, nat_le, arith, sym, ◌∙◌, ap, refl, subst, append_assoc}
use Rattle.std.proofs.Math.Seq.{take-append_seam, drop-append_seam}
use Rattle.std.proofs.lemmas.Bool.{leb-true, le-leb}
use Rattle.std.proofs.lemmas.List.{length-append, length-take-le, take-append-drop}
use Rattle.std.specs.Str.{is_utf8}
use Rattle.std.proofs.lemmas.Str.{IsUtf8-from_is_utf8, is_utf8-from_IsUtf8}
use Rattle.wasm_leb.specs.Items.{Lie}
use Rattle.wasm_leb.specs.Names.{IsName, if_text, name}
use Rattle.wasm_leb.specs.Numbers.{IsUnsigned, unsigned}
use Rattle.wasm_leb.specs.Places.{Place, place, bytes, further}
use Rattle.wasm_leb.proofs.NumberLemmas.{both, chosen, taken, none_or, unsigned_found, unsigned-again}

pub chained : {A B : Type 0} (f : A → Option B) (o : Option A) (y : B) → option_and_then f o ≡ Some y → (x : A) × (o ≡ Some x) × (f x ≡ Some y)
chained f None y e = absurd (cc e)
chained f (Some x) y e = (x, refl, e)

lie_of : (n : ℕ) (p : Place) (text : List ℕ) (new : Place) → nat_le n (length p.left) ≡ true → take n p.left ≡ text → further n p ≡ new → (length text ≡ n) × Lie p text new
lie_of n p text new h s t =
    let long : n ≤ length p.left = leb-true n (length p.left) h in
    let size : length (take n p.left) ≡ n = length-take-le n p.left long in
    subst (λ (q : Place). (length text ≡ n) × Lie p text q) t
    (subst (λ (xs : List ℕ). (length xs ≡ n) × Lie p xs (further n p)) s
    (size, record { left = sym (take-append-drop n p.left); at = ap (λ (k : ℕ). p.at + k) (sym size) }))

-- so many bytes lie between two places
bytes_lie : (n : ℕ) (p : Place) (text : List ℕ) (new : Place) → bytes n p ≡ Some (text, new) → (length text ≡ n) × Lie p text new
bytes_lie n p text new e =
    elim (chosen (nat_le n (length p.left)) (Some (both (take n p.left) (further n p))) None (Some (text, new)) e) as (λ _. (length text ≡ n) × Lie p text new) [
      | inl h ↦ let same : both (take n p.left) (further n p) ≡ (text, new) = cc h.1 in
          lie_of n p text new h.0 (ap (λ (r : List ℕ × Place). r.0) same) (ap (λ (r : List ℕ × Place). r.1) same)
      | inr h ↦ absurd (cc h.1)
    ]

read_alike : (a b c d : List ℕ) (end : ℕ) → a ≡ b → c ≡ d → Some (both a (place end c)) ≡ Some (both b (place end d))
read_alike a b c d end p q = cc

bytes_again : (at : ℕ) (text rest : List ℕ) → bytes (length text) (place at (text ++ rest)) ≡ Some (text, place (at + length text) rest)
bytes_again at text rest =
    taken (nat_le (length text) (length (text ++ rest))) _ _ (le-leb _ _ (omega (arith, length-append text rest)))
    ∙ read_alike _ _ _ _ (at + length text) (take-append_seam text rest) (drop-append_seam text rest)

two_lie : (p : Place) (count text : List ℕ) (q new : Place) → Lie p count q → Lie q text new → Lie p (count ++ text) new
two_lie p count text q new l m = record {
  left = l.left ∙ ap (λ (xs : List ℕ). count ++ xs) m.left ∙ sym (append_assoc count text new.left);
  at = omega (arith, l.at, m.at, length-append count text);
}

pub name_found : (p : Place) (text : List ℕ) (new : Place) → name p ≡ Some (text, new) → (item : List ℕ) × IsName item text × Lie p item new
unfolding name
name_found p text new e =
    let m : (r : List ℕ × Place) × (option_and_then (λ (count : ℕ × Place). bytes count.0 count.1) (unsigned 32 p) ≡ Some r) × (if_text r ≡ Some (text, new)) = chained if_text _ (text, new) e in
    let k : (count : ℕ × Place) × (unsigned 32 p ≡ Some count) × (bytes count.0 count.1 ≡ Some m.0) = chained (λ (count : ℕ × Place). bytes count.0 count.1) (unsigned 32 p) m.0 m.1 in
    let f : (item : List ℕ) × IsUnsigned 32 item k.0.0 × Lie p item k.0.1 = unsigned_found 32 p k.0.0 k.0.1 k.1 in
    let b : (length m.0.0 ≡ k.0.0) × Lie k.0.1 m.0.0 m.0.1 = bytes_lie k.0.0 k.0.1 m.0.0 m.0.1 k.2 in
    elim (chosen (is_utf8 m.0.0) (Some m.0) None (Some (text, new)) m.2) as (λ _. (item : List ℕ) × IsName item text × Lie p item new) [
      | inl h ↦ let same : m.0 ≡ (text, new) = cc h.1 in
          subst (λ (r : List ℕ × Place). (item : List ℕ) × IsName item r.0 × Lie p item r.1) same
          (f.0 ++ m.0.0, record { count = f.0; counted = subst (λ (n : ℕ). IsUnsigned 32 f.0 n) (sym b.0) f.1; utf8 = IsUtf8-from_is_utf8 m.0.0 h.0; spelled = refl }, two_lie p f.0 m.0.0 k.0.1 m.0.1 f.2 b.1)
      | inr h ↦ absurd (cc h.1)
    ]

pub name_again : (at : ℕ) (item rest text : List ℕ) → IsName item text → name (place at (item ++ rest)) ≡ Some (text, place (at + length item) rest)
unfolding name
name_again at item rest text n =
    let split : item ++ rest ≡ n.count ++ (text ++ rest) = ap (λ (xs : List ℕ). xs ++ rest) n.spelled ∙ append_assoc n.count text rest in
    let counted : unsigned 32 (place at (item ++ rest)) ≡ Some (length text, place (at + length n.count) (text ++ rest)) =
    ap (λ (xs : List ℕ). unsigned 32 (place at xs)) split ∙ unsigned-again 32 at n.count (text ++ rest) (length text) n.counted in
    ap (λ (o : Option (ℕ × Place)). option_and_then if_text (option_and_then (λ (count : ℕ × Place). bytes count.0 count.1) o)) counted
    ∙ ap (option_and_then if_text) (bytes_again (at + length n.count) text rest)
    ∙ taken (is_utf8 text) _ _ (is_utf8-from_IsUtf8 text n.utf8)
    ∙ ap (λ (end : ℕ). Some (both text (place end rest))) (omega (arith, length-append n.count text, ap length n.spelled))

pub name_none : (p : Place) → name p ≡ None → (item rest : List ℕ) → p.left ≡ item ++ rest → (text : List ℕ) → IsName item text → ⊥
name_none p e item rest split text n =
    none_or (name (place p.at (item ++ rest))) _ (ap (λ (xs : List ℕ). name (place p.at xs)) (sym split) ∙ e) (name_again p.at item rest text n)
