-- What `parse` answers is the number that a word spells.
use Rattle.std.proofs.Common.{inl, inr, ◌≡◌, ◌≢◌, ℕ, ◌+◌, ◌^◌, ◌<◌, ℤ, pos, neg_ℤ, List, length, drop, get_or, true, false, Option, Some, None, refl, ap, sym, ◌∙◌, arith}
use Rattle.std.specs.Prelude.{◌⊎◌, Bool, Result, Ok, Err, ◌&&◌, ◌==◌, nat_lt, if◌then◌else◌, option_map}
use Rattle.std.specs.Int.{w32, w64}
use Rattle.std.specs.Result.{OkIff, result_ok}
use Rattle.std.specs.Str.{all_ascii_digits}
use Rattle.std.specs.Str.Parse.{digits_value, without_leading_plus, ParsesUnsigned, ParsesSigned}
use Rattle.std.proofs.lemmas.Bool.{false≢true, ltb-true, lt-ltb}
use Rattle.std.proofs.lemmas.Bool.Decides.{eqb_tells}
use Rattle.std.proofs.lemmas.Str.Parse.{IsNumeralModel, numerals_by_value, tells_all_ascii_digits, without_leading_plus_none, without_leading_plus_plus, parse_plain, parse_plus, parse_signed_minus, parse_signed_plain, parse_signed_plus}
use Rattle.binary_run.specs.Numbers.{is_numeral, below, unsigned, signed}

own : IsNumeralModel (λ ds. all_ascii_digits ds ≡ true) (digits_value 10)
own = numerals_by_value _ tells_all_ascii_digits

-- three tests in one
all_three : (a b c : Bool) → ((a && b) && c) ≡ true → (a ≡ true) × (b ≡ true) × (c ≡ true)
all_three true true true e = (refl, refl, refl)
all_three true true false e = (refl, refl, e)
all_three true false c e = absurd (false≢true e)
all_three false b c e = absurd (false≢true e)

module _ (bound : ℕ) (ds : List ℕ) where
  abbrev Fits : Type 0
  Fits = (all_ascii_digits ds ≡ true) × (0 < length ds) × (digits_value 10 ds < bound)

  abbrev test : Bool
  test = is_numeral ds && nat_lt (digits_value 10 ds) bound

  tested : Fits → test ≡ true
  tested f = rw (lt-ltb 0 (length ds) f.1, f.0, lt-ltb (digits_value 10 ds) bound f.2) refl

  fits : test ≡ true → Fits
  fits e =
      let three = all_three (nat_lt 0 (length ds)) (all_ascii_digits ds) (nat_lt (digits_value 10 ds) bound) e in
      (three.1, ltb-true 0 (length ds) three.0, ltb-true (digits_value 10 ds) bound three.2)

  some_by : (t : Bool) → t ≡ true → (if t then Some (digits_value 10 ds) else None) ≡ Some (digits_value 10 ds)
  some_by true e = refl
  some_by false e = absurd (false≢true e)

  none_by : (t : Bool) → test ≡ t → ¬ Fits → (if t then Some (digits_value 10 ds) else None) ≡ None
  none_by true e not_so = absurd (not_so (fits e))
  none_by false e not_so = refl

  -- what a parse answers that takes these digits, each number below the bound as another
  read : {E A : Type 0} (f : ℕ → A) (Q : Type 0) → (Q → digits_value 10 ds < bound) → (digits_value 10 ds < bound → Q) →
      (r : Result A E) →
      OkIff r ((all_ascii_digits ds ≡ true) × (0 < length ds) × Q) (f (digits_value 10 ds)) →
      result_ok r ≡ option_map f (below bound ds)
  read f Q to from (Ok n) h =
      ap Some h.1 ∙ sym (ap (λ o. option_map f o) (some_by test (tested (h.0.0, h.0.1, to h.0.2))))
  read f Q to from (Err e) h =
      sym (ap (λ o. option_map f o) (none_by test refl (λ (p : Fits). h (p.0, p.1, from p.2))))

same_option : {A : Type 0} (o : Option A) → option_map (λ n. n) o ≡ o
same_option None = refl
same_option (Some x) = refl

module _ {E : Type 0} (word : List ℕ) where
  pub unsigned_read : (count : ℕ) (r : Result ℕ E) → ParsesUnsigned count 10 word r → result_ok r ≡ unsigned count word
  unsigned_read count r h = plus_by (eqb_tells (get_or word 0 0) 43)
    where
      plus_by : (((get_or word 0 0 == 43) ≡ true) × (get_or word 0 0 ≡ 43)) ⊎ (((get_or word 0 0 == 43) ≡ false) × (get_or word 0 0 ≢ 43)) →
          result_ok r ≡ unsigned count word
      plus_by (inl p) = rw (without_leading_plus_plus word p.1)
          (read (2 ^ count) (drop 1 word) (λ n. n) _ (λ q. q) (λ q. q) r (parse_plus own count word r h p.1)
          ∙ same_option (below (2 ^ count) (drop 1 word)))
      plus_by (inr p) = rw (without_leading_plus_none word p.1)
          (read (2 ^ count) word (λ n. n) _ (λ q. q) (λ q. q) r (parse_plain own count word r h p.1)
          ∙ same_option (below (2 ^ count) word))

  -- without a minus, of 32 bits and of 64
  plain_32 : (r : Result ℤ E) → ParsesSigned w32 10 word r → get_or word 0 0 ≢ 45 →
      (((get_or word 0 0 == 43) ≡ true) × (get_or word 0 0 ≡ 43)) ⊎ (((get_or word 0 0 == 43) ≡ false) × (get_or word 0 0 ≢ 43)) →
      result_ok r ≡ option_map pos (below (2 ^ 31) (without_leading_plus word))
  plain_32 r h not_so (inl p) = rw (without_leading_plus_plus word p.1)
      (read (2 ^ 31) (drop 1 word) pos _ (λ q. q) (λ q. q) r (parse_signed_plus own w32 word r h p.1))
  plain_32 r h not_so (inr p) = rw (without_leading_plus_none word p.1)
      (read (2 ^ 31) word pos _ (λ q. q) (λ q. q) r (parse_signed_plain own w32 word r h p.1 not_so))

  plain_64 : (r : Result ℤ E) → ParsesSigned w64 10 word r → get_or word 0 0 ≢ 45 →
      (((get_or word 0 0 == 43) ≡ true) × (get_or word 0 0 ≡ 43)) ⊎ (((get_or word 0 0 == 43) ≡ false) × (get_or word 0 0 ≢ 43)) →
      result_ok r ≡ option_map pos (below (2 ^ 63) (without_leading_plus word))
  plain_64 r h not_so (inl p) = rw (without_leading_plus_plus word p.1)
      (read (2 ^ 63) (drop 1 word) pos _ (λ q. q) (λ q. q) r (parse_signed_plus own w64 word r h p.1))
  plain_64 r h not_so (inr p) = rw (without_leading_plus_none word p.1)
      (read (2 ^ 63) word pos _ (λ q. q) (λ q. q) r (parse_signed_plain own w64 word r h p.1 not_so))

  pub signed_read_32 : (r : Result ℤ E) → ParsesSigned w32 10 word r → result_ok r ≡ signed 32 word
  signed_read_32 r h = minus_by (eqb_tells (get_or word 0 0) 45)
    where
      minus_by : (((get_or word 0 0 == 45) ≡ true) × (get_or word 0 0 ≡ 45)) ⊎ (((get_or word 0 0 == 45) ≡ false) × (get_or word 0 0 ≢ 45)) →
          result_ok r ≡ signed 32 word
      minus_by (inl p) = rw p.0 (read (2 ^ 31 + 1) (drop 1 word) (λ n. neg_ℤ (pos n)) _ (λ q. omega (arith, q)) (λ q. omega (arith, q)) r
          (parse_signed_minus own w32 word r h p.1))
      minus_by (inr p) = rw p.0 (plain_32 r h p.1 (eqb_tells (get_or word 0 0) 43))

  pub signed_read_64 : (r : Result ℤ E) → ParsesSigned w64 10 word r → result_ok r ≡ signed 64 word
  signed_read_64 r h = minus_by (eqb_tells (get_or word 0 0) 45)
    where
      minus_by : (((get_or word 0 0 == 45) ≡ true) × (get_or word 0 0 ≡ 45)) ⊎ (((get_or word 0 0 == 45) ≡ false) × (get_or word 0 0 ≢ 45)) →
          result_ok r ≡ signed 64 word
      minus_by (inl p) = rw p.0 (read (2 ^ 63 + 1) (drop 1 word) (λ n. neg_ℤ (pos n)) _ (λ q. omega (arith, q)) (λ q. omega (arith, q)) r
          (parse_signed_minus own w64 word r h p.1))
      minus_by (inr p) = rw p.0 (plain_64 r h p.1 (eqb_tells (get_or word 0 0) 43))
