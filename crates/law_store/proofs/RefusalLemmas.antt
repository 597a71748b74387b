-- A call that was not refused found its object, and has passed each of its tests.
use Rattle.std.proofs.Common.{◌≡◌, Bool, true, false, Option, Some, None, Result, Ok, Err, ok_or, if◌then◌else◌, refl, ap}
use Rattle.std.proofs.lemmas.Option.{same_Some}
use Rattle.std.specs.Result.{result_ok}
use Rattle.wasm_values.specs.declared.refusals.Refusal.{Refusal}
use Rattle.spec_machine.specs.Steps.{◌>>=◌, unless}

pub given_is : {A : Type 0} (x y : A) → ◌≡◌ {A = Result A Refusal} (Ok x) (Ok y) → x ≡ y
given_is x y e = same_Some x y (ap result_ok e)

-- the object, its tests, and what the call gave; a call of fewer tests passes true
pub record Passed {A B : Type 0} (own : Bool) (o : Option A) (first second third : A → Bool) (gives : A →
    B) (y : B) : Type 0 where
  pub object : A
  pub here : own ≡ true
  pub found : o ≡ Some object
  pub one : first object ≡ true
  pub two : second object ≡ true
  pub three : third object ≡ true
  pub is : gives object ≡ y

module _ {A B : Type 0} (y : B) where
  by_tests : (w₁ w₂ w₃ : Refusal) (x : A) (b₁ b₂ b₃ : Bool) (first second third : A → Bool) (gives : A → B) →
      first x ≡ b₁ → second x ≡ b₂ → third x ≡ b₃ →
      ◌≡◌ {A = Result B Refusal} (unless w₁ b₁ >>=
      (λ _. unless w₂ b₂ >>= (λ _. unless w₃ b₃ >>= (λ _. Ok (gives x))))) (Ok y) →
      Passed true (Some x) first second third gives y
  by_tests w₁ w₂ w₃ x true true true first second third gives p q r e =
      record { object = x; here = refl; found = refl; one = p; two = q; three = r; is = given_is (gives x) y e }
  by_tests w₁ w₂ w₃ x true true false first second third gives p q r e = absurd cc
  by_tests w₁ w₂ w₃ x true false b₃ first second third gives p q r e = absurd cc
  by_tests w₁ w₂ w₃ x false b₂ b₃ first second third gives p q r e = absurd cc

  -- a call on an object of a store
  pub passed : (w w₁ w₂ w₃ : Refusal) (own : Bool) (o : Option A) (first second third : A → Bool) (gives : A → B) →
      ◌≡◌ {A = Result B Refusal} ((if own then ok_or o w else Err w) >>=
      (λ x. unless w₁ (first x) >>= (λ _. unless w₂ (second x) >>=
      (λ _. unless w₃ (third x) >>= (λ _. Ok (gives x)))))) (Ok y) →
      Passed own o first second third gives y
  passed w w₁ w₂ w₃ true (Some x) first second third gives e =
      by_tests w₁ w₂ w₃ x (first x) (second x) (third x) first second third gives refl refl refl e
  passed w w₁ w₂ w₃ true None first second third gives e = absurd cc
  passed w w₁ w₂ w₃ false o first second third gives e = absurd cc
