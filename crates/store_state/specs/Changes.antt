-- A change of one item of a list that takes place only where a test holds. This project's own.
use Rattle.std.specs.Prelude.{ℕ, ◌≡◌, Bool, List, set, slice_get, Option, Some}
use Rattle.std.specs.Bool.{OnTrue, OnFalse}

-- the item at a place is tested: where the test holds it is changed, and nothing else; where not, nothing is
pub record Changes {A : Type 0} (n : ℕ) (test : A → Bool) (after : A → A) (old : List A) (done : Bool) (new : List A) :
    Type 0 where
  pub tested : (x : A) → slice_get old n ≡ Some x → done ≡ test x
  pub changed : (x : A) → slice_get old n ≡ Some x → OnTrue done (new ≡ set old n (after x))
  pub refused : OnFalse done (new ≡ old)

-- the same of one thing alone
pub record Becomes {A : Type 0} (test : A → Bool) (after : A → A) (old : A) (done : Bool) (new : A) : Type 0 where
  pub tested : done ≡ test old
  pub changed : OnTrue done (new ≡ after old)
  pub refused : OnFalse done (new ≡ old)

-- the first with an item of another list, or of this one, as it was
abbrev pub ChangesBy : {A B : Type 0} → ℕ → Option B → (B → A → Bool) → (B → A → A) → List A → Bool → List A → Type 0
ChangesBy {A} {B} n source test after old done new =
    (y : B) → source ≡ Some y → Changes n (test y) (after y) old done new
