-- Whether bytes are UTF-8, as a test.
use Rattle.std.proofs.Common.{◌≡◌, ℕ, List, Bool, true, false, IsUtf8, refl}
use Rattle.std.specs.Str.{is_utf8}
use Rattle.std.proofs.lemmas.Str.{IsUtf8-from_is_utf8, is_utf8-from_IsUtf8}

pub is_text : (bs : List ℕ) → IsUtf8 bs → is_utf8 bs ≡ true
is_text bs u = is_utf8-from_IsUtf8 bs u

none_if : (b : Bool) → (b ≡ true → ⊥) → b ≡ false
none_if true h = absurd (h refl)
none_if false h = refl

pub is_no_text : (bs : List ℕ) → (IsUtf8 bs → ⊥) → is_utf8 bs ≡ false
is_no_text bs h = none_if (is_utf8 bs) (λ t. h (IsUtf8-from_is_utf8 bs t))
