-- Function types of another depth or size are not equal.
use Rattle.std.specs.Prelude.{ℕ, Bool, true, false, ◌≡◌, refl}
use Rattle.std.proofs.Common.{ap, sym, ◌∙◌}
use Rattle.wasm_types.specs.Signatures.{Signature, depth, size}
use Rattle.wasm_types.specs.Equality.{same}
use Rattle.wasm_types.specs.EqualityLaws.{same_is}

false_by : (b : Bool) → ((b ≡ true) → ⊥) → false ≡ b
false_by true f = absurd (f refl)
false_by false f = refl

pub apart_in_depth : (t u : Signature) (n m : ℕ) → n ≡ depth t → m ≡ depth u → ((n ≡ m) → ⊥) → false ≡ same t u
apart_in_depth t u n m deep deep' apart = false_by (same t u) (λ p. apart (deep ∙ ap depth (same_is t u p) ∙ sym deep'))

pub apart_in_size : (t u : Signature) (n m : ℕ) → n ≡ size t → m ≡ size u → ((n ≡ m) → ⊥) → false ≡ same t u
apart_in_size t u n m large large' apart = false_by (same t u) (λ p. apart (large ∙ ap size (same_is t u p) ∙ sym large'))
