-- What a closure that may fail gives: values, by those of what it gives where it does not fail. This project's own.
use Rattle.std.specs.Prelude.{ℕ, ◌≡◌, List, length, Option, None, IfSome, Result, Ok, Err}
use Rattle.typed_closures.specs.declared.returns.HostFailed.{HostFailed}
use Rattle.wasm_values.specs.declared.values.Val.{Val}

-- the values of what may have failed, by those of what it gives
abbrev pub given_of : {A : Type 0} → (A → Option (List Val)) → Result A HostFailed → Option (List Val)
given_of given (Ok x) = given x
given_of given (Err failed) = None

-- as many values as types
pub given_many : {A : Type 0} (given : A → Option (List Val)) (n : ℕ) → ((x : A) → IfSome (given x) (λ vals. length vals ≡ n)) → (x : Result A HostFailed) → IfSome (given_of given x) (λ vals. length vals ≡ n)
given_many given n law (Ok x) = law x
given_many given n law (Err failed) = tt
