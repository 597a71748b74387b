-- An index of types: where the first type stands that says what a key says. This project's own
use Rattle.std.specs.Prelude.{◌≡◌, ℕ, List, length, Some, position, slice_get}
use Rattle.std.specs.Map.{lookup}
use Rattle.std.specs.Str.{bytes_eq}
use Rattle.wasm_types.specs.Signatures.{Signature}
use Rattle.binary_index.specs.Keys.{HasPlaced, first_alike, key_of}

-- what is kept beside a list of types: for each, the number of the first one that says the same; and these numbers by key
pub record IsIndexed (ts : List Signature) (firsts : List ℕ) (index : List (List ℕ × ℕ)) : Type 0 where
  pub as_many : length firsts ≡ length ts
  pub closed : (i : ℕ) (t : Signature) → slice_get ts i ≡ Some t → HasPlaced ts t
  pub first : (i : ℕ) (t : Signature) → slice_get ts i ≡ Some t → slice_get firsts i ≡ first_alike ts t
  pub found : (key : List ℕ) → lookup (bytes_eq key) index ≡ position (λ t. bytes_eq key (key_of ts t)) ts

-- types that have the same numbers in another list
abbrev pub AreNumberedIn : List Signature → List Signature → Type 0
AreNumberedIn ts us = (n : ℕ) (t : Signature) → slice_get ts n ≡ Some t → slice_get us n ≡ Some t
