-- The laws of equality, of the parts and of matching.
use Rattle.std.specs.Prelude.{ℕ, Bool, true, ◌≡◌, ◌↔◌, Contains}
use Rattle.std.specs.Bool.{Decides}
use Rattle.wasm_types.specs.Signatures.{Signature, chain, is_of}
use Rattle.wasm_types.specs.FunctionParts.{Parts, from_parts, parts_of, engine, params, results, heap_is_of}
use Rattle.wasm_types.specs.FunctionRules.{IsSound}
use Rattle.wasm_types.specs.Matching.{matches, all_match, heap_matches, is_concrete}
use Rattle.wasm_types.specs.declared.value_types.HeapType.{HeapType}

abbrev pub IsReflexive : {A : Type 0} → (A → A → Bool) → Type 0
IsReflexive {A} f = (x : A) → f x x ≡ true

abbrev pub IsTransitive : {A : Type 0} → (A → A → Bool) → Type 0
IsTransitive {A} f = (x y z : A) → f x y ≡ true → f y z ≡ true → f x z ≡ true

-- the test is true exactly where the two are equal
abbrev pub IsExact : {A : Type 0} → (A → A → Bool) → Type 0
IsExact {A} f = (x y : A) → Decides (f x y) (x ≡ y)

-- a function type of given parts has these parts, and is the only one
abbrev pub HasItsParts : Type 0
HasItsParts = (p : Parts) → parts_of (from_parts p) ≡ p

abbrev pub IsOfItsParts : Type 0
IsOfItsParts = (t : Signature) → from_parts (parts_of t) ≡ t

-- a function type matches exactly the members of its chain
-- WebAssembly core specification, "Validation, matching, defined types"
abbrev pub MatchesItsChain : Type 0
MatchesItsChain = (t u : Signature) → (matches t u ≡ true) ↔ Contains (chain t) u

-- a type that matches another takes the other's arguments, and gives results that the other may give
-- WebAssembly core specification, "Validation, matching, function types"
abbrev pub FitsAlongChains : Type 0
FitsAlongChains =
    (t u : Signature) → IsSound t → matches t u ≡ true → (all_match (params u) (params t) ≡ true) × (all_match (results t) (results u) ≡ true)

-- what a function type matches is of its engine, and has no function type of another engine in it where the first has
-- none; this project's own
abbrev pub StaysInEngine : Type 0
StaysInEngine = (t u : Signature) → IsSound t → matches t u ≡ true → engine t ≡ engine u

abbrev pub KeepsEngine : Type 0
KeepsEngine = (n : ℕ) (t u : Signature) → matches t u ≡ true → is_of n t ≡ true → is_of n u ≡ true

-- the same of a concrete heap type; NoFunc alone, which is of no engine, is below concrete types of every engine
abbrev pub KeepsHeapEngine : Type 0
KeepsHeapEngine =
    (n : ℕ) (a b : HeapType) → is_concrete a ≡ true → heap_matches a b ≡ true → heap_is_of n a ≡ true → heap_is_of n b ≡ true
