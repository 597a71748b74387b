-- What a function type says but for its engine, as numbers: a function type within it is the number of the first type in a
-- list that says what it says, and its engine. This project's own
use Rattle.std.specs.Prelude.{◌≡◌, ℕ, ◌+◌, List, [], ◌∷◌, ◌++◌, Bool, true, false, Option, Some, position, unwrap_or}
use Rattle.wasm_types.specs.Equality.{of_abstract, of_finality, of_number, same}
use Rattle.wasm_types.specs.FunctionParts.{engine, heap_type, with_type}
use Rattle.wasm_types.specs.Matching.{is_concrete}
use Rattle.wasm_types.specs.Signatures.{Signature, Supertype, Types, Heap, signature, root, below, end, number, ref, abstract, concrete}
use Rattle.wasm_types.specs.declared.plain.Finality.{Finality}
use Rattle.wasm_types.specs.declared.value_types.ValType.{ValType}
use Rattle.wasm_types.specs.declared.value_types.ValType.TheVariants as v

-- a type without its engine, and whether two types say the same but for the engine
abbrev pub bare : Signature → Signature
bare (signature e f s ps rs) = signature 0 f s ps rs

abbrev pub alike : Signature → Signature → Bool
alike t u = same (bare t) (bare u)

-- the number of the first type that says the same
abbrev pub first_alike : List Signature → Signature → Option ℕ
first_alike ts t = position (alike t) ts

abbrev pub place : List Signature → Signature → ℕ
place ts t = unwrap_or (first_alike ts t) 0

abbrev pub bit : Bool → ℕ
bit true = 1
bit false = 0

-- the numbers: 1 to 5 are number types, 6 and 7 stand before a heap type, and 0 ends the parameters
abbrev pub heap_key : List Signature → Heap → List ℕ
heap_key ts (abstract a) = of_abstract a ∷ []
heap_key ts (concrete t) = (8 + place ts t) ∷ engine t ∷ []

abbrev pub types_key : List Signature → Types → List ℕ
types_key ts end = []
types_key ts (number n xs) = (1 + of_number n) ∷ types_key ts xs
types_key ts (ref b h xs) = (6 + bit b) ∷ (heap_key ts h ++ types_key ts xs)

abbrev pub above_key : List Signature → Supertype → List ℕ
above_key ts root = 0 ∷ []
above_key ts (below t) = (1 + place ts t) ∷ engine t ∷ []

abbrev pub key_of : List Signature → Signature → List ℕ
key_of ts (signature e f s ps rs) = of_finality f ∷ (above_key ts s ++ (types_key ts ps ++ 0 ∷ types_key ts rs))

-- a type is in the list, but for its engine; and so are the types within a type
abbrev pub IsPlaced : List Signature → Signature → Type 0
IsPlaced ts t = (n : ℕ) × (first_alike ts t ≡ Some n)

abbrev pub IsHeapPlaced : List Signature → Heap → Type 0
IsHeapPlaced ts (abstract a) = Unit {0}
IsHeapPlaced ts (concrete t) = IsPlaced ts t

abbrev pub ArePlaced : List Signature → Types → Type 0
ArePlaced ts end = Unit {0}
ArePlaced ts (number n xs) = ArePlaced ts xs
ArePlaced ts (ref b h xs) = IsHeapPlaced ts h × ArePlaced ts xs

abbrev pub IsAbovePlaced : List Signature → Supertype → Type 0
IsAbovePlaced ts root = Unit {0}
IsAbovePlaced ts (below t) = IsPlaced ts t

abbrev pub HasPlaced : List Signature → Signature → Type 0
HasPlaced ts (signature e f s ps rs) = IsAbovePlaced ts s × ArePlaced ts ps × ArePlaced ts rs

-- a key that says what a type says
abbrev pub IsKeyOf : List Signature → Signature → List ℕ → Type 0
IsKeyOf ts t key = (key ≡ key_of ts t) × HasPlaced ts t

-- a key that was lengthened by what types say, a heap type, a supertype, a finality with a supertype
abbrev pub Says : List Signature → Types → List ℕ → List ℕ → Type 0
Says ts xs old new = (new ≡ old ++ types_key ts xs) × ArePlaced ts xs

abbrev pub SaysHeap : List Signature → Heap → List ℕ → List ℕ → Type 0
SaysHeap ts h old new = (new ≡ old ++ heap_key ts h) × IsHeapPlaced ts h

abbrev pub SaysAbove : List Signature → Supertype → List ℕ → List ℕ → Type 0
SaysAbove ts s old new = (new ≡ old ++ above_key ts s) × IsAbovePlaced ts s

abbrev pub SaysHeading : List Signature → Finality → Supertype → List ℕ → List ℕ → Type 0
SaysHeading ts f s old new = (new ≡ old ++ of_finality f ∷ above_key ts s) × IsAbovePlaced ts s

abbrev pub one : ValType → Types
one t = with_type t end

-- whether a value type names a function type
abbrev pub is_named : ValType → Bool
is_named (v.Ref r) = is_concrete (heap_type r)
is_named _ = false
