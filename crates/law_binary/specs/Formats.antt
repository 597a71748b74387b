-- Formats: which bytes spell which value, and which bytes are at fault. A format is made of others as the grammars of the
-- core specification are: one part behind another, a part by its code, a list of parts.
-- WebAssembly core specification, "Binary Format, Conventions, Grammar, Vectors". That a fault has a place is this project's
-- own.
use Rattle.std.specs.Prelude.{◌≡◌, ◌≢◌, ◌⊎◌, ℕ, ◌+◌, ◌<◌, ◌≤◌, ℤ, pos, List, [], ◌∷◌, ◌++◌, length, take, Bool, true, false, Option, Some, None, ⊤}
use Rattle.wasm_leb.specs.Names.{IsName}
use Rattle.wasm_leb.specs.Numbers.{IsSigned, IsUnsigned}
use Rattle.wasm_types.specs.declared.faults.TypeFault.{TypeFault}
use Rattle.binary_types.specs.declared.faults.BinaryFault.{BinaryFault}
use Rattle.binary_types.specs.declared.faults.BinaryFault.TheVariants.{Unsupported, Refused}

-- what bytes spell; and what is at fault in bytes that begin at a place, where all before the fault is spelled as it is to
-- be. Bytes that do neither are malformed.
pub record Format (A : Type 0) : Type 1 where
  pub Spells : List ℕ → A → Type 0
  pub Fails : ℕ → List ℕ → BinaryFault → Type 0

-- a value is spelled at the front of bytes, and something holds of it, of its bytes and of those behind them
pub record Begins {A : Type 0} (Spells : List ℕ → A → Type 0) (bytes : List ℕ) (Holds : A → List ℕ → List ℕ → Type 0) : Type 0 where
  pub value : A
  pub front : List ℕ
  pub rest : List ℕ
  pub split : bytes ≡ front ++ rest
  pub spelled : Spells front value
  pub holds : Holds value front rest

-- no bytes stand for a value
abbrev pub gives : {A : Type 0} → A → Format A
gives x = record {
  Spells = λ bytes y. (bytes ≡ []) × (y ≡ x);
  Fails = λ at bytes f. ⊥;
}

-- an item that has no fault of its own
abbrev pub item : {A : Type 0} → (List ℕ → A → Type 0) → Format A
item IsItem = record {
  Spells = IsItem;
  Fails = λ at bytes f. ⊥;
}

-- no bytes, where a test holds
abbrev pub holds : Bool → Format ⊤
holds test = item (λ bytes _. (bytes ≡ []) × (test ≡ true))

-- one byte; this byte; so many bytes
abbrev pub byte : Format ℕ
byte = item (λ bytes b. bytes ≡ b ∷ [])

abbrev pub the_byte : ℕ → Format ⊤
the_byte b = item (λ bytes _. bytes ≡ b ∷ [])

abbrev pub raw : ℕ → Format (List ℕ)
raw n = item (λ bytes x. (bytes ≡ x) × (length x ≡ n))

-- numbers and names
abbrev pub u32 : Format ℕ
u32 = item (IsUnsigned 32)

abbrev pub i32 : Format ℤ
i32 = item (IsSigned 32)

abbrev pub i64 : Format ℤ
i64 = item (IsSigned 64)

-- a number of 33 bits with sign that is not below zero
abbrev pub s33_from_zero : Format ℕ
s33_from_zero = item (λ bytes n. IsSigned 33 bytes (pos n))

abbrev pub name : Format (List ℕ)
name = item IsName

-- one part, and another behind it, which may depend on the first one
infixl 10 ◌>>=◌
abbrev pub ◌>>=◌ : {A B : Type 0} → Format A → (A → Format B) → Format B
F >>= G = record {
  Spells = λ bytes y. Begins F.Spells bytes (λ x front rest. (G x).Spells rest y);
  Fails = λ at bytes f. F.Fails at bytes f ⊎ Begins F.Spells bytes (λ x front rest. (G x).Fails (at + length front) rest f);
}

-- a part that stands for something, or has a fault at its place
abbrev pub standing_for : {A B : Type 0} → Format A → (A → Option B) → (ℕ → A → BinaryFault) → Format B
standing_for F value fault = record {
  Spells = λ bytes y. (x : _) × F.Spells bytes x × (value x ≡ Some y);
  Fails = λ at bytes f. F.Fails at bytes f ⊎ Begins F.Spells bytes (λ x _ _. (value x ≡ None) × (f ≡ fault at x));
}

-- parts of a type that break no rule, or are refused at their place
abbrev pub unless_refused : {A : Type 0} → Format A → (A → Option TypeFault) → Format A
unless_refused F broken = record {
  Spells = λ bytes x. F.Spells bytes x × (broken x ≡ None);
  Fails = λ at bytes f. F.Fails at bytes f ⊎ Begins F.Spells bytes (λ x _ _. (rule : TypeFault) × (broken x ≡ Some rule) × (f ≡ Refused at rule));
}

-- codes, and what follows each
abbrev pub Rows : Type 0 → Type 1
Rows A = List (ℕ × Format A)

abbrev pub RowSpells : {A : Type 0} → Rows A → ℕ → List ℕ → A → Type 0
RowSpells [] code bytes x = ⊥
RowSpells (row ∷ rows) code bytes x = ((code ≡ row.0) × row.1.Spells bytes x) ⊎ RowSpells rows code bytes x

abbrev pub RowFails : {A : Type 0} → Rows A → ℕ → ℕ → List ℕ → BinaryFault → Type 0
RowFails [] code at bytes f = ⊥
RowFails (row ∷ rows) code at bytes f = ((code ≡ row.0) × row.1.Fails at bytes f) ⊎ RowFails rows code at bytes f

abbrev pub HasNoRow : {A : Type 0} → Rows A → ℕ → Type 0
HasNoRow [] code = Unit {0}
HasNoRow (row ∷ rows) code = (code ≢ row.0) × HasNoRow rows code

-- a code that stands for itself by a table, or one with a row; others are not supported
abbrev pub by_code : {A : Type 0} → Format ℕ → (ℕ → Option A) → Rows A → Format A
by_code C table rows = record {
  Spells = λ bytes x. Begins C.Spells bytes (λ code _ rest.
      ((table code ≡ Some x) × (rest ≡ [])) ⊎ RowSpells rows code rest x);
  Fails = λ at bytes f. C.Fails at bytes f ⊎ Begins C.Spells bytes (λ code front rest.
      RowFails rows code (at + length front) rest f
      ⊎ ((table code ≡ None) × HasNoRow rows code × (f ≡ Unsupported at code)));
}

-- where nothing stands for itself
abbrev pub no_table : {A : Type 0} → ℕ → Option A
no_table code = None

-- one of two parts, by the first byte
abbrev pub part_if : {A : Type 0} → Bool → Format A → Format A → Format A
part_if true F G = F
part_if false F G = G

abbrev pub by_first : {A : Type 0} → (ℕ → Bool) → Format A → Format A → Format A
by_first test F G = record {
  Spells = λ bytes x. (b : ℕ) × (more : List ℕ) × (bytes ≡ b ∷ more) × (part_if (test b) F G).Spells bytes x;
  Fails = λ at bytes f. (b : ℕ) × (more : List ℕ) × (bytes ≡ b ∷ more) × (part_if (test b) F G).Fails at bytes f;
}

-- so many parts, one behind another
abbrev pub InOrder : {A : Type 0} → (List ℕ → A → Type 0) → List ℕ → List A → Type 0
InOrder Spells bytes [] = bytes ≡ []
InOrder Spells bytes (x ∷ xs) = (front : List ℕ) × (rest : List ℕ) × (bytes ≡ front ++ rest) × Spells front x × InOrder Spells rest xs

abbrev pub times : {A : Type 0} → ℕ → Format A → Format (List A)
times n F = record {
  Spells = λ bytes xs. (length xs ≡ n) × InOrder F.Spells bytes xs;
  Fails = λ at bytes f. Begins (InOrder F.Spells) bytes (λ xs front rest. (length xs < n) × F.Fails (at + length front) rest f);
}

-- a vector: how many, and so many
abbrev pub vector : {A : Type 0} → Format A → Format (List A)
vector F = do
  n ← u32
  times n F

abbrev pub byte_vector : Format (List ℕ)
byte_vector = do
  n ← u32
  raw n

-- a part of just so many bytes; and how many bytes, and a part of just so many
abbrev pub within : {A : Type 0} → ℕ → Format A → Format A
within n F = record {
  Spells = λ bytes x. (length bytes ≡ n) × F.Spells bytes x;
  Fails = λ at bytes f. (n ≤ length bytes) × F.Fails at (take n bytes) f;
}

abbrev pub sized : {A : Type 0} → Format A → Format A
sized F = do
  n ← u32
  within n F
