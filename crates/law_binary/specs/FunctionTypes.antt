-- The type section. WebAssembly core specification, "Binary Format, Types, Recursive Types, Function Types", and "Binary
-- Format, Modules, Type Section", narrowed to this project's profile: a recursive group of one function type alone.
use Rattle.std.specs.Prelude.{ℕ, zero, suc, List, [], ◌∷◌, ◌++◌, nat_lt, Option, Some, None}
use Rattle.wasm_types.specs.Signatures.{Signature}
use Rattle.wasm_types.specs.FunctionParts.{Parts, parts, from_parts}
use Rattle.wasm_types.specs.FunctionRules.{fault}
use Rattle.wasm_types.specs.declared.plain.Finality.{Finality}
use Rattle.wasm_types.specs.declared.plain.Finality.TheVariants.{Final, NonFinal}
use Rattle.binary_types.specs.FunctionTypes.{heading_of}
use Rattle.law_binary.specs.Formats.{Format, Rows, ◌>>=◌, gives, holds, byte, the_byte, u32, vector, unless_refused, by_code, no_table}
use Rattle.law_binary.specs.Types.{TypeOf, type_at, value_type}

-- a list of at most one supertype, and the byte in front of parameters and results
abbrev pub supertypes : List Signature → ℕ → Format (Option Signature)
supertypes types zero = gives None
supertypes types (suc n) = do
  t ← type_at types
  gives (Some t)

abbrev pub supertype : List Signature → Format (Option Signature)
supertype types = do
  n ← u32
  _ ← holds (nat_lt n 2)
  t ← supertypes types n
  _ ← the_byte 0x60
  gives t

-- what stands before parameters and results: a finality and a supertype
abbrev pub Heading : Type 0
Heading = TypeOf (heading_of Final None)

abbrev pub below : List Signature → Finality → Format Heading
below types finality = do
  t ← supertype types
  gives (heading_of finality t)

abbrev pub headings : List Signature → Rows Heading
headings types = (0x60, gives (heading_of Final None)) ∷ (0x50, below types NonFinal) ∷ (0x4f, below types Final) ∷ []

abbrev pub heading : List Signature → Format Heading
heading types = by_code byte no_table (headings types)

-- a function type, which may name those before it: its parts, which break no rule
abbrev pub function_parts : ℕ → List Signature → Format Parts
function_parts engine types = do
  h ← heading types
  params ← vector (value_type types)
  results ← vector (value_type types)
  gives (parts engine h.finality h.supertype params results)

abbrev pub function_type : ℕ → List Signature → Format Signature
function_type engine types = do
  p ← unless_refused (function_parts engine types) fault
  gives (from_parts p)

-- so many more types behind these: all of them
abbrev pub types_behind : ℕ → ℕ → List Signature → Format (List Signature)
types_behind engine zero types = gives types
types_behind engine (suc n) types = do
  t ← function_type engine types
  types_behind engine n (types ++ t ∷ [])

abbrev pub type_section : ℕ → Format (List Signature)
type_section engine = do
  n ← u32
  types_behind engine n []
