-- The type section: function types, each of which may name those before it.
-- WebAssembly core specification, "Binary Format, Types, Recursive Types", narrowed to this project's profile
use Rattle.std.specs.Prelude.{◌≡◌, ℕ, zero, suc, List, [], ◌∷◌, ◌++◌, nat_eq, nat_lt, if◌then◌else◌, Option, Some, None, Result, Ok, Err}
use Rattle.wasm_types.specs.Signatures.{Signature}
use Rattle.wasm_types.specs.FunctionParts.{Parts, parts, from_parts}
use Rattle.wasm_types.specs.FunctionRules.{fault}
use Rattle.wasm_types.specs.declared.faults.TypeFault.{TypeFault}
use Rattle.wasm_types.specs.declared.plain.Finality.{Finality}
use Rattle.wasm_types.specs.declared.plain.Finality.TheVariants.{Final, NonFinal}
use Rattle.binary_types.specs.Reading.{Read, ◌>>=◌, done, fails, here, unless, byte, u32, fixed, listed}
use Rattle.binary_types.specs.Types.{type_at, value_type}
use Rattle.binary_types.specs.declared.faults.BinaryFault.{BinaryFault}
use Rattle.binary_types.specs.declared.faults.BinaryFault.TheVariants.{Malformed, Unsupported, Refused, OutOfMemory}
use Rattle.binary_types.specs.declared.function_types.Heading.{Heading}

-- a supertype, by how many are named
abbrev pub supertype_by : List Signature → ℕ → Read (Option Signature)
supertype_by types zero = done None
supertype_by types (suc n) = do
  t ← type_at types
  done (Some t)

-- a list of at most one supertype, and the byte in front of parameters and results
abbrev pub supertype : List Signature → Read (Option Signature)
supertype types = do
  n ← u32
  _ ← unless Malformed (nat_lt n 2)
  t ← supertype_by types n
  _ ← fixed 0x60
  done t

abbrev pub heading_of : Finality → Option Signature → Heading
heading_of finality t = record { finality = finality; supertype = t }

abbrev pub below : List Signature → Finality → Read Heading
below types finality = do
  t ← supertype types
  done (heading_of finality t)

-- the finality and the supertype of a type of this first byte
abbrev pub heading_by : List Signature → ℕ → ℕ → Read Heading
heading_by types at code p =
    if nat_eq code 0x60 then done (heading_of Final None) p
    else (if nat_eq code 0x50 then below types NonFinal p
    else (if nat_eq code 0x4f then below types Final p
    else Err (Unsupported at code)))

-- the function type of these parts, or the refusal at the place where it begins
abbrev pub made_by : ℕ → Option TypeFault → Signature → Read Signature
made_by at (Some f) t = fails (Refused at f)
made_by at None t = done t

abbrev pub made : ℕ → Parts → Read Signature
made at p = made_by at (fault p) (from_parts p)

-- what the code answers for these parts; want of memory is free
abbrev pub IsMadeBy : ℕ → Option TypeFault → Signature → Result Signature BinaryFault → Type 0
IsMadeBy at o t (Ok x) = (o ≡ None) × (x ≡ t)
IsMadeBy at o t (Err OutOfMemory) = Unit {0}
IsMadeBy at None t (Err e) = ⊥
IsMadeBy at (Some f) t (Err e) = e ≡ Refused at f

abbrev pub IsMadeAt : ℕ → Parts → Result Signature BinaryFault → Type 0
IsMadeAt at p result = IsMadeBy at (fault p) (from_parts p) result

-- an entry of the type section, behind these, which begins at a place
abbrev pub function_type_at : ℕ → List Signature → ℕ → Read Signature
function_type_at engine types at = do
  code ← byte
  heading ← heading_by types at code
  params ← listed (value_type types)
  results ← listed (value_type types)
  made at (parts engine heading.finality heading.supertype params results)

abbrev pub function_type : ℕ → List Signature → Read Signature
function_type engine types = do
  at ← here
  function_type_at engine types at

-- so many entries behind these: all of them
abbrev pub types_behind : ℕ → ℕ → List Signature → Read (List Signature)
types_behind engine zero types = done types
types_behind engine (suc n) types = do
  t ← function_type engine types
  types_behind engine n (types ++ t ∷ [])

abbrev pub type_section : ℕ → Read (List Signature)
type_section engine = do
  n ← u32
  types_behind engine n []
