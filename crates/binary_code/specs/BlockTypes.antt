-- Block types in the binary format: the number of a type, or at most one result.
-- WebAssembly core specification, "Binary Format, Instructions, Control Instructions"; that a result alone means the first
-- type of a list, which is lengthened where it has none, is this project's own
use Rattle.std.specs.Prelude.{◌≡◌, ℕ, List, [], ◌∷◌, ◌++◌, length, take, Bool, true, false, ◌&&◌, nat_eq, is_none, if◌then◌else◌, Option, Some, None, position, Result, Ok, Err}
use Rattle.wasm_types.specs.Equality.{of_finality, same_types}
use Rattle.wasm_types.specs.Signatures.{Signature}
use Rattle.wasm_types.specs.FunctionParts.{Parts, parts, finality, supertype, params, results, types_of}
use Rattle.wasm_types.specs.declared.plain.Finality.TheVariants.{Final}
use Rattle.wasm_types.specs.declared.value_types.ValType.{ValType}
use Rattle.wasm_types.specs.declared.value_types.ValType.TheVariants as v
use Rattle.wasm_leb.specs.Places.{Place}
use Rattle.binary_types.specs.declared.faults.BinaryFault.{BinaryFault}
use Rattle.binary_types.specs.declared.faults.BinaryFault.TheVariants.{OutOfMemory}
use Rattle.binary_types.specs.FunctionTypes.{made}
use Rattle.binary_types.specs.Reading.{Read, ◌>>=◌, done, here, byte, peek}
use Rattle.binary_types.specs.Types.{is_code, number_type, prefixed, signed_index, value_by}
use Rattle.binary_code.specs.declared.context.CodeContext.{CodeContext}

-- what a reader of the code answers that also leaves types, where the definition says what is due
abbrev pub ReadsIn : {A : Type 0} → Result ((A × List Signature) × Place) BinaryFault → Result A BinaryFault → List Signature → Place → Type 0
ReadsIn due (Ok x) types after = due ≡ Ok ((x, types), after)
ReadsIn due (Err OutOfMemory) types after = Unit {0}
ReadsIn due (Err fault) types after = due ≡ Err fault

-- the parts of the type of a block without parameters
abbrev pub block_parts : CodeContext → List ValType → Parts
block_parts c rs = parts c.engine.0 Final None [] rs

-- whether a type is final, has no supertype, no parameters and just these results
abbrev pub is_plain : Signature → Bool
is_plain t = nat_eq (of_finality (finality t)) 0 && (is_none (supertype t) && nat_eq (length (params t)) 0)

abbrev pub gives : List ValType → Signature → Bool
gives rs t = is_plain t && same_types (types_of (results t)) (types_of rs)

-- the number of the first such type, and the types; or those with one more
abbrev pub number_by : CodeContext → ℕ → List Signature → List ValType → Option ℕ → Read (ℕ × List Signature)
number_by c at types rs (Some n) = done (n, types)
number_by c at types rs None = do
  t ← made at (block_parts c rs)
  done (length types, types ++ t ∷ [])

abbrev pub number_of : CodeContext → ℕ → List Signature → List ValType → Read (ℕ × List Signature)
number_of c at types rs = number_by c at types rs (position (gives rs) types)

-- the results of a block type of this code: none, or one
abbrev pub results_by : List Signature → ℕ → ℕ → Read (List ValType)
results_by types at code p =
    if nat_eq code 0x40 then done [] p
    else (do t ← value_by types at code (number_type code); done (t ∷ [])) p

-- the same of a block type with a value type of this code, and with a reference type behind such a code
abbrev pub number_by_value : CodeContext → List Signature → ℕ → ℕ → Read (ℕ × List Signature)
number_by_value c types at code = do
  t ← value_by (take c.declared types) at code (number_type code)
  number_of c at types (t ∷ [])

abbrev pub number_by_reference : Bool → CodeContext → List Signature → ℕ → Read (ℕ × List Signature)
number_by_reference nullable c types at = do
  t ← prefixed nullable (take c.declared types)
  number_of c at types (v.Ref t ∷ [])

abbrev pub block_if : Bool → CodeContext → List Signature → Read (ℕ × List Signature)
block_if true c types = do
  at ← here
  code ← byte
  rs ← results_by (take c.declared types) at code
  number_of c at types rs
block_if false c types = do
  n ← signed_index (take c.declared types)
  done (n, types)

-- the number of the type of a block, and the types, of which the first are those of the type section
abbrev pub block_type : CodeContext → List Signature → Read (ℕ × List Signature)
block_type c types = do
  b ← peek
  block_if (is_code b) c types
