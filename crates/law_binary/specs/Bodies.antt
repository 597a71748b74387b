-- The bodies of functions, and the code section. WebAssembly core specification, "Binary Format, Modules, Code Section". That
-- a function has at most 1,000,000 locals is this project's own.
use Rattle.std.specs.Prelude.{ℕ, zero, suc, ◌+◌, List, [], ◌∷◌, ◌++◌, length, replicate, nat_eq, nat_le}
use Rattle.wasm_types.specs.Signatures.{Signature}
use Rattle.wasm_types.specs.declared.value_types.ValType.{ValType}
use Rattle.binary_code.specs.Bodies.{body_of, functions_of}
use Rattle.binary_code.specs.CodeParts.{no_parts}
use Rattle.binary_code.specs.declared.context.CodeContext.{CodeContext}
use Rattle.binary_code.specs.declared.section.Functions.{Functions}
use Rattle.law_binary.specs.Code.{code, declared}
use Rattle.law_binary.specs.Formats.{Format, ◌>>=◌, gives, holds, sized, u32}
use Rattle.law_binary.specs.Types.{TypeOf, value_type}

-- so many groups of locals of one type, behind so many locals
abbrev pub locals : List Signature → ℕ → ℕ → Format (List ValType)
locals types zero before = gives []
locals types (suc n) before = do
  count ← u32
  _ ← holds (nat_le (before + count) 1000000)
  ty ← value_type types
  rest ← locals types n (before + count)
  gives (replicate count ty ++ rest)

-- a function, and the types behind it
abbrev pub Body : Type 0
Body = TypeOf (body_of 0 [] (no_parts []))

abbrev pub body : CodeContext → ℕ → List Signature → Format Body
body c ty types = do
  groups ← u32
  own ← locals (declared c types) groups 0
  parts ← code c ty types
  gives (body_of ty own parts)

-- a body for each function of these types; the types of one are behind those of the one before
abbrev pub bodies : CodeContext → List ℕ → List Signature → Format Functions
bodies c [] types = gives (functions_of [] types)
bodies c (ty ∷ tys) types = do
  first ← sized (body c ty types)
  rest ← bodies c tys first.types
  gives (functions_of (first.function ∷ rest.functions) rest.types)

-- as many bodies as there are functions
abbrev pub code_section : CodeContext → List ℕ → List Signature → Format Functions
code_section c tys types = do
  n ← u32
  _ ← holds (nat_eq n (length tys))
  bodies c tys types
