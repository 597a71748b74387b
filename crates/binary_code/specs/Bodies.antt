-- The bodies of functions in the binary format: locals and code; and the code section.
-- WebAssembly core specification, "Binary Format, Modules, Code Section"
use Rattle.std.specs.Prelude.{ℕ, zero, suc, ◌+◌, List, [], ◌∷◌, ◌++◌, length, take, replicate, nat_eq, nat_le}
use Rattle.wasm_types.specs.Signatures.{Signature}
use Rattle.wasm_types.specs.declared.value_types.ValType.{ValType}
use Rattle.wasm_syntax.specs.declared.declarations.FuncDecl.{FuncDecl}
use Rattle.binary_types.specs.Reading.{Read, ◌>>=◌, done, unless, u32, within}
use Rattle.binary_types.specs.Types.{value_type}
use Rattle.binary_types.specs.declared.faults.BinaryFault.TheVariants.{Malformed}
use Rattle.binary_code.specs.Code.{code_of}
use Rattle.binary_code.specs.declared.bodies.FuncBody.{FuncBody}
use Rattle.binary_code.specs.declared.code_parts.CodeParts.{CodeParts}
use Rattle.binary_code.specs.declared.locals.LocalGroup.{LocalGroup}
use Rattle.binary_code.specs.declared.section.Functions.{Functions}
use Rattle.binary_code.specs.declared.context.CodeContext.{CodeContext}

-- so many locals of one type, behind so many others; a function has at most 1,000,000
abbrev pub local_group : List Signature → ℕ → Read LocalGroup
local_group types before = do
  count ← u32
  _ ← unless Malformed (nat_le (before + count) 1000000)
  t ← value_type types
  done (record { count = count; ty = t })

abbrev pub locals_behind : List Signature → ℕ → ℕ → Read (List ValType)
locals_behind types zero before = done []
locals_behind types (suc n) before = do
  g ← local_group types before
  rest ← locals_behind types n (before + g.count)
  done (replicate g.count g.ty ++ rest)

-- a function and the types behind it
abbrev pub body_of : ℕ → List ValType → CodeParts → FuncBody
body_of ty locals parts = record {
  function = record { ty = ty; locals = locals; blocks = parts.blocks; targets = parts.targets };
  types = parts.types;
}

abbrev pub body : CodeContext → ℕ → List Signature → Read FuncBody
body c ty types = do
  groups ← u32
  locals ← locals_behind (take c.declared types) groups 0
  parts ← code_of c ty types
  done (body_of ty locals parts)

abbrev pub sized_body : CodeContext → ℕ → List Signature → Read FuncBody
sized_body c ty types = do
  n ← u32
  within (body c ty types) n

-- the bodies of functions of these types, one after another
abbrev pub functions_of : List FuncDecl → List Signature → Functions
functions_of functions types = record { functions = functions; types = types }

abbrev pub bodies_of : CodeContext → List ℕ → List Signature → Read Functions
bodies_of c [] types = done (functions_of [] types)
bodies_of c (ty ∷ tys) types = do
  first ← sized_body c ty types
  rest ← bodies_of c tys first.types
  done (functions_of (first.function ∷ rest.functions) rest.types)

-- the code section: as many bodies as there are functions
abbrev pub code_section : CodeContext → List ℕ → List Signature → Read Functions
code_section c tys types = do
  n ← u32
  _ ← unless Malformed (nat_eq n (length tys))
  bodies_of c tys types

-- how many locals the functions have, but for their parameters
abbrev pub locals_in : List FuncDecl → ℕ
locals_in [] = 0
locals_in (f ∷ fs) = length f.locals + locals_in fs
