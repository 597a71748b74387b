-- The functions of a module as JSON data. This project's own format.
use Rattle.std.specs.Prelude.{ℕ, List, [], ◌∷◌, Option, Some, None, codes}
use Rattle.serde_json.specs.Data.{Data}
use Rattle.wasm_types.specs.Signatures.{Signature}
use Rattle.script_json.specs.Fields.{◌>>=◌, field, required, only, list_or_empty}
use Rattle.script_types.specs.Types.{val_type_of, whole_32}
use Rattle.wasm_syntax.specs.declared.declarations.FuncDecl.{FuncDecl}
use Rattle.script_modules.specs.Code.{block_of, code_to, deepest}
use Rattle.script_modules.specs.CodeParts.{begun}
use Rattle.script_modules.specs.declared.code_parts.CodeParts.{CodeParts}

abbrev pub no_parts : CodeParts
no_parts = record { blocks = []; targets = [] }

-- the body: block 0, of the function's type, with the code or empty
abbrev pub body_of : ℕ → Option Data → Option CodeParts
body_of ty None = Some (begun ty no_parts).1
body_of ty (Some d) = block_of (code_to deepest) ty d no_parts >>= (λ body. Some body.1)

-- a function: the number of its type, the types of its locals and its code, both empty where the key is not there
abbrev pub function_of : List Signature → Data → Option FuncDecl
function_of types d = do
  _ ← only (codes "type" ∷ codes "locals" ∷ codes "code" ∷ []) d
  ty ← required whole_32 (codes "type") d
  locals ← list_or_empty (val_type_of types) (codes "locals") d
  body ← body_of ty (field (codes "code") d)
  Some (record { ty = ty; locals = locals; blocks = body.blocks; targets = body.targets })
