-- Laws of the format. This project's own.
use Rattle.std.specs.Prelude.{◌≡◌, ℕ, ◌≤◌}
use Rattle.serde_json.specs.Data.{Data, depth}
use Rattle.script_modules.specs.Code.{code_to, deepest}
use Rattle.script_modules.specs.declared.code_parts.CodeParts.{CodeParts}

-- of data that nests no deeper than code is read, a greater depth gives the same
abbrev pub DepthIsEnough : Type 0
DepthIsEnough =
    (n : ℕ) (d : Data) (parts : CodeParts) → depth d ≤ deepest → deepest ≤ n → code_to n d parts ≡ code_to deepest d parts
