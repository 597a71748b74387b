-- The exports of a module as JSON data. This project's own format.
use Rattle.std.specs.Prelude.{ℕ, Option, Some, codes}
use Rattle.serde_json.specs.Data.{Data}
use Rattle.script_json.specs.Fields.{◌>>=◌, required}
use Rattle.script_types.specs.Types.{whole_32}
use Rattle.wasm_syntax.specs.declared.declarations.ExportDecl.{ExportDecl}
use Rattle.wasm_syntax.specs.declared.entities.EntityIndex.{EntityIndex}
use Rattle.wasm_syntax.specs.declared.entities.EntityIndex.TheVariants as e
use Rattle.script_modules.specs.Kinds.{export_kind_of, key_of}
use Rattle.script_modules.specs.Texts.{line_of}
use Rattle.script_modules.specs.declared.kinds.EntityKind.{EntityKind}
use Rattle.script_modules.specs.declared.kinds.EntityKind.TheVariants as kind

abbrev pub entity : EntityKind → ℕ → EntityIndex
entity kind.Func index = e.Func index
entity kind.Table index = e.Table index
entity kind.Memory index = e.Memory index
entity kind.Global index = e.Global index
entity kind.Tag index = e.Tag index

-- an export: its name, and the index of what is exported at the key of its kind
abbrev pub export_of : Data → Option ExportDecl
export_of d = do
  kind ← export_kind_of d
  name ← required line_of (codes "name") d
  index ← required whole_32 (key_of kind) d
  Some (record { name = name; entity = entity kind index })
