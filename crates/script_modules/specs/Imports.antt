-- The imports of a module as JSON data. This project's own format.
use Rattle.std.specs.Prelude.{List, [], ◌∷◌, Option, Some, codes}
use Rattle.serde_json.specs.Data.{Data}
use Rattle.wasm_types.specs.Signatures.{Signature}
use Rattle.wasm_types.specs.declared.extern_type.ExternType.{ExternType}
use Rattle.wasm_types.specs.declared.extern_type.ExternType.TheVariants as x
use Rattle.script_json.specs.Fields.{◌>>=◌, required, only}
use Rattle.script_types.specs.Types.{type_at, global_type_in, memory_type_in, table_type_in}
use Rattle.wasm_syntax.specs.declared.declarations.ImportDecl.{ImportDecl}
use Rattle.script_modules.specs.Kinds.{import_kind_of, key_of}
use Rattle.script_modules.specs.Texts.{line_of}
use Rattle.script_modules.specs.declared.kinds.EntityKind.{EntityKind}
use Rattle.script_modules.specs.declared.kinds.EntityKind.TheVariants as kind

abbrev pub table_import_of : List Signature → Data → Option ExternType
table_import_of types d = do
  _ ← only (codes "ref" ∷ codes "min" ∷ codes "max" ∷ []) d
  ty ← table_type_in types d
  Some (x.Table ty)

abbrev pub memory_import_of : Data → Option ExternType
memory_import_of d = do
  _ ← only (codes "min" ∷ codes "max" ∷ codes "page" ∷ []) d
  ty ← memory_type_in d
  Some (x.Memory ty)

abbrev pub global_import_of : List Signature → Data → Option ExternType
global_import_of types d = do
  _ ← only (codes "val" ∷ codes "mut" ∷ []) d
  ty ← global_type_in types d
  Some (x.Global ty)

abbrev pub tag_import_of : List Signature → Data → Option ExternType
tag_import_of types d = type_at types d >>= (λ ty. Some (x.Tag ty))

-- the type of what is imported: that of a function or a tag by its number, which is there
abbrev pub extern_type_of : List Signature → EntityKind → Data → Option ExternType
extern_type_of types kind.Func d = type_at types d >>= (λ ty. Some (x.Func ty))
extern_type_of types kind.Table d = table_import_of types d
extern_type_of types kind.Memory d = memory_import_of d
extern_type_of types kind.Global d = global_import_of types d
extern_type_of types kind.Tag d = tag_import_of types d

-- an import: two names, and its type at the key of its kind
abbrev pub import_of : List Signature → Data → Option ImportDecl
import_of types d = do
  kind ← import_kind_of d
  from ← required line_of (codes "module") d
  name ← required line_of (codes "name") d
  ty ← required (extern_type_of types kind) (key_of kind) d
  Some (record { «module» = from; name = name; ty = ty })
