-- What is imported or exported, by the key at which it stands. This project's own format.
use Rattle.std.specs.Prelude.{ℕ, List, [], ◌∷◌, Bool, Option, Some, None, is_some, codes, if◌then◌else◌}
use Rattle.serde_json.specs.Data.{Data}
use Rattle.script_json.specs.Fields.{only}
use Rattle.script_modules.specs.declared.kinds.EntityKind.{EntityKind}
use Rattle.script_modules.specs.declared.kinds.EntityKind.TheVariants as kind

abbrev pub key_of : EntityKind → List ℕ
key_of kind.Func = codes "func"
key_of kind.Table = codes "table"
key_of kind.Memory = codes "memory"
key_of kind.Global = codes "global"
key_of kind.Tag = codes "tag"

-- an object with no other keys than these
abbrev pub has_only : List (List ℕ) → Data → Bool
has_only keys d = is_some (only keys d)

-- an import has its two names and one of the five keys
abbrev pub import_kind_of : Data → Option EntityKind
import_kind_of d =
    if has_only (codes "module" ∷ codes "name" ∷ codes "func" ∷ []) d then Some kind.Func else
    (if has_only (codes "module" ∷ codes "name" ∷ codes "table" ∷ []) d then Some kind.Table else
    (if has_only (codes "module" ∷ codes "name" ∷ codes "memory" ∷ []) d then Some kind.Memory else
    (if has_only (codes "module" ∷ codes "name" ∷ codes "global" ∷ []) d then Some kind.Global else
    (if has_only (codes "module" ∷ codes "name" ∷ codes "tag" ∷ []) d then Some kind.Tag else None))))

-- an export has its name and one of the five keys
abbrev pub export_kind_of : Data → Option EntityKind
export_kind_of d =
    if has_only (codes "name" ∷ codes "func" ∷ []) d then Some kind.Func else
    (if has_only (codes "name" ∷ codes "table" ∷ []) d then Some kind.Table else
    (if has_only (codes "name" ∷ codes "memory" ∷ []) d then Some kind.Memory else
    (if has_only (codes "name" ∷ codes "global" ∷ []) d then Some kind.Global else
    (if has_only (codes "name" ∷ codes "tag" ∷ []) d then Some kind.Tag else None))))
