-- The notes that a body of a script's host takes, as JSON data: this project's own format. A note is a list of parts.
use Rattle.std.specs.Prelude.{ℕ, List, Option, Some, None, is_some, codes, if◌then◌else◌}
use Rattle.std.specs.Str.{bytes_eq}
use Rattle.serde_json.specs.Data.{Data}
use Rattle.serde_json.specs.Find.{as_str}
use Rattle.script_json.specs.Fields.{◌>>=◌, list_of, one_member, whole, yes}
use Rattle.script_modules.specs.Texts.{line_of}
use Rattle.script_commands.specs.declared.notes.NotePart.{NotePart}
use Rattle.script_commands.specs.declared.notes.NotePart.TheVariants as part
use Rattle.script_commands.specs.declared.notes.PartKind.{PartKind}
use Rattle.script_commands.specs.declared.notes.PartKind.TheVariants as kind

abbrev pub part_kind_of : List ℕ → Option PartKind
part_kind_of key =
    if bytes_eq key (codes "arg") then Some kind.Arg else
    (if bytes_eq key (codes "data") then Some kind.Data else
    (if bytes_eq key (codes "last") then Some kind.Last else None))

abbrev pub part_by : Data → PartKind → Option NotePart
part_by d kind.Arg = whole d >>= (λ place. Some (part.Arg place))
part_by d kind.Data = yes d >>= (λ _. Some part.Data)
part_by d kind.Last = yes d >>= (λ _. Some part.Last)

abbrev pub text_part : Data → Option NotePart
text_part d = line_of d >>= (λ text. Some (part.Text text))

abbrev pub other_part : Data → Option NotePart
other_part d = one_member d >>= (λ m. part_kind_of m.0 >>= part_by m.1)

-- a part is a text of one line, or an object of one member: {"arg": place}, {"data": true} or {"last": true}
abbrev pub part_of : Data → Option NotePart
part_of d = if is_some (as_str d) then text_part d else other_part d

abbrev pub note_of : Data → Option (List NotePart)
note_of d = list_of part_of d
