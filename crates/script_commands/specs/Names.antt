-- Names as JSON data: this project's own format.
use Rattle.std.specs.Prelude.{ℕ, List, Option, Some, None, is_some, codes, if◌then◌else◌}
use Rattle.std.specs.Str.{bytes_eq}
use Rattle.serde_json.specs.Data.{Data}
use Rattle.serde_json.specs.Find.{as_number}
use Rattle.script_json.specs.Fields.{◌>>=◌, one_member, two_items, whole, yes}
use Rattle.spec_machine.specs.declared.name.Name.{Name}
use Rattle.spec_machine.specs.declared.name.Name.TheVariants as name
use Rattle.script_commands.specs.declared.names.NameKind.{NameKind}
use Rattle.script_commands.specs.declared.names.NameKind.TheVariants as kind

abbrev pub name_kind_of : List ℕ → Option NameKind
name_kind_of key =
    if bytes_eq key (codes "value") then Some kind.Value else
    (if bytes_eq key (codes "arg") then Some kind.Arg else
    (if bytes_eq key (codes "stored") then Some kind.Stored else
    (if bytes_eq key (codes "caller") then Some kind.Caller else None)))

-- the number of a reply, and the place of one of its values
abbrev pub value_name : Data → Option Name
value_name d = do
  both ← two_items d
  place ← whole both.0
  index ← whole both.1
  Some (name.Value place index)

abbrev pub name_by : Data → NameKind → Option Name
name_by d kind.Value = value_name d
name_by d kind.Arg = whole d >>= (λ place. Some (name.Arg place))
name_by d kind.Stored = whole d >>= (λ place. Some (name.Stored place))
name_by d kind.Caller = yes d >>= (λ _. Some name.Caller)

abbrev pub reply_name : Data → Option Name
reply_name d = whole d >>= (λ place. Some (name.Reply place))

abbrev pub other_name : Data → Option Name
other_name d = one_member d >>= (λ m. name_kind_of m.0 >>= name_by m.1)

-- a name is the number of a reply, or an object of one member: {"value": [reply, place]}, {"arg": place},
-- {"stored": place} or {"caller": true}
abbrev pub name_of : Data → Option Name
name_of d = if is_some (as_number d) then reply_name d else other_name d
