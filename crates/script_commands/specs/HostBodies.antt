-- The bodies of a script's host as JSON data: this project's own format. A body is a list of actions.
use Rattle.std.specs.Prelude.{ℕ, List, Option, Some, None, codes, if◌then◌else◌}
use Rattle.std.specs.Str.{bytes_eq}
use Rattle.serde_json.specs.Data.{Data}
use Rattle.wasm_types.specs.Signatures.{Signature}
use Rattle.script_json.specs.Fields.{◌>>=◌, list_of, list_or_empty, one_member, yes}
use Rattle.spec_machine.specs.declared.command.Command.{Command}
use Rattle.spec_machine.specs.declared.command.Command.TheVariants as command
use Rattle.spec_machine.specs.declared.operation.Op.{Op}
use Rattle.script_commands.specs.Commands.{command_of}
use Rattle.script_commands.specs.Notes.{note_of}
use Rattle.script_commands.specs.Operands.{operand_of}
use Rattle.script_commands.specs.declared.host_bodies.Action.{Action}
use Rattle.script_commands.specs.declared.host_bodies.Action.TheVariants as action
use Rattle.script_commands.specs.declared.host_bodies.ActionKind.{ActionKind}
use Rattle.script_commands.specs.declared.host_bodies.ActionKind.TheVariants as kind

abbrev pub action_kind_of : List ℕ → Option ActionKind
action_kind_of key =
    if bytes_eq key (codes "note") then Some kind.Note else
    (if bytes_eq key (codes "do") then Some kind.Do else
    (if bytes_eq key (codes "return") then Some kind.Return else
    (if bytes_eq key (codes "fail") then Some kind.Fail else None)))

-- a body asks for operations alone: it makes no function of the host and no instance
abbrev pub operation_in : Command → Option Op
operation_in (command.Op o) = Some o
operation_in other = None

abbrev pub action_by : List Signature → Data → ActionKind → Option Action
action_by types d kind.Note = note_of d >>= (λ parts. Some (action.Note parts))
action_by types d kind.Do = command_of types d >>= operation_in >>= (λ o. Some (action.Do o))
action_by types d kind.Return = list_of operand_of d >>= (λ values. Some (action.Return values))
action_by types d kind.Fail = yes d >>= (λ _. Some action.Fail)

-- an action is an object of one member: {"note": parts}, {"do": operation}, {"return": operands} or {"fail": true}
abbrev pub action_of : List Signature → Data → Option Action
action_of types d = one_member d >>= (λ m. action_kind_of m.0 >>= action_by types m.1)

unfoldable pub body_of : List Signature → Data → Option (List Action)
body_of types d = list_of (action_of types) d

-- the bodies at the key "host" of a script, none by default; the number of each is its place
abbrev pub bodies_in : List Signature → Data → Option (List (List Action))
bodies_in types d = list_or_empty (body_of types) (codes "host") d
