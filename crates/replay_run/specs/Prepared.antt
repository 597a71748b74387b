-- A script that was read, and can be recorded and replayed. This project's own.
use Rattle.std.specs.Prelude.{◌≡◌, Result, Err}
use Rattle.script_commands.specs.Scripts.{Spelling, NoJson, NoScript}
use Rattle.script_commands.specs.declared.script.Script.{Script}
use Rattle.wasm_run.specs.Sessions.{script_parts}
use Rattle.wasm_run.specs.declared.status.Status.TheVariants as session
use Rattle.replay_run.specs.Inputs.{Typed, typed}
use Rattle.replay_run.specs.declared.prepared.Checked.{Checked}
use Rattle.replay_run.specs.declared.prepared.Prepared.{Prepared}
use Rattle.replay_run.specs.declared.status.Status.{Status}
use Rattle.replay_run.specs.declared.status.Status.TheVariants.{Session, Hooked}

abbrev pub script_of : Checked → Script
script_of c = script_parts c.engine c.modules.items c.answers c.bodies c.commands

abbrev pub typed_of : Prepared → Typed
typed_of p = typed (script_of p.script) p.types

-- a status of bytes that spell no script: it is due, or memory ran out
abbrev pub IsSpellingFault : Spelling → Status → Type 0
IsSpellingFault spelled (Session session.OutOfMemory) = Unit {0}
IsSpellingFault spelled (Session session.BadJson) = spelled ≡ NoJson
IsSpellingFault spelled (Session session.BadScript) = spelled ≡ NoScript
IsSpellingFault spelled status = ⊥

-- and of a script that can't be recorded or replayed
abbrev pub IsFault : {A : Type 0} → Result A Status → Status → Type 0
IsFault due (Session session.OutOfMemory) = Unit {0}
IsFault due (Session session.BadJson) = due ≡ Err (Session session.BadJson)
IsFault due (Session session.BadScript) = due ≡ Err (Session session.BadScript)
IsFault due (Session (session.InvalidModule n rule place)) = due ≡ Err (Session (session.InvalidModule n rule place))
IsFault due Hooked = due ≡ Err Hooked
IsFault due status = ⊥
