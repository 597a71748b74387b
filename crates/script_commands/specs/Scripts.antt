-- Scripts: what bytes spell a session. This project's own format.
use Rattle.std.specs.Prelude.{◌≡◌, ℕ, List, [], ◌∷◌, Option, Some, None, Result, Ok, Err, codes}
use Rattle.serde_json.specs.Data.{Data}
use Rattle.script_json.specs.Fields.{◌>>=◌, field, required, field_or, only, list_of}
use Rattle.script_json.specs.Json.{json_of}
use Rattle.script_commands.specs.Commands.{command_of}
use Rattle.script_commands.specs.Engines.{engine_in}
use Rattle.script_commands.specs.HostAnswers.{host_answers_in}
use Rattle.script_commands.specs.HostBodies.{bodies_in}
use Rattle.script_commands.specs.ScriptModules.{modules_in}
use Rattle.script_types.specs.Types.{type_list_of}
use Rattle.script_commands.specs.declared.script.Script.{Script}
use Rattle.script_commands.specs.declared.script.ScriptTextFault.{ScriptTextFault}
use Rattle.script_commands.specs.declared.script.ScriptTextFault.TheVariants.{BadJson, BadScript, OutOfMemory}

-- the script that the data spells: an object with its engine at "engine", its types at "types", its modules at "modules",
-- its host data at "data" and the bodies of its host at "host", each with a default, and with its commands at "commands"
abbrev pub script_of : Data → Option Script
script_of d = do
  _ ← only
      (codes "engine" ∷ codes "types" ∷ codes "modules" ∷ codes "data" ∷ codes "host" ∷ codes "commands" ∷ []) d
  engine ← engine_in d
  types ← field_or [] type_list_of (field (codes "types") d)
  modules ← modules_in types d
  bodies ← bodies_in types d
  answers ← host_answers_in d
  commands ← required (list_of (command_of types)) (codes "commands") d
  Some (record { engine = engine; modules = modules; answers = answers; bodies = bodies; commands = commands })

-- what bytes spell: no JSON, JSON that is no script, or a script
pub data Spelling : Type 0 where
  NoJson : Spelling
  NoScript : Spelling
  Spells : Script → Spelling

abbrev pub spelling_of_script : Option Script → Spelling
spelling_of_script None = NoScript
spelling_of_script (Some script) = Spells script

abbrev pub spelling_of_json : Option Data → Spelling
spelling_of_json None = NoJson
spelling_of_json (Some json) = spelling_of_script (script_of json)

abbrev pub spelling : List ℕ → Spelling
spelling bytes = spelling_of_json (json_of bytes)

-- what is answered of bytes; want of memory is free
abbrev pub Answers : List ℕ → Result Script ScriptTextFault → Type 0
Answers bytes (Ok script) = spelling bytes ≡ Spells script
Answers bytes (Err BadJson) = spelling bytes ≡ NoJson
Answers bytes (Err BadScript) = spelling bytes ≡ NoScript
Answers bytes (Err OutOfMemory) = Unit {0}
