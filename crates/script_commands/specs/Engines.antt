-- The engine of a script as JSON data. This project's own format.
use Rattle.std.specs.Prelude.{ℕ, Bool, false, [], ◌∷◌, Option, Some, None, codes, if◌then◌else◌}
use Rattle.serde_json.specs.Data.{Data}
use Rattle.script_json.specs.Fields.{◌>>=◌, field, field_or, only, truth, whole}
use Rattle.spec_machine.specs.Machine.{are_engine_limits}
use Rattle.script_commands.specs.declared.engine.ScriptEngine.{ScriptEngine}

abbrev pub engine_with : Bool → Bool → ℕ → ℕ → ScriptEngine
engine_with consumes_fuel reads_epochs frames turns =
    record { consumes_fuel = consumes_fuel; reads_epochs = reads_epochs; frames = frames; turns = turns }

-- the engine of a script that says nothing of it
abbrev pub default_engine : ScriptEngine
default_engine = engine_with false false 1024 10000000

-- this engine, where its limits are those that a store may have
abbrev pub engine_by : ScriptEngine → Option ScriptEngine
engine_by engine = if are_engine_limits engine.frames engine.turns then Some engine else None

-- whether code consumes fuel and whether the epoch is read, the most frames of nested calls and the most turns of a
-- command; each has its default where its key is not there
abbrev pub engine_of : Data → Option ScriptEngine
engine_of d = do
  _ ← only (codes "fuel" ∷ codes "epochs" ∷ codes "frames" ∷ codes "turns" ∷ []) d
  consumes_fuel ← field_or default_engine.consumes_fuel truth (field (codes "fuel") d)
  reads_epochs ← field_or default_engine.reads_epochs truth (field (codes "epochs") d)
  frames ← field_or default_engine.frames whole (field (codes "frames") d)
  turns ← field_or default_engine.turns whole (field (codes "turns") d)
  engine_by (engine_with consumes_fuel reads_epochs frames turns)

-- the engine at the key "engine" of a script
abbrev pub engine_in : Data → Option ScriptEngine
engine_in d = field_or default_engine engine_of (field (codes "engine") d)
