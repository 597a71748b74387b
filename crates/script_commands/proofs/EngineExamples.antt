-- What texts spell of engines, each by computation.
use Rattle.std.proofs.Common.{◌≡◌, List, [], Option, Some, None, true, false, refl, ℕ}
use Rattle.std.specs.Prelude.{codes}
use Rattle.std.specs.Str.{is_utf8, chars}
use Rattle.serde_json.proofs.OnLiterals.{serde_json_on_literals}
use Rattle.serde_json.specs.Data.{Data}
use Rattle.hex.proofs.OnLiterals.{hex_on_literals}
use Rattle.script_json.specs.Fields.{◌>>=◌}
use Rattle.script_json.specs.Json.{json_of}
use Rattle.script_commands.specs.Engines.{engine_of, engine_with}
use Rattle.script_commands.specs.HostAnswers.{no_answers}
use Rattle.script_commands.specs.Scripts.{NoScript, Spells, spelling}

-- what a reader gives of the data that a text spells
abbrev reading : {A : Type 0} → (Data → Option A) → List ℕ → Option A
reading f text = json_of text >>= f

both : reading engine_of (codes "{\"frames\":8,\"turns\":100}") ≡ Some (engine_with false false 8 100)
unfolding serde_json_on_literals is_utf8 chars
both = refl

-- each key has a default of its own
neither : reading engine_of (codes "{}") ≡ Some (engine_with false false 1024 10000000)
unfolding serde_json_on_literals is_utf8 chars
neither = refl

frames_alone : reading engine_of (codes "{\"frames\":1}") ≡ Some (engine_with false false 1 10000000)
unfolding serde_json_on_literals is_utf8 chars
frames_alone = refl

turns_alone : reading engine_of (codes "{\"turns\":1}") ≡ Some (engine_with false false 1024 1)
unfolding serde_json_on_literals is_utf8 chars
turns_alone = refl

-- the limits of an engine
greatest : reading engine_of (codes "{\"frames\":1024,\"turns\":1000000000}") ≡ Some (engine_with false false 1024 1000000000)
unfolding serde_json_on_literals is_utf8 chars
greatest = refl

no_frames : reading engine_of (codes "{\"frames\":0}") ≡ None
unfolding serde_json_on_literals is_utf8 chars
no_frames = refl

too_many_frames : reading engine_of (codes "{\"frames\":1025}") ≡ None
unfolding serde_json_on_literals is_utf8 chars
too_many_frames = refl

no_turns : reading engine_of (codes "{\"turns\":0}") ≡ None
unfolding serde_json_on_literals is_utf8 chars
no_turns = refl

too_many_turns : reading engine_of (codes "{\"turns\":1000000001}") ≡ None
unfolding serde_json_on_literals is_utf8 chars
too_many_turns = refl

-- 2^32 + 1 is not taken modulo 2^32
frames_past_32_bits : reading engine_of (codes "{\"frames\":4294967297}") ≡ None
unfolding serde_json_on_literals is_utf8 chars
frames_past_32_bits = refl

fraction : reading engine_of (codes "{\"frames\":8.0}") ≡ None
unfolding serde_json_on_literals is_utf8 chars
fraction = refl

negative : reading engine_of (codes "{\"turns\":-1}") ≡ None
unfolding serde_json_on_literals is_utf8 chars
negative = refl

-- null is no default
null_frames : reading engine_of (codes "{\"frames\":null}") ≡ None
unfolding serde_json_on_literals is_utf8 chars
null_frames = refl

null_turns : reading engine_of (codes "{\"turns\":null}") ≡ None
unfolding serde_json_on_literals is_utf8 chars
null_turns = refl

-- fuel and epochs, each alone
fuel : reading engine_of (codes "{\"fuel\":true}") ≡ Some (engine_with true false 1024 10000000)
unfolding serde_json_on_literals is_utf8 chars
fuel = refl

epochs : reading engine_of (codes "{\"epochs\":true}") ≡ Some (engine_with false true 1024 10000000)
unfolding serde_json_on_literals is_utf8 chars
epochs = refl

no_fuel : reading engine_of (codes "{\"fuel\":false,\"epochs\":false,\"turns\":9}") ≡ Some (engine_with false false 1024 9)
unfolding serde_json_on_literals is_utf8 chars
no_fuel = refl

-- a number is no truth
fuel_by_number : reading engine_of (codes "{\"fuel\":1}") ≡ None
unfolding serde_json_on_literals is_utf8 chars
fuel_by_number = refl

no_object : reading engine_of (codes "[]") ≡ None
unfolding serde_json_on_literals is_utf8 chars
no_object = refl

engine_of_a_script : spelling (codes "{\"engine\":{\"frames\":8,\"turns\":100},\"commands\":[]}") ≡ Spells (record { engine = engine_with false false 8 100; modules = []; answers = no_answers; bodies = []; commands = [] })
unfolding serde_json_on_literals hex_on_literals is_utf8 chars
engine_of_a_script = refl

null_engine : spelling (codes "{\"engine\":null,\"commands\":[]}") ≡ NoScript
unfolding serde_json_on_literals hex_on_literals is_utf8 chars
null_engine = refl

-- no key stands for the commands
engine_alone : spelling (codes "{\"engine\":{}}") ≡ NoScript
unfolding serde_json_on_literals hex_on_literals is_utf8 chars
engine_alone = refl
