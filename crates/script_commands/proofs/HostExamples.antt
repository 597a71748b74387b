-- What texts spell as the host of a script, each by computation.
use Rattle.std.proofs.Common.{◌≡◌, ℕ, pos, List, [], ◌∷◌, Option, Some, None, refl}
use Rattle.std.specs.Prelude.{codes}
use Rattle.std.specs.Str.{is_utf8, chars}
use Rattle.serde_json.proofs.OnLiterals.{serde_json_on_literals}
use Rattle.serde_json.specs.Data.{Data}
use Rattle.hex.proofs.OnLiterals.{hex_on_literals}
use Rattle.script_json.specs.Fields.{◌>>=◌}
use Rattle.script_json.specs.Json.{json_of}
use Rattle.wasm_values.specs.declared.values.Val.TheVariants as v
use Rattle.spec_machine.specs.declared.name.Name.TheVariants as name
use Rattle.spec_machine.specs.declared.name.Operand.TheVariants as operand
use Rattle.spec_machine.specs.declared.operation.Op.TheVariants as op
use Rattle.script_commands.specs.Engines.{default_engine}
use Rattle.script_commands.specs.HostAnswers.{no_answers}
use Rattle.script_commands.specs.HostBodies.{action_of, bodies_in, body_of}
use Rattle.script_commands.specs.Scripts.{NoScript, Spells, spelling}
use Rattle.script_commands.specs.declared.host_bodies.Action.TheVariants as action
use Rattle.script_commands.specs.declared.notes.NotePart.TheVariants as part

-- what a reader gives of the data that a text spells
abbrev reading : {A : Type 0} → (Data → Option A) → List ℕ → Option A
reading f text = json_of text >>= f

-- ---- bodies

no_host : reading (bodies_in []) (codes "{}") ≡ Some []
unfolding serde_json_on_literals hex_on_literals is_utf8 chars body_of
no_host = refl

-- two bodies, of which the second does nothing
two_bodies : reading (bodies_in []) (codes "{\"host\":[[{\"note\":[\"Got \",{\"arg\":0},\" from WebAssembly\"]},{\"note\":[\"my host state is: \",{\"data\":true}]}],[]]}") ≡ Some ((action.Note (part.Text (codes "Got ") ∷ part.Arg 0 ∷ part.Text (codes " from WebAssembly") ∷ []) ∷ action.Note (part.Text (codes "my host state is: ") ∷ part.Data ∷ []) ∷ []) ∷ [] ∷ [])
unfolding serde_json_on_literals hex_on_literals is_utf8 chars body_of
two_bodies = refl

-- a body that calls an export of the instance whose code called
calls_back : reading (bodies_in []) (codes "{\"host\":[[{\"do\":{\"do\":\"get_export\",\"instance\":{\"caller\":true},\"name\":\"bad\"}},{\"do\":{\"do\":\"call\",\"func\":0}},{\"note\":[\"got \",{\"last\":true}]}]]}") ≡ Some ((action.Do (op.GetExport name.Caller (codes "bad")) ∷ action.Do (op.Call (name.Reply 0) [] None) ∷ action.Note (part.Text (codes "got ") ∷ part.Last ∷ []) ∷ []) ∷ [])
unfolding serde_json_on_literals hex_on_literals is_utf8 chars body_of
calls_back = refl

fails : reading (action_of []) (codes "{\"fail\":true}") ≡ Some action.Fail
unfolding serde_json_on_literals hex_on_literals is_utf8 chars
fails = refl

fails_not : reading (action_of []) (codes "{\"fail\":false}") ≡ None
unfolding serde_json_on_literals hex_on_literals is_utf8 chars
fails_not = refl

returns : reading (action_of []) (codes "{\"return\":[{\"i64\":1},{\"name\":{\"arg\":0}}]}") ≡ Some (action.Return (operand.Val (v.I64 (pos 1)) ∷ operand.Named (name.Arg 0) ∷ []))
unfolding serde_json_on_literals hex_on_literals is_utf8 chars
returns = refl

-- a body makes no function of the host, and no instance
makes_no_function : reading (action_of []) (codes "{\"do\":{\"do\":\"instantiate\",\"module\":0}}") ≡ None
unfolding serde_json_on_literals hex_on_literals is_utf8 chars
makes_no_function = refl

-- an action has one member
two_members : reading (action_of []) (codes "{\"fail\":true,\"note\":[]}") ≡ None
unfolding serde_json_on_literals hex_on_literals is_utf8 chars
two_members = refl

-- a text of a note is one line
two_lines : reading (action_of []) (codes "{\"note\":[\"a\\nb\"]}") ≡ None
unfolding serde_json_on_literals hex_on_literals is_utf8 chars
two_lines = refl

-- ---- in a script

a_host : spelling (codes "{\"data\":{\"number\":4},\"host\":[[{\"fail\":true}]],\"commands\":[]}") ≡ Spells (record { engine = default_engine; modules = []; answers = record no_answers { number = pos 4 }; bodies = (action.Fail ∷ []) ∷ []; commands = [] })
unfolding serde_json_on_literals hex_on_literals is_utf8 chars body_of
a_host = refl

null_host : spelling (codes "{\"host\":null,\"commands\":[]}") ≡ NoScript
unfolding serde_json_on_literals hex_on_literals is_utf8 chars
null_host = refl

-- there is no other key
other_key : spelling (codes "{\"hosts\":[],\"commands\":[]}") ≡ NoScript
unfolding serde_json_on_literals hex_on_literals is_utf8 chars
other_key = refl
