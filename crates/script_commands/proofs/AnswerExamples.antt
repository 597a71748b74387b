-- What texts spell as host data, each by computation.
use Rattle.std.proofs.Common.{◌≡◌, ℕ, pos, negsuc, List, [], ◌∷◌, Option, Some, None, refl}
use Rattle.std.specs.Prelude.{codes}
use Rattle.std.specs.Str.{is_utf8, chars}
use Rattle.serde_json.proofs.OnLiterals.{serde_json_on_literals}
use Rattle.serde_json.specs.Data.{Data}
use Rattle.hex.proofs.OnLiterals.{hex_on_literals}
use Rattle.wasm_meter.specs.declared.lists.BehaviourAnswer.TheVariants as behaviour
use Rattle.wasm_meter.specs.declared.lists.GrowthAnswer.{GrowthAnswer}
use Rattle.wasm_meter.specs.declared.lists.GrowthAnswer.TheVariants as growth
use Rattle.wasm_meter.specs.declared.lists.HookAnswer.TheVariants as hook
use Rattle.script_json.specs.Fields.{◌>>=◌}
use Rattle.script_json.specs.Json.{json_of}
use Rattle.script_commands.specs.Engines.{default_engine}
use Rattle.script_commands.specs.HostAnswers.{host_answers_of, limiter_of, no_answers}
use Rattle.script_commands.specs.Scripts.{NoScript, Spells, spelling}
use Rattle.script_commands.specs.declared.host_answers.LimiterAnswers.{LimiterAnswers}

-- what a reader gives of the data that a text spells
abbrev reading : {A : Type 0} → (Data → Option A) → List ℕ → Option A
reading f text = json_of text >>= f

abbrev limiter_with : ℕ → ℕ → ℕ → List GrowthAnswer → LimiterAnswers
limiter_with instances tables memories answers =
    record { instances = instances; tables = tables; memories = memories; answers = answers }

nothing : reading host_answers_of (codes "{}") ≡ Some no_answers
unfolding serde_json_on_literals is_utf8 chars
nothing = refl

each_key : reading host_answers_of (codes "{\"limiter\":{\"instances\":1,\"tables\":2,\"memories\":0,\"answers\":[\"yes\",\"no\",\"fault\"]},\"hook\":[\"ok\",\"fault\"],\"deadline\":[5,\"interrupt\",\"fault\"]}") ≡ Some (record { number = pos 0; limiter = Some (limiter_with 1 2 0 (growth.Yes ∷ growth.No ∷ growth.Fault ∷ [])); hook = Some (hook.Done ∷ hook.Fault ∷ []); deadline = Some (behaviour.Continue 5 ∷ behaviour.Interrupt ∷ behaviour.Fault ∷ []) })
unfolding serde_json_on_literals is_utf8 chars
each_key = refl

-- an empty list is not the same as none
empty_lists : reading host_answers_of (codes "{\"limiter\":{},\"hook\":[],\"deadline\":[]}") ≡ Some (record { number = pos 0; limiter = Some (limiter_with 10000 10000 10000 []); hook = Some []; deadline = Some [] })
unfolding serde_json_on_literals is_utf8 chars
empty_lists = refl

-- null is no default
null_hook : reading host_answers_of (codes "{\"hook\":null}") ≡ None
unfolding serde_json_on_literals is_utf8 chars
null_hook = refl

limiter_by_list : reading host_answers_of (codes "{\"limiter\":[]}") ≡ None
unfolding serde_json_on_literals is_utf8 chars
limiter_by_list = refl

-- each list has its own words
answer_of_a_hook : reading host_answers_of (codes "{\"limiter\":{\"answers\":[\"ok\"]}}") ≡ None
unfolding serde_json_on_literals is_utf8 chars
answer_of_a_hook = refl

answer_of_a_limiter : reading host_answers_of (codes "{\"hook\":[\"yes\"]}") ≡ None
unfolding serde_json_on_literals is_utf8 chars
answer_of_a_limiter = refl

hook_that_continues : reading host_answers_of (codes "{\"hook\":[5]}") ≡ None
unfolding serde_json_on_literals is_utf8 chars
hook_that_continues = refl

fraction : reading host_answers_of (codes "{\"deadline\":[5.0]}") ≡ None
unfolding serde_json_on_literals is_utf8 chars
fraction = refl

most_ticks : reading host_answers_of (codes "{\"deadline\":[18446744073709551615]}") ≡ Some (record { number = pos 0; limiter = None; hook = None; deadline = Some (behaviour.Continue 18446744073709551615 ∷ []) })
unfolding serde_json_on_literals is_utf8 chars
most_ticks = refl

other_key : reading limiter_of (codes "{\"globals\":1}") ≡ None
unfolding serde_json_on_literals is_utf8 chars
other_key = refl

negative_count : reading limiter_of (codes "{\"tables\":-1}") ≡ None
unfolding serde_json_on_literals is_utf8 chars
negative_count = refl

a_number : reading host_answers_of (codes "{\"number\":-5}") ≡ Some (record no_answers { number = negsuc 4 })
unfolding serde_json_on_literals is_utf8 chars
a_number = refl

-- it is taken modulo 2^64 as a signed number
greatest_number : reading host_answers_of (codes "{\"number\":18446744073709551615}") ≡ Some (record no_answers { number = negsuc 0 })
unfolding serde_json_on_literals is_utf8 chars
greatest_number = refl

number_as_text : reading host_answers_of (codes "{\"number\":\"5\"}") ≡ None
unfolding serde_json_on_literals is_utf8 chars
number_as_text = refl

data_of_a_script : spelling (codes "{\"data\":{\"hook\":[]},\"commands\":[]}") ≡ Spells (record { engine = default_engine; modules = []; answers = record { number = pos 0; limiter = None; hook = Some []; deadline = None }; bodies = []; commands = [] })
unfolding serde_json_on_literals hex_on_literals is_utf8 chars
data_of_a_script = refl

null_data : spelling (codes "{\"data\":null,\"commands\":[]}") ≡ NoScript
unfolding serde_json_on_literals hex_on_literals is_utf8 chars
null_data = refl
