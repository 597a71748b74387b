-- What is at work and what waits, as the code has them.
use Rattle.std.specs.Prelude.{List, map, reverse}
use Rattle.wasm_host.specs.Activations.{activation_of}
use Rattle.code_leaps.specs.Leading.{Doing}
use Rattle.code_hosts.specs.Hosting as hosting
use Rattle.code_hosts.specs.declared.states.Open.{Open}
use Rattle.code_hosts.specs.declared.states.Open.TheVariants as working
use Rattle.code_hosts.specs.declared.states.Waiting.{Waiting}
use Rattle.code_hosts.specs.declared.states.Waiting.TheVariants as waiting

abbrev pub open_of : Open → hosting.Open
open_of (working.Code t) = hosting.Code t.value
open_of (working.Body a why) = hosting.Body (activation_of a) why

abbrev pub waiting_of : Waiting → hosting.Waiting
waiting_of (waiting.Calls t call) = hosting.Calls t.value call
waiting_of (waiting.Asks a types) = hosting.Asks (activation_of a) types.now

-- the last one in the list is the innermost
abbrev pub around_of : List Waiting → List hosting.Waiting
around_of around = reverse (map waiting_of around)

-- all that is due
abbrev pub due_of : Open → List Waiting → Doing
due_of now around = hosting.means (open_of now) (around_of around)

-- a body is at work
abbrev pub IsBody : Open → Type 0
IsBody (working.Code t) = ⊥
IsBody (working.Body a why) = Unit {0}
