-- A part of a call where functions wait, and behind the border of a body. This project's own.
use Rattle.std.specs.Global.{Global}
use Rattle.std.specs.Prelude.{◌≡◌, ℕ, ◌+◌, List, Result, Ok, Err, Box}
use Rattle.wasm_meter.specs.declared.call_hook.CallHook.TheVariants as event
use Rattle.spec_machine.specs.declared.reply.Reply.{Reply}
use Rattle.spec_execution.specs.Activations.{Activation, replied}
use Rattle.spec_execution.specs.Bodies.{exec}
use Rattle.spec_execution.specs.Checks.{pass_behind}
use Rattle.spec_execution.specs.Hosts.{go_on}
use Rattle.spec_execution.specs.declared.answer.Event.TheVariants.{Replied}
use Rattle.wasm_host.specs.Activations.{activation_of}
use Rattle.wasm_host.specs.declared.activation.Activation.{Activation as Entered}
use Rattle.code_leaps.specs.Leading.{Doing}
use Rattle.code_run.specs.declared.thread.Thread.{Thread}
use Rattle.code_hosts.specs.Hosting.{outwards}
use Rattle.code_hosts.specs.States.{around_of}
use Rattle.code_hosts.specs.declared.rounds.Lack.TheVariants as lack
use Rattle.code_hosts.specs.declared.rounds.Lacking.{Lacking}
use Rattle.code_hosts.specs.declared.rounds.Round.TheVariants as round
use Rattle.code_hosts.specs.declared.rounds.Rounded.{Rounded}
use Rattle.code_hosts.specs.declared.states.Open.TheVariants as working
use Rattle.code_hosts.specs.declared.states.Waiting.{Waiting}

-- these wait for it
abbrev pub awaited : List Waiting → Doing → Doing
awaited around due w = outwards (around_of around) (due w)

-- it is what a function of the host does
abbrev pub bordered : Doing → Doing
bordered due w = pass_behind event.ReturningFromHost (due w)

-- a body goes on behind the reply to its operation
abbrev pub replying : Activation → Reply → Doing
replying a answer w = go_on exec a w answer

-- it goes on with the body that has this reply
abbrev pub TakesReply : Activation → Reply → Rounded → Type 0
TakesReply a answer x =
    (x.spent ≡ 0) ×
    ((b : Entered) × (x.round ≡ round.Goes (working.Body b Replied)) × (activation_of b ≡ replied a answer))

-- it goes on with this code
abbrev pub RunsCode : Thread → Rounded → Type 0
RunsCode t x =
    (x.spent ≡ 0) × ((b : Box Thread Global) × (x.round ≡ round.Goes (working.Code b)) × (b.value ≡ t))

-- there was no memory, and no turn was taken
abbrev pub LacksAtOnce : Lacking → Type 0
LacksAtOnce x = (x.lack ≡ lack.Run) × (x.spent ≡ 0)

-- with so many turns before
abbrev pub later : ℕ → Result Rounded Lacking → Result Rounded Lacking
later before (Ok x) = Ok (record x { spent = before + x.spent })
later before (Err x) = Err (record x { spent = before + x.spent })
