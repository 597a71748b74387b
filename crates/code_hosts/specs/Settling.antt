-- What waits for a function goes on with its end. This project's own.
use Rattle.std.specs.Prelude.{◌≡◌, List}
use Rattle.wasm_types.specs.declared.value_types.ValType.{ValType}
use Rattle.wasm_meter.specs.declared.call_hook.CallHook.TheVariants as event
use Rattle.wasm_values.specs.declared.store_id.StoreId.{StoreId}
use Rattle.spec_execution.specs.Activations.{Activation}
use Rattle.spec_execution.specs.Bodies.{exec}
use Rattle.spec_execution.specs.Checks.{pass_behind}
use Rattle.spec_execution.specs.Commands.{by_run}
use Rattle.spec_execution.specs.Hosts.{go_on}
use Rattle.spec_execution.specs.Outcomes.{World, Outcome, Over}
use Rattle.spec_execution.specs.declared.answer.Event.{Event}
use Rattle.wasm_host.specs.Activations.{activation_of}
use Rattle.code_hosts.specs.declared.replies.How.{How}
use Rattle.code_hosts.specs.Behind.{ended}
use Rattle.code_hosts.specs.Hosting.{does, reply_of}
use Rattle.code_hosts.specs.Rounds.{IsEnd}
use Rattle.code_hosts.specs.States.{open_of}
use Rattle.code_hosts.specs.declared.rounds.Round.{Round}
use Rattle.code_hosts.specs.declared.rounds.Round.TheVariants as round
use Rattle.code_hosts.specs.declared.states.Open.TheVariants as work

-- what is done with the outcome of a function that ended so goes on with this at work, or ends so, in each store of this
-- id, with no turn and no question
module _ (id : StoreId) (go : Outcome → Outcome) (how : How) where
  abbrev pub GoesOn : Round → Type 0
  GoesOn (round.Goes now) = (w : World) → w.machine.id ≡ id → go (ended how w) ≡ does (open_of now) w
  GoesOn (round.Ends end) = ((w : World) → go (ended how w) ≡ ended end w) × IsEnd end
  GoesOn round.Limit = ⊥

-- a body is told of the end of the function whose call it asked for
abbrev pub telling : Activation → List ValType → Outcome → Outcome
telling a types o = pass_behind event.ReturningFromHost (by_run Over (reply_of types) (go_on exec a) o)

-- a step of this body is due
abbrev pub IsStep : Activation → Event → Round → Type 0
IsStep a why (round.Goes (work.Body b event)) = (activation_of b ≡ a) × (event ≡ why)
IsStep a why r = ⊥
