-- The border behind a function that ended. This project's own.
use Rattle.std.specs.Prelude.{◌≡◌, ℕ, ◌≤◌, List, [], reverse}
use Rattle.wasm_meter.specs.declared.call_hook.CallHook.{CallHook}
use Rattle.spec_execution.specs.Askings.{Question, Answer, Asking, Chain}
use Rattle.spec_execution.specs.Checks.{pass_behind}
use Rattle.spec_execution.specs.Outcomes.{state, Values, Over, Trapped, Refused, Stopped, Stuck}
use Rattle.code_leaps.specs.Leading.{Doing, Setting, Leads, Stops}
use Rattle.code_hosts.specs.declared.replies.How.{How}
use Rattle.code_hosts.specs.declared.replies.How.TheVariants as how
use Rattle.code_hosts.specs.declared.replies.Reply.{Reply}

-- an end, as it goes outwards
abbrev pub ended : How → Doing
ended (how.Returned v) = λ w. Values (state w [] (reverse v.items))
ended (how.Trapped t) = Over (Trapped t)
ended (how.Refused why) = Over (Refused why)
ended how.Stuck = Over Stuck
ended how.TurnLimit = Over Stopped

-- so many turns of those that are left, with these questions and answers, lead past the border, or are all
module _ {H : Type 0} (g : Setting H) (event : CallHook) (old : How) (h : H) (left spent : ℕ) (heard : List Asking) where
  abbrev pub due : Doing
  due w = pass_behind event (ended old w)

  abbrev pub PassesBy : How → Type 0
  PassesBy how.TurnLimit = Stops g due h spent heard h × (spent ≡ left)
  PassesBy new = Leads g due h spent heard (ended new) h

pub record Passes {H W : Type 0} (g : Setting H) (moves : W → Question → Answer → W → Type 0) (event : CallHook)
    (old : How) (h : H) (o : W) (left : ℕ) (reply : Reply) (o' : W) : Type 0 where
  pub within : reply.turns ≤ left
  pub heard : List Asking
  pub chain : Chain moves o heard o'
  pub by : PassesBy g event old h left reply.turns heard reply.how
