-- A function of the host is entered: whether it has the body, and the border before that. This project's own.
use Rattle.std.specs.Prelude.{◌≡◌, ℕ, ◌≤◌, List, Option}
use Rattle.wasm_objects.specs.declared.raw.RawVal.{RawVal}
use Rattle.spec_execution.specs.Askings.{Question, Answer, Asking, Chain}
use Rattle.spec_execution.specs.Bodies.{exec}
use Rattle.spec_execution.specs.Entering.{enter_host}
use Rattle.spec_execution.specs.Outcomes.{Over}
use Rattle.spec_execution.specs.declared.answer.Event.TheVariants.{Start}
use Rattle.wasm_host.specs.Activations.{activation_of}
use Rattle.code_leaps.specs.Leading.{Doing, Setting, Leads, Stops, Halts}
use Rattle.code_stack.specs.Steps.{end_of}
use Rattle.code_stack.specs.declared.steps.HostCall.{HostCall}
use Rattle.code_hosts.specs.Hosting.{Body, does}
use Rattle.code_hosts.specs.declared.body_entry.Entered.{Entered}
use Rattle.code_hosts.specs.declared.body_entry.Entrance.{Entrance}
use Rattle.code_hosts.specs.declared.body_entry.Entrance.TheVariants as entrance

-- with so many functions open around it, on these arguments, by code of an instance or by none
abbrev pub entering : HostCall → ℕ → List RawVal → Option ℕ → Doing
entering call depth args caller w = enter_host exec depth call.ty.now call.body call.stored.now args caller w

-- so many turns of those that are left, with these questions and answers, lead to its first step, or to an end
module _ {H : Type 0} (g : Setting H) (due : Doing) (h : H) (left spent : ℕ) (heard : List Asking) where
  abbrev pub EntersBy : Entrance → Type 0
  EntersBy (entrance.Opens a) = Leads g due h spent heard (does (Body (activation_of a) Start)) h
  EntersBy (entrance.Fails f) = Leads g due h spent heard (λ w. Over (end_of f) w) h
  EntersBy entrance.Limit = Stops g due h spent heard h × (spent ≡ left)

module _ {H W : Type 0} (g : Setting H) (moves : W → Question → Answer → W → Type 0) (due : Doing) (h : H) (o : W) where
  pub record Enters (left : ℕ) (entered : Entered) (o' : W) : Type 0 where
    pub within : entered.spent ≤ left
    pub heard : List Asking
    pub chain : Chain moves o heard o'
    pub by : EntersBy g due h left entered.spent heard entered.what

  -- there was no memory, and no turn was taken
  pub record Waits (o' : W) : Type 0 where
    pub heard : List Asking
    pub chain : Chain moves o heard o'
    pub halts : Halts g due h 0 heard h
