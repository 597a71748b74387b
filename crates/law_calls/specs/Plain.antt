-- What a call leaves as it was whose host hands out nothing unshown: all outside of what it names. This project's own.
use Rattle.std.specs.Prelude.{◌≡◌, ℕ, Bool, true, false, List, Option, Some, Result, IfSome}
use Rattle.std.specs.List.{list_all}
use Rattle.wasm_types.specs.declared.faults.OutOfMemory.{OutOfMemory as NoMemory}
use Rattle.wasm_values.specs.declared.values.Val.{Val}
use Rattle.wasm_values.specs.declared.values.Val.TheVariants as v
use Rattle.spec_machine.specs.Commands.{Row}
use Rattle.spec_machine.specs.declared.reply.Reply.{Reply}
use Rattle.spec_reach.specs.Nodes.{Node}
use Rattle.spec_execution.specs.Askings.{View}
use Rattle.spec_execution.specs.declared.answer.Answer.{Answer as Say}
use Rattle.law_plugins.specs.Showing.{as_shown}
use Rattle.wasm_call.specs.Confined.{KeepsTo, Confined}
use Rattle.wasm_call.specs.Outside.{Moving, Surrounded}

-- a call or an instantiation keeps to what leads from the function and the functions among the arguments, or from the
-- imports
abbrev pub KeepsToNames : {T H E : Type 0} → Moving T H E → Type 0
KeepsToNames {T} {H} {E} moves =
    (row : Row) (from : List Node) (old new : Surrounded T H E) (result : Result Reply NoMemory) →
    Confined moves row from old result new → KeepsTo from old.store.machine new.store.machine

-- a closure of the host gives no function
abbrev pub is_no_function : Val → Bool
is_no_function (v.FuncRef (Some f)) = false
is_no_function val = true

abbrev pub GivesNoFunction : {R : Type 0} → (R → Option (List Val)) → Type 0
GivesNoFunction {R} given = (r : R) → IfSome (given r) (λ vals. list_all is_no_function vals ≡ true)

-- a step hands out nothing that it was not shown
abbrev pub StepShows : (ℕ → ℕ → View → ℕ → Result Say NoMemory → Type 0) → Type 0
StepShows step =
    (body state after : ℕ) (seen : View) (what : Result Say NoMemory) → step body state seen after what →
    (said : Result Say NoMemory) × (what ≡ as_shown seen said)
