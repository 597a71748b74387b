-- A call of a function by a host, as an outermost command.
-- WebAssembly core specification, "Execution, modules, invocation"; turns and want of memory are this project's own
use Rattle.std.specs.Prelude.{◌≡◌, ℕ, true, List, Option, Some, Err}
use Rattle.wasm_types.specs.FunctionParts.{results}
use Rattle.wasm_types.specs.Signatures.{Signature}
use Rattle.wasm_values.specs.Handles.{func_index}
use Rattle.wasm_values.specs.declared.handles.Func.{Func}
use Rattle.wasm_values.specs.declared.refusals.Refusal.{Refusal}
use Rattle.wasm_values.specs.declared.refusals.Refusal.TheVariants.{WrongStore, ArgumentCount, ResultCount, TypeMismatch, LimiterFault, HookFault, EpochFault, NoHostBody, HostFault, HostResultType, TurnLimit, Trap, OutOfMemory}
use Rattle.wasm_values.specs.declared.values.Val.{Val}
use Rattle.spec_machine.specs.Commands.{Row, invokes}
use Rattle.spec_machine.specs.FunctionCalls.{called}
use Rattle.spec_machine.specs.Machine.{Machine}
use Rattle.spec_machine.specs.Values.{function_type, all_fit}
use Rattle.spec_machine.specs.declared.reply.Reply.TheVariants as reply
use Rattle.wasm_call.specs.Outcomes.{AnsweredRow, UnfinishedRow}
use Rattle.wasm_call.specs.Outside.{Moving, Surrounded}

-- the row of a call on these arguments, where it may be said how many results there are to be
abbrev pub call_row : Machine → Func → List Val → Option ℕ → Row
call_row m f args wanted = invokes (called m f args wanted)

-- it returned these results
abbrev pub Returned : {T H E : Type 0} → Moving T H E → Row → Surrounded T H E → List Val → Surrounded T H E → Type 0
Returned moves row old results new = AnsweredRow moves row old (reply.Values results) new

-- it gave no results: it was refused or trapped, or another turn was due and none was left; or memory ran out in it
abbrev pub Failed : {T H E : Type 0} → Moving T H E → Row → Surrounded T H E → Refusal → Surrounded T H E → Type 0
Failed moves row old OutOfMemory new = UnfinishedRow moves row old new
Failed moves row old why new = AnsweredRow moves row old (reply.Refused why) new

-- the values that a call of a function left are as many as its type has results, and each may stand where its type is
-- wanted, in the store behind the call
abbrev pub ResultsFit : Machine → Func → Machine → List Val → Type 0
ResultsFit m f after vals =
    (own : Signature) → function_type m (func_index f) ≡ Some own → all_fit after vals (results own) ≡ true

-- why a call may be refused: by a condition that does not hold, and it is that one; or, in its run, by what is outside, by
-- a function of the host, a trap, a turn too many or want of memory
abbrev pub CallRefuses : Machine → Func → List Val → Option ℕ → Refusal → Type 0
CallRefuses m f args wanted WrongStore = called m f args wanted ≡ Err WrongStore
CallRefuses m f args wanted ArgumentCount = called m f args wanted ≡ Err ArgumentCount
CallRefuses m f args wanted ResultCount = called m f args wanted ≡ Err ResultCount
CallRefuses m f args wanted TypeMismatch = called m f args wanted ≡ Err TypeMismatch
CallRefuses m f args wanted LimiterFault = Unit {0}
CallRefuses m f args wanted HookFault = Unit {0}
CallRefuses m f args wanted EpochFault = Unit {0}
CallRefuses m f args wanted NoHostBody = Unit {0}
CallRefuses m f args wanted HostFault = Unit {0}
CallRefuses m f args wanted HostResultType = Unit {0}
CallRefuses m f args wanted TurnLimit = Unit {0}
CallRefuses m f args wanted (Trap t) = Unit {0}
CallRefuses m f args wanted OutOfMemory = Unit {0}
CallRefuses m f args wanted why = ⊥
