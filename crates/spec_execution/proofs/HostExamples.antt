-- Worked examples of host functions and of hooks, each by computation.
use Rattle.std.proofs.Common.{◌≡◌, ◌∷◌, [], Some, None, refl}
use Rattle.std.specs.Prelude.{List, Option, Ok, Err, true, false, pos}
use Rattle.wasm_syntax.specs.declared.instr.Instr.TheVariants as i
use Rattle.wasm_meter.specs.Growths.{memory_growth}
use Rattle.wasm_meter.specs.declared.call_hook.CallHook.TheVariants.{CallingWasm, ReturningFromWasm, CallingHost, ReturningFromHost}
use Rattle.wasm_values.specs.Handles.{memory_of}
use Rattle.wasm_values.specs.declared.externals.Extern.{Extern}
use Rattle.wasm_values.specs.declared.externals.Extern.TheVariants as x
use Rattle.wasm_values.specs.declared.refusals.Refusal.TheVariants.{NoReply, GrowFailed, HookFault, NoHostBody, HostFault, HostResultType}
use Rattle.wasm_values.specs.declared.refusals.Trap.TheVariants.{UnreachableCodeReached}
use Rattle.wasm_values.specs.declared.values.Val.TheVariants as v
use Rattle.spec_machine.specs.Machine.{Machine}
use Rattle.spec_machine.specs.declared.name.Name.TheVariants as name
use Rattle.spec_machine.specs.declared.operation.Op.TheVariants.{MemorySize, MemoryGrow}
use Rattle.spec_machine.specs.declared.reply.Reply.{Reply}
use Rattle.spec_machine.specs.declared.reply.Reply.TheVariants as reply
use Rattle.spec_execution.specs.Askings.{Question, Caller, View, Answer, Having, Has, Passing, Passed, Growing, Grown, Stepping, Stepped}
use Rattle.spec_execution.specs.Bodies.{exec, unfolded, step}
use Rattle.spec_execution.specs.Outcomes.{Outcome, Trapped, Refused, Stopped, Waiting, Exhausted}
use Rattle.spec_execution.specs.declared.answer.Answer.TheVariants.{Return, Fail, Call}
use Rattle.spec_execution.specs.declared.answer.Event.TheVariants.{Start, Replied}
use Rattle.spec_execution.proofs.Samples.{asked, id, change, quiet, store, straight, with_memory, with_host, call, ending, left, Gives, Ends, i32, says, seen}

-- a host function of type i32 -> i32 with a memory of three bytes stored, which a function of an instance calls by 7
abbrev memory : Extern
memory = x.Memory (memory_of id 0)

abbrev hosting : Machine
hosting =
    with_memory 3 (0 ∷ 0 ∷ 0 ∷ []) (with_host change (memory ∷ [])
    (store (straight 1 (i.Const32 (pos 7) ∷ i.Call 0 ∷ []) ∷ [])))

-- with these answers to the steps
abbrev hosted : List Answer → Outcome
hosted answers = call hosting 9 (Has true ∷ answers) 1 []

-- what each step sees: the argument, the stored memory, and the instance whose code called
abbrev told : List Reply → View
told replies = seen (v.I32 (pos 7) ∷ []) (memory ∷ []) replies (Some (record { number = 0; exports = [] }))

-- the first step, and the second one after the reply to an operation
abbrev begun : Question
begun = Stepping 0 0 Start (told [])

abbrev then : Reply → Question
then answer = Stepping 0 3 Replied (told (answer ∷ []))

-- ---- how a host function ends

returns_a_value : ending (hosted (says 3 (Return (v.I32 (pos 5) ∷ [])) ∷ [])) ≡ Gives (i32 5 ∷ [])
unfolding exec unfolded step
returns_a_value = refl

-- a constant, the call, and the step
steps_in_a_turn : (left (hosted (says 3 (Return (v.I32 (pos 5) ∷ [])) ∷ []))).turns ≡ 6
unfolding exec unfolded step
steps_in_a_turn = refl

asks_for_the_body_and_a_step : asked (hosted (says 3 (Return (v.I32 (pos 5) ∷ [])) ∷ [])) ≡ Having 0 ∷ begun ∷ []
unfolding exec unfolded step
asks_for_the_body_and_a_step = refl

refuses_another_type : ending (hosted (says 3 (Return (v.I64 (pos 5) ∷ [])) ∷ [])) ≡ Ends (Refused HostResultType)
unfolding exec unfolded step
refuses_another_type = refl

refuses_another_number : ending (hosted (says 3 (Return []) ∷ [])) ≡ Ends (Refused HostResultType)
unfolding exec unfolded step
refuses_another_number = refl

refuses_a_failing_host : ending (hosted (says 3 Fail ∷ [])) ≡ Ends (Refused HostFault)
unfolding exec unfolded step
refuses_a_failing_host = refl

refuses_without_a_body : ending (call hosting 9 (Has false ∷ []) 1 []) ≡ Ends (Refused NoHostBody)
unfolding exec unfolded step
refuses_without_a_body = refl

waits_for_a_step : ending (hosted []) ≡ Ends (Waiting begun)
unfolding exec unfolded step
waits_for_a_step = refl

-- so it does where the next answer is none to that question
waits_for_a_body : ending (call hosting 9 (Grown (Ok true) ∷ []) 1 []) ≡ Ends (Waiting (Having 0))
unfolding exec unfolded step
waits_for_a_body = refl

-- a step that had no memory is no turn
had_no_memory : ending (hosted (Stepped 3 (Err (record {})) ∷ [])) ≡ Ends Exhausted
unfolding exec unfolded step
had_no_memory = refl

had_no_memory_in_no_turn : (left (hosted (Stepped 3 (Err (record {})) ∷ []))).turns ≡ 7
unfolding exec unfolded step
had_no_memory_in_no_turn = refl

-- whether there is a body is asked in no turn, but a step needs one
needs_a_turn_to_step : ending (call hosting 2 (Has true ∷ says 3 Fail ∷ []) 1 []) ≡ Ends Stopped
unfolding exec unfolded step
needs_a_turn_to_step = refl

-- a call of the host has no such instance
abbrev by_none : Question
by_none = Stepping 0 0 Start (seen (v.I32 (pos 7) ∷ []) (memory ∷ []) [] None)

has_no_caller : ending (call hosting 9 (Has true ∷ []) 0 (i32 7 ∷ [])) ≡ Ends (Waiting by_none)
unfolding exec unfolded step
has_no_caller = refl

-- ---- its operations

-- the state of the first step and the reply to the operation are those of the second step
abbrev sized : Outcome
sized = hosted (says 3 (Call (MemorySize (name.Stored 0))) ∷ says 4 (Return (v.I32 (pos 5) ∷ [])) ∷ [])

goes_on_behind_an_operation : ending sized ≡ Gives (i32 5 ∷ [])
unfolding exec unfolded step
goes_on_behind_an_operation = refl

sees_the_reply : asked sized ≡ Having 0 ∷ begun ∷ then (reply.Number 3) ∷ []
unfolding exec unfolded step
sees_the_reply = refl

-- an operation takes a turn between the two steps
operates_in_a_turn : (left sized).turns ≡ 4
unfolding exec unfolded step
operates_in_a_turn = refl

-- a name that gives nothing is a reply, and takes no turn; a growth asks the limiter
abbrev unnamed : Outcome
unnamed = hosted (says 3 (Call (MemorySize (name.Stored 1))) ∷ says 4 Fail ∷ [])

sees_a_refusal : asked unnamed ≡ Having 0 ∷ begun ∷ then (reply.Refused NoReply) ∷ []
unfolding exec unfolded step
sees_a_refusal = refl

refuses_in_no_turn : (left unnamed).turns ≡ 5
unfolding exec unfolded step
refuses_in_no_turn = refl

abbrev denied : Outcome
denied =
    call (record hosting { is_limited = true }) 9
    (Has true ∷ says 3 (Call (MemoryGrow (name.Stored 0) 1)) ∷ Grown (Ok false) ∷ says 4 Fail ∷ []) 1 []

sees_a_failed_growth :
    asked denied ≡ Having 0 ∷ begun ∷ Growing (memory_growth 3 4 (Some 3)) ∷ then (reply.Refused GrowFailed) ∷ []
unfolding exec unfolded step
sees_a_failed_growth = refl

-- ---- hooks

-- a function of an instance that calls a host function
abbrev hooked : Machine
hooked =
    record (with_host quiet [] (store (straight 0 (i.Call 0 ∷ []) ∷ straight 0 (i.Unreachable ∷ []) ∷ []))) {
      is_hooked = true;
    }

abbrev done : Answer
done = Passed (Ok tt)

abbrev fails : Answer
fails = Passed (Err (record {}))

abbrev bordered : List Answer → Outcome
bordered answers = call hooked 9 answers 1 []

abbrev caller : Option Caller
caller = Some (record { number = 0; exports = [] })

abbrev first : Question
first = Stepping 0 0 Start (seen [] [] [] caller)

abbrev crossing : Outcome
crossing = bordered (done ∷ Has true ∷ done ∷ says 1 (Return []) ∷ done ∷ done ∷ [])

passes_all_borders : ending crossing ≡ Gives []
unfolding exec unfolded step
passes_all_borders = refl

asks_at_each_border :
    asked crossing
    ≡ Passing CallingWasm ∷ Having 0 ∷ Passing CallingHost ∷ first ∷ Passing ReturningFromHost
    ∷ Passing ReturningFromWasm ∷ []
unfolding exec unfolded step
asks_at_each_border = refl

-- a hook that fails before a call ends the run there, and no hook behind that call is asked
abbrev barred : Outcome
barred = bordered (fails ∷ [])

bars_an_entry : ending barred ≡ Ends (Refused HookFault)
unfolding exec unfolded step
bars_an_entry = refl

asks_once : asked barred ≡ Passing CallingWasm ∷ []
unfolding exec unfolded step
asks_once = refl

abbrev unstepped : Outcome
unstepped = bordered (done ∷ Has true ∷ fails ∷ done ∷ [])

bars_a_host : ending unstepped ≡ Ends (Refused HookFault)
unfolding exec unfolded step
bars_a_host = refl

asks_no_step :
    asked unstepped ≡ Passing CallingWasm ∷ Having 0 ∷ Passing CallingHost ∷ Passing ReturningFromWasm ∷ []
unfolding exec unfolded step
asks_no_step = refl

-- behind a call it is asked whatever the outcome, and its failure stands in place of that, of a trap too
abbrev failing : Outcome
failing = bordered (done ∷ Has true ∷ done ∷ says 1 Fail ∷ done ∷ done ∷ [])

keeps_a_failure : ending failing ≡ Ends (Refused HostFault)
unfolding exec unfolded step
keeps_a_failure = refl

asks_behind_a_failure : asked failing ≡ asked crossing
unfolding exec unfolded step
asks_behind_a_failure = refl

keeps_a_trap : ending (call hooked 9 (done ∷ done ∷ []) 2 []) ≡ Ends (Trapped UnreachableCodeReached)
unfolding exec unfolded step
keeps_a_trap = refl

fails_in_place_of_a_trap : ending (call hooked 9 (done ∷ fails ∷ []) 2 []) ≡ Ends (Refused HookFault)
unfolding exec unfolded step
fails_in_place_of_a_trap = refl

-- a run that is stopped asks nothing more
asks_nothing_where_stopped : asked (call hooked 1 (done ∷ done ∷ []) 2 []) ≡ Passing CallingWasm ∷ []
unfolding exec unfolded step
asks_nothing_where_stopped = refl
