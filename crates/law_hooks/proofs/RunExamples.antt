-- What a hook hears in a run, each by computation: a host calls a function of the host, which calls itself once.
use Rattle.std.proofs.Common.{◌≡◌, ℕ, List, [], ◌∷◌, Some, None, refl, arith}
use Rattle.std.specs.Prelude.{Ok, Err, true, false}
use Rattle.wasm_types.specs.Signatures.{Signature}
use Rattle.wasm_types.specs.Signatures as sig
use Rattle.wasm_types.specs.declared.plain.Finality.TheVariants.{Final}
use Rattle.wasm_meter.specs.declared.call_hook.CallHook.TheVariants.{CallingWasm, ReturningFromWasm, CallingHost, ReturningFromHost}
use Rattle.wasm_values.specs.Handles.{func_of}
use Rattle.wasm_values.specs.declared.externals.Extern.TheVariants as x
use Rattle.wasm_values.specs.declared.store_id.StoreId.{StoreId}
use Rattle.spec_machine.specs.Machine.{Machine, EngineParts, new_machine, host}
use Rattle.spec_machine.specs.declared.name.Name.TheVariants as name
use Rattle.spec_machine.specs.declared.operation.Op.TheVariants as op
use Rattle.spec_execution.specs.Askings.{Answer, Asking, Has, Passed, Stepped}
use Rattle.spec_execution.specs.Bodies.{exec, unfolded, step}
use Rattle.spec_execution.specs.Entering.{entry}
use Rattle.spec_execution.specs.Outcomes.{world}
use Rattle.spec_execution.specs.declared.answer.Answer.{Answer as Say}
use Rattle.spec_execution.specs.declared.answer.Answer.TheVariants.{Return, Call}
use Rattle.spec_execution.proofs.LaterWorldLemmas.{world_of}
use Rattle.law_hooks.specs.Brackets.{open_calls, events_in, borders_in, IsBracketed}

abbrev id : StoreId
id = record { raw = record { value = 1; ok = omega arith }; within = omega arith }

abbrev engine : EngineParts
engine = record { number = 1; consumes_fuel = false; reads_epochs = false; frames = 1024; turns = 1000 }

abbrev quiet : Signature
quiet = sig.signature 1 Final sig.root sig.end sig.end

-- one function of the host, with itself stored; and a hook
abbrev store : Machine
store = record (new_machine id engine) {
  functions = host quiet 0 (x.Func (func_of id 0) ∷ []) ∷ [];
  is_hooked = true;
}

-- what was heard in so many turns, with these answers
abbrev heard_in : ℕ → List Answer → List Asking
heard_in turns answers = (world_of (entry exec 0 0 [] None (world store turns [] answers))).heard

abbrev done : Answer
done = Passed (Ok tt)

abbrev fails : Answer
fails = Passed (Err (record {}))

abbrev says : Say → Answer
says what = Stepped 0 (Ok what)

abbrev calls_itself : Say
calls_itself = Call (op.Call (name.Stored 0) [] None)

-- the hook lets all pass
abbrev nested : List Asking
nested =
    heard_in 20
    (done ∷ Has true ∷ done ∷ says calls_itself ∷ done ∷ Has true ∷ done ∷ says (Return []) ∷ done ∷ done
    ∷ says (Return []) ∷ done ∷ done ∷ [])

nested_events :
    events_in nested
    ≡ CallingWasm ∷ CallingHost ∷ CallingWasm ∷ CallingHost ∷ ReturningFromHost ∷ ReturningFromWasm
    ∷ ReturningFromHost ∷ ReturningFromWasm ∷ []
unfolding exec unfolded step
nested_events = refl

nested_run : IsBracketed nested
unfolding exec unfolded step
nested_run = refl

-- it fails as the inner call begins: no event follows for that one, and the outer ones end as ever
abbrev barred : List Asking
barred =
    heard_in 20
    (done ∷ Has true ∷ done ∷ says calls_itself ∷ fails ∷ says (Return []) ∷ done ∷ done ∷ [])

barred_events :
    events_in barred ≡ CallingWasm ∷ CallingHost ∷ CallingWasm ∷ ReturningFromHost ∷ ReturningFromWasm ∷ []
unfolding exec unfolded step
barred_events = refl

barred_run : IsBracketed barred
unfolding exec unfolded step
barred_run = refl

-- it fails as the inner function of the host ends: the call around that one ends all the same
abbrev failing : List Asking
failing =
    heard_in 20
    (done ∷ Has true ∷ done ∷ says calls_itself ∷ done ∷ Has true ∷ done ∷ says (Return []) ∷ fails ∷ done
    ∷ says (Return []) ∷ done ∷ done ∷ [])

failing_events : events_in failing ≡ events_in nested
unfolding exec unfolded step
failing_events = refl

failing_run : IsBracketed failing
unfolding exec unfolded step
failing_run = refl

-- no turn is left for the first step
stopped_run :
    open_calls (borders_in (heard_in 2 (done ∷ Has true ∷ done ∷ []))) [] ≡ Some (CallingHost ∷ CallingWasm ∷ [])
unfolding exec unfolded step
stopped_run = refl
