-- Worked examples of events in brackets, each by computation.
use Rattle.std.proofs.Common.{◌≡◌, List, [], ◌∷◌, Some, None, refl}
use Rattle.std.specs.Prelude.{Ok, Err, true}
use Rattle.wasm_meter.specs.declared.call_hook.CallHook.{CallHook}
use Rattle.wasm_meter.specs.declared.call_hook.CallHook.TheVariants.{CallingWasm, ReturningFromWasm, CallingHost, ReturningFromHost}
use Rattle.spec_execution.specs.Askings.{Having, Passing, Has, Passed, Asking}
use Rattle.law_hooks.specs.Brackets.{open_calls, events_in, borders_in, IsBracketed}

-- a hook that was told of an event, and answered that all is well, or failed
abbrev passes : CallHook → Asking
passes event = (Passing event, Passed (Ok tt))

abbrev fails : CallHook → Asking
fails event = (Passing event, Passed (Err (record {})))

-- what is asked of others lies between
abbrev has_body : Asking
has_body = (Having 0, Has true)

-- the host calls a guest, that calls a function of the host, which calls a guest
abbrev nested : List Asking
nested =
    passes CallingWasm ∷ has_body ∷ passes CallingHost ∷ passes CallingWasm ∷ passes ReturningFromWasm
    ∷ passes ReturningFromHost ∷ passes ReturningFromWasm ∷ []

nested_calls : IsBracketed nested
nested_calls = refl

-- the hook fails at the begin of the innermost call, and at the end of the one around it
abbrev barred : List Asking
barred =
    passes CallingWasm ∷ has_body ∷ passes CallingHost ∷ fails CallingWasm ∷ fails ReturningFromHost
    ∷ passes ReturningFromWasm ∷ []

barred_call : IsBracketed barred
barred_call = refl

barred_borders :
    borders_in barred ≡ CallingWasm ∷ CallingHost ∷ ReturningFromHost ∷ ReturningFromWasm ∷ []
barred_borders = refl

barred_events :
    events_in barred
    ≡ CallingWasm ∷ CallingHost ∷ CallingWasm ∷ ReturningFromHost ∷ ReturningFromWasm ∷ []
barred_events = refl

-- one call behind another
following_calls :
    IsBracketed (passes CallingWasm ∷ passes ReturningFromWasm ∷ passes CallingHost ∷ passes ReturningFromHost ∷ [])
following_calls = refl

nothing_heard : IsBracketed []
nothing_heard = refl

-- a stop leaves calls open
stopped_calls :
    open_calls (borders_in (passes CallingWasm ∷ has_body ∷ passes CallingHost ∷ [])) []
    ≡ Some (CallingHost ∷ CallingWasm ∷ [])
stopped_calls = refl

-- the end of a call that is not the newest one, of one that was not let in, and of none
crossed_calls :
    open_calls (borders_in (passes CallingWasm ∷ passes CallingHost ∷ passes ReturningFromWasm
    ∷ passes ReturningFromHost ∷ [])) []
    ≡ None
crossed_calls = refl

barred_end : open_calls (borders_in (fails CallingWasm ∷ passes ReturningFromWasm ∷ [])) [] ≡ None
barred_end = refl

no_begin : open_calls (ReturningFromHost ∷ []) [] ≡ None
no_begin = refl
