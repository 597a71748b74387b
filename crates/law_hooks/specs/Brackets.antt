-- When the events of a hook lie in brackets: each event at the end of a call is of the kind of the newest call that is
-- open, and closes it. This project's own.
use Rattle.std.specs.Prelude.{◌≡◌, List, [], ◌∷◌, Option, Some, None, option_and_then, Result, Err, ⊤}
use Rattle.std.specs.List.{filter_map}
use Rattle.wasm_types.specs.Each.{Each}
use Rattle.wasm_meter.specs.declared.call_hook.CallHook.{CallHook}
use Rattle.wasm_meter.specs.declared.call_hook.CallHook.TheVariants.{CallingWasm, ReturningFromWasm, CallingHost, ReturningFromHost}
use Rattle.wasm_meter.specs.declared.faults.HookFailed.{HookFailed}
use Rattle.spec_execution.specs.Askings.{Question, Passing, Answer, Passed, Asking}

-- ---- events

-- the calls that are open behind an event, by those that were open before it: each by the event at its begin, the
-- newest first; none where the event ends another call than the newest
abbrev pub open_behind : CallHook → List CallHook → Option (List CallHook)
open_behind CallingWasm calls = Some (CallingWasm ∷ calls)
open_behind CallingHost calls = Some (CallingHost ∷ calls)
open_behind ReturningFromWasm (CallingWasm ∷ calls) = Some calls
open_behind ReturningFromHost (CallingHost ∷ calls) = Some calls
open_behind event calls = None

-- the same behind several events, one after another
abbrev pub open_calls : List CallHook → List CallHook → Option (List CallHook)
open_calls [] calls = Some calls
open_calls (event ∷ more) calls = option_and_then (open_calls more) (open_behind event calls)

-- each event at the end of a call closes the newest one that is open, and none is left open
abbrev pub AreBracketed : List CallHook → Type 0
AreBracketed events = open_calls events [] ≡ Some []

-- the same, but some may be left open
abbrev pub AreBracketedSoFar : List CallHook → Type 0
AreBracketedSoFar events = (calls : List CallHook) × (open_calls events [] ≡ Some calls)

-- ---- what was heard

-- the event of which a hook was told, whatever it answered; each one in turn
abbrev pub event_of : Question → Answer → Option CallHook
event_of (Passing event) (Passed answer) = Some event
event_of question answer = None

abbrev pub events_in : List Asking → List CallHook
events_in heard = filter_map (λ (asking : Asking). event_of asking.0 asking.1) heard

-- the event by which a call passed a border: where a hook fails at the begin of a call, none begins; where it fails at
-- the end of one, that ends all the same
abbrev pub border_by : CallHook → Result ⊤ HookFailed → Option CallHook
border_by CallingWasm (Err fault) = None
border_by CallingHost (Err fault) = None
border_by event answer = Some event

abbrev pub border_of : Question → Answer → Option CallHook
border_of (Passing event) (Passed answer) = border_by event answer
border_of question answer = None

abbrev pub borders_in : List Asking → List CallHook
borders_in heard = filter_map (λ (asking : Asking). border_of asking.0 asking.1) heard

-- the borders that were passed lie in brackets
abbrev pub IsBracketed : List Asking → Type 0
IsBracketed heard = AreBracketed (borders_in heard)

abbrev pub IsBracketedSoFar : List Asking → Type 0
IsBracketedSoFar heard = AreBracketedSoFar (borders_in heard)

-- no hook failed
abbrev pub IsNoFault : Answer → Type 0
IsNoFault (Passed (Err fault)) = ⊥
IsNoFault answer = Unit {0}

abbrev pub NoHookFailed : List Asking → Type 0
NoHookFailed heard = Each heard (λ (asking : Asking). IsNoFault asking.1)
