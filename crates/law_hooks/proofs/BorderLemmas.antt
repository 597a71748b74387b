-- Events one after another, and what was heard with one asking more.
use Rattle.std.proofs.Common.{◌≡◌, List, [], ◌∷◌, ◌++◌, Option, Some, None, refl, ap, ◌∙◌, suc}
use Rattle.std.specs.Prelude.{option_and_then, Ok, Err}
use Rattle.std.proofs.lemmas.List.Elements.{filter_map-append}
use Rattle.wasm_meter.specs.declared.call_hook.CallHook.{CallHook}
use Rattle.wasm_meter.specs.declared.call_hook.CallHook.TheVariants.{CallingWasm, ReturningFromWasm, CallingHost, ReturningFromHost}
use Rattle.spec_execution.specs.Askings.{Question, Passing, Answer, Passed, Asking}
use Rattle.law_hooks.specs.Brackets.{open_behind, open_calls, event_of, events_in, border_of, borders_in, IsNoFault, NoHookFailed}

open_calls-option :
    (xs ys : List CallHook) (calls : Option (List CallHook))
    → ((some : List CallHook) → open_calls (xs ++ ys) some ≡ option_and_then (open_calls ys) (open_calls xs some))
    → option_and_then (open_calls (xs ++ ys)) calls
    ≡ option_and_then (open_calls ys) (option_and_then (open_calls xs) calls)
open_calls-option xs ys None h = refl
open_calls-option xs ys (Some calls) h = h calls

-- events behind others find those calls open that the others leave
pub open_calls-append :
    (xs ys calls : List CallHook)
    → open_calls (xs ++ ys) calls ≡ option_and_then (open_calls ys) (open_calls xs calls)
open_calls-append [] ys calls = refl
open_calls-append (event ∷ xs) ys calls =
    open_calls-option xs ys (open_behind event calls) (open_calls-append xs ys)

-- the calls that are open behind one asking more
pub open_calls-heard :
    (heard : List Asking) (asking : Asking) (calls next : List CallHook)
    → open_calls (borders_in heard) [] ≡ Some calls → open_calls (borders_in (asking ∷ [])) calls ≡ Some next
    → open_calls (borders_in (heard ++ asking ∷ [])) [] ≡ Some next
open_calls-heard heard asking calls next e p =
    ap (λ (events : List CallHook). open_calls events [])
    (filter_map-append (λ (x : Asking). border_of x.0 x.1) heard (asking ∷ []))
    ∙ open_calls-append (borders_in heard) (borders_in (asking ∷ [])) []
    ∙ ap (option_and_then (open_calls (borders_in (asking ∷ [])))) e ∙ p

-- where no hook failed, every event is that of a border that was passed
border_of-no_fault : (q : Question) (a : Answer) → IsNoFault a → border_of q a ≡ event_of q a
border_of-no_fault (Passing CallingWasm) (Passed (Ok done)) h = refl
border_of-no_fault (Passing CallingHost) (Passed (Ok done)) h = refl
border_of-no_fault (Passing ReturningFromWasm) (Passed (Ok done)) h = refl
border_of-no_fault (Passing ReturningFromHost) (Passed (Ok done)) h = refl
border_of-no_fault (Passing event) (Passed (Err fault)) h = absurd h
border_of-no_fault q a h = refl

pub borders_in-no_fault : (heard : List Asking) → NoHookFailed heard → borders_in heard ≡ events_in heard
borders_in-no_fault [] h = refl
borders_in-no_fault (x ∷ more) h =
    let e : border_of x.0 x.1 ≡ event_of x.0 x.1 = border_of-no_fault x.0 x.1 (h 0 x refl) in
    let p : borders_in more ≡ events_in more = borders_in-no_fault more (λ n a q. h (suc n) a q) in
    cc
