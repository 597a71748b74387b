-- What a call of a guest comes to, by what its check and the call of the function answered.
use Rattle.std.proofs.Common.{◌≡◌, ℕ, List, Option, Some, slice_get, Result, Ok, Err, sym, ap, ◌∙◌, subst, inl, inr}
use Rattle.std.specs.Prelude.{⊤, IfErr, IfOk, OnOk}
use Rattle.wasm_values.specs.declared.handles.Func.{Func}
use Rattle.wasm_values.specs.declared.refusals.Refusal.{Refusal}
use Rattle.wasm_values.specs.declared.refusals.Refusal.TheVariants as refusal
use Rattle.wasm_values.specs.declared.values.Val.{Val}
use Rattle.spec_machine.specs.FunctionCalls.{called}
use Rattle.spec_machine.specs.Machine.{Machine}
use Rattle.spec_machine.specs.WellFormed.{IsWellFormed}
use Rattle.law_plugins.specs.Laws.{KeepsOthers}
use Rattle.law_plugins.specs.Meeting.{GuestsAreApart, KeepsGuest}
use Rattle.guest_calls.specs.Guarded.{CallKeepsGuests}
use Rattle.wasm_store.specs.Stores.{StoreParts}
use Rattle.wasm_call.specs.Calls.{call_row, Returned, Failed, CallRefuses}
use Rattle.wasm_call.specs.Outside.{Moving, Surrounded, surrounded}
use Rattle.wasm_plugins.specs.Calling.{Comes, Calls, told}
use Rattle.wasm_plugins.specs.Guests.{PluginsParts, plugins_parts, may_call, Answers, Refuses, told_fault}
use Rattle.wasm_plugins.specs.declared.faults.PluginFault.{PluginFault}
use Rattle.wasm_plugins.specs.declared.faults.PluginFault.TheVariants as fault
use Rattle.wasm_plugins.proofs.CheckLemmas.{MayCall, passed_call, reaches_call}
use Rattle.wasm_plugins.proofs.ToldLemmas.{passed, told_is, same_why}

-- the refusal that is due is told
told_answer : {X : Type 0} (due : Result X Refusal) (answer : Result ⊤ Refusal) (result : Result ⊤ PluginFault) →
    result ≡ told answer → IfErr due (λ w. answer ≡ Err w) → IfErr due (λ w. Refuses (fault.Refused w) result)
told_answer (Ok x) answer result e h = tt
told_answer (Err w) answer result e h =
    elim (told_is w) [
      | inl q ↦ inl (e ∙ ap told h ∙ ap (λ (f : PluginFault). Err f) q)
      | inr q ↦ inr (e ∙ ap told h ∙ ap (λ (f : PluginFault). Err f) q)
    ]

-- a refusal that is told is the one that was answered
told_refusal : (w why : Refusal) → told_fault w ≡ fault.Refused why → w ≡ why
told_refusal refusal.OutOfMemory why e = absurd cc
told_refusal w why e = cc

told_reason : (P : Refusal → Type 0) (answer : Result ⊤ Refusal) (result : Result ⊤ PluginFault) →
    result ≡ told answer → IfErr answer P → (why : Refusal) → result ≡ Err (fault.Refused why) → P why
told_reason P (Ok done) result e h why q = absurd cc
told_reason P (Err w) result e h why q =
    subst P (told_refusal w why (same_why {A = ⊤} (told_fault w) (fault.Refused why) (sym e ∙ q))) h

-- whatever the call of the function answered
comes_so : {T H E : Type 0} (moves : Moving T H E) (m : Machine) (f : Func) (params : List Val) (wanted : Option ℕ)
    (old : Surrounded T H E) (answer : Result ⊤ Refusal) (results : List Val) (new : Surrounded T H E) →
    OnOk answer (Returned moves (call_row m f params wanted) old results new) →
    IfErr answer (λ why. Failed moves (call_row m f params wanted) old why new) →
    Comes moves m f params wanted old answer results new
comes_so moves m f params wanted old (Ok done) results new returned failed = returned
comes_so moves m f params wanted old (Err why) results new returned failed = failed

-- the fields of what is seen as a store with guests, and the guests as the check was shown them
module _ {T : Type 0} (inside : StoreParts T) (items : List ℕ) (p : PluginsParts T)
    (view : plugins_parts inside items ≡ p) (slice : List ℕ) (listed : slice ≡ items) (place : ℕ) (name : List ℕ) (params : List Val) where
  abbrev Checked : Result Func PluginFault → Type 0
  Checked result = Answers (may_call inside.machine slice place name params) result

  abbrev due : Result Func PluginFault
  due = may_call p.store.machine p.guests place name params

  call_items : (result : Result Func PluginFault) → Checked result →
      Answers (may_call inside.machine items place name params) result
  call_items result h =
      subst (λ (gs : List ℕ). Answers (may_call inside.machine gs place name params) result) listed h

  call_passed : (f : Func) → Checked (Ok f) → due ≡ Ok f
  call_passed f h =
      passed due f
      (subst (λ (q : PluginsParts T). Answers (may_call q.store.machine q.guests place name params) (Ok f)) view
      (call_items (Ok f) h))

  -- of the function that is due, where it is the one that was found
  of_callee : (f : Func) (P : Func → Type 0) → Checked (Ok f) → P f → IfOk due P
  of_callee f P h q = subst (λ (r : Result Func PluginFault). IfOk r P) (sym (call_passed f h)) q

  -- ---- what is kept

  pub call_keeps : (f : Func) (wanted : Option ℕ) (after : Machine) → Checked (Ok f) → IsWellFormed inside.machine →
      GuestsAreApart inside.machine items → CallKeepsGuests inside.machine after f params wanted →
      KeepsOthers inside.machine after items place
  call_keeps f wanted after h well are keeps =
      let e : may_call inside.machine items place name params ≡ Ok f =
      passed (may_call inside.machine items place name params) f (call_items (Ok f) h) in
      let k : MayCall inside.machine items place name params f =
      passed_call inside.machine items place name params f e in
      keeps items place k.guest are k.found (reaches_call inside.machine items place name params f well wanted e k)

  pub view_others : (after : Machine) →
      ((i g : ℕ) → (i ≡ place → ⊥) → slice_get items i ≡ Some g → KeepsGuest inside.machine after g) →
      (i g : ℕ) → (i ≡ place → ⊥) → slice_get p.guests i ≡ Some g → KeepsGuest p.store.machine after g
  view_others after h =
      subst (λ (q : PluginsParts T). (i g : ℕ) → (i ≡ place → ⊥) → slice_get q.guests i ≡ Some g →
      KeepsGuest q.store.machine after g) view h

  -- ---- what it comes to

  module _ {H E : Type 0} (moves : Moving T H E) (wanted : Option ℕ) (host : H) (epochs : E) (results : List Val) where
    module _ (f : Func) (new : Surrounded T H E) (answer : Result ⊤ Refusal) (result : Result ⊤ PluginFault)
        (found : Checked (Ok f)) (is : result ≡ told answer) where
      pub made_call :
          OnOk answer (Returned moves (call_row inside.machine f params wanted) (surrounded inside host epochs) results
          new)
          → IfErr answer (λ why. Failed moves (call_row inside.machine f params wanted) (surrounded inside host epochs)
          why new)
          → IfOk due (λ g. Calls moves g params wanted (surrounded p.store host epochs) result results new)
      made_call returned failed =
          of_callee f _ found (inr (record {
            answer = answer;
            comes =
                subst (λ (q : PluginsParts T).
                Comes moves q.store.machine f params wanted (surrounded q.store host epochs) answer results new) view
                (comes_so moves inside.machine f params wanted (surrounded inside host epochs) answer results new
                returned failed);
            told_so = is;
          }))

  pub told_call : (wanted : Option ℕ) (f : Func) (answer : Result ⊤ Refusal) (result : Result ⊤ PluginFault) →
      Checked (Ok f) → result ≡ told answer → IfErr (called inside.machine f params wanted) (λ w. answer ≡ Err w) →
      IfOk due (λ g. IfErr (called p.store.machine g params wanted) (λ w. Refuses (fault.Refused w) result))
  told_call wanted f answer result found is h =
      of_callee f _ found
      (subst (λ (q : PluginsParts T).
      IfErr (called q.store.machine f params wanted) (λ w. Refuses (fault.Refused w) result)) view
      (told_answer (called inside.machine f params wanted) answer result is h))

  pub told_due : (wanted : Option ℕ) (f : Func) (answer : Result ⊤ Refusal) (result : Result ⊤ PluginFault) →
      Checked (Ok f) → result ≡ told answer → IfErr answer (CallRefuses inside.machine f params wanted) →
      IfOk due (λ g. (why : Refusal) → result ≡ Err (fault.Refused why) →
      CallRefuses p.store.machine g params wanted why)
  told_due wanted f answer result found is h =
      of_callee f _ found
      (subst (λ (q : PluginsParts T). (why : Refusal) → result ≡ Err (fault.Refused why) →
      CallRefuses q.store.machine f params wanted why) view
      (told_reason (CallRefuses inside.machine f params wanted) answer result is h))
