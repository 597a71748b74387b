-- A call is refused by a condition only where that one does not hold, and by nothing that only other calls refuse by.
use Rattle.std.proofs.Common.{◌≡◌, ℕ, Bool, true, false, List, [], ◌++◌, Option, Some, None, refl, ap, sym, ◌∙◌, subst, inl, inr}
use Rattle.std.specs.Prelude.{⊤, Result, Ok, Err, IfErr, ok_or, if◌then◌else◌}
use Rattle.std.proofs.lemmas.Option.{same_Some}
use Rattle.wasm_values.specs.declared.handles.Func.{Func}
use Rattle.wasm_values.specs.declared.refusals.Refusal.{Refusal}
use Rattle.wasm_values.specs.declared.refusals.Refusal.TheVariants as refusal
use Rattle.wasm_values.specs.declared.refusals.Trap.{Trap}
use Rattle.wasm_values.specs.declared.values.Val.{Val}
use Rattle.spec_machine.specs.Commands.{invokes}
use Rattle.spec_machine.specs.FunctionCalls.{Called, called}
use Rattle.spec_machine.specs.Machine.{Machine}
use Rattle.spec_machine.specs.Steps.{◌>>=◌, unless}
use Rattle.spec_machine.specs.declared.reply.Reply.{Reply}
use Rattle.spec_machine.specs.declared.reply.Reply.TheVariants as reply
use Rattle.spec_execution.specs.Askings.{Asking, answers_in}
use Rattle.spec_execution.specs.Commands.{Early, by_run, call_reply, replied}
use Rattle.spec_execution.specs.Outcomes.{World, world, State, Outcome, Values, Branch, Return, Over, Trapped, Refused, Stopped}
use Rattle.spec_execution.specs.Runs.{outermost_call}
use Rattle.law_causes.specs.Causes.{HasCause, code_reasons}
use Rattle.law_causes.proofs.LawLemmas.{calls_have_causes}
use Rattle.wasm_call.specs.Calls.{call_row, Failed, CallRefuses}
use Rattle.wasm_call.specs.Outcomes.{by_row, answer_of}
use Rattle.wasm_call.specs.Outside.{Moving, Surrounded}

-- ---- what runs code is refused as its code is, by a trap, or by a turn too many

-- the same refusal was told
told : (why : Refusal) (last : World) (other : Refusal) (w : World) →
    ◌≡◌ {A = Option (Reply × World)} (Some (reply.Refused other, w)) (Some (reply.Refused why, last)) → other ≡ why
told why last other w e =
    let same : reply.Refused other ≡ reply.Refused why =
    ap (λ (p : Reply × World). p.0) (same_Some (reply.Refused other, w) (reply.Refused why, last) e) in
    refusal_same other why same
  where
    refusal_same : (a b : Refusal) → reply.Refused a ≡ reply.Refused b → a ≡ b
    refusal_same a b e = cc

pub ends_refuse : (P : Refusal → Type 0) (say : State → Reply) (o : Outcome) (why : Refusal) (last : World) →
    ((s : State) → say s ≡ reply.Refused why → ⊥) → ((w : World) → o ≡ Over (Refused why) w → P why) →
    ((t : Trap) → P (refusal.Trap t)) → P refusal.TurnLimit →
    answer_of (by_run Early say replied o) ≡ Some (reply.Refused why, last) → P why
ends_refuse P say (Values s) why last none run trap stop a =
    absurd (none s (ap (λ (p : Reply × World). p.0) (same_Some (say s, s.world) (reply.Refused why, last) a)))
ends_refuse P say (Branch l s) why last none run trap stop a = absurd cc
ends_refuse P say (Return s) why last none run trap stop a = absurd cc
ends_refuse P say (Over (Trapped t) w) why last none run trap stop a =
    subst P (told why last (refusal.Trap t) w a) (trap t)
ends_refuse P say (Over (Refused other) w) why last none run trap stop a =
    run w (ap (λ (x : Refusal). Over (Refused x) w) (told why last other w a))
ends_refuse P say (Over Stopped w) why last none run trap stop a = subst P (told why last refusal.TurnLimit w a) stop
ends_refuse P say (Over end w) why last none run trap stop a = absurd cc

-- ---- the conditions of a call

abbrev IsOfCall : Refusal → Type 0
IsOfCall refusal.WrongStore = Unit {0}
IsOfCall refusal.ArgumentCount = Unit {0}
IsOfCall refusal.ResultCount = Unit {0}
IsOfCall refusal.TypeMismatch = Unit {0}
IsOfCall why = ⊥

abbrev RefusesCall : {A : Type 0} → Result A Refusal → Type 0
RefusesCall (Ok a) = Unit {0}
RefusesCall (Err why) = IsOfCall why

record IsCondition {A : Type 0} (r : Result A Refusal) : Type 0 where
  by : RefusesCall r

holds : {A : Type 0} (a : A) → IsCondition (Ok a)
holds a = record { by = tt }

unless_is : (why : Refusal) (b : Bool) → IsOfCall why → IsCondition (unless why b)
unless_is why true is = record { by = tt }
unless_is why false is = record { by = is }

or_is : {A : Type 0} (o : Option A) (why : Refusal) → IsOfCall why → IsCondition (ok_or o why)
or_is (Some a) why is = record { by = tt }
or_is None why is = record { by = is }

refuses_is : {A : Type 0} (why : Refusal) → IsOfCall why → IsCondition {A = A} (Err why)
refuses_is why is = record { by = is }

either_is : {A : Type 0} (b : Bool) (x y : Result A Refusal) → IsCondition x → IsCondition y →
    IsCondition (if b then x else y)
either_is true x y h j = h
either_is false x y h j = j

then_is : {A C : Type 0} (r : Result A Refusal) (go : A → Result C Refusal) → IsCondition r →
    ((a : A) → IsCondition (go a)) → IsCondition (r >>= go)
then_is (Ok a) go h j = j a
then_is (Err why) go h j = record { by = h.by }

called_is : (m : Machine) (f : Func) (args : List Val) (wanted : Option ℕ) → IsCondition (called m f args wanted)
called_is m f args wanted = search (then_is, unless_is, or_is, either_is, refuses_is, holds) depth 30

module _ (m : Machine) (f : Func) (args : List Val) (wanted : Option ℕ) where
  abbrev Refuses : Refusal → Type 0
  Refuses = CallRefuses m f args wanted

  of_condition : (why : Refusal) → IsOfCall why → called m f args wanted ≡ Err why → Refuses why
  of_condition refusal.WrongStore is e = e
  of_condition refusal.ArgumentCount is e = e
  of_condition refusal.ResultCount is e = e
  of_condition refusal.TypeMismatch is e = e
  of_condition why is e = absurd is

  refused_due : (why : Refusal) → called m f args wanted ≡ Err why → Refuses why
  refused_due why e =
      of_condition why (subst IsCondition e (called_is m f args wanted)).by e

  -- ---- its run

  of_cause : (why : Refusal) (heard : List Asking) → HasCause code_reasons why heard → Refuses why
  of_cause refusal.GrowFailed heard (inl h) = absurd h.0
  of_cause refusal.GrowFailed heard (inr h) = absurd h
  of_cause refusal.LimiterFault heard h = tt
  of_cause refusal.HookFault heard h = tt
  of_cause refusal.EpochFault heard h = tt
  of_cause refusal.HostFault heard h = tt
  of_cause refusal.NoHostBody heard h = tt
  of_cause refusal.HostResultType heard h = tt
  of_cause why heard h = absurd h

  not_values : (vals : List Val) (why : Refusal) → reply.Values vals ≡ reply.Refused why → ⊥
  not_values vals why e = cc

  by_due : (why : Refusal) (last : World) (due : Result Called Refusal) → called m f args wanted ≡ due →
      (first : World) → answer_of (by_row (invokes due) first) ≡ Some (reply.Refused why, last) → Refuses why
  by_due why last (Ok c) e first a =
      ends_refuse Refuses (call_reply c) (outermost_call first c) why last (λ s. not_values _ why)
      (λ w q. let cause = calls_have_causes 0 c.function c.arguments None first w why q in
      of_cause why cause.more cause.cause)
      (λ t. tt) tt a
  by_due why last (Err other) e first a = subst Refuses (told why last other first a) (refused_due other e)

-- ---- a call

module _ {T H E : Type 0} (moves : Moving T H E) (old new : Surrounded T H E) (f : Func) (args : List Val)
    (wanted : Option ℕ) where
  failed_due : (why : Refusal) → Failed moves (call_row old.store.machine f args wanted) old why new →
      CallRefuses old.store.machine f args wanted why
  failed_due refusal.OutOfMemory l = tt
  failed_due why l =
      by_due old.store.machine f args wanted why (world new.store.machine l.left ([] ++ l.heard) [])
      (called old.store.machine f args wanted) refl
      (world old.store.machine old.store.machine.engine.turns [] (answers_in l.heard ++ [])) (l.ends [] [])

  pub call_due : (result : Result ⊤ Refusal) →
      IfErr result (λ why. Failed moves (call_row old.store.machine f args wanted) old why new) →
      IfErr result (CallRefuses old.store.machine f args wanted)
  call_due (Ok done) l = tt
  call_due (Err why) l = failed_due why l
