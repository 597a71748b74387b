-- A step of a host function's body ends with results of its type, or early.
use Rattle.std.proofs.Common.{◌≡◌, ℕ, zero, suc, ◌≤◌, Bool, true, false, ◌&&◌, if◌then◌else◌, List, [], map, reverse, Ok, Err, refl, sym, subst, arith, append-nil}
use Rattle.std.specs.List.{list_all}
use Rattle.wasm_types.specs.EqualityLaws.{both}
use Rattle.wasm_types.proofs.MatchingLemmas.{no}
use Rattle.wasm_types.specs.declared.value_types.ValType.{ValType}
use Rattle.wasm_values.specs.declared.refusals.Refusal.TheVariants as refusal
use Rattle.wasm_values.specs.declared.values.Val.{Val}
use Rattle.spec_machine.specs.Values.{owns_val, raw_val, all_fit}
use Rattle.spec_execution.specs.Askings.{Answer, Stepped}
use Rattle.spec_execution.specs.Activations.{Activation, scope_of, replied}
use Rattle.spec_execution.specs.Entering.{Exec}
use Rattle.spec_execution.specs.Hosts.{go_on, said, stepped, question, step_with, step}
use Rattle.law_code.specs.Runs.{IsSoundExec}
use Rattle.law_code.proofs.Commands.{operation_good}
use Rattle.law_code.proofs.Conditions.{have_given}
use Rattle.spec_execution.specs.Outcomes.{World, state, Values, Over, End, Refused}
use Rattle.spec_execution.specs.declared.answer.Answer.{Answer as Say}
use Rattle.spec_execution.specs.declared.answer.Answer.TheVariants as say
use Rattle.spec_execution.specs.declared.answer.Event.{Event}
use Rattle.spec_execution.specs.declared.answer.Event.TheVariants.{Replied}
use Rattle.law_code.specs.Answers.{IsTypedSaying}
use Rattle.law_code.specs.Good.{IsGoodWorld, IsGoodEnd, IsReturned}
use Rattle.law_code.specs.Typed.{HaveTypes}
use Rattle.law_code.proofs.TypedValues.{have_reverse}
use Rattle.law_code.proofs.Worlds.{turn_next, IsAnswered, hears}

module _ (base : World) where
  early : (res : List ValType) (e : End) (w : World) → IsGoodEnd base e w → IsReturned base res (Over e w)
  early res e w h = h

  returned_by : (b : Bool) (w : World) (res : List ValType) (vals : List Val) → IsGoodWorld base w →
      (list_all (owns_val w.machine) vals && all_fit w.machine vals res) ≡ b →
      IsReturned base res
      (if b then Values (state w [] (reverse (map raw_val vals))) else Over (Refused refusal.HostResultType) w)
  returned_by false w res vals g e = g
  returned_by true w res vals g e = record {
    world = g;
    locals_are = tt;
    operands_are =
        subst (λ tys. HaveTypes w.machine tys (reverse (map raw_val vals))) (sym (append-nil (reverse res)))
        (have_reverse w.machine res (map raw_val vals)
        (have_given w.machine vals res (both _ _ e).0 (both _ _ e).1));
  }

  module _ (f : Exec) (sound : IsSoundExec f) where
    said_good : (a : Activation) (what : Say) (w : World) → IsTypedSaying what → IsGoodWorld base w →
        IsReturned base a.results (said f a what w)
    said_good a (say.Return vals) w t g =
        returned_by (list_all (owns_val w.machine) vals && all_fit w.machine vals a.results) w a.results vals g refl
    said_good a say.Fail w t g = g
    said_good a (say.Call op) w t g =
        operation_good base Over (IsReturned base a.results) (early a.results) f sound (suc a.depth)
        (scope_of w.machine a) op w (go_on f a) t g
        (λ v y gv. sound.steps base (replied a y) Replied (state v [] []) gv)

    stepped_good : (w : World) (a : Activation) (event : Event) (n : ℕ) (answer : Answer) (v : World) →
        IsAnswered base w (question a event w) answer v → n ≤ v.turns →
        IsReturned base a.results (stepped f a n answer v)
    stepped_good w a event n (Stepped after (Ok what)) v h fewer =
        said_good (record a { state = after }) what (record v { turns = n }) h.typed
        (turn_next base v n fewer h.next.good).good
    stepped_good w a event n (Stepped after (Err no_memory)) v h fewer = h.next.good
    stepped_good w a event n _ v h fewer = no h.fits

    step_by : (a : Activation) (event : Event) (w : World) (n : ℕ) → w.turns ≡ n → IsGoodWorld base w →
        IsReturned base a.results (step_with f a event w n)
    step_by a event w zero e g = g
    step_by a event w (suc n) e g =
        hears base Over (IsReturned base a.results) (early a.results) w (question a event w) (stepped f a n) g
        (λ answer v h same. stepped_good w a event n answer v h (omega (arith, e, same)))

    pub step_good : (a : Activation) (event : Event) (w : World) → IsGoodWorld base w →
        IsReturned base a.results (step f a event w)
    step_good a event w g = step_by a event w w.turns refl g
