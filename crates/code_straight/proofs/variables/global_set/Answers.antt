use Rattle.std.proofs.Common.{◌≡◌, true, false, ap, sym, ◌∙◌, rules}
use Rattle.std.proofs.lemmas.Option.{same_Some}
use Rattle.std.specs.Prelude.{slice_get, Some, option_copied, if◌then◌else◌}
use Rattle.wasm_objects.specs.Globals.{Global, global}
use Rattle.spec_machine.specs.Changes.{set_global}
use Rattle.spec_execution.specs.Operands as on
use Rattle.spec_execution.specs.Straight.{Goes, Sticks}
use Rattle.store_state.specs.Machine.{run_machine}
use Rattle.store_state.specs.Parts.{HeldParts}
use Rattle.code_straight.proofs.InstanceLemmas.{on_global_is, found_as, found_at}
use Rattle.code_straight.proofs.variables.global_set.Goals as goal

pub returns-in_default-global_number-clause-acts : goal.returns-in_default-global_number-clause-acts
returns-in_default-global_number-clause-acts c = λ base.
    c.in-Some.ensures.takes _
    ∙ on_global_is Sticks base c.args.program.now c.args.held.now c.args.instance c.args.index _
    ∙ found_as Sticks _ (sym c.global_number.ensures ∙ c.in_default-global_number.is)

pub returns-in_default-global_object-clause-acts : goal.returns-in_default-global_object-clause-acts
returns-in_default-global_object-clause-acts c = λ base.
    c.in-Some.ensures.takes _
    ∙ on_global_is Sticks base c.args.program.now c.args.held.now c.args.instance c.args.index _
    ∙ found_at Sticks _ _ (sym c.global_number.ensures ∙ c.in-Some-global_number.is)
    (sym c.global_object.ensures ∙ ap option_copied c.in_default-global_object.is)

pub returns-then-not-has_kind-clause-acts : goal.returns-then-not-has_kind-clause-acts
returns-then-not-has_kind-clause-acts c = λ base.
    let x = c.in-Some-global_object.global.now in
    let kind : on.has_kind x.ty.content c.in-Some.value ≡ false =
    ap (λ ty. on.has_kind ty c.in-Some.value) (sym (c.content.ensures ∙ ap (λ ty. ty.content) c.ty.ensures))
    ∙ sym c.has_kind.ensures ∙ search rules in
    c.in-Some.ensures.takes _
    ∙ on_global_is Sticks base c.args.program.now c.args.held.now c.args.instance c.args.index _
    ∙ found_at Sticks _ _ (sym c.global_number.ensures ∙ c.in-Some-global_number.is)
    (sym c.global_object.ensures ∙ ap option_copied c.in-Some-global_object.is)
    ∙ ap (λ b. if b then Goes (set_global (run_machine base c.args.program.now c.args.held.now)
    c.in-Some-global_number.number (global x.ty c.in-Some.value)) c.args.values.now.locals
    c.take_value.new.values.operands else Sticks) kind

pub returns-then-set_global-clause-acts : goal.returns-then-set_global-clause-acts
returns-then-set_global-clause-acts c = λ base.
    let s = c.if-set_global.ensures.set in
    let x = c.in-Some-global_object.global.now in
    let number = c.in-Some-global_number.number in
    let p = c.args.program.now in
    let found : slice_get c.args.held.now.globals number ≡ Some x =
    sym c.global_object.ensures ∙ ap option_copied c.in-Some-global_object.is in
    let kind : on.has_kind x.ty.content c.in-Some.value ≡ true =
    ap (λ ty. on.has_kind ty c.in-Some.value) (sym (c.content.ensures ∙ ap (λ ty. ty.content) c.ty.ensures))
    ∙ sym c.has_kind.ensures ∙ search rules in
    c.in-Some.ensures.takes _
    ∙ on_global_is Sticks base p c.args.held.now c.args.instance c.args.index _
    ∙ found_at Sticks _ _ (sym c.global_number.ensures ∙ c.in-Some-global_number.is) found
    ∙ ap (λ b. if b then Goes (set_global (run_machine base p c.args.held.now) number (global x.ty c.in-Some.value))
    c.args.values.now.locals c.take_value.new.values.operands else Sticks) kind
    ∙ ap (λ (y : Global). Goes (set_global (run_machine base p c.args.held.now) number (global y.ty c.in-Some.value))
    c.args.values.now.locals c.take_value.new.values.operands) (sym (same_Some s.0 x (sym s.1 ∙ found)))
    ∙ ap (λ (h : HeldParts). Goes (run_machine base p h) c.args.values.now.locals c.take_value.new.values.operands)
    (sym s.2)
    ∙ ap (λ l. Goes (run_machine base p c.set_global.new.self) l c.take_value.new.values.operands)
    (sym c.in-Some.ensures.locals)
