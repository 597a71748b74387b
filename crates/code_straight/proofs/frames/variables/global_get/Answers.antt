use Rattle.std.proofs.Common.{◌∷◌, ap, sym, ◌∙◌}
use Rattle.std.specs.Prelude.{slice_get}
use Rattle.wasm_objects.specs.Globals.{Global}
use Rattle.spec_execution.specs.Straight.{Goes, Sticks}
use Rattle.store_state.specs.Machine.{run_machine}
use Rattle.code_straight.specs.Frames.{topmost}
use Rattle.code_straight.proofs.FindingLemmas.{mapped_none, mapped_some}
use Rattle.code_straight.proofs.FrameLemmas.{topmost_put}
use Rattle.code_straight.proofs.InstanceLemmas.{on_global_is, found_as, found_at}
use Rattle.code_straight.proofs.frames.variables.global_get.Goals as goal

pub returns-in_default-clause-acts : goal.returns-in_default-clause-acts
returns-in_default-clause-acts c = λ locals base.
    on_global_is Sticks base c.args.program.now c.args.held.now c.args.instance c.args.index _
    ∙ found_as Sticks _ (sym c.global_number.ensures ∙ c.in_default.is)

pub returns-in_default-global-clause-acts : goal.returns-in_default-global-clause-acts
returns-in_default-global-clause-acts c = λ locals base.
    on_global_is Sticks base c.args.program.now c.args.held.now c.args.instance c.args.index _
    ∙ found_at Sticks _ _ (sym c.global_number.ensures ∙ c.in-Some.is) (mapped_none (λ (g : Global). g.value)
    (slice_get c.args.held.now.globals c.in-Some.number)
    (sym c.in_default-global.is ∙ c.global.ensures))

pub returns-clause-acts : goal.returns-clause-acts
returns-clause-acts c = λ locals base.
    let x = mapped_some (λ (g : Global). g.value) (slice_get c.args.held.now.globals c.in-Some.number)
    c.in-Some-global.value (sym c.in-Some-global.is ∙ c.global.ensures) in
    let m = run_machine base c.args.program.now c.args.held.now in
    on_global_is Sticks base c.args.program.now c.args.held.now c.args.instance c.args.index _
    ∙ found_at Sticks _ _ (sym c.global_number.ensures ∙ c.in-Some.is) x.1
    ∙ ap (λ v. Goes m locals (v ∷ topmost c.args.height c.args.operands.now)) x.2
    ∙ ap (λ v. Goes m locals (v ∷ topmost c.args.height c.args.operands.now)) (sym c.put_value.ensures)
    ∙ ap (Goes m locals) (sym (topmost_put c.args.operands.now c.args.height c.put_value.new.operand c.requires.room))
