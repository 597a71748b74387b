use Rattle.std.proofs.Common.{refl, sym, ◌∙◌}
use Rattle.std.specs.Prelude.{slice_get}
use Rattle.wasm_objects.specs.Globals.{Global}
use Rattle.spec_execution.specs.Straight.{Sticks}
use Rattle.store_state.specs.Machine.{run_machine}
use Rattle.code_straight.proofs.ChangeLemmas.{goes-pushed}
use Rattle.code_straight.proofs.FindingLemmas.{mapped_none, mapped_some}
use Rattle.code_straight.proofs.InstanceLemmas.{on_global_is, found_as, found_at}
use Rattle.code_straight.proofs.variables.global_get.Goals as goal

pub returns-in_default-clause-acts : goal.returns-in_default-clause-acts
returns-in_default-clause-acts c = λ base.
    on_global_is Sticks base c.args.program.now c.args.held.now c.args.instance c.args.index _
    ∙ found_as Sticks _ (sym c.global_number.ensures ∙ c.in_default.is)

pub returns-in_default-global-clause-acts : goal.returns-in_default-global-clause-acts
returns-in_default-global-clause-acts c = λ base.
    on_global_is Sticks base c.args.program.now c.args.held.now c.args.instance c.args.index _
    ∙ found_at Sticks _ _ (sym c.global_number.ensures ∙ c.in-Some.is) (mapped_none (λ (g : Global). g.value)
    (slice_get c.args.held.now.globals c.in-Some.number)
    (sym c.in_default-global.is ∙ c.global.ensures))

pub returns-clause-acts : goal.returns-clause-acts
returns-clause-acts c = λ base.
    let x = mapped_some (λ (g : Global). g.value) (slice_get c.args.held.now.globals c.in-Some.number)
    c.in-Some-global.value
    (sym c.in-Some-global.is ∙ c.global.ensures) in
    on_global_is Sticks base c.args.program.now c.args.held.now c.args.instance c.args.index _
    ∙ found_at Sticks _ _ (sym c.global_number.ensures ∙ c.in-Some.is) x.1
    ∙ goes-pushed (run_machine base c.args.program.now c.args.held.now) c.args.values.now c.push.new.self
    c.args.values.now.locals x.0.value
    c.in-Some-global.value c.push.ensures refl x.2
