use Rattle.std.proofs.Common.{refl, sym, ◌∙◌}
use Rattle.wasm_objects.specs.declared.raw.RawRef.TheVariants as r
use Rattle.wasm_objects.specs.declared.raw.RawVal.TheVariants as w
use Rattle.spec_execution.specs.Straight.{Sticks}
use Rattle.store_state.specs.Machine.{run_machine}
use Rattle.code_straight.proofs.ChangeLemmas.{goes-pushed}
use Rattle.code_straight.proofs.InstanceLemmas.{on_function_is, found_as}
use Rattle.code_straight.proofs.variables.ref_func.Goals as goal

pub returns-in_default-clause-acts : goal.returns-in_default-clause-acts
returns-in_default-clause-acts c = λ held base.
    on_function_is Sticks base c.args.program.now held c.args.instance c.args.index _
    ∙ found_as Sticks _ (sym c.function_number.ensures ∙ c.in_default.is)

pub returns-clause-acts : goal.returns-clause-acts
returns-clause-acts c = λ held base.
    on_function_is Sticks base c.args.program.now held c.args.instance c.args.index _
    ∙ found_as Sticks _ (sym c.function_number.ensures ∙ c.in-Some.is)
    ∙ goes-pushed (run_machine base c.args.program.now held) c.args.values.now c.push.new.self
    c.args.values.now.locals
    (w.Reference (r.Func c.in-Some.number)) (w.Reference (r.Func c.in-Some.number)) c.push.ensures refl refl
