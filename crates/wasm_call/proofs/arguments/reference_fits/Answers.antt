use Rattle.std.proofs.Common.{ap, sym, ◌∙◌, Option}
use Rattle.wasm_values.specs.declared.handles.Func.{Func}
use Rattle.wasm_values.specs.declared.values.Val.TheVariants as v
use Rattle.spec_machine.specs.Values.{val_fits}
use Rattle.store_state.specs.Machine.{run_machine}
use Rattle.wasm_call.proofs.ArgumentLemmas.{function_fit}
use Rattle.wasm_call.proofs.arguments.reference_fits.Goals as goal

pub returns-in-Some : goal.returns-in-Some
returns-in-Some c = λ base held.
    c.function_fits.ensures
    ∙ function_fit base c.args.program.now held c.in-Some.func c.args.ty.now
    ∙ ap (λ (o : Option Func). val_fits (run_machine base c.args.program.now held) (v.FuncRef o) c.args.ty.now)
    (sym c.in-Some.is)
