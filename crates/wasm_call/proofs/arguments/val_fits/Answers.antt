use Rattle.std.proofs.Common.{ap, sym, ◌∙◌}
use Rattle.wasm_types.specs.Matching.{val_matches}
use Rattle.wasm_types.specs.declared.value_types.ValType.{ValType}
use Rattle.wasm_values.specs.declared.values.Val.{Val}
use Rattle.spec_machine.specs.Values.{val_fits}
use Rattle.store_state.specs.Machine.{run_machine}
use Rattle.wasm_call.proofs.arguments.val_fits.Goals as goal

pub returns-in-ExternRef : goal.returns-in-ExternRef
returns-in-ExternRef c = λ base held.
    c.matches-in-ExternRef.ensures
    ∙ ap (λ (own : ValType). val_matches own c.args.ty.now)
    (c.extern_type.ensures (run_machine base c.args.program.now held))
    ∙ ap (λ (x : Val). val_fits (run_machine base c.args.program.now held) x c.args.ty.now) (sym c.in-ExternRef.is)

pub returns-in-AnyRef : goal.returns-in-AnyRef
returns-in-AnyRef c = λ base held.
    c.matches-in-AnyRef.ensures
    ∙ ap (λ (own : ValType). val_matches own c.args.ty.now)
    (c.any_type.ensures (run_machine base c.args.program.now held))
    ∙ ap (λ (x : Val). val_fits (run_machine base c.args.program.now held) x c.args.ty.now) (sym c.in-AnyRef.is)
