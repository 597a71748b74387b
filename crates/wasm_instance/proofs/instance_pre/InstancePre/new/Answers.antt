use Rattle.std.proofs.Common.{ap, ◌∙◌, Err}
use Rattle.std.proofs.lemmas.Result.{err_from_is_err_and}
use Rattle.spec_execution.specs.Instantiation.{imports_fit}
use Rattle.wasm_instance.proofs.CheckLemmas.{fit_in, due_told}
use Rattle.wasm_instance.proofs.instance_pre.InstancePre.new.Goals as goal

pub returns-in_err-check_imports-clause-due : goal.returns-in_err-check_imports-clause-due
returns-in_err-check_imports-clause-due g c =
    let failed = err_from_is_err_and c.from_residual.result c.from_residual.ensures.1 in
    due_told (imports_fit c.args.store.now.machine c.args.validated.now c.args.items.now)
    c.in_err-check_imports.field-0.0 c.from_residual.result
    (fit_in c.objects.result.now c.args.store.now.machine c.decl.result.now c.args.validated.now c.args.items.now
    c.objects.ensures c.decl.ensures.value (Err c.in_err-check_imports.field-0.0) c.in_err-check_imports.ensures)
    (failed.1 ∙ ap Err failed.2)
