use Rattle.std.proofs.Common.{inr, refl, ap, sym, ◌∙◌, true≢false}
use Rattle.std.specs.Prelude.{Err}
use Rattle.wasm_run.proofs.SessionLemmas.{answered, broken, broken_short}
use Rattle.wasm_run.proofs.tasks.run_task.Goals as goal

pub returns-in-Ok-write_text-clause-ends : goal.returns-in-Ok-write_text-clause-ends
returns-in-Ok-write_text-clause-ends g c =
    answered _ _ _ _ _ _ c.args.task.origin c.args.task.script c.requires.bodies c.in-Ok.ensures.valid _ _ _
    (c.as_slice-modules.ensures.value ∙ c.in-Ok.ensures.made) c.as_slice-commands.ensures refl
    c.in-Ok-new_store.store c.in-Ok-new_store.ensures c.is_some-hooked.result c.is_some-hooked.ensures
    c.is_ok-finished.result c.run.result c.is_ok-finished.ensures.value c.run.ensures.done c.if-finished.true
    c.in-Ok-write_text.ensures.wrote

pub returns-in-Ok-2-clause-ends : goal.returns-in-Ok-2-clause-ends
returns-in-Ok-2-clause-ends g c =
    inr (broken_short _ _ _ _ _ _ c.args.task.origin c.args.task.script c.requires.bodies c.in-Ok.ensures.valid _ _ _
    (c.as_slice-modules.ensures.value ∙ c.in-Ok.ensures.made) c.as_slice-commands.ensures refl
    c.in-Ok-new_store.store c.in-Ok-new_store.ensures c.is_some-hooked.result c.is_some-hooked.ensures
    c.is_ok-finished.result c.run.result c.is_ok-finished.ensures.value c.run.ensures.done c.run.ensures.failed
    c.write_text.ensures.front (λ whole. absurd (true≢false (sym whole ∙ c.if-finished.false))))

pub returns-in-Err-OutOfMemory-clause-ends : goal.returns-in-Err-OutOfMemory-clause-ends
returns-in-Err-OutOfMemory-clause-ends g c =
    inr (broken_short _ _ _ _ _ _ c.args.task.origin c.args.task.script c.requires.bodies c.in-Ok.ensures.valid _ _ _
    (c.as_slice-modules.ensures.value ∙ c.in-Ok.ensures.made) c.as_slice-commands.ensures refl
    c.in-Ok-new_store.store c.in-Ok-new_store.ensures c.is_some-hooked.result c.is_some-hooked.ensures
    c.is_ok-finished.result c.run.result c.is_ok-finished.ensures.value c.run.ensures.done c.run.ensures.failed
    c.write_text.ensures.front
    (λ whole. c.in-Err-OutOfMemory.ensures.short
    (ap (λ fault. Err fault) c.in-Err-OutOfMemory.field-0-is)))

pub returns-clause-ends : goal.returns-clause-ends
returns-clause-ends g c =
    broken _ _ _ _ _ _ c.args.task.origin c.args.task.script c.requires.bodies c.in-Ok.ensures.valid _ _ _
    (c.as_slice-modules.ensures.value ∙ c.in-Ok.ensures.made) c.as_slice-commands.ensures refl
    c.in-Ok-new_store.store c.in-Ok-new_store.ensures c.is_some-hooked.result c.is_some-hooked.ensures
    c.is_ok-finished.result c.run.result c.is_ok-finished.ensures.value c.run.ensures.done c.run.ensures.failed
    c.write_text.ensures.front
