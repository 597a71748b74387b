use Rattle.std.proofs.Common.{List, sym, ap, ◌∙◌, subst}
use Rattle.std.specs.Prelude.{⊤, Result, Err}
use Rattle.std.proofs.lemmas.Result.{err_from_is_err_and}
use Rattle.wasm_types.specs.MemoryTypes.{MemoryParts}
use Rattle.wasm_values.specs.declared.refusals.Refusal.{Refusal}
use Rattle.wasm_instance.specs.Asking.{growing_memories, growing_all, Comes}
use Rattle.wasm_instance.proofs.AskingLemmas.{memories_refused, all_come, all_granted, passed_told}
use Rattle.wasm_instance.proofs.asking.grow_all.Goals as goal

pub returns-in_err-grow_memories-clause-comes : goal.returns-in_err-grow_memories-clause-comes
returns-in_err-grow_memories-clause-comes g c =
    let failed = err_from_is_err_and c.from_residual.result c.from_residual.ensures.1 in
    λ m e.
    subst (λ (x : Result ⊤ Refusal). Comes g.T.ResourceLimiter.growths m (growing_all c.args.decl.now) c.args.most
    c.args.store.now x c.grow_memories.new.store) (sym (failed.1 ∙ ap Err failed.2))
    (memories_refused g.T.ResourceLimiter.growths m c.args.decl.now c.args.most c.args.store.now
    c.grow_memories.new.store c.grow_memories.new.store c.in_err-grow_memories.field-0.0
    (subst (λ (tys : List MemoryParts). Comes g.T.ResourceLimiter.growths m (growing_memories tys) c.args.most
    c.args.store.now (Err c.in_err-grow_memories.field-0.0) c.grow_memories.new.store) c.as_slice.ensures
    (c.in_err-grow_memories.ensures.comes m e)))

pub returns-clause-comes : goal.returns-clause-comes
returns-clause-comes g c = λ m e.
    all_come g.T.ResourceLimiter.growths m c.args.decl.now c.args.most c.args.store.now c.grow_memories.new.store
    c.grow_tables.new.store (rw c.as_slice.ensures at (c.in_ok-grow_memories.ensures.comes m e)) c.grow_tables.result
    (rw c.as_slice-2.ensures at (c.grow_tables.ensures.comes m e))

pub returns-clause-granted : goal.returns-clause-granted
returns-clause-granted g c = λ m e.
    all_granted m c.args.decl.now c.grow_tables.result
    (rw c.as_slice.ensures at (c.in_ok-grow_memories.ensures.granted m e))
    (rw c.as_slice-2.ensures at (c.grow_tables.ensures.granted m e))

pub returns-in_err-grow_memories-clause-told : goal.returns-in_err-grow_memories-clause-told
returns-in_err-grow_memories-clause-told g c =
    let failed = err_from_is_err_and c.from_residual.result c.from_residual.ensures.1 in
    λ short. passed_told c.in_err-grow_memories.field-0.0 c.from_residual.result (failed.1 ∙ ap Err failed.2)
    c.in_err-grow_memories.ensures.told short
