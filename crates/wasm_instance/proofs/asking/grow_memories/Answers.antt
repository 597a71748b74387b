use Rattle.std.proofs.Common.{refl, sym, ap, ◌∙◌, subst}
use Rattle.std.specs.Prelude.{⊤, Result, Err}
use Rattle.std.proofs.lemmas.Result.{err_from_is_err_and}
use Rattle.wasm_values.specs.declared.refusals.Refusal.{Refusal}
use Rattle.law_store.specs.Granted.{IsGranted}
use Rattle.spec_execution.specs.Instantiation.{new_memory_plan}
use Rattle.wasm_instance.specs.Asking.{growing_memories, Comes}
use Rattle.wasm_instance.proofs.AskingLemmas.{reaches_none, memory_grown, memory_refused, memories_end, each_before, passed_told}
use Rattle.wasm_instance.proofs.asking.grow_memories.Goals as goal

pub memories-init : goal.memories-init
memories-init g c = record {
  reached = λ m e. reaches_none g.T.ResourceLimiter.growths m (growing_memories c.args.types.now) c.args.store.now;
  granted = λ m e h. h;
  machine = refl;
  within = c.requires;
}

pub returns-in_err-decide_growth-clause-comes : goal.returns-in_err-decide_growth-clause-comes
returns-in_err-decide_growth-clause-comes g c =
    let failed = err_from_is_err_and c.from_residual.result c.from_residual.ensures.1 in
    λ m e.
    subst (λ (x : Result ⊤ Refusal). Comes g.T.ResourceLimiter.growths m (growing_memories c.args.types.now) c.args.most
    c.args.store.now x c.decide_growth.new.store) (sym (failed.1 ∙ ap Err failed.2))
    (memory_refused g.T.ResourceLimiter.growths m c.args.types.now c.in-Some.tail.now c.in-Some.ty.now
    c.memories.rest.now c.in-Some.ensures.cases.0 c.args.most c.args.store.now c.memories.store
    c.decide_growth.new.store (c.memories.invariant.reached m e) c.in_err-decide_growth.field-0.0
    (c.in_err-decide_growth.ensures.comes m (λ k. new_memory_plan k c.in-Some.ty.now) (c.new_memory_rule-rule.ensures m e)))

pub memories-preserved : goal.memories-preserved
memories-preserved g c = record {
  reached = λ m e.
      memory_grown g.T.ResourceLimiter.growths m c.args.types.now c.in-Some.tail.now c.in-Some.ty.now
      c.memories.rest.now c.in-Some.ensures.cases.0 c.args.most c.args.store.now c.memories.store
      c.decide_growth.new.store (c.memories.invariant.reached m e)
      (c.in_ok-decide_growth.ensures.comes m (λ k. new_memory_plan k c.in-Some.ty.now) (c.new_memory_rule-rule.ensures m e));
  granted = λ m e h.
      each_before (λ x. IsGranted m (new_memory_plan m x)) c.args.types.now c.memories.rest.now c.in-Some.tail.now
      c.in-Some.ty.now c.in-Some.ensures.cases.0 (c.memories.invariant.granted m e)
      (c.in_ok-decide_growth.ensures.granted m (λ k. new_memory_plan k c.in-Some.ty.now) (c.new_memory_rule-rule.ensures m e)) h;
  machine = c.in_ok-decide_growth.ensures.machine ∙ c.memories.invariant.machine;
  within = c.in_ok-decide_growth.ensures.within;
}

pub returns-clause-comes : goal.returns-clause-comes
returns-clause-comes g c = λ m e.
    memories_end g.T.ResourceLimiter.growths m c.args.types.now c.memories.rest.now c.args.store.now
    c.memories.store c.in_default.ensures.cases (c.memories.invariant.reached m e)

pub returns-in_err-decide_growth-clause-told : goal.returns-in_err-decide_growth-clause-told
returns-in_err-decide_growth-clause-told g c =
    let failed = err_from_is_err_and c.from_residual.result c.from_residual.ensures.1 in
    λ short. passed_told c.in_err-decide_growth.field-0.0 c.from_residual.result (failed.1 ∙ ap Err failed.2)
    c.in_err-decide_growth.ensures.told short
