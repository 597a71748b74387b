use Rattle.std.proofs.Common.{refl, sym, ap, ◌∙◌, subst}
use Rattle.std.specs.Prelude.{⊤, Result, Err}
use Rattle.std.proofs.lemmas.Result.{err_from_is_err_and}
use Rattle.wasm_values.specs.declared.refusals.Refusal.{Refusal}
use Rattle.law_store.specs.Granted.{IsGranted}
use Rattle.spec_execution.specs.Instantiation.{new_table_plan}
use Rattle.wasm_instance.specs.Asking.{growing_tables, Comes}
use Rattle.wasm_instance.proofs.AskingLemmas.{reaches_none, table_grown, table_refused, tables_end, each_before, passed_told}
use Rattle.wasm_instance.proofs.asking.grow_tables.Goals as goal

pub tables-init : goal.tables-init
tables-init g c = record {
  reached = λ m e. reaches_none g.T.ResourceLimiter.growths m (growing_tables c.args.tables.now) c.args.store.now;
  granted = λ m e h. h;
  machine = refl;
  within = c.requires;
}

pub returns-in_err-decide_growth-clause-comes : goal.returns-in_err-decide_growth-clause-comes
returns-in_err-decide_growth-clause-comes g c =
    let failed = err_from_is_err_and c.from_residual.result c.from_residual.ensures.1 in
    λ m e.
    subst (λ (x : Result ⊤ Refusal). Comes g.T.ResourceLimiter.growths m (growing_tables c.args.tables.now) c.args.most
    c.args.store.now x c.decide_growth.new.store) (sym (failed.1 ∙ ap Err failed.2))
    (table_refused g.T.ResourceLimiter.growths m c.args.tables.now c.in-Some.tail.now c.in-Some.table.now
    c.tables.rest.now c.in-Some.ensures.cases.0 c.args.most c.args.store.now c.tables.store
    c.decide_growth.new.store (c.tables.invariant.reached m e) c.in_err-decide_growth.field-0.0
    (c.in_err-decide_growth.ensures.comes m (λ k. new_table_plan k c.in-Some.table.now.ty) (c.new_table_rule-rule.ensures m e)))

pub tables-preserved : goal.tables-preserved
tables-preserved g c = record {
  reached = λ m e.
      table_grown g.T.ResourceLimiter.growths m c.args.tables.now c.in-Some.tail.now c.in-Some.table.now
      c.tables.rest.now c.in-Some.ensures.cases.0 c.args.most c.args.store.now c.tables.store
      c.decide_growth.new.store (c.tables.invariant.reached m e)
      (c.in_ok-decide_growth.ensures.comes m (λ k. new_table_plan k c.in-Some.table.now.ty) (c.new_table_rule-rule.ensures m e));
  granted = λ m e h.
      each_before (λ x. IsGranted m (new_table_plan m x.ty)) c.args.tables.now c.tables.rest.now c.in-Some.tail.now
      c.in-Some.table.now c.in-Some.ensures.cases.0 (c.tables.invariant.granted m e)
      (c.in_ok-decide_growth.ensures.granted m (λ k. new_table_plan k c.in-Some.table.now.ty) (c.new_table_rule-rule.ensures m e)) h;
  machine = c.in_ok-decide_growth.ensures.machine ∙ c.tables.invariant.machine;
  within = c.in_ok-decide_growth.ensures.within;
}

pub returns-clause-comes : goal.returns-clause-comes
returns-clause-comes g c = λ m e.
    tables_end g.T.ResourceLimiter.growths m c.args.tables.now c.tables.rest.now c.args.store.now
    c.tables.store c.in_default.ensures.cases (c.tables.invariant.reached m e)

pub returns-in_err-decide_growth-clause-told : goal.returns-in_err-decide_growth-clause-told
returns-in_err-decide_growth-clause-told g c =
    let failed = err_from_is_err_and c.from_residual.result c.from_residual.ensures.1 in
    λ short. passed_told c.in_err-decide_growth.field-0.0 c.from_residual.result (failed.1 ∙ ap Err failed.2)
    c.in_err-decide_growth.ensures.told short
