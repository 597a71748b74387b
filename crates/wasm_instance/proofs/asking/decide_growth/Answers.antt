use Rattle.std.proofs.Common.{◌+◌, refl, sym, ap, ◌∙◌, subst}
use Rattle.std.specs.Prelude.{⊤, Result, Err}
use Rattle.std.proofs.lemmas.Result.{err_from_is_err_and}
use Rattle.wasm_values.specs.declared.refusals.Refusal.{Refusal}
use Rattle.spec_machine.specs.Growth.{plan_rule}
use Rattle.store_state.specs.declared.growth.GrowthRule.{GrowthRule}
use Rattle.wasm_store.specs.Growths.{Settles}
use Rattle.wasm_store.specs.Stores.{StoreParts}
use Rattle.wasm_call.specs.Growths.{questions}
use Rattle.wasm_instance.specs.Asking.{growing, Comes, CountsQuestion}
use Rattle.wasm_instance.proofs.AskingLemmas.{stopped, settled, settled_granted, counted_told, settled_told}
use Rattle.wasm_instance.proofs.asking.decide_growth.Goals as goal

pub returns-in_err-count_question-clause-comes : goal.returns-in_err-count_question-clause-comes
returns-in_err-count_question-clause-comes g c =
    let failed = err_from_is_err_and c.from_residual.result c.from_residual.ensures.1 in
    let new : StoreParts _ = c.count_question.new.store in
    λ m plan_in said.
    subst (λ (x : Result ⊤ Refusal). Comes g.T.ResourceLimiter.growths m (growing plan_in) c.args.most
    c.args.store.now x new) (sym (failed.1 ∙ ap Err failed.2))
    (stopped g.T.ResourceLimiter.growths m plan_in c.args.most (plan_rule m (plan_in m)) refl c.args.store.now new
    c.in_err-count_question.field-0.0
    (subst (λ (x : GrowthRule). CountsQuestion x c.args.most c.args.store.now
    (Err c.in_err-count_question.field-0.0) new) said c.in_err-count_question.ensures))

pub returns-clause-comes : goal.returns-clause-comes
returns-clause-comes g c =
    let mid : StoreParts _ = c.count_question.new.store in
    let new : StoreParts _ = c.settle.new.store in
    λ m plan_in said.
    settled g.T.ResourceLimiter.growths m plan_in c.args.most (plan_rule m (plan_in m)) refl c.args.store.now mid new
    c.settle.result
    (c.in_ok-count_question.ensures.0
    ∙ ap (λ (x : GrowthRule). record c.args.store.now { turns = c.args.store.now.turns + questions x }) said)
    c.settle.ensures.turns
    (subst (λ (x : GrowthRule). Settles g.T.ResourceLimiter.growths x mid.host_data c.settle.result new.host_data) said
    c.settle.ensures.settles)

pub returns-clause-granted : goal.returns-clause-granted
returns-clause-granted g c =
    let mid : StoreParts _ = c.count_question.new.store in
    let new : StoreParts _ = c.settle.new.store in
    λ m plan_in said.
    settled_granted g.T.ResourceLimiter.growths m plan_in c.args.most (plan_rule m (plan_in m)) refl mid.host_data
    new.host_data c.settle.result
    (subst (λ (x : GrowthRule). Settles g.T.ResourceLimiter.growths x mid.host_data c.settle.result new.host_data) said
    c.settle.ensures.settles)

pub returns-in_err-count_question-clause-told : goal.returns-in_err-count_question-clause-told
returns-in_err-count_question-clause-told g c =
    let failed = err_from_is_err_and c.from_residual.result c.from_residual.ensures.1 in
    let new : StoreParts _ = c.count_question.new.store in
    λ short. counted_told c.args.rule.now c.args.most c.args.store.now new c.in_err-count_question.field-0.0
    c.in_err-count_question.ensures c.from_residual.result (failed.1 ∙ ap Err failed.2) short

pub returns-clause-told : goal.returns-clause-told
returns-clause-told g c =
    let mid : StoreParts _ = c.count_question.new.store in
    let new : StoreParts _ = c.settle.new.store in
    λ short. settled_told g.T.ResourceLimiter.growths c.args.rule.now mid.host_data new.host_data c.settle.result
    c.settle.ensures.settles short
