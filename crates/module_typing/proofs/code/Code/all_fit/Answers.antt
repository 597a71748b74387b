use Rattle.std.proofs.Common.{◌∙◌, true, false}
use Rattle.module_typing.proofs.Walks.{none_wanted, top_wanted, no_operand}
use Rattle.module_typing.proofs.code.Code.all_fit.Goals as goal

pub returns-in_default-split_last : goal.returns-in_default-split_last
returns-in_default-split_last c next =
    c.loop-last.invariant next
    ∙ no_operand c.args.self.now _ _ _ _ c.in-Some.ensures.cases.0 c.in_default-split_last.ensures.cases (λ _. next)

pub returns-then-not-fits : goal.returns-then-not-fits
returns-then-not-fits c next =
    c.loop-last.invariant next
    ∙ top_wanted c.args.self.now _ _ _ _ _ _ false c.in-Some.ensures.cases.0 c.in-Some-split_last.ensures.cases.0 c.if-not-fits.ensures
    (λ _. next)

pub loop-last-preserved : goal.loop-last-preserved
loop-last-preserved c next =
    c.loop-last.invariant next
    ∙ top_wanted c.args.self.now _ _ _ _ _ _ true c.in-Some.ensures.cases.0 c.in-Some-split_last.ensures.cases.0 c.if-not-fits.ensures
    (λ _. next)

pub returns : goal.returns
returns c next = c.loop-last.invariant next ∙ none_wanted _ _ (λ _. next) c.in_default.ensures.cases
