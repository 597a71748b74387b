use Rattle.std.proofs.Common.{◌∙◌, sym, true, false}
use Rattle.module_typing.proofs.Walks.{all_out, top_matches, none_matches}
use Rattle.module_typing.proofs.code.Code.are.Goals as goal

pub returns : goal.returns
returns c = c.is_empty.ensures ∙ sym (c.loop-last.invariant ∙ all_out c.args.self.now _ _ c.in_default.ensures.cases)

pub returns-in_default-split_last : goal.returns-in_default-split_last
returns-in_default-split_last c =
    sym (c.loop-last.invariant
    ∙ none_matches c.args.self.now _ _ _ _ c.in-Some.ensures.cases.0 c.in_default-split_last.ensures.cases)

pub returns-then-not-fits : goal.returns-then-not-fits
returns-then-not-fits c =
    sym (c.loop-last.invariant
    ∙ top_matches c.args.self.now _ _ _ _ _ _ false c.in-Some.ensures.cases.0 c.in-Some-split_last.ensures.cases.0
    c.if-not-fits.ensures)

pub loop-last-preserved : goal.loop-last-preserved
loop-last-preserved c =
    c.loop-last.invariant
    ∙ top_matches c.args.self.now _ _ _ _ _ _ true c.in-Some.ensures.cases.0 c.in-Some-split_last.ensures.cases.0
    c.if-not-fits.ensures
