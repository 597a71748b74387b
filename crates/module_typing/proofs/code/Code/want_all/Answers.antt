use Rattle.std.proofs.Common.{◌∙◌, true, false}
use Rattle.module_typing.specs.Operands.{types_in}
use Rattle.module_typing.proofs.Walks.{last_wanted, none_wanted}
use Rattle.module_typing.proofs.code.Code.want_all.Goals as goal

pub returns-then-not-want : goal.returns-then-not-want
returns-then-not-want c go =
    c.loop-last.invariant go ∙ last_wanted _ _ _ _ (types_in c.args.self.now c.want.new.operands) false c.in-Some.ensures.cases.0 c.if-not-want.ensures go

pub loop-last-preserved : goal.loop-last-preserved
loop-last-preserved c go =
    c.loop-last.invariant go ∙ last_wanted _ _ _ _ _ true c.in-Some.ensures.cases.0 c.if-not-want.ensures go

pub returns : goal.returns
returns c go = c.loop-last.invariant go ∙ none_wanted _ _ go c.in_default.ensures.cases
