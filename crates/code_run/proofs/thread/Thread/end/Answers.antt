use Rattle.std.proofs.Common.{sym, ap, ◌∙◌, length}
use Rattle.std.proofs.lemmas.List.{length-reverse}
use Rattle.code_run.proofs.Threads.{end_lost, end_goes, end_fails, end_leaves}
use Rattle.code_run.proofs.thread.Thread.end.Goals as goal

pub returns-then-not-finish-clause-ends : goal.returns-then-not-finish-clause-ends
returns-then-not-finish-clause-ends c = end_lost c.args.self.now c.requires c.args.self.now _ _ c.in-Some.ensures
    c.if-not-finish.ensures.done

pub returns-else-not-finish-clause-ends : goal.returns-else-not-finish-clause-ends
returns-else-not-finish-clause-ends c = end_goes c.args.self.now c.requires _ _ _ c.in-Some.ensures
    c.if-not-finish.ensures.done

pub returns-then-operands-self-clause-ends : goal.returns-then-operands-self-clause-ends
returns-then-operands-self-clause-ends c =
    end_fails c.args.self.now c.requires c.args.self.now c.in-None.ensures.0
    (λ e. c.if-operands-self.true (ap length c.operands.ensures ∙ length-reverse _ ∙ e))

pub returns-else-operands-self-clause-ends : goal.returns-else-operands-self-clause-ends
returns-else-operands-self-clause-ends c =
    end_leaves c.args.self.now c.requires _ _ c.leave.new.self c.in-None.ensures.0 c.in-None.ensures.1
    (sym (length-reverse _) ∙ sym (ap length c.operands.ensures) ∙ c.if-operands-self.false) c.leave.ensures.leaves
