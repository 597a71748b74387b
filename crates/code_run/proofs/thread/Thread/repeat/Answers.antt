use Rattle.std.proofs.Common.{arith, ap, length, refl}
use Rattle.std.proofs.lemmas.List.{length-reverse}
use Rattle.code_leaps.proofs.LoopLemmas.{some_code}
use Rattle.code_run.proofs.Threads.{empty_code, again_none, again_none_left, again_short, again_goes_on}
use Rattle.code_run.proofs.thread.Thread.repeat.Goals as goal

pub returns-in_default : goal.returns-in_default
returns-in_default c = again_none c.args.self.now c.args.self.now c.args.index c.in_default.ensures

pub returns-then-operands-opening : goal.returns-then-operands-opening
returns-then-operands-opening c = again_short c.args.self.now c.args.self.now c.args.index _ c.in-Some.ensures
    (omega (
      arith,
      ap length c.operands.ensures,
      length-reverse c.args.self.now.values.operands,
      c.if-operands-opening.true,
    ))

pub lose-requires : goal.lose-requires
lose-requires c = empty_code _ c.if-is_empty.ensures

pub returns-then-is_empty : goal.returns-then-is_empty
returns-then-is_empty c = again_none_left c.args.self.now c.lose.new.self c.args.index _ c.in-Some.ensures
    (empty_code _ c.if-is_empty.ensures)
    (omega (
      arith,
      ap length c.operands.ensures,
      length-reverse c.args.self.now.values.operands,
      c.if-operands-opening.false,
    )) c.lose.ensures

pub returns-then-branch : goal.returns-then-branch
returns-then-branch c = again_goes_on _ _ _ c.args.self.now _ (rw c.if-branch.true at c.in_ok-enter.ensures)
    c.args.index c.in-Some.ensures refl refl (some_code _ c.if-is_empty.ensures)

pub returns-else-branch : goal.returns-else-branch
returns-else-branch c = again_short c.args.self.now c.args.self.now c.args.index _ c.in-Some.ensures
    (rw c.if-branch.false at c.in_ok-enter.ensures)
