use Rattle.code_stack.proofs.TopmostLemmas.{some_around}
use Rattle.code_leaps.specs.Leaps.{amid}
use Rattle.code_leaps.proofs.LoopLemmas.{loops}
use Rattle.code_leaps.proofs.leaps.loop_around.Goals as goal

pub returns : goal.returns
returns c = λ further some.
    loops (amid c.args.activation.now c.args.layers.now c.args.operands.now further) c.in_ok-label.label
    c.in_ok-label.ensures.0 c.in_ok-label.ensures.1
    c.in_ok-index.index c.in_ok-opening.opening c.in_ok-opening.ensures c.if-label-ne0.false c.in_ok-index.was
    c.if-opening-ne0.false some
    (some_around c.args.operands.now.before c.if-not-is_cut.ensures)
