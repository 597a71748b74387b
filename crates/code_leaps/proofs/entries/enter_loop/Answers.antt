use Rattle.std.proofs.Common.{refl}
use Rattle.code_leaps.specs.declared.rounds.Hop.{Hop}
use Rattle.code_leaps.proofs.LeapLemmas.{loop_begins}
use Rattle.code_leaps.proofs.entries.enter_loop.Goals as goal

pub returns-clause-begins : goal.returns-clause-begins
returns-clause-begins c =
    let h : Hop = record { code = c.in_ok-opening.opening.code; height = c.in_ok-opening.opening.params } in
    loop_begins c.args.activation.now c.args.rest.now c.args.layers.now c.open_label.new.layers c.args.operands.now
    c.open_label.new.operands c.args.height _ h c.args.index c.in_ok-opening.opening c.in_ok-opening.ensures refl
    c.if-not-open_label.ensures.layers c.if-not-open_label.ensures.opened refl refl refl refl
