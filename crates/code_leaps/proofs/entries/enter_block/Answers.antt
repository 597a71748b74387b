use Rattle.std.proofs.Common.{refl}
use Rattle.code_leaps.specs.declared.rounds.Hop.{Hop}
use Rattle.code_leaps.proofs.LeapLemmas.{block_reaches}
use Rattle.code_leaps.proofs.entries.enter_block.Goals as goal

pub returns-clause-reaches : goal.returns-clause-reaches
returns-clause-reaches c =
    let h : Hop = record { code = c.in_ok-opening.opening.code; height = c.in_ok-opening.opening.params } in
    block_reaches c.args.activation.now c.args.rest.now c.args.layers.now c.open_label.new.layers c.args.operands.now
    c.open_label.new.operands c.args.height _ h c.args.index c.in_ok-opening.opening c.in_ok-opening.ensures refl
    c.if-not-open_label.ensures.layers c.if-not-open_label.ensures.opened refl refl refl refl
