use Rattle.std.proofs.Common.{refl, sym, subst, arith}
use Rattle.code_stack.specs.Cuts.{RowParts, HasJoined}
use Rattle.code_stack.specs.Values.{HasClosed}
use Rattle.code_leaps.specs.Leaps.{placed_values}
use Rattle.code_leaps.specs.declared.rounds.Hop.{Hop}
use Rattle.code_leaps.proofs.LeapLemmas.{branch_reaches, closed_at}
use Rattle.code_leaps.proofs.leaps.branch_out.Goals as goal

pub returns-clause-reaches : goal.returns-clause-reaches
returns-clause-reaches c =
    let h : Hop = record { code = c.in_ok-target.target.rest; height = c.len-height.result } in
    let arity = c.in_ok-target.target.arity in
    let row = c.args.operands.now in
    branch_reaches c.args.activation.now c.args.rest.now c.args.layers.now c.shorten.new.self row c.fill.new.self
    c.args.height c.in_ok-target.target h c.args.label _ c.in_ok-target.ensures.dropped c.shorten.ensures c.in-None.is
    (λ further locals.
    subst (λ n. HasClosed c.args.label arity (placed_values row further c.args.height locals)
    (placed_values c.fill.new.self further n locals)) (sym c.len-height.ensures)
    (closed_at row c.join.new.self c.fill.new.self further locals c.args.height c.args.label arity c.requires
    (omega arith) _
    (subst (λ (r : RowParts). HasJoined c.args.label arity r c.join.new.self) c.keep.ensures c.if-not-join.ensures)
    c.fill.ensures.0 c.fill.ensures.2))
    refl
