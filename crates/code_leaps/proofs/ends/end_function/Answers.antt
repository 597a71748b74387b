use Rattle.std.proofs.Common.{◌+◌, ◌-◌, refl, arith}
use Rattle.code_leaps.specs.declared.rounds.Hop.{Hop}
use Rattle.code_leaps.proofs.LeapLemmas.{ended_function}
use Rattle.code_leaps.proofs.ends.end_function.Goals as goal

pub returns-clause-ends : goal.returns-clause-ends
returns-clause-ends c =
    let h : Hop = record {
      code = c.in_ok-caller.caller.rest;
      height = c.len.result - c.len-inner.result + c.args.height;
    } in
    ended_function c.args.activation.now c.args.layers.now c.pop_call.new.self c.args.rows.now.operands c.merge.new.self
    c.args.rows.now.locals c.keep.new.self c.merge-2.new.self c.args.height _ c.requires c.if-height-activation.false
    c.in_ok-caller.caller h c.in_ok-caller.ensures c.if-not-merge.ensures c.keep.ensures c.if-not-merge-2.ensures refl
    (omega (arith, c.len-inner.ensures, c.len.ensures))
