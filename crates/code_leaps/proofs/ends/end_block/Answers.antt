use Rattle.std.proofs.Common.{◌+◌, ◌-◌, refl, arith}
use Rattle.code_leaps.specs.declared.rounds.Hop.{Hop}
use Rattle.code_leaps.proofs.LeapLemmas.{ends}
use Rattle.code_leaps.proofs.ends.end_block.Goals as goal

pub returns-clause-ends : goal.returns-clause-ends
returns-clause-ends c =
    let h : Hop = record {
      code = c.in_ok-label.label.rest;
      height = c.len.result - c.len-inner.result + c.args.height;
    } in
    ends c.args.layers.now c.pop_block.new.self c.args.operands.now c.merge.new.self c.args.height c.in_ok-label.label h
    c.in_ok-label.ensures c.if-not-merge.ensures refl
    (omega (arith, c.len-inner.ensures, c.len.ensures))
