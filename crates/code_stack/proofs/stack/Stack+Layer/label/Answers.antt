use Rattle.std.proofs.Common.{◌≡◌, ap, length, arith}
use Rattle.std.proofs.lemmas.List.{length-reverse}
use Rattle.code_stack.proofs.DropLemmas.{block_above, block_found}
use Rattle.code_stack.proofs.stack.Stack+Layer.label.Goals as goal

pub walk-preserved : goal.walk-preserved
walk-preserved c =
    let items = c.self.inside.items in
    let long : c.len-length.result ≡ length c.args.self.now =
    omega (arith, c.len-length.ensures, items.ok.0, ap length c.self.view_is, length-reverse items.items) in
    record {
      dropped = block_above _ c.args.self.now c.self.view_is c.walk.height c.args.outwards c.index.result.now
          c.in-Block.field-0 _ c.index.ensures c.in-Block.is (omega (arith, long, c.walk-test.true))
          c.walk.invariant.behind c.walk.invariant.dropped;
      behind = omega (arith, c.walk.invariant.behind);
      all = omega (arith, long, c.walk-test.true);
    }

pub returns-clause-dropped : goal.returns-clause-dropped
returns-clause-dropped c =
    let items = c.self.inside.items in
    let long : c.len-length.result ≡ length c.args.self.now =
    omega (arith, c.len-length.ensures, items.ok.0, ap length c.self.view_is, length-reverse items.items) in
    block_found _ c.args.self.now c.self.view_is c.len-length.result c.walk.height c.args.outwards c.index-2.result.now
    c.in-Block-index.label c.index-2.ensures c.in-Block-index.is long (omega (arith, c.if-outwards-length.false)) c.walk-test.false
    c.walk.invariant.all c.walk.invariant.dropped
