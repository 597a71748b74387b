use Rattle.std.proofs.Common.{rules, ◌≡◌, ◌+◌, ◌++◌, ℕ, Ok, Err, length, replicate, arith, subst}
use Rattle.binary_types.specs.Reading.{Reads}
use Rattle.binary_code.specs.Bodies.{local_group}
use Rattle.binary_code.proofs.Repeats.{added_long, if_ok, locals_kept, locals_stopped}
use Rattle.binary_code.proofs.locals.locals_of.Goals as goal

pub returns-in-Err-clause-read : goal.returns-in-Err-clause-read
returns-in-Err-clause-read c =
    locals_stopped c.args.types.now c.args.groups c.loop.counter c.loop.locals c.loop.input c.local_group.new.input _ c.in-Err.fault _ c.loop-test.true c.loop.invariant.due
    (subst (λ (k : ℕ). Reads (local_group c.args.types.now k c.loop.input) (Err c.in-Err.fault) c.local_group.new.input) c.len.ensures c.in-Err.ensures.read)

pub loop-preserved : goal.loop-preserved
loop-preserved c =
    let added : c.add_locals.new.locals ≡ c.loop.locals ++ replicate c.in-Ok.group.count c.in-Ok.group.ty = if_ok _ c.add_locals.result c.add_locals.ensures.ok (search rules) in
    let long : length c.add_locals.new.locals ≡ length c.loop.locals + c.in-Ok.group.count = added_long c.loop.locals c.add_locals.new.locals c.in-Ok.group.count c.in-Ok.group.ty added in
    record {
      due =
          locals_kept c.args.types.now c.args.groups c.loop.counter c.loop.locals c.add_locals.new.locals c.loop.input c.local_group.new.input c.in-Ok.group _ c.loop-test.true c.loop.invariant.due
          (subst (λ (k : ℕ). local_group c.args.types.now k c.loop.input ≡ Ok (c.in-Ok.group, c.local_group.new.input)) c.len.ensures c.in-Ok.ensures.read) added long;
      room = omega (arith, long, c.if-len-group.false, c.len-in-Ok.ensures);
      few = omega (arith, long, c.in-Ok.ensures.bound, c.len.ensures);
    }
