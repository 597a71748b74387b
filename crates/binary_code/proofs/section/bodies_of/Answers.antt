use Rattle.std.proofs.Common.{rules, ◌≡◌, ◌+◌, ◌++◌, [], ◌∷◌, ◌∙◌, ap, arith, drop, get_or, length}
use Rattle.binary_code.specs.Bodies.{locals_in}
use Rattle.binary_code.proofs.Repeats.{bodies_kept, locals_more, pushed_if, split_at}
use Rattle.binary_code.proofs.section.bodies_of.Goals as goal

pub loop-ty-preserved : goal.loop-ty-preserved
loop-ty-preserved c =
    let added : c.push.new.self.items ≡ c.loop-ty.bodies.items ++ c.in-Ok.body.function ∷ [] =
    pushed_if c.push.result c.loop-ty.bodies.items c.push.new.self.items c.in-Ok.body.function c.push.ensures.items (search rules) in
    let more : locals_in c.push.new.self.items ≡ locals_in c.loop-ty.bodies.items + length c.in-Ok.body.function.locals =
    ap locals_in added ∙ locals_more c.loop-ty.bodies.items c.in-Ok.body.function in
    record {
      due =
          bodies_kept c.args.context (get_or c.args.functions.now c.loop-ty.ty-index 0) (drop c.loop-ty.ty-index c.args.functions.now) (drop (c.loop-ty.ty-index + 1) c.args.functions.now) c.loop-ty.bodies.items c.push.new.self.items
          c.loop-ty.types c.loop-ty.input c.sized_body.new.input c.in-Ok.body _ (split_at c.args.functions.now c.loop-ty.ty-index c.loop-ty-test.true) c.loop-ty.invariant.due c.in-Ok.ensures.read added;
      room = omega (arith, more, c.in-Ok.ensures.room, c.len-room.ensures, c.loop-ty.invariant.room);
    }
