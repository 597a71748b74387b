use Rattle.std.proofs.Common.{refl, arith}
use Rattle.code_hosts.specs.Contexts.{moves_in, opened_in}
use Rattle.code_hosts.proofs.LeaveLemmas.{leaves_late, leaves_so}
use Rattle.code_hosts.proofs.body_end.leave_body.Goals as goal

pub returns-in-TurnLimit-clause-leaves : goal.returns-in-TurnLimit-clause-leaves
returns-in-TurnLimit-clause-leaves g c = λ held around.
    leaves_late (opened_in c.args.context.now)
    (moves_in c.args.context.now g.W.Surroundings.moves)
    c.args.how held c.args.world.now c.args.left around
    c.tell_behind-told.result c.tell_behind-told.new.world
    (c.tell_behind-told.ensures held) c.in-TurnLimit.is

pub returns-in_default : goal.returns-in_default
returns-in_default g c = record {
  leaves = λ held around.
      leaves_so (opened_in c.args.context.now)
      (moves_in c.args.context.now g.W.Surroundings.moves)
      c.args.how held c.args.world.now c.args.left around
      c.tell_behind-told.result c.tell_behind-told.new.world
      (c.tell_behind-told.ensures held) c.tell_behind-told.result.how refl c.in_default.not-TurnLimit;
  nearer = λ around. omega arith;
}
