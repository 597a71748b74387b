use Rattle.std.proofs.Common.{◌≤◌, ◌+◌, ◌-◌, [], refl, sym, ap, ◌∙◌, subst, arith, length}
use Rattle.spec_execution.specs.Outcomes.{World}
use Rattle.code_hosts.specs.Contexts.{moves_in, opened_in}
use Rattle.code_hosts.specs.Behind.{ended}
use Rattle.code_hosts.specs.Hosting.{back_to}
use Rattle.code_hosts.specs.Rounds.{ends_in, IsEnd}
use Rattle.code_hosts.specs.States.{waiting_of}
use Rattle.code_hosts.specs.declared.rounds.Round.TheVariants as round
use Rattle.code_hosts.proofs.SettleLemmas.{settles_on, lacks_behind, not_settled, not_last, nearer, rounds_as, rounds_within, lacks_within, rounds_end, settled}
use Rattle.code_hosts.proofs.end_part.settle.Goals as goal

pub loop-frame-init : goal.loop-frame-init
loop-frame-init g c = record {
  shorter = omega arith;
  within = omega arith;
  end = c.requires.end;
  reached = λ held.
      not_settled (opened_in c.args.context.now) (moves_in c.args.context.now g.W.Surroundings.moves)
      held c.args.world.now c.args.left c.args.how
      c.args.around.now.items c.requires.end;
}

pub overflow_add-result : goal.overflow_add-result
overflow_add-result g c =
    let w : c.in-Err.lack.spent ≤ c.args.left - c.loop-frame.spent =
    lacks_within (opened_in c.args.context.now) (moves_in c.args.context.now g.W.Surroundings.moves)
    (λ w. back_to (waiting_of c.in-Some.frame) (ended c.loop-frame.how w))
    c.loop-frame.world (c.args.left - c.loop-frame.spent)
    c.in-Err.lack.spent c.go_back.new.world c.in-Err.lack.lack
    c.in-Err.ensures.lacks in
    let v = c.loop-frame.invariant.within in
    omega (arith, w, v)

pub returns-in-Err-clause-lacks : goal.returns-in-Err-clause-lacks
returns-in-Err-clause-lacks g c = λ held.
    lacks_behind (opened_in c.args.context.now) (moves_in c.args.context.now g.W.Surroundings.moves)
    (ends_in c.args.around.now.items c.args.how) held
    c.args.world.now
    c.loop-frame.world c.args.left c.loop-frame.spent
    c.loop-frame.how c.loop-frame.around.items c.pop.new.self.items c.in-Some.frame c.in-Some.ensures.items
    (c.loop-frame.invariant.reached held) c.in-Err.lack.spent c.in-Err.lack.lack
    c.go_back.new.world
    (c.in-Err.ensures.lacks held)

pub overflow_add-spent : goal.overflow_add-spent
overflow_add-spent g c =
    let w : c.in-Ok.rounded.spent ≤ c.args.left - c.loop-frame.spent =
    rounds_within (opened_in c.args.context.now) (moves_in c.args.context.now g.W.Surroundings.moves)
    (λ w. back_to (waiting_of c.in-Some.frame) (ended c.loop-frame.how w))
    c.loop-frame.world (c.args.left - c.loop-frame.spent)
    c.in-Ok.rounded.spent c.go_back.new.world c.in-Ok.rounded.round
    [] c.in-Ok.ensures.goes_on in
    let v = c.loop-frame.invariant.within in
    omega (arith, w, v)

pub loop-frame-preserved : goal.loop-frame-preserved
loop-frame-preserved g c =
    let moves = (moves_in c.args.context.now g.W.Surroundings.moves) in
    let inner = λ (w : World). back_to (waiting_of c.in-Some.frame) (ended c.loop-frame.how w) in
    let old = c.args.world.now in
    let mid = c.loop-frame.world in
    let new = c.go_back.new.world in
    let left = c.args.left - c.loop-frame.spent in
    let more : c.in-Ok.rounded.spent ≤ left =
    rounds_within (opened_in c.args.context.now) moves inner mid left c.in-Ok.rounded.spent new c.in-Ok.rounded.round []
    c.in-Ok.ensures.goes_on in
    let end : IsEnd c.in-Ends.end =
    rounds_end (opened_in c.args.context.now) moves inner mid left c.in-Ok.rounded.spent new c.in-Ok.rounded.round
    c.in-Ends.end c.in-Ends.is [] c.in-Ok.ensures.goes_on in
    let len = c.in-Some.ensures.len in
    let shorter = c.loop-frame.invariant.shorter in
    let within = c.loop-frame.invariant.within in
    record {
      shorter = omega (arith, len, shorter);
      within = omega (arith, more, within);
      end = subst IsEnd (sym c.in-Ends.end-is) end;
      reached = λ held.
          rounds_as (opened_in c.args.context.now) moves (ends_in c.args.around.now.items c.args.how)
          held old c.args.left (c.loop-frame.spent + c.in-Ok.rounded.spent) _ c.in-Ok.rounded.round _ refl
          (ap round.Ends c.in-Ends.end-is ∙ sym c.in-Ends.is) c.pop.new.self.items held new
          (settles_on (opened_in c.args.context.now) moves (ends_in c.args.around.now.items c.args.how)
          held old mid c.args.left c.loop-frame.spent c.loop-frame.how c.loop-frame.around.items c.pop.new.self.items
          c.in-Some.frame c.in-Some.ensures.items (c.loop-frame.invariant.reached held)
          c.in-Ok.rounded.spent c.in-Ok.rounded.round new (c.in-Ok.ensures.goes_on held));
    }

pub returns-in_default-round-clause-settles : goal.returns-in_default-round-clause-settles
returns-in_default-round-clause-settles g c = λ held.
    settles_on (opened_in c.args.context.now) (moves_in c.args.context.now g.W.Surroundings.moves)
    (ends_in c.args.around.now.items c.args.how) held
    c.args.world.now
    c.loop-frame.world c.args.left c.loop-frame.spent
    c.loop-frame.how c.loop-frame.around.items c.pop.new.self.items c.in-Some.frame c.in-Some.ensures.items
    (c.loop-frame.invariant.reached held) c.in-Ok.rounded.spent c.in-Ok.rounded.round
    c.go_back.new.world
    (c.in-Ok.ensures.goes_on held)

pub returns-in_default-round-clause-last : goal.returns-in_default-round-clause-last
returns-in_default-round-clause-last g c =
    not_last c.in-Ok.rounded.round c.in_default-round.not-Ends c.pop.new.self.items

pub returns-in_default-round-clause-nearer : goal.returns-in_default-round-clause-nearer
returns-in_default-round-clause-nearer g c =
    let n = c.in-Some.ensures.len in
    let s = c.loop-frame.invariant.shorter in
    nearer c.in-Ok.rounded.round c.in_default-round.not-Ends c.pop.new.self.items c.args.left _
    (length c.args.around.now.items) (omega arith) (omega (arith, n, s))

pub returns-clause-settles : goal.returns-clause-settles
returns-clause-settles g c = λ held.
    settled (opened_in c.args.context.now) (moves_in c.args.context.now g.W.Surroundings.moves)
    (ends_in c.args.around.now.items c.args.how) held
    c.args.world.now c.args.left c.loop-frame.spent
    (round.Ends c.loop-frame.how) c.loop-frame.around.items c.pop.new.self.items held
    c.loop-frame.world c.in_default.ensures.items
    (c.loop-frame.invariant.reached held)
