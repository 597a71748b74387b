use Rattle.std.proofs.Common.{[]}
use Rattle.store_state.specs.Engines.{engine_parts}
use Rattle.code_hosts.specs.Contexts.{moves_in, opened_in}
use Rattle.code_hosts.specs.Hosting.{Calls, back_to}
use Rattle.code_hosts.specs.Behind.{ended}
use Rattle.code_hosts.specs.declared.rounds.Lack.TheVariants as lack
use Rattle.code_hosts.proofs.ContextLemmas.{back_halts}
use Rattle.code_hosts.proofs.SettleLemmas.{rounds_as, lacks_as, goes_now, lacks_now}
use Rattle.code_hosts.proofs.end_part.go_back.Goals as goal

pub returns-in-Ok-clause-goes_on : goal.returns-in-Ok-clause-goes_on
returns-in-Ok-clause-goes_on g c = λ held.
    let moves = moves_in c.args.context.now g.W.Surroundings.moves in
    let o = c.args.world.now in
    let go = back_to (Calls c.in-Calls.thread.value c.in-Calls.call) in
    rw c.in-Calls.is
    (rounds_as (opened_in c.args.context.now) moves (λ w. go (ended c.args.how w)) held o c.args.left 0
    c.at_once.result.spent c.in-Ok.round c.at_once.result.round c.at_once.ensures.spent c.at_once.ensures.round [] held o
    (goes_now c.args.context.now.program.now c.args.context.now.bounds c.args.context.now.id (engine_parts c.args.context.now.engine.now) moves go c.args.how held o c.args.left c.in-Ok.round
    (c.in-Ok.ensures c.args.context.now.id)))

pub returns-in-Err-clause-lacks : goal.returns-in-Err-clause-lacks
returns-in-Err-clause-lacks g c = λ held.
    let moves = moves_in c.args.context.now g.W.Surroundings.moves in
    let o = c.args.world.now in
    let go = back_to (Calls c.in-Calls.thread.value c.in-Calls.call) in
    rw c.in-Calls.is
    (lacks_as (opened_in c.args.context.now) moves (λ w. go (ended c.args.how w)) held o c.args.left 0
    c.lacking.result.spent lack.Run c.lacking.result.lack c.lacking.ensures.spent c.lacking.ensures.lack held o
    (lacks_now c.args.context.now.program.now c.args.context.now.bounds c.args.context.now.id (engine_parts c.args.context.now.engine.now) moves go c.args.how held o c.args.left
    (back_halts (Calls c.in-Calls.thread.value c.in-Calls.call))))

pub returns-in-Asks-clause-goes_on : goal.returns-in-Asks-clause-goes_on
returns-in-Asks-clause-goes_on g c = rw c.in-Asks.is c.back_to_body.ensures.goes_on

pub returns-in-Asks-clause-lacks : goal.returns-in-Asks-clause-lacks
returns-in-Asks-clause-lacks g c = rw c.in-Asks.is c.back_to_body.ensures.lacks
