use Rattle.example_plugins.proofs.ByteLemmas.{others_on, after_call}
use Rattle.example_plugins.proofs.calls.call.Goals as goal

pub returns-clause-others : goal.returns-clause-others
returns-clause-others g c =
    others_on c.args.plugins.now c.fill.new.plugins c.call.new.self c.args.guest (c.fill.ensures c.args.guest)
    (after_call c.fill.new.plugins c.call.new.self c.args.guest c.call.ensures.guests c.call.ensures.others)
