use Rattle.example_plugins.proofs.ByteLemmas.{others_on}
use Rattle.example_plugins.proofs.hostile.prowl.Goals as goal

pub returns-clause-others : goal.returns-clause-others
returns-clause-others g c =
    others_on c.args.plugins.now c.number_from-pages.new.plugins c.have-again.new.plugins c.args.prowler
    (others_on c.args.plugins.now c.have-scribbled.new.plugins c.number_from-pages.new.plugins c.args.prowler
    c.have-scribbled.ensures.others c.number_from-pages.ensures.others)
    c.have-again.ensures.others
