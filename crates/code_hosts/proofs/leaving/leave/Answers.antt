use Rattle.store_state.specs.Parts.{held_nothing}
use Rattle.code_hosts.proofs.FitLemmas.{stays_along}
use Rattle.code_hosts.proofs.leaving.leave.Goals as goal

pub returns-then-is_told-clause-fits : goal.returns-then-is_told-clause-fits
returns-then-is_told-clause-fits g c =
    let p = c.tell_behind.ensures held_nothing in
    stays_along g.W.Surroundings.moves g.W.HostSurroundings.fits g.met.W.HostSurroundings.stays_fit c.args.context.now
    c.args.world.now p.heard c.tell_behind.new.world p.chain c.requires.fits

pub returns-then-is_told-clause-within : goal.returns-then-is_told-clause-within
returns-then-is_told-clause-within g c = (c.tell_behind.ensures held_nothing).within
