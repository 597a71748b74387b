use Rattle.std.proofs.Common.{subst, sym}
use Rattle.code_hosts.specs.States.{IsBody}
use Rattle.code_hosts.specs.declared.states.Open.{Open}
use Rattle.code_hosts.proofs.parts.advance_open.Goals as goal

pub advance_body-requires-clause-formed : goal.advance_body-requires-clause-formed
advance_body-requires-clause-formed g c = λ base open_is.
    c.requires.formed (subst (λ (x : Open). IsBody x) (sym c.in-Body.is) tt) base open_is
