use Rattle.std.proofs.Common.{ap, arith, ◌∷◌}
use Rattle.script_lines.specs.Lines.{event_name}
use Rattle.script_lines.proofs.Beginnings.{at_err, begun_each}
use Rattle.script_lines.proofs.hooks.append_events.Goals as goal

pub returns-in_err-append_pieces-clause-short : goal.returns-in_err-append_pieces-clause-short
returns-in_err-append_pieces-clause-short c =
    at_err _ (begun_each (λ event. 32 ∷ event_name event) c.args.events.now c.loop-event.event-index _ _ _ _ _
    (omega arith) (ap (λ name. 32 ∷ name) c.event_name.ensures) c.loop-event.invariant
    c.in_err-append_pieces.ensures.short)
