use Rattle.std.proofs.Common.{◌≡◌, ◌∷◌, ◌++◌, take, string_bytes}
use Rattle.std.specs.List.{flat_map}
use Rattle.script_lines.specs.Lines.{event_name}
use Rattle.script_lines.proofs.hooks.append_events.Given as goal

abbrev pub invariant-loop-event : goal.invariant-loop-event
invariant-loop-event l =
    string_bytes l.text
    ≡ string_bytes l.fn.text ++ flat_map (λ event. 32 ∷ event_name event) (take l.event-index l.events)
