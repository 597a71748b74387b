use Rattle.std.proofs.Common.{List, ℕ, ◌∷◌, ◌++◌}
use Rattle.std.specs.List.{flat_map}
use Rattle.std.specs.Prelude.{codes}
use Rattle.script_lines.specs.Lines.{event_name}
use Rattle.script_lines.proofs.Beginnings.{at_err, begun_first, begun_next}
use Rattle.script_lines.proofs.hooks.append_hooks.Goals as goal

pub returns-in_err-append_piece-clause-short : goal.returns-in_err-append_piece-clause-short
returns-in_err-append_piece-clause-short c =
    let words : List ℕ = flat_map (λ event. 32 ∷ event_name event) c.args.events.now in
    at_err _ (begun_first (codes "hooks") (words ++ codes "\n") _ _ c.in_err-append_piece.ensures.short)

pub returns-in_err-append_piece-2-clause-short : goal.returns-in_err-append_piece-2-clause-short
returns-in_err-append_piece-2-clause-short c =
    let words : List ℕ = flat_map (λ event. 32 ∷ event_name event) c.args.events.now in
    at_err _ (begun_next (codes "hooks") (words ++ codes "\n") _ _ _ c.in_ok-append_piece.ensures.appended
    (begun_next words (codes "\n") _ _ _ c.in_ok-append_events.ensures.appended
    c.in_err-append_piece-2.ensures.short))
