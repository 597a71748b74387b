-- What the words of the program ask for. This project's own.
use Rattle.std.specs.Prelude.{ℕ, List, [], ◌∷◌, Option, Some, None, codes, if◌then◌else◌}
use Rattle.std.specs.Str.{bytes_eq}
use Rattle.replay_run.specs.declared.way.Way.{Way}
use Rattle.replay_run.specs.declared.way.Way.TheVariants.{Record, Replay}

abbrev pub way_named : List ℕ → Option Way
way_named word =
    if bytes_eq word (codes "record") then Some Record else
    (if bytes_eq word (codes "replay") then Some Replay else None)

-- a record for the word `record`, a replay for the word `replay`, and nothing for all other words
abbrev pub way_of : List (List ℕ) → Option Way
way_of [] = None
way_of (word ∷ []) = way_named word
way_of (word ∷ other ∷ rest) = None
