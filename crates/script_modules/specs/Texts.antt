-- The names of imports and exports in scripts. This project's own format: a name stands in a line of text.
use Rattle.std.specs.Prelude.{ℕ, List, Bool, not, ◌&&◌, nat_eq, Option, Some, None, if◌then◌else◌}
use Rattle.std.specs.List.{list_any}
use Rattle.serde_json.specs.Data.{Data}
use Rattle.script_json.specs.Fields.{◌>>=◌, text}

-- no line feed and no carriage return
abbrev pub is_line : List ℕ → Bool
is_line bytes = not (list_any (λ b. nat_eq b 10) bytes) && not (list_any (λ b. nat_eq b 13) bytes)

-- the bytes of a text that is one line
abbrev pub line_of : Data → Option (List ℕ)
line_of d = text d >>= (λ bytes. if is_line bytes then Some bytes else None)
