-- Instructions and constants as JSON data are arrays: the name at the head, and behind it just so many immediates. This
-- project's own format.
use Rattle.std.specs.Prelude.{ℕ, List, Option, Some, None, is_some, if◌then◌else◌, ⊤}
use Rattle.serde_json.specs.Data.{Data}
use Rattle.serde_json.specs.Find.{at}
use Rattle.script_json.specs.Fields.{◌>>=◌, text}

-- the name at the head
abbrev pub head : Data → Option (List ℕ)
head d = at 0 d >>= text

-- nothing behind the head
abbrev pub no_immediate : Data → Option ⊤
no_immediate d = if is_some (at 1 d) then None else Some tt

-- what is behind it, where that is one item, two or three
abbrev pub one_immediate : Data → Option Data
one_immediate d = do
  first ← at 1 d
  if is_some (at 2 d) then None else Some first

abbrev pub two_immediates : Data → Option (Data × Data)
two_immediates d = do
  first ← at 1 d
  second ← at 2 d
  if is_some (at 3 d) then None else Some (first, second)

abbrev pub three_immediates : Data → Option (Data × Data × Data)
three_immediates d = do
  first ← at 1 d
  second ← at 2 d
  third ← at 3 d
  if is_some (at 4 d) then None else Some (first, second, third)
