-- Values and lists of values as static types, read back by those of their members. This project's own.
use Rattle.std.specs.Prelude.{List, [], ◌∷◌, Option, Some, None, ⊤}
use Rattle.std.specs.Option.{option_map}
use Rattle.wasm_values.specs.declared.values.Val.{Val}

-- a way back from one value, from a list of values
abbrev pub Way : Type 0 → Type 0
Way A = Val → Option A

abbrev pub Ways : Type 0 → Type 0
Ways A = List Val → Option A

abbrev pub both : {A B : Type 0} → Option A → Option B → Option (A × B)
both (Some a) (Some b) = Some (a, b)
both (Some a) None = None
both None b = None

-- from no value; from one; from one and those behind it
abbrev pub from_none : Ways ⊤
from_none [] = Some tt
from_none (val ∷ vals) = None

abbrev pub from_one : {A : Type 0} → Way A → Ways A
from_one f [] = None
from_one f (val ∷ []) = f val
from_one f (val ∷ next ∷ vals) = None

abbrev pub from_more : {A B : Type 0} → Way A → Ways B → Ways (A × B)
from_more f g [] = None
from_more f g (val ∷ vals) = both (f val) (g vals)

-- with what was read in another form
abbrev pub read_as : {A B : Type 0} → (A → B) → Ways A → Ways B
read_as h f vals = option_map h (f vals)
