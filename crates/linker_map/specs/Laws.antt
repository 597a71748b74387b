-- What each pair of names means after a pair was given a meaning. This project's own.
use Rattle.std.specs.Prelude.{◌≡◌, ℕ, List, Some}
use Rattle.wasm_values.specs.declared.externals.Extern.{Extern}
use Rattle.linker_map.specs.Linkers.{LinkerParts, found, with_item}

-- the pair means the object that it was given last
abbrev pub MeansWhatWasGiven : Type 0
MeansWhatWasGiven =
    (l : LinkerParts) (space name : List ℕ) (item : Extern) → found (with_item space name item l) space name ≡ Some item

-- every other pair means what it meant
abbrev pub OthersMeanTheSame : Type 0
OthersMeanTheSame =
    (l : LinkerParts) (space name : List ℕ) (item : Extern) (other_space other_name : List ℕ) →
    ¬ ((other_space ≡ space) × (other_name ≡ name)) →
    found (with_item space name item l) other_space other_name ≡ found l other_space other_name
