-- What bytes are JSON, and the data that they spell. This project's own choice of limits: what `serde_json` reads.
use Rattle.std.specs.Prelude.{◌≡◌, ℕ, List, Option, Some, None, Result, Ok, Err, IsUtf8, if◌then◌else◌}
use Rattle.std.specs.Str.{is_utf8}
use Rattle.serde_json.specs.Data.{Data}
use Rattle.serde_json.specs.Read.{read}
use Rattle.serde_json.specs.View.{view}
use Rattle.serde_json.specs.declared.value.Value.{Value}
use Rattle.script_json.specs.declared.faults.JsonFault.{JsonFault}
use Rattle.script_json.specs.declared.faults.JsonFault.TheVariants.{NotJson, OutOfMemory}

-- the data that bytes spell: they are UTF-8, and the text is JSON whose arrays and objects nest at most 127 deep
abbrev pub json_of : List ℕ → Option Data
json_of bytes = if is_utf8 bytes then read bytes else None

-- what the reader of bytes answers where the definition gives o; want of memory is free
abbrev pub Spells : Option Data → Result Value JsonFault → Type 0
Spells o (Ok value) = o ≡ Some (view value)
Spells o (Err NotJson) = o ≡ None
Spells o (Err OutOfMemory) = Unit {0}

-- the bytes are valid UTF-8, and the text has this reading
pub record IsJson (bytes : List ℕ) (d : Data) : Type 0 where
  pub utf8 : IsUtf8 bytes
  pub reading : read bytes ≡ Some d

-- the bytes have no reading
abbrev pub HasNoJson : List ℕ → Type 0
HasNoJson bytes = (d : Data) → IsJson bytes d → ⊥
