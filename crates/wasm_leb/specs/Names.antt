-- Names: a number of bytes, and so many bytes, which are UTF-8.
-- WebAssembly core specification, "Binary Format, Values, Names"
use Rattle.std.specs.Prelude.{◌≡◌, ℕ, List, ◌++◌, length, Option, Some, None, option_and_then, if◌then◌else◌}
use Rattle.std.specs.Str.{IsUtf8, is_utf8}
use Rattle.wasm_leb.specs.Numbers.{IsUnsigned, unsigned}
use Rattle.wasm_leb.specs.Places.{Place, bytes}

pub record IsName (spelling text : List ℕ) : Type 0 where
  pub count : List ℕ
  pub counted : IsUnsigned 32 count (length text)
  pub utf8 : IsUtf8 text
  pub spelled : spelling ≡ count ++ text

abbrev pub if_text : List ℕ × Place → Option (List ℕ × Place)
if_text r = if is_utf8 r.0 then Some r else None

-- the name at the front of the bytes
unfoldable pub name : Place → Option (List ℕ × Place)
name p = option_and_then if_text (option_and_then (λ count. bytes count.0 count.1) (unsigned 32 p))
