-- Bytes and their reading as JSON.
use Rattle.std.proofs.Common.{◌≡◌, ℕ, List, Option, Some, None, Bool, true, false, IsUtf8, refl, ap, sym, ◌∙◌, if◌then◌else◌}
use Rattle.std.specs.Str.{is_utf8}
use Rattle.std.proofs.lemmas.Str.{IsUtf8-from_is_utf8, is_utf8-from_IsUtf8}
use Rattle.serde_json.specs.Data.{Data}
use Rattle.serde_json.specs.Read.{read}
use Rattle.script_json.specs.Json.{json_of, IsJson, HasNoJson}

-- of UTF-8 the reading is that of the text
pub json_of-utf8 : (bytes : List ℕ) → IsUtf8 bytes → json_of bytes ≡ read bytes
json_of-utf8 bytes u = ap (λ (b : Bool). if b then read bytes else None) (is_utf8-from_IsUtf8 bytes u)

pub json_of-is_json : (bytes : List ℕ) (d : Data) → IsJson bytes d → json_of bytes ≡ Some d
json_of-is_json bytes d j = json_of-utf8 bytes j.utf8 ∙ j.reading

-- a text that is read is UTF-8, by cases on the test
read_if : (o : Option Data) (b : Bool) (d : Data) → (if b then o else None) ≡ Some d → (b ≡ true) × (o ≡ Some d)
read_if o true d e = (refl, e)
read_if o false d e = absurd (cc e)

pub is_json : (bytes : List ℕ) (d : Data) → json_of bytes ≡ Some d → IsJson bytes d
is_json bytes d e =
    let parts = read_if (read bytes) (is_utf8 bytes) d e in
    record { utf8 = IsUtf8-from_is_utf8 bytes parts.0; reading = parts.1 }

-- none where no UTF-8 has a reading, by cases on the test
none_if : (o : Option Data) (b : Bool) → (b ≡ true → o ≡ None) → (if b then o else None) ≡ None
none_if o true h = h refl
none_if o false h = refl

pub json_of-unread : (bytes : List ℕ) → (IsUtf8 bytes → read bytes ≡ None) → json_of bytes ≡ None
json_of-unread bytes h = none_if (read bytes) (is_utf8 bytes) (λ t. h (IsUtf8-from_is_utf8 bytes t))

not_both : (d : Data) → None ≡ Some d → ⊥
not_both d e = cc

some_data : (x y : Data) → Some x ≡ Some y → x ≡ y
some_data x y e = cc

-- one text has one reading
pub one_json : (bytes : List ℕ) (d d' : Data) → IsJson bytes d → IsJson bytes d' → d ≡ d'
one_json bytes d d' j k = some_data d d' (sym j.reading ∙ k.reading)

pub has_no_json : (bytes : List ℕ) → json_of bytes ≡ None → HasNoJson bytes
has_no_json bytes e d j = not_both d (sym e ∙ json_of-is_json bytes d j)

-- what has no reading, by cases on what the definition gives
unread_if : (o : Option Data) → ((d : Data) → o ≡ Some d → ⊥) → o ≡ None
unread_if None h = refl
unread_if (Some d) h = absurd (h d refl)

pub json_of-no_json : (bytes : List ℕ) → HasNoJson bytes → json_of bytes ≡ None
json_of-no_json bytes h = unread_if (json_of bytes) (λ d e. h d (is_json bytes d e))
