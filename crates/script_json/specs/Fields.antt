-- A small language for reading JSON data: what a reader of a part gives, or none where the data is not of its form.
-- All of it is this project's own; there is nothing of WebAssembly in it.
use Rattle.std.specs.Prelude.{◌≡◌, ℕ, ◌^◌, ◌-◌, ◌&&◌, ℤ, pos, negsuc, int_le, int_lt, List, [], ◌∷◌, Bool, true, nat_le, if◌then◌else◌, Option, Some, None, option_and_then, is_some, Result, Ok, Err, ⊤}
use Rattle.std.specs.Int.{w32, w64, w128, cast_signed, from_be_bytes}
use Rattle.std.specs.List.{list_any}
use Rattle.std.specs.Str.{bytes_eq}
use Rattle.serde_json.specs.Data.{Num, unsigned, negative, float, Data, Items, no_items, item, Members, no_members, member}
use Rattle.serde_json.specs.Find.{get, at, as_null, as_bool, as_number, as_u64, as_str, as_array, as_object}
use Rattle.hex.specs.Hex.{decode_of, decode_sized}
use Rattle.hex.specs.declared.FromHexError.{FromHexError}
use Rattle.script_json.specs.declared.faults.ScriptFault.{ScriptFault}
use Rattle.script_json.specs.declared.faults.ScriptFault.TheVariants.{NotScript, OutOfMemory}

-- the ? of the definitions: the second step, where the first gives something
infixl 10 ◌>>=◌
abbrev pub ◌>>=◌ : {A B : Type 0} → Option A → (A → Option B) → Option B
o >>= f = option_and_then f o

-- what a reader answers where the definition gives o; want of memory is free
abbrev pub Reads : {T : Type 0} → Option T → Result T ScriptFault → Type 0
Reads o (Ok t) = o ≡ Some t
Reads o (Err NotScript) = o ≡ None
Reads o (Err OutOfMemory) = Unit {0}

-- what was read, or none
abbrev pub answered : {T : Type 0} → Result T ScriptFault → Option T
answered (Ok t) = Some t
answered (Err e) = None

-- the member of a key, in an object that has it
abbrev pub field : List ℕ → Data → Option Data
field key d = get key d

-- what the reader f gives of the member of a key
abbrev pub required : {A : Type 0} → (Data → Option A) → List ℕ → Data → Option A
required f key d = field key d >>= f

-- the member of a key under a reader, or what stands for it where there is none
abbrev pub field_or : {A : Type 0} → A → (Data → Option A) → Option Data → Option A
field_or a f None = Some a
field_or a f (Some d) = f d

-- a member under the reader f, where there is one
abbrev pub optional : {A : Type 0} → (Data → Option A) → Option Data → Option (Option A)
optional f None = Some None
optional f (Some d) = f d >>= (λ a. Some (Some a))

-- the key and the value of an object of one member
abbrev pub alone : List ℕ → Data → Members → Option (List ℕ × Data)
alone key d no_members = Some (key, d)
alone key d (member other e ms) = None

abbrev pub only_member : Members → Option (List ℕ × Data)
only_member no_members = None
only_member (member key d ms) = alone key d ms

abbrev pub one_member : Data → Option (List ℕ × Data)
one_member d = as_object d >>= only_member

-- each key is one of these
abbrev pub has_only : List (List ℕ) → Members → Bool
has_only keys no_members = true
has_only keys (member key d ms) = list_any (λ k. bytes_eq k key) keys && has_only keys ms

-- an object with no other key than these
abbrev pub only : List (List ℕ) → Data → Option ⊤
only keys d = as_object d >>= (λ ms. if has_only keys ms then Some tt else None)

-- a boolean
abbrev pub truth : Data → Option Bool
truth d = as_bool d

-- true, and nothing else
abbrev pub yes : Data → Option ⊤
yes d = truth d >>= (λ b. if b then Some tt else None)

-- null, and nothing else
abbrev pub null : Data → Option ⊤
null d = as_null d

-- null, or what the reader f reads
abbrev pub null_or : {A : Type 0} → (Data → Option A) → Data → Option (Option A)
null_or f d = if is_some (as_null d) then Some None else (f d >>= (λ a. Some (Some a)))

-- a whole number from 0 to 2^64 - 1, written as an integer: 1.0, 1e3 and -0 are none
abbrev pub whole : Data → Option ℕ
whole d = as_number d >>= as_u64

-- a whole number up to a greatest one
abbrev pub whole_to : ℕ → Data → Option ℕ
whole_to most d = whole d >>= (λ n. if nat_le n most then Some n else None)

-- an integer from -2^31 to 2^32 - 1, taken modulo 2^32 as a signed number
abbrev pub signed_32_of : Num → Option ℤ
signed_32_of (unsigned n) = if nat_le n (2 ^ 32 - 1) then Some (cast_signed w32 n) else None
signed_32_of (negative z) = if int_le (negsuc (2 ^ 31 - 1)) z && int_lt z (pos 0) then Some z else None
signed_32_of (float x) = None

abbrev pub signed_32 : Data → Option ℤ
signed_32 d = as_number d >>= signed_32_of

-- an integer from -2^63 to 2^64 - 1, which are all that data holds, taken modulo 2^64 as a signed number
abbrev pub signed_64_of : Num → Option ℤ
signed_64_of (unsigned n) = Some (cast_signed w64 n)
signed_64_of (negative z) = Some z
signed_64_of (float x) = None

abbrev pub signed_64 : Data → Option ℤ
signed_64 d = as_number d >>= signed_64_of

-- the bytes of a text
abbrev pub text : Data → Option (List ℕ)
text d = as_str d

-- the bytes, where the digits gave some
abbrev pub decoded : Result (List ℕ) FromHexError → Option (List ℕ)
decoded (Ok bytes) = Some bytes
decoded (Err e) = None

-- the bytes of a text of hexadecimal digits: an even number of them, of either case
abbrev pub hex_bytes : Data → Option (List ℕ)
hex_bytes d = as_str d >>= (λ digits. decoded (decode_of digits))

-- the bytes of a text of twice as many hexadecimal digits, of either case
abbrev pub hex_sized : ℕ → Data → Option (List ℕ)
hex_sized size d = as_str d >>= (λ digits. decoded (decode_sized digits size))

-- the bits of a vector as 32 hexadecimal digits, the highest first
abbrev pub hex_vector : Data → Option ℕ
hex_vector d = hex_sized 16 d >>= (λ bytes. Some (from_be_bytes w128 bytes))

-- the items of an array of two
abbrev pub two_items : Data → Option (Data × Data)
two_items d = do
  first ← at 0 d
  second ← at 1 d
  if is_some (at 2 d) then None else Some (first, second)

-- what the reader f gives for each item, in order
abbrev pub all_of : {A : Type 0} → (Data → Option A) → Items → Option (List A)
all_of f no_items = Some []
all_of f (item d ds) = f d >>= (λ x. all_of f ds >>= (λ xs. Some (x ∷ xs)))

-- an array of what the reader f reads
abbrev pub list_of : {A : Type 0} → (Data → Option A) → Data → Option (List A)
list_of f d = as_array d >>= all_of f

-- the array at a key under the reader f; nothing is in it where there is no such key
abbrev pub list_or_empty : {A : Type 0} → (Data → Option A) → List ℕ → Data → Option (List A)
list_or_empty f key d = field_or [] (list_of f) (field key d)
