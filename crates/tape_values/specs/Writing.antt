-- A small language for writing JSON data: what is written of a part, or none where a function type in it has no number. All of
-- it is this project's own; there is nothing of WebAssembly in it.
use Rattle.std.specs.Prelude.{◌≡◌, ℕ, ℤ, List, [], ◌∷◌, Option, Some, None, Result, Ok, Err}
use Rattle.serde_json.specs.Data as json
use Rattle.serde_json.specs.Data.{unsigned, Data, Items, no_items, item, no_members, member}
use Rattle.serde_json.specs.Find.{of_integer}
use Rattle.serde_json.specs.View.{view}
use Rattle.serde_json.specs.declared.value.Value.{Value}
use Rattle.script_json.specs.Fields.{◌>>=◌}
use Rattle.tape_values.specs.declared.faults.WriteFault.{WriteFault}
use Rattle.tape_values.specs.declared.faults.WriteFault.TheVariants.{UnknownType, OutOfMemory}

-- what a writer answers where the definition gives o; want of memory is free
abbrev pub Writes : Option Data → Result Value WriteFault → Type 0
Writes o (Ok value) = o ≡ Some (view value)
Writes o (Err UnknownType) = o ≡ None
Writes o (Err OutOfMemory) = Unit {0}

-- a number from 0 on, and an integer
abbrev pub whole_data : ℕ → Data
whole_data n = json.number (unsigned n)

abbrev pub integer_data : ℤ → Data
integer_data z = json.number (of_integer z)

-- the text of these bytes
abbrev pub text_data : List ℕ → Data
text_data bytes = json.string bytes

-- an object of one member, and an array of two items
abbrev pub one_data : List ℕ → Data → Data
one_data key d = json.object (member key d no_members)

abbrev pub two_data : Data → Data → Data
two_data first second = json.array (item first (item second no_items))

-- what the writer f gives for each item, in order
abbrev pub all_written : {A : Type 0} → (A → Option Data) → List A → Option Items
all_written f [] = Some no_items
all_written f (x ∷ xs) = f x >>= (λ d. all_written f xs >>= (λ ds. Some (item d ds)))

-- an array of what the writer f writes
abbrev pub list_data : {A : Type 0} → (A → Option Data) → List A → Option Data
list_data f xs = all_written f xs >>= (λ ds. Some (json.array ds))
