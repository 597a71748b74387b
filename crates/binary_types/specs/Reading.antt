-- A small language for reading bytes from left to right: what a reader of a part gives and where it ends, or the first
-- fault. This project's own; the core specification writes a grammar without an order of reading.
use Rattle.std.specs.Prelude.{◌≡◌, ℕ, zero, suc, ℤ, List, [], ◌∷◌, length, Bool, true, false, nat_eq, Option, Some, None, Result, Ok, Err, ⊤}
use Rattle.std.specs.Borrow.{Bor}
use Rattle.wasm_leb.specs.Names as names
use Rattle.wasm_leb.specs.Numbers as numbers
use Rattle.wasm_leb.specs.Places.{Place, place, further}
use Rattle.wasm_leb.specs.Places as places
use Rattle.binary_types.specs.declared.faults.BinaryFault.{BinaryFault}
use Rattle.binary_types.specs.declared.faults.BinaryFault.TheVariants.{Malformed, OutOfMemory}

-- what is read of a place on, and where it ends
abbrev pub Read : Type 0 → Type 0
Read A = Place → Result (A × Place) BinaryFault

-- what a reader of the code answers and where it then stands, where the definition says what is due; want of memory is free
abbrev pub Reads : {A : Type 0} → Result (A × Place) BinaryFault → Result A BinaryFault → Place → Type 0
Reads due (Ok x) after = due ≡ Ok (x, after)
Reads due (Err OutOfMemory) after = Unit {0}
Reads due (Err fault) after = due ≡ Err fault

-- the same, of bytes that are lent
abbrev pub ReadsBytes : Result (List ℕ × Place) BinaryFault → Result (Bor (List ℕ)) BinaryFault → Place → Type 0
ReadsBytes due (Ok x) after = due ≡ Ok (x.now, after)
ReadsBytes due (Err OutOfMemory) after = Unit {0}
ReadsBytes due (Err fault) after = due ≡ Err fault

-- the ? of the definitions: one reader, and then another by what was read
abbrev pub then : {A B : Type 0} → Result (A × Place) BinaryFault → (A → Read B) → Result (B × Place) BinaryFault
then (Ok r) f = f r.0 r.1
then (Err fault) f = Err fault

infixl 10 ◌>>=◌
abbrev pub ◌>>=◌ : {A B : Type 0} → Read A → (A → Read B) → Read B
(read >>= f) p = then (read p) f

-- nothing is read
abbrev pub done : {A : Type 0} → A → Read A
done x p = Ok (x, p)

abbrev pub fails : {A : Type 0} → BinaryFault → Read A
fails fault p = Err fault

-- where reading stands
abbrev pub here : Read ℕ
here p = Ok (p.at, p)

-- goes on where a test holds, or where there is a value
abbrev pub unless : BinaryFault → Bool → Read ⊤
unless fault true p = Ok (tt, p)
unless fault false p = Err fault

abbrev pub some_or : {A : Type 0} → BinaryFault → Option A → Read A
some_or fault (Some x) p = Ok (x, p)
some_or fault None p = Err fault

-- an item of the cursor, without which the bytes are malformed
abbrev pub given : {A : Type 0} → Option (A × Place) → Result (A × Place) BinaryFault
given (Some r) = Ok r
given None = Err Malformed

abbrev pub byte : Read ℕ
byte p = given (places.byte p)

abbrev pub u32 : Read ℕ
u32 p = given (numbers.unsigned 32 p)

abbrev pub i32 : Read ℤ
i32 p = given (numbers.signed 32 p)

abbrev pub i64 : Read ℤ
i64 p = given (numbers.signed 64 p)

abbrev pub s33 : Read ℤ
s33 p = given (numbers.signed 33 p)

abbrev pub name : Read (List ℕ)
name p = given (names.name p)

abbrev pub raw : ℕ → Read (List ℕ)
raw n p = given (places.bytes n p)

-- the next byte, which is left where it is
abbrev pub peek : Read ℕ
peek p = then (byte p) (λ b q. Ok (b, p))

-- a byte that has one possibility
abbrev pub fixed : ℕ → Read ⊤
fixed wanted = do
  b ← byte
  unless Malformed (nat_eq b wanted)

-- a number of bytes, and so many
abbrev pub byte_list : Read (List ℕ)
byte_list = do
  n ← u32
  raw n

-- so many items, one after another
abbrev pub times : {A : Type 0} → ℕ → Read A → Read (List A)
times zero read p = Ok ([], p)
times (suc n) read p = then (read p) (λ x q. then (times n read q) (λ xs r. Ok (x ∷ xs, r)))

-- a number of items, and so many
abbrev pub listed : {A : Type 0} → Read A → Read (List A)
listed read = do
  n ← u32
  times n read

-- a reader of a part, which ends where the part ends; and what is behind it
abbrev pub all_read : {A : Type 0} → Place → Result (A × Place) BinaryFault → Result (A × Place) BinaryFault
all_read behind (Ok (x, end)) = then (unless Malformed (nat_eq (length end.left) 0) end) (λ _ _. Ok (x, behind))
all_read behind (Err fault) = Err fault

-- a number of bytes, and a reader of just so many
abbrev pub within : {A : Type 0} → Read A → ℕ → Read A
within read n p =
    then (raw n p) (λ part behind. all_read behind (read (place p.at part)))

abbrev pub sized : {A : Type 0} → Read A → Read A
sized read = do
  n ← u32
  within read n
