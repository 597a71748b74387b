-- What a source has left, what a sink holds, and what a count of faults tells. All of it is this project's own.
use Rattle.std.specs.Prelude.{◌≡◌, ℕ, ◌+◌, ◌-◌, ◌^◌, ◌<◌, ◌≤◌, ◌⊎◌, ◌&&◌, ◌==◌, List, [], ◌++◌, length, nat_lt, Bool, false, Option, Some, None, Result, Ok, Err}
use Rattle.std.specs.declared.vec.Vec.{Vec}
use Rattle.std.specs.declared.alloc.Global.{Global}
use Rattle.wasm_streams.specs.declared.input.InputFault.{InputFault}
use Rattle.wasm_streams.specs.declared.input.InputFault.TheVariants.{ReadFault, TooLong, OutOfMemory}
use Rattle.wasm_streams.specs.declared.source.SourceFailed.{SourceFailed}

-- of whatever does not tell its bytes
abbrev pub untold : Option (List ℕ)
untold = None

-- what was left before these bytes were taken from the front, where it is told
abbrev pub before : List ℕ → Option (List ℕ) → Option (List ℕ)
before bytes None = None
before bytes (Some rest) = Some (bytes ++ rest)

-- what is held after these bytes were put at the end, where it is told
abbrev pub after : List ℕ → Option (List ℕ) → Option (List ℕ)
after bytes None = None
after bytes (Some held) = Some (held ++ bytes)

-- nothing is left, where it is told
abbrev pub HasNothing : Option (List ℕ) → Type 0
HasNothing None = Unit {0}
HasNothing (Some rest) = rest ≡ []

-- a count rose, or stands at its last value
abbrev pub Rose : ℕ → ℕ → Type 0
Rose old new = (old < new) ⊎ (new ≡ 2 ^ 64 - 1)

-- this answer of a read into this buffer is the end
abbrev pub is_end : Result ℕ SourceFailed → List ℕ → Bool
is_end (Ok n) buffer = (n == 0) && nat_lt 0 (length buffer)
is_end (Err e) buffer = false

-- these are the bytes that were taken, by what was answered
abbrev pub Takes : ℕ → Result (Vec ℕ Global) InputFault → List ℕ → Type 0
Takes limit (Ok v) bytes = (v.items ≡ bytes) × (length bytes ≤ limit)
Takes limit (Err ReadFault) bytes = length bytes ≤ limit
Takes limit (Err TooLong) bytes = length bytes ≡ limit + 1
Takes limit (Err OutOfMemory) bytes = length bytes ≤ limit

-- a front of the text was put at the end, where it is told
abbrev pub Fronts : List ℕ → Option (List ℕ) → Option (List ℕ) → Type 0
Fronts text old new = (front : List ℕ) × (rest : List ℕ) × (text ≡ front ++ rest) × (new ≡ after front old)
