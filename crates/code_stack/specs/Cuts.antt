-- A row of values, cut at places into segments. This project's own.
use Rattle.std.specs.Prelude.{ℕ, ◌≡◌, ◌-◌, ◌≤◌, List, [], ◌∷◌, ◌++◌, length, take, drop, refl}
use Rattle.std.specs.Coded.{Coded, code_by, coded×, coded_ℕ, coded_list}
use Rattle.wasm_objects.specs.contracts.raw.RawVal as raw_val
use Rattle.wasm_objects.specs.declared.raw.RawVal.{RawVal}

-- the last segment, the segments before it, the nearest first, and for how many more values there is room
pub record RowParts : Type 0 where
  pub last : List RawVal
  pub before : List (List RawVal)
  pub room : ℕ

abbrev pub row_parts : List RawVal → List (List RawVal) → ℕ → RowParts
row_parts last before room = record { last = last; before = before; room = room }

abbrev pub values_code : Coded (List RawVal)
values_code = coded_list raw_val.the_row.coded

abbrev pub row_code : Coded RowParts
row_code =
    code_by (List RawVal × (List (List RawVal) × ℕ)) (coded× values_code (coded× (coded_list values_code) coded_ℕ))
    (λ r. (r.last, (r.before, r.room))) (λ p. row_parts p.0 p.1.0 p.1.1) (λ _. refl)

-- the segments that begin at these places, the last place first
abbrev pub segments : List ℕ → List RawVal → List (List RawVal)
segments [] items = []
segments (start ∷ starts) items = drop start items ∷ segments starts (take start items)

-- each segment begins within the items, and before the next
abbrev pub AreStarts : List ℕ → List RawVal → Type 0
AreStarts [] items = Unit {0}
AreStarts (start ∷ starts) items = (start ≤ length items) × AreStarts starts (take start items)

-- so many of the items are cut at these places; behind them is room
abbrev pub IsCut : List ℕ → ℕ → List RawVal → Type 0
IsCut starts height items = (height ≤ length items) × AreStarts starts (take height items)

-- a row of which the last segment begins at the first place
abbrev pub cut : ℕ → List ℕ → List RawVal → ℕ → RowParts
cut start starts items room = row_parts (drop start items) (segments starts (take start items)) room

-- the last `count` values have gone to the end of a segment before, past so many, and all between is gone
pub record HasJoined (skipped count : ℕ) (old new : RowParts) : Type 0 where
  pub outer : List RawVal
  pub further : List (List RawVal)
  pub before : drop skipped old.before ≡ outer ∷ further
  pub last : new.last ≡ outer ++ drop (length old.last - count) old.last
  pub rest : new.before ≡ further

-- the last segment has become one with that before it
pub record HasMerged (old new : RowParts) : Type 0 where
  pub outer : List RawVal
  pub before : old.before ≡ outer ∷ new.before
  pub last : new.last ≡ outer ++ old.last
  pub room : new.room ≡ old.room
