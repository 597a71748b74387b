-- The values that code works on. This project's own; WebAssembly core specification, "Execution, runtime structure,
-- stack".
use Rattle.std.specs.Prelude.{ℕ, ◌≡◌, ◌≤◌, ◌<◌, ◌⊎◌, List, [], ◌∷◌, ◌++◌, length, take, drop, map, reverse, refl}
use Rattle.std.specs.Coded.{Coded, code_by, coded×, coded_ℕ, coded_list}
use Rattle.wasm_objects.specs.declared.raw.RawVal.{RawVal}
use Rattle.code_stack.specs.Cuts.{RowParts, values_code}

-- what lies below the innermost label and frame: the operands of the labels around it, of all frames, and the
-- locals of the frames around it, both the nearest first; of operands the topmost is first
pub record Below : Type 0 where
  pub operands : List (List RawVal)
  pub locals : List (List RawVal)

abbrev pub below : List (List RawVal) → List (List RawVal) → Below
below operands locals = record { operands = operands; locals = locals }

-- the operands of the innermost label, the topmost first; the locals of the innermost frame; all that lies below;
-- and for how many more operands there is room
pub record ValuesParts : Type 0 where
  pub operands : List RawVal
  pub locals : List RawVal
  pub below : Below
  pub room : ℕ

abbrev pub values_parts : List RawVal → List RawVal → Below → ℕ → ValuesParts
values_parts operands locals below room =
    record { operands = operands; locals = locals; below = below; room = room }

abbrev ValuesRow : Type 0
ValuesRow = (List RawVal × List RawVal) × ((List (List RawVal) × List (List RawVal)) × ℕ)

abbrev pub stack_code : Coded ValuesParts
stack_code =
    code_by ValuesRow
    (coded× (coded× values_code values_code) (coded× (coded× (coded_list values_code) (coded_list values_code))
    coded_ℕ))
    (λ v. ((v.operands, v.locals), ((v.below.operands, v.below.locals), v.room)))
    (λ p. values_parts p.0.0 p.0.1 (below p.1.0.0 p.1.0.1) p.1.1) (λ _. refl)

-- a row of operands and a row of locals
abbrev pub two_rows : RowParts → RowParts → ValuesParts
two_rows operands locals =
    values_parts (reverse operands.last) locals.last (below (map reverse operands.before) locals.before) operands.room

-- the topmost `count` operands have become those of an inner label
pub record HasOpened (count : ℕ) (old new : ValuesParts) : Type 0 where
  pub enough : count ≤ length old.operands
  pub operands : new.operands ≡ take count old.operands
  pub below : new.below ≡ below (drop count old.operands ∷ old.below.operands) old.below.locals
  pub locals : new.locals ≡ old.locals

-- the topmost `count` operands have gone to a label further out, past so many labels around the innermost one, and
-- all between is gone
pub record HasClosed (skipped count : ℕ) (old new : ValuesParts) : Type 0 where
  pub enough : count ≤ length old.operands
  pub outer : List RawVal
  pub further : List (List RawVal)
  pub around : drop skipped old.below.operands ≡ outer ∷ further
  pub operands : new.operands ≡ take count old.operands ++ outer
  pub below : new.below ≡ below further old.below.locals
  pub locals : new.locals ≡ old.locals

-- there are fewer operands, or fewer labels
abbrev pub CannotClose : ℕ → ℕ → ValuesParts → Type 0
CannotClose skipped count old = (length old.operands < count) ⊎ (drop skipped old.below.operands ≡ [])

-- the innermost label has ended, and all its operands have gone to the one around it
pub record HasFinished (old new : ValuesParts) : Type 0 where
  pub outer : List RawVal
  pub further : List (List RawVal)
  pub around : old.below.operands ≡ outer ∷ further
  pub operands : new.operands ≡ old.operands ++ outer
  pub below : new.below ≡ below further old.below.locals
  pub locals : new.locals ≡ old.locals

-- the topmost `count` operands have become the locals of an inner frame, which has no operands
pub record HasEntered (count : ℕ) (old new : ValuesParts) : Type 0 where
  pub enough : count ≤ length old.operands
  pub operands : new.operands ≡ []
  pub below : new.below ≡ below (drop count old.operands ∷ old.below.operands) (old.locals ∷ old.below.locals)
  pub locals : new.locals ≡ reverse (take count old.operands)

-- the innermost frame has ended, past so many labels around the innermost one: the topmost `count` operands have
-- gone to the frame around it
pub record HasLeft (skipped count : ℕ) (old new : ValuesParts) : Type 0 where
  pub enough : count ≤ length old.operands
  pub outer : List RawVal
  pub further : List (List RawVal)
  pub around : drop skipped old.below.operands ≡ outer ∷ further
  pub frames : List (List RawVal)
  pub callers : old.below.locals ≡ new.locals ∷ frames
  pub operands : new.operands ≡ take count old.operands ++ outer
  pub below : new.below ≡ below further frames
