-- What a code and a cause tell of a call for C. This project's own.
use Rattle.std.specs.Prelude.{◌≡◌, ℕ, List}
use Rattle.c_values.specs.declared.c_value.CValue.{CValue}
use Rattle.c_calls.specs.Bounds.{bounds_in}
use Rattle.c_calls.specs.Calls.{HasCalled, HasCalledBytes}
use Rattle.c_calls.specs.Codes as codes
use Rattle.c_calls.specs.declared.bounds.CBounds.{CBounds}
use Rattle.c_calls.specs.declared.ends.End.{End}

-- code and cause are those of an end, and by this end the function was called, and its results were written to their room
pub record HasCalledFor (guest name : List ℕ) (arguments : List CValue) (bounds : CBounds) (old new : List CValue)
    (code cause count : ℕ) : Type 0 where
  pub end : End
  pub coded : code ≡ codes.code end
  pub caused : cause ≡ codes.cause end
  pub called : HasCalled (bounds_in bounds) guest name arguments old new end count

-- the same of a function that was given bytes, of which those that it answered were written to their room
pub record HasCalledBytesFor (guest name : List ℕ) (arguments : List CValue) (bounds : CBounds) (bytes old new : List ℕ)
    (code cause count : ℕ) : Type 0 where
  pub end : End
  pub coded : code ≡ codes.code end
  pub caused : cause ≡ codes.cause end
  pub called : HasCalledBytes (bounds_in bounds) guest name arguments bytes old new end count
