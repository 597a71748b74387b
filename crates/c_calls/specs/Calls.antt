-- What an end says of a call, and of the room for its results before and after. This project's own.
use Rattle.std.specs.Prelude.{◌≡◌, ℕ, ◌≤◌, ◌<◌, List, ◌++◌, length, drop, map, Option, Some, None}
use Rattle.wasm_values.specs.declared.values.Val.{Val}
use Rattle.c_values.specs.Values.{value_out}
use Rattle.c_values.specs.declared.c_value.CValue.{CValue}
use Rattle.binary_call.specs.Answers.{HasAnswered}
use Rattle.binary_call.specs.Calls.{asked_for, spelled, IsDue}
use Rattle.binary_call.specs.declared.answers.Answer.{Answer}
use Rattle.binary_call.specs.declared.answers.Answer.TheVariants as answer
use Rattle.binary_call.specs.declared.bounds.Bounds.{Bounds}
use Rattle.binary_call.specs.declared.faults.CallFault.{CallFault}
use Rattle.binary_call.specs.declared.faults.CallFault.TheVariants as fault
use Rattle.c_calls.specs.Values.{values_in}
use Rattle.c_calls.specs.declared.ends.End.{End}
use Rattle.c_calls.specs.declared.ends.End.TheVariants as end

-- room for things, before and after, and their number
module _ {A : Type 0} (old new : List A) (count : ℕ) where
  -- these were written to the front of the room, and what stands behind them stayed
  pub record Wrote (given : List A) : Type 0 where
    pub counted : count ≡ length given
    pub room : count ≤ length old
    pub written : new ≡ given ++ drop count old

  -- nothing was written, since there are so many
  pub record Lacked (given : List A) : Type 0 where
    pub counted : count ≡ length given
    pub room : length old < count
    pub unwritten : new ≡ old

  -- nothing was written, and there are none
  pub record Stayed : Type 0 where
    pub counted : count ≡ 0
    pub unwritten : new ≡ old

-- what an end says of what is to be written, and of its room
abbrev pub IsGiven : {A : Type 0} → List A → List A → List A → End → ℕ → Type 0
IsGiven given old new end.Values count = Wrote old new count given
IsGiven given old new end.NoRoom count = Lacked old new count given
IsGiven given old new (end.Fault fault.OutOfMemory) count = Stayed old new count
IsGiven given old new end count = ⊥

-- results as C has them
abbrev pub values_out : List Val → List CValue
values_out results = map value_out results

module _ (bounds : Bounds) (guest name : List ℕ) (given : List CValue) (bytes : Option (List ℕ)) where
  -- the values that C gave were the arguments of a call, and this is its answer
  pub record Answered (answer : Answer) : Type 0 where
    pub arguments : List Val
    pub are_given : values_in given ≡ Some arguments
    pub answered : HasAnswered (asked_for bounds name arguments bytes) guest answer

  -- and this fault is due for them
  pub record IsFault (fault : CallFault) : Type 0 where
    pub arguments : List Val
    pub are_given : values_in given ≡ Some arguments
    pub is_due : IsDue (spelled (asked_for bounds name arguments bytes) guest) fault

  -- what an end says of all that was given, where this is to be written of an answer: with want of memory nothing was written
  abbrev pub HasEnded : {A : Type 0} → (List A → Type 0) → List A → List A → End → ℕ → Type 0
  HasEnded Is old new end.Values count = (written : _) × Is written × Wrote old new count written
  HasEnded Is old new end.NoRoom count = (lacking : _) × Is lacking × Lacked old new count lacking
  HasEnded Is old new end.BadValue count = (values_in given ≡ None) × Stayed old new count
  HasEnded Is old new (end.Refused cause) count = Answered (answer.Refused cause) × Stayed old new count
  HasEnded Is old new (end.Fault fault.OutOfMemory) count = Stayed old new count
  HasEnded Is old new (end.Fault fault) count = IsFault fault × Stayed old new count

-- the results of a call that is given no bytes, as C has them
pub record AreResults (bounds : Bounds) (guest name : List ℕ) (given : List CValue) (told : List CValue) : Type 0 where
  pub results : List Val
  pub are_told : told ≡ values_out results
  pub answered : Answered bounds guest name given None (answer.Values results)

abbrev pub HasCalled : Bounds → List ℕ → List ℕ → List CValue → List CValue → List CValue → End → ℕ → Type 0
HasCalled bounds guest name given old new end count =
    HasEnded bounds guest name given None (AreResults bounds guest name given) old new end count

-- and of one that is given some the bytes that it answers
abbrev pub AreAnswered : Bounds → List ℕ → List ℕ → List CValue → List ℕ → List ℕ → Type 0
AreAnswered bounds guest name given bytes told =
    Answered bounds guest name given (Some bytes) (answer.Bytes told)

abbrev pub HasCalledBytes : Bounds → List ℕ → List ℕ → List CValue → List ℕ → List ℕ → List ℕ → End → ℕ → Type 0
HasCalledBytes bounds guest name given bytes old new end count =
    HasEnded bounds guest name given (Some bytes) (AreAnswered bounds guest name given bytes) old new end count
