-- Epoch sources in memory. All of it is this project's own.
use Rattle.std.proofs.Common.{sym, ap, subst, true≢false}
use Rattle.std.specs.List.{list_any}
use Rattle.std.specs.Prelude.{◌≡◌, ℕ, ◌≤◌, ◌==◌, List, drop, slice_get, Bool, true, false, Option, Some, None, if◌then◌else◌, Result, Ok, Err, is_err}
use Rattle.wasm_meter.specs.Counting.{Rose}
use Rattle.wasm_meter.specs.Lists.{one_more}
use Rattle.wasm_meter.specs.ListLaws.{rises}
use Rattle.wasm_meter.specs.declared.faults.EpochFailed.{EpochFailed}

-- one that counts its readings: the next one
abbrev pub CountsReadings : ℕ → Result ℕ EpochFailed → ℕ → Type 0
CountsReadings s answer t = (answer ≡ Ok s) × (t ≡ one_more s)

-- it never fails
pub counts_all : {P : Type 0} (s t : ℕ) (fault : EpochFailed) → CountsReadings s (Err fault) t → P
counts_all s t fault h = absurd (true≢false (ap is_err h.0))

-- one with given readings: those that are left, the last one, the number of the next call, the numbers of the calls
-- that fail, and how many faults there were
pub record ReadingState : Type 0 where
  pub left : List ℕ
  pub last : ℕ
  pub calls : ℕ
  pub fails : List ℕ
  pub faults : ℕ

abbrev pub reading_state : List ℕ → ℕ → ℕ → List ℕ → ℕ → ReadingState
reading_state left last calls fails faults =
    record { left = left; last = last; calls = calls; fails = fails; faults = faults }

-- the next call fails
abbrev pub call_fails : ReadingState → Bool
call_fails s = list_any (λ n. n == s.calls) s.fails

-- the next reading; behind the last one it is that one again
abbrev pub reading_or : Option ℕ → ℕ → ℕ
reading_or (Some reading) last = reading
reading_or None last = last

abbrev pub next_reading : ReadingState → ℕ
next_reading s = reading_or (slice_get s.left 0) s.last

-- a call that fails takes no reading
abbrev pub list_answer : ReadingState → Result ℕ EpochFailed
list_answer s = if call_fails s then Err (record {}) else Ok (next_reading s)

abbrev pub after_fault : ReadingState → ReadingState
after_fault s = record s { calls = one_more s.calls; faults = one_more s.faults }

abbrev pub after_taking : ReadingState → ReadingState
after_taking s = record s { left = drop 1 s.left; last = next_reading s; calls = one_more s.calls }

abbrev pub after_call : ReadingState → ReadingState
after_call s = if call_fails s then after_fault s else after_taking s

-- the next answer is given
abbrev pub ReadsInOrder : ReadingState → Result ℕ EpochFailed → ReadingState → Type 0
ReadsInOrder s answer t = (answer ≡ list_answer s) × (t ≡ after_call s) × (s.faults ≤ t.faults)

-- a fault is counted
faulted : (s : ReadingState) (b : Bool) (fault : EpochFailed) →
    Err fault ≡ (if b then Err (record {}) else Ok (next_reading s)) →
    Rose s.faults (if b then after_fault s else after_taking s).faults
faulted s true fault e = rises s.faults
faulted s false fault e = absurd (true≢false (ap is_err e))

pub call_faulted : (s t : ReadingState) (fault : EpochFailed) → Err fault ≡ list_answer s → t ≡ after_call s →
    Rose s.faults t.faults
call_faulted s t fault e f = subst (λ x. Rose s.faults x.faults) (sym f) (faulted s (call_fails s) fault e)
