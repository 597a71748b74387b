-- A run over bytes in memory: words, a module, and room for the line. This project's own.
use Rattle.std.specs.Prelude.{◌≡◌, ℕ, ◌==◌, List, [], ◌++◌, length, drop, Some}
use Rattle.std.specs.List.{slice_split}
use Rattle.wasm_meter.specs.Epochs.{CountsReadings}
use Rattle.binary_run.specs.Calls.{spelled}
use Rattle.binary_run.specs.Statuses.{Says}
use Rattle.binary_run.specs.declared.status.Status.{Status}

-- the words, with a byte 0 between two of them
abbrev pub words_in : List ℕ → List (List ℕ)
words_in bytes = slice_split (λ b. b == 0) bytes

-- what a status says of words and of a module, where so many bytes were written to the front of the room, and what stands
-- behind them stayed: the epochs were counted from 0 on
pub record HasRun (words : List (List ℕ)) (guest old new : List ℕ) (count : ℕ) (status : Status) : Type 0 where
  pub written : List ℕ
  pub epochs : ℕ
  pub counted : count ≡ length written
  pub room : new ≡ written ++ drop count old
  pub says : Says CountsReadings 0 epochs (Some []) (Some written) (spelled words guest) status
