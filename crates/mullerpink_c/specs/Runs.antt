-- What a code tells of a run for C. This project's own.
use Rattle.std.specs.Prelude.{◌≡◌, ◌≢◌, ◌⊎◌, ℕ, List}
use Rattle.binary_run.specs.Calls.{due}
use Rattle.binary_run.specs.StatusNames.{exit_code}
use Rattle.binary_run.specs.Statuses.{IsDecided}
use Rattle.binary_run.specs.declared.status.Status.{Status}
use Rattle.binary_run.specs.declared.status.Status.TheVariants.{ReadFault, OutOfMemory, WriteFault}
use Rattle.binary_bytes.specs.Runs.{words_in, HasRun}

-- the code is that of a status, and by this status the words and the module were run, and the line was written. It is the
-- status that is due for them, but for want of memory and of room; and no read fails
pub record HasRunFor (words guest old new : List ℕ) (code count : ℕ) : Type 0 where
  pub status : Status
  pub coded : code ≡ exit_code status
  pub ran : HasRun (words_in words) guest old new count status
  pub decided : IsDecided status → status ≡ due (words_in words) guest
  pub complete : status ≢ WriteFault → (status ≡ due (words_in words) guest) ⊎ (status ≡ OutOfMemory)
  pub reads : status ≢ ReadFault
