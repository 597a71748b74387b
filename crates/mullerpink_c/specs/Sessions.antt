-- What a code tells of a session for C. This project's own.
use Rattle.std.specs.Prelude.{◌≡◌, ◌≢◌, ◌⊎◌, ℕ, List}
use Rattle.wasm_run.specs.Sessions.{due}
use Rattle.wasm_run.specs.StatusNames.{exit_code}
use Rattle.wasm_run.specs.Statuses.{IsDecided}
use Rattle.wasm_run.specs.declared.status.Status.{Status}
use Rattle.wasm_run.specs.declared.status.Status.TheVariants.{ReadFault, OutOfMemory, WriteFault}
use Rattle.session_bytes.specs.Runs.{run_words, HasRun}

-- the code is that of a status, and by this status the script was run, and its lines were written. It is the status that is
-- due for the script, but for want of memory and of room; and no read fails
pub record HasRunScript (script old new : List ℕ) (code count : ℕ) : Type 0 where
  pub status : Status
  pub coded : code ≡ exit_code status
  pub ran : HasRun script old new count status
  pub decided : IsDecided status → status ≡ due run_words script
  pub complete : status ≢ WriteFault → (status ≡ due run_words script) ⊎ (status ≡ OutOfMemory)
  pub reads : status ≢ ReadFault
