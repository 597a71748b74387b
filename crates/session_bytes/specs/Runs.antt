-- A session over bytes in memory: a script, and room for its lines. This project's own.
use Rattle.std.specs.Prelude.{◌≡◌, ◌⊎◌, ℕ, List, [], ◌∷◌, ◌++◌, length, drop, Some, codes}
use Rattle.wasm_meter.specs.Epochs.{CountsReadings}
use Rattle.script_commands.specs.declared.script.Script.{Script}
use Rattle.script_generated.specs.declared.words.Origin.{Origin}
use Rattle.wasm_run.specs.Sessions.{SessionParts, RunOf, task_of}
use Rattle.wasm_run.specs.Statuses.{Says, IsOfWhole, Quiet, ShortOfMemory}
use Rattle.wasm_run.specs.declared.status.Status.{Status}
use Rattle.wasm_run.specs.declared.status.Status.TheVariants.{OutOfMemory}

-- the words of a session whose script is read
abbrev pub run_words : List (List ℕ)
run_words = codes "run" ∷ []

-- what a status says of a script, and of the bytes that were written: the epochs were counted from 0 on, the session held
-- these parts at its end, and these bytes of the script were taken, all of them but where memory ran out or there were too
-- many
pub record HasEnded (script written : List ℕ) (status : Status) : Type 0 where
  pub epochs : ℕ
  pub parts : SessionParts
  pub taken : List ℕ
  pub rest : List ℕ
  pub front : script ≡ taken ++ rest
  pub whole : IsOfWhole status → rest ≡ []
  pub says : Says CountsReadings 0 epochs parts (Some []) (Some written) run_words taken status
  pub out_of_memory :
      (origin : Origin) (read : Script) → task_of run_words script ≡ RunOf origin read → status ≡ OutOfMemory →
      Quiet {E = ℕ} 0 epochs parts (Some []) (Some written)
      ⊎ ShortOfMemory CountsReadings 0 epochs parts (Some []) (Some written) origin read

-- and so many bytes were written to the front of the room, and what stands behind them stayed
pub record HasRun (script old new : List ℕ) (count : ℕ) (status : Status) : Type 0 where
  pub written : List ℕ
  pub counted : count ≡ length written
  pub room : new ≡ written ++ drop count old
  pub ended : HasEnded script written status
