-- What a recording comes to: its tape, and how the host, the host data and the epoch source went meanwhile. This project's
-- own.
use Rattle.std.specs.Prelude.{◌≡◌, ◌⊎◌, ℕ, Bool, true, false, ◌||◌, List, [], ◌∷◌, ◌++◌, nat_lt, ⊤, Result, Ok, Err}
use Rattle.wasm_types.specs.declared.faults.OutOfMemory.{OutOfMemory}
use Rattle.wasm_meter.specs.Growths.{Growth}
use Rattle.wasm_meter.specs.Unhooked.{LetsPass, Interrupts}
use Rattle.wasm_meter.specs.declared.faults.EpochFailed.{EpochFailed}
use Rattle.wasm_meter.specs.declared.faults.LimiterFailed.{LimiterFailed}
use Rattle.spec_execution.specs.Askings.{Question, Growing, Having, Passing, Reading, Behaving, Stepping, Answer, Grown, Has, Passed, Read, Behaved, Stepped, Outside, Relations}
use Rattle.wasm_host.specs.Hosts.{Steps}
use Rattle.law_replay.specs.Tapes.{TapeParts}
use Rattle.wasm_replay.specs.Kept.{KeptParts, is_full, with_kept}
use Rattle.wasm_replay.specs.Records.{RecordsGrowth, TapesReading, GivesBy, WantsMemory, Tapes}
use Rattle.wasm_replay.specs.declared.recorded.Recorded.{Recorded}
use Rattle.wasm_replay.specs.Wrappers.{TapedEpochs, Taping}

-- the wrappers of a recording, which are outside of the store meanwhile
abbrev pub Wrapped : Type 0 → Type 0 → Type 0 → Type 0
Wrapped T H E = Outside (Recorded T) (Taping H) (TapedEpochs E)

-- all that was kept
abbrev pub tape_kept : {T H E : Type 0} → Wrapped T H E → TapeParts
tape_kept w =
    record { steps = w.host.steps.now.items; readings = w.epochs.kept.now.items; growths = w.host_data.kept.items }

-- a growth or a reading was asked past its room
abbrev pub is_past : {T H E : Type 0} → Wrapped T H E → Bool
is_past w = w.host_data.past || w.epochs.past

-- an epoch source that is lent, with the readings that are kept of it, and whether one was asked past the room
pub record Lent (E : Type 0) : Type 0 where
  pub source : E
  pub kept : KeptParts (Result ℕ EpochFailed)
  pub past : Bool

-- what is outside of a recording: the host itself, its host data, and the epoch source itself
abbrev pub Actual : Type 0 → Type 0 → Type 0 → Type 0
Actual T H E = Outside (Recorded T) H (Lent E)

abbrev pub actual : {T H E : Type 0} → Wrapped T H E → Actual T H E
actual w = record {
  host_data = w.host_data;
  host = w.host.host.now;
  epochs = record { source = w.epochs.epochs.now; kept = w.epochs.kept.now; past = w.epochs.past };
}

-- a reading past the room is a fault, and the source is not asked
abbrev pub LendsBy : {E : Type 0} → (E → Result ℕ EpochFailed → E → Type 0) → Bool → Lent E → Result ℕ EpochFailed → Lent E →
    Type 0
LendsBy readings true old answer new = (answer ≡ Err (record {})) × (new ≡ record old { past = true })
LendsBy readings false old answer new =
    readings old.source answer new.source × (new ≡ record old { source = new.source; kept = with_kept old.kept answer })

module _ {T H E : Type 0} (growths : T → Growth → Result Bool LimiterFailed → T → Type 0) (has : H → ℕ → Bool)
    (readings : E → Result ℕ EpochFailed → E → Type 0) (steps : Steps H (Recorded T)) (bodies : ℕ) where
  -- how these go by a question and its answer: the host has just the bodies below a number, no hook and no deadline
  -- behaviour does anything, and all else is the host's, the limiter's or the source's own answer, but for a step of a body
  -- that the host has not, a growth past its room and a reading past its room
  abbrev pub RecordMoves : Actual T H E → Question → Answer → Actual T H E → Type 0
  RecordMoves old (Having body) (Has answer) new = (answer ≡ nat_lt body bodies) × (new ≡ old)
  RecordMoves old (Growing g) (Grown answer) new =
      RecordsGrowth growths old.host_data g answer new.host_data × (new.host ≡ old.host) × (new.epochs ≡ old.epochs)
  RecordMoves old Reading (Read answer) new =
      LendsBy readings (is_full old.epochs.kept) old.epochs answer new.epochs × (new.host ≡ old.host)
      × (new.host_data ≡ old.host_data)
  RecordMoves old (Stepping body state event view) (Stepped after (Ok what)) new =
      GivesBy steps (has old.host body) old.host old.host_data body state event view after what new.host new.host_data
      × (new.epochs ≡ old.epochs)
  RecordMoves old (Stepping body state event view) (Stepped after (Err no_memory)) new =
      WantsMemory steps old.host old.host_data body state event view after new.host new.host_data
      × (new.epochs ≡ old.epochs)
  RecordMoves old (Passing event) (Passed answer) new = (answer ≡ Ok tt) × (new ≡ old)
  RecordMoves old Behaving (Behaved answer) new = Interrupts old answer new
  RecordMoves old q a new = ⊥

-- the same of the wrappers
abbrev pub wrapped : {T H E : Type 0} → (T → Growth → Result Bool LimiterFailed → T → Type 0) → (H → ℕ → Bool) →
    (E → Result ℕ EpochFailed → E → Type 0) → Steps H (Recorded T) → Relations (Recorded T) (Taping H) (TapedEpochs E)
wrapped growths has readings steps = record {
  growths = RecordsGrowth growths;
  has = λ h body. nat_lt body h.bodies;
  hooks = λ s event answer t. LetsPass s answer t;
  readings = TapesReading readings;
  behaves = Interrupts;
  steps = Tapes has steps;
}
