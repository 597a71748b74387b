-- How host data, a host and an epoch source that are recorded go. This project's own.
use Rattle.std.specs.Prelude.{◌≡◌, ◌⊎◌, ℕ, ◌≤◌, Bool, true, false, List, [], ◌∷◌, ◌++◌, Result, Ok, Err}
use Rattle.wasm_types.specs.declared.faults.OutOfMemory.{OutOfMemory}
use Rattle.wasm_meter.specs.Growths.{Growth}
use Rattle.wasm_meter.specs.Lists.{one_more}
use Rattle.wasm_meter.specs.declared.faults.EpochFailed.{EpochFailed}
use Rattle.wasm_meter.specs.declared.faults.LimiterFailed.{LimiterFailed}
use Rattle.spec_execution.specs.Askings.{View}
use Rattle.spec_execution.specs.declared.answer.Answer.{Answer as Say}
use Rattle.spec_execution.specs.declared.answer.Answer.TheVariants as say
use Rattle.spec_execution.specs.declared.answer.Event.{Event}
use Rattle.wasm_host.specs.Hosts.{Steps}
use Rattle.law_replay.specs.Tapes.{taped}
use Rattle.wasm_replay.specs.Kept.{KeptParts, is_full, with_kept}
use Rattle.wasm_replay.specs.declared.recorded.Recorded.{Recorded}
use Rattle.wasm_replay.specs.Wrappers.{TapedEpochs, Taping}

-- a count of faults after an answer
abbrev pub faults_after : {A F : Type 0} → Result A F → ℕ → ℕ
faults_after (Ok answer) n = n
faults_after (Err fault) n = one_more n

abbrev pub failures_after : Say → ℕ → ℕ
failures_after say.Fail n = one_more n
failures_after what n = n

-- ---- host data, whose limiter's answers are kept

-- where there is no more room, it is not asked, and that is a fault; else its answer is kept
abbrev pub RecordsBy : {T : Type 0} → (T → Growth → Result Bool LimiterFailed → T → Type 0) → Bool → Recorded T → Growth →
    Result Bool LimiterFailed → Recorded T → Type 0
RecordsBy growths true old g answer new =
    (answer ≡ Err (record {})) × (new ≡ record old { past = true; faults = one_more old.faults })
RecordsBy {T} growths false old g answer new =
    (t : T) × growths old.inner g answer t
    × (new ≡ record old { inner = t; kept = with_kept old.kept answer; faults = faults_after answer old.faults })

abbrev pub RecordsGrowth : {T : Type 0} → (T → Growth → Result Bool LimiterFailed → T → Type 0) → Recorded T → Growth →
    Result Bool LimiterFailed → Recorded T → Type 0
RecordsGrowth growths old g answer new =
    RecordsBy growths (is_full old.kept) old g answer new × (old.faults ≤ new.faults)

-- ---- an epoch source, whose readings are kept

abbrev pub TapesBy : {E : Type 0} → (E → Result ℕ EpochFailed → E → Type 0) → Bool → TapedEpochs E →
    Result ℕ EpochFailed → TapedEpochs E → Type 0
TapesBy readings true old answer new =
    (answer ≡ Err (record {})) × (new ≡ record old { past = true; faults = one_more old.faults })
TapesBy readings false old answer new =
    readings old.epochs.now answer new.epochs.now
    × (new ≡ record old { epochs = new.epochs; kept = record old.kept { now = with_kept old.kept.now answer }; faults = faults_after answer old.faults })
    × (new.epochs.ghost_name ≡ old.epochs.ghost_name)

abbrev pub TapesReading : {E : Type 0} → (E → Result ℕ EpochFailed → E → Type 0) → TapedEpochs E →
    Result ℕ EpochFailed → TapedEpochs E → Type 0
TapesReading readings old answer new =
    TapesBy readings (is_full old.kept.now) old answer new × (old.faults ≤ new.faults)

-- ---- a host, whose steps are kept

-- a step of a body that the host has is its own; one of another body fails and changes nothing
abbrev pub GivesBy : {H T : Type 0} → Steps H T → Bool → H → T → ℕ → ℕ → Event → View → ℕ → Say → H → T → Type 0
GivesBy steps true h s body state event view after what k t = steps h s body state event view after (Ok what) k t
GivesBy steps false h s body state event view after what k t =
    (what ≡ say.Fail) × (after ≡ state) × (k ≡ h) × (t ≡ s)

-- a step that had no memory: the host was not asked, or it was, and had some answer
abbrev pub WantsMemory : {H T : Type 0} → Steps H T → H → T → ℕ → ℕ → Event → View → ℕ → H → T → Type 0
WantsMemory steps h s body state event view after k t =
    ((k ≡ h) × (t ≡ s)) ⊎ ((what : Result Say OutOfMemory) × steps h s body state event view after what k t)

-- a step that answered is kept; one that had no memory is not
abbrev pub TapesStep : {H T : Type 0} → (H → ℕ → Bool) → Steps H T → Taping H → T → ℕ → ℕ → Event → View → ℕ →
    Result Say OutOfMemory → Taping H → T → Type 0
TapesStep has steps h s body state event view after (Ok what) k t =
    GivesBy steps (has h.host.now body) h.host.now s body state event view after what k.host.now t
    × (k.steps.now.items ≡ h.steps.now.items ++ taped body state event what after ∷ [])
    × (k.faults ≡ failures_after what h.faults)
TapesStep has steps h s body state event view after (Err no_memory) k t =
    WantsMemory steps h.host.now s body state event view after k.host.now t
    × (k.steps.now.items ≡ h.steps.now.items)

abbrev pub Tapes : {H T : Type 0} → (H → ℕ → Bool) → Steps H T → Taping H → T → ℕ → ℕ → Event → View → ℕ →
    Result Say OutOfMemory → Taping H → T → Type 0
Tapes has steps h s body state event view after what k t =
    TapesStep has steps h s body state event view after what k t
    × (k.bodies ≡ h.bodies) × (k.host.ghost_name ≡ h.host.ghost_name) × (h.faults ≤ k.faults)
    × (k.steps.ghost_name ≡ h.steps.ghost_name)
