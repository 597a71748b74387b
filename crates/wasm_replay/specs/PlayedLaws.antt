-- The laws of host data, a host and an epoch source that give again what was recorded.
use Rattle.std.proofs.Common.{refl, subst, sym, ap, true≢false}
use Rattle.std.proofs.lemmas.Bool.{false≢true}
use Rattle.std.proofs.Math.Nat.{le_refl}
use Rattle.std.specs.Prelude.{◌≡◌, ℕ, ◌≤◌, Bool, true, false, if◌then◌else◌, Option, Some, None, Result, Ok, Err, is_err}
use Rattle.std.specs.Result.{result_unwrap_or}
use Rattle.wasm_types.specs.declared.faults.OutOfMemory.{OutOfMemory}
use Rattle.wasm_meter.specs.Counting.{Rose, NoneFell}
use Rattle.wasm_meter.specs.ListLaws.{rises}
use Rattle.wasm_meter.specs.Lists.{one_more}
use Rattle.wasm_meter.specs.Unhooked.{nothing_fell}
use Rattle.wasm_meter.specs.declared.faults.EpochFailed.{EpochFailed}
use Rattle.wasm_meter.specs.declared.faults.LimiterFailed.{LimiterFailed}
use Rattle.spec_execution.specs.declared.answer.Answer.{Answer as Say}
use Rattle.spec_execution.specs.declared.answer.Answer.TheVariants as say
use Rattle.spec_execution.specs.declared.answer.Event.{Event}
use Rattle.law_replay.specs.declared.step.TapedStep.{TapedStep}
use Rattle.wasm_replay.specs.Played.{after_taking, given_or, next_growth, growth_answer, with_growth, after_growth, next_reading, reading_answer, with_reading, after_reading, asked, asked_of, is_asked, step_by, after_by, next_step, Replays}
use Rattle.wasm_replay.specs.Records.{failures_after}
use Rattle.wasm_replay.specs.declared.ends.Asked.{Asked}
use Rattle.wasm_replay.specs.declared.ends.Difference.{Difference}
use Rattle.wasm_replay.specs.declared.replayed.Replayed.{Replayed}
use Rattle.wasm_replay.specs.declared.replayed_epochs.ReplayedEpochs.{ReplayedEpochs}
use Rattle.wasm_replay.specs.declared.replaying.Replaying.{Replaying}

denies_by :
    (s : Replayed) (o : Option (Result Bool LimiterFailed)) → Ok false ≡ given_or (record {}) o
    → Rose s.denials (with_growth s o).denials
denies_by s (Some (Ok false)) e = rises s.denials
denies_by s (Some (Ok true)) e = absurd (false≢true (ap (λ r. result_unwrap_or r true) e))
denies_by s _ e = absurd (true≢false (sym (ap is_err e)))

grows_by :
    (s : Replayed) (o : Option (Result Bool LimiterFailed)) (fault : LimiterFailed)
    → Err fault ≡ given_or (record {}) o → Rose s.faults (with_growth s o).faults
grows_by s None fault e = rises s.faults
grows_by s (Some (Err f)) fault e = rises s.faults
grows_by s (Some (Ok b)) fault e = absurd (true≢false (ap is_err e))

pub growth_denies :
    (s t : Replayed) → Ok false ≡ growth_answer s → t ≡ after_growth s → Rose s.denials t.denials
growth_denies s t e f =
    subst (λ (x : Replayed). Rose s.denials x.denials) (sym f)
    (denies_by (record s { played = after_taking (next_growth s) s.played }) (next_growth s) e)

pub growth_fails :
    (s t : Replayed) (fault : LimiterFailed) → Err fault ≡ growth_answer s → t ≡ after_growth s → Rose s.faults t.faults
growth_fails s t fault e f =
    subst (λ (x : Replayed). Rose s.faults x.faults) (sym f)
    (grows_by (record s { played = after_taking (next_growth s) s.played }) (next_growth s) fault e)

reads_by :
    (s : ReplayedEpochs) (o : Option (Result ℕ EpochFailed)) (fault : EpochFailed) → Err fault ≡ given_or (record {}) o
    → Rose s.faults (with_reading s o).faults
reads_by s None fault e = rises s.faults
reads_by s (Some (Err f)) fault e = rises s.faults
reads_by s (Some (Ok n)) fault e = absurd (true≢false (ap is_err e))

pub reading_fails :
    (s t : ReplayedEpochs) (fault : EpochFailed) → Err fault ≡ reading_answer s → t ≡ after_reading s
    → Rose s.faults t.faults
reading_fails s t fault e f =
    subst (λ (x : ReplayedEpochs). Rose s.faults x.faults) (sym f)
    (reads_by (record s { played = after_taking (next_reading s) s.played }) (next_reading s) fault e)

-- ---- a host

Fails : Say → Replaying → Replaying → Type 0
Fails say.Fail h k = Rose h.faults k.faults
Fails what h k = Unit {0}

fails_taken : (what : Say) (h k : Replaying) → k.faults ≡ failures_after what h.faults → Fails what h k
unfolding Fails
fails_taken say.Fail h k e = subst (λ (n : ℕ). Rose h.faults n) (sym e) (rises h.faults)
fails_taken (say.Return vals) h k e = tt
fails_taken (say.Call op) h k e = tt

fails_if :
    (b : Bool) (x : TapedStep) (q : Asked) (h taken other : Replaying) → taken.faults ≡ failures_after x.answer h.faults
    → other.faults ≡ one_more h.faults
    → (let r : Say × ℕ = if b then (x.answer, x.next) else (say.Fail, q.state) in Fails r.0 h (if b then taken else other))
unfolding Fails
fails_if true x q h taken other e f = fails_taken x.answer h taken e
fails_if false x q h taken other e f = subst (λ (n : ℕ). Rose h.faults n) (sym f) (rises h.faults)

fails_by :
    (d : Option Difference) (o : Option TapedStep) (q : Asked) (h : Replaying)
    → Fails (step_by d o q).0 h (after_by d o q h)
unfolding Fails
fails_by (Some d) o q h = rises h.faults
fails_by None None q h = rises h.faults
fails_by None (Some x) q h = fails_if (is_asked (asked_of x) q) x q h _ _ refl refl

pub steps_fail :
    {T : Type 0} (h k : Replaying) (s t : T) (body state after : ℕ) (cause : Event)
    → Replays h s body state cause after (Ok say.Fail) k t → Rose h.faults k.faults
unfolding Fails
steps_fail h k s t body state after cause g =
    let e : step_by h.differs (next_step h) (asked body state cause) ≡ (say.Fail, after) = sym g.0 in
    let f : Fails say.Fail h (after_by h.differs (next_step h) (asked body state cause) h) =
    subst (λ (x : Say × ℕ). Fails x.0 h (after_by h.differs (next_step h) (asked body state cause) h)) e
    (fails_by h.differs (next_step h) (asked body state cause) h) in
    subst (λ (x : Replaying). Rose h.faults x.faults) (sym g.1) f

pub steps_keep :
    {T : Type 0} (denials limiter_faults hook_faults behaviour_faults : T → ℕ) (h k : Replaying) (s t : T)
    (body state after : ℕ) (cause : Event) (what : Result Say OutOfMemory)
    → Replays h s body state cause after what k t
    → (h.faults ≤ k.faults) × NoneFell denials limiter_faults hook_faults behaviour_faults s t
steps_keep a b c d h k s t body state after cause (Ok what) g = (g.3, nothing_fell a b c d s t g.2)
steps_keep a b c d h k s t body state after cause (Err no_memory) g =
    (subst (λ (x : Replaying). h.faults ≤ x.faults) (sym g.0) (le_refl h.faults), nothing_fell a b c d s t g.2)
