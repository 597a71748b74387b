-- An asking of host data that are recorded, past the room and within it.
use Rattle.std.proofs.Common.{◌≡◌, ℕ, ◌≤◌, sym, subst}
use Rattle.std.specs.Prelude.{Bool, true, false, Result, Ok, Err}
use Rattle.wasm_meter.specs.Growths.{Growth}
use Rattle.wasm_meter.specs.Lists.{one_more}
use Rattle.wasm_meter.specs.declared.faults.LimiterFailed.{LimiterFailed}
use Rattle.wasm_replay.specs.Kept.{with_kept}
use Rattle.wasm_replay.specs.Records.{faults_after, RecordsBy}
use Rattle.wasm_replay.specs.declared.recorded.Recorded.{Recorded}

module _ {T : Type 0} (growths : T → Growth → Result Bool LimiterFailed → T → Type 0) (b : Bool) (old : Recorded T)
    (g : Growth) where
  pub refuses :
      (answer : Result Bool LimiterFailed) (new : Recorded T) → b ≡ true → answer ≡ Err (record {})
      → new ≡ record old { past = true; faults = one_more old.faults } → old.faults ≤ new.faults
      → RecordsBy growths b old g answer new × (old.faults ≤ new.faults)
  refuses answer new e a s n =
      (subst (λ (x : Bool). RecordsBy growths x old g answer new) (sym e) (a, s), n)

  pub records :
      (answer : Result Bool LimiterFailed) (new : Recorded T) (t : T) (given : Result Bool LimiterFailed) → b ≡ false
      → growths old.inner g given t → answer ≡ given
      → new ≡ record old { inner = t; kept = with_kept old.kept given; faults = faults_after given old.faults }
      → old.faults ≤ new.faults → RecordsBy growths b old g answer new × (old.faults ≤ new.faults)
  records answer new t given e h a s n = (
    subst (λ (x : Bool). RecordsBy growths x old g answer new) (sym e)
        (subst (λ (x : Result Bool LimiterFailed). RecordsBy growths false old g x new) (sym a) (t, h, s)),
    n,
  )
