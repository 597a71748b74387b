-- How a replay ends, by the counts that its parts keep, is how it ends by what is left of its tape.
use Rattle.std.proofs.Common.{◌≡◌, ℕ, suc, ◌-◌, List, [], ◌∷◌, Option, Some, None, refl, sym, ap, ◌∙◌, arith}
use Rattle.std.specs.Prelude.{Bool, true, false, nat_lt, drop, length, if◌then◌else◌, Result}
use Rattle.std.proofs.lemmas.Bool.{le-ltb, lt-ltb}
use Rattle.std.proofs.lemmas.List.{length-drop}
use Rattle.wasm_meter.specs.declared.faults.EpochFailed.{EpochFailed}
use Rattle.wasm_meter.specs.declared.faults.LimiterFailed.{LimiterFailed}
use Rattle.law_replay.specs.declared.step.TapedStep.{TapedStep}
use Rattle.wasm_replay.specs.Played.{left_of, end_of}
use Rattle.wasm_replay.specs.Progress.{first_left, ending_by, ending}
use Rattle.wasm_replay.specs.declared.ends.Difference.{Difference}
use Rattle.wasm_replay.specs.declared.ends.Kind.TheVariants as kind
use Rattle.wasm_replay.specs.declared.ends.Lengths.{Lengths}
use Rattle.wasm_replay.specs.declared.ends.ReplayEnd.{ReplayEnd}
use Rattle.wasm_replay.specs.declared.ends.ReplayEnd.TheVariants as end
use Rattle.wasm_replay.proofs.ReplayChains.{Replay, progress_of}

abbrev pub lengths_of : Replay → Lengths
lengths_of w = record {
  steps = length w.host.steps.now;
  readings = length w.epochs.readings.now;
  growths = length w.host_data.growths;
}

-- by the counts
abbrev pub ends : Replay → ReplayEnd
ends w = end_of w.host.differs w.host.played w.epochs.played w.host_data.played (lengths_of w)

-- ---- some is left of a list

is_some_left : {A : Type 0} → List A → Bool
is_some_left [] = false
is_some_left (x ∷ xs) = true

left_by :
    {A : Type 0} (n : ℕ) (xs rest : List A) → drop n xs ≡ rest → is_some_left rest ≡ nat_lt n (length xs)
unfolding is_some_left
left_by n xs [] e =
    let f : length xs - n ≡ 0 = sym (length-drop n xs) ∙ ap (λ (ys : List _). length ys) e in
    sym (le-ltb n (length xs) (omega (arith, f)))
left_by n xs (y ∷ rest) e =
    let f : length xs - n ≡ suc (length rest) = sym (length-drop n xs) ∙ ap (λ (ys : List _). length ys) e in
    sym (lt-ltb n (length xs) (omega (arith, f)))

first_by :
    (steps : List TapedStep) (readings : List (Result ℕ EpochFailed)) (growths : List (Result Bool LimiterFailed))
    → first_left steps readings growths
    ≡ (if is_some_left steps then end.Left kind.Steps
    else (if is_some_left readings then end.Left kind.Readings
    else (if is_some_left growths then end.Left kind.Growths else end.Same)))
unfolding is_some_left
first_by (x ∷ steps) readings growths = refl
first_by [] (x ∷ readings) growths = refl
first_by [] [] (x ∷ growths) = refl
first_by [] [] [] = refl

left_so :
    (w : Replay)
    → first_left (drop w.host.played.next w.host.steps.now) (drop w.epochs.played.next w.epochs.readings.now)
    (drop w.host_data.played.next w.host_data.growths)
    ≡ left_of w.host.played w.epochs.played w.host_data.played (lengths_of w)
left_so w =
    let steps = drop w.host.played.next w.host.steps.now in
    let readings = drop w.epochs.played.next w.epochs.readings.now in
    let growths = drop w.host_data.played.next w.host_data.growths in
    first_by steps readings growths
    ∙ ap (λ (b : Bool). if b then end.Left kind.Steps
    else (if is_some_left readings then end.Left kind.Readings
    else (if is_some_left growths then end.Left kind.Growths else end.Same)))
    (left_by w.host.played.next w.host.steps.now steps refl)
    ∙ ap (λ (b : Bool). if nat_lt w.host.played.next (length w.host.steps.now) then end.Left kind.Steps
    else (if b then end.Left kind.Readings
    else (if is_some_left growths then end.Left kind.Growths else end.Same)))
    (left_by w.epochs.played.next w.epochs.readings.now readings refl)
    ∙ ap (λ (b : Bool). if nat_lt w.host.played.next (length w.host.steps.now) then end.Left kind.Steps
    else (if nat_lt w.epochs.played.next (length w.epochs.readings.now) then end.Left kind.Readings
    else (if b then end.Left kind.Growths else end.Same)))
    (left_by w.host_data.played.next w.host_data.growths growths refl)

by_difference : (w : Replay) (d : Option Difference)
    → end_of d w.host.played w.epochs.played w.host_data.played (lengths_of w) ≡ ending_by d (progress_of w)
by_difference w (Some d) = refl
by_difference w None =
    ap (λ (x : ReplayEnd). if w.host.played.ended then end.Ended kind.Steps
    else (if w.epochs.played.ended then end.Ended kind.Readings
    else (if w.host_data.played.ended then end.Ended kind.Growths else x))) (sym (left_so w))

pub ends_so : (w : Replay) → ends w ≡ ending (progress_of w)
ends_so w = by_difference w w.host.differs
