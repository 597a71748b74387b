-- What a replay hears, step by step, is what its tape gives.
use Rattle.std.proofs.Common.{◌≡◌, ℕ, zero, suc, List, [], ◌∷◌, Option, Some, None, refl, sym, ap, ◌∙◌, subst, arith}
use Rattle.std.specs.Prelude.{◌+◌, Bool, true, false, nat_lt, drop, slice_get, if◌then◌else◌, Result, Ok, Err}
use Rattle.wasm_types.specs.Each.{Each}
use Rattle.wasm_types.specs.declared.faults.OutOfMemory.{OutOfMemory}
use Rattle.wasm_meter.specs.Lists.{one_more}
use Rattle.wasm_meter.specs.Unhooked.{LetsPass, Interrupts}
use Rattle.wasm_meter.specs.declared.faults.EpochFailed.{EpochFailed}
use Rattle.wasm_meter.specs.declared.faults.LimiterFailed.{LimiterFailed}
use Rattle.spec_execution.specs.Askings.{Question, Growing, Having, Passing, Reading, Behaving, Stepping, Answer, Grown, Has, Passed, Read, Behaved, Stepped, Asking, Outside, Relations, Moves, Chain}
use Rattle.spec_execution.specs.declared.answer.Answer.{Answer as Say}
use Rattle.spec_execution.specs.declared.answer.Answer.TheVariants as say
use Rattle.spec_execution.specs.declared.answer.Event.{Event}
use Rattle.law_replay.specs.Tapes.{TapeParts, IsTapable}
use Rattle.law_replay.specs.declared.step.TapedStep.{TapedStep}
use Rattle.wasm_replay.specs.Played.{after_taking, given_or, next_growth, growth_answer, with_growth, after_growth, PlaysGrowth, next_reading, reading_answer, with_reading, after_reading, PlaysReading, asked, asked_of, is_asked, difference, step_by, after_by, next_step, Replays}
use Rattle.wasm_replay.specs.Progress.{Progress, reading, growth, step, Gives, GivesOrWants}
use Rattle.wasm_replay.specs.Records.{failures_after}
use Rattle.wasm_replay.specs.declared.ends.Asked.{Asked}
use Rattle.wasm_replay.specs.declared.ends.Difference.{Difference}
use Rattle.wasm_replay.specs.declared.played.Played.{Played}
use Rattle.wasm_replay.specs.declared.replayed.Replayed.{Replayed}
use Rattle.wasm_replay.specs.declared.replayed_epochs.ReplayedEpochs.{ReplayedEpochs}
use Rattle.wasm_replay.specs.declared.replaying.Replaying.{Replaying}

-- what is outside of a replay
abbrev pub Replay : Type 0
Replay = Outside Replayed Replaying ReplayedEpochs

-- how it goes, by the relations of its parts
abbrev pub replays : Relations Replayed Replaying ReplayedEpochs
replays = record {
  growths = λ s question answer t. PlaysGrowth s answer t;
  has = λ h body. nat_lt body h.bodies;
  hooks = λ s event answer t. LetsPass s answer t;
  readings = PlaysReading;
  behaves = Interrupts;
  steps = λ h s body state cause view after say k t. Replays h s body state cause after say k t;
}

-- what is left of its tape
abbrev pub rest_of : Replay → TapeParts
rest_of w = record {
  steps = drop w.host.played.next w.host.steps.now;
  readings = drop w.epochs.played.next w.epochs.readings.now;
  growths = drop w.host_data.played.next w.host_data.growths;
}

-- how far it is
abbrev pub progress_of : Replay → Progress
progress_of w = record {
  left = rest_of w;
  taken = w.host.played.next;
  differs = w.host.differs;
  steps_ended = w.host.played.ended;
  readings_ended = w.epochs.played.ended;
  growths_ended = w.host_data.played.ended;
}

-- ---- the next one of a list, and what is left of it

some_left : {A : Type 0} (n : ℕ) (xs : List A) (x : A) → slice_get xs n ≡ Some x → drop n xs ≡ x ∷ drop (n + 1) xs
some_left zero [] x e = absurd cc
some_left zero (y ∷ ys) x e = let f : y ≡ x = cc in ap (λ (z : _). z ∷ ys) f
some_left (suc n) [] x e = absurd cc
some_left (suc n) (y ∷ ys) x e =
    let f : suc (n + 1) ≡ suc n + 1 = omega arith in some_left n ys x e ∙ ap (λ (k : ℕ). x ∷ drop k (y ∷ ys)) f

none_left : {A : Type 0} (n : ℕ) (xs : List A) → slice_get xs n ≡ None → drop n xs ≡ []
none_left zero [] e = refl
none_left zero (y ∷ ys) e = absurd cc
none_left (suc n) [] e = refl
none_left (suc n) (y ∷ ys) e = none_left n ys e

pair : {A : Type 0} (a b : A) (p q : Progress) → a ≡ b → p ≡ q → (let x : A × Progress = (a, p) in let y : A × Progress = (b, q) in x ≡ y)
pair {A} a b p q e f =
    ap (λ (x : A). let r : A × Progress = (x, p) in r) e ∙ ap (λ (x : Progress). let r : A × Progress = (b, x) in r) f

-- ---- host data

-- a count changes neither what was played nor the list
growth_keeps :
    (s : Replayed) (o : Option (Result Bool LimiterFailed))
    → ((with_growth s o).played ≡ s.played) × ((with_growth s o).growths ≡ s.growths)
growth_keeps s None = (refl, refl)
growth_keeps s (Some (Ok true)) = (refl, refl)
growth_keeps s (Some (Ok false)) = (refl, refl)
growth_keeps s (Some (Err fault)) = (refl, refl)

module _ (w : Replay) where
  abbrev d : Replayed
  d = w.host_data

  -- how far it is where so much of the list was played
  abbrev at_growth : List (Result Bool LimiterFailed) → Played → Progress
  at_growth xs p = record (progress_of w) {
    left = record (rest_of w) { growths = drop p.next xs };
    growths_ended = p.ended;
  }

  after_growth_at :
      (o : Option (Result Bool LimiterFailed)) → next_growth d ≡ o
      → progress_of (record w { host_data = after_growth d }) ≡ at_growth d.growths (after_taking o d.played)
  after_growth_at o e =
      let k = growth_keeps (record d { played = after_taking (next_growth d) d.played }) (next_growth d) in
      ap (λ (p : Played). at_growth (after_growth d).growths p) k.0
      ∙ ap (λ (xs : List (Result Bool LimiterFailed)). at_growth xs (after_taking (next_growth d) d.played)) k.1
      ∙ ap (λ (x : Option (Result Bool LimiterFailed)). at_growth d.growths (after_taking x d.played)) e

  growth_goes :
      (o : Option (Result Bool LimiterFailed)) → next_growth d ≡ o
      → growth (drop d.played.next d.growths) (progress_of w)
      ≡ (growth_answer d, progress_of (record w { host_data = after_growth d }))
  growth_goes None e =
      ap (λ (xs : List (Result Bool LimiterFailed)). growth xs (progress_of w)) (none_left d.played.next d.growths e)
      ∙ pair _ _ _ _ (ap (λ (x : Option (Result Bool LimiterFailed)). given_or (record {}) x) (sym e))
      (sym (after_growth_at None e))
  growth_goes (Some answer) e =
      ap (λ (xs : List (Result Bool LimiterFailed)). growth xs (progress_of w)) (some_left d.played.next d.growths answer e)
      ∙ pair _ _ _ _ (ap (λ (x : Option (Result Bool LimiterFailed)). given_or (record {}) x) (sym e))
      (sym (after_growth_at (Some answer) e))

-- ---- an epoch source

reading_keeps :
    (s : ReplayedEpochs) (o : Option (Result ℕ EpochFailed))
    → ((with_reading s o).played ≡ s.played) × ((with_reading s o).readings ≡ s.readings)
reading_keeps s None = (refl, refl)
reading_keeps s (Some (Ok n)) = (refl, refl)
reading_keeps s (Some (Err fault)) = (refl, refl)

module _ (w : Replay) where
  abbrev s : ReplayedEpochs
  s = w.epochs

  abbrev at_reading : List (Result ℕ EpochFailed) → Played → Progress
  at_reading xs p = record (progress_of w) {
    left = record (rest_of w) { readings = drop p.next xs };
    readings_ended = p.ended;
  }

  after_reading_at :
      (o : Option (Result ℕ EpochFailed)) → next_reading s ≡ o
      → progress_of (record w { epochs = after_reading s }) ≡ at_reading s.readings.now (after_taking o s.played)
  after_reading_at o e =
      let k = reading_keeps (record s { played = after_taking (next_reading s) s.played }) (next_reading s) in
      ap (λ (p : Played). at_reading (after_reading s).readings.now p) k.0
      ∙ ap (λ (xs : List (Result ℕ EpochFailed)). at_reading xs (after_taking (next_reading s) s.played))
      (ap (λ xs. xs.now) k.1)
      ∙ ap (λ (x : Option (Result ℕ EpochFailed)). at_reading s.readings.now (after_taking x s.played)) e

  reading_goes :
      (o : Option (Result ℕ EpochFailed)) → next_reading s ≡ o
      → reading (drop s.played.next s.readings.now) (progress_of w)
      ≡ (reading_answer s, progress_of (record w { epochs = after_reading s }))
  reading_goes None e =
      ap (λ (xs : List (Result ℕ EpochFailed)). reading xs (progress_of w)) (none_left s.played.next s.readings.now e)
      ∙ pair _ _ _ _ (ap (λ (x : Option (Result ℕ EpochFailed)). given_or (record {}) x) (sym e))
      (sym (after_reading_at None e))
  reading_goes (Some answer) e =
      ap (λ (xs : List (Result ℕ EpochFailed)). reading xs (progress_of w))
      (some_left s.played.next s.readings.now answer e)
      ∙ pair _ _ _ _ (ap (λ (x : Option (Result ℕ EpochFailed)). given_or (record {}) x) (sym e))
      (sym (after_reading_at (Some answer) e))

-- ---- a host

module _ (w : Replay) where
  abbrev h : Replaying
  h = w.host

  step_goes_if :
      (b : Bool) (x : TapedStep) (q : Asked) (k l : Replaying)
      → (if b
      then (let r : (Say × ℕ) × Progress = ((x.answer, x.next), progress_of (record w { host = k })) in r)
      else ((say.Fail, q.state), progress_of (record w { host = l })))
      ≡ ((if b then (x.answer, x.next) else (say.Fail, q.state)), progress_of (record w { host = if b then k else l }))
  step_goes_if true x q k l = refl
  step_goes_if false x q k l = refl

  step_goes :
      (e : Option Difference) (o : Option TapedStep) (q : Asked) → next_step h ≡ o
      → step e (drop h.played.next h.steps.now) q (progress_of w)
      ≡ (step_by e o q, progress_of (record w { host = after_by e o q h }))
  step_goes (Some d) o q f = refl
  step_goes None None q f =
      ap (λ (xs : List TapedStep). step None xs q (progress_of w)) (none_left h.played.next h.steps.now f)
  step_goes None (Some x) q f =
      ap (λ (xs : List TapedStep). step None xs q (progress_of w)) (some_left h.played.next h.steps.now x f)
      ∙ step_goes_if (is_asked (asked_of x) q) x q
      (record h { played = record h.played { next = h.played.next + 1 }; faults = failures_after x.answer h.faults })
      (record h { differs = Some (difference h.played.next (asked_of x) q); faults = one_more h.faults })

-- ---- what it heard is what its tape gives

outside_is :
    (w v : Replay) (host : Replaying) → v.host ≡ host → v.host_data ≡ w.host_data → v.epochs ≡ w.epochs
    → v ≡ record w { host = host }
outside_is w v host e f g =
    ap (λ (x : Replaying). let r : Replay = record { host_data = v.host_data; host = x; epochs = v.epochs } in r) e
    ∙ ap (λ (x : Replayed). let r : Replay = record { host_data = x; host = host; epochs = v.epochs } in r) f
    ∙ ap (λ (x : ReplayedEpochs). let r : Replay = record { host_data = w.host_data; host = host; epochs = x } in r) g

goes :
    (w v : Replay) (q : Question) (a : Answer) → Moves replays w q a v
    → GivesOrWants w.host.bodies (progress_of w) q a (progress_of v)
goes w v (Having body) (Has answer) m = (m.0, ap progress_of m.1)
goes w v (Growing g) (Grown answer) m =
    growth_goes w (next_growth w.host_data) refl
    ∙ pair _ _ _ _ (sym m.1.0)
    (sym (ap progress_of m.2 ∙ ap (λ (x : Replayed). progress_of (record w { host_data = x })) m.1.1))
goes w v Reading (Read answer) m =
    reading_goes w (next_reading w.epochs) refl
    ∙ pair _ _ _ _ (sym m.1.0)
    (sym (ap progress_of m.2 ∙ ap (λ (x : ReplayedEpochs). progress_of (record w { epochs = x })) m.1.1))
goes w v (Passing event) (Passed answer) m =
    (m.1.0, ap progress_of m.2 ∙ ap (λ (x : Replayed). progress_of (record w { host_data = x })) m.1.1)
goes w v Behaving (Behaved answer) m =
    (m.1.0, ap progress_of m.2 ∙ ap (λ (x : Replayed). progress_of (record w { host_data = x })) m.1.1)
goes w v (Stepping body state event view) (Stepped after (Ok what)) m =
    step_goes w w.host.differs (next_step w.host) (asked body state event) refl
    ∙ pair _ _ _ _ (sym m.0.0) (sym (ap progress_of (outside_is w v _ m.0.1 m.0.2 m.1)))
goes w v (Stepping body state event view) (Stepped after (Err no_memory)) m =
    (m.0.1, ap progress_of (outside_is w v w.host m.0.0 m.0.2 m.1))
goes w v q a m = absurd m

-- the number of bodies stays
either_bodies : (b : Bool) (x y : Replaying) (n : ℕ) → x.bodies ≡ n → y.bodies ≡ n → (if b then x else y).bodies ≡ n
either_bodies true x y n e f = e
either_bodies false x y n e f = f

after_bodies :
    (e : Option Difference) (o : Option TapedStep) (q : Asked) (k : Replaying) → (after_by e o q k).bodies ≡ k.bodies
after_bodies (Some d) o q k = refl
after_bodies None None q k = refl
after_bodies None (Some x) q k = either_bodies (is_asked (asked_of x) q) _ _ k.bodies refl refl

step_bodies :
    (k l : Replaying) (t u : Replayed) (body state after : ℕ) (event : Event) (what : Result Say OutOfMemory)
    → Replays k t body state event after what l u → l.bodies ≡ k.bodies
step_bodies k l t u body state after event (Ok what) g =
    ap (λ (x : Replaying). x.bodies) g.1 ∙ after_bodies k.differs (next_step k) (asked body state event) k
step_bodies k l t u body state after event (Err no_memory) g = ap (λ (x : Replaying). x.bodies) g.0

bodies_stay : (w v : Replay) (q : Question) (a : Answer) → Moves replays w q a v → v.host.bodies ≡ w.host.bodies
bodies_stay w v (Having body) (Has answer) m = ap (λ (x : Replay). x.host.bodies) m.1
bodies_stay w v (Growing g) (Grown answer) m = ap (λ (x : Replay). x.host.bodies) m.2
bodies_stay w v Reading (Read answer) m = ap (λ (x : Replay). x.host.bodies) m.2
bodies_stay w v (Passing event) (Passed answer) m = ap (λ (x : Replay). x.host.bodies) m.2
bodies_stay w v Behaving (Behaved answer) m = ap (λ (x : Replay). x.host.bodies) m.2
bodies_stay w v (Stepping body state event view) (Stepped after what) m =
    step_bodies w.host v.host w.host_data v.host_data body state after event what m.0
bodies_stay w v q a m = absurd m

-- all of it
pub all_go :
    (bodies : ℕ) (P : Answer → Type 0) (heard : List Asking) (w v : Replay) → w.host.bodies ≡ bodies
    → Chain (λ x q a y. P a × Moves replays x q a y) w heard v
    → Chain (GivesOrWants bodies) (progress_of w) heard (progress_of v)
all_go bodies P [] w v b c = ap progress_of c
all_go bodies P (x ∷ heard) w v b c = (
  progress_of c.0,
  subst (λ (n : ℕ). GivesOrWants n (progress_of w) x.0 x.1 (progress_of c.0)) b (goes w c.0 x.0 x.1 c.1.1),
  all_go bodies P heard c.0 v (bodies_stay w c.0 x.0 x.1 c.1.1 ∙ b) c.2,
)

-- where all that was heard can be on a tape, nothing wanted memory
given :
    (bodies : ℕ) (p q : Progress) (question : Question) (a : Answer) → IsTapable bodies question a
    → GivesOrWants bodies p question a q → Gives bodies p question a q
given bodies p q (Having body) (Has answer) t g = g
given bodies p q Reading (Read answer) t g = g
given bodies p q (Growing growing) (Grown answer) t g = g
given bodies p q (Stepping body state event view) (Stepped after (Ok what)) t g = g
given bodies p q question a t g = absurd t

pub all_given :
    (bodies : ℕ) (heard : List Asking) (p q : Progress)
    → Each heard (λ (asking : Asking). IsTapable bodies asking.0 asking.1) → Chain (GivesOrWants bodies) p heard q
    → Chain (Gives bodies) p heard q
all_given bodies [] p q t c = c
all_given bodies (x ∷ heard) p q t c =
    (c.0, given bodies p c.0 x.0 x.1 (t 0 x refl) c.1, all_given bodies heard c.0 q (λ n y e. t (suc n) y e) c.2)
