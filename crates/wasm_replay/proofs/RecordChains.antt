-- What the wrappers of a recording heard, step by step: it is the tape that they kept, and the host, the host data and the
-- epoch source went by it.
use Rattle.std.proofs.Common.{◌≡◌, ◌⊎◌, ℕ, List, [], ◌∷◌, ◌++◌, refl, sym, ap, ◌∙◌, subst, inl, inr, true≢false}
use Rattle.std.specs.Prelude.{Bool, true, false, ◌||◌, nat_lt, Result, Ok, Err}
use Rattle.std.proofs.lemmas.List.{append_assoc, append-nil}
use Rattle.std.proofs.lemmas.Bool.{false≢true}
use Rattle.wasm_types.specs.declared.faults.OutOfMemory.{OutOfMemory}
use Rattle.wasm_meter.specs.Growths.{Growth}
use Rattle.wasm_meter.specs.declared.faults.EpochFailed.{EpochFailed}
use Rattle.wasm_meter.specs.declared.faults.LimiterFailed.{LimiterFailed}
use Rattle.spec_execution.specs.Askings.{Question, Growing, Having, Passing, Reading, Behaving, Stepping, Answer, Grown, Has, Passed, Read, Behaved, Stepped, Asking, View, Moves, Chain}
use Rattle.spec_execution.specs.declared.answer.Answer.{Answer as Say}
use Rattle.spec_execution.specs.declared.answer.Event.{Event}
use Rattle.wasm_host.specs.Hosts.{Steps}
use Rattle.law_replay.specs.Tapes.{TapeParts, no_tape, taped, tape_with, tape_of}
use Rattle.law_replay.specs.declared.step.TapedStep.{TapedStep}
use Rattle.wasm_replay.specs.Kept.{KeptParts, is_full, with_kept}
use Rattle.wasm_replay.specs.Records.{RecordsBy, RecordsGrowth, TapesBy, GivesBy, TapesStep, Tapes}
use Rattle.wasm_replay.specs.Recordings.{Wrapped, tape_kept, is_past, Lent, Actual, actual, LendsBy, RecordMoves, wrapped}
use Rattle.wasm_replay.specs.declared.recorded.Recorded.{Recorded}
use Rattle.wasm_replay.specs.Wrappers.{TapedEpochs, Taping}

-- ---- tapes, one behind another

pub append : TapeParts → TapeParts → TapeParts
append s t = record { steps = s.steps ++ t.steps; readings = s.readings ++ t.readings; growths = s.growths ++ t.growths }

-- with an answer at the end
onto : Question → Answer → TapeParts → TapeParts
onto (Stepping body state event view) (Stepped after (Ok answer)) t =
    record t { steps = t.steps ++ taped body state event answer after ∷ [] }
onto Reading (Read answer) t = record t { readings = t.readings ++ answer ∷ [] }
onto (Growing g) (Grown answer) t = record t { growths = t.growths ++ answer ∷ [] }
onto q a t = t

abbrev pub parts : List TapedStep → List (Result ℕ EpochFailed) → List (Result Bool LimiterFailed) → TapeParts
parts steps readings growths = record { steps = steps; readings = readings; growths = growths }

append_onto :
    (q : Question) (a : Answer) (s t : TapeParts) → append (onto q a s) t ≡ append s (tape_with q a t)
unfolding append onto
append_onto (Stepping body state event view) (Stepped after (Ok answer)) s t =
    ap (λ (xs : List TapedStep). parts xs (s.readings ++ t.readings) (s.growths ++ t.growths))
    (append_assoc s.steps (taped body state event answer after ∷ []) t.steps)
append_onto Reading (Read answer) s t =
    ap (λ (xs : List (Result ℕ EpochFailed)). parts (s.steps ++ t.steps) xs (s.growths ++ t.growths))
    (append_assoc s.readings (answer ∷ []) t.readings)
append_onto (Growing g) (Grown answer) s t =
    ap (λ (xs : List (Result Bool LimiterFailed)). parts (s.steps ++ t.steps) (s.readings ++ t.readings) xs)
    (append_assoc s.growths (answer ∷ []) t.growths)
append_onto q a s t = refl

pub append_before : (t : TapeParts) → append no_tape t ≡ t
unfolding append
append_before t = refl

append_none : (s : TapeParts) → append s no_tape ≡ s
unfolding append
append_none s =
    ap (λ (xs : List TapedStep). parts xs (s.readings ++ []) (s.growths ++ [])) (append-nil s.steps)
    ∙ ap (λ (xs : List (Result ℕ EpochFailed)). parts s.steps xs (s.growths ++ [])) (append-nil s.readings)
    ∙ ap (λ (xs : List (Result Bool LimiterFailed)). parts s.steps s.readings xs) (append-nil s.growths)

-- ---- whether something was asked past its room

pub or_false : (a b : Bool) → (a || b) ≡ false → (a ≡ false) × (b ≡ false)
or_false true b e = absurd (true≢false e)
or_false false b e = (refl, e)

both_false : (a b : Bool) → a ≡ false → b ≡ false → (a || b) ≡ false
both_false a b e f = ap (λ (x : Bool). x || b) e ∙ f

module _ {T : Type 0} (growths : T → Growth → Result Bool LimiterFailed → T → Type 0) where
  growth_past :
      (b : Bool) (s t : Recorded T) (g : Growth) (answer : Result Bool LimiterFailed) → RecordsBy growths b s g answer t
      → t.past ≡ false → s.past ≡ false
  growth_past true s t g answer h p = absurd (true≢false (sym (ap (λ (x : Recorded T). x.past) h.1) ∙ p))
  growth_past false s t g answer h p = sym (ap (λ (x : Recorded T). x.past) h.2) ∙ p

  growth_kept :
      (b : Bool) (s t : Recorded T) (g : Growth) (answer : Result Bool LimiterFailed) → RecordsBy growths b s g answer t
      → t.past ≡ false → t.kept.items ≡ s.kept.items ++ answer ∷ []
  growth_kept true s t g answer h p = absurd (true≢false (sym (ap (λ (x : Recorded T). x.past) h.1) ∙ p))
  growth_kept false s t g answer h p = ap (λ (x : Recorded T). x.kept.items) h.2

module _ {E : Type 0} (readings : E → Result ℕ EpochFailed → E → Type 0) where
  abbrev lent : TapedEpochs E → Lent E
  lent e = record { source = e.epochs.now; kept = e.kept.now; past = e.past }

  reading_past :
      (b : Bool) (s t : TapedEpochs E) (answer : Result ℕ EpochFailed) → TapesBy readings b s answer t → t.past ≡ false
      → s.past ≡ false
  reading_past true s t answer h p = absurd (true≢false (sym (ap (λ (x : TapedEpochs E). x.past) h.1) ∙ p))
  reading_past false s t answer h p = sym (ap (λ (x : TapedEpochs E). x.past) h.1) ∙ p

  reading_kept :
      (b : Bool) (s t : TapedEpochs E) (answer : Result ℕ EpochFailed) → TapesBy readings b s answer t → t.past ≡ false
      → t.kept.now.items ≡ s.kept.now.items ++ answer ∷ []
  reading_kept true s t answer h p = absurd (true≢false (sym (ap (λ (x : TapedEpochs E). x.past) h.1) ∙ p))
  reading_kept false s t answer h p = ap (λ (x : TapedEpochs E). x.kept.now.items) h.1

  reading_lent :
      (b : Bool) (s t : TapedEpochs E) (answer : Result ℕ EpochFailed) → TapesBy readings b s answer t
      → LendsBy readings b (lent s) answer (lent t)
  reading_lent true s t answer h = (h.0, ap (λ (x : TapedEpochs E). lent x) h.1)
  reading_lent false s t answer h = (h.0, ap (λ (x : TapedEpochs E). lent x) h.1)

  reading_name :
      (b : Bool) (s t : TapedEpochs E) (answer : Result ℕ EpochFailed) → TapesBy readings b s answer t
      → t.epochs.ghost_name ≡ s.epochs.ghost_name
  reading_name true s t answer h = ap (λ (x : TapedEpochs E). x.epochs.ghost_name) h.1
  reading_name false s t answer h = h.2

  kept_name :
      (b : Bool) (s t : TapedEpochs E) (answer : Result ℕ EpochFailed) → TapesBy readings b s answer t
      → t.kept.ghost_name ≡ s.kept.ghost_name
  kept_name true s t answer h = ap (λ (x : TapedEpochs E). x.kept.ghost_name) h.1
  kept_name false s t answer h = ap (λ (x : TapedEpochs E). x.kept.ghost_name) h.1

module _ {T H E : Type 0} (growths : T → Growth → Result Bool LimiterFailed → T → Type 0) (has : H → ℕ → Bool)
    (readings : E → Result ℕ EpochFailed → E → Type 0) (steps : Steps H (Recorded T))
    (keeps : (h k : H) (s t : Recorded T) (body state after : ℕ) (cause : Event) (view : View)
    (what : Result Say OutOfMemory) → steps h s body state cause view after what k t
    → (t.kept ≡ s.kept) × (t.past ≡ s.past)) where
  -- what is told of one asking
  record Goes (old : Wrapped T H E) (q : Question) (a : Answer) (new : Wrapped T H E) : Type 0 where
    -- once past the room, always
    past : is_past new ≡ false → is_past old ≡ false
    kept : is_past new ≡ false → tape_kept new ≡ onto q a (tape_kept old)
    moves : RecordMoves growths has readings steps old.host.bodies (actual old) q a (actual new)
    bodies : new.host.bodies ≡ old.host.bodies
    same_host : new.host.host.ghost_name ≡ old.host.host.ghost_name
    same_epochs : new.epochs.epochs.ghost_name ≡ old.epochs.epochs.ghost_name
    same_steps : new.host.steps.ghost_name ≡ old.host.steps.ghost_name
    same_readings : new.epochs.kept.ghost_name ≡ old.epochs.kept.ghost_name

  nothing_goes :
      (old new : Wrapped T H E) (q : Question) (a : Answer) → onto q a (tape_kept old) ≡ tape_kept old → new ≡ old
      → RecordMoves growths has readings steps old.host.bodies (actual old) q a (actual old) → Goes old q a new
  nothing_goes old new q a o e m =
      subst (λ (w : Wrapped T H E). Goes old q a w) (sym e)
      (record {
        past = λ p. p;
        kept = λ p. sym o;
        moves = m;
        bodies = refl;
        same_host = refl;
        same_epochs = refl;
        same_steps = refl;
        same_readings = refl;
      })

  growth_goes :
      (old : Wrapped T H E) (t : Recorded T) (g : Growth) (answer : Result Bool LimiterFailed)
      → RecordsGrowth growths old.host_data g answer t
      → Goes old (Growing g) (Grown answer) (record old { host_data = t })
  unfolding onto
  growth_goes old t g answer h = record {
    past = λ p.
        let e = or_false t.past old.epochs.past p in
        both_false old.host_data.past old.epochs.past
        (growth_past growths (is_full old.host_data.kept) old.host_data t g answer h.0 e.0) e.1;
    kept = λ p.
        ap (λ (xs : List (Result Bool LimiterFailed)). parts old.host.steps.now.items old.epochs.kept.now.items xs)
        (growth_kept growths (is_full old.host_data.kept) old.host_data t g answer h.0
        (or_false t.past old.epochs.past p).0);
    moves = (h, refl, refl);
    bodies = refl;
    same_host = refl;
    same_epochs = refl;
    same_steps = refl;
    same_readings = refl;
  }

  reading_goes :
      (old : Wrapped T H E) (e : TapedEpochs E) (answer : Result ℕ EpochFailed)
      → TapesBy readings (is_full old.epochs.kept.now) old.epochs answer e
      → Goes old Reading (Read answer) (record old { epochs = e })
  unfolding onto
  reading_goes old e answer h = record {
    past = λ p.
        let f = or_false old.host_data.past e.past p in
        both_false old.host_data.past old.epochs.past f.0
        (reading_past readings (is_full old.epochs.kept.now) old.epochs e answer h f.1);
    kept = λ p.
        ap (λ (xs : List (Result ℕ EpochFailed)). parts old.host.steps.now.items xs old.host_data.kept.items)
        (reading_kept readings (is_full old.epochs.kept.now) old.epochs e answer h (or_false old.host_data.past e.past p).1);
    moves = (reading_lent readings (is_full old.epochs.kept.now) old.epochs e answer h, refl, refl);
    bodies = refl;
    same_host = refl;
    same_epochs = reading_name readings (is_full old.epochs.kept.now) old.epochs e answer h;
    same_steps = refl;
    same_readings = kept_name readings (is_full old.epochs.kept.now) old.epochs e answer h;
  }

  gives_same :
      (b : Bool) (h k : H) (s t : Recorded T) (body state after : ℕ) (cause : Event) (view : View) (what : Say)
      → GivesBy steps b h s body state cause view after what k t → (t.kept ≡ s.kept) × (t.past ≡ s.past)
  gives_same true h k s t body state after cause view what g = keeps h k s t body state after cause view (Ok what) g
  gives_same false h k s t body state after cause view what g =
      (ap (λ (x : Recorded T). x.kept) g.3, ap (λ (x : Recorded T). x.past) g.3)

  step_same :
      (h k : Taping H) (s t : Recorded T) (body state after : ℕ) (cause : Event) (view : View)
      (what : Result Say OutOfMemory) → TapesStep has steps h s body state cause view after what k t
      → (t.kept ≡ s.kept) × (t.past ≡ s.past)
  step_same h k s t body state after cause view (Ok what) g =
      gives_same (has h.host.now body) h.host.now k.host.now s t body state after cause view what g.0
  step_same h k s t body state after cause view (Err no_memory) g =
      elim g.0 [
        | inl e ↦ (ap (λ (x : Recorded T). x.kept) e.1, ap (λ (x : Recorded T). x.past) e.1)
        | inr e ↦ keeps h.host.now k.host.now s t body state after cause view e.0 e.1
      ]

  step_moves :
      (old new : Wrapped T H E) (body state : ℕ) (event : Event) (view : View) (after : ℕ)
      (what : Result Say OutOfMemory)
      → TapesStep has steps old.host old.host_data body state event view after what new.host new.host_data
      → new.epochs ≡ old.epochs
      → RecordMoves growths has readings steps old.host.bodies (actual old) (Stepping body state event view)
      (Stepped after what) (actual new)
  step_moves old new body state event view after (Ok what) g e = (g.0, ap (λ (x : TapedEpochs E). lent readings x) e)
  step_moves old new body state event view after (Err no_memory) g e =
      (g.0, ap (λ (x : TapedEpochs E). lent readings x) e)

  step_items :
      (old new : Wrapped T H E) (body state : ℕ) (event : Event) (view : View) (after : ℕ)
      (what : Result Say OutOfMemory)
      → TapesStep has steps old.host old.host_data body state event view after what new.host new.host_data
      → parts new.host.steps.now.items old.epochs.kept.now.items old.host_data.kept.items
      ≡ onto (Stepping body state event view) (Stepped after what) (tape_kept old)
  unfolding onto
  step_items old new body state event view after (Ok what) g =
      ap (λ (xs : List TapedStep). parts xs old.epochs.kept.now.items old.host_data.kept.items) g.1
  step_items old new body state event view after (Err no_memory) g =
      ap (λ (xs : List TapedStep). parts xs old.epochs.kept.now.items old.host_data.kept.items) g.1

  step_goes :
      (old new : Wrapped T H E) (body state : ℕ) (event : Event) (view : View) (after : ℕ)
      (what : Result Say OutOfMemory)
      → Tapes has steps old.host old.host_data body state event view after what new.host new.host_data
      → new.epochs ≡ old.epochs → Goes old (Stepping body state event view) (Stepped after what) new
  step_goes old new body state event view after what g e =
      let same = step_same old.host new.host old.host_data new.host_data body state after event view what g.0 in
      record {
        past = λ p.
            let f = or_false new.host_data.past new.epochs.past p in
            both_false old.host_data.past old.epochs.past (sym same.1 ∙ f.0)
            (sym (ap (λ (x : TapedEpochs E). x.past) e) ∙ f.1);
        kept = λ p.
            ap (λ (x : TapedEpochs E). parts new.host.steps.now.items x.kept.now.items new.host_data.kept.items) e
            ∙ ap (λ (x : KeptParts (Result Bool LimiterFailed)). parts new.host.steps.now.items old.epochs.kept.now.items x.items)
            same.0
            ∙ step_items old new body state event view after what g.0;
        moves = step_moves old new body state event view after what g.0 e;
        bodies = g.1;
        same_host = g.2;
        same_epochs = ap (λ (x : TapedEpochs E). x.epochs.ghost_name) e;
        same_steps = g.4;
        same_readings = ap (λ (x : TapedEpochs E). x.kept.ghost_name) e;
      }

  goes :
      (old new : Wrapped T H E) (q : Question) (a : Answer) → Moves (wrapped growths has readings steps) old q a new
      → Goes old q a new
  unfolding onto
  goes old new (Having body) (Has answer) h =
      nothing_goes old new (Having body) (Has answer) refl h.1 (h.0, refl)
  goes old new (Passing event) (Passed answer) h =
      nothing_goes old new (Passing event) (Passed answer) refl
      (h.2 ∙ ap (λ (x : Recorded T). record old { host_data = x }) h.1.1) (h.1.0, refl)
  goes old new Behaving (Behaved answer) h =
      nothing_goes old new Behaving (Behaved answer) refl
      (h.2 ∙ ap (λ (x : Recorded T). record old { host_data = x }) h.1.1) (h.1.0, refl)
  goes old new (Growing g) (Grown answer) h =
      subst (λ (w : Wrapped T H E). Goes old (Growing g) (Grown answer) w) (sym h.2) (growth_goes old h.0 g answer h.1)
  goes old new Reading (Read answer) h =
      subst (λ (w : Wrapped T H E). Goes old Reading (Read answer) w) (sym h.2) (reading_goes old h.0 answer h.1.0)
  goes old new (Stepping body state event view) (Stepped after what) h =
      step_goes old new body state event view after what h.0 h.1
  goes old new q a h = absurd h

  -- ---- a list of askings

  -- what is told of all of them, by a property of answers that each has
  pub record AllGo (P : Answer → Type 0) (old : Wrapped T H E) (heard : List Asking) (new : Wrapped T H E) : Type 0 where
    pub past : is_past new ≡ false → is_past old ≡ false
    pub kept : is_past new ≡ false → tape_kept new ≡ append (tape_kept old) (tape_of heard)
    pub chained :
        Chain (λ w q a v. P a × RecordMoves growths has readings steps old.host.bodies w q a v) (actual old) heard
        (actual new)
    pub bodies : new.host.bodies ≡ old.host.bodies
    pub same_host : new.host.host.ghost_name ≡ old.host.host.ghost_name
    pub same_epochs : new.epochs.epochs.ghost_name ≡ old.epochs.epochs.ghost_name
    pub same_steps : new.host.steps.ghost_name ≡ old.host.steps.ghost_name
    pub same_readings : new.epochs.kept.ghost_name ≡ old.epochs.kept.ghost_name

  pub all_go :
      (P : Answer → Type 0) (heard : List Asking) (old new : Wrapped T H E)
      → Chain (λ w q a v. P a × Moves (wrapped growths has readings steps) w q a v) old heard new
      → AllGo P old heard new
  all_go P [] old new h =
      subst (λ (w : Wrapped T H E). AllGo P old [] w) (sym h)
      (record {
        past = λ p. p;
        kept = λ p. sym (append_none (tape_kept old));
        chained = refl;
        bodies = refl;
        same_host = refl;
        same_epochs = refl;
        same_steps = refl;
        same_readings = refl;
      })
  all_go P (x ∷ heard) old new h =
      let mid : Wrapped T H E = h.0 in
      let g : Goes old x.0 x.1 mid = goes old mid x.0 x.1 h.1.1 in
      let r : AllGo P mid heard new = all_go P heard mid new h.2 in
      record {
        past = λ p. g.past (r.past p);
        kept = λ p.
            r.kept p ∙ ap (λ (s : TapeParts). append s (tape_of heard)) (g.kept (r.past p))
            ∙ append_onto x.0 x.1 (tape_kept old) (tape_of heard);
        chained = (
          actual mid,
          (h.1.0, g.moves),
          subst (λ (n : ℕ). Chain (λ w q a v. P a × RecordMoves growths has readings steps n w q a v) (actual mid) heard
              (actual new)) g.bodies r.chained,
        );
        bodies = r.bodies ∙ g.bodies;
        same_host = r.same_host ∙ g.same_host;
        same_epochs = r.same_epochs ∙ g.same_epochs;
        same_steps = r.same_steps ∙ g.same_steps;
        same_readings = r.same_readings ∙ g.same_readings;
      }
