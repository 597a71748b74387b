-- How a replay of a tape goes: it has one answer to each question; what is on its tape is what it gives; and one that ends
-- the same gave its whole tape.
use Rattle.std.proofs.Common.{◌≡◌, ℕ, zero, suc, List, [], ◌∷◌, Option, Some, None, refl, sym, ap, ◌∙◌, subst, true≢false}
use Rattle.std.specs.Prelude.{◌+◌, Bool, true, false, ◌&&◌, nat_eq, if◌then◌else◌, Result, Ok}
use Rattle.std.proofs.lemmas.Bool.{eq-eqb, eqb-true, false≢true}
use Rattle.std.proofs.lemmas.Option.{none-some}
use Rattle.wasm_types.specs.Each.{Each}
use Rattle.wasm_meter.specs.Growths.{Growth}
use Rattle.wasm_meter.specs.declared.faults.EpochFailed.{EpochFailed}
use Rattle.wasm_meter.specs.declared.faults.LimiterFailed.{LimiterFailed}
use Rattle.spec_execution.specs.Askings.{Question, Growing, Having, Reading, Stepping, Answer, Grown, Has, Read, Stepped, Asking, View, Chain}
use Rattle.spec_execution.specs.declared.answer.Answer.{Answer as Say}
use Rattle.spec_execution.specs.declared.answer.Answer.TheVariants as say
use Rattle.spec_execution.specs.declared.answer.Event.{Event}
use Rattle.spec_execution.specs.declared.answer.Event.TheVariants as event
use Rattle.law_replay.specs.Replays.{IsFunction, HasIs, HasBelow}
use Rattle.law_replay.specs.Tapes.{TapeParts, no_tape, taped, tape_with, tape_of, IsTapable}
use Rattle.law_replay.specs.declared.step.TapedStep.{TapedStep}
use Rattle.wasm_replay.specs.Played.{asked, asked_of, same_event, is_asked, difference}
use Rattle.wasm_replay.specs.Progress.{Progress, at_start, reading, growth, step, Gives, first_left, ending_by, ending}
use Rattle.wasm_replay.specs.declared.ends.Asked.{Asked}
use Rattle.wasm_replay.specs.declared.ends.Difference.{Difference}
use Rattle.wasm_replay.specs.declared.ends.Kind.TheVariants as kind
use Rattle.wasm_replay.specs.declared.ends.ReplayEnd.TheVariants as end

-- ---- one answer to each question

module _ (bodies : ℕ) (p u v : Progress) where
  having_one :
      (body : ℕ) (a : Bool) (b : Answer) → Gives bodies p (Having body) (Has a) u → Gives bodies p (Having body) b v
      → (Has a ≡ b) × (u ≡ v)
  having_one body a (Has b) h k = (ap Has (h.0 ∙ sym k.0), h.1 ∙ sym k.1)
  having_one body a b h k = absurd k

  reading_one :
      (a : Result ℕ EpochFailed) (b : Answer) → Gives bodies p Reading (Read a) u → Gives bodies p Reading b v
      → (Read a ≡ b) × (u ≡ v)
  reading_one a (Read b) h k =
      let e = sym h ∙ k in
      (ap (λ (x : Result ℕ EpochFailed × Progress). Read x.0) e, ap (λ (x : Result ℕ EpochFailed × Progress). x.1) e)
  reading_one a b h k = absurd k

  growth_one :
      (g : Growth) (a : Result Bool LimiterFailed) (b : Answer) → Gives bodies p (Growing g) (Grown a) u
      → Gives bodies p (Growing g) b v → (Grown a ≡ b) × (u ≡ v)
  growth_one g a (Grown b) h k =
      let e = sym h ∙ k in (
        ap (λ (x : Result Bool LimiterFailed × Progress). Grown x.0) e,
        ap (λ (x : Result Bool LimiterFailed × Progress). x.1) e,
      )
  growth_one g a b h k = absurd k

  step_one :
      (body state : ℕ) (e : Event) (view : View) (m : ℕ) (a : Say) (b : Answer)
      → Gives bodies p (Stepping body state e view) (Stepped m (Ok a)) u
      → Gives bodies p (Stepping body state e view) b v → (Stepped m (Ok a) ≡ b) × (u ≡ v)
  step_one body state e view m a (Stepped n (Ok b)) h k =
      let f = sym h ∙ k in (
        ap (λ (x : (Say × ℕ) × Progress). Stepped x.0.1 (Ok x.0.0)) f,
        ap (λ (x : (Say × ℕ) × Progress). x.1) f,
      )
  step_one body state e view m a b h k = absurd k

pub gives_one : (bodies : ℕ) → IsFunction (Gives bodies)
gives_one bodies p (Having body) (Has a) b u v h k = having_one bodies p u v body a b h k
gives_one bodies p (Stepping body state e view) (Stepped m (Ok a)) b u v h k =
    step_one bodies p u v body state e view m a b h k
gives_one bodies p Reading (Read a) b u v h k = reading_one bodies p u v a b h k
gives_one bodies p (Growing g) (Grown a) b u v h k = growth_one bodies p u v g a b h k
gives_one bodies p q a b u v h k = absurd h

-- whether there is a body goes by the number
gave_has : (bodies : ℕ) (p q : Progress) (question : Question) (a : Answer) → Gives bodies p question a q → HasIs bodies question a
gave_has bodies p q (Having body) (Has answer) h = h.0
gave_has bodies p q question a h = tt

pub gives_has :
    (bodies : ℕ) (heard : List Asking) (p q : Progress) → Chain (Gives bodies) p heard q → HasBelow bodies heard
gives_has bodies [] p q h n x e = absurd cc
gives_has bodies (y ∷ heard) p q h zero x e =
    let f : y ≡ x = cc in subst (λ (z : Asking). HasIs bodies z.0 z.1) f (gave_has bodies p h.0 y.0 y.1 h.1)
gives_has bodies (y ∷ heard) p q h (suc n) x e = gives_has bodies heard h.0 q h.2 n x e

-- ---- where nothing differs and nothing ended

pub record IsClean (p : Progress) : Type 0 where
  differs : p.differs ≡ None
  steps : p.steps_ended ≡ false
  readings : p.readings_ended ≡ false
  growths : p.growths_ended ≡ false

pub clean_start : (tape : TapeParts) → IsClean (at_start tape)
clean_start tape = record { differs = refl; steps = refl; readings = refl; growths = refl }

tape_parts : List TapedStep → List (Result ℕ EpochFailed) → List (Result Bool LimiterFailed) → TapeParts
tape_parts steps readings growths = record { steps = steps; readings = readings; growths = growths }

same_parts :
    (a b : TapeParts) → a.steps ≡ b.steps → a.readings ≡ b.readings → a.growths ≡ b.growths → a ≡ b
unfolding tape_parts
same_parts a b e f g =
    ap (λ (x : List TapedStep). tape_parts x a.readings a.growths) e
    ∙ ap (λ (x : List (Result ℕ EpochFailed)). tape_parts b.steps x a.growths) f
    ∙ ap (λ (x : List (Result Bool LimiterFailed)). tape_parts b.steps b.readings x) g

-- ---- a step is asked for as it was recorded

event_same : (e : Event) → same_event e e ≡ true
event_same event.Start = refl
event_same event.Replied = refl

is_itself : (q : Asked) → is_asked q q ≡ true
is_itself q =
    ap (λ (b : Bool). b && nat_eq q.state q.state && same_event q.event q.event) (eq-eqb q.body q.body refl)
    ∙ ap (λ (b : Bool). b && same_event q.event q.event) (eq-eqb q.state q.state refl) ∙ event_same q.event

both_true : (a b : Bool) → (a && b) ≡ true → (a ≡ true) × (b ≡ true)
both_true true b e = (refl, e)
both_true false b e = absurd (false≢true e)

event_is : (e f : Event) → same_event e f ≡ true → e ≡ f
event_is event.Start event.Start h = refl
event_is event.Replied event.Replied h = refl
event_is event.Start event.Replied h = absurd (false≢true h)
event_is event.Replied event.Start h = absurd (false≢true h)

step_is : (x : TapedStep) (q : Asked) → is_asked (asked_of x) q ≡ true → x ≡ taped q.body q.state q.event x.answer x.next
step_is x q h =
    let a = both_true (nat_eq x.body q.body && nat_eq x.state q.state) (same_event x.event q.event) h in
    let b = both_true (nat_eq x.body q.body) (nat_eq x.state q.state) a.0 in
    ap (λ (n : ℕ). taped n x.state x.event x.answer x.next) (eqb-true x.body q.body b.0)
    ∙ ap (λ (n : ℕ). taped q.body n x.event x.answer x.next) (eqb-true x.state q.state b.1)
    ∙ ap (λ (e : Event). taped q.body q.state e x.answer x.next) (event_is x.event q.event a.1)

-- ---- what is on a tape is given by a replay of it

record GivesOn (bodies : ℕ) (p : Progress) (q : Question) (a : Answer) (rest : TapeParts) : Type 0 where
  next : Progress
  gave : Gives bodies p q a next
  clean : IsClean next
  left : next.left ≡ rest

gives_on :
    (bodies : ℕ) (p : Progress) (q : Question) (a : Answer) (rest : TapeParts) → IsTapable bodies q a → IsClean p
    → p.left ≡ tape_with q a rest → GivesOn bodies p q a rest
gives_on bodies p (Having body) (Has answer) rest t c e = record { next = p; gave = (t, refl); clean = c; left = e }
gives_on bodies p Reading (Read answer) rest t c e = record {
  next = record p { left = record p.left { readings = rest.readings } };
  gave = ap (λ (x : TapeParts). reading x.readings p) e;
  clean = record { differs = c.differs; steps = c.steps; readings = c.readings; growths = c.growths };
  left = ap (λ (x : TapeParts). record x { readings = rest.readings }) e;
}
gives_on bodies p (Growing g) (Grown answer) rest t c e = record {
  next = record p { left = record p.left { growths = rest.growths } };
  gave = ap (λ (x : TapeParts). growth x.growths p) e;
  clean = record { differs = c.differs; steps = c.steps; readings = c.readings; growths = c.growths };
  left = ap (λ (x : TapeParts). record x { growths = rest.growths }) e;
}
gives_on bodies p (Stepping body state cause view) (Stepped after (Ok what)) rest t c e =
    let q : Asked = asked body state cause in
    let x : TapedStep = taped body state cause what after in
    let v : Progress = record p { left = record p.left { steps = rest.steps }; taken = p.taken + 1 } in
    record {
      next = v;
      gave =
          ap (λ (d : Option Difference). step d p.left.steps q p) c.differs
          ∙ ap (λ (y : TapeParts). step None y.steps q p) e
          ∙ ap (λ (b : Bool).
          if b then (let r : (Say × ℕ) × Progress = ((what, after), v) in r)
          else ((say.Fail, state), record p { differs = Some (difference p.taken q q) })) (is_itself q);
      clean = record { differs = c.differs; steps = c.steps; readings = c.readings; growths = c.growths };
      left = ap (λ (y : TapeParts). record y { steps = rest.steps }) e;
    }
gives_on bodies p q a rest t c e = absurd t

-- all of it
pub record GivesAll (bodies : ℕ) (p : Progress) (heard : List Asking) : Type 0 where
  pub last : Progress
  pub gave : Chain (Gives bodies) p heard last
  pub same : ending last ≡ end.Same

ends_same : (p : Progress) → IsClean p → p.left ≡ no_tape → ending p ≡ end.Same
ends_same p c e =
    ap (λ (d : Option Difference). ending_by d p) c.differs
    ∙ ap (λ (b : Bool). if b then end.Ended kind.Steps
    else (if p.readings_ended then end.Ended kind.Readings
    else (if p.growths_ended then end.Ended kind.Growths
    else first_left p.left.steps p.left.readings p.left.growths))) c.steps
    ∙ ap (λ (b : Bool). if b then end.Ended kind.Readings
    else (if p.growths_ended then end.Ended kind.Growths
    else first_left p.left.steps p.left.readings p.left.growths)) c.readings
    ∙ ap (λ (b : Bool). if b then end.Ended kind.Growths
    else first_left p.left.steps p.left.readings p.left.growths) c.growths
    ∙ ap (λ (t : TapeParts). first_left t.steps t.readings t.growths) e

pub gives_all :
    (bodies : ℕ) (heard : List Asking) (p : Progress)
    → Each heard (λ (asking : Asking). IsTapable bodies asking.0 asking.1) → IsClean p → p.left ≡ tape_of heard
    → GivesAll bodies p heard
gives_all bodies [] p t c e = record { last = p; gave = refl; same = ends_same p c e }
gives_all bodies (x ∷ heard) p t c e =
    let k : GivesOn bodies p x.0 x.1 (tape_of heard) = gives_on bodies p x.0 x.1 (tape_of heard) (t 0 x refl) c e in
    let r : GivesAll bodies k.next heard = gives_all bodies heard k.next (λ n y f. t (suc n) y f) k.clean k.left in
    record { last = r.last; gave = (k.next, k.gave, r.gave); same = r.same }

-- ---- a replay that ends the same gave its whole tape

-- what a move to where nothing differs and nothing ended tells
record Takes (p : Progress) (q : Question) (a : Answer) (v : Progress) : Type 0 where
  clean : IsClean p
  left : p.left ≡ tape_with q a v.left

module _ (p v : Progress) (c : IsClean v) where
  abbrev ReadingTakes : Result ℕ EpochFailed → Type 0
  ReadingTakes answer = Takes p Reading (Read answer) v

  reading_takes :
      (xs : List (Result ℕ EpochFailed)) (answer : Result ℕ EpochFailed) → p.left.readings ≡ xs
      → reading xs p ≡ (answer, v) → ReadingTakes answer
  reading_takes [] answer e f =
      absurd (true≢false (ap (λ (x : Result ℕ EpochFailed × Progress). x.1.readings_ended) f ∙ c.readings))
  reading_takes (x ∷ rest) answer e f =
      let g : record p { left = record p.left { readings = rest } } ≡ v =
      ap (λ (y : Result ℕ EpochFailed × Progress). y.1) f in
      record {
        clean = record {
          differs = ap (λ (y : Progress). y.differs) g ∙ c.differs;
          steps = ap (λ (y : Progress). y.steps_ended) g ∙ c.steps;
          readings = ap (λ (y : Progress). y.readings_ended) g ∙ c.readings;
          growths = ap (λ (y : Progress). y.growths_ended) g ∙ c.growths;
        };
        left =
            same_parts p.left (record v.left { readings = answer ∷ v.left.readings })
            (ap (λ (y : Progress). y.left.steps) g)
            (e ∙ ap (λ (y : Result ℕ EpochFailed × Progress). y.0 ∷ y.1.left.readings) f)
            (ap (λ (y : Progress). y.left.growths) g);
      }

  growth_takes :
      (g : Growth) (xs : List (Result Bool LimiterFailed)) (answer : Result Bool LimiterFailed) → p.left.growths ≡ xs
      → growth xs p ≡ (answer, v) → Takes p (Growing g) (Grown answer) v
  growth_takes g [] answer e f =
      absurd (true≢false (ap (λ (x : Result Bool LimiterFailed × Progress). x.1.growths_ended) f ∙ c.growths))
  growth_takes g (x ∷ rest) answer e f =
      let h : record p { left = record p.left { growths = rest } } ≡ v =
      ap (λ (y : Result Bool LimiterFailed × Progress). y.1) f in
      record {
        clean = record {
          differs = ap (λ (y : Progress). y.differs) h ∙ c.differs;
          steps = ap (λ (y : Progress). y.steps_ended) h ∙ c.steps;
          readings = ap (λ (y : Progress). y.readings_ended) h ∙ c.readings;
          growths = ap (λ (y : Progress). y.growths_ended) h ∙ c.growths;
        };
        left =
            same_parts p.left (record v.left { growths = answer ∷ v.left.growths })
            (ap (λ (y : Progress). y.left.steps) h) (ap (λ (y : Progress). y.left.readings) h)
            (e ∙ ap (λ (y : Result Bool LimiterFailed × Progress). y.0 ∷ y.1.left.growths) f);
      }

  module _ (body state : ℕ) (cause : Event) (view : View) (after : ℕ) (what : Say) where
    abbrev StepTakes : Type 0
    StepTakes = Takes p (Stepping body state cause view) (Stepped after (Ok what)) v

    step_takes_if :
        (b : Bool) (x : TapedStep) (rest : List TapedStep) → is_asked (asked_of x) (asked body state cause) ≡ b
        → p.differs ≡ None → p.left.steps ≡ x ∷ rest
        → (if b
        then (let r : (Say × ℕ) × Progress =
        ((x.answer, x.next), record p { left = record p.left { steps = rest }; taken = p.taken + 1 }) in r)
        else ((say.Fail, state), record p { differs = Some (difference p.taken (asked_of x) (asked body state cause)) }))
        ≡ ((what, after), v)
        → StepTakes
    step_takes_if false x rest i d e f =
        absurd (none-some _ (sym (ap (λ (y : (Say × ℕ) × Progress). y.1.differs) f ∙ c.differs)))
    step_takes_if true x rest i d e f =
        let g : record p { left = record p.left { steps = rest }; taken = p.taken + 1 } ≡ v =
        ap (λ (y : (Say × ℕ) × Progress). y.1) f in
        record {
          clean = record {
            differs = d;
            steps = ap (λ (y : Progress). y.steps_ended) g ∙ c.steps;
            readings = ap (λ (y : Progress). y.readings_ended) g ∙ c.readings;
            growths = ap (λ (y : Progress). y.growths_ended) g ∙ c.growths;
          };
          left =
              same_parts p.left (record v.left { steps = taped body state cause what after ∷ v.left.steps })
              (e ∙ ap (λ (y : TapedStep). y ∷ rest) (step_is x (asked body state cause) i)
              ∙ ap (λ (y : (Say × ℕ) × Progress). taped body state cause y.0.0 y.0.1 ∷ y.1.left.steps) f)
              (ap (λ (y : Progress). y.left.readings) g) (ap (λ (y : Progress). y.left.growths) g);
        }

    step_takes :
        (d : Option Difference) (xs : List TapedStep) → p.differs ≡ d → p.left.steps ≡ xs
        → step d xs (asked body state cause) p ≡ ((what, after), v) → StepTakes
    step_takes (Some d) xs e g f =
        absurd (none-some d (sym (ap (λ (y : (Say × ℕ) × Progress). y.1.differs) f ∙ c.differs) ∙ e))
    step_takes None [] e g f =
        absurd (true≢false (ap (λ (y : (Say × ℕ) × Progress). y.1.steps_ended) f ∙ c.steps))
    step_takes None (x ∷ rest) e g f =
        step_takes_if (is_asked (asked_of x) (asked body state cause)) x rest refl e g f

takes :
    (bodies : ℕ) (p v : Progress) (q : Question) (a : Answer) → IsClean v → Gives bodies p q a v → Takes p q a v
takes bodies p v (Having body) (Has answer) c h =
    record { clean = subst (λ (x : Progress). IsClean x) h.1 c; left = ap (λ (x : Progress). x.left) (sym h.1) }
takes bodies p v Reading (Read answer) c h = reading_takes p v c p.left.readings answer refl h
takes bodies p v (Growing g) (Grown answer) c h = growth_takes p v c g p.left.growths answer refl h
takes bodies p v (Stepping body state cause view) (Stepped after (Ok what)) c h =
    step_takes p v c body state cause view after what p.differs p.left.steps refl refl h
takes bodies p v q a c h = absurd h

record TakesAll (p : Progress) (heard : List Asking) : Type 0 where
  clean : IsClean p
  left : p.left ≡ tape_of heard

takes_all :
    (bodies : ℕ) (heard : List Asking) (p v : Progress) → IsClean v → v.left ≡ no_tape
    → Chain (Gives bodies) p heard v → TakesAll p heard
takes_all bodies [] p v c e h =
    record { clean = subst (λ (x : Progress). IsClean x) h c; left = ap (λ (x : Progress). x.left) (sym h) ∙ e }
takes_all bodies (x ∷ heard) p v c e h =
    let r : TakesAll h.0 heard = takes_all bodies heard h.0 v c e h.2 in
    let k : Takes p x.0 x.1 h.0 = takes bodies p h.0 x.0 x.1 r.clean h.1 in
    record { clean = k.clean; left = k.left ∙ ap (λ (t : TapeParts). tape_with x.0 x.1 t) r.left }

-- of the same end
is_empty_by :
    (steps : List TapedStep) (readings : List (Result ℕ EpochFailed)) (growths : List (Result Bool LimiterFailed))
    → first_left steps readings growths ≡ end.Same → tape_parts steps readings growths ≡ no_tape
unfolding tape_parts
is_empty_by (x ∷ steps) readings growths e = absurd cc
is_empty_by [] (x ∷ readings) growths e = absurd cc
is_empty_by [] [] (x ∷ growths) e = absurd cc
is_empty_by [] [] [] e = refl

record SameEnd (p : Progress) : Type 0 where
  clean : IsClean p
  left : p.left ≡ no_tape

ended_by :
    (p : Progress) (a b c : Bool) → p.differs ≡ None → p.steps_ended ≡ a → p.readings_ended ≡ b → p.growths_ended ≡ c
    → (if a then end.Ended kind.Steps
    else (if b then end.Ended kind.Readings
    else (if c then end.Ended kind.Growths else first_left p.left.steps p.left.readings p.left.growths))) ≡ end.Same
    → SameEnd p
unfolding tape_parts
ended_by p true b c d e f g h = absurd cc
ended_by p false true c d e f g h = absurd cc
ended_by p false false true d e f g h = absurd cc
ended_by p false false false d e f g h = record {
  clean = record { differs = d; steps = e; readings = f; growths = g };
  left = is_empty_by p.left.steps p.left.readings p.left.growths h;
}

differs_by : (p : Progress) (d : Option Difference) → p.differs ≡ d → ending_by d p ≡ end.Same → SameEnd p
differs_by p (Some d) e h = absurd cc
differs_by p None e h = ended_by p p.steps_ended p.readings_ended p.growths_ended e refl refl refl h

pub used_whole :
    (bodies : ℕ) (heard : List Asking) (p v : Progress) → Chain (Gives bodies) p heard v → ending v ≡ end.Same
    → p.left ≡ tape_of heard
used_whole bodies heard p v h e =
    let s : SameEnd v = differs_by v v.differs refl e in
    let r : TakesAll p heard = takes_all bodies heard p v s.clean s.left h in
    r.left
