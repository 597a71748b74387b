-- A tape as an outside: it has one answer to each question, and what was heard is played by the tape of it.
use Rattle.std.proofs.Common.{◌≡◌, ℕ, suc, List, [], ◌∷◌, Option, Some, None, refl, sym, ap, ◌∙◌, subst}
use Rattle.std.specs.Prelude.{Bool, false, Result, Ok, Err, slice_get}
use Rattle.std.proofs.lemmas.Bool.{false≢true}
use Rattle.std.proofs.lemmas.List.{append_cancel_left}
use Rattle.std.proofs.lemmas.Option.{same_Some}
use Rattle.wasm_types.specs.Each.{Each}
use Rattle.wasm_meter.specs.Growths.{Growth}
use Rattle.wasm_meter.specs.declared.faults.EpochFailed.{EpochFailed}
use Rattle.wasm_meter.specs.declared.faults.LimiterFailed.{LimiterFailed}
use Rattle.spec_machine.specs.Machine.{Machine}
use Rattle.spec_execution.specs.Askings.{answers_in, Question, Growing, Having, Passing, Reading, Behaving, Stepping, Answer, Grown, Has, Read, Stepped, Asking, View, Chain}
use Rattle.spec_execution.specs.declared.answer.Answer.{Answer as Say}
use Rattle.spec_execution.specs.declared.answer.Event.{Event}
use Rattle.wasm_syntax.specs.declared.declarations.ModuleDecl.{ModuleDecl}
use Rattle.spec_machine.specs.declared.command.Command.{Command}
use Rattle.spec_execution.specs.Runs.{State}
use Rattle.law_hooks.specs.Askers.{Flags, flags_of, MayHear}
use Rattle.law_replay.specs.Tapes.{TapeParts, no_tape, taped, tape_with, tape_of, Holds, Plays, IsTapable}
use Rattle.law_replay.specs.Replays.{RanBy, IsFunction, HasIs, HasBelow, IsOff, without_answers, LawOfTapes, LawOfTapable}
use Rattle.law_replay.specs.declared.step.TapedStep.{TapedStep}
use Rattle.law_replay.proofs.RunAskings.{AskedSince, run_asked}
use Rattle.law_replay.proofs.Replays.{equal_runs}
use Rattle.law_replay.proofs.UnusedAnswers.{used_alone}

-- ---- one answer to each question

tail : {A : Type 0} → List A → List A
tail [] = []
tail (x ∷ xs) = xs

first : {A : Type 0} → List A → Option A
first [] = None
first (x ∷ xs) = Some x

module _ (t u v : TapeParts) where
  step_same :
      (x y : TapedStep) → t ≡ record u { steps = x ∷ u.steps } → t ≡ record v { steps = y ∷ v.steps } → (x ≡ y) × (u ≡ v)
  unfolding tail first
  step_same x y e f = (
    same_Some x y (ap (λ (a : TapeParts). first a.steps) (sym e ∙ f)),
    ap (λ (a : TapeParts). record a { steps = tail a.steps }) (sym e ∙ f),
  )

  reading_same :
      (x y : Result ℕ EpochFailed) → t ≡ record u { readings = x ∷ u.readings }
      → t ≡ record v { readings = y ∷ v.readings } → (x ≡ y) × (u ≡ v)
  unfolding tail first
  reading_same x y e f = (
    same_Some x y (ap (λ (a : TapeParts). first a.readings) (sym e ∙ f)),
    ap (λ (a : TapeParts). record a { readings = tail a.readings }) (sym e ∙ f),
  )

  growth_same :
      (x y : Result Bool LimiterFailed) → t ≡ record u { growths = x ∷ u.growths }
      → t ≡ record v { growths = y ∷ v.growths } → (x ≡ y) × (u ≡ v)
  unfolding tail first
  growth_same x y e f = (
    same_Some x y (ap (λ (a : TapeParts). first a.growths) (sym e ∙ f)),
    ap (λ (a : TapeParts). record a { growths = tail a.growths }) (sym e ∙ f),
  )

module _ (bodies : ℕ) (t u v : TapeParts) where
  having_one :
      (body : ℕ) (a : Bool) (b : Answer) → Plays bodies t (Having body) (Has a) u → Plays bodies t (Having body) b v
      → (Has a ≡ b) × (u ≡ v)
  having_one body a (Has b) h k = (ap Has (h.0 ∙ sym k.0), h.1 ∙ sym k.1)
  having_one body a b h k = absurd k

  step_one :
      (body state : ℕ) (event : Event) (view : View) (m : ℕ) (a : Say) (b : Answer)
      → Plays bodies t (Stepping body state event view) (Stepped m (Ok a)) u
      → Plays bodies t (Stepping body state event view) b v → (Stepped m (Ok a) ≡ b) × (u ≡ v)
  step_one body state event view m a (Stepped n (Ok b)) h k =
      let e = step_same t u v (taped body state event a m) (taped body state event b n) h k in
      (ap (λ (x : TapedStep). Stepped x.next (Ok x.answer)) e.0, e.1)
  step_one body state event view m a b h k = absurd k

  reading_one :
      (a : Result ℕ EpochFailed) (b : Answer) → Plays bodies t Reading (Read a) u → Plays bodies t Reading b v
      → (Read a ≡ b) × (u ≡ v)
  reading_one a (Read b) h k = let e = reading_same t u v a b h k in (ap Read e.0, e.1)
  reading_one a b h k = absurd k

  growth_one :
      (g : Growth) (a : Result Bool LimiterFailed) (b : Answer) → Plays bodies t (Growing g) (Grown a) u
      → Plays bodies t (Growing g) b v → (Grown a ≡ b) × (u ≡ v)
  growth_one g a (Grown b) h k = let e = growth_same t u v a b h k in (ap Grown e.0, e.1)
  growth_one g a b h k = absurd k

pub plays_one : (bodies : ℕ) → IsFunction (Plays bodies)
plays_one bodies t (Having body) (Has a) b u v h k = having_one bodies t u v body a b h k
plays_one bodies t (Stepping body state event view) (Stepped m (Ok a)) b u v h k =
    step_one bodies t u v body state event view m a b h k
plays_one bodies t Reading (Read a) b u v h k = reading_one bodies t u v a b h k
plays_one bodies t (Growing g) (Grown a) b u v h k = growth_one bodies t u v g a b h k
plays_one bodies t q a b u v h k = absurd h

-- ---- what was heard is played by its tape

pub is_played :
    (bodies : ℕ) (q : Question) (a : Answer) (t : TapeParts) → IsTapable bodies q a → Plays bodies (tape_with q a t) q a t
is_played bodies (Having body) (Has answer) t h = (h, refl)
is_played bodies (Stepping body state event view) (Stepped after (Ok answer)) t h = refl
is_played bodies Reading (Read answer) t h = refl
is_played bodies (Growing g) (Grown answer) t h = refl
is_played bodies q a t h = absurd h

pub are_played :
    (bodies : ℕ) (heard : List Asking) → Each heard (λ (asking : Asking). IsTapable bodies asking.0 asking.1)
    → Chain (Plays bodies) (tape_of heard) heard no_tape
are_played bodies [] h = refl
are_played bodies (x ∷ heard) h =
    (tape_of heard, is_played bodies x.0 x.1 (tape_of heard) (h 0 x refl), are_played bodies heard (λ n y e. h (suc n) y e))

-- ---- what is asked of a store without a hook and a deadline behaviour

off : Flags
off = record { hooked = false; behaving = false }

is_off : (m : Machine) → IsOff m → flags_of m ≡ off
unfolding off
is_off m h =
    ap (λ (b : Bool). let f : Flags = record { hooked = b; behaving = m.is_behaving } in f) h.0
    ∙ ap (λ (b : Bool). let f : Flags = record { hooked = false; behaving = b } in f) h.1

is_tapable : (bodies : ℕ) (q : Question) (a : Answer) → MayHear off q a → HasIs bodies q a → IsTapable bodies q a
unfolding off
is_tapable bodies (Having body) (Has answer) m h = h
is_tapable bodies (Stepping body state event view) (Stepped after (Ok answer)) m h = tt
is_tapable bodies (Stepping body state event view) (Stepped after (Err no_memory)) m h = absurd m
is_tapable bodies Reading (Read answer) m h = tt
is_tapable bodies (Growing g) (Grown answer) m h = tt
is_tapable bodies (Passing event) a m h = absurd (false≢true m)
is_tapable bodies Behaving a m h = absurd (false≢true m)
is_tapable bodies q a m h = absurd (false≢true m)

-- of a run that used all of its answers
pub law_of_tapable :
    (bodies : ℕ) (modules : List ModuleDecl) (commands : List Command) (s : State) (heard : List Asking) (t : State)
    → IsOff s.machine → RanBy modules commands s heard t → HasBelow bodies heard
    → Each heard (λ (asking : Asking). IsTapable bodies asking.0 asking.1)
law_of_tapable bodies modules commands s heard t h u below n x e =
    let k : AskedSince (flags_of s.machine) s.heard t =
    run_asked modules commands (record s { answers = answers_in heard }) t u.ran in
    let same : k.more ≡ heard = append_cancel_left s.heard k.more heard (sym k.course ∙ u.course) in
    let may : MayHear (flags_of s.machine) x.0 x.1 =
    k.heard n x (ap (λ (xs : List Asking). slice_get xs n) same ∙ e) in
    is_tapable bodies x.0 x.1 (subst (λ (f : Flags). MayHear f x.0 x.1) (is_off s.machine h) may) (below n x e)

pub every_tapable : LawOfTapable
every_tapable bodies modules commands s answers heard t h r below =
    law_of_tapable bodies modules commands s heard (without_answers t) h (used_alone modules commands s answers heard t r) below

-- it is played by its tape
played :
    (bodies : ℕ) (modules : List ModuleDecl) (commands : List Command) (s : State) (tape : TapeParts)
    (heard : List Asking) (t : State)
    → IsOff s.machine → RanBy modules commands s heard t → HasBelow bodies heard → Holds tape heard
    → Chain (Plays bodies) tape heard no_tape
played bodies modules commands s tape heard t h r below holds =
    subst (λ (x : TapeParts). Chain (Plays bodies) x heard no_tape) (sym holds)
    (are_played bodies heard (law_of_tapable bodies modules commands s heard t h r below))

pub law_of_tapes : LawOfTapes
law_of_tapes bodies modules commands s tape answers answers' heard heard' t t' h u below holds u' below' holds' =
    let r : RanBy modules commands s heard (without_answers t) = used_alone modules commands s answers heard t u in
    let r' : RanBy modules commands s heard' (without_answers t') = used_alone modules commands s answers' heard' t' u' in
    let k = equal_runs (Plays bodies) (plays_one bodies) modules commands s heard heard' (without_answers t)
    (without_answers t') tape no_tape no_tape r r'
    (played bodies modules commands s tape heard (without_answers t) h r below holds)
    (played bodies modules commands s tape heard' (without_answers t') h r' below' holds') in
    (k.0, k.2)
