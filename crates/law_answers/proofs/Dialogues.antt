-- A run as a dialogue: the questions that it asks one after the other, each of which depends on the answers before it alone.
use Rattle.std.proofs.Common.{◌≡◌, ℕ, zero, suc, ◌<◌, List, [], ◌∷◌, ◌++◌, refl, sym, ap, ◌∙◌, arith}
use Rattle.std.specs.Prelude.{Bool, true, false, if◌then◌else◌}
use Rattle.spec_execution.specs.Askings.{Question, Answer, Asking, is_answer}
use Rattle.spec_execution.specs.Outcomes.{World, State, End, Stopped, Waiting, on_turn, turn, hear, ask}

-- a world, a state at this place of the course: with this heard, and these answers left
abbrev pub at : World → List Asking → List Answer → World
at w heard answers = record w { heard = heard; answers = answers }

abbrev pub state_at : State → List Asking → List Answer → State
state_at s heard answers = record s { world = at s.world heard answers }

-- what may end early: with what is heard and what is left at a place of the course, below how many turns an early end is,
-- and which results fit
pub record Ending : Type 1 where
  pub Result : Type 0
  pub early : End → World → Result
  pub placed : Result → List Asking → List Answer → Result
  pub limit : ℕ
  pub Fits : Result → Type 0
  pub early_placed : (e : End) (w : World) (h : List Asking) (l : List Answer) → placed (early e w) h l ≡ early e (at w h l)
  pub early_fits : (e : End) (w : World) → w.turns < limit → Fits (early e w)

-- it ends; or it asks, in this world, and goes on by the answer
pub data Dialogue (O : Type 0) : Type 0 where
  Ends : O → Dialogue O
  Asks : Question → World → (Answer → Dialogue O) → Dialogue O

module _ (E : Ending) where
  -- what a dialogue comes to, with answers
  abbrev pub held : Dialogue E.Result → List Asking → List Answer → E.Result
  held (Ends o) h l = E.placed o h l
  held (Asks q w go) h [] = E.early (Waiting q) (at w h [])
  held (Asks q w go) h (a ∷ l) =
      if is_answer q a then held (go a) (h ++ (q, a) ∷ []) l else E.early (Waiting q) (at w h (a ∷ l))

  -- each of its results fits
  abbrev pub Within : Dialogue E.Result → Type 0
  Within (Ends o) = E.Fits o
  Within (Asks q w go) = (a : Answer) → Within (go a)

  -- a function of the course that is a dialogue
  pub record Reads (run : List Asking → List Answer → E.Result) : Type 0 where
    pub dialogue : Dialogue E.Result
    pub is : (h : List Asking) (l : List Answer) → run h l ≡ held dialogue h l
    pub within : Within dialogue

  -- ---- ends, tests and turns

  pub ended : (o : E.Result) → E.Fits o → Reads (λ h l. E.placed o h l)
  ended o few = record { dialogue = Ends o; is = λ h l. refl; within = few }

  pub over : (e : End) (w : World) → w.turns < E.limit → Reads (λ h l. E.early e (at w h l))
  over e w few = record {
    dialogue = Ends (E.early e w);
    is = λ h l. sym (E.early_placed e w h l);
    within = E.early_fits e w few;
  }

  pub one_of :
      (b : Bool) (f g : List Asking → List Answer → E.Result) → Reads f → Reads g
      → Reads (λ h l. if b then f h l else g h l)
  one_of true f g r s = r
  one_of false f g r s = s

  pub on_turn_reads :
      (w : World) (go : World → E.Result) (k : ℕ) → w.turns ≡ k → w.turns < E.limit
      → ((t : ℕ) → w.turns ≡ suc t → Reads (λ h l. go (at (record w { turns = t }) h l)))
      → Reads (λ h l. on_turn E.early (at w h l) go k)
  on_turn_reads w go zero e few j = over Stopped w few
  on_turn_reads w go (suc t) e few j = j t e

  -- ---- questions

  same_if : {O : Type 0} (b : Bool) (x x' y y' : O) → x ≡ x' → y ≡ y' → (if b then x else y) ≡ (if b then x' else y')
  same_if true x x' y y' e f = e
  same_if false x x' y y' e f = f

  pub hear_reads :
      (w : World) (q : Question) (go : Answer → World → E.Result)
      → ((a : Answer) → Reads (λ h l. go a (at w h l)))
      → Reads (λ h l. hear E.early (at w h l) q go l)
  hear_reads w q go j = record {
    dialogue = Asks q w (λ a. (j a).dialogue);
    is = same;
    within = λ a. (j a).within;
  }
    where
      same : (h : List Asking) (l : List Answer)
          → hear E.early (at w h l) q go l ≡ held (Asks q w (λ a. (j a).dialogue)) h l
      same h [] = refl
      same h (a ∷ l) = same_if (is_answer q a) _ _ _ _ ((j a).is (h ++ (q, a) ∷ []) l) refl

  pub turn_reads :
      (m : ℕ) (w : World) (go : World → E.Result) → w.turns < E.limit → w.turns < m
      → ((v : World) → v.turns < E.limit → v.turns < m → Reads (λ h l. go (at v h l)))
      → Reads (λ h l. turn E.early (at w h l) go)
  turn_reads m w go few fewer j =
      on_turn_reads w go w.turns refl few
      (λ t e. j (record w { turns = t }) (omega (arith, few, e)) (omega (arith, fewer, e)))

  pub ask_reads :
      (m : ℕ) (w : World) (q : Question) (go : Answer → World → E.Result) → w.turns < E.limit → w.turns < m
      → ((a : Answer) (v : World) → v.turns < E.limit → v.turns < m → Reads (λ h l. go a (at v h l)))
      → Reads (λ h l. ask E.early (at w h l) q go)
  ask_reads m w q go few fewer j =
      turn_reads m w (λ v. hear E.early v q go v.answers) few fewer
      (λ v c d. hear_reads v q go (λ a. j a v c d))

-- ---- what follows what was come to

module _ (E G : Ending) (next : E.Result → G.Result)
    (strict : (q : Question) (w : World) → next (E.early (Waiting q) w) ≡ G.early (Waiting q) w)
    (ends : (o : E.Result) → E.Fits o → Reads G (λ h l. next (E.placed o h l))) where
  followed : (d : Dialogue E.Result) → Within E d → Dialogue G.Result
  followed (Ends o) b = (ends o b).dialogue
  followed (Asks q w go) b = Asks q w (λ a. followed (go a) (b a))

  followed_within : (d : Dialogue E.Result) (b : Within E d) → Within G (followed d b)
  unfolding followed
  followed_within (Ends o) b = (ends o b).within
  followed_within (Asks q w go) b = λ a. followed_within (go a) (b a)

  next_if :
      (b : Bool) (x y : E.Result) (x' y' : G.Result) → next x ≡ x' → next y ≡ y'
      → next (if b then x else y) ≡ (if b then x' else y')
  next_if true x y x' y' e f = e
  next_if false x y x' y' e f = f

  followed_is : (d : Dialogue E.Result) (b : Within E d) (h : List Asking) (l : List Answer)
      → next (held E d h l) ≡ held G (followed d b) h l
  unfolding followed
  followed_is (Ends o) b h l = (ends o b).is h l
  followed_is (Asks q w go) b h [] = strict q (at w h [])
  followed_is (Asks q w go) b h (a ∷ l) =
      next_if (is_answer q a) _ _ _ _ (followed_is (go a) (b a) (h ++ (q, a) ∷ []) l) (strict q (at w h (a ∷ l)))

  pub behind : (run : List Asking → List Answer → E.Result) → Reads E run → Reads G (λ h l. next (run h l))
  behind run r = record {
    dialogue = followed r.dialogue r.within;
    is = λ h l. ap next (r.is h l) ∙ followed_is r.dialogue r.within h l;
    within = followed_within r.dialogue r.within;
  }
