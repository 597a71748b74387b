-- Two runs side by side: what is run from a state, and from the same state with other turns and answers.
use Rattle.std.proofs.Common.{◌≡◌, ℕ, zero, suc, ◌<◌, ◌≤◌, List, [], ◌∷◌, ◌++◌, Option, Some, None, refl, sym, ap, subst, arith}
use Rattle.std.specs.Prelude.{Bool, true, false, take, drop, length, nat_le, if◌then◌else◌, slice_get}
use Rattle.wasm_types.specs.Memories.{Memory}
use Rattle.wasm_objects.specs.Tables.{Table}
use Rattle.wasm_objects.specs.declared.raw.RawRef.{RawRef}
use Rattle.wasm_objects.specs.declared.raw.RawVal.{RawVal}
use Rattle.spec_machine.specs.Changes.{charge}
use Rattle.spec_machine.specs.Machine.{Machine}
use Rattle.spec_execution.specs.Askings.{Question, Answer, is_answer}
use Rattle.spec_execution.specs.Entering.{Code, Exec}
use Rattle.spec_execution.specs.Operands as on
use Rattle.spec_execution.specs.Outcomes.{World, State, Outcome, Values, Branch, Return, Over, End, Stopped, Waiting, Stuck, on_turn, turn, spend, hear, ask}

-- how the second run's turns and answers come from the first one's; whether an end of the first by want of a turn, or
-- of an answer, is to be one of the second; and what is to hold of each world on the way
pub record Way : Type 1 where
  pub turns : ℕ → ℕ
  pub answers : List Answer → List Answer
  pub stops : Type 0
  pub waits : Type 0
  pub Holds : World → Type 0
  pub a_turn : (t : ℕ) → turns (suc t) ≡ suc (turns t)
  pub no_turn : stops → turns zero ≡ zero
  pub an_answer : (a : Answer) (answers' : List Answer) → answers (a ∷ answers') ≡ a ∷ answers answers'
  pub no_answer : waits → answers [] ≡ []
  pub spent : (w : World) (t : ℕ) → w.turns ≡ suc t → Holds w → Holds (record w { turns = t })
  pub changed : (w : World) (m : Machine) → Holds w → Holds (record w { machine = m })
  pub heard :
      (w : World) (q : Question) (a : Answer) (rest : List Answer) → w.answers ≡ a ∷ rest → Holds w
      → Holds (record w { heard = w.heard ++ (q, a) ∷ []; answers = rest })

-- the same, with no more turns than so many in each world on the way
abbrev pub within : Way → ℕ → Way
within W k = record {
  turns = W.turns;
  answers = W.answers;
  stops = W.stops;
  waits = W.waits;
  Holds = λ w. W.Holds w × (w.turns ≤ k);
  a_turn = W.a_turn;
  no_turn = W.no_turn;
  an_answer = W.an_answer;
  no_answer = W.no_answer;
  spent = λ w t e h. (W.spent w t e h.0, omega (arith, e, h.1));
  changed = λ w m h. (W.changed w m h.0, h.1);
  heard = λ w q a rest e h. (W.heard w q a rest e h.0, h.1);
}

module _ (W : Way) where
  -- where the second run is
  abbrev pub shift : World → World
  shift w = record w { turns = W.turns w.turns; answers = W.answers w.answers }

  abbrev pub shifted : State → State
  shifted s = record s { world = shift s.world }

  -- of which ends of the first run something is said
  abbrev pub Told : End → Type 0
  Told Stopped = W.stops
  Told (Waiting q) = W.waits
  Told _ = Unit {0}

  -- a world on the way with fewer turns than so many
  pub record Below (n : ℕ) (w : World) : Type 0 where
    pub fewer : w.turns < n
    pub held : W.Holds w

  -- the second outcome is where the first one is; where code goes on, there are fewer turns than so many
  abbrev pub Matches : ℕ → Outcome → Outcome → Type 0
  Matches n (Values s) o = (o ≡ Values (shifted s)) × Below n s.world
  Matches n (Branch l s) o = (o ≡ Branch l (shifted s)) × Below n s.world
  Matches n (Return s) o = (o ≡ Return (shifted s)) × Below n s.world
  Matches n (Over e w) o = (Told e → o ≡ Over e (shift w)) × W.Holds w

  pub record Alike (n : ℕ) (o o' : Outcome) : Type 0 where
    pub by : Matches n o o'

  -- all code with fewer turns than so many is alike
  pub record Fits (n : ℕ) (f g : Exec) : Type 0 where
    pub by : (c : Code) (s : State) → Below n s.world → Alike n (f c s) (g c (shifted s))

  -- a world on the way has fewer turns than one more than it has
  pub here : (w : World) → W.Holds w → Below (suc w.turns) w
  here w h = record { fewer = omega arith; held = h }

  pub wider_to : (n m : ℕ) (w : World) → n ≤ m → Below n w → Below m w
  wider_to n m w le b = record { fewer = omega (arith, b.fewer, le); held = b.held }

  pub one_turn : (n : ℕ) (w : World) (t : ℕ) → w.turns ≡ suc t → Below (suc n) w → Below n (record w { turns = t })
  one_turn n w t e b = record { fewer = omega (arith, b.fewer); held = W.spent w t e b.held }

  pub below_changed : (n : ℕ) (w : World) (m : Machine) → Below n w → Below n (record w { machine = m })
  below_changed n w m b = record { fewer = b.fewer; held = W.changed w m b.held }

  pub looser_to : (n m : ℕ) (o o' : Outcome) → n ≤ m → Alike n o o' → Alike m o o'
  looser_to n m (Values s) o' le h = record { by = (h.by.0, wider_to n m s.world le h.by.1) }
  looser_to n m (Branch l s) o' le h = record { by = (h.by.0, wider_to n m s.world le h.by.1) }
  looser_to n m (Return s) o' le h = record { by = (h.by.0, wider_to n m s.world le h.by.1) }
  looser_to n m (Over e w) o' le h = record { by = h.by }

  -- ---- outcomes

  pub values : (n : ℕ) (s : State) → Below n s.world → Alike n (Values s) (Values (shifted s))
  values n s b = record { by = (refl, b) }

  pub branch : (n l : ℕ) (s : State) → Below n s.world → Alike n (Branch l s) (Branch l (shifted s))
  branch n l s b = record { by = (refl, b) }

  pub «return» : (n : ℕ) (s : State) → Below n s.world → Alike n (Return s) (Return (shifted s))
  «return» n s b = record { by = (refl, b) }

  pub over : (n : ℕ) (e : End) (w : World) → W.Holds w → Alike n (Over e w) (Over e (shift w))
  over n e w h = record { by = (λ _. refl, h) }

  pub either :
      (n : ℕ) (b : Bool) (x x' y y' : Outcome) → Alike n x x' → Alike n y y'
      → Alike n (if b then x else y) (if b then x' else y')
  either n true x x' y y' h j = h
  either n false x x' y y' h j = j

  -- ---- turns and questions, of anything that may end early

  -- a relation of results that holds of early ends
  pub record Ends {O : Type 0} (early : End → World → O) (R : O → O → Type 0) : Type 0 where
    pub by : (e : End) (w : World) (o' : O) → (Told e → o' ≡ early e (shift w)) → W.Holds w → R (early e w) o'

  -- of code it does
  pub code_ends : (n : ℕ) → Ends Over (Alike n)
  code_ends n = record { by = λ e w o' c h. record { by = (c, h) } }

  module _ {O : Type 0} {early : End → World → O} {R : O → O → Type 0} (ends : Ends early R) where
    -- where nothing more is done the second run is where the first one is
    pub ended : (e : End) (w : World) → W.Holds w → R (early e w) (early e (shift w))
    ended e w h = ends.by e w (early e (shift w)) (λ _. refl) h

    pub one_of : (b : Bool) (x x' y y' : O) → R x x' → R y y' → R (if b then x else y) (if b then x' else y')
    one_of true x x' y y' h j = h
    one_of false x x' y y' h j = j

    pub on_turn_alike :
        (w : World) (go go' : World → O) (k : ℕ) → w.turns ≡ k → W.Holds w
        → ((t : ℕ) → w.turns ≡ suc t → R (go (record w { turns = t })) (go' (shift (record w { turns = t }))))
        → R (on_turn early w go k) (on_turn early (shift w) go' (W.turns k))
    on_turn_alike w go go' zero e h j =
        ends.by Stopped w _ (λ c. ap (on_turn early (shift w) go') (W.no_turn c)) h
    on_turn_alike w go go' (suc t) e h j =
        subst (λ (k : ℕ). R (go (record w { turns = t })) (on_turn early (shift w) go' k)) (sym (W.a_turn t)) (j t e)

    pub hear_alike :
        (w : World) (q : Question) (go go' : Answer → World → O) (answers : List Answer)
        → w.answers ≡ answers → W.Holds w
        → ((a : Answer) (v : World) → v.turns ≡ w.turns → W.Holds v → R (go a v) (go' a (shift v)))
        → R (hear early w q go answers) (hear early (shift w) q go' (W.answers answers))
    hear_alike w q go go' [] e h j =
        ends.by (Waiting q) w _ (λ c. ap (hear early (shift w) q go') (W.no_answer c)) h
    hear_alike w q go go' (a ∷ rest) e h j =
        let v : World = record w { heard = w.heard ++ (q, a) ∷ []; answers = rest } in
        subst (λ (us : List Answer). R (hear early w q go (a ∷ rest)) (hear early (shift w) q go' us))
        (sym (W.an_answer a rest))
        (one_of (is_answer q a) _ _ _ _ (j a v refl (W.heard w q a rest e h)) (ended (Waiting q) w h))

    -- worlds with fewer turns than so many
    module _ (m : ℕ) where
      pub turn_alike :
          (w : World) (go go' : World → O) → Below m w → ((v : World) → Below m v → R (go v) (go' (shift v)))
          → R (turn early w go) (turn early (shift w) go')
      turn_alike w go go' b j =
          on_turn_alike w go go' w.turns refl b.held
          (λ t e. j _ (record { fewer = omega (arith, b.fewer); held = W.spent w t e b.held }))

      pub hearing :
          (w : World) (q : Question) (go go' : Answer → World → O) → Below m w
          → ((a : Answer) (v : World) → Below m v → R (go a v) (go' a (shift v)))
          → R (hear early w q go w.answers) (hear early (shift w) q go' (W.answers w.answers))
      hearing w q go go' b j =
          hear_alike w q go go' w.answers refl b.held
          (λ a v e h. j a v (record { fewer = omega (arith, b.fewer); held = h }))

      pub ask_alike :
          (w : World) (q : Question) (go go' : Answer → World → O) → Below m w
          → ((a : Answer) (v : World) → Below m v → R (go a v) (go' a (shift v)))
          → R (ask early w q go) (ask early (shift w) q go')
      ask_alike w q go go' b j =
          turn_alike w (λ v. hear early v q go v.answers) (λ v. hear early v q go' v.answers) b
          (λ v c. hearing v q go go' c j)

  -- the turn of an instruction
  pub spend_alike :
      (n m amount : ℕ) (w : World) (go go' : World → Outcome) → Below (suc m) w
      → ((v : World) → Below m v → Alike n (go v) (go' (shift v)))
      → Alike n (spend amount w go) (spend amount (shift w) go')
  spend_alike n m amount w go go' b j =
      on_turn_alike (code_ends n) w (λ v. go (record v { machine = charge v.machine amount }))
      (λ v. go' (record v { machine = charge v.machine amount })) w.turns refl b.held
      (λ t e. j _ (below_changed m (record w { turns = t }) (charge w.machine amount) (one_turn m w t e b)))

  -- ---- what code names, and operands; what does not fit them is stuck

  module _ (n : ℕ) (w : World) (h : W.Holds w) where
    abbrev u : Outcome
    u = Over Stuck w

    abbrev u' : Outcome
    u' = Over Stuck (shift w)

    pub found :
        {A : Type 0} (o : Option A) (go go' : A → Outcome) → ((a : A) → Alike n (go a) (go' a))
        → Alike n (on.found u o go) (on.found u' o go')
    found None go go' j = over n Stuck w h
    found (Some a) go go' j = j a

    pub value :
        (vs : List RawVal) (go go' : RawVal → List RawVal → Outcome)
        → ((v : RawVal) (rest : List RawVal) → Alike n (go v rest) (go' v rest))
        → Alike n (on.on_value u vs go) (on.on_value u' vs go')
    value [] go go' j = over n Stuck w h
    value (v ∷ rest) go go' j = j v rest

    pub i32 :
        (vs : List RawVal) (go go' : ℕ → List RawVal → Outcome)
        → ((x : ℕ) (rest : List RawVal) → Alike n (go x rest) (go' x rest))
        → Alike n (on.on_i32 u vs go) (on.on_i32 u' vs go')
    i32 vs go go' j = value vs _ _ (λ v rest. found (on.integer_in 32 v) _ _ (λ x. j x rest))

    pub reference :
        (vs : List RawVal) (go go' : RawRef → List RawVal → Outcome)
        → ((x : RawRef) (rest : List RawVal) → Alike n (go x rest) (go' x rest))
        → Alike n (on.on_reference u vs go) (on.on_reference u' vs go')
    reference vs go go' j = value vs _ _ (λ v rest. found (on.reference_in v) _ _ (λ x. j x rest))

    pub front :
        (k : ℕ) (vs : List RawVal) (go go' : List RawVal → List RawVal → Outcome)
        → ((front rest : List RawVal) → Alike n (go front rest) (go' front rest))
        → Alike n (on.on_front u k vs go) (on.on_front u' k vs go')
    front k vs go go' j =
        either n (nat_le k (length vs)) _ _ _ _ (j (take k vs) (drop k vs)) (over n Stuck w h)

    pub function :
        (m : Machine) (instance k : ℕ) (go go' : ℕ → Outcome) → ((x : ℕ) → Alike n (go x) (go' x))
        → Alike n (on.on_function u m instance k go) (on.on_function u' m instance k go')
    function m instance k go go' j =
        found (slice_get m.instances instance) _ _ (λ i. found (slice_get i.functions k) go go' j)

    pub memory :
        (m : Machine) (instance k : ℕ) (go go' : ℕ → Memory → Outcome)
        → ((x : ℕ) (y : Memory) → Alike n (go x y) (go' x y))
        → Alike n (on.on_memory u m instance k go) (on.on_memory u' m instance k go')
    memory m instance k go go' j =
        found (slice_get m.instances instance) _ _ (λ i. found (slice_get i.memories k) _ _ (λ x.
        found (slice_get m.memories x) (go x) (go' x) (j x)))

    pub table :
        (m : Machine) (instance k : ℕ) (go go' : ℕ → Table → Outcome)
        → ((x : ℕ) (y : Table) → Alike n (go x y) (go' x y))
        → Alike n (on.on_table u m instance k go) (on.on_table u' m instance k go')
    table m instance k go go' j =
        found (slice_get m.instances instance) _ _ (λ i. found (slice_get i.tables k) _ _ (λ x.
        found (slice_get m.tables x) (go x) (go' x) (j x)))
