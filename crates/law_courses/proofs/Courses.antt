-- A run, and beside it the same run in another store: where the two stand, and what ends, turns, questions and operands
-- come to.
use Rattle.std.proofs.Common.{◌≡◌, ◌⊎◌, ℕ, zero, suc, ◌<◌, ◌≤◌, List, [], ◌∷◌, ◌++◌, Option, Some, None, refl, sym, subst, inl, inr, arith}
use Rattle.std.specs.Prelude.{Bool, true, false, take, drop, length, nat_le, if◌then◌else◌, slice_get}
use Rattle.std.proofs.lemmas.Option.{same_Some, none-some}
use Rattle.wasm_types.specs.Memories.{Memory}
use Rattle.wasm_objects.specs.Tables.{Table}
use Rattle.wasm_objects.specs.declared.raw.RawRef.{RawRef}
use Rattle.wasm_objects.specs.declared.raw.RawVal.{RawVal}
use Rattle.wasm_objects.specs.declared.raw.RawVal.TheVariants as w
use Rattle.spec_machine.specs.Changes.{charge}
use Rattle.spec_machine.specs.Machine.{Machine, InstanceParts}
use Rattle.law_store.proofs.Lists.{each_take, each_drop}
use Rattle.spec_execution.specs.Askings.{Question, Answer, Asking, is_answer}
use Rattle.spec_execution.specs.Operands as on
use Rattle.spec_execution.specs.Outcomes.{World, State, Outcome, Values, Branch, Return, Over, End, Stopped, Waiting, Stuck, on_turn, turn, spend, hear, ask}
use Rattle.law_courses.proofs.Bounds.{Bounds, reference, AreHeld, Turns}

-- ---- where the two runs stand

module _ (B : Bounds) where
  -- the same in the other store
  abbrev pub twin : World → World
  twin v = record v { machine = B.other v.machine }

  abbrev pub twin_state : State → State
  twin_state s = record s { world = twin s.world }

  -- a world on the way, with fewer turns than so many; and a state
  pub record Inside (v : World) : Type 0 where
    pub store : B.IsIn v.machine
    pub began : B.Began v.heard

  pub record Below (n : ℕ) (v : World) : Type 0 where
    pub fewer : v.turns < n
    pub held : Inside v

  pub record Holds (n : ℕ) (s : State) : Type 0 where
    pub world : Below n s.world
    pub locals : AreHeld B s.locals
    pub operands : AreHeld B s.operands

  -- the second outcome is the first one in the other store
  abbrev pub Matches : ℕ → Outcome → Outcome → Type 0
  Matches n (Values s) o = (o ≡ Values (twin_state s)) × Holds n s
  Matches n (Branch l s) o = (o ≡ Branch l (twin_state s)) × Holds n s
  Matches n (Return s) o = (o ≡ Return (twin_state s)) × Holds n s
  Matches n (Over e v) o = (o ≡ Over e (twin v)) × Inside v

  abbrev pub heard_of : Outcome → List Asking
  heard_of (Values s) = s.world.heard
  heard_of (Branch l s) = s.world.heard
  heard_of (Return s) = s.world.heard
  heard_of (Over e v) = v.heard

  -- or what was heard leads out of the way
  pub record Alike (n : ℕ) (o o' : Outcome) : Type 0 where
    pub by : Matches n o o' ⊎ B.Strays (heard_of o)

  pub wider : (n m : ℕ) (v : World) → n ≤ m → Below n v → Below m v
  wider n m v le b = record { fewer = omega (arith, b.fewer, le); held = b.held }

  pub wider_state : (n m : ℕ) (s : State) → n ≤ m → Holds n s → Holds m s
  wider_state n m s le h =
      record { world = wider n m s.world le h.world; locals = h.locals; operands = h.operands }

  looser_match : (n m : ℕ) (o o' : Outcome) → n ≤ m → Matches n o o' → Matches m o o'
  looser_match n m (Values s) o' le h = (h.0, wider_state n m s le h.1)
  looser_match n m (Branch l s) o' le h = (h.0, wider_state n m s le h.1)
  looser_match n m (Return s) o' le h = (h.0, wider_state n m s le h.1)
  looser_match n m (Over e v) o' le h = h

  pub looser : (n m : ℕ) (o o' : Outcome) → n ≤ m → Alike n o o' → Alike m o o'
  looser n m o o' le h =
      elim h.by [
        | inl k ↦ record { by = inl (looser_match n m o o' le k) }
        | inr k ↦ record { by = inr k }
      ]

  -- ---- outcomes

  pub values : (n : ℕ) (s : State) → Holds n s → Alike n (Values s) (Values (twin_state s))
  values n s h = record { by = inl (refl, h) }

  pub branch : (n l : ℕ) (s : State) → Holds n s → Alike n (Branch l s) (Branch l (twin_state s))
  branch n l s h = record { by = inl (refl, h) }

  pub «return» : (n : ℕ) (s : State) → Holds n s → Alike n (Return s) (Return (twin_state s))
  «return» n s h = record { by = inl (refl, h) }

  pub over : (n : ℕ) (e : End) (v : World) → Inside v → Alike n (Over e v) (Over e (twin v))
  over n e v h = record { by = inl (refl, h) }

  pub on_operands :
      (n : ℕ) (s : State) (vs : List RawVal) → Holds n s → AreHeld B vs → Holds n (record s { operands = vs })
  on_operands n s vs h k = record { world = h.world; locals = h.locals; operands = k }

  -- a relation of results that holds of early ends, also of those out of the way
  pub record Ends {O : Type 0} (early : End → World → O) (R : O → O → Type 0) : Type 0 where
    pub by : (e : End) (v : World) (o' : O) → o' ≡ early e (twin v) → Inside v → R (early e v) o'
    pub lost : (e : End) (v : World) (o' : O) → B.Strays v.heard → R (early e v) o'

  pub code_ends : (n : ℕ) → Ends Over (Alike n)
  code_ends n = record {
    by = λ e v o' p h. record { by = inl (p, h) };
    lost = λ e v o' h. record { by = inr h };
  }

  module _ (T : Turns B) where
    pub inside_turns : (v : World) (t : ℕ) → Inside v → Inside (record v { turns = t })
    inside_turns v t h = record { store = h.store; began = h.began }

    pub inside_in : (v : World) (m : Machine) → B.IsIn m → Inside v → Inside (record v { machine = m })
    inside_in v m k h = record { store = k; began = h.began }

    pub inside_heard :
        (v : World) (q : Question) (a : Answer) (rest : List Answer) → Inside v
        → Inside (record v { heard = v.heard ++ (q, a) ∷ []; answers = rest })
    inside_heard v q a rest h = record { store = h.store; began = T.goes_on v.heard (q, a) h.began }

    pub below_in : (n : ℕ) (v : World) (m : Machine) → B.IsIn m → Below n v → Below n (record v { machine = m })
    below_in n v m k b = record { fewer = b.fewer; held = inside_in v m k b.held }

    pub here : (v : World) → Inside v → Below (suc v.turns) v
    here v h = record { fewer = omega arith; held = h }

    pub one_turn : (n : ℕ) (v : World) (t : ℕ) → v.turns ≡ suc t → Below (suc n) v → Below n (record v { turns = t })
    one_turn n v t e b = record { fewer = omega (arith, b.fewer); held = inside_turns v t b.held }

    -- ---- turns and questions, of anything that may end early

    module _ {O : Type 0} {early : End → World → O} {R : O → O → Type 0} (ends : Ends early R) where
      pub ended : (e : End) (v : World) → Inside v → R (early e v) (early e (twin v))
      ended e v h = ends.by e v (early e (twin v)) refl h

      pub one_of : (b : Bool) (x x' y y' : O) → R x x' → R y y' → R (if b then x else y) (if b then x' else y')
      one_of true x x' y y' h j = h
      one_of false x x' y y' h j = j

      -- by a test that is the same in both stores
      pub one_by :
          (b b' : Bool) (x x' y y' : O) → b' ≡ b → R x x' → R y y' → R (if b then x else y) (if b' then x' else y')
      one_by b b' x x' y y' e h j =
          subst (λ c. R (if b then x else y) (if c then x' else y')) (sym e) (one_of b x x' y y' h j)

      on_turn_alike :
          (v : World) (go go' : World → O) (k : ℕ) → v.turns ≡ k → Inside v
          → ((t : ℕ) → v.turns ≡ suc t → R (go (record v { turns = t })) (go' (twin (record v { turns = t }))))
          → R (on_turn early v go k) (on_turn early (twin v) go' k)
      on_turn_alike v go go' zero e h j = ended Stopped v h
      on_turn_alike v go go' (suc t) e h j = j t e

      pub hear_alike :
          (v : World) (q : Question) (go go' : Answer → World → O) (answers : List Answer) → Inside v
          → ((a : Answer) (rest : List Answer)
          → let u = record v { heard = v.heard ++ (q, a) ∷ []; answers = rest } in R (go a u) (go' a (twin u)))
          → R (hear early v q go answers) (hear early (twin v) q go' answers)
      hear_alike v q go go' [] h j = ended (Waiting q) v h
      hear_alike v q go go' (a ∷ rest) h j = one_of (is_answer q a) _ _ _ _ (j a rest) (ended (Waiting q) v h)

      -- worlds with fewer turns than so many
      module _ (m : ℕ) where
        pub turn_alike :
            (v : World) (go go' : World → O) → Below m v → ((u : World) → Below m u → R (go u) (go' (twin u)))
            → R (turn early v go) (turn early (twin v) go')
        turn_alike v go go' b j =
            on_turn_alike v go go' v.turns refl b.held
            (λ t e. j _ (record { fewer = omega (arith, b.fewer); held = inside_turns v t b.held }))

        pub hearing :
            (v : World) (q : Question) (go go' : Answer → World → O) → Below m v
            → ((a : Answer) (u : World) → Below m u → R (go a u) (go' a (twin u)))
            → R (hear early v q go v.answers) (hear early (twin v) q go' v.answers)
        hearing v q go go' b j =
            hear_alike v q go go' v.answers b.held
            (λ a rest. j a _ (record { fewer = b.fewer; held = inside_heard v q a rest b.held }))

        pub ask_alike :
            (v : World) (q : Question) (go go' : Answer → World → O) → Below m v
            → ((a : Answer) (u : World) → Below m u → R (go a u) (go' a (twin u)))
            → R (ask early v q go) (ask early (twin v) q go')
        ask_alike v q go go' b j =
            turn_alike v (λ u. hear early u q go u.answers) (λ u. hear early u q go' u.answers) b
            (λ u c. hearing u q go go' c j)

    -- the turn of an instruction
    pub spend_alike :
        (n m amount : ℕ) (v : World) (go go' : World → Outcome) → Below (suc m) v
        → ((u : World) → Below m u → Alike n (go u) (go' (twin u)))
        → Alike n (spend amount v go) (spend amount (twin v) go')
    spend_alike n m amount v go go' b j =
        on_turn_alike (code_ends n) v (λ u. go (record u { machine = charge u.machine amount }))
        (λ u. go' (record u { machine = charge u.machine amount })) v.turns refl b.held
        (λ t e.
        let c = T.charges v.machine amount b.held.store in
        subst (λ (x : Machine). Alike n (go (record v { turns = t; machine = charge v.machine amount }))
        (go' (record v { turns = t; machine = x }))) (sym c.1)
        (j (record v { turns = t; machine = charge v.machine amount })
        (below_in m (record v { turns = t }) (charge v.machine amount) c.0 (one_turn m v t e b))))

    -- ---- what code names, and operands; what does not fit them is stuck

    module _ (n : ℕ) (v : World) (h : Inside v) where
      abbrev u : Outcome
      u = Over Stuck v

      abbrev u' : Outcome
      u' = Over Stuck (twin v)

      pub found :
          {A : Type 0} (o : Option A) (go go' : A → Outcome) → ((a : A) → o ≡ Some a → Alike n (go a) (go' a))
          → Alike n (on.found u o go) (on.found u' o go')
      found None go go' j = over n Stuck v h
      found (Some a) go go' j = j a refl

      pub found_in :
          {A : Type 0} (o o' : Option A) (go go' : A → Outcome) → o' ≡ o
          → ((a : A) → o ≡ Some a → Alike n (go a) (go' a)) → Alike n (on.found u o go) (on.found u' o' go')
      found_in o o' go go' e j =
          subst (λ x. Alike n (on.found u o go) (on.found u' x go')) (sym e) (found o go go' j)

      pub value :
          (vs : List RawVal) (go go' : RawVal → List RawVal → Outcome) → AreHeld B vs
          → ((x : RawVal) (rest : List RawVal) → B.IsHeld x → AreHeld B rest → Alike n (go x rest) (go' x rest))
          → Alike n (on.on_value u vs go) (on.on_value u' vs go')
      value [] go go' k j = over n Stuck v h
      value (x ∷ rest) go go' k j = j x rest (k 0 x refl) (λ p y e. k (suc p) y e)

      pub i32 :
          (vs : List RawVal) (go go' : ℕ → List RawVal → Outcome) → AreHeld B vs
          → ((x : ℕ) (rest : List RawVal) → AreHeld B rest → Alike n (go x rest) (go' x rest))
          → Alike n (on.on_i32 u vs go) (on.on_i32 u' vs go')
      i32 vs go go' k j =
          value vs _ _ k (λ x rest hx hr. found (on.integer_in 32 x) _ _ (λ y e. j y rest hr))

      pub reference_in :
          (vs : List RawVal) (go go' : RawRef → List RawVal → Outcome) → AreHeld B vs
          → ((x : RawRef) (rest : List RawVal) → B.IsHeld (reference x) → AreHeld B rest → Alike n (go x rest)
          (go' x rest))
          → Alike n (on.on_reference u vs go) (on.on_reference u' vs go')
      reference_in vs go go' k j =
          value vs _ _ k (λ x rest hx hr. found (on.reference_in x) _ _ (λ y e. j y rest (held_reference x y e hx) hr))
        where
          held_reference : (x : RawVal) (y : RawRef) → on.reference_in x ≡ Some y → B.IsHeld x → B.IsHeld (reference y)
          held_reference (w.Reference z) y e hx = subst (λ a. B.IsHeld (reference a)) (same_Some z y e) hx
          held_reference x y e hx = absurd (none-some y e)

      pub front :
          (k : ℕ) (vs : List RawVal) (go go' : List RawVal → List RawVal → Outcome) → AreHeld B vs
          → ((own below : List RawVal) → AreHeld B own → AreHeld B below → Alike n (go own below) (go' own below))
          → Alike n (on.on_front u k vs go) (on.on_front u' k vs go')
      front k vs go go' a j =
          one_of (code_ends n) (nat_le k (length vs)) _ _ _ _
          (j (take k vs) (drop k vs) (each_take B.IsHeld k vs a) (each_drop B.IsHeld k vs a)) (over n Stuck v h)

      module _ (instance : ℕ) (home : B.IsHome instance) where
        pub function :
            (k : ℕ) (go go' : ℕ → Outcome) → ((f : ℕ) → B.IsCallee f → Alike n (go f) (go' f))
            → Alike n (on.on_function u v.machine instance k go) (on.on_function u' (B.other v.machine) instance k go')
        function k go go' j =
            found_in (slice_get v.machine.instances instance) _ _ _ (T.instance_is v.machine instance h.store home)
            (λ i e.
            found (slice_get i.functions k) go go'
            (λ f e'. j f (T.function_named v.machine instance k f i h.store home e e')))

        pub memory :
            (k : ℕ) (go go' : ℕ → Memory → Outcome)
            → ((i : InstanceParts) (x : ℕ) (y : Memory) → slice_get v.machine.instances instance ≡ Some i
            → slice_get i.memories k ≡ Some x → slice_get v.machine.memories x ≡ Some y → Alike n (go x y) (go' x y))
            → Alike n (on.on_memory u v.machine instance k go) (on.on_memory u' (B.other v.machine) instance k go')
        memory k go go' j =
            found_in (slice_get v.machine.instances instance) _ _ _ (T.instance_is v.machine instance h.store home)
            (λ i e. found (slice_get i.memories k) _ _ (λ x e'.
            found_in (slice_get v.machine.memories x) _ (go x) (go' x)
            (T.memory_is v.machine instance k x i h.store home e e') (λ y e''. j i x y e e' e'')))

        pub table :
            (k : ℕ) (go go' : ℕ → Table → Outcome)
            → ((i : InstanceParts) (x : ℕ) (y : Table) → slice_get v.machine.instances instance ≡ Some i
            → slice_get i.tables k ≡ Some x → slice_get v.machine.tables x ≡ Some y → Alike n (go x y) (go' x y))
            → Alike n (on.on_table u v.machine instance k go) (on.on_table u' (B.other v.machine) instance k go')
        table k go go' j =
            found_in (slice_get v.machine.instances instance) _ _ _ (T.instance_is v.machine instance h.store home)
            (λ i e. found (slice_get i.tables k) _ _ (λ x e'.
            found_in (slice_get v.machine.tables x) _ (go x) (go' x)
            (T.table_is v.machine instance k x i h.store home e e') (λ y e''. j i x y e e' e'')))
