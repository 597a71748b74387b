-- Code as a dialogue: its ends, its turns, and what it takes apart and names.
use Rattle.std.proofs.Common.{ℕ, suc, ◌<◌, ◌≤◌, List, [], ◌∷◌, Option, Some, None, refl, arith}
use Rattle.std.specs.Prelude.{take, drop, length, nat_le, slice_get}
use Rattle.wasm_types.specs.Memories.{Memory}
use Rattle.wasm_objects.specs.Tables.{Table}
use Rattle.wasm_objects.specs.declared.raw.RawRef.{RawRef}
use Rattle.wasm_objects.specs.declared.raw.RawVal.{RawVal}
use Rattle.spec_machine.specs.Changes.{charge}
use Rattle.spec_machine.specs.Machine.{Machine}
use Rattle.spec_execution.specs.Askings.{Answer, Asking}
use Rattle.spec_execution.specs.Operands as on
use Rattle.spec_execution.specs.Outcomes.{World, State, Outcome, Values, Branch, Return, Over, End, Stuck, spend}
use Rattle.law_answers.proofs.Dialogues.{Ending, at, state_at, Dialogue, Ends, Asks, Within, Reads, ended, over, one_of, on_turn_reads}

abbrev pub placed : Outcome → List Asking → List Answer → Outcome
placed (Values s) h l = Values (state_at s h l)
placed (Branch k s) h l = Branch k (state_at s h l)
placed (Return s) h l = Return (state_at s h l)
placed (Over e w) h l = Over e (at w h l)

-- code that goes on has fewer turns than n, an early end has fewer than m
module _ (n m : ℕ) where
  abbrev pub HasTurns : Outcome → Type 0
  HasTurns (Values s) = s.world.turns < n
  HasTurns (Branch l s) = s.world.turns < n
  HasTurns (Return s) = s.world.turns < n
  HasTurns (Over e w) = w.turns < m

  abbrev pub code : Ending
  code = record {
    Result = Outcome;
    early = Over;
    placed = placed;
    limit = m;
    Fits = HasTurns;
    early_placed = λ e w h l. refl;
    early_fits = λ e w few. few;
  }

  -- a function of the course that is a dialogue of code
  abbrev pub Runs : (List Asking → List Answer → Outcome) → Type 0
  Runs run = Reads code run

-- with more turns
module _ (n m n' m' : ℕ) (le : n ≤ n') (le' : m ≤ m') where
  more_turns : (o : Outcome) → HasTurns n m o → HasTurns n' m' o
  more_turns (Values s) b = omega (arith, le, b)
  more_turns (Branch l s) b = omega (arith, le, b)
  more_turns (Return s) b = omega (arith, le, b)
  more_turns (Over e w) b = omega (arith, le', b)

  more_within : (d : Dialogue Outcome) → Within (code n m) d → Within (code n' m') d
  more_within (Ends o) b = more_turns o b
  more_within (Asks q w go) b = λ a. more_within (go a) (b a)

  pub wider : (run : List Asking → List Answer → Outcome) → Runs n m run → Runs n' m' run
  wider run r = record { dialogue = r.dialogue; is = r.is; within = more_within r.dialogue r.within }

module _ (n m : ℕ) where
  pub ends_over : (e : End) (w : World) → w.turns < m → Runs n m (λ h l. Over e (at w h l))
  ends_over e w few = over (code n m) e w few

  pub values : (s : State) → s.world.turns < n → Runs n m (λ h l. Values (state_at s h l))
  values s few = ended (code n m) (Values s) few

  pub branch : (k : ℕ) (s : State) → s.world.turns < n → Runs n m (λ h l. Branch k (state_at s h l))
  branch k s few = ended (code n m) (Branch k s) few

  pub «return» : (s : State) → s.world.turns < n → Runs n m (λ h l. Return (state_at s h l))
  «return» s few = ended (code n m) (Return s) few

  -- the turn of an instruction
  pub spend_reads :
      (k amount : ℕ) (w : World) (go : World → Outcome) → w.turns < suc k → w.turns < m
      → ((v : World) → v.turns < k → Runs n m (λ h l. go (at v h l)))
      → Runs n m (λ h l. spend amount (at w h l) go)
  spend_reads k amount w go fewer few j =
      on_turn_reads (code n m) w (λ v. go (record v { machine = charge v.machine amount })) w.turns refl few
      (λ t e. j (record w { turns = t; machine = charge w.machine amount }) (omega (arith, fewer, e)))

  -- ---- what code names, and operands; what does not fit them is stuck

  module _ (w : World) (few : w.turns < m) where
    abbrev u : List Asking → List Answer → Outcome
    u h l = Over Stuck (at w h l)

    pub stuck : Runs n m u
    stuck = ends_over Stuck w few

    pub found :
        {A : Type 0} (o : Option A) (go : A → List Asking → List Answer → Outcome) → ((a : A) → Runs n m (go a))
        → Runs n m (λ h l. on.found (u h l) o (λ a. go a h l))
    found None go j = stuck
    found (Some a) go j = j a

    pub value :
        (vs : List RawVal) (go : RawVal → List RawVal → List Asking → List Answer → Outcome)
        → ((v : RawVal) (rest : List RawVal) → Runs n m (go v rest))
        → Runs n m (λ h l. on.on_value (u h l) vs (λ v rest. go v rest h l))
    value [] go j = stuck
    value (v ∷ rest) go j = j v rest

    pub i32 :
        (vs : List RawVal) (go : ℕ → List RawVal → List Asking → List Answer → Outcome)
        → ((x : ℕ) (rest : List RawVal) → Runs n m (go x rest))
        → Runs n m (λ h l. on.on_i32 (u h l) vs (λ x rest. go x rest h l))
    i32 vs go j =
        value vs (λ v rest h l. on.found (u h l) (on.integer_in 32 v) (λ x. go x rest h l))
        (λ v rest. found (on.integer_in 32 v) (λ x. go x rest) (λ x. j x rest))

    pub reference :
        (vs : List RawVal) (go : RawRef → List RawVal → List Asking → List Answer → Outcome)
        → ((x : RawRef) (rest : List RawVal) → Runs n m (go x rest))
        → Runs n m (λ h l. on.on_reference (u h l) vs (λ x rest. go x rest h l))
    reference vs go j =
        value vs (λ v rest h l. on.found (u h l) (on.reference_in v) (λ x. go x rest h l))
        (λ v rest. found (on.reference_in v) (λ x. go x rest) (λ x. j x rest))

    pub front :
        (k : ℕ) (vs : List RawVal) (go : List RawVal → List RawVal → List Asking → List Answer → Outcome)
        → ((own below : List RawVal) → Runs n m (go own below))
        → Runs n m (λ h l. on.on_front (u h l) k vs (λ own below. go own below h l))
    front k vs go j = one_of (code n m) (nat_le k (length vs)) (go (take k vs) (drop k vs)) u (j (take k vs) (drop k vs)) stuck

    pub function :
        (store : Machine) (instance k : ℕ) (go : ℕ → List Asking → List Answer → Outcome) → ((x : ℕ) → Runs n m (go x))
        → Runs n m (λ h l. on.on_function (u h l) store instance k (λ x. go x h l))
    function store instance k go j =
        found (slice_get store.instances instance) (λ i h l. on.found (u h l) (slice_get i.functions k) (λ x. go x h l))
        (λ i. found (slice_get i.functions k) go j)

    pub memory :
        (store : Machine) (instance k : ℕ) (go : ℕ → Memory → List Asking → List Answer → Outcome)
        → ((x : ℕ) (y : Memory) → Runs n m (go x y))
        → Runs n m (λ h l. on.on_memory (u h l) store instance k (λ x y. go x y h l))
    memory store instance k go j =
        found (slice_get store.instances instance)
        (λ i h l. on.found (u h l) (slice_get i.memories k) (λ x. on.found (u h l) (slice_get store.memories x) (λ y. go x y h l)))
        (λ i. found (slice_get i.memories k) (λ x h l. on.found (u h l) (slice_get store.memories x) (λ y. go x y h l))
        (λ x. found (slice_get store.memories x) (go x) (j x)))

    pub table :
        (store : Machine) (instance k : ℕ) (go : ℕ → Table → List Asking → List Answer → Outcome)
        → ((x : ℕ) (y : Table) → Runs n m (go x y))
        → Runs n m (λ h l. on.on_table (u h l) store instance k (λ x y. go x y h l))
    table store instance k go j =
        found (slice_get store.instances instance)
        (λ i h l. on.found (u h l) (slice_get i.tables k) (λ x. on.found (u h l) (slice_get store.tables x) (λ y. go x y h l)))
        (λ i. found (slice_get i.tables k) (λ x h l. on.found (u h l) (slice_get store.tables x) (λ y. go x y h l))
        (λ x. found (slice_get store.tables x) (go x) (j x)))
