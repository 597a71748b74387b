-- The counts of an instantiation and the turn that it takes: the instances of the store stay as they are, and its
-- questions change nothing in it.
use Rattle.std.proofs.Common.{◌≡◌, ℕ, zero, suc, ◌+◌, Bool, true, false, if◌then◌else◌, List, [], ◌∷◌, length, refl, sym, ap, subst}
use Rattle.std.specs.Prelude.{⊤, nat_le}
use Rattle.wasm_types.specs.declared.plain.Resource.TheVariants as resource
use Rattle.wasm_syntax.specs.declared.declarations.ModuleDecl.{ModuleDecl}
use Rattle.spec_machine.specs.Changes.{raise_instances, raise_memories, raise_tables}
use Rattle.spec_machine.specs.Growth.{Decision, Granted, Plan, Rule, Grows, Fails, Asks, plan_rule}
use Rattle.spec_machine.specs.Machine.{Machine, Numbers}
use Rattle.spec_machine.specs.WellFormed.{IsWellFormed}
use Rattle.spec_execution.specs.Instantiation.{Counted, Within, Past, count_tables, count_memories, count_instance, counted}
use Rattle.spec_execution.specs.Outcomes.{World, Outcome, Over, End, Waiting, on_turn, turn, hear}
use Rattle.law_store.specs.Granted.{IsGranted}
use Rattle.law_code.specs.Good.{IsGoodWorld, IsGoodEnd}
use Rattle.law_code.proofs.Changes.{IsSafeChange, safe_own, safe_on, set_counts_safe}
use Rattle.law_code.proofs.Checks.{decides}
use Rattle.law_code.proofs.Worlds.{IsNext, machine_next, turns, heard}
use Rattle.spec_execution.specs.Askings.{Question, Growing, Answer, Grown, is_answer}
use Rattle.spec_execution.specs.Checks.{by_answer, by_rule, decide}

-- the store has other counts, and the instances that it had
pub record IsRaised (m after : Machine) : Type 0 where
  pub safe : IsSafeChange m after
  pub instances : after.instances ≡ m.instances

-- whatever the counts come to, the store changes in them alone
abbrev pub IsCounted : Machine → Counted → Type 0
IsCounted m (Within after) = IsRaised m after
IsCounted m (Past which after) = IsRaised m after

if_counted : (m : Machine) (b : Bool) (x y : Counted) → IsCounted m x → IsCounted m y →
    IsCounted m (if b then x else y)
if_counted m true x y h k = h
if_counted m false x y h k = k

module _ (base : Machine) where
  raised : (m : Machine) (counts : Numbers) → IsRaised base m → IsRaised base (record m { counts = counts })
  raised m counts s = record {
    safe = safe_on base m (record m { counts = counts }) s.safe (set_counts_safe m s.safe.well counts);
    instances = s.instances;
  }

  tables_counted : (m : Machine) (n : ℕ) → IsRaised base m → IsCounted base (count_tables n m)
  tables_counted m n s =
      if_counted base (nat_le (m.counts.tables + n) m.limits.tables) (Within (raise_tables m n)) (Past resource.Table m)
      (raised m (raise_tables m n).counts s) s

  memories_counted : (m : Machine) (n : ℕ) (go : Machine → Counted) → IsRaised base m →
      ((after : Machine) → IsRaised base after → IsCounted base (go after)) →
      IsCounted base (count_memories n m go)
  memories_counted m n go s k =
      if_counted base (nat_le (m.counts.memories + n) m.limits.memories) (go (raise_memories m n))
      (Past resource.Memory m) (k (raise_memories m n) (raised m (raise_memories m n).counts s)) s

  instance_counted : (m : Machine) (go : Machine → Counted) → IsRaised base m →
      ((after : Machine) → IsRaised base after → IsCounted base (go after)) →
      IsCounted base (count_instance m go)
  instance_counted m go s k =
      if_counted base (nat_le (suc m.counts.instances) m.limits.instances) (go (raise_instances m))
      (Past resource.Instance m) (k (raise_instances m) (raised m (raise_instances m).counts s)) s

pub all_counted : (m : Machine) (d : ModuleDecl) → IsWellFormed m → IsCounted m (counted m d)
all_counted m d s =
    instance_counted m m (λ a. count_memories (length d.memories) a (λ b. count_tables (length d.tables) b))
    (record { safe = safe_own m s; instances = refl }) (λ a h.
    memories_counted m a (length d.memories) (λ b. count_tables (length d.tables) b) h
    (λ b k. tables_counted m b (length d.tables) k))

-- ---- what goes on in the same store

module _ (w : World) where
  -- behind a turn
  turn_same : (go : World → Outcome) (n : ℕ) →
      on_turn Over w go n ≡ on_turn Over w (λ v. go (record v { machine = w.machine })) n
  turn_same go zero = refl
  turn_same go (suc n) = refl

  -- behind a growth that is decided, of which nothing takes place yet
  module _ (p : Plan ⊤) (go : Decision → World → Outcome) where
    abbrev in_place : Decision → World → Outcome
    in_place c v = go c (record v { machine = w.machine })

    abbrev question : Question
    question = Growing p.growth

    answer_same : (n : ℕ) (a : Answer) (rest : List Answer) →
        by_answer Over p.growth go a (heard (record w { turns = n }) question a rest)
        ≡ by_answer Over p.growth in_place a (heard (record w { turns = n }) question a rest)
    answer_same n (Grown answer) rest = refl
    answer_same n _ rest = refl

    hear_same : (n : ℕ) (answers : List Answer) →
        hear Over (record w { turns = n }) question (by_answer Over p.growth go) answers
        ≡ hear Over (record w { turns = n }) question (by_answer Over p.growth in_place) answers
    hear_same n [] = refl
    hear_same n (a ∷ rest) =
        ap (λ o. if is_answer question a then o else Over (Waiting question) (record w { turns = n }))
        (answer_same n a rest)

    ask_same : (n : ℕ) →
        on_turn Over w (λ v. hear Over v question (by_answer Over p.growth go) v.answers) n
        ≡ on_turn Over w (λ v. hear Over v question (by_answer Over p.growth in_place) v.answers) n
    ask_same zero = refl
    ask_same (suc n) = hear_same n w.answers

    rule_same : (r : Rule) → by_rule Over w p go r ≡ by_rule Over w p in_place r
    rule_same Grows = refl
    rule_same Fails = refl
    rule_same Asks = ask_same w.turns

    decide_same : decide Over w p go ≡ decide Over w p in_place
    decide_same = rule_same (plan_rule w.machine p)

module _ (base : World) (P : Outcome → Type 0) (early : (e : End) (w : World) → IsGoodEnd base e w → P (Over e w))
  where
    here : (w v : World) → IsGoodWorld base w → IsNext base w v → IsNext base w (record v { machine = w.machine })
    here w v g n = machine_next base w v w.machine g n (safe_own w.machine g.well)

    -- a question, and a turn, in the same store
    pub decides_here : (w : World) (p : Plan ⊤) (go : Decision → World → Outcome) → IsGoodWorld base w →
        ((c : Decision) (v : World) → IsNext base w v → v.machine ≡ w.machine →
        (c ≡ Granted → IsGranted w.machine p) → P (go c v)) → P (decide Over w p go)
    decides_here w p go g k =
        subst P (sym (decide_same w p go))
        (decides base Over P early w p (in_place w p go)
        (λ c v n h. k c (record v { machine = w.machine }) (here w v g n) refl h) g)

    pub turns_here : (w : World) (go : World → Outcome) → IsGoodWorld base w →
        ((v : World) → IsNext base w v → v.machine ≡ w.machine → P (go v)) → P (turn Over w go)
    turns_here w go g k =
        subst P (sym (turn_same w go w.turns))
        (turns base Over P early w (λ v. go (record v { machine = w.machine })) g
        (λ v n. k (record v { machine = w.machine }) (here w v g n) refl))
