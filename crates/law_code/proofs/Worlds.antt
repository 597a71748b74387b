-- Worlds along a run: what is kept by a turn, by a charge and a check, by a question and its answer, and by another
-- store.
use Rattle.std.proofs.Common.{◌≡◌, ℕ, zero, suc, ◌+◌, ◌^◌, ◌≤◌, ◌<◌, Bool, true, false, not, ◌||◌, if◌then◌else◌, List, [], ◌∷◌, ◌++◌, refl, sym, ap, ◌∙◌, subst, arith, le_trans}
use Rattle.std.specs.Prelude.{ℤ, pos, negsuc, int_lt}
use Rattle.wasm_types.proofs.MatchingLemmas.{no}
use Rattle.spec_machine.specs.Changes.{charge}
use Rattle.spec_machine.specs.Machine.{EngineParts, Machine, debt, most_debt}
use Rattle.law_store.specs.Later.{IsLaterInstance, There, Extends}
use Rattle.law_store.proofs.LaterStoreLemmas.{extends_own, extends_on}
use Rattle.spec_execution.specs.Askings.{Question, Answer, is_answer}
use Rattle.spec_execution.specs.Checks.{has_fuel}
use Rattle.spec_execution.specs.Entering.{Frame}
use Rattle.spec_execution.specs.Outcomes.{World, Outcome, Over, End, Stopped, Waiting, on_turn, turn, spend, hear, ask}
use Rattle.law_code.specs.Answers.{IsTypedAnswer, AreTyped}
use Rattle.law_code.specs.Good.{IsHome, IsPaid, CodeMayRun, IsLaterWorld, IsGoodWorld, IsGoodEnd}
use Rattle.law_code.proofs.Changes.{IsSafeChange, IsCharged, charge_safe}

-- the instance of a frame stays in a later store
pub home_later : (m after : Machine) (fr : Frame) → Extends m after → IsHome m fr → IsHome after fr
home_later m after fr x h =
    let t : There after.instances fr.instance (IsLaterInstance h.parts) = x.instances fr.instance h.parts h.found in
    record { parts = t.member; found = t.found; same = t.says.decl ∙ h.same }

-- and its code may go on in a later world
pub may_run_later : (w v : World) (fr : Frame) → IsLaterWorld w v → CodeMayRun w fr → CodeMayRun v fr
may_run_later w v fr x h =
    record { home = home_later w.machine v.machine fr x.store h.home; paid = x.paid h.paid }

-- ---- later worlds

pub later_own : (w : World) → IsLaterWorld w w
later_own w = record { store = extends_own w.machine; fewer = omega arith; paid = λ p. p }

pub later_on : (u v w : World) → IsLaterWorld u v → IsLaterWorld v w → IsLaterWorld u w
later_on u v w p q = record {
  store = extends_on u.machine v.machine w.machine p.store q.store;
  fewer = le_trans q.fewer p.fewer;
  paid = λ h. q.paid (p.paid h);
}

-- the same store, with no more turns, whatever was heard
later_same : (w v : World) → v.machine ≡ w.machine → v.turns ≤ w.turns → IsLaterWorld w v
later_same w v same fewer = record {
  store = subst (Extends w.machine) (sym same) (extends_own w.machine);
  fewer = fewer;
  paid = λ h. record {
    owed = subst (λ (m : Machine). m.engine.consumes_fuel ≡ true → debt m.fuel + v.turns ≤ most_debt) (sym same)
        (λ consumes. omega (arith, h.owed consumes, fewer));
  };
}

-- another store, that owes no more than the first, with no more turns
later_change :
    (w v : World) (after : Machine) → v.turns ≤ w.turns → IsSafeChange w.machine after
    → IsLaterWorld w (record v { machine = after })
later_change w v after fewer s = record {
  store = s.later;
  fewer = fewer;
  paid = λ h. record {
    owed = λ consumes.
        omega (
          arith,
          fewer,
          s.owed,
          h.owed (sym (ap (λ (e : EngineParts). e.consumes_fuel) s.later.engine) ∙ consumes),
        );
  };
}

-- ---- charges

-- so much may be charged in the next turn
pub record MayCharge (w : World) (amount : ℕ) : Type 0 where
  pub room : w.machine.engine.consumes_fuel ≡ true → debt w.machine.fuel + amount + w.turns ≤ suc most_debt

-- one unit, where each turn may be charged one
pub one_unit : (w : World) → IsPaid w → MayCharge w 1
one_unit w p = record { room = λ consumes. omega (arith, p.owed consumes) }

-- a charged store, with fewer turns
later_charge :
    (w v : World) (amount : ℕ) (after : Machine) → v.turns < w.turns → MayCharge w amount
    → IsCharged w.machine amount after → IsLaterWorld w (record v { machine = after })
later_charge w v amount after fewer may s = record {
  store = s.later;
  fewer = omega (arith, fewer);
  paid = λ h. record {
    owed = λ consumes.
        omega (
          arith,
          fewer,
          s.owed,
          may.room (sym (ap (λ (e : EngineParts). e.consumes_fuel) s.later.engine) ∙ consumes),
        );
  };
}

-- ---- the check

-- where it finds fuel nothing is owed
none_owed : (fuel : ℤ) → int_lt (pos 0) fuel ≡ true → debt fuel ≡ 0
none_owed (pos n) e = refl
none_owed (negsuc n) e = no e

found_fuel : (b : Bool) (fuel : ℤ) → (not b || int_lt (pos 0) fuel) ≡ true → b ≡ true → debt fuel ≡ 0
found_fuel true fuel e p = none_owed fuel e
found_fuel false fuel e p = no p

pub check_pays : (w : World) → w.turns ≤ 1000000000 → has_fuel w.machine ≡ true → IsPaid w
check_pays w turns e = record {
  owed = λ consumes.
      omega (arith, turns, found_fuel w.machine.engine.consumes_fuel w.machine.fuel e consumes);
}

-- and as much may be charged as a bulk form takes
any_length :
    (w : World) (amount : ℕ) → w.turns ≤ 1000000000 → has_fuel w.machine ≡ true → amount ≤ 2 ^ 32 → MayCharge w amount
any_length w amount turns e most = record {
  room = λ consumes.
      omega (arith, turns, most, found_fuel w.machine.engine.consumes_fuel w.machine.fuel e consumes);
}

-- ---- worlds

-- one asking more, and the next answer taken
abbrev pub heard : World → Question → Answer → List Answer → World
heard w q a rest = record w { heard = w.heard ++ (q, a) ∷ []; answers = rest }

module _ (base : World) where
  -- a good world that follows another one
  pub record IsNext (w v : World) : Type 0 where
    pub good : IsGoodWorld base v
    pub since : IsLaterWorld w v

  pub next_own : (w : World) → IsGoodWorld base w → IsNext w w
  next_own w g = record { good = g; since = later_own w }

  pub next_on : (u v w : World) → IsNext u v → IsNext v w → IsNext u w
  next_on u v w p q = record { good = q.good; since = later_on u v w p.since q.since }

  pub turn_next : (w : World) (n : ℕ) → n ≤ w.turns → IsGoodWorld base w → IsNext w (record w { turns = n })
  turn_next w n fewer g =
      let x : IsLaterWorld w (record w { turns = n }) = later_same w (record w { turns = n }) refl fewer in
      record {
        good = record {
          well = g.well;
          later = later_on base w (record w { turns = n }) g.later x;
          turns = omega (arith, fewer, g.turns);
          typed = g.typed;
        };
        since = x;
      }

  -- a store that follows the one of the first world, in a world behind it
  pub machine_next :
      (w v : World) (after : Machine) → IsGoodWorld base w → IsNext w v → IsSafeChange w.machine after
      → IsNext w (record v { machine = after })
  machine_next w v after g n s =
      let x : IsLaterWorld w (record v { machine = after }) = later_change w v after n.since.fewer s in
      record {
        good = record {
          well = s.well;
          later = later_on base w (record v { machine = after }) g.later x;
          turns = n.good.turns;
          typed = n.good.typed;
        };
        since = x;
      }

  -- and a charged one, in a world with fewer turns
  pub charge_next :
      (w v : World) (amount : ℕ) (after : Machine) → IsGoodWorld base w → IsGoodWorld base v → v.turns < w.turns
      → MayCharge w amount → IsCharged w.machine amount after → IsNext w (record v { machine = after })
  charge_next w v amount after g k fewer may s =
      let x : IsLaterWorld w (record v { machine = after }) = later_charge w v amount after fewer may s in
      record {
        good = record {
          well = s.well;
          later = later_on base w (record v { machine = after }) g.later x;
          turns = k.turns;
          typed = k.typed;
        };
        since = x;
      }

  -- an answer to a question, in the world behind it
  pub record IsAnswered (w : World) (q : Question) (a : Answer) (v : World) : Type 0 where
    pub fits : is_answer q a ≡ true
    pub next : IsNext w v
    pub typed : IsTypedAnswer a

  answered : (w : World) (q : Question) (a : Answer) (rest : List Answer) → IsGoodWorld base w → w.answers ≡ a ∷ rest →
      is_answer q a ≡ true → IsAnswered w q a (heard w q a rest)
  answered w q a rest g e p =
      let typed : AreTyped (a ∷ rest) = subst AreTyped e g.typed in
      let x : IsLaterWorld w (heard w q a rest) = later_same w (heard w q a rest) refl (omega arith) in
      record {
        fits = p;
        next = record {
          good = record {
            well = g.well;
            later = later_on base w (heard w q a rest) g.later x;
            turns = g.turns;
            typed = typed.1;
          };
          since = x;
        };
        typed = typed.0;
      }

  -- what holds of every good end, and of every way to go on, holds of the combinators
  module _ {O : Type 0} (early : End → World → O) (P : O → Type 0)
      (ends : (e : End) (w : World) → IsGoodEnd base e w → P (early e w)) where
    on_turns : (w : World) (go : World → O) (n : ℕ) → IsGoodWorld base w → w.turns ≡ n →
        ((v : World) → IsNext w v → v.turns < w.turns → P (go v)) → P (on_turn early w go n)
    on_turns w go zero g e k = ends Stopped w g
    on_turns w go (suc n) g e k =
        k (record w { turns = n }) (turn_next w n (omega (arith, e)) g) (omega (arith, e))

    -- a turn is one fewer
    pub takes_turn : (w : World) (go : World → O) → IsGoodWorld base w →
        ((v : World) → IsNext w v → v.turns < w.turns → P (go v)) → P (turn early w go)
    takes_turn w go g k = on_turns w go w.turns g refl k

    pub turns : (w : World) (go : World → O) → IsGoodWorld base w →
        ((v : World) → IsNext w v → P (go v)) → P (turn early w go)
    turns w go g k = takes_turn w go g (λ v n fewer. k v n)

    -- an answer takes no turn
    hears_if : (w : World) (q : Question) (go : Answer → World → O) (a : Answer) (rest : List Answer) (b : Bool) →
        IsGoodWorld base w → w.answers ≡ a ∷ rest → is_answer q a ≡ b →
        ((x : Answer) (v : World) → IsAnswered w q x v → v.turns ≡ w.turns → P (go x v)) →
        P (if b then go a (heard w q a rest) else early (Waiting q) w)
    hears_if w q go a rest true g e p k = k a (heard w q a rest) (answered w q a rest g e p) refl
    hears_if w q go a rest false g e p k = ends (Waiting q) w g

    hears_in : (w : World) (q : Question) (go : Answer → World → O) (answers : List Answer) →
        IsGoodWorld base w → w.answers ≡ answers →
        ((a : Answer) (v : World) → IsAnswered w q a v → v.turns ≡ w.turns → P (go a v)) →
        P (hear early w q go answers)
    hears_in w q go [] g e k = ends (Waiting q) w g
    hears_in w q go (a ∷ rest) g e k = hears_if w q go a rest (is_answer q a) g e refl k

    pub hears : (w : World) (q : Question) (go : Answer → World → O) → IsGoodWorld base w →
        ((a : Answer) (v : World) → IsAnswered w q a v → v.turns ≡ w.turns → P (go a v)) →
        P (hear early w q go w.answers)
    hears w q go g k = hears_in w q go w.answers g refl k

    pub asks : (w : World) (q : Question) (go : Answer → World → O) → IsGoodWorld base w →
        ((a : Answer) (v : World) → IsAnswered w q a v → P (go a v)) → P (ask early w q go)
    asks w q go g k =
        turns w (λ v. hear early v q go v.answers) g (λ v n.
        hears v q go n.good (λ a u h same.
        k a u (record { fits = h.fits; next = next_on w v u n h.next; typed = h.typed })))

  -- the turn of an instruction, that is charged so much
  module _ (P : Outcome → Type 0) (ends : (e : End) (w : World) → IsGoodEnd base e w → P (Over e w)) where
    spends_in : (w : World) (amount : ℕ) (go : World → Outcome) (n : ℕ) → IsGoodWorld base w → MayCharge w amount →
        w.turns ≡ n → ((v : World) → IsNext w v → v.turns < w.turns → P (go v)) →
        P (on_turn Over w (λ v. go (record v { machine = charge v.machine amount })) n)
    spends_in w amount go zero g may e k = ends Stopped w g
    spends_in w amount go (suc n) g may e k =
        let v : World = record w { turns = n } in
        let s : IsCharged w.machine amount (charge w.machine amount) =
        charge_safe w.machine g.well amount (λ consumes. omega (arith, e, may.room consumes)) in
        k (record v { machine = charge v.machine amount })
        (charge_next w v amount (charge w.machine amount) g (turn_next w n (omega (arith, e)) g).good (omega (arith, e))
        may s)
        (omega (arith, e))

    -- one unit
    pub spends : (w : World) (go : World → Outcome) → IsGoodWorld base w → IsPaid w →
        ((v : World) → IsNext w v → v.turns < w.turns → P (go v)) → P (spend 1 w go)
    spends w go g paid k = spends_in w 1 go w.turns g (one_unit w paid) refl k

    -- by its length, where fuel was found
    pub meters : (w : World) (amount : ℕ) (go : World → Outcome) → IsGoodWorld base w → has_fuel w.machine ≡ true →
        amount ≤ 2 ^ 32 → ((v : World) → IsNext w v → v.turns < w.turns → P (go v)) → P (spend amount w go)
    meters w amount go g found most k =
        spends_in w amount go w.turns g (any_length w amount g.turns found most) refl k
