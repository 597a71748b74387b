-- How a command that runs no code ends: nothing was done, or its act was.
use Rattle.std.proofs.Common.{◌≡◌, ℕ, zero, suc, Bool, true, false, List, [], ◌∷◌, ◌++◌, Ok, Err, refl, sym, ap, ◌∙◌, subst, inl, inr}
use Rattle.wasm_values.specs.declared.refusals.Refusal.{Refusal}
use Rattle.wasm_values.specs.declared.refusals.Refusal.TheVariants as refusal
use Rattle.spec_machine.specs.Commands.{Row, Refuse, Act, ActAt, Grow, Invoke, Instantiate}
use Rattle.spec_machine.specs.Growth.{Decision, Granted, Failed, Faulted, Rule, Grows, Fails, Asks, Plan, plan_rule, answered_growth}
use Rattle.spec_machine.specs.Machine.{Machine}
use Rattle.spec_machine.specs.declared.reply.Reply.{Reply}
use Rattle.spec_machine.specs.declared.reply.Reply.TheVariants.{Refused}
use Rattle.law_store.specs.Granted.{IsGranted}
use Rattle.law_store.specs.Rows.{LeavesBy}
use Rattle.law_store.proofs.RefusedCommandLemmas.{IsDone, RepliesDone}
use Rattle.law_store.proofs.NoLimiterLemmas.{asks_not}
use Rattle.spec_execution.specs.Askings.{Growing, Reading, Question, Answer, Grown, Read}
use Rattle.spec_execution.specs.Bodies.{exec}
use Rattle.spec_execution.specs.Checks.{by_answer, by_rule}
use Rattle.spec_execution.specs.Commands.{Finish, Replied, Early, acts, grown, dated, perform, replied}
use Rattle.spec_execution.specs.Outcomes.{World, Stopped, Waiting, on_turn, hear}
use Rattle.spec_execution.proofs.LaterWorldLemmas.{end_of}
use Rattle.law_code.proofs.NoReadingLemmas.{AsksNoEpoch}

-- a world with the same store; where `Free` holds nothing was asked on the way
pub record Since (Free : Type 0) (w v : World) : Type 0 where
  pub same : v.machine ≡ w.machine
  pub still : Free → (v.heard ≡ w.heard) × (v.answers ≡ w.answers)

-- a finish at which nothing was done; where `Free` holds none waits
abbrev pub IsIdle : Type 0 → Finish → Type 0
IsIdle Free (Replied (Refused why) v) = Unit {0}
IsIdle Free (Early Stopped v) = Unit {0}
IsIdle Free (Early (Waiting q) v) = Free → ⊥
IsIdle Free x = ⊥

each_turn : (R : Finish → Type 0) (w : World) (go : World → Finish) (n : ℕ) → R (Early Stopped w) →
    ((t : ℕ) → R (go (record w { turns = t }))) → R (on_turn Early w go n)
each_turn R w go zero stopped goes = stopped
each_turn R w go (suc t) stopped goes = goes t

module _ (Free : Type 0) (w : World) where
  since_own : Since Free w w
  since_own = record { same = refl; still = λ free. (refl, refl) }

  since_turn : (v : World) (t : ℕ) → Since Free w v → Since Free w (record v { turns = t })
  since_turn v t s = record { same = s.same; still = s.still }

  -- behind a question, which is asked where `Free` does not hold
  since_heard : (v : World) (q : Question) (a : Answer) (rest : List Answer) → (Free → ⊥) → Since Free w v →
      Since Free w (record v { heard = v.heard ++ (q, a) ∷ []; answers = rest })
  since_heard v q a rest asked s = record { same = s.same; still = λ free. absurd (asked free) }

  module _ (R : Finish → Type 0) (idle : (x : Finish) → Since Free w (end_of x) → IsIdle Free x → R x) where
    acts_ends : (v : World) (after : Machine) (answer : Reply) → Since Free w v →
        ((u : World) → Since Free w u → R (Replied answer (record u { machine = after }))) →
        R (acts Early v after answer replied)
    acts_ends v after answer s acted =
        each_turn R v (λ u. replied (record u { machine = after }) answer) v.turns (idle (Early Stopped v) s tt)
        (λ t. acted (record v { turns = t }) (since_turn v t s))

    -- the growth of a row, that is granted by the rule or by an answer
    module _ (p : Plan Reply) (limited : Free → w.machine.is_limited ≡ false)
        (acted : (u : World) → Since Free w u → IsGranted w.machine p →
        R (Replied p.gives (record u { machine = p.after }))) where
      grown_ends : (d : Decision) (v : World) → Since Free w v → (d ≡ Granted → IsGranted w.machine p) →
          R (grown Early p replied d v)
      grown_ends Granted v s g = acts_ends v p.after p.gives s (λ u su. acted u su (g refl))
      grown_ends Failed v s g = idle (Replied (Refused refusal.GrowFailed) v) s tt
      grown_ends Faulted v s g = idle (Replied (Refused refusal.LimiterFault) v) s tt

      module _ (asks : plan_rule w.machine p ≡ Asks) where
        asked : Free → ⊥
        asked free = asks_not w.machine p (limited free) asks

        permitted : (b : Bool) → answered_growth p.growth (Ok b) ≡ Granted →
            answered_growth p.growth (Ok true) ≡ Granted
        permitted true e = e
        permitted false e = absurd (let q : Failed ≡ Granted = e in cc)

        hear_ends : (v : World) (answers : List Answer) → Since Free w v →
            R (hear Early v (Growing p.growth) (by_answer Early p.growth (grown Early p replied)) answers)
        hear_ends v [] s = idle (Early (Waiting (Growing p.growth)) v) s asked
        hear_ends v (Grown (Ok b) ∷ rest) s =
            grown_ends (answered_growth p.growth (Ok b))
            (record v { heard = v.heard ++ (Growing p.growth, Grown (Ok b)) ∷ []; answers = rest })
            (since_heard v (Growing p.growth) (Grown (Ok b)) rest asked s)
            (λ e. inr (asks, permitted b e))
        hear_ends v (Grown (Err fault) ∷ rest) s =
            idle
            (Replied (Refused refusal.LimiterFault)
            (record v { heard = v.heard ++ (Growing p.growth, Grown (Err fault)) ∷ []; answers = rest }))
            (since_heard v (Growing p.growth) (Grown (Err fault)) rest asked s) tt
        hear_ends v (a ∷ rest) s = idle (Early (Waiting (Growing p.growth)) v) s asked

      rule_ends : (r : Rule) → plan_rule w.machine p ≡ r → R (by_rule Early w p (grown Early p replied) r)
      rule_ends Grows e = grown_ends Granted w since_own (λ g. inl e)
      rule_ends Fails e = idle (Replied (Refused refusal.GrowFailed) w) since_own tt
      rule_ends Asks e =
          each_turn R w
          (λ v. hear Early v (Growing p.growth) (by_answer Early p.growth (grown Early p replied)) v.answers)
          w.turns (idle (Early Stopped w) since_own tt)
          (λ t. hear_ends e (record w { turns = t }) w.answers (since_turn w t since_own))

    -- an act at a reading
    module _ (after : ℕ → Machine) (answer : Reply) (asked : Free → ⊥)
        (acted : (reading : ℕ) (u : World) → Since Free w u →
        R (Replied answer (record u { machine = after reading }))) where
      read_ends : (v : World) (answers : List Answer) → Since Free w v →
          R (hear Early v Reading (dated Early after answer replied) answers)
      read_ends v [] s = idle (Early (Waiting Reading) v) s asked
      read_ends v (Read (Ok reading) ∷ rest) s =
          acts_ends (record v { heard = v.heard ++ (Reading, Read (Ok reading)) ∷ []; answers = rest })
          (after reading) answer (since_heard v Reading (Read (Ok reading)) rest asked s) (acted reading)
      read_ends v (Read (Err fault) ∷ rest) s =
          idle
          (Replied (Refused refusal.EpochFault)
          (record v { heard = v.heard ++ (Reading, Read (Err fault)) ∷ []; answers = rest }))
          (since_heard v Reading (Read (Err fault)) rest asked s) tt
      read_ends v (a ∷ rest) s = idle (Early (Waiting Reading) v) s asked

      dated_ends : R (perform Early exec 0 w (ActAt after answer) replied)
      dated_ends =
          each_turn R w (λ v. hear Early v Reading (dated Early after answer replied) v.answers) w.turns
          (idle (Early Stopped w) since_own tt)
          (λ t. read_ends (record w { turns = t }) w.answers (since_turn w t since_own))

    -- what holds where the act of a row was done
    abbrev pub Acted : Row → Type 0
    Acted (Act after answer) =
        (u : World) → Since Free w u → IsDone answer → R (Replied answer (record u { machine = after }))
    Acted (ActAt after answer) =
        (reading : ℕ) (u : World) → Since Free w u → IsDone answer →
        R (Replied answer (record u { machine = after reading }))
    Acted (Grow p) =
        (u : World) → Since Free w u → IsDone p.gives → IsGranted w.machine p →
        R (Replied p.gives (record u { machine = p.after }))
    Acted r = Unit {0}

    pub row_ends : (r : Row) → (Free → w.machine.is_limited ≡ false) → (Free → AsksNoEpoch r) → RepliesDone r →
        Acted r → R (perform Early exec 0 w r replied)
    row_ends (Refuse why) limited undated h acted = idle (Replied (Refused why) w) since_own tt
    row_ends (Act after answer) limited undated h acted = acts_ends w after answer since_own (λ u s. acted u s h)
    row_ends (ActAt after answer) limited undated h acted =
        dated_ends after answer undated (λ reading u s. acted reading u s h)
    row_ends (Grow p) limited undated h acted =
        rule_ends p limited (λ u s g. acted u s h g) (plan_rule w.machine p) refl
    row_ends (Invoke c) limited undated h acted = absurd h
    row_ends (Instantiate d imports) limited undated h acted = absurd h

-- of the store that a row leaves
module _ (P : Machine → Type 0) (w : World) (own : P w.machine) where
  abbrev Holds : Finish → Type 0
  Holds x = P (end_of x).machine

  idle_holds : (x : Finish) → Since ⊥ w (end_of x) → IsIdle ⊥ x → Holds x
  idle_holds x s i = subst P (sym s.same) own

  acted_holds : (r : Row) → LeavesBy P w.machine r → Acted ⊥ w Holds idle_holds r
  acted_holds (Refuse why) l = tt
  acted_holds (Act after answer) l = λ u s d. l
  acted_holds (ActAt after answer) l = λ reading u s d. l reading
  acted_holds (Grow p) l = λ u s d g. l g
  acted_holds (Invoke c) l = tt
  acted_holds (Instantiate d imports) l = tt

  pub row_holds : (r : Row) → RepliesDone r → LeavesBy P w.machine r →
      P (end_of (perform Early exec 0 w r replied)).machine
  row_holds r h l = row_ends ⊥ w Holds idle_holds r (λ f. absurd f) (λ f. absurd f) h (acted_holds r l)

-- of a refusal
module _ (w : World) (why : Refusal) where
  abbrev pub Stays : Finish → Type 0
  Stays x = (v : World) → x ≡ Replied (Refused why) v → v.machine ≡ w.machine

  abbrev IsDoneFinish : Finish → Type 0
  IsDoneFinish (Replied answer v) = IsDone answer
  IsDoneFinish x = Unit {0}

  done_stays : (answer : Reply) (u : World) → IsDone answer → Stays (Replied answer u)
  done_stays answer u d v e = absurd (subst IsDoneFinish e d)

  idle_stays : (x : Finish) → Since ⊥ w (end_of x) → IsIdle ⊥ x → Stays x
  idle_stays x s i v e = ap (λ (y : Finish). (end_of y).machine) (sym e) ∙ s.same

  acted_stays : (r : Row) → Acted ⊥ w Stays idle_stays r
  acted_stays (Refuse other) = tt
  acted_stays (Act after answer) = λ u s d. done_stays answer (record u { machine = after }) d
  acted_stays (ActAt after answer) = λ reading u s d. done_stays answer (record u { machine = after reading }) d
  acted_stays (Grow p) = λ u s d g. done_stays p.gives (record u { machine = p.after }) d
  acted_stays (Invoke c) = tt
  acted_stays (Instantiate d imports) = tt

  pub row_stays : (r : Row) → RepliesDone r → Stays (perform Early exec 0 w r replied)
  row_stays r h = row_ends ⊥ w Stays idle_stays r (λ f. absurd f) (λ f. absurd f) h (acted_stays r)

-- without a limiter
module _ (w : World) (free : w.machine.is_limited ≡ false) where
  -- nothing was asked, and it ends with a reply or by want of a turn
  abbrev pub IsStill : Finish → Type 0
  IsStill (Replied answer v) = (v.heard ≡ w.heard) × (v.answers ≡ w.answers)
  IsStill (Early Stopped v) = (v.heard ≡ w.heard) × (v.answers ≡ w.answers)
  IsStill (Early e v) = ⊥

  abbrev Always : Type 0
  Always = Unit {0}

  idle_still : (x : Finish) → Since Always w (end_of x) → IsIdle Always x → IsStill x
  idle_still (Replied answer v) s i = s.still tt
  idle_still (Early Stopped v) s i = s.still tt
  idle_still (Early (Waiting q) v) s i = absurd (i tt)
  idle_still (Early e v) s i = absurd i

  acted_still : (r : Row) → Acted Always w IsStill idle_still r
  acted_still (Refuse why) = tt
  acted_still (Act after answer) = λ u s d. s.still tt
  acted_still (ActAt after answer) = λ reading u s d. s.still tt
  acted_still (Grow p) = λ u s d g. s.still tt
  acted_still (Invoke c) = tt
  acted_still (Instantiate d imports) = tt

  pub row_still : (r : Row) → AsksNoEpoch r → RepliesDone r → IsStill (perform Early exec 0 w r replied)
  row_still r undated h =
      row_ends Always w IsStill idle_still r (λ f. free) (λ f. undated) h (acted_still r)
