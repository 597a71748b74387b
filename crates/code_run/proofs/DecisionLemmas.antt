-- A growth is decided, with a turn for the question to the limiter.
use Rattle.std.proofs.Common.{◌≡◌, ℕ, ◌+◌, suc, List, [], ◌∷◌, ◌++◌, refl, sym, ap, ◌∙◌, subst, arith, one-add, Bool, Result}
use Rattle.std.proofs.lemmas.List.{append-nil}
use Rattle.wasm_meter.specs.Growths.{Growth, Growing as Object, Memory, Table}
use Rattle.wasm_meter.specs.declared.faults.LimiterFailed.{LimiterFailed}
use Rattle.spec_machine.specs.Growth as growth
use Rattle.spec_machine.specs.Growth.{Rule, Grows, Fails, Asks, Plan, plan_rule, answered_growth}
use Rattle.spec_machine.specs.Machine.{Machine}
use Rattle.spec_execution.specs.Askings.{Question, Growing, Answer, Grown, Asking}
use Rattle.spec_execution.specs.Checks.{by_rule, decide}
use Rattle.spec_execution.specs.Outcomes.{World, world, Outcome, Over, Stopped}
use Rattle.store_state.specs.Growing.{growing_of, growable_of, growth_of, question_of, says}
use Rattle.store_state.specs.declared.growth.GrowthQuestion.{GrowthQuestion}
use Rattle.store_state.specs.declared.growth.GrowthRule.{GrowthRule}
use Rattle.store_state.specs.declared.growth.GrowthRule.TheVariants as said
use Rattle.code_run.specs.Deciding.{choice_of, DecidesAs, IsFull, Decides}
use Rattle.code_run.specs.declared.decisions.Choice.{Choice}
use Rattle.code_run.specs.declared.decisions.Choice.TheVariants as choice
use Rattle.code_run.specs.declared.decisions.Decided.{Decided}

abbrev pub decided : Choice → ℕ → Decided
decided c spent = record { choice = c; spent = spent }

-- what the rule is, by what is said of it
grows_said : (r : Rule) (g : Growth) → says r g ≡ said.Grows → r ≡ Grows
grows_said Grows g e = refl
grows_said Fails g e = absurd (cc e)
grows_said Asks g e = absurd (cc e)

fails_said : (r : Rule) (g : Growth) → says r g ≡ said.Fails → r ≡ Fails
fails_said Grows g e = absurd (cc e)
fails_said Fails g e = refl
fails_said Asks g e = absurd (cc e)

asks_said : (r : Rule) (g : Growth) (q : GrowthQuestion) → says r g ≡ said.Asks q → (r ≡ Asks) × (question_of g ≡ q)
asks_said Grows g q e = absurd (cc e)
asks_said Fails g q e = absurd (cc e)
asks_said Asks g q e = (refl, cc e)

object_back : (o : Object) → growing_of (growable_of o) ≡ o
object_back Memory = refl
object_back Table = refl

growth_back : (g : Growth) (q : GrowthQuestion) → question_of g ≡ q → growth_of q ≡ g
growth_back g q e =
    ap growth_of (sym e)
    ∙ ap (λ (o : Object). record {
      object = o;
      current = g.current;
      desired = g.desired;
      maximum = g.maximum;
    }) (object_back g.object)

-- a decision as the choice that code makes of it
as_chosen : (d : growth.Decision) (o : Outcome) (go : growth.Decision → World → Outcome) (w : World) → o ≡ go d w →
    DecidesAs (choice_of d) o go w
as_chosen growth.Granted o go w e = e
as_chosen growth.Failed o go w e = e
as_chosen growth.Faulted o go w e = e

full_of : (d : growth.Decision) (spent left : ℕ) → IsFull (choice_of d) spent left
full_of growth.Granted spent left = tt
full_of growth.Failed spent left = tt
full_of growth.Faulted spent left = tt

module _ {W : Type 0} (moves : W → Question → Answer → W → Type 0) (t : W) (left : ℕ) where
  -- without a question
  unasked : (m : Machine) (p : Plan ℕ) (go : growth.Decision → World → Outcome) (extra : ℕ) (before : List Asking)
      (rest : List Answer) (r : Rule) → plan_rule m p ≡ r →
      decide Over (world m (0 + extra) before rest) p go ≡ by_rule Over (world m extra (before ++ []) rest) p go r
  unasked m p go extra before rest r e =
      let z : 0 + extra ≡ extra = omega arith in
      ap (λ k. decide Over (world m k before rest) p go) z
      ∙ ap (λ q. decide Over (world m extra q rest) p go) (sym (append-nil before))
      ∙ ap (λ r. by_rule Over (world m extra (before ++ []) rest) p go r) e

  pub decides_grows : (rule : GrowthRule) (t' : W) → rule ≡ said.Grows → t' ≡ t →
      Decides moves rule t left (decided choice.Granted 0) t'
  decides_grows rule t' er et = record {
    within = omega arith;
    full = tt;
    heard = [];
    chain = et;
    by = λ m p e go extra before rest.
        unasked m p go extra before rest Grows (grows_said (plan_rule m p) p.growth (e ∙ er));
  }

  pub decides_fails : (rule : GrowthRule) (t' : W) → rule ≡ said.Fails → t' ≡ t →
      Decides moves rule t left (decided choice.Failed 0) t'
  decides_fails rule t' er et = record {
    within = omega arith;
    full = tt;
    heard = [];
    chain = et;
    by = λ m p e go extra before rest.
        unasked m p go extra before rest Fails (fails_said (plan_rule m p) p.growth (e ∙ er));
  }

  module _ (rule : GrowthRule) (q : GrowthQuestion) (er : rule ≡ said.Asks q) where
    stopped : (m : Machine) (p : Plan ℕ) (go : growth.Decision → World → Outcome) (turns : ℕ) (before : List Asking)
        (rest : List Answer) → turns ≡ 0 →
        by_rule Over (world m turns before rest) p go Asks ≡ Over Stopped (world m turns before rest)
    stopped m p go turns before rest e =
        subst (λ (k : ℕ). by_rule Over (world m k before rest) p go Asks ≡ Over Stopped (world m k before rest)) (sym e)
        refl

    pub decides_limit : (t' : W) → left ≡ 0 → t' ≡ t → Decides moves rule t left (decided choice.Limit 0) t'
    decides_limit t' e et = record {
      within = omega arith;
      full = sym e;
      heard = [];
      chain = et;
      by = λ m p e go extra before rest none.
          unasked m p go extra before rest Asks (asks_said (plan_rule m p) p.growth q (e ∙ er)).0
          ∙ stopped m p go extra (before ++ []) rest none;
    }

    module _ (answer : Result Bool LimiterFailed) (t' : W) (asks : moves t (Growing (growth_of q)) (Grown answer) t') where
      answered : (m : Machine) (p : Plan ℕ) (go : growth.Decision → World → Outcome) (extra : ℕ) (before : List Asking)
          (rest : List Answer) → says (plan_rule m p) p.growth ≡ rule →
          decide Over (world m (1 + extra) before (Grown answer ∷ rest)) p go
          ≡ go (answered_growth (growth_of q) answer)
          (world m extra (before ++ (Growing (growth_of q), Grown answer) ∷ []) rest)
      answered m p go extra before rest e =
          let a = asks_said (plan_rule m p) p.growth q (e ∙ er) in
          ap (λ k. decide Over (world m k before (Grown answer ∷ rest)) p go) (one-add extra)
          ∙ ap (λ r. by_rule Over (world m (suc extra) before (Grown answer ∷ rest)) p go r) a.0
          ∙ ap (λ (g : Growth). go (answered_growth g answer)
          (world m extra (before ++ (Growing g, Grown answer) ∷ []) rest))
          (sym (growth_back p.growth q a.1))

      pub decides_asked : (c : Choice) → c ≡ choice_of (answered_growth (growth_of q) answer) → (left ≡ 0 → ⊥) →
          Decides moves rule t left (decided c 1) t'
      decides_asked c ec some = record {
        within = omega (arith, some);
        full =
            subst (λ (c : Choice). IsFull c 1 left) (sym ec) (full_of (answered_growth (growth_of q) answer) 1 left);
        heard = (Growing (growth_of q), Grown answer) ∷ [];
        chain = (t', asks, refl);
        by = λ m p e go extra before rest.
            subst (λ (c : Choice). DecidesAs c (decide Over (world m (1 + extra) before (Grown answer ∷ rest)) p go) go
            (world m extra (before ++ (Growing (growth_of q), Grown answer) ∷ []) rest)) (sym ec)
            (as_chosen (answered_growth (growth_of q) answer) _ go _ (answered m p go extra before rest e));
      }
