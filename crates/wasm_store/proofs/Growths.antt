-- A growth of the host: what the rule says, the question where it is asked, and the act.
use Rattle.std.proofs.Common.{◌≡◌, Bool, true, false, ◌⊎◌, inl, inr, refl, ap, sym, ◌∙◌, subst}
use Rattle.std.specs.Prelude.{⊤, Result, Ok, Err}
use Rattle.wasm_meter.specs.Growths.{Growth, Growing, Memory, Table}
use Rattle.wasm_meter.specs.declared.faults.LimiterFailed.{LimiterFailed}
use Rattle.wasm_types.specs.declared.faults.OutOfMemory.{OutOfMemory as NoMemory}
use Rattle.wasm_values.specs.declared.refusals.Refusal.{Refusal}
use Rattle.wasm_values.specs.declared.refusals.Refusal.TheVariants.{GrowFailed, LimiterFault}
use Rattle.spec_machine.specs.Growth.{Rule, Grows, Fails, Asks, Decision, Granted, Failed, Faulted, Plan, plan_rule, answered_growth}
use Rattle.spec_machine.specs.Machine.{Machine}
use Rattle.store_state.specs.Growing.{growing_of, growable_of, growth_of, question_of, says, plan_says, due_says, decided, IsDue, ActsOn, Acts}
use Rattle.store_state.specs.declared.growth.GrowthRule.{GrowthRule}
use Rattle.wasm_store.specs.Growths.{Settles, Decides, GrowsBy, GrowsAs}
use Rattle.wasm_store.specs.Refused.{refused_by_memory}
use Rattle.wasm_store.specs.Stores.{StoreParts, KeepsRest}

object_is : (o : Growing) → growing_of (growable_of o) ≡ o
object_is Memory = refl
object_is Table = refl

-- a question is what is asked
pub asked_is : (g : Growth) → growth_of (question_of g) ≡ g
asked_is g = ap (λ o. record g { object = o }) (object_is g.object)

abbrev Answer : Type 0
Answer = Result Bool LimiterFailed

-- a decision that refuses
decides_err : {A : Type 0} (d : Decision) (p : Plan A) (old new : Machine) (why : Refusal) →
    (let r : Result ⊤ Refusal = Err why in r ≡ decided d) → new ≡ old → Decides d p old (Err why) new
decides_err Granted p old new why e same = absurd cc
decides_err Failed p old new why e same = let is : why ≡ GrowFailed = cc in (ap Err is, same)
decides_err Faulted p old new why e same = let is : why ≡ LimiterFault = cc in (ap Err is, same)

-- a decision that grants
granted : (d : Decision) → (let r : Result ⊤ Refusal = Ok tt in r ≡ decided d) → d ≡ Granted
granted Granted e = refl
granted Failed e = absurd cc
granted Faulted e = absurd cc

pub yes : (g : Growth) (a : Answer) → answered_growth g a ≡ Granted → answered_growth g (Ok true) ≡ Granted
yes g (Ok true) e = e
yes g (Ok false) e = absurd cc
yes g (Err fault) e = absurd cc

decides_ok : {A : Type 0} (p : Plan A) (old new : Machine) (r : Result A NoMemory) → ActsOn p old r new →
    Decides Granted p old (refused_by_memory r) new
decides_ok p old new (Ok a) h = h
decides_ok p old new (Err none) h = (refl, h)

module _ {T A : Type 0} (growths : T → Growth → Answer → T → Type 0) (p : Plan A) (old new : StoreParts T) where
  refused_by : (r : Rule) (why : Refusal) → Settles growths (says r p.growth) old.host_data (Err why)
      new.host_data → new.machine ≡ old.machine → GrowsBy growths r p old (Err why) new
  refused_by Grows why s same = absurd (let e : Err why ≡ Ok tt = s.0 in cc)
  refused_by Fails why s same =
      (let e : Err why ≡ Err GrowFailed = s.0 in let is : why ≡ GrowFailed = cc in (ap Err is, same), s.1)
  refused_by Asks why s same = (
    s.0,
    subst (λ (g : Growth). growths old.host_data g s.0 new.host_data) (asked_is p.growth) s.1,
    decides_err (answered_growth p.growth s.0) p old.machine new.machine why
        (s.2 ∙ ap (λ (g : Growth). decided (answered_growth g s.0)) (asked_is p.growth)) same,
  )

  acted_by : (r : Rule) (result : Result A NoMemory) →
      Settles growths (says r p.growth) old.host_data (Ok tt) new.host_data →
      ActsOn p old.machine result new.machine → GrowsBy growths r p old (refused_by_memory result) new
  acted_by Grows result s act = (decides_ok p old.machine new.machine result act, s.1)
  acted_by Fails result s act = absurd (let e : Ok tt ≡ Err GrowFailed = s.0 in cc)
  acted_by Asks result s act = (
    s.0,
    subst (λ (g : Growth). growths old.host_data g s.0 new.host_data) (asked_is p.growth) s.1,
    subst (λ (d : Decision). Decides d p old.machine (refused_by_memory result) new.machine)
        (sym (granted (answered_growth p.growth s.0) (s.2
        ∙ ap (λ (g : Growth). decided (answered_growth g s.0)) (asked_is p.growth))))
        (decides_ok p old.machine new.machine result act),
  )

  granted_by : (r : Rule) → Settles growths (says r p.growth) old.host_data (Ok tt) new.host_data →
      (r ≡ Grows) ⊎ ((r ≡ Asks) × (answered_growth p.growth (Ok true) ≡ Granted))
  granted_by Grows s = inl refl
  granted_by Fails s = absurd (let e : Ok tt ≡ Err GrowFailed = s.0 in cc)
  granted_by Asks s =
      inr (
        refl,
        yes p.growth s.0 (granted (answered_growth p.growth s.0) (s.2
            ∙ ap (λ (g : Growth). decided (answered_growth g s.0)) (asked_is p.growth))),
      )

abbrev SettledBy : {T : Type 0} → (T → Growth → Answer → T → Type 0) → T → T → Result ⊤ Refusal → GrowthRule → Type 0
SettledBy growths old new r said = Settles growths said old r new

abbrev Due : Type 0 → Type 0
Due A = Machine → Result (Plan A) Refusal

module _ {T A : Type 0} (growths : T → Growth → Answer → T → Type 0) (rule : GrowthRule) (old mid : StoreParts T) where
  due_is : (due : Result (Plan A) Refusal) → Ok rule ≡ due_says old.machine due →
      SettledBy growths old.host_data mid.host_data (Ok tt) rule → IsDue old.machine due
  due_is (Ok p) e s =
      let is : rule ≡ plan_says old.machine p = cc in
      granted_by growths p old mid (plan_rule old.machine p)
      (subst (SettledBy growths old.host_data mid.host_data (Ok tt)) is s)
  due_is (Err why) e s = absurd cc

  -- what the rule and the limiter grant is due
  pub is_due : (due : Due A) → Ok rule ≡ due_says old.machine (due old.machine) →
      SettledBy growths old.host_data mid.host_data (Ok tt) rule → mid.machine ≡ old.machine →
      IsDue mid.machine (due mid.machine)
  is_due due e s same =
      subst (λ (m : Machine). IsDue m (due m)) (sym same) (due_is (due old.machine) e s)

  refused_growth : (due : Result (Plan A) Refusal) (why : Refusal) → Ok rule ≡ due_says old.machine due →
      SettledBy growths old.host_data mid.host_data (Err why) rule → mid.machine ≡ old.machine →
      GrowsAs growths due old (Err why) mid
  refused_growth (Ok p) why e s same =
      let is : rule ≡ plan_says old.machine p = cc in
      refused_by growths p old mid (plan_rule old.machine p) why
      (subst (SettledBy growths old.host_data mid.host_data (Err why)) is s) same
  refused_growth (Err why) w e s same = absurd cc

  -- the growth is refused
  pub is_refused : (due : Result (Plan A) Refusal) (result : Result A Refusal) (why : Refusal) →
      result ≡ Err why → Ok rule ≡ due_says old.machine due →
      SettledBy growths old.host_data mid.host_data (Err why) rule → mid.machine ≡ old.machine →
      GrowsAs growths due old result mid
  is_refused due result why is e s same =
      subst (λ (r : Result A Refusal). GrowsAs growths due old r mid) (sym is) (refused_growth due why e s same)

  module _ (new : StoreParts T) (answered : Result A Refusal) (result : Result A NoMemory)
      (is : answered ≡ refused_by_memory result) (rest : KeepsRest mid new) where
    settled_new : (said : GrowthRule) → SettledBy growths old.host_data mid.host_data (Ok tt) said →
        Settles growths said old.host_data (Ok tt) new.host_data
    settled_new said s =
        subst (λ (h : T). Settles growths said old.host_data (Ok tt) h)
        (sym (ap (λ (t : StoreParts T). t.host_data) rest)) s

    acted : (due : Result (Plan A) Refusal) → Ok rule ≡ due_says old.machine due →
        SettledBy growths old.host_data mid.host_data (Ok tt) rule → Acts due old.machine result new.machine →
        GrowsAs growths due old (refused_by_memory result) new
    acted (Ok p) e s act =
        let says_it : rule ≡ plan_says old.machine p = cc in
        acted_by growths p old new (plan_rule old.machine p) result
        (settled_new (plan_says old.machine p) (subst (SettledBy growths old.host_data mid.host_data (Ok tt))
        says_it s)) (act p refl)
    acted (Err why) e s act = absurd cc

    -- the growth takes place, or memory is wanting
    pub is_acted : (due : Due A) → Ok rule ≡ due_says old.machine (due old.machine) →
        SettledBy growths old.host_data mid.host_data (Ok tt) rule → mid.machine ≡ old.machine →
        Acts (due mid.machine) mid.machine result new.machine → GrowsAs growths (due old.machine) old answered new
    is_acted due e s same act =
        subst (λ (r : Result A Refusal). GrowsAs growths (due old.machine) old r new) (sym is)
        (acted (due old.machine) e s (subst (λ (m : Machine). Acts (due m) m result new.machine) same act))

-- a refusal that is due
refused_due : {T A : Type 0} (growths : T → Growth → Answer → T →
    Type 0) (due : Result (Plan A) Refusal) (old : StoreParts T) (why : Refusal) →
    Err why ≡ due_says old.machine due → GrowsAs growths due old (Err why) old
refused_due growths (Ok p) old why e = absurd cc
refused_due growths (Err w) old why e = let is : why ≡ w = cc in (ap Err is, refl)

pub is_refused_due : {T A : Type 0} (growths : T → Growth → Answer → T →
    Type 0) (due : Result (Plan A) Refusal) (old : StoreParts T) (result : Result A Refusal) (why : Refusal) →
    result ≡ Err why → Err why ≡ due_says old.machine due → GrowsAs growths due old result old
is_refused_due {T} {A} growths due old result why is e =
    subst (λ (r : Result A Refusal). GrowsAs growths due old r old) (sym is) (refused_due growths due old why e)
