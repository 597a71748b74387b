-- What each kind of row comes to.
use Rattle.std.proofs.Common.{◌≡◌, ℕ, zero, suc, ◌+◌, ◌≤◌, Bool, List, [], ◌∷◌, ◌++◌, refl, ap, sym, ◌∙◌, subst, arith}
use Rattle.std.specs.Prelude.{Result}
use Rattle.std.proofs.lemmas.List.{append-nil}
use Rattle.wasm_meter.specs.declared.faults.LimiterFailed.{LimiterFailed}
use Rattle.wasm_values.specs.declared.refusals.Refusal.{Refusal}
use Rattle.wasm_values.specs.declared.refusals.Refusal.TheVariants.{TurnLimit, GrowFailed, LimiterFault}
use Rattle.spec_machine.specs.Commands.{Row, Refuse, Act, Grow}
use Rattle.spec_machine.specs.Growth.{Plan, plan_rule, Rule, Grows, Fails, Asks, Decision, Granted, Failed, Faulted, answered_growth}
use Rattle.spec_machine.specs.Machine.{Machine}
use Rattle.spec_machine.specs.declared.reply.Reply.{Reply}
use Rattle.spec_machine.specs.declared.reply.Reply.TheVariants.{Refused}
use Rattle.spec_execution.specs.Askings.{Growing, Answer, Grown, Asking}
use Rattle.spec_execution.specs.Checks.{by_rule}
use Rattle.spec_execution.specs.Commands.{Finish, Replied, Early, grown, replied}
use Rattle.spec_execution.specs.Outcomes.{World, world, Stopped}
use Rattle.wasm_store.specs.Stores.{StoreParts}
use Rattle.wasm_call.specs.Alone.{Leads, AnsweredWithin, outside_of}
use Rattle.wasm_call.specs.Outcomes.{by_row, answer_of}
use Rattle.wasm_call.specs.Outside.{Growths}

-- a command that hears nothing: what it comes to whatever was heard before
pub quiet : {T O : Type 0} (growths : Growths T) (command : World → O) (turns left : ℕ) (old new : StoreParts T)
    (ending : World → O) → new.turns + left ≡ turns → new.host_data ≡ old.host_data →
    ((before : List Asking) (rest : List Answer) → command (world old.machine turns before rest) ≡ ending
    (world new.machine left before rest)) → Leads growths command turns old ending new
quiet growths command turns left old new ending within same ends = record {
  heard = [];
  left = left;
  within = within;
  chained = ap outside_of same;
  ends = λ before rest. ends before rest ∙ ap (λ (heard : List Asking). ending (world new.machine left heard rest))
      (sym (append-nil before));
}

-- the same, of what follows from its end
abbrev pub leads_on : {T O P : Type 0} (growths : Growths T) (f : O → P) (command : World → O) (turns : ℕ)
    (old : StoreParts T) (ending : World → O) (new : StoreParts T) → Leads growths command turns old ending new →
    Leads growths (λ w. f (command w)) turns old (λ w. f (ending w)) new
leads_on growths f command turns old ending new l = record {
  heard = l.heard;
  left = l.left;
  within = l.within;
  chained = l.chained;
  ends = λ before rest. ap f (l.ends before rest);
}

-- a row that gave its reply, and one that was stopped
abbrev pub gave : {T : Type 0} (growths : Growths T) (limit : ℕ) (row : Row) (reply : Reply) (old new : StoreParts T) →
    Leads growths (by_row row) limit old (Replied reply) new → AnsweredWithin growths limit row old reply new
gave growths limit row reply old new l = leads_on growths answer_of (by_row row) limit old (Replied reply) new l

abbrev pub limited : {T : Type 0} (growths : Growths T) (limit : ℕ) (row : Row) (old new : StoreParts T) →
    Leads growths (by_row row) limit old (Early Stopped) new →
    AnsweredWithin growths limit row old (Refused TurnLimit) new
limited growths limit row old new l = leads_on growths answer_of (by_row row) limit old (Early Stopped) new l

-- a refusal takes no turn
pub refuse_leads : {T : Type 0} (growths : Growths T) (turns : ℕ) (old new : StoreParts T) (why : Refusal) →
    new.turns ≡ 0 → new.machine ≡ old.machine → new.host_data ≡ old.host_data → Leads growths (by_row (Refuse why))
    turns old (Replied (Refused why)) new
refuse_leads growths turns old new why none same host =
    quiet growths (by_row (Refuse why)) turns turns old new (Replied (Refused why)) (omega arith) host
    (λ before rest. ap (λ (m : Machine). Replied (Refused why) (world m turns before rest)) (sym same))

-- an act, with a turn and with none
pub act_leads : {T : Type 0} (growths : Growths T) (turns : ℕ) (old new : StoreParts T) (after : Machine)
    (reply : Reply) → 1 ≤ turns → new.turns ≡ 1 → new.machine ≡ after → new.host_data ≡ old.host_data →
    Leads growths (by_row (Act after reply)) turns old (Replied reply) new
act_leads growths zero old new after reply h one same host = absurd (omega (arith, h))
act_leads growths (suc left) old new after reply h one same host =
    quiet growths (by_row (Act after reply)) (suc left) left old new (Replied reply) (omega arith) host
    (λ before rest. ap (λ (m : Machine). Replied reply (world m left before rest)) (sym same))

-- what was stopped at its act, with the question before it where there was one: a command that made all its turns
pub made_all : (made turns : ℕ) → turns ≡ made → made + 0 ≡ turns
made_all made turns e = omega (arith, e)

pub no_question : (before : List Asking) (new : Machine) (rest : List Answer) (ending : World → Finish) (o : Finish) →
    o ≡ ending (world new 0 before rest) → o ≡ ending (world new 0 (before ++ []) rest)
no_question before new rest ending o e = e ∙ ap (λ (heard : List Asking). ending (world new 0 heard rest))
    (sym (append-nil before))

pub refused_stops : (turns : ℕ) (m : Machine) (why : Refusal) → turns ≡ 0 →
    (before : List Asking) (rest : List Answer) → by_row (Refuse why) (world m turns before rest) ≡ Replied
    (Refused why) (world m 0 before rest)
refused_stops turns m why h before rest = ap (λ (t : ℕ). Replied (Refused why) (world m t before rest)) h

pub act_stops : (turns : ℕ) (old new after : Machine) (reply : Reply) → turns ≡ 0 → new ≡ old →
    (before : List Asking) (rest : List Answer) → by_row (Act after reply) (world old turns before rest) ≡ Early
    Stopped (world new 0 before rest)
act_stops turns old new after reply h same before rest =
    let P : ℕ → Type 0 = λ t. by_row (Act after reply) (world old t before rest) ≡ Early Stopped
    (world new 0 before rest) in
    subst P (sym h) (ap (λ (m : Machine). Early Stopped (world m 0 before rest)) (sym same))

abbrev pub act_due : {T : Type 0} (growths : Growths T) (turns : ℕ) (old new : StoreParts T) (after : Machine)
    (reply : Reply) → turns ≡ 0 → new.turns ≡ 0 → new.machine ≡ old.machine → new.host_data ≡ old.host_data →
    Leads growths (by_row (Act after reply)) turns old (Early Stopped) new
act_due growths turns old new after reply h none same host = record {
  heard = [];
  left = 0;
  within = made_all new.turns turns (h ∙ sym none);
  chained = ap outside_of host;
  ends = λ before rest. no_question before new.machine rest (Early Stopped) _
      (act_stops turns old.machine new.machine after reply h same before rest);
}

abbrev pub refused_due : {T : Type 0} (growths : Growths T) (s : StoreParts T) (why : Refusal) → s.turns ≡ 0 →
    Leads growths (by_row (Refuse why)) s.turns s (Replied (Refused why)) s
refused_due growths s why none = record {
  heard = [];
  left = 0;
  within = made_all s.turns s.turns refl;
  chained = refl;
  ends = λ before rest. no_question before s.machine rest (Replied (Refused why)) _
      (refused_stops s.turns s.machine why none before rest);
}

-- a growth that the rule grants, with a turn and with none; and one that fails
pub grow_is : (turns : ℕ) (m : Machine) (p : Plan Reply) (rule : Rule) → plan_rule m p ≡ rule →
    (before : List Asking) (answers : List Answer) → by_row (Grow p) (world m turns before answers) ≡ by_rule Early
    (world m turns before answers) p (grown Early p replied) rule
grow_is turns m p rule e before answers =
    ap (λ (r : Rule). by_rule Early (world m turns before answers) p (grown Early p replied) r) e

pub grew : {T : Type 0} (growths : Growths T) (turns : ℕ) (old new : StoreParts T) (p : Plan Reply) →
    plan_rule old.machine p ≡ Grows → 1 ≤ turns → new.turns ≡ 1 → new.machine ≡ p.after →
    new.host_data ≡ old.host_data → Leads growths (by_row (Grow p)) turns old (Replied p.gives) new
grew growths zero old new p e h one same host = absurd (omega (arith, h))
grew growths (suc left) old new p e h one same host =
    quiet growths (by_row (Grow p)) (suc left) left old new (Replied p.gives) (omega arith) host
    (λ before rest. grow_is (suc left) old.machine p Grows e before rest
    ∙ ap (λ (m : Machine). Replied p.gives (world m left before rest)) (sym same))

pub growth_stops : (turns : ℕ) (old new : Machine) (p : Plan Reply) → plan_rule old p ≡ Grows → turns ≡ 0 →
    new ≡ old → (before : List Asking) (rest : List Answer) → by_row (Grow p) (world old turns before rest) ≡ Early
    Stopped (world new 0 before rest)
growth_stops turns old new p e h same before rest =
    let P : ℕ → Type 0 = λ t. by_row (Grow p) (world old t before rest) ≡ Early Stopped (world new 0 before rest) in
    subst P (sym h) (grow_is 0 old p Grows e before rest ∙ ap (λ (m : Machine). Early Stopped (world m 0 before rest))
    (sym same))

abbrev pub growth_due : {T : Type 0} (growths : Growths T) (turns : ℕ) (old new : StoreParts T) (p : Plan Reply) →
    plan_rule old.machine p ≡ Grows → turns ≡ 0 → new.turns ≡ 0 → new.machine ≡ old.machine →
    new.host_data ≡ old.host_data → Leads growths (by_row (Grow p)) turns old (Early Stopped) new
growth_due growths turns old new p e h none same host = record {
  heard = [];
  left = 0;
  within = made_all new.turns turns (h ∙ sym none);
  chained = ap outside_of host;
  ends = λ before rest. no_question before new.machine rest (Early Stopped) _
      (growth_stops turns old.machine new.machine p e h same before rest);
}

pub growth_failed : {T : Type 0} (growths : Growths T) (turns : ℕ) (old new : StoreParts T) (p : Plan Reply) →
    plan_rule old.machine p ≡ Fails → new.turns ≡ 0 → new.machine ≡ old.machine → new.host_data ≡ old.host_data →
    Leads growths (by_row (Grow p)) turns old (Replied (Refused GrowFailed)) new
growth_failed growths turns old new p e none same host =
    quiet growths (by_row (Grow p)) turns turns old new (Replied (Refused GrowFailed)) (omega arith) host
    (λ before rest. grow_is turns old.machine p Fails e before rest
    ∙ ap (λ (m : Machine). Replied (Refused GrowFailed) (world m turns before rest)) (sym same))

-- a growth that was asked for: one question, one answer
abbrev pub asking_of : Plan Reply → Result Bool LimiterFailed → Asking
asking_of p answer = (Growing p.growth, Grown answer)

abbrev pub decided : Plan Reply → Decision → World → Finish
decided p d w = grown Early p replied d w

pub asked_is : (left : ℕ) (m : Machine) (p : Plan Reply) (answer : Result Bool LimiterFailed) (d : Decision) →
    plan_rule m p ≡ Asks → answered_growth p.growth answer ≡ d → (before : List Asking) (rest : List Answer) →
    by_row (Grow p) (world m (suc left) before (Grown answer ∷ rest)) ≡ decided p d
    (world m left (before ++ asking_of p answer ∷ []) rest)
asked_is left m p answer d e by before rest =
    grow_is (suc left) m p Asks e before (Grown answer ∷ rest)
    ∙ ap (λ (x : Decision). decided p x (world m left (before ++ asking_of p answer ∷ []) rest)) by

asked : {T : Type 0} (growths : Growths T) (turns left rest : ℕ) (old new : StoreParts T) (p : Plan Reply)
    (answer : Result Bool LimiterFailed) (d : Decision) (ending : World → Finish) → turns ≡ suc left →
    plan_rule old.machine p ≡ Asks → growths old.host_data p.growth answer new.host_data → answered_growth p.growth
    answer ≡ d → new.turns + rest ≡ turns →
    ((before : List Asking) (others : List Answer) → decided p d (world old.machine left before others) ≡ ending
    (world new.machine rest before others)) → Leads growths (by_row (Grow p)) turns old ending new
asked growths turns left rest old new p answer d ending h e moved by within ends = record {
  heard = asking_of p answer ∷ [];
  left = rest;
  within = within;
  chained = (outside_of new.host_data, (new.host_data, moved, refl), refl);
  ends = λ before others.
      let P : ℕ → Type 0 = λ t. by_row (Grow p) (world old.machine t before (Grown answer ∷ others)) ≡ ending
      (world new.machine rest (before ++ asking_of p answer ∷ []) others) in
      subst P (sym h) (asked_is left old.machine p answer d e by before others
      ∙ ends (before ++ asking_of p answer ∷ []) others);
}

pub asked_failed : {T : Type 0} (growths : Growths T) (turns : ℕ) (old new : StoreParts T) (p : Plan Reply)
    (answer : Result Bool LimiterFailed) → plan_rule old.machine p ≡ Asks → growths old.host_data p.growth answer
    new.host_data → answered_growth p.growth answer ≡ Failed → 1 ≤ turns → new.turns ≡ 1 → new.machine ≡ old.machine →
    Leads growths (by_row (Grow p)) turns old (Replied (Refused GrowFailed)) new
asked_failed growths zero old new p answer e moved d h one same = absurd (omega (arith, h))
asked_failed growths (suc left) old new p answer e moved d h one same =
    asked growths (suc left) left left old new p answer Failed (Replied (Refused GrowFailed)) refl e moved d
    (omega arith)
    (λ before others. ap (λ (m : Machine). Replied (Refused GrowFailed) (world m left before others)) (sym same))

pub asked_faulted : {T : Type 0} (growths : Growths T) (turns : ℕ) (old new : StoreParts T) (p : Plan Reply)
    (answer : Result Bool LimiterFailed) → plan_rule old.machine p ≡ Asks → growths old.host_data p.growth answer
    new.host_data → answered_growth p.growth answer ≡ Faulted → 1 ≤ turns → new.turns ≡ 1 →
    new.machine ≡ old.machine → Leads growths (by_row (Grow p)) turns old (Replied (Refused LimiterFault)) new
asked_faulted growths zero old new p answer e moved d h one same = absurd (omega (arith, h))
asked_faulted growths (suc left) old new p answer e moved d h one same =
    asked growths (suc left) left left old new p answer Faulted (Replied (Refused LimiterFault)) refl e moved d
    (omega arith)
    (λ before others. ap (λ (m : Machine). Replied (Refused LimiterFault) (world m left before others)) (sym same))

-- granted by the answer, with a turn for the act, and with none
pub asked_grew : {T : Type 0} (growths : Growths T) (turns : ℕ) (old new : StoreParts T) (p : Plan Reply)
    (answer : Result Bool LimiterFailed) → plan_rule old.machine p ≡ Asks → growths old.host_data p.growth answer
    new.host_data → answered_growth p.growth answer ≡ Granted → 2 ≤ turns → new.turns ≡ 2 → new.machine ≡ p.after →
    Leads growths (by_row (Grow p)) turns old (Replied p.gives) new
asked_grew growths zero old new p answer e moved d h two same = absurd (omega (arith, h))
asked_grew growths (suc zero) old new p answer e moved d h two same = absurd (omega (arith, h))
asked_grew growths (suc (suc left)) old new p answer e moved d h two same =
    asked growths (suc (suc left)) (suc left) left old new p answer Granted (Replied p.gives) refl e moved d
    (omega arith)
    (λ before others. ap (λ (m : Machine). Replied p.gives (world m left before others)) (sym same))

pub asking_stops : (turns : ℕ) (old new : Machine) (p : Plan Reply) (answer : Result Bool LimiterFailed) →
    plan_rule old p ≡ Asks → answered_growth p.growth answer ≡ Granted → turns ≡ 1 → new ≡ old →
    (before : List Asking) (rest : List Answer) →
    by_row (Grow p) (world old turns before (Grown answer ∷ rest)) ≡ Early Stopped
    (world new 0 (before ++ asking_of p answer ∷ []) rest)
asking_stops turns old new p answer e d h same before rest =
    let P : ℕ → Type 0 = λ t. by_row (Grow p) (world old t before (Grown answer ∷ rest)) ≡ Early Stopped
    (world new 0 (before ++ asking_of p answer ∷ []) rest) in
    subst P (sym h) (asked_is 0 old p answer Granted e d before rest
    ∙ ap (λ (m : Machine). Early Stopped (world m 0 (before ++ asking_of p answer ∷ []) rest)) (sym same))

abbrev pub asked_due : {T : Type 0} (growths : Growths T) (turns : ℕ) (old new : StoreParts T) (p : Plan Reply)
    (answer : Result Bool LimiterFailed) → plan_rule old.machine p ≡ Asks → growths old.host_data p.growth answer
    new.host_data → answered_growth p.growth answer ≡ Granted → turns ≡ 1 → new.turns ≡ 1 →
    new.machine ≡ old.machine → Leads growths (by_row (Grow p)) turns old (Early Stopped) new
asked_due growths turns old new p answer e moved d h one same = record {
  heard = asking_of p answer ∷ [];
  left = 0;
  within = made_all new.turns turns (h ∙ sym one);
  chained = (outside_of new.host_data, (new.host_data, moved, refl), refl);
  ends = λ before rest. asking_stops turns old.machine new.machine p answer e d h same before rest;
}
