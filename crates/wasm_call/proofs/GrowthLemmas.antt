-- A growth by its rule, up to its act.
use Rattle.std.proofs.Common.{◌≡◌, ℕ, ◌+◌, ◌<◌, ◌≤◌, Bool, true, false, refl, ap, sym, ◌∙◌, subst, arith, lit≤, inl, inr}
use Rattle.std.specs.Prelude.{⊤, Result, Ok, Err}
use Rattle.wasm_meter.specs.Growths.{Growth, Growing, Memory, Table}
use Rattle.wasm_meter.specs.declared.faults.LimiterFailed.{LimiterFailed}
use Rattle.wasm_values.specs.declared.refusals.Refusal.{Refusal}
use Rattle.wasm_values.specs.declared.refusals.Refusal.TheVariants.{TurnLimit, GrowFailed, LimiterFault}
use Rattle.spec_machine.specs.Commands.{Grow}
use Rattle.spec_machine.specs.Growth.{Plan, plan_rule, Rule, Grows, Fails, Asks, Decision, Granted, Failed, Faulted, answered_growth}
use Rattle.spec_machine.specs.declared.reply.Reply.{Reply}
use Rattle.spec_machine.specs.declared.reply.Reply.TheVariants.{Refused}
use Rattle.store_state.specs.Growing.{growth_of, question_of, growing_of, growable_of, says, plan_says, decided}
use Rattle.store_state.specs.declared.growth.GrowthRule.{GrowthRule}
use Rattle.wasm_store.specs.Growths.{Settles}
use Rattle.wasm_store.specs.Stores.{StoreParts}
use Rattle.wasm_call.specs.Growths.{Begun, questions}
use Rattle.wasm_call.specs.Alone.{AnsweredWithin, ShortWithin}
use Rattle.wasm_call.specs.Outside.{Growths}
use Rattle.wasm_call.proofs.Rows.{gave, limited, grew, growth_due, growth_failed, asked_failed, asked_faulted, asked_grew, asked_due}

-- the turns of a rule: a question is one
abbrev pub rule_turns : Rule → ℕ
rule_turns Asks = 1
rule_turns _ = 0

-- what is known once the rule was settled
rule_turn : (rule : Rule) → rule_turns rule ≤ 1
rule_turn Asks = lit≤ tt
rule_turn _ = lit≤ tt

pub record Settled {T : Type 0} (growths : Growths T) (limit : ℕ) (p : Plan Reply) (rule : Rule) (old : StoreParts T)
    (result : Result ⊤ Refusal) (new : StoreParts T) : Type 0 where
  pub by : plan_rule old.machine p ≡ rule
  pub settles : Settles growths (says rule p.growth) old.host_data result new.host_data
  pub turns : new.turns ≡ rule_turns rule
  pub unchanged : new.machine ≡ old.machine
  pub some : 1 ≤ limit

-- a question is what it was made of
growth_question : (g : Growth) → growth_of (question_of g) ≡ g
growth_question g = by_object g.object refl where
  by_object : (o : Growing) → g.object ≡ o → growth_of (question_of g) ≡ g
  by_object Memory e = ap (λ (x : Growing). record g { object = growing_of (growable_of x) }) e
      ∙ ap (λ (x : Growing). record g { object = x }) (sym e)
  by_object Table e = ap (λ (x : Growing). record g { object = growing_of (growable_of x) }) e
      ∙ ap (λ (x : Growing). record g { object = x }) (sym e)

-- the limiter gave this answer, from which the result follows
record Heard {T : Type 0} (growths : Growths T) (g : Growth) (old : T) (result : Result ⊤ Refusal)
    (new : T) : Type 0 where
  answer : Result Bool LimiterFailed
  moved : growths old g answer new
  follows : result ≡ decided (answered_growth g answer)

heard : {T : Type 0} (growths : Growths T) (g : Growth) (old : T) (result : Result ⊤ Refusal) (new : T) →
    Settles growths (says Asks g) old result new → Heard growths g old result new
heard growths g old result new s =
    let P : Growth → Type 0 = λ x. Heard growths x old result new in
    subst P (growth_question g) (record { answer = s.0; moved = s.1; follows = s.2 })

answered_by : {T : Type 0} (growths : Growths T) (limit : ℕ) (p : Plan Reply) (old new : StoreParts T) (why : Refusal)
    (d : Decision) (answer : Result Bool LimiterFailed) → plan_rule old.machine p ≡ Asks →
    growths old.host_data p.growth answer new.host_data → answered_growth p.growth answer ≡ d → Err why ≡ decided d →
    1 ≤ limit → new.turns ≡ 1 → new.machine ≡ old.machine → AnsweredWithin growths limit (Grow p) old
    (Refused why) new
answered_by growths limit p old new why Granted answer e moved d because some one same = cc
answered_by growths limit p old new why Failed answer e moved d because some one same =
    let cause : why ≡ GrowFailed = cc in
    let P : Refusal → Type 0 = λ w. AnsweredWithin growths limit (Grow p) old (Refused w) new in
    subst P (sym cause) (gave growths limit (Grow p) (Refused GrowFailed) old new
    (asked_failed growths limit old new p answer e moved d some one same))
answered_by growths limit p old new why Faulted answer e moved d because some one same =
    let cause : why ≡ LimiterFault = cc in
    let P : Refusal → Type 0 = λ w. AnsweredWithin growths limit (Grow p) old (Refused w) new in
    subst P (sym cause) (gave growths limit (Grow p) (Refused LimiterFault) old new
    (asked_faulted growths limit old new p answer e moved d some one same))

-- the growth is refused
refused_by : {T : Type 0} (growths : Growths T) (limit : ℕ) (p : Plan Reply) (rule : Rule) (old new : StoreParts T)
    (why : Refusal) → Settled growths limit p rule old (Err why) new → AnsweredWithin growths limit (Grow p) old (Refused why) new
refused_by growths limit p Grows old new why s = let never = s.settles.0 in cc
refused_by {T} growths limit p Fails old new why s =
    let never = s.settles.0 in
    let cause : why ≡ GrowFailed = cc in
    let P : Refusal → Type 0 = λ w. AnsweredWithin growths limit (Grow p) old (Refused w) new in
    subst P (sym cause) (gave growths limit (Grow p) (Refused GrowFailed) old new
    (growth_failed growths limit old new p s.by s.turns s.unchanged s.settles.1))
refused_by growths limit p Asks old new why s =
    let h = heard growths p.growth old.host_data (Err why) new.host_data s.settles in
    answered_by growths limit p old new why (answered_growth p.growth h.answer) h.answer s.by h.moved refl h.follows s.some
    s.turns s.unchanged

-- the limiter was asked, and its question was the last turn
limited_by : {T : Type 0} (growths : Growths T) (limit : ℕ) (p : Plan Reply) (old new : StoreParts T) (d : Decision)
    (answer : Result Bool LimiterFailed) → plan_rule old.machine p ≡ Asks → growths old.host_data p.growth answer
    new.host_data → answered_growth p.growth answer ≡ d → Ok tt ≡ decided d → limit ≡ 1 →
    new.turns ≡ 1 → new.machine ≡ old.machine → AnsweredWithin growths limit (Grow p) old (Refused TurnLimit) new
limited_by growths limit p old new Granted answer e moved d because some one same =
    limited growths limit (Grow p) old new (asked_due growths limit old new p answer e moved d some one
    same)
limited_by growths limit p old new Failed answer e moved d because some one same = cc
limited_by growths limit p old new Faulted answer e moved d because some one same = cc

stopped_by : {T : Type 0} (growths : Growths T) (limit : ℕ) (p : Plan Reply) (rule : Rule) (old new : StoreParts T) →
    Settled growths limit p rule old (Ok tt) new → new.turns ≡ limit → AnsweredWithin growths limit (Grow p) old
    (Refused TurnLimit) new
stopped_by growths limit p Grows old new s last = absurd (omega (arith, s.turns, s.some))
stopped_by growths limit p Fails old new s last = absurd (omega (arith, s.turns, s.some))
stopped_by growths limit p Asks old new s last =
    let h = heard growths p.growth old.host_data (Ok tt) new.host_data s.settles in
    limited_by growths limit p old new (answered_growth p.growth h.answer) h.answer s.by h.moved refl h.follows
    (sym last ∙ s.turns) s.turns s.unchanged

-- the growth is granted, and has a turn for its act
granted_by : (g : Growth) (answer : Result Bool LimiterFailed) → answered_growth g answer ≡ Granted →
    answered_growth g (Ok true) ≡ Granted
granted_by g (Ok true) e = e
granted_by g (Ok false) e = cc
granted_by g (Err fault) e = cc

asked_acts : {T : Type 0} (growths : Growths T) (limit : ℕ) (p : Plan Reply) (old new after : StoreParts T)
    (answer : Result Bool LimiterFailed) → plan_rule old.machine p ≡ Asks → growths old.host_data p.growth answer
    new.host_data → answered_growth p.growth answer ≡ Granted → new.turns < limit → new.turns ≡ 1 →
    after.machine ≡ p.after → after.turns ≡ new.turns + 1 → after.host_data ≡ new.host_data →
    AnsweredWithin growths limit (Grow p) old p.gives after
asked_acts {T} growths limit p old new after answer e moved d some one m t h =
    let P : T → Type 0 = λ x. growths old.host_data p.growth answer x in
    gave growths limit (Grow p) p.gives old after
    (asked_grew growths limit old after p answer e (subst P (sym h) moved) d
    (omega (arith, one, some)) (omega (arith, one, t)) m)

asked_stops : {T : Type 0} (growths : Growths T) (limit : ℕ) (p : Plan Reply) (old new : StoreParts T)
    (answer : Result Bool LimiterFailed) → plan_rule old.machine p ≡ Asks → growths old.host_data p.growth answer
    new.host_data → answered_growth p.growth answer ≡ Granted → new.turns < limit → new.turns ≡ 1 →
    new.machine ≡ old.machine → ShortWithin growths limit (Grow p) old new
asked_stops growths limit p old new answer e moved d some one same = record {
  led = asked_due growths new.turns old new p answer e moved d one one same;
  unchanged = same;
  questions = one;
  within = omega (arith, some);
}

asked_begins : {T : Type 0} (growths : Growths T) (limit : ℕ) (p : Plan Reply) (old new : StoreParts T)
    (answer : Result Bool LimiterFailed) → plan_rule old.machine p ≡ Asks → growths old.host_data p.growth answer
    new.host_data → answered_growth p.growth answer ≡ Granted → new.turns < limit → new.turns ≡ 1 →
    new.machine ≡ old.machine → Begun growths limit p old new
asked_begins growths limit p old new answer e moved d some one same = record {
  granted = inr (e, granted_by p.growth answer d);
  unchanged = same;
  turns = omega (arith, one);
  acts = λ after m t h. asked_acts growths limit p old new after answer e moved d some one m t h;
  stops = asked_stops growths limit p old new answer e moved d some one same;
}

not_refused : (done : ⊤) (why : Refusal) → Ok done ≡ Err why → ⊥
not_refused done why e = cc

asked_by : {T : Type 0} (growths : Growths T) (limit : ℕ) (p : Plan Reply) (old new : StoreParts T) (d : Decision)
    (answer : Result Bool LimiterFailed) → plan_rule old.machine p ≡ Asks → growths old.host_data p.growth answer
    new.host_data → answered_growth p.growth answer ≡ d → Ok tt ≡ decided d → new.turns < limit →
    new.turns ≡ 1 → new.machine ≡ old.machine → Begun growths limit p old new
asked_by growths limit p old new Granted answer e moved d because some one same = asked_begins growths limit p old new answer e
    moved d some one same
asked_by growths limit p old new Failed answer e moved d because some one same = absurd (not_refused tt GrowFailed because)
asked_by growths limit p old new Faulted answer e moved d because some one same = absurd (not_refused tt LimiterFault because)

begun_by : {T : Type 0} (growths : Growths T) (limit : ℕ) (p : Plan Reply) (rule : Rule) (old new : StoreParts T) →
    Settled growths limit p rule old (Ok tt) new → new.turns < limit → Begun growths limit p old new
begun_by growths limit p Grows old new s some = record {
  granted = inl s.by;
  unchanged = s.unchanged;
  turns = omega (arith, s.turns);
  acts = λ after m t h. gave growths limit (Grow p) p.gives old after
      (grew growths limit old after p s.by s.some (omega (arith, t, s.turns)) m (h ∙ s.settles.1));
  stops = record {
    led = growth_due growths new.turns old new p s.by s.turns s.turns s.unchanged s.settles.1;
    unchanged = s.unchanged;
    questions = s.turns;
    within = omega (arith, some);
  };
}
begun_by growths limit p Fails old new s some = absurd (not_refused tt GrowFailed s.settles.0)
begun_by growths limit p Asks old new s some =
    let h = heard growths p.growth old.host_data (Ok tt) new.host_data s.settles in
    asked_by growths limit p old new (answered_growth p.growth h.answer) h.answer s.by h.moved refl h.follows some s.turns
    s.unchanged

-- the same, by what code holds of the rule
questions_of : (rule : Rule) (g : Growth) → questions (says rule g) ≡ rule_turns rule
questions_of Grows g = refl
questions_of Fails g = refl
questions_of Asks g = refl

settled : {T : Type 0} (growths : Growths T) (limit : ℕ) (p : Plan Reply) (rule : GrowthRule) (result : Result ⊤ Refusal)
    (old mid new : StoreParts T) → rule ≡ plan_says old.machine p → mid ≡ record old { turns = questions rule } →
    Settles growths rule mid.host_data result new.host_data → new.machine ≡ mid.machine → new.turns ≡ mid.turns →
    1 ≤ limit → Settled growths limit p (plan_rule old.machine p) old result new
settled {T} growths limit p rule result old mid new e counted s same turns some =
    let P : GrowthRule → Type 0 = λ r. Settles growths r old.host_data result new.host_data in
    let Q : T → Type 0 = λ h. Settles growths rule h result new.host_data in
    record {
      by = refl;
      settles = subst P e (subst Q (ap (λ (x : StoreParts T). x.host_data) counted) s);
      turns = turns ∙ ap (λ (x : StoreParts T). x.turns) counted ∙ ap questions e
          ∙ questions_of (plan_rule old.machine p) p.growth;
      unchanged = same ∙ ap (λ (x : StoreParts T). x.machine) counted;
      some = some;
    }

pub begun_refused : {T : Type 0} (growths : Growths T) (limit : ℕ) (p : Plan Reply) (rule : GrowthRule) (why : Refusal)
    (old mid new : StoreParts T) → rule ≡ plan_says old.machine p → mid ≡ record old { turns = questions rule } →
    Settles growths rule mid.host_data (Err why) new.host_data → new.machine ≡ mid.machine → new.turns ≡ mid.turns →
    1 ≤ limit → AnsweredWithin growths limit (Grow p) old (Refused why) new
begun_refused growths limit p rule why old mid new e counted s same turns some =
    refused_by growths limit p (plan_rule old.machine p) old new why
    (settled growths limit p rule (Err why) old mid new e counted s same turns some)

pub begun_stopped : {T : Type 0} (growths : Growths T) (limit : ℕ) (p : Plan Reply) (rule : GrowthRule)
    (old mid new : StoreParts T) → rule ≡ plan_says old.machine p → mid ≡ record old { turns = questions rule } →
    Settles growths rule mid.host_data (Ok tt) new.host_data → new.machine ≡ mid.machine → new.turns ≡ mid.turns →
    1 ≤ limit → new.turns ≡ limit → AnsweredWithin growths limit (Grow p) old
    (Refused TurnLimit) new
begun_stopped growths limit p rule old mid new e counted s same turns some last =
    let all = settled growths limit p rule (Ok tt) old mid new e counted s same turns some in
    stopped_by growths limit p (plan_rule old.machine p) old new all last

pub begun : {T : Type 0} (growths : Growths T) (limit : ℕ) (p : Plan Reply) (rule : GrowthRule) (old mid new : StoreParts T) →
    rule ≡ plan_says old.machine p → mid ≡ record old { turns = questions rule } → Settles growths rule mid.host_data
    (Ok tt) new.host_data → new.machine ≡ mid.machine → new.turns ≡ mid.turns → 1 ≤ limit →
    ¬ (new.turns ≡ limit) → Begun growths limit p old new
begun growths limit p rule old mid new e counted s same turns some more =
    let all = settled growths limit p rule (Ok tt) old mid new e counted s same turns some in
    let first = rule_turn (plan_rule old.machine p) in
    begun_by growths limit p (plan_rule old.machine p) old new all (omega (arith, first, all.turns, some, more))
