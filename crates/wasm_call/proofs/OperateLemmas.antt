-- An operation that runs no code, by its row: whatever is done behind its reply, and however many turns are left.
use Rattle.std.proofs.Common.{◌≡◌, ◌⊎◌, inl, inr, ℕ, zero, suc, ◌+◌, ◌≤◌, ◌<◌, List, [], ◌∷◌, ◌++◌, Some, refl, ap, sym, ◌∙◌, arith}
use Rattle.std.specs.Prelude.{Bool, true, false, if◌then◌else◌, Ok, Err}
use Rattle.std.proofs.lemmas.Option.{same_Some, none-some}
use Rattle.spec_machine.specs.Commands.{Row, Refuse, Act, ActAt, Grow, Invoke, Instantiate}
use Rattle.spec_machine.specs.Growth.{Plan, plan_rule, Rule, Grows, Fails, Asks, Decision, Granted, Failed, Faulted, answered_growth}
use Rattle.spec_machine.specs.Machine.{Machine}
use Rattle.spec_machine.specs.declared.reply.Reply.{Reply}
use Rattle.spec_execution.specs.Askings.{Question, Growing, Reading, Answer, Grown, Has, Passed, Read, Behaved, Stepped, Asking, is_answer}
use Rattle.spec_execution.specs.Bodies.{exec}
use Rattle.spec_execution.specs.Checks.{by_answer, by_rule}
use Rattle.spec_execution.specs.Commands.{Finish, Replied, Early, acts, dated, grown, perform, replied}
use Rattle.spec_execution.specs.Outcomes.{World, world, Outcome, Over, Trapped, Refused, Stopped, Waiting, Exhausted, Stuck, on_turn, ask, hear}
use Rattle.code_hosts.specs.Operating.{IsDue}
use Rattle.wasm_call.specs.Outcomes.{by_row, answer_of}
use Rattle.wasm_call.proofs.Plain.{IsCodeless}

-- ---- what is done behind the reply of a command stands behind its end

abbrev pub on_reply : (World → Reply → Outcome) → Finish → Outcome
on_reply go (Replied answer w) = go w answer
on_reply go (Early e w) = Over e w

module _ (go : World → Reply → Outcome) where
  acts_on : (w : World) (after : Machine) (answer : Reply) →
      acts Over w after answer go ≡ on_reply go (acts Early w after answer replied)
  acts_on w after answer = by_turns w.turns where
    by_turns : (n : ℕ) → on_turn Over w (λ v. go (record v { machine = after }) answer) n
        ≡ on_reply go (on_turn Early w (λ v. replied (record v { machine = after }) answer) n)
    by_turns zero = refl
    by_turns (suc n) = refl

  if_on : (b : Bool) (x y : Outcome) (u v : Finish) → x ≡ on_reply go u → y ≡ on_reply go v →
      (if b then x else y) ≡ on_reply go (if b then u else v)
  if_on true x y u v e k = e
  if_on false x y u v e k = k

  module _ (q : Question) (f : Answer → World → Outcome) (h : Answer → World → Finish)
      (same : (a : Answer) (v : World) → f a v ≡ on_reply go (h a v)) where
    hear_on : (w : World) (answers : List Answer) → hear Over w q f answers ≡ on_reply go (hear Early w q h answers)
    hear_on w [] = refl
    hear_on w (a ∷ answers) =
        let v = record w { heard = w.heard ++ (q, a) ∷ []; answers = answers } in
        if_on (is_answer q a) (f a v) (Over (Waiting q) w) (h a v) (Early (Waiting q) w) (same a v) refl

    ask_on : (w : World) → ask Over w q f ≡ on_reply go (ask Early w q h)
    ask_on w = by_turns w.turns where
      by_turns : (n : ℕ) → on_turn Over w (λ v. hear Over v q f v.answers) n
          ≡ on_reply go (on_turn Early w (λ v. hear Early v q h v.answers) n)
      by_turns zero = refl
      by_turns (suc n) = hear_on (record w { turns = n }) w.answers

  dated_on : (after : ℕ → Machine) (answer : Reply) (a : Answer) (w : World) →
      dated Over after answer go a w ≡ on_reply go (dated Early after answer replied a w)
  dated_on after answer (Read (Ok reading)) w = acts_on w (after reading) answer
  dated_on after answer (Read (Err fault)) w = refl
  dated_on after answer (Grown a) w = refl
  dated_on after answer (Has a) w = refl
  dated_on after answer (Passed a) w = refl
  dated_on after answer (Behaved a) w = refl
  dated_on after answer (Stepped s a) w = refl

  module _ (p : Plan Reply) where
    grown_on : (d : Decision) (w : World) → grown Over p go d w ≡ on_reply go (grown Early p replied d w)
    grown_on Granted w = acts_on w p.after p.gives
    grown_on Failed w = refl
    grown_on Faulted w = refl

    answer_on : (a : Answer) (w : World) → by_answer Over p.growth (grown Over p go) a w
        ≡ on_reply go (by_answer Early p.growth (grown Early p replied) a w)
    answer_on (Grown a) w = grown_on (answered_growth p.growth a) w
    answer_on (Read a) w = refl
    answer_on (Has a) w = refl
    answer_on (Passed a) w = refl
    answer_on (Behaved a) w = refl
    answer_on (Stepped s a) w = refl

    rule_on : (rule : Rule) (w : World) →
        by_rule Over w p (grown Over p go) rule ≡ on_reply go (by_rule Early w p (grown Early p replied) rule)
    rule_on Grows w = grown_on Granted w
    rule_on Fails w = grown_on Failed w
    rule_on Asks w = ask_on (Growing p.growth) (by_answer Over p.growth (grown Over p go))
        (by_answer Early p.growth (grown Early p replied)) answer_on w

  pub row_on : (depth : ℕ) (r : Row) → IsCodeless r → (w : World) →
      perform Over exec depth w r go ≡ on_reply go (by_row r w)
  row_on depth (Refuse why) plain w = refl
  row_on depth (Act after answer) plain w = acts_on w after answer
  row_on depth (ActAt after answer) plain w =
      ask_on Reading (dated Over after answer go) (dated Early after answer replied) (dated_on after answer) w
  row_on depth (Grow p) plain w = rule_on p (plan_rule w.machine p) w
  row_on depth (Invoke c) plain w = absurd plain
  row_on depth (Instantiate d imports) plain w = absurd plain

-- ---- how many turns it takes

-- where it was replied to or stopped, no turn is left
abbrev Ends : Finish → Type 0
Ends o = (answer : Reply) (w : World) → answer_of o ≡ Some (answer, w) → w.turns ≡ 0

-- by the number of turns: it is never replied to while one is left, or always by so many, with those that are left
data Turns (f : ℕ → Finish) : Type 0 where
  Never : ((t : ℕ) → Ends (f t)) → Turns f
  After : (spent : ℕ) (answer : Reply) (v : World) →
      ((t extra : ℕ) → t ≡ spent + extra → f t ≡ Replied answer (record v { turns = extra })) →
      ((t : ℕ) → t < spent → Ends (f t)) → Turns f

stopped_ends : (w : World) → w.turns ≡ 0 → Ends (Early Stopped w)
stopped_ends w none answer v e = ap (λ (p : Reply × World). p.1.turns) (sym (same_Some _ _ e)) ∙ none

waiting_ends : (q : Question) (w : World) → Ends (Early (Waiting q) w)
waiting_ends q w answer v e = absurd (none-some (answer, v) e)

turns_asked : (f : ℕ → Finish) → Ends (f 0) → Turns (λ t. f (suc t)) → Turns f
turns_asked f first (Never h) = Never by_turns where
  by_turns : (t : ℕ) → Ends (f t)
  by_turns zero = first
  by_turns (suc t) = h t
turns_asked f first (After spent answer v h k) = After (suc spent) answer v replies by_turns where
  replies : (t extra : ℕ) → t ≡ suc spent + extra → f t ≡ Replied answer (record v { turns = extra })
  replies zero extra e = absurd (omega (arith, e))
  replies (suc t) extra e = h t extra (omega (arith, e))

  by_turns : (t : ℕ) → t < suc spent → Ends (f t)
  by_turns zero less = first
  by_turns (suc t) less = k t (omega (arith, less))

module _ (m : Machine) (before : List Asking) (answers : List Answer) where
  turns_now : (answer : Reply) → Turns (λ t. Replied answer (world m t before answers))
  turns_now answer = After 0 answer (world m 0 before answers) replies (λ t less. absurd (omega (arith, less))) where
    replies : (t extra : ℕ) → t ≡ 0 + extra →
        Replied answer (world m t before answers) ≡ Replied answer (world m extra before answers)
    replies t extra e =
        let same : t ≡ extra = omega (arith, e) in ap (λ n. Replied answer (world m n before answers)) same

  turns_waiting : (q : Question) → Turns (λ t. Early (Waiting q) (world m t before answers))
  turns_waiting q = Never (λ t. waiting_ends q (world m t before answers))

  turns_act : (after : Machine) (answer : Reply) →
      Turns (λ t. acts Early (world m t before answers) after answer replied)
  turns_act after answer = After 1 answer (world after 0 before answers) replies by_turns where
    replies : (t extra : ℕ) → t ≡ 1 + extra → acts Early (world m t before answers) after answer replied
        ≡ Replied answer (world after extra before answers)
    replies zero extra e = absurd (omega (arith, e))
    replies (suc t) extra e =
        let same : t ≡ extra = omega (arith, e) in ap (λ n. Replied answer (world after n before answers)) same

    by_turns : (t : ℕ) → t < 1 → Ends (acts Early (world m t before answers) after answer replied)
    by_turns zero less = stopped_ends (world m 0 before answers) refl
    by_turns (suc t) less = absurd (omega (arith, less))

  turns_grown : (p : Plan Reply) (d : Decision) → Turns (λ t. grown Early p replied d (world m t before answers))
  turns_grown p Granted = turns_act p.after p.gives
  turns_grown p Failed = turns_now _
  turns_grown p Faulted = turns_now _

module _ (m : Machine) (before : List Asking) where
  turns_dated : (after : ℕ → Machine) (answer : Reply) (answers : List Answer) →
      Turns (λ t. hear Early (world m t before answers) Reading (dated Early after answer replied) answers)
  turns_dated after answer [] = turns_waiting m before [] Reading
  turns_dated after answer (Read (Ok reading) ∷ rest) = turns_act m _ rest (after reading) answer
  turns_dated after answer (Read (Err fault) ∷ rest) = turns_now m _ rest _
  turns_dated after answer (Grown a ∷ rest) = turns_waiting m before _ Reading
  turns_dated after answer (Has a ∷ rest) = turns_waiting m before _ Reading
  turns_dated after answer (Passed a ∷ rest) = turns_waiting m before _ Reading
  turns_dated after answer (Behaved a ∷ rest) = turns_waiting m before _ Reading
  turns_dated after answer (Stepped s a ∷ rest) = turns_waiting m before _ Reading

  module _ (p : Plan Reply) where
    turns_decided : (answers : List Answer) →
        Turns (λ t. hear Early (world m t before answers) (Growing p.growth)
        (by_answer Early p.growth (grown Early p replied)) answers)
    turns_decided [] = turns_waiting m before [] (Growing p.growth)
    turns_decided (Grown a ∷ rest) = turns_grown m _ rest p (answered_growth p.growth a)
    turns_decided (Read a ∷ rest) = turns_waiting m before _ (Growing p.growth)
    turns_decided (Has a ∷ rest) = turns_waiting m before _ (Growing p.growth)
    turns_decided (Passed a ∷ rest) = turns_waiting m before _ (Growing p.growth)
    turns_decided (Behaved a ∷ rest) = turns_waiting m before _ (Growing p.growth)
    turns_decided (Stepped s a ∷ rest) = turns_waiting m before _ (Growing p.growth)

    turns_rule : (rule : Rule) (answers : List Answer) →
        Turns (λ t. by_rule Early (world m t before answers) p (grown Early p replied) rule)
    turns_rule Grows answers = turns_grown m before answers p Granted
    turns_rule Fails answers = turns_grown m before answers p Failed
    turns_rule Asks answers =
        turns_asked _ (stopped_ends (world m 0 before answers) refl) (turns_decided answers)

  turns_row : (r : Row) → IsCodeless r → (answers : List Answer) → Turns (λ t. by_row r (world m t before answers))
  turns_row (Refuse why) plain answers = turns_now m before answers _
  turns_row (Act after answer) plain answers = turns_act m before answers after answer
  turns_row (ActAt after answer) plain answers =
      turns_asked _ (stopped_ends (world m 0 before answers) refl) (turns_dated after answer answers)
  turns_row (Grow p) plain answers = turns_rule p (plan_rule m p) answers
  turns_row (Invoke c) plain answers = absurd plain
  turns_row (Instantiate d imports) plain answers = absurd plain

-- ---- a command that was replied to while turns were left

order : (k t : ℕ) → (t < k) ⊎ ((d : ℕ) × (t ≡ k + d))
order zero t = inr (t, omega arith)
order (suc k) zero = inl (omega arith)
order (suc k) (suc t) = on (order k t) where
  on : (t < k) ⊎ ((d : ℕ) × (t ≡ k + d)) → (suc t < suc k) ⊎ ((d : ℕ) × (suc t ≡ suc k + d))
  on (inl less) = inl (omega (arith, less))
  on (inr more) = inr (more.0, omega (arith, more.1))

module _ (f : ℕ → Finish) (spent left extra : ℕ) (answer : Reply) (v : World) (some : 1 ≤ left) (is : v.turns ≡ left)
    (e : answer_of (f (spent + left)) ≡ Some (answer, v)) where
  by_pair : (said : Reply) (w : World) (k d : ℕ) →
      ((t n : ℕ) → t ≡ k + n → f t ≡ Replied said (record w { turns = n })) → spent + left ≡ k + d →
      f (spent + extra) ≡ Replied answer (record v { turns = extra })
  by_pair said w k d h same =
      let p : ◌≡◌ {A = Reply × World} (said, record w { turns = d }) (answer, v) =
      same_Some {A = Reply × World} (said, record w { turns = d }) (answer, v)
      (ap answer_of (sym (h (spent + left) d same)) ∙ e) in
      let turns : d ≡ left = ap (λ (x : Reply × World). x.1.turns) p ∙ is in
      let whole : spent + extra ≡ k + extra = omega (arith, turns, same) in
      h (spent + extra) extra whole ∙ ap (λ (x : Reply × World). Replied x.0 (record x.1 { turns = extra })) p

  replied_on : Turns f → f (spent + extra) ≡ Replied answer (record v { turns = extra })
  replied_on (Never h) = absurd (omega (arith, some, is, h (spent + left) answer v e))
  replied_on (After k said w h before) = by_order (order k (spent + left)) where
    by_order : (spent + left < k) ⊎ ((d : ℕ) × (spent + left ≡ k + d)) →
        f (spent + extra) ≡ Replied answer (record v { turns = extra })
    by_order (inl less) = absurd (omega (arith, some, is, before (spent + left) less answer v e))
    by_order (inr more) = by_pair said w k more.0 h more.1

-- so are those that follow, whatever turns are left
pub row_replied : (r : Row) → IsCodeless r → (m after : Machine) (before heard : List Asking) (answers rest : List Answer)
    (spent left extra : ℕ) (answer : Reply) → 1 ≤ left →
    answer_of (by_row r (world m (spent + left) before answers)) ≡ Some (answer, world after left heard rest) →
    by_row r (world m (spent + extra) before answers) ≡ Replied answer (world after extra heard rest)
row_replied r plain m after before heard answers rest spent left extra answer some e =
    replied_on (λ t. by_row r (world m t before answers)) spent left extra answer (world after left heard rest) some refl
    e (turns_row m before r plain answers)

-- ---- and one that left none

module _ (go : World → Reply → Outcome) (due : IsDue go) where
  pub reply_due : (o : Finish) (answer : Reply) (v : World) → v.turns ≡ 0 → answer_of o ≡ Some (answer, v) →
      on_reply go o ≡ Over Stopped v
  reply_due (Replied said w) answer v none e =
      let same : w ≡ v = ap (λ (p : Reply × World). p.1) (same_Some _ _ e) in
      due w said (ap (λ (x : World). x.turns) same ∙ none) ∙ ap (Over Stopped) same
  reply_due (Early Stopped w) answer v none e = ap (λ (p : Reply × World). Over Stopped p.1) (same_Some _ _ e)
  reply_due (Early (Trapped t) w) answer v none e = absurd (none-some _ e)
  reply_due (Early (Refused why) w) answer v none e = absurd (none-some _ e)
  reply_due (Early (Waiting q) w) answer v none e = absurd (none-some _ e)
  reply_due (Early Exhausted w) answer v none e = absurd (none-some _ e)
  reply_due (Early Stuck w) answer v none e = absurd (none-some _ e)

  -- with no turn it is stopped where it stands
  acts_due : (m after : Machine) (answer : Reply) (before : List Asking) (answers : List Answer) →
      acts Over (world m 0 before answers) after answer go ≡ Over Stopped (world m 0 before answers)
  acts_due m after answer before answers = refl

  rule_due : (m : Machine) (p : Plan Reply) (before : List Asking) (answers : List Answer) (rule : Rule) →
      by_rule Over (world m 0 before answers) p (grown Over p go) rule ≡ Over Stopped (world m 0 before answers)
  rule_due m p before answers Grows = refl
  rule_due m p before answers Fails = due _ _ refl
  rule_due m p before answers Asks = refl

  pub row_due : (depth : ℕ) (r : Row) → IsCodeless r → (m : Machine) (before : List Asking) (answers : List Answer) →
      perform Over exec depth (world m 0 before answers) r go ≡ Over Stopped (world m 0 before answers)
  row_due depth (Refuse why) plain m before answers = due _ _ refl
  row_due depth (Act after answer) plain m before answers = refl
  row_due depth (ActAt after answer) plain m before answers = refl
  row_due depth (Grow p) plain m before answers = rule_due m p before answers (plan_rule m p)
  row_due depth (Invoke c) plain m before answers = absurd plain
  row_due depth (Instantiate d imports) plain m before answers = absurd plain
