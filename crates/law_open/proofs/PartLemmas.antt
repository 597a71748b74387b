-- Parts of a call, one after another, and how it ends behind them.
use Rattle.std.proofs.Common.{◌≡◌, ℕ, ◌+◌, ◌-◌, ◌≤◌, List, [], ◌∷◌, ◌++◌, Some, sym, ap, ◌∙◌, subst, arith, add_assoc, append_assoc}
use Rattle.std.proofs.lemmas.List.{append-nil, map-append}
use Rattle.std.proofs.lemmas.Option.{same_Some}
use Rattle.spec_machine.specs.FunctionCalls.{Called}
use Rattle.spec_machine.specs.Machine.{Machine}
use Rattle.spec_machine.specs.declared.reply.Reply.{Reply}
use Rattle.spec_execution.specs.Askings.{Question, Answer, Asking, Chain, answers_in}
use Rattle.spec_execution.specs.Outcomes.{World, world, Outcome}
use Rattle.law_open.specs.Opens.{Doing, Leads, Open, whole, begun, GoesOn, Part, InParts, all_heard, HearsInParts, Ends, told}
use Rattle.law_open.specs.OpenLaws.{BeginningsStand, GoingOnStands, SlicesAreWhole, SlicesEndAlike, SlicesAreFew}

-- the answers of two parts, one after the other
pub answers_behind : (xs ys : List Asking) (rest : List Answer)
    → answers_in (xs ++ ys) ++ rest ≡ answers_in xs ++ (answers_in ys ++ rest)
answers_behind xs ys rest =
    ap (λ answers. answers ++ rest) (map-append (λ (asking : Asking). asking.1) xs ys)
    ∙ append_assoc (answers_in xs) (answers_in ys) rest

pub leads_none : (a : Doing) (m : Machine) → Leads a m 0 [] a m
leads_none a m = record {
  by = λ extra before rest.
      let e : 0 + extra ≡ extra = omega arith in
      ap (λ t. a (world m t before rest)) e ∙ ap (λ q. a (world m extra q rest)) (sym (append-nil before));
}

module _ (a b : Doing) (m n : Machine) (made : ℕ) (heard : List Asking) (l : Leads a m made heard b n) where
  first : (turns : ℕ) (before more : List Asking) (rest : List Answer)
      → a (world m (made + turns) before (answers_in (heard ++ more) ++ rest))
      ≡ b (world n turns (before ++ heard) (answers_in more ++ rest))
  first turns before more rest =
      ap (λ answers. a (world m (made + turns) before answers)) (answers_behind heard more rest)
      ∙ l.by turns before (answers_in more ++ rest)

  -- behind what leads somewhere
  pub leads_on : (spent : ℕ) (more : List Asking) (c : Doing) (k : Machine) → Leads b n spent more c k
      → Leads a m (made + spent) (heard ++ more) c k
  leads_on spent more c k j = record {
    by = λ extra before rest.
        ap (λ t. a (world m t before (answers_in (heard ++ more) ++ rest))) (add_assoc made spent extra)
        ∙ first (spent + extra) before more rest ∙ j.by extra (before ++ heard) rest
        ∙ ap (λ q. c (world k extra q rest)) (append_assoc before heard more);
  }

  -- it ends as that does, with as many turns more as were made
  pub ends_on : {O : Type 0} (tells : Outcome → O) (turns : ℕ) → made ≤ turns → (more : List Asking) (ending : World → O)
      (k : Machine) (unused : ℕ) → Ends tells b n (turns - made) more ending k unused
      → Ends tells a m turns (heard ++ more) ending k unused
  ends_on tells turns le more ending k unused j before rest =
      let e : turns ≡ made + (turns - made) = omega (arith, le) in
      ap (λ t. tells (a (world m t before (answers_in (heard ++ more) ++ rest)))) e
      ∙ ap tells (first (turns - made) before more rest) ∙ j (before ++ heard) rest
      ∙ ap (λ q. ending (world k unused q rest)) (append_assoc before heard more)

-- ---- parts

-- what they lead to together
pub record Through (x : Open) (heard : List Asking) (y : Open) : Type 0 where
  pub spent : ℕ
  pub made : y.made ≡ x.made + spent
  pub leads : Leads x.due x.machine spent heard y.due y.machine

pub parts_lead : (x y : Open) (parts : List Part) → InParts x parts y → Through x (all_heard parts) y
parts_lead x y [] e =
    subst (λ (z : Open). Through x [] z) (sym e)
    (record { spent = 0; made = omega arith; leads = leads_none x.due x.machine })
parts_lead x y (part ∷ parts) p =
    let g : GoesOn x part.heard part.next = p.0 in
    let k : Through part.next (all_heard parts) y = parts_lead part.next y parts p.1 in
    record {
      spent = g.spent + k.spent;
      made = omega (arith, g.made, k.made);
      leads =
          leads_on x.due part.next.due x.machine part.next.machine g.spent part.heard g.leads k.spent (all_heard parts)
          y.due y.machine k.leads;
    }

-- and from the beginning of a call
pub parts_begin : (c : Called) (first : Machine) (x : Open) (parts : List Part) → InParts (begun c first) parts x
    → Leads (whole c) first x.made (all_heard parts) x.due x.machine
parts_begin c first x parts p =
    let k : Through (begun c first) (all_heard parts) x = parts_lead (begun c first) x parts p in
    let e : k.spent ≡ x.made = omega (arith, k.made) in
    subst (λ n. Leads (whole c) first n (all_heard parts) x.due x.machine) e k.leads

-- ---- what is outside

chain_on : {W : Type 0} (moves : W → Question → Answer → W → Type 0) (old mid new : W) (heard more : List Asking)
    → Chain moves old heard mid → Chain moves mid more new → Chain moves old (heard ++ more) new
chain_on moves old mid new [] more e d = subst (λ (o : _). Chain moves o more new) e d
chain_on moves old mid new (asking ∷ heard) more c d = (c.0, c.1, chain_on moves c.0 mid new heard more c.2 d)

-- it went so by all that was heard
pub chain_in_parts : {W : Type 0} (moves : W → Question → Answer → W → Type 0) (old new : W) (parts : List Part)
    → HearsInParts moves old parts new → Chain moves old (all_heard parts) new
chain_in_parts moves old new [] e = e
chain_in_parts moves old new (part ∷ parts) h =
    chain_on moves old h.0 new part.heard (all_heard parts) h.1 (chain_in_parts moves h.0 new parts h.2)

-- ---- the laws

pub beginnings_stand : BeginningsStand
beginnings_stand c first = record { within = omega arith; leads = leads_none (whole c) first }

pub goes_on_stands : GoingOnStands
goes_on_stands c first heard more x y s g within = record {
  within = within;
  leads =
      subst (λ n. Leads (whole c) first n (heard ++ more) y.due y.machine) (sym g.made)
      (leads_on (whole c) x.due first x.machine x.made heard s.leads g.spent more y.due y.machine g.leads);
}

-- however it is told how it ended
pub ends_in_parts : {O : Type 0} (tells : Outcome → O) (c : Called) (first n : Machine) (turns unused : ℕ)
    (parts : List Part) (x : Open) (more : List Asking) (ending : World → O) → InParts (begun c first) parts x
    → x.made ≤ turns → Ends tells x.due x.machine (turns - x.made) more ending n unused
    → Ends tells (whole c) first turns (all_heard parts ++ more) ending n unused
ends_in_parts tells c first n turns unused parts x more ending p le e =
    ends_on (whole c) x.due first x.machine x.made (all_heard parts) (parts_begin c first x parts p) tells turns le more
    ending n unused e

pub slices_are_whole : SlicesAreWhole
slices_are_whole c first n turns unused parts x more reply p le e =
    ends_in_parts (told c) c first n turns unused parts x more (λ w. Some (reply, w)) p le e

pub slices_end_alike : SlicesEndAlike
slices_end_alike c first n n' turns unused unused' heard heard' rest rest' reply reply' e e' same =
    let ends : Some (reply, world n unused heard rest) ≡ Some (reply', world n' unused' heard' rest') =
    sym (e [] rest) ∙ ap (λ answers. told c (whole c (world first turns [] answers))) same ∙ e' [] rest' in
    let one : (reply, world n unused heard rest) ≡ (reply', world n' unused' heard' rest') =
    same_Some (reply, world n unused heard rest) (reply', world n' unused' heard' rest') ends in
    let there : world n unused heard rest ≡ world n' unused' heard' rest' = ap (λ (p : Reply × World). p.1) one in (
      ap (λ (p : Reply × World). p.0) one,
      ap (λ (w : World). w.machine) there,
      ap (λ (w : World). w.turns) there,
      ap (λ (w : World). w.heard) there,
      ap (λ (w : World). w.answers) there,
    )

pub slices_are_few : SlicesAreFew
slices_are_few x y [] e = omega (arith, ap (λ (z : Open). z.made) e)
slices_are_few x y (part ∷ parts) p =
    let g : GoesOn x part.heard part.next = p.0 in
    omega (arith, g.goes, g.made, slices_are_few part.next y parts p.1)
