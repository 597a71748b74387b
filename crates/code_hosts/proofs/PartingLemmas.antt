-- Parts of an advance: a part behind turns, and how much is ahead.
use Rattle.std.proofs.Common.{Some, ◌≡◌, ℕ, ◌+◌, ◌*◌, ◌-◌, ◌≤◌, List, ◌++◌, refl, sym, ap, ◌∙◌, subst, arith}
use Rattle.std.specs.Prelude.{Result, Ok, Err, IfOk, IfErr}
use Rattle.spec_execution.specs.Askings.{Question, Answer, Asking, answers_in, Chain}
use Rattle.spec_execution.specs.Outcomes.{World, Over}
use Rattle.code_leaps.specs.Leading.{Doing, Setting, at, halted, Leads, Halts}
use Rattle.code_stack.specs.Steps.{end_of}
use Rattle.code_stack.specs.declared.steps.Fault.{Fault}
use Rattle.code_hosts.specs.declared.replies.How.{How}
use Rattle.code_hosts.specs.Behind.{ended}
use Rattle.code_hosts.specs.Parting.{awaited, later}
use Rattle.code_hosts.specs.Rounds.{IsEnd, IsNearer, RoundBy, Rounds}
use Rattle.code_hosts.specs.declared.rounds.Lacking.{Lacking}
use Rattle.code_hosts.specs.declared.rounds.Round.{Round}
use Rattle.code_hosts.specs.declared.rounds.Round.TheVariants as round
use Rattle.code_hosts.specs.declared.rounds.Rounded.{Rounded}
use Rattle.code_hosts.specs.declared.states.Open.TheVariants as working
use Rattle.code_hosts.specs.declared.states.Waiting.{Waiting}
use Rattle.code_hosts.proofs.RoundLemmas.{rounds_on}
use Rattle.store_state.specs.Tanks.{most_owed}
use Rattle.code_leaps.specs.Spending.{most_cost}

-- ---- of results

pub if_ok : {A X : Type 0} (P Q : A → Type 0) (r : Result A X) → IfOk r P → ((x : A) → P x → Q x) → IfOk r Q
if_ok P Q (Ok x) p f = f x p
if_ok P Q (Err x) p f = tt

pub if_err : {A X : Type 0} (P Q : X → Type 0) (r : Result A X) → IfErr r P → ((x : X) → P x → Q x) → IfErr r Q
if_err P Q (Ok x) p f = tt
if_err P Q (Err x) p f = f x p

-- so many turns are in range
pub sum_fits : (n m left : ℕ) → n ≤ left → left ≤ 18446744073709551615 → m ≤ left - n → n + m ≤ 18446744073709551615
sum_fits n m left a b c = omega arith

fuel_less : (d n m left : ℕ) → d + (left - n) * most_cost ≤ most_owed → d + (left - (n + m)) * most_cost ≤ most_owed
fuel_less d n m left e = omega arith

-- ---- a part behind which nothing of the outside is lacking where no turn is left

pub leads_halts : {H : Type 0} (g : Setting H) (a b : Doing) (h : H) (n : ℕ) (heard : List Asking) (h' : H) →
    Leads g a h n heard b h' → ((w : World) → w.turns ≡ 0 → halted (b w) ≡ Some w) → Halts g a h n heard h'
leads_halts g a b h n heard h' l e = record {
  by = λ base is before rest.
      let z : n ≡ n + 0 = omega arith in
      ap (λ t. halted (a (at g base h t before (answers_in heard ++ rest)))) z
      ∙ ap halted (l.by base is 0 before rest)
      ∙ e (at g base h' 0 (before ++ heard) rest) refl;
}

-- ---- an early end, as it goes outwards

pub fault_round : {H : Type 0} (g : Setting H) (due : Doing) (h : H) (left n : ℕ) (heard : List Asking)
    (around : List Waiting) (h' : H) (f : Fault) (y : How) → ended y ≡ Over (end_of f) → IsEnd y →
    Leads g due h n heard (awaited around (Over (end_of f))) h' →
    RoundBy g due h left n heard around h' (round.Ends y)
fault_round g due h left n heard around h' f y e end l = (
  subst (λ (d : Doing). Leads g due h n heard (awaited around d) h') (sym e) l,
  end,
)

-- ---- a part behind so many turns

pub later_ok : (P Q : Rounded → Type 0) (n : ℕ) (r s : Result Rounded Lacking) → s ≡ later n r → IfOk r P →
    ((x : Rounded) → P x → Q (record x { spent = n + x.spent })) → IfOk s Q
later_ok P Q n (Ok x) s e p f = subst (λ (s : Result Rounded Lacking). IfOk s Q) (sym e) (f x p)
later_ok P Q n (Err x) s e p f = subst (λ (s : Result Rounded Lacking). IfOk s Q) (sym e) tt

pub later_err : (P Q : Lacking → Type 0) (n : ℕ) (r s : Result Rounded Lacking) → s ≡ later n r → IfErr r P →
    ((x : Lacking) → P x → Q (record x { spent = n + x.spent })) → IfErr s Q
later_err P Q n (Ok x) s e p f = subst (λ (s : Result Rounded Lacking). IfErr s Q) (sym e) tt
later_err P Q n (Err x) s e p f = subst (λ (s : Result Rounded Lacking). IfErr s Q) (sym e) (f x p)

-- no turn is taken before the second one
module _ {H W : Type 0} (g : Setting H) (moves : W → Question → Answer → W → Type 0) (due mid : Doing) (h h1 : H)
    (o o1 : W) (left : ℕ) (heard : List Asking) (chain : Chain moves o heard o1)
    (leads : Leads g due h 0 heard mid h1) where
  pub rounds_then : (m : ℕ) (x : Round) (around : List Waiting) (h2 : H) (o2 : W) →
      Rounds g moves mid h1 o1 left m x around h2 o2 → Rounds g moves due h o left m x around h2 o2
  rounds_then m x around h2 o2 r =
      let none : 0 ≤ left = omega arith in
      let all : left - 0 ≡ left = omega arith in
      let sum : 0 + m ≡ m = omega arith in
      subst (λ (k : ℕ). Rounds g moves due h o left k x around h2 o2) sum
      (rounds_on g moves due mid h h1 o o1 left 0 heard none chain leads m h2 o2 around x
      (subst (λ (k : ℕ). Rounds g moves mid h1 o1 k m x around h2 o2) (sym all) r))

-- the fuel behind turns that take none
pub later_fuel : (P : Type 0) (debt_is n left : ℕ) (r s : Result Rounded Lacking) → s ≡ later n r →
    (P → debt_is + (left - n) * most_cost ≤ most_owed) → IfOk s (λ x. P → debt_is + (left - x.spent) * most_cost ≤ most_owed)
later_fuel P debt_is n left (Ok x) s e f =
    subst (λ (s : Result Rounded Lacking). IfOk s (λ x. P → debt_is + (left - x.spent) * most_cost ≤ most_owed)) (sym e)
    (λ p. fuel_less debt_is n x.spent left (f p))
later_fuel P debt_is n left (Err x) s e f =
    subst (λ (s : Result Rounded Lacking). IfOk s (λ x. P → debt_is + (left - x.spent) * most_cost ≤ most_owed)) (sym e) tt

-- ---- what is ahead is less

-- with fewer turns left, and no more before
pub nearer_more : (x : Round) (around : List Waiting) (left left' before before' : ℕ) → left' ≤ left →
    before ≤ before' → IsNearer x around left before → IsNearer x around left' before'
nearer_more (round.Goes (working.Code t)) around left left' before before' l b e = omega arith
nearer_more (round.Goes (working.Body a why)) around left left' before before' l b e = omega arith
nearer_more (round.Ends how) around left left' before before' l b e = omega arith
nearer_more round.Limit around left left' before before' l b e = tt

-- with turns before
pub later_nearer : (around : List Waiting) (n left before before' : ℕ) (r s : Result Rounded Lacking) → s ≡ later n r →
    before ≤ before' → IfOk r (λ x. IsNearer x.round around (left - n - x.spent) before) →
    IfOk s (λ x. IsNearer x.round around (left - x.spent) before')
later_nearer around n left before before' (Ok x) s e b r =
    let less : left - (n + x.spent) ≤ left - n - x.spent = omega arith in
    subst (λ (s : Result Rounded Lacking). IfOk s (λ x. IsNearer x.round around (left - x.spent) before')) (sym e)
    (nearer_more x.round around (left - n - x.spent) (left - (n + x.spent)) before before' less b r)
later_nearer around n left before before' (Err x) s e b r =
    subst (λ (s : Result Rounded Lacking). IfOk s (λ x. IsNearer x.round around (left - x.spent) before')) (sym e) tt
