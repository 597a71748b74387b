-- A row keeps to the members, where all that its command names is a member, and comes to the same in another store.
use Rattle.std.proofs.Common.{◌≡◌, ℕ, Bool, List, Option, Some, None, refl, sym, ap, ◌∙◌, subst}
use Rattle.std.specs.Prelude.{Result, Ok, Err}
use Rattle.wasm_types.specs.Each.{Each}
use Rattle.wasm_values.specs.declared.refusals.Refusal.{Refusal}
use Rattle.wasm_values.specs.declared.refusals.Refusal.TheVariants as refusal
use Rattle.wasm_values.specs.declared.store_id.StoreId.{StoreId}
use Rattle.spec_machine.specs.Commands.{Row, Refuse, Act, Grow, reads, changes, makes, grows, invokes, named}
use Rattle.spec_machine.specs.FunctionCalls.{Called}
use Rattle.spec_machine.specs.Growth.{Plan, plan}
use Rattle.spec_machine.specs.Machine.{EngineParts, Machine}
use Rattle.spec_machine.specs.declared.reply.Reply.{Reply}
use Rattle.spec_machine.specs.declared.reply.Reply.TheVariants as reply
use Rattle.spec_execution.specs.Askings.{Asking}
use Rattle.spec_reach.specs.Nodes.{Node, func}
use Rattle.law_courses.proofs.Bounds.{IsRowIn, row_in}
use Rattle.law_confined.specs.Members.{IsMember, IsHeld, IsIn}
use Rattle.law_confined.specs.Shown.{in_reply}
use Rattle.law_confined.proofs.AllMembers.{AllIn, all_none}
use Rattle.law_confined.proofs.MemberBounds.{bounds}
use Rattle.law_confined.proofs.NewMembers.{HoldsNew, SeesNew}
use Rattle.law_confined.proofs.StepMembers.{Gives, Comes}
use Rattle.law_confined.proofs.OtherStores.{Sees}

-- where all that a plan gives is the same, it is the first one in the other store
pub plan_is :
    {A : Type 0} (other : Machine → Machine) (p : Plan A) (after : Machine) (gives : A) → after ≡ other p.after
    → gives ≡ p.gives → plan p.range p.growth after gives ≡ record p { after = other p.after }
plan_is other p after gives e q =
    ap (λ n. plan p.range p.growth n gives) e ∙ ap (λ g. plan p.range p.growth (other p.after) g) q

module _ (M : Node → Bool) (id : StoreId) where
  -- a reply leads to members alone, in the store of this id
  abbrev pub ReplyIn : Reply → Type 0
  ReplyIn answer = AllIn M (in_reply id answer)

-- what a call leaves and answers keeps to the members, and is the same in the other store: a store, a store with a new
-- object, the plan of a growth, a call of a function
module _ (M : Node → Bool) (first : Machine) (other : Machine → Machine) (id : StoreId) where
  abbrev pub StoreIn : Machine → Machine → Type 0
  StoreIn n n' = IsIn M first n × (n' ≡ other n)

  abbrev pub MadeIn : {A : Type 0} → (A → Reply) → (Machine × A) → (Machine × A) → Type 0
  MadeIn say a a' = IsIn M first a.0 × (a'.0 ≡ other a.0) × (a'.1 ≡ a.1) × ReplyIn M id (say a.1)

  abbrev pub PlanIn : {A : Type 0} → (A → Reply) → Plan A → Plan A → Type 0
  PlanIn say p p' = IsIn M first p.after × (p' ≡ record p { after = other p.after }) × ReplyIn M id (say p.gives)

abbrev pub IsCalledIn : (Node → Bool) → Called → Type 0
IsCalledIn M c = IsMember M (func c.function) × Each c.arguments (IsHeld M)

-- ---- what a call leaves, and what is the same in the other store

module _ (M : Node → Bool) (first : Machine) (other : Machine → Machine) (id : StoreId) where
  pub kept : (n n' : Machine) → IsIn M first n → n' ≡ other n → Comes (StoreIn M first other id) (Ok n) (Ok n')
  kept n n' k e = record { by = (k, e) }

  pub planned :
      {A : Type 0} (say : A → Reply) (p : Plan A) (after : Machine) (gives : A) → IsIn M first p.after
      → after ≡ other p.after → gives ≡ p.gives → ReplyIn M id (say p.gives)
      → Comes (PlanIn M first other id say) (Ok p) (Ok (plan p.range p.growth after gives))
  planned say p after gives k e q l = record { by = (k, plan_is other p after gives e q, l) }

  pub made :
      {A : Type 0} (say : A → Reply) (n n' : Machine) (y y' : A) → IsIn M first n → n' ≡ other n → y' ≡ y
      → ReplyIn M id (say y) → Comes (MadeIn M first other id say) (Ok (n, y)) (Ok (n', y'))
  made say n n' y y' k e q l = record { by = (k, e, q, l) }

module _ {M : Node → Bool} {first : Machine} {other : Machine → Machine} (news : SeesNew M first other) (m : Machine)
    (h : IsIn M first m) where
  -- the handle of a new object
  pub same_handle : {H : Type 0} (back : StoreId → ℕ → H) (n n' : ℕ) → n' ≡ n → back (other m).id n' ≡ back m.id n
  same_handle back n n' e = ap (λ i. back i n') (news.same m h).id ∙ ap (back m.id) e

  -- a test of the engine's number
  pub engine_is : (f : ℕ → Bool) → f (other m).engine.number ≡ f m.engine.number
  engine_is f = ap (λ (e : EngineParts). f e.number) (news.same m h).engine

module _ (M : Node → Bool) (first : Machine) (other : Machine → Machine) (heard0 : List Asking)
    (sees : Sees M first other) (news : SeesNew M first other) (new : HoldsNew M first) where
  -- the row stays with the members, and is the same in the other store
  pub record StaysRow (row row' : Row) : Type 0 where
    pub by : IsRowIn (bounds M first other heard0) row
    pub same : row' ≡ row_in other row

  refuses : (why : Refusal) → StaysRow (Refuse why) (Refuse why)
  refuses why = record { by = tt; same = refl }

  pub named_in :
      {A : Type 0} (o : Option A) (go go' : A → Row) → ((a : A) → o ≡ Some a → StaysRow (go a) (go' a))
      → StaysRow (named o go) (named o go')
  named_in None go go' j = refuses refusal.NoReply
  named_in (Some a) go go' j = j a refl

  module _ (m : Machine) (h : IsIn M first m) where
    reply_in : (answer : Reply) → ReplyIn M m.id answer → AllIn M (in_reply first.id answer)
    reply_in answer k = subst (λ i. AllIn M (in_reply i answer)) h.id k

    -- ---- what a row comes to, by what its call does

    pub reads_in :
        {A : Type 0} (say : A → Reply) (r r' : Result A Refusal) → Gives (λ a. ReplyIn M m.id (say a)) r r'
        → StaysRow (reads m say r) (reads (other m) say r')
    reads_in say r r' g = subst (λ z. StaysRow (reads m say r) (reads (other m) say z)) (sym g.same) (by r g.says)
      where
        by :
            (z : Result _ Refusal) → ((a : _) → z ≡ Ok a → ReplyIn M m.id (say a))
            → StaysRow (reads m say z) (reads (other m) say z)
        by (Ok a) k = record { by = (h, reply_in (say a) (k a refl)); same = refl }
        by (Err why) k = refuses why

    pub changes_in :
        (r r' : Result Machine Refusal) → Comes (StoreIn M first other m.id) r r' → StaysRow (changes r) (changes r')
    changes_in (Ok n) (Ok n') c = record { by = (c.by.0, all_none M); same = ap (λ z. Act z reply.Done) c.by.1 }
    changes_in (Ok n) (Err why) c = absurd c.by
    changes_in (Err why) (Ok n) c = absurd c.by
    changes_in (Err why) (Err why') c = record { by = tt; same = ap Refuse c.by }

    pub makes_in :
        {A : Type 0} (say : A → Reply) (r r' : Result (Machine × A) Refusal) → Comes (MadeIn M first other m.id say) r r'
        → StaysRow (makes say r) (makes say r')
    makes_in say (Ok a) (Ok a') c = record {
      by = (c.by.0, reply_in (say a.1) c.by.3);
      same = ap (λ n. Act n (say a'.1)) c.by.1 ∙ ap (λ y. Act (other a.0) (say y)) c.by.2;
    }
    makes_in say (Ok a) (Err why) c = absurd c.by
    makes_in say (Err why) (Ok a) c = absurd c.by
    makes_in say (Err why) (Err why') c = record { by = tt; same = ap Refuse c.by }

    pub grows_in :
        {A : Type 0} (say : A → Reply) (r r' : Result (Plan A) Refusal) → Comes (PlanIn M first other m.id say) r r'
        → StaysRow (grows say r) (grows say r')
    grows_in say (Ok p) (Ok p') c = record {
      by = (c.by.0, reply_in (say p.gives) c.by.2);
      same = ap (λ (q : Plan _). Grow (plan q.range q.growth q.after (say q.gives))) c.by.1;
    }
    grows_in say (Ok p) (Err why) c = absurd c.by
    grows_in say (Err why) (Ok p) c = absurd c.by
    grows_in say (Err why) (Err why') c = record { by = tt; same = ap Refuse c.by }

    pub invokes_in : (r r' : Result Called Refusal) → Gives (IsCalledIn M) r r' → StaysRow (invokes r) (invokes r')
    invokes_in r r' g = subst (λ z. StaysRow (invokes r) (invokes z)) (sym g.same) (by r g.says)
      where
        by : (z : Result Called Refusal) → ((c : Called) → z ≡ Ok c → IsCalledIn M c) → StaysRow (invokes z) (invokes z)
        by (Ok c) k = record { by = k c refl; same = refl }
        by (Err why) k = refuses why
