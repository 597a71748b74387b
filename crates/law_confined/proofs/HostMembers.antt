-- A function of the host that is entered holds members, is shown members, and gives members; and does so alike beside
-- another store.
use Rattle.std.proofs.Common.{◌≡◌, ◌⊎◌, ℕ, Bool, true, false, List, [], ◌∷◌, ◌++◌, Option, Some, None, refl, sym, ap, ◌∙◌, subst, inl, inr}
use Rattle.std.specs.Prelude.{◌&&◌, flat_map, map, reverse, slice_get, if◌then◌else◌, option_map, Result, Ok, Err}
use Rattle.std.specs.List.{list_all}
use Rattle.std.proofs.lemmas.Bool.{and_parts}
use Rattle.std.proofs.lemmas.List.{reverse-append}
use Rattle.std.proofs.lemmas.Option.{none-some, same_Some}
use Rattle.wasm_types.specs.Each.{Each}
use Rattle.wasm_types.specs.FunctionParts.{params}
use Rattle.wasm_types.specs.Signatures.{Signature}
use Rattle.wasm_types.specs.declared.value_types.ValType.{ValType}
use Rattle.wasm_syntax.specs.declared.declarations.ExportDecl.{ExportDecl}
use Rattle.wasm_meter.specs.Fuel.{fuel_left}
use Rattle.wasm_values.specs.declared.externals.Extern.{Extern}
use Rattle.wasm_values.specs.declared.refusals.Refusal.{Refusal}
use Rattle.wasm_values.specs.declared.refusals.Refusal.TheVariants as refusal
use Rattle.wasm_values.specs.declared.values.Val.{Val}
use Rattle.wasm_objects.specs.declared.raw.RawVal.{RawVal}
use Rattle.spec_machine.specs.FunctionCalls.{Called}
use Rattle.spec_machine.specs.Machine.{EngineParts, Machine, host, InstanceParts}
use Rattle.spec_machine.specs.Values.{owns_val, raw_val, val_at, all_fit}
use Rattle.spec_machine.specs.declared.reply.Reply.{Reply}
use Rattle.law_store.proofs.Lists.{each_none, each_one, each_append, each_rest}
use Rattle.spec_execution.specs.Activations.{Activation, exported, seen_caller, told_fuel, caller_of, view, replied}
use Rattle.spec_execution.specs.Askings.{Asking, Caller, Stepped}
use Rattle.spec_execution.specs.Commands.{results_of}
use Rattle.spec_execution.specs.Entering.{activation, values_at}
use Rattle.spec_execution.specs.Hosts.{question}
use Rattle.spec_execution.specs.Outcomes.{World}
use Rattle.spec_execution.specs.declared.answer.Answer.{Answer as Say}
use Rattle.spec_execution.specs.declared.answer.Event.{Event}
use Rattle.spec_reach.specs.Nodes.{Node, func, instance}
use Rattle.spec_reach.specs.Reach.{in_object, where_there}
use Rattle.spec_reach.specs.Roots.{in_val}
use Rattle.law_courses.proofs.Bounds.{IsHomeOf}
use Rattle.law_confined.specs.Members.{IsMember, IsHeld, IsHeldObject, NamesMembers, IsIn}
use Rattle.law_confined.specs.Shown.{in_reply, in_export, in_exports, handed_out}
use Rattle.law_confined.proofs.AllMembers.{AllIn, all_none, all_in, all_front, all_back, all_each, flat_all}
use Rattle.law_confined.proofs.CallMembers.{exported_is, object_in}
use Rattle.law_confined.proofs.HeldValues.{vals_held, vals_in}
use Rattle.law_confined.proofs.MemberBounds.{IsOpen, bounds}
use Rattle.law_confined.proofs.NewMembers.{HoldsNew, SeesNew}
use Rattle.law_confined.proofs.ShownLemmas.{Began, Strays, Opened}
use Rattle.law_confined.proofs.ShownLemmas as shown
use Rattle.law_confined.proofs.StepMembers.{own_all, all_fits_is}
use Rattle.law_confined.proofs.OtherStores.{Sees}

module _ {A : Type 0} (P : A → Type 0) where
  each_reverse : (xs : List A) → Each xs P → Each (reverse xs) P
  each_reverse [] h = each_none P
  each_reverse (x ∷ xs) h =
      subst (λ ys. Each ys P) (sym (reverse-append (x ∷ []) xs))
      (each_append P (reverse xs) (x ∷ []) (each_reverse xs (each_rest P x xs h)) (each_one P x (h 0 x refl)))

-- one more behind a list
flat_more :
    {A : Type 0} (M : Node → Bool) (f : A → List Node) (xs : List A) (y : A) → AllIn M (flat_map f xs) → AllIn M (f y)
    → AllIn M (flat_map f (xs ++ y ∷ []))
flat_more M f [] y h k = all_in M (f y) [] k (all_none M)
flat_more M f (x ∷ xs) y h k =
    all_in M (f x) (flat_map f (xs ++ y ∷ [])) (all_front M (f x) (flat_map f xs) h)
    (flat_more M f xs y (all_back M (f x) (flat_map f xs) h) k)

-- maps by functions that are the same on each member
map_is : {A B : Type 0} (f g : A → B) (xs : List A) → ((x : A) → f x ≡ g x) → map f xs ≡ map g xs
map_is f g [] h = refl
map_is f g (x ∷ xs) h = ap (λ y. y ∷ map f xs) (h x) ∙ ap (λ ys. g x ∷ ys) (map_is f g xs h)

module _ (M : Node → Bool) (first : Machine) (other : Machine → Machine) (sees : Sees M first other)
    (news : SeesNew M first other) (new : HoldsNew M first) (m : Machine) (h : IsIn M first m) where
  -- ---- as it is entered

  values_is : (tys : List ValType) (vs : List RawVal) → values_at (other m) tys vs ≡ values_at m tys vs
  values_is [] vs = refl
  values_is (ty ∷ tys) [] = refl
  values_is (ty ∷ tys) (v ∷ vs) =
      ap (λ i. val_at i ty v ∷ values_at (other m) tys vs) (news.same m h).id
      ∙ ap (λ vals. val_at m.id ty v ∷ vals) (values_is tys vs)

  values_in :
      (tys : List ValType) (vs : List RawVal) → Each vs (IsHeld M)
      → AllIn M (flat_map (in_val first.id) (values_at m tys vs))
  values_in tys vs k = subst (λ i. AllIn M (flat_map (in_val i) (values_at m tys vs))) h.id (vals_in M m tys vs k)

  stored_in : (stored : List Extern) → Each stored (IsHeldObject M m.id) → AllIn M (flat_map (in_object first.id) stored)
  stored_in stored k =
      subst (λ i. AllIn M (flat_map (in_object i) stored)) h.id
      (flat_all M (in_object m.id) stored (λ n y e. all_each M (in_object m.id y) (k n y e)))

  module _ (heard0 : List Asking) where
    caller_in :
        (caller : Option ℕ) → IsHomeOf (bounds M first other heard0) caller → (n : ℕ) → caller ≡ Some n
        → IsMember M (instance n)
    caller_in None k n e = absurd (none-some n e)
    caller_in (Some j) k n e = subst (λ i. IsMember M (instance i)) (same_Some j n e) k

    pub opens :
        (n depth body : ℕ) (t : Signature) (stored : List Extern) (args : List RawVal) (caller : Option ℕ)
        → IsMember M (func n) → slice_get m.functions n ≡ Some (host t body stored) → Each args (IsHeld M)
        → IsHomeOf (bounds M first other heard0) caller
        → IsOpen M first (activation m depth t body stored args caller)
        × (activation (other m) depth t body stored args caller ≡ activation m depth t body stored args caller)
    opens n depth body t stored args caller k e held home = (
      record {
        arguments = values_in (params t) args held;
        stored = stored_in stored (h.closed.functions n (host t body stored) k e);
        replies = all_none M;
        caller = caller_in caller home;
      },
      ap (λ vals. record (activation m depth t body stored args caller) { arguments = vals }) (values_is (params t) args),
    )

  -- ---- what a step of it is shown

  seen_is : (i : InstanceParts) → seen_caller (other m) i ≡ seen_caller m i
  seen_is i =
      ap (λ (xs : List _). record (seen_caller m i) { exports = xs })
      (map_is (exported (other m) i) (exported m i) i.decl.exports (exported_is M first other sees news new m h i))

  seen_by : (o : Option InstanceParts) → option_map (seen_caller (other m)) o ≡ option_map (seen_caller m) o
  seen_by None = refl
  seen_by (Some i) = ap Some (seen_is i)

  caller_is :
      (caller : Option ℕ) → ((n : ℕ) → caller ≡ Some n → IsMember M (instance n))
      → caller_of (other m) caller ≡ caller_of m caller
  caller_is None k = refl
  caller_is (Some n) k =
      ap (option_map (seen_caller (other m))) (sees.instances m n h (k n refl)) ∙ seen_by (slice_get m.instances n)

  fuel_is : told_fuel (other m) ≡ told_fuel m
  fuel_is =
      ap (λ (e : EngineParts). if e.consumes_fuel then Ok (fuel_left (other m).fuel) else Err refusal.FuelNotConfigured)
      (news.same m h).engine
      ∙ ap (λ f. if m.engine.consumes_fuel then Ok (fuel_left f) else Err refusal.FuelNotConfigured) (news.same m h).fuel

  pub view_is : (a : Activation) → IsOpen M first a → view (other m) a ≡ view m a
  view_is a o =
      ap (λ (c : Option Caller). record (view (other m) a) { caller = c }) (caller_is a.caller o.caller)
      ∙ (ap (λ (e : EngineParts). record (view (other m) a) { caller = caller_of m a.caller; engine = e })
      (news.same m h).engine
      ∙ ap (λ (f : Result ℕ Refusal). record (view m a) { fuel = f }) fuel_is)

  exports_in :
      (i : InstanceParts) (xs : List ExportDecl) → NamesMembers M i
      → AllIn M (flat_map (in_export m.id) (map (exported m i) xs))
  exports_in i [] names = all_none M
  exports_in i (e ∷ xs) names =
      all_in M (in_export m.id (exported m i e)) (flat_map (in_export m.id) (map (exported m i) xs))
      (object_in M first other sees news new m h i e.entity names) (exports_in i xs names)

  shown_by :
      (o : Option InstanceParts) → ((i : InstanceParts) → o ≡ Some i → NamesMembers M i)
      → AllIn M (where_there (option_map (seen_caller m) o) (in_exports m.id))
  shown_by None k = all_none M
  shown_by (Some i) k = exports_in i i.decl.exports (k i refl)

  caller_shown :
      (caller : Option ℕ) → ((n : ℕ) → caller ≡ Some n → IsMember M (instance n))
      → AllIn M (where_there (caller_of m caller) (in_exports m.id))
  caller_shown None k = all_none M
  caller_shown (Some n) k = shown_by (slice_get m.instances n) (λ i e. h.closed.instances n i (k n refl) e)

  pub opened : (a : Activation) → IsOpen M first a → Opened M first.id m a
  opened a o = record {
    arguments = o.arguments;
    stored = o.stored;
    replies = o.replies;
    exports =
        subst (λ i. AllIn M (where_there (caller_of m a.caller) (in_exports i))) h.id
        (caller_shown a.caller o.caller);
  }

  -- ---- what it gives

  owned_fit :
      (vals : List Val) (tys : List ValType) (b : Bool) → list_all (owns_val m) vals ≡ b
      → AllIn M (flat_map (in_val m.id) vals) → (b && all_fit (other m) vals tys) ≡ (b && all_fit m vals tys)
  owned_fit vals tys true e k = all_fits_is M first other sees news m h vals tys e k
  owned_fit vals tys false e k = refl

  pub returns :
      (vals : List Val) (tys : List ValType) → AllIn M (flat_map (in_val first.id) vals)
      → ((list_all (owns_val m) vals && all_fit m vals tys) ≡ true → Each (reverse (map raw_val vals)) (IsHeld M))
      × ((list_all (owns_val (other m)) vals && all_fit (other m) vals tys)
      ≡ (list_all (owns_val m) vals && all_fit m vals tys))
  returns vals tys k =
      let l : AllIn M (flat_map (in_val m.id) vals) = subst (λ i. AllIn M (flat_map (in_val i) vals)) (sym h.id) k in (
        λ e. each_reverse (IsHeld M) (map raw_val vals)
            (vals_held M m vals (and_parts (list_all (owns_val m) vals) (all_fit m vals tys) e).0 l),
        ap (λ b. b && all_fit (other m) vals tys) (own_all M first other sees news m h vals)
            ∙ owned_fit vals tys (list_all (owns_val m) vals) refl l,
      )

  pub called_reply :
      (c : Called) (operands : List RawVal) → Each operands (IsHeld M)
      → AllIn M (flat_map (in_val first.id) (results_of m c operands))
      × (results_of (other m) c operands ≡ results_of m c operands)
  called_reply c operands k = (
    values_in c.results (reverse operands) (each_reverse (IsHeld M) operands k),
    values_is c.results (reverse operands),
  )

module _ (M : Node → Bool) (first : Machine) where
  pub replies :
      (a : Activation) (answer : Reply) → IsOpen M first a → AllIn M (in_reply first.id answer)
      → IsOpen M first (replied a answer)
  replies a answer o k = record {
    arguments = o.arguments;
    stored = o.stored;
    replies = flat_more M (in_reply first.id) a.replies answer o.replies k;
    caller = o.caller;
  }

  pub says :
      (heard0 : List Asking) (v : World) (a : Activation) (event : Event) (after : ℕ) (what : Say)
      → Began M first.id heard0 v.heard → Opened M first.id v.machine a
      → AllIn M (handed_out first.id what)
      ⊎ Strays M first.id heard0 (v.heard ++ (question a event v, Stepped after (Ok what)) ∷ [])
  says heard0 v a event after what b o =
      elim (shown.says M first.id heard0 v a event after what b o) [
        | inl k ↦ inl (all_each M (handed_out first.id what) k)
        | inr k ↦ inr k
      ]
