-- What a step of the host says names members alone, or hands out a function that it was not shown and that is no member:
-- then what was heard leads out of the members.
use Rattle.std.proofs.Common.{◌≡◌, ◌⊎◌, ℕ, zero, suc, Bool, true, false, not, ◌&&◌, List, [], ◌∷◌, ◌++◌, sym, ap, ◌∙◌, subst, inl, inr}
use Rattle.std.specs.Prelude.{filter, flat_map, Ok}
use Rattle.std.specs.List.{list_all}
use Rattle.std.proofs.lemmas.Bool.{false≢true, cases_Bool, and_parts, and_left, and_right}
use Rattle.std.proofs.lemmas.List.{append_assoc, append-nil, append_cancel_left}
use Rattle.std.proofs.lemmas.Option.{none-some, same_Some}
use Rattle.std.proofs.lemmas.List.Concat.{flat_map-append}
use Rattle.std.proofs.lemmas.List.Folds.{list_all-append}
use Rattle.wasm_types.specs.Each.{Each}
use Rattle.wasm_values.specs.declared.store_id.StoreId.{StoreId}
use Rattle.spec_machine.specs.Machine.{Machine}
use Rattle.spec_execution.specs.Activations.{Activation, view, caller_of}
use Rattle.spec_execution.specs.Askings.{Stepped, Asking}
use Rattle.spec_execution.specs.Hosts.{question}
use Rattle.spec_execution.specs.Outcomes.{World}
use Rattle.spec_execution.specs.declared.answer.Answer.{Answer as Say}
use Rattle.spec_execution.specs.declared.answer.Event.{Event}
use Rattle.spec_reach.specs.Nodes.{Node, has}
use Rattle.spec_reach.specs.Reach.{in_object, where_there}
use Rattle.spec_reach.specs.Roots.{in_val}
use Rattle.law_confined.specs.Shown.{in_reply, in_exports, shown, handed_out, unshown_by, unshown}
use Rattle.law_confined.proofs.AllMembers.{AllIn, all_in}
use Rattle.spec_reach.proofs.FilterLemmas.{has_at, at_has, has_filter}

module _ (M : Node → Bool) where
  -- what of a list passes a test is in, and so is what does not
  split : (xs : List Node) (p : Node → Bool) → Each (filter (λ x. not (p x)) xs) (λ x. M x ≡ true)
      → ((x : Node) → p x ≡ true → M x ≡ true) → Each xs (λ x. M x ≡ true)
  split xs p h k n x e =
      elim (cases_Bool (p x)) [
        | inl q ↦ k x q
        | inr q ↦
            let at : has (filter (λ y. not (p y)) xs) x ≡ true =
            has_filter (λ y. not (p y)) xs x (has_at xs n x e) (ap not q) in
            let place = at_has (filter (λ y. not (p y)) xs) x at in
            h place.0 x place.1
      ]

  each_all : (xs : List Node) → list_all M xs ≡ true → Each xs (λ x. M x ≡ true)
  each_all [] e n x p = absurd (none-some x p)
  each_all (y ∷ xs) e zero x p =
      subst (λ z. M z ≡ true) (same_Some y x p) (and_parts (M y) (list_all M xs) e).0
  each_all (y ∷ xs) e (suc n) x p = each_all xs (and_parts (M y) (list_all M xs) e).1 n x p

  module _ (id : StoreId) where
    -- a function of the host holds members alone, in a store
    pub record Opened (m : Machine) (a : Activation) : Type 0 where
      pub arguments : AllIn M (flat_map (in_val id) a.arguments)
      pub stored : AllIn M (flat_map (in_object id) a.stored)
      pub replies : AllIn M (flat_map (in_reply id) a.replies)
      pub exports : AllIn M (where_there (caller_of m a.caller) (in_exports id))

    shown_in : (m : Machine) (a : Activation) → Opened m a → AllIn M (shown id (view m a))
    shown_in m a o =
        all_in M _ _ o.arguments (all_in M _ _ o.stored (all_in M _ _ o.replies o.exports))

    -- what was heard since it began leads out
    module _ (heard0 : List Asking) where
      pub record Began (heard : List Asking) : Type 0 where
        pub more : List Asking
        pub course : heard ≡ heard0 ++ more

      pub record Strays (heard : List Asking) : Type 0 where
        pub more : List Asking
        pub course : heard ≡ heard0 ++ more
        pub leads_out : list_all M (unshown id more) ≡ false

      one_more :
          (heard more : List Asking) (asking : Asking) → heard ≡ heard0 ++ more
          → heard ++ asking ∷ [] ≡ heard0 ++ (more ++ asking ∷ [])
      one_more heard more asking e =
          ap (λ (xs : List Asking). xs ++ asking ∷ []) e ∙ append_assoc heard0 more (asking ∷ [])

      all_of :
          (more xs : List Asking) → list_all M (unshown id (more ++ xs)) ≡
          (list_all M (unshown id more) && list_all M (unshown id xs))
      all_of more xs =
          ap (list_all M) (flat_map-append (λ (asking : Asking). unshown_by id asking.0 asking.1) more xs)
          ∙ list_all-append M (unshown id more) (unshown id xs)

      pub goes_on : (heard : List Asking) (asking : Asking) → Began heard → Began (heard ++ asking ∷ [])
      goes_on heard asking b = record { more = b.more ++ asking ∷ []; course = one_more heard b.more asking b.course }

      pub strays_on : (heard : List Asking) (asking : Asking) → Strays heard → Strays (heard ++ asking ∷ [])
      strays_on heard asking s = record {
        more = s.more ++ asking ∷ [];
        course = one_more heard s.more asking s.course;
        leads_out = all_of s.more (asking ∷ []) ∙ and_left _ _ s.leads_out;
      }

      one_list : (xs : List Node) → list_all M (xs ++ []) ≡ list_all M xs
      one_list xs = ap (list_all M) (append-nil xs)

      pub says :
          (v : World) (a : Activation) (event : Event) (after : ℕ) (what : Say) → Began v.heard
          → Opened v.machine a
          → Each (handed_out id what) (λ x. M x ≡ true)
          ⊎ Strays (v.heard ++ (question a event v, Stepped after (Ok what)) ∷ [])
      says v a event after what b o =
          let asking : Asking = (question a event v, Stepped after (Ok what)) in
          let new : List Node = unshown_by id asking.0 asking.1 in
          elim (cases_Bool (list_all M new)) [
            | inl e ↦ inl (split (handed_out id what) (has (shown id (view v.machine a))) (each_all new e)
                (shown_in v.machine a o).by)
            | inr e ↦ inr (record {
              more = b.more ++ asking ∷ [];
              course = one_more v.heard b.more asking b.course;
              leads_out = all_of b.more (asking ∷ []) ∙ and_right _ _ (one_list new ∙ e);
            })
          ]

      -- where all that was handed out unshown is a member, nothing leads out
      pub never_strays :
          (heard more : List Asking) → heard ≡ heard0 ++ more → list_all M (unshown id more) ≡ true → Strays heard → ⊥
      never_strays heard more e all s =
          let same : s.more ≡ more = append_cancel_left heard0 s.more more (sym s.course ∙ e) in
          false≢true (sym s.leads_out ∙ ap (λ (xs : List Asking). list_all M (unshown id xs)) same ∙ all)
