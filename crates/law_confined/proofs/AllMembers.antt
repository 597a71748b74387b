-- Lists of nodes of which all are members, put together and taken apart.
use Rattle.std.proofs.Common.{◌≡◌, ℕ, zero, suc, Bool, true, false, List, [], ◌∷◌, ◌++◌, Option, Some, None, refl, subst, inl, inr}
use Rattle.std.specs.Prelude.{flat_map, slice_get, if◌then◌else◌}
use Rattle.std.proofs.lemmas.Bool.{false≢true, or_left}
use Rattle.std.proofs.lemmas.Option.{same_Some, none-some}
use Rattle.wasm_types.specs.Each.{Each}
use Rattle.wasm_values.specs.declared.store_id.StoreId.{StoreId}
use Rattle.spec_machine.specs.Values.{is_id}
use Rattle.spec_reach.specs.Nodes.{Node, same_node, has}
use Rattle.spec_reach.specs.Reach.{of_store, where_there}
use Rattle.spec_reach.proofs.FilterLemmas.{same_own, has_at, at_has, has_front, has_back, has_either}
use Rattle.law_confined.specs.Members.{IsMember}

module _ (M : Node → Bool) where
  -- all nodes of a list are members
  pub record AllIn (xs : List Node) : Type 0 where
    pub by : (x : Node) → has xs x ≡ true → M x ≡ true

  pub all_none : AllIn []
  all_none = record { by = λ x e. absurd (false≢true e) }

  pub all_in : (xs ys : List Node) → AllIn xs → AllIn ys → AllIn (xs ++ ys)
  all_in xs ys h k = record { by = λ x e. elim (has_either xs ys x e) [ inl p ↦ h.by x p | inr p ↦ k.by x p ] }

  pub all_front : (xs ys : List Node) → AllIn (xs ++ ys) → AllIn xs
  all_front xs ys h = record { by = λ x e. h.by x (has_front xs ys x e) }

  pub all_back : (xs ys : List Node) → AllIn (xs ++ ys) → AllIn ys
  all_back xs ys h = record { by = λ x e. h.by x (has_back xs ys x e) }

  -- as a list of which each is a member
  pub each_in : (xs : List Node) → AllIn xs → Each xs (IsMember M)
  each_in xs h n x e = h.by x (has_at xs n x e)

  pub all_each : (xs : List Node) → Each xs (IsMember M) → AllIn xs
  all_each xs h = record { by = λ x e. let place = at_has xs x e in h place.0 x place.1 }

  pub all_one : (x : Node) → IsMember M x → AllIn (x ∷ [])
  all_one x h = all_each (x ∷ []) (λ n y e. one n y e)
    where
      one : (n : ℕ) (y : Node) → slice_get (x ∷ []) n ≡ Some y → IsMember M y
      one zero y e = subst (IsMember M) (same_Some x y e) h
      one (suc n) y e = absurd (none-some y e)

  pub one_in : (x : Node) (xs : List Node) → AllIn (x ∷ xs) → IsMember M x
  one_in x xs h = h.by x (or_left (same_node x x) (has xs x) (same_own x))

  -- of what each of a list gives
  module _ {A : Type 0} (f : A → List Node) where
    pub flat_all : (xs : List A) → ((n : ℕ) (x : A) → slice_get xs n ≡ Some x → AllIn (f x)) → AllIn (flat_map f xs)
    flat_all [] h = all_none
    flat_all (x ∷ xs) h = all_in (f x) (flat_map f xs) (h 0 x refl) (flat_all xs (λ n y e. h (suc n) y e))

    pub all_flat : (xs : List A) → AllIn (flat_map f xs) → (n : ℕ) (x : A) → slice_get xs n ≡ Some x → AllIn (f x)
    all_flat [] h n x e = absurd (none-some x e)
    all_flat (y ∷ xs) h zero x e = subst (λ z. AllIn (f z)) (same_Some y x e) (all_front (f y) (flat_map f xs) h)
    all_flat (y ∷ xs) h (suc n) x e = all_flat xs (all_back (f y) (flat_map f xs) h) n x e

    pub all_there : (o : Option A) → ((x : A) → o ≡ Some x → AllIn (f x)) → AllIn (where_there o f)
    all_there None h = all_none
    all_there (Some x) h = h x refl

    pub there_all : (o : Option A) (x : A) → o ≡ Some x → AllIn (where_there o f) → AllIn (f x)
    there_all None x e h = absurd (none-some x e)
    there_all (Some y) x e h = subst (λ z. AllIn (f z)) (same_Some y x e) h

  -- of an object that may be of another store
  pub own_in : (id store : StoreId) (x : Node) → is_id store id ≡ true → AllIn (of_store id store x) → IsMember M x
  own_in id store x e h = by (is_id store id) e h
    where
      by : (b : Bool) → b ≡ true → AllIn (if b then x ∷ [] else []) → IsMember M x
      by true e k = one_in x [] k
      by false e k = absurd (false≢true e)

  pub in_own : (id store : StoreId) (x : Node) → IsMember M x → AllIn (of_store id store x)
  in_own id store x h = by (is_id store id)
    where
      by : (b : Bool) → AllIn (if b then x ∷ [] else [])
      by true = all_one x h
      by false = all_none
