-- One object of a list of them was changed, where a test held: what that is of the list of what they hold.
use Rattle.std.proofs.Common.{◌≡◌, ℕ, ◌<◌, Bool, true, false, List, ◌++◌, length, get_or, set, map, refl, ap, sym, ◌∙◌, subst, arith}
use Rattle.std.proofs.lemmas.Bool.{OnTrue_at, OnTrue_from, OnFalse_at, OnFalse_from}
use Rattle.std.proofs.lemmas.List.{length-map, get_or-map}
use Rattle.std.proofs.lemmas.List.Elements.{All-set}
use Rattle.std.proofs.lemmas.Option.{slice_get-map, slice_get_read}
use Rattle.std.specs.List.{All}
use Rattle.std.specs.Prelude.{Some, slice_get, option_map, Result, Ok, Err, OnErr, Vec}
use Rattle.std.specs.Vec.{with_items}
use lib.Seq.{map-set, map-set_same}
use Rattle.store_state.specs.Changes.{Becomes, Changes}
use Rattle.store_state.proofs.Halves.{front_at, back_at, front_set, back_set, with_items-set}

either : {A : Type 0} (b : Bool) → (b ≡ true → A) → (b ≡ false → A) → A
either true f g = f refl
either false f g = g refl

pub on_err : {A E P : Type 0} (r : Result A E) → P → OnErr r P
on_err (Ok a) p = tt
on_err (Err e) p = p

module _ {H V : Type 0} (f : H → V) (xs : List H) (ys : List V) (seen : map f xs ≡ ys) where
  -- what an object that was read holds
  module _ (i : ℕ) (x : H) (there : i < length ys) (read : x ≡ get_or xs i x) where
    within : i < length xs
    within = let n : length ys ≡ length xs = ap length (sym seen) ∙ length-map xs f in omega (arith, n, there)

    pub found_there : slice_get ys i ≡ Some (f x)
    found_there =
        ap (λ l. slice_get l i) (sym seen) ∙ slice_get-map f xs i
        ∙ ap (option_map f) (slice_get_read xs (length xs) i x refl within read)

    pub found : (v : V) → slice_get ys i ≡ Some v → f x ≡ v
    found v e = let same : Some (f x) ≡ Some v = sym found_there ∙ e in cc

    pub known : (P : V → Type 0) → All P (map f xs) → P (f x)
    known P all =
        let at : get_or (map f xs) i (f x) ≡ f x = get_or-map f xs i x (f x) within ∙ ap f (sym read) in
        let long : i < length (map f xs) = omega (arith, within, length-map xs f) in
        subst P at (all i (f x) long)

    pub put : (y : H) → map f (set xs i y) ≡ set ys i (f y)
    put y = map-set f xs i y ∙ ap (λ l. set l i (f y)) seen

    pub put_same : (y : H) → f y ≡ f x → map f (set xs i y) ≡ ys
    put_same y e = map-set_same f xs i y x (e ∙ ap f read) ∙ seen

    pub kept : (P : V → Type 0) (y : H) → P (f y) → All P (map f xs) → All P (map f (set xs i y))
    kept P y p all = subst (All P) (sym (map-set f xs i y)) (All-set P (map f xs) i (f y) p all)

    -- and it was changed to y where a test held
    module _ (y : H) (test : V → Bool) (after : V → V) (done : Bool) (one : Becomes test after (f x) done (f y)) where
      pub changes : Changes i test after ys done (map f (set xs i y))
      changes = record {
        tested = λ v e. one.tested ∙ ap test (found v e);
        changed = λ v e. OnTrue_from done _ (λ t. put y ∙ ap (set ys i) (OnTrue_at t one.changed ∙ ap after (found v e)));
        refused = OnFalse_from done _ (λ r. put_same y (OnFalse_at r one.refused));
      }

      pub keeps : (P : V → Type 0) → (test (f x) ≡ true → P (f x) → P (after (f x))) → All P (map f xs) →
          All P (map f (set xs i y))
      keeps P keep all =
          let old : P (f x) = known P all in
          kept P y (either done (λ t. subst P (sym (OnTrue_at t one.changed)) (keep (sym one.tested ∙ t) old))
          (λ r. subst P (sym (OnFalse_at r one.refused)) old)) all

  -- by a source that is another object of the list, or the same
  module _ (i j : ℕ) (x s y : H) (i_there : i < length ys) (j_there : j < length ys) (x_read : x ≡ get_or xs i x)
      (s_read : s ≡ get_or xs j s) (test : V → V → Bool) (after : V → V → V) (done : Bool)
      (one : Becomes (test (f s)) (after (f s)) (f x) done (f y)) where
    pub changes_by : (u : V) → slice_get ys j ≡ Some u → Changes i (test u) (after u) ys done (map f (set xs i y))
    changes_by u e =
        subst (λ (w : V). Changes i (test w) (after w) ys done (map f (set xs i y))) (found j s j_there s_read u e)
        (changes i x i_there x_read y (test (f s)) (after (f s)) done one)

    pub keeps_by : (P : V → Type 0) → ((u v : V) → test u v ≡ true → P v → P (after u v)) → All P (map f xs) →
        All P (map f (set xs i y))
    keeps_by P keep all = keeps i x i_there x_read y (test (f s)) (after (f s)) done one P (keep (f s) (f x)) all

-- the same where the list was lent in two parts
module _ {H V Z : Type 0} (f : H → V) (all : Vec H Z) (ys : List V) (seen : map f all.items ≡ ys) (i j : ℕ)
    (i_there : i < length ys) (j_there : j < length ys) (y : H) (test : V → V → Bool) (after : V → V → V) (done : Bool)
    (front back : List H) (x s : H) (whole : all.items ≡ front ++ back) where
  abbrev Did : H → H → Type 0
  Did u v = Becomes (test (f u)) (after (f u)) (f v) done (f y)

  read : (u v : H) → s ≡ u → x ≡ v → Did u v → Did s x
  read u v s_is x_is one = subst (λ (w : H). Did w x) (sym s_is) (subst (λ (w : H). Did u w) (sym x_is) one)

  -- the changed one in the front, the source at the seam
  module _ (split : length front ≡ j) (below : i < j) (x_is : x ≡ get_or front i x) (s_is : s ≡ get_or back 0 s)
      (one : Did (get_or back 0 s) (get_or front i x)) where
    filled_front : (with_items all (set front i y ++ back)).items ≡ set all.items i y
    filled_front = with_items-set all (set front i y ++ back) i y (front_set all.items front back j whole split i y below)

    pub changes_front : (u : V) → slice_get ys j ≡ Some u →
        Changes i (test u) (after u) ys done (map f (with_items all (set front i y ++ back)).items)
    changes_front u e =
        subst (λ (l : List H). Changes i (test u) (after u) ys done (map f l)) (sym filled_front)
        (changes_by f all.items ys seen i j x s y i_there j_there
        (front_at all.items front back j whole split i x below x_is) (back_at all.items front back j whole split s s_is)
        test after done (read _ _ s_is x_is one) u e)

    pub keeps_front : (P : V → Type 0) → ((u v : V) → test u v ≡ true → P v → P (after u v)) →
        All P (map f all.items) → All P (map f (with_items all (set front i y ++ back)).items)
    keeps_front P keep each =
        subst (λ (l : List H). All P (map f l)) (sym filled_front)
        (keeps_by f all.items ys seen i j x s y i_there j_there
        (front_at all.items front back j whole split i x below x_is) (back_at all.items front back j whole split s s_is)
        test after done (read _ _ s_is x_is one) P keep each)

  -- the changed one at the seam, the source in the front
  module _ (split : length front ≡ i) (below : j < i) (x_is : x ≡ get_or back 0 x) (s_is : s ≡ get_or front j s)
      (one : Did (get_or front j s) (get_or back 0 x)) where
    filled_back : (with_items all (front ++ set back 0 y)).items ≡ set all.items i y
    filled_back = with_items-set all (front ++ set back 0 y) i y (back_set all.items front back i whole split y)

    pub changes_back : (u : V) → slice_get ys j ≡ Some u →
        Changes i (test u) (after u) ys done (map f (with_items all (front ++ set back 0 y)).items)
    changes_back u e =
        subst (λ (l : List H). Changes i (test u) (after u) ys done (map f l)) (sym filled_back)
        (changes_by f all.items ys seen i j x s y i_there j_there (back_at all.items front back i whole split x x_is)
        (front_at all.items front back i whole split j s below s_is) test after done (read _ _ s_is x_is one) u e)

    pub keeps_back : (P : V → Type 0) → ((u v : V) → test u v ≡ true → P v → P (after u v)) →
        All P (map f all.items) → All P (map f (with_items all (front ++ set back 0 y)).items)
    keeps_back P keep each =
        subst (λ (l : List H). All P (map f l)) (sym filled_back)
        (keeps_by f all.items ys seen i j x s y i_there j_there (back_at all.items front back i whole split x x_is)
        (front_at all.items front back i whole split j s below s_is) test after done (read _ _ s_is x_is one) P keep each)
