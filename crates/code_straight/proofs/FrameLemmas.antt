-- The operands that count in a slice: the topmost ones, what is taken of them, and one that is put on them.
use Rattle.std.proofs.Common.{◌≡◌, ◌<◌, ◌≤◌, ◌+◌, ◌-◌, ℕ, Bool, true, false, List, [], ◌∷◌, length, get_or, set, take, reverse, refl, ap, sym, ◌∙◌, arith}
use Rattle.std.proofs.lemmas.List.{take_more, take_more_set, reverse-append}
use Rattle.std.proofs.lemmas.Option.{slice_get-get_or}
use Rattle.std.specs.Prelude.{◌==◌, if◌then◌else◌, slice_get, Some}
use Rattle.wasm_objects.specs.declared.raw.RawVal.{RawVal}
use Rattle.spec_machine.specs.Machine.{Machine}
use Rattle.spec_execution.specs.Operands as on
use Rattle.spec_execution.specs.Straight.{Effect, Goes, Sticks}
use Rattle.code_straight.specs.Frames.{topmost}

picked : {A B : Type 0} (f : A → B) (b : Bool) (x y : A) → (if b then f x else f y) ≡ f (if b then x else y)
picked f true x y = refl
picked f false x y = refl

module _ (xs : List RawVal) where
  topmost_more : (h : ℕ) (d : RawVal) → h < length xs → topmost (h + 1) xs ≡ get_or xs h d ∷ topmost h xs
  topmost_more h d less = ap reverse (take_more xs h d less) ∙ reverse-append (take h xs) (get_or xs h d ∷ [])

  -- one more operand, where the last one stands, or further below
  pub topmost_put : (h : ℕ) (v : RawVal) → h < length xs → topmost (h + 1) (set xs h v) ≡ v ∷ topmost h xs
  topmost_put h v less = ap reverse (take_more_set xs h v less) ∙ reverse-append (take h xs) (v ∷ [])

  pub topmost_put_at : (h k : ℕ) (v : RawVal) → h ≡ k + 1 → h ≤ length xs → topmost h (set xs k v) ≡ v ∷ topmost k xs
  topmost_put_at h k v same within = ap (λ n. topmost n (set xs k v)) same ∙ topmost_put k v (omega arith)

  -- the topmost operand of so many
  topmost_at : (h k : ℕ) (d : RawVal) → h ≡ k + 1 → h ≤ length xs → topmost h xs ≡ get_or xs k d ∷ topmost k xs
  topmost_at h k d same within = ap (λ n. topmost n xs) same ∙ topmost_more k d (omega arith)

  module _ (h : ℕ) (d : RawVal) (within : h ≤ length xs) where
    pub takes_top : (go : RawVal → List RawVal → Effect) → 0 < h →
        on.on_value Sticks (topmost h xs) go ≡ go (get_or xs (h - 1) d) (topmost (h - 1) xs)
    takes_top go some = ap (λ l. on.on_value Sticks l go) (topmost_at h (h - 1) d (omega arith) within)

    -- a condition on two values, of which it picks one by its place
    pub takes_choice : (m : Machine) (locals : List RawVal) (c k : ℕ) → 2 < h →
        Some c ≡ on.integer_in 32 (get_or xs (h - 1) d) → k ≡ (if c == 0 then h - 2 else h - 3) →
        on.on_i32 Sticks (topmost h xs) (λ c rest2. on.on_value Sticks rest2 (λ y rest1.
        on.on_value Sticks rest1 (λ x rest. Goes m locals ((if c == 0 then y else x) ∷ rest))))
        ≡ Goes m locals (topmost (h - 2) (set xs (h - 3) (get_or xs k d)))
    takes_choice m locals c k some is place =
        let first = get_or xs (h - 3) d in
        let second = get_or xs (h - 2) d in
        let choosing : ℕ → List RawVal → Effect = λ c rest2. on.on_value Sticks rest2 (λ y rest1.
        on.on_value Sticks rest1 (λ x rest. Goes m locals ((if c == 0 then y else x) ∷ rest))) in
        takes_top (λ v rest. on.found Sticks (on.integer_in 32 v) (λ c. choosing c rest)) (omega arith)
        ∙ ap (λ o. on.found Sticks o (λ c. choosing c (topmost (h - 1) xs))) (sym is)
        ∙ ap (choosing c) (topmost_at (h - 1) (h - 2) d (omega arith) (omega arith))
        ∙ ap (λ l. choosing c (second ∷ l)) (topmost_at (h - 2) (h - 3) d (omega arith) (omega arith))
        ∙ ap (λ v. Goes m locals (v ∷ topmost (h - 3) xs)) (picked (λ n. get_or xs n d) (c == 0) (h - 2) (h - 3))
        ∙ ap (λ n. Goes m locals (get_or xs n d ∷ topmost (h - 3) xs)) (sym place)
        ∙ ap (Goes m locals) (sym (topmost_put_at (h - 2) (h - 3) (get_or xs k d) (omega arith) (omega arith)))

-- what stands at a place
pub found_at : (xs : List RawVal) (i : ℕ) (d : RawVal) (go : RawVal → Effect) → i < length xs →
    on.found Sticks (slice_get xs i) go ≡ go (get_or xs i d)
found_at xs i d go less = ap (λ o. on.found Sticks o go) (slice_get-get_or xs i d less)
