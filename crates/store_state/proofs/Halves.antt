-- A list in two parts, of which one member changes.
use Rattle.std.proofs.Common.{◌≡◌, ℕ, ◌+◌, ◌-◌, ◌<◌, ◌≤◌, List, ◌++◌, length, get_or, set, ap, sym, ◌∙◌, arith}
use Rattle.std.proofs.lemmas.List.{get_or_append_left, get_or-append-add, set-append_left, set-append_right, with_items_is}
use Rattle.std.proofs.Math.ListN.{length-set}
use Rattle.std.specs.Prelude.{Vec}
use Rattle.std.specs.Vec.{with_items}

module _ {A : Type 0} (all front back : List A) (n : ℕ) (whole : all ≡ front ++ back) (is : length front ≡ n) where
  -- a member of the front, and the first of the back
  pub front_at : (i : ℕ) (x : A) → i < n → x ≡ get_or front i x → x ≡ get_or all i x
  front_at i x h e =
      let within : i < length front = omega arith in
      e ∙ (sym (get_or_append_left front back x i within) ∙ ap (λ l. get_or l i x) (sym whole))

  pub back_at : (x : A) → x ≡ get_or back 0 x → x ≡ get_or all n x
  back_at x e =
      let at : length front + 0 ≡ n = omega arith in
      e ∙ (sym (get_or-append-add front back 0 x) ∙ (ap (λ k. get_or (front ++ back) k x) at
      ∙ ap (λ l. get_or l n x) (sym whole)))

  pub front_set : (i : ℕ) (x : A) → i < n → set front i x ++ back ≡ set all i x
  front_set i x h =
      let within : i < length front = omega arith in
      sym (set-append_left front back i x within) ∙ ap (λ l. set l i x) (sym whole)

  pub back_set : (x : A) → front ++ set back 0 x ≡ set all n x
  back_set x =
      let none : n - n ≡ 0 = omega arith in let same : n ≤ n = omega arith in
      sym (set-append_right front back n n x is same ∙ ap (λ k. front ++ set back k x) none)
      ∙ ap (λ l. set l n x) (sym whole)

-- a vector whose items were lent, of which one was changed
pub with_items-set : {X Z : Type 0} (v : Vec X Z) (left : List X) (i : ℕ) (x : X) → left ≡ set v.items i x →
    (with_items v left).items ≡ set v.items i x
with_items-set v left i x e =
    let long : length left ≡ length v.items = ap length e ∙ simp length-set in
    with_items_is v left (long ∙ sym v.ok.0) ∙ e
