-- One value copied, through a loan of all the items.
use Rattle.std.proofs.Common.{◌≡◌, ℕ, ◌<◌, List, ◌++◌, length, get_or, set, take, drop, ap, ap₂, sym, ◌∙◌, arith, append-nil, add-zero, length-drop}
use Rattle.std.proofs.lemmas.List.{take_all, drop_all, length-set}
use Rattle.std.proofs.lemmas.List.Edits.{paste_none, paste_more}
use Rattle.std.proofs.Math.Seq.{paste}
use lib.Seq.{get_or-drop}
use Rattle.wasm_objects.specs.declared.raw.RawVal.{RawVal}

module _ (xs ws : List RawVal) (len at count : ℕ) (d : RawVal) (len_is : len ≡ length xs) (there : at < length xs)
    (one : count ≡ 1) where
  -- the first of other values
  pub first_copied : (ys : List RawVal) → 0 < length ys → ws ≡ set xs at (get_or ys 0 d) →
      take len (ws ++ drop (length ws) xs) ≡ paste xs at ys count
  first_copied ys some is =
      let long : length ws ≡ length xs = ap length is ∙ length-set xs at (get_or ys 0 d) in
      ap (λ l. take len (ws ++ l)) (drop_all (length ws) xs (omega (arith, long)))
      ∙ ap (take len) (append-nil ws) ∙ take_all len ws (omega (arith, long, len_is)) ∙ is
      ∙ ap₂ (λ l k. set l k (get_or ys 0 d)) (paste_none xs at ys) (sym (add-zero at))
      ∙ paste_more xs at ys 0 d (omega arith) some ∙ ap (paste xs at ys) (sym one)

  -- one of its own
  pub own_copied : (place : ℕ) → place < length xs → ws ≡ set xs at (get_or xs place d) →
      take len (ws ++ drop (length ws) xs) ≡ paste xs at (drop place xs) count
  own_copied place found is =
      let first : get_or xs place d ≡ get_or (drop place xs) 0 d =
      ap (λ k. get_or xs k d) (sym (add-zero place)) ∙ sym (get_or-drop place xs 0 d) in
      first_copied (drop place xs) (omega (arith, length-drop place xs)) (is ∙ ap (set xs at) first)
