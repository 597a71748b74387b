-- A list of objects that was cut: what that is of the list of what they hold.
use Rattle.std.proofs.Common.{◌≡◌, ℕ, List, map, take, ap, sym, ◌∙◌, subst}
use Rattle.std.proofs.lemmas.List.{take-map}
use Rattle.std.proofs.lemmas.List.Elements.{All-take}
use Rattle.std.specs.List.{All}

module _ {H V : Type 0} (f : H → V) (xs ys : List H) (n : ℕ) (cut : ys ≡ take n xs) where
  map_cut : map f ys ≡ take n (map f xs)
  map_cut = ap (map f) cut ∙ sym (take-map f n xs)

  pub cut_seen : (seen : List V) → map f xs ≡ seen → map f ys ≡ take n seen
  cut_seen seen e = map_cut ∙ ap (take n) e

  pub cut_kept : (P : V → Type 0) → All P (map f xs) → All P (map f ys)
  cut_kept P all = subst (All P) (sym map_cut) (All-take P n (map f xs) all)
