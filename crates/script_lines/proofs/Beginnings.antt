-- Lines of which a front was put at the end of a text.
use Rattle.std.proofs.Common.{◌≡◌, ◌≢◌, ℕ, ◌<◌, suc, List, [], ◌∷◌, ◌++◌, length, take, drop, get_or, refl, ap, sym, subst, ◌∙◌, append_assoc}
use Rattle.std.proofs.Math.Seq.{drop-cons}
use Rattle.std.proofs.lemmas.List.{append-nil, take-append-drop}
use Rattle.std.proofs.lemmas.List.Concat.{flat_map-append}
use Rattle.std.specs.List.{flat_map}
use Rattle.std.specs.Prelude.{Result, Ok, Err, OnErr}
use Rattle.script_lines.specs.Lines.{Begun}

-- what holds anyway holds after a failure
pub at_err : {T E P : Type 0} (r : Result T E) → P → OnErr r P
at_err (Ok x) p = tt
at_err (Err e) p = p

-- where nothing comes of two parts, nothing comes of the first
pub first_none : (a b : List ℕ) → a ++ b ≡ [] → a ≡ []
first_none [] b e = refl
first_none (x ∷ a) b e = cc

-- of a line that begins with something nothing was put
pub begun_none : (a b old new : List ℕ) → a ≢ [] → new ≡ old → Begun (a ++ b) old new
begun_none a b old new some same = record {
  front = [];
  rest = a ++ b;
  whole = refl;
  missing = λ e. some (first_none a b e);
  put = same ∙ sym (append-nil old);
}

-- a front of a part is one of the line that begins with it
pub begun_first : (a b old new : List ℕ) → Begun a old new → Begun (a ++ b) old new
begun_first a b old new h = record {
  front = h.front;
  rest = h.rest ++ b;
  whole = ap (λ t. t ++ b) h.whole ∙ append_assoc h.front h.rest b;
  missing = λ e. h.missing (first_none h.rest b e);
  put = h.put;
}

-- behind a part that was put, a front of the next one
pub begun_next : (a b old mid new : List ℕ) → mid ≡ old ++ a → Begun b mid new → Begun (a ++ b) old new
begun_next a b old mid new e h = record {
  front = a ++ h.front;
  rest = h.rest;
  whole = ap (λ t. a ++ t) h.whole ∙ sym (append_assoc a h.front h.rest);
  missing = h.missing;
  put = h.put ∙ ap (λ t. t ++ h.front) e ∙ append_assoc old a h.front;
}

-- behind the pieces of some elements, a front of the next one's
pub begun_each : {A : Type 0} (f : A → List ℕ) (xs : List A) (i : ℕ) (d : A) (piece old mid new : List ℕ) →
    i < length xs → piece ≡ f (get_or xs i d) → mid ≡ old ++ flat_map f (take i xs) → Begun piece mid new →
    Begun (flat_map f xs) old new
begun_each f xs i d piece old mid new h p e b =
    let done : List ℕ = flat_map f (take i xs) in
    let left : List ℕ = flat_map f (drop (suc i) xs) in
    let all : flat_map f xs ≡ done ++ (f (get_or xs i d) ++ left) =
    ap (λ ys. flat_map f ys) (sym (take-append-drop i xs)) ∙ flat_map-append f (take i xs) (drop i xs)
    ∙ ap (λ ys. done ++ flat_map f ys) (drop-cons xs i d h) in
    let P : List ℕ → Type 0 = λ line. Begun line old new in
    let Q : List ℕ → Type 0 = λ line. Begun line mid new in
    subst P (sym all) (begun_next done (f (get_or xs i d) ++ left) old mid new e
    (begun_first (f (get_or xs i d)) left mid new (subst Q p b)))
