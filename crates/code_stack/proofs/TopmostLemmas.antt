-- Rows of operands, of which the topmost is seen first.
use Rattle.std.proofs.Common.{◌≡◌, ℕ, ◌+◌, ◌-◌, ◌≤◌, Bool, true, false, List, [], ◌∷◌, ◌++◌, length, take, drop, refl, ap, sym, ◌∙◌, arith}
use Rattle.std.proofs.lemmas.List.{reverse-append, reverse-reverse, length-reverse, drop-map, take_all, drop_all}
use Rattle.std.specs.Prelude.{reverse, map, MatchBool}
use Rattle.std.proofs.Common.{inr}
use Rattle.wasm_objects.specs.declared.raw.RawVal.{RawVal}
use Rattle.code_stack.specs.Cuts.{RowParts, row_parts, HasJoined}
use Rattle.code_stack.specs.Values.{below, values_parts, two_rows, HasOpened, HasClosed, HasEntered, CannotClose}
use Rattle.code_stack.proofs.CutLemmas.{reverse_last, reverse_rest}

pub by_cases : {A B C D : Type 0} (b : Bool) → (A → C) → (B → D) → MatchBool b A B → MatchBool b C D
by_cases true f g h = f h
by_cases false f g h = g h

-- where there are segments there are operands of labels
pub some_around : (before : List (List RawVal)) → (before ≡ [] → ⊥) → map reverse before ≡ [] → ⊥
some_around [] some e = some refl
some_around (xs ∷ before) some e = cc e

module _ (old new locals : RowParts) where
  -- only the first n operands, from the bottom
  pub kept_bottom : (n : ℕ) → n ≤ length old.last →
      new ≡ row_parts (take n old.last) old.before (old.room + (length old.last - n)) →
      two_rows new locals ≡ values_parts (drop (length (reverse old.last) - n) (reverse old.last)) locals.last
      (below (map reverse old.before) locals.before) (old.room + (length (reverse old.last) - n))
  kept_bottom n le e =
      let m = length old.last - n in
      let back : length old.last - m ≡ n = omega arith in
      let rest : reverse (take n old.last) ≡ drop m (reverse old.last) =
      ap (λ k. reverse (take k old.last)) (sym back) ∙ reverse_rest m old.last (omega arith) in
      let long : m ≡ length (reverse old.last) - n = omega (arith, length-reverse old.last) in
      let ends = below (map reverse old.before) locals.before in
      ap (λ r. two_rows r locals) e ∙ ap (λ l. values_parts l locals.last ends (old.room + m)) rest
      ∙ ap (λ k. values_parts (drop k (reverse old.last)) locals.last ends (old.room + k)) long

  -- values more, above all others
  pub filled_top : (spare : List RawVal) → new ≡ row_parts (old.last ++ spare) old.before 0 →
      two_rows new locals ≡ values_parts (reverse spare ++ reverse old.last) locals.last
      (below (map reverse old.before) locals.before) 0
  filled_top spare e =
      ap (λ r. two_rows r locals) e
      ∙ ap (λ l. values_parts l locals.last (below (map reverse old.before) locals.before) 0)
      (reverse-append old.last spare)

  pub opened : (n : ℕ) → n ≤ length old.last →
      new ≡ row_parts (drop (length old.last - n) old.last) (take (length old.last - n) old.last ∷ old.before)
      old.room →
      HasOpened n (two_rows old locals) (two_rows new locals)
  opened n le e = record {
    enough = omega (arith, le, length-reverse old.last);
    operands = ap (λ (r : RowParts). reverse r.last) e ∙ reverse_last n old.last le;
    below = ap (λ (r : RowParts). below (map reverse r.before) locals.before) e
        ∙ ap (λ l. below (l ∷ map reverse old.before) locals.before) (reverse_rest n old.last le);
    locals = refl;
  }

  pub closed : (k n : ℕ) → n ≤ length old.last → HasJoined k n old new →
      HasClosed k n (two_rows old locals) (two_rows new locals)
  closed k n le j = record {
    enough = omega (arith, le, length-reverse old.last);
    outer = reverse j.outer;
    further = map reverse j.further;
    around = drop-map reverse k old.before ∙ ap (map reverse) j.before;
    operands = ap reverse j.last ∙ reverse-append j.outer (drop (length old.last - n) old.last)
        ∙ ap (λ l. l ++ reverse j.outer) (reverse_last n old.last le);
    below = ap (λ l. below (map reverse l) locals.before) j.rest;
    locals = refl;
  }

  pub not_closed : (k n : ℕ) → drop k old.before ≡ [] → CannotClose k n (two_rows old locals)
  not_closed k n e = inr (drop-map reverse k old.before ∙ ap (map reverse) e)

  -- the last n operands went to be locals
  pub entered : (n : ℕ) (shorter inner : RowParts) → n ≤ length old.last →
      shorter.last ≡ take (length old.last - n) old.last → shorter.before ≡ old.before →
      (kept : ℕ) → length shorter.last ≤ kept →
      new ≡ row_parts (drop kept shorter.last) (take kept shorter.last ∷ shorter.before) shorter.room →
      inner.last ≡ drop (length old.last - n) old.last → inner.before ≡ locals.last ∷ locals.before →
      HasEntered n (two_rows old locals) (two_rows new inner)
  entered n shorter inner le last before kept whole e args callers =
      let none : drop kept shorter.last ≡ [] = drop_all kept shorter.last whole in
      let all : take kept shorter.last ≡ shorter.last = take_all kept shorter.last whole in
      record {
        enough = omega (arith, le, length-reverse old.last);
        operands = ap (λ (r : RowParts). reverse r.last) e ∙ ap reverse none;
        below = ap (λ (r : RowParts). below (map reverse r.before) inner.before) e
            ∙ ap (λ l. below (reverse l ∷ map reverse shorter.before) inner.before) (all ∙ last)
            ∙ ap (λ l. below (l ∷ map reverse shorter.before) inner.before) (reverse_rest n old.last le)
            ∙ ap (λ l. below (drop n (reverse old.last) ∷ map reverse l) inner.before) before
            ∙ ap (λ l. below (drop n (reverse old.last) ∷ map reverse old.before) l) callers;
        locals = args ∙ sym (reverse-reverse (drop (length old.last - n) old.last))
            ∙ ap reverse (reverse_last n old.last le);
      }
