-- Imports that are all there, one after another.
use Rattle.std.proofs.Common.{◌≡◌, ℕ, ◌+◌, Bool, true, false, cond, List, [], ◌∷◌, ◌++◌, Option, Some, None, is_none, option_map, append-nil, append_assoc, refl, sym, ap, ◌∙◌}
use Rattle.std.specs.Prelude.{option_and_then}
use Rattle.std.specs.List.{position_from}
use Rattle.wasm_syntax.specs.declared.declarations.ImportDecl.{ImportDecl}
use Rattle.wasm_values.specs.declared.externals.Extern.{Extern}
use Rattle.linker_map.specs.Linkers.{LinkerParts}
use Rattle.linker_map.specs.Imports.{found_for, is_unknown, resolved}

-- the first is known, and so are the others
known_by : {A : Type 0} (test : Bool) (a : A) (others : Option A) → cond test (Some a) others ≡ None →
    (test ≡ false) × (others ≡ None)
known_by true a others e = absurd cc
known_by false a others e = (refl, e)

is_there : {A : Type 0} (o : Option A) → is_none o ≡ false → o ≡ None → ⊥
is_there (Some a) e none = cc
is_there None e none = cc

-- from this number on all are known; what was found stands before what the rest gives
pub record AreFound (l : LinkerParts) (imports rest : List ImportDecl) (items : List Extern) : Type 0 where
  pub place : ℕ
  pub known : position_from (is_unknown l) place rest ≡ None
  pub so_far : resolved l imports ≡ option_map (λ more. items ++ more) (resolved l rest)

module _ (l : LinkerParts) (imports : List ImportDecl) where
  pub at_start : position_from (is_unknown l) 0 imports ≡ None → AreFound l imports imports []
  at_start known = record { place = 0; known = known; so_far = by (resolved l imports) }
    where
      by : (o : Option (List Extern)) → o ≡ option_map (λ more. [] ++ more) o
      by None = refl
      by (Some items) = refl

  module _ (rest tail : List ImportDecl) (import : ImportDecl) (items : List Extern) (are : AreFound l imports rest items) (split : rest ≡ import ∷ tail) where
    parts : (is_unknown l import ≡ false) × (position_from (is_unknown l) (are.place + 1) tail ≡ None)
    parts = known_by (is_unknown l import) are.place _ (sym (ap (position_from (is_unknown l) are.place) split) ∙ are.known)

    pub first_there : None ≡ found_for l import → ⊥
    first_there none = is_there (found_for l import) parts.0 (sym none)

    pub one_more : (item : Extern) → Some item ≡ found_for l import → AreFound l imports tail (items ++ item ∷ [])
    one_more item is = record {
      place = are.place + 1;
      known = parts.1;
      so_far = are.so_far ∙ ap (λ xs. option_map (λ more. items ++ more) (resolved l xs)) split
          ∙ ap (λ o. option_map (λ more. items ++ more) (option_and_then (λ x. option_map (λ xs. x ∷ xs) (resolved l tail)) o)) (sym is)
          ∙ by (resolved l tail);
    }
      where
        by : (o : Option (List Extern)) → option_map (λ more. items ++ more) (option_map (λ xs. item ∷ xs) o) ≡ option_map (λ more. (items ++ item ∷ []) ++ more) o
        by None = refl
        by (Some more) = ap Some (sym (append_assoc items (item ∷ []) more))

  pub all_found : (items : List Extern) → AreFound l imports [] items → resolved l imports ≡ Some items
  all_found items are = are.so_far ∙ ap Some (append-nil items)
