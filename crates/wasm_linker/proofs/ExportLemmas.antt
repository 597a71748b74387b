-- The exports of an instance, one after another: whether one is taken, and what they are defined as.
use Rattle.std.proofs.Common.{◌≡◌, ℕ, Bool, true, false, ◌||◌, List, [], ◌∷◌, ◌++◌, Some, append-nil, append_assoc, refl, sym, ap, ◌∙◌}
use Rattle.wasm_values.specs.declared.externals.Extern.{Extern}
use Rattle.linker_map.specs.Linkers.{LinkerParts, Entry, is_taken, with_item}
use Rattle.wasm_instance.specs.Exports.{Entry as Export}
use Rattle.wasm_linker.specs.Defining.{objects_in, with_items, is_any_taken}
use Rattle.wasm_linker.specs.Exporting.{DefinesFront}

-- one more behind those that were defined
with_items-append : (space : List ℕ) (front : List Entry) (e : Entry) (l : LinkerParts) →
    with_items space (front ++ e ∷ []) l ≡ with_item space e.0 e.1 (with_items space front l)
with_items-append space [] e l = refl
with_items-append space (x ∷ front) e l = with_items-append space front e (with_item space x.0 x.1 l)

-- those in front are defined, and the others are left
pub record AreDefined (space : List ℕ) (es rest : List Entry) (old new : LinkerParts) : Type 0 where
  pub front : List Entry
  pub whole : front ++ rest ≡ es
  pub defined : new ≡ with_items space front old

pub none_defined : (space : List ℕ) (es : List Entry) (l : LinkerParts) → AreDefined space es es l l
none_defined space es l = record { front = []; whole = refl; defined = refl }

module _ (space : List ℕ) (es : List Entry) (old new : LinkerParts) where
  pub all_defined : (rest : List Export) → rest ≡ [] → AreDefined space es (objects_in rest) old new →
      new ≡ with_items space es old
  all_defined rest none are =
      are.defined
      ∙ ap (λ (xs : List Entry). with_items space xs old)
      (sym (append-nil are.front) ∙ ap (λ (xs : List Export). are.front ++ objects_in xs) (sym none) ∙ are.whole)

  module _ (rest tail : List Export) (name : List ℕ) (item : Extern) (split : rest ≡ (name, Some item) ∷ tail)
      (are : AreDefined space es (objects_in rest) old new) where
    whole_here : are.front ++ (name, item) ∷ objects_in tail ≡ es
    whole_here = sym (ap (λ (xs : List Export). are.front ++ objects_in xs) split) ∙ are.whole

    pub one_more : (next : LinkerParts) → next ≡ with_item space name item new →
        AreDefined space es (objects_in tail) old next
    one_more next is = record {
      front = are.front ++ (name, item) ∷ [];
      whole = append_assoc are.front ((name, item) ∷ []) (objects_in tail) ∙ whole_here;
      defined = is ∙ ap (with_item space name item) are.defined ∙ sym (with_items-append space are.front (name, item) old);
    }

    pub front_defined : (next : LinkerParts) → next ≡ new → DefinesFront space es old next
    front_defined next same = record {
      front = are.front;
      at = (name, item);
      rest = objects_in tail;
      whole = whole_here;
      defined = same ∙ are.defined;
    }

module _ (l : LinkerParts) (space : List ℕ) (rest tail : List Export) (name : List ℕ) (item : Extern)
    (split : rest ≡ (name, Some item) ∷ tail) where
  by_first : is_any_taken l space (objects_in rest) ≡ (is_taken l space name || is_any_taken l space (objects_in tail))
  by_first = ap (λ (xs : List Export). is_any_taken l space (objects_in xs)) split

  pub first_taken : is_taken l space name ≡ true → true ≡ is_any_taken l space (objects_in rest)
  first_taken taken = sym (by_first ∙ ap (λ (b : Bool). b || is_any_taken l space (objects_in tail)) taken)

  pub first_free : is_taken l space name ≡ false →
      is_any_taken l space (objects_in tail) ≡ is_any_taken l space (objects_in rest)
  first_free free = sym (by_first ∙ ap (λ (b : Bool). b || is_any_taken l space (objects_in tail)) free)
