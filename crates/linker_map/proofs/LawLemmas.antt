-- What a look-up finds after an insertion.
use Rattle.std.proofs.Common.{◌≡◌, ℕ, Bool, true, false, cond, List, [], ◌∷◌, Option, Some, refl, sym, ap, ◌∙◌}
use Rattle.std.specs.Prelude.{unwrap_or, if◌then◌else◌}
use Rattle.std.specs.Map.{lookup}
use Rattle.std.specs.Str.{bytes_eq}
use Rattle.std.proofs.lemmas.Slice.Eq.{bytes_eq-Decides}
use Rattle.indexmap.specs.IndexMap.{insert_entry}
use Rattle.wasm_values.specs.declared.externals.Extern.{Extern}
use Rattle.linker_map.specs.Laws.{MeansWhatWasGiven, OthersMeanTheSame}
use Rattle.linker_map.specs.Linkers.{LinkerParts, Entry, entries_of, with_name}
use Rattle.linker_map.proofs.OrderLemmas.{lookup-inserted}

same_bytes : (a b : List ℕ) → bytes_eq a b ≡ true → a ≡ b
same_bytes a b e = (bytes_eq-Decides a b).0 e

bytes_same : (a b : List ℕ) → a ≡ b → bytes_eq a b ≡ true
bytes_same a b e = (bytes_eq-Decides a b).1 e

bytes_differ : (a b : List ℕ) → ¬ (a ≡ b) → bytes_eq a b ≡ false
bytes_differ a b other = by (bytes_eq a b) (same_bytes a b)
  where
    by : (t : Bool) → (t ≡ true → a ≡ b) → t ≡ false
    by true is = absurd (other (is refl))
    by false is = refl

module _ {V : Type 0} (q k : List ℕ) (v : V) where
  lookup-insert : (es : List (List ℕ × V)) →
      lookup (bytes_eq q) (insert_entry bytes_eq es k v) ≡ cond (bytes_eq q k) (Some v) (lookup (bytes_eq q) es)
  lookup-insert [] = refl
  lookup-insert (e ∷ es) = by (bytes_eq k e.0) refl (lookup-insert es)
    where
      -- the entry has the inserted name
      at_name : (t u : Bool) → t ≡ u →
          cond t (Some v) (lookup (bytes_eq q) es) ≡ cond u (Some v) (cond t (Some e.1) (lookup (bytes_eq q) es))
      at_name true true p = refl
      at_name false false p = refl
      at_name true false p = absurd cc
      at_name false true p = absurd cc

      -- the entry has another
      elsewhere : (t u : Bool) (o : Option V) → (t ≡ true → u ≡ true → ⊥) →
          cond t (Some e.1) (cond u (Some v) o) ≡ cond u (Some v) (cond t (Some e.1) o)
      elsewhere true true o apart = absurd (apart refl refl)
      elsewhere true false o apart = refl
      elsewhere false u o apart = refl

      by : (s : Bool) → bytes_eq k e.0 ≡ s →
          lookup (bytes_eq q) (insert_entry bytes_eq es k v) ≡ cond (bytes_eq q k) (Some v) (lookup (bytes_eq q) es) →
          lookup (bytes_eq q) (if s then (e.0, v) ∷ es else e ∷ insert_entry bytes_eq es k v)
          ≡ cond (bytes_eq q k) (Some v) (cond (bytes_eq q e.0) (Some e.1) (lookup (bytes_eq q) es))
      by true s more =
          at_name (bytes_eq q e.0) (bytes_eq q k) (ap (bytes_eq q) (sym (same_bytes k e.0 s)))
      by false s more =
          ap (cond (bytes_eq q e.0) (Some e.1)) more
          ∙ elsewhere (bytes_eq q e.0) (bytes_eq q k) (lookup (bytes_eq q) es) (λ a b. differ s (bytes_same k e.0 (sym (same_bytes q k b) ∙ same_bytes q e.0 a)))
        where
          differ : bytes_eq k e.0 ≡ false → bytes_eq k e.0 ≡ true → ⊥
          differ a b = cc

module _ (l : LinkerParts) (space name : List ℕ) (item : Extern) where
  abbrev entries : List Entry
  entries = entries_of l.spaces space

  abbrev inserted : List Entry
  inserted = with_name entries name item

  -- what a look-up of a pair goes by
  after : (s n : List ℕ) (t : Bool) → bytes_eq s space ≡ t →
      lookup (bytes_eq n) (entries_of (insert_entry bytes_eq l.spaces space inserted) s)
      ≡ lookup (bytes_eq n) (unwrap_or (cond t (Some inserted) (lookup (bytes_eq s) l.spaces)) [])
  after s n t e =
      ap (λ (o : Option (List Entry)). lookup (bytes_eq n) (unwrap_or o [])) (lookup-insert s space inserted l.spaces)
      ∙ ap (λ (b : Bool). lookup (bytes_eq n) (unwrap_or (cond b (Some inserted) (lookup (bytes_eq s) l.spaces)) [])) e

  given_is : lookup (bytes_eq name) (entries_of (insert_entry bytes_eq l.spaces space inserted) space) ≡ Some item
  given_is =
      after space name true (bytes_same space space refl)
      ∙ lookup-inserted name name item entries
      ∙ ap (λ (b : Bool). cond b (Some item) (lookup (bytes_eq name) entries)) (bytes_same name name refl)

  other_is : (s n : List ℕ) (t : Bool) → bytes_eq s space ≡ t → ¬ ((s ≡ space) × (n ≡ name)) →
      lookup (bytes_eq n) (entries_of (insert_entry bytes_eq l.spaces space inserted) s)
      ≡ lookup (bytes_eq n) (entries_of l.spaces s)
  other_is s n true e apart =
      after s n true e
      ∙ lookup-inserted n name item entries
      ∙ ap (λ (b : Bool). cond b (Some item) (lookup (bytes_eq n) entries))
      (bytes_differ n name (λ is. apart (same_bytes s space e, is)))
      ∙ ap (λ (x : List ℕ). lookup (bytes_eq n) (entries_of l.spaces x)) (sym (same_bytes s space e))
  other_is s n false e apart = after s n false e

pub given : MeansWhatWasGiven
given l space name item = given_is l space name item

pub others : OthersMeanTheSame
others l space name item s n apart = other_is l space name item s n (bytes_eq s space) refl apart
