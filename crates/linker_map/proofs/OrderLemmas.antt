-- Maps in the order of texts, against lists in the order of the bytes of these texts; and what a look-up finds after an
-- insertion there.
use Rattle.std.proofs.Common.{◌≡◌, ℕ, Bool, true, false, cond, List, [], ◌∷◌, map, Option, Some, Ordering, Less, Equal, Greater, refl, sym, ap, ◌∙◌, true≢false}
use Rattle.std.specs.Prelude.{String, string_bytes, string_cmp}
use Rattle.std.specs.BTreeMap.{insert_entry, is_at}
use Rattle.std.specs.Cmp.Lexicographic.{slice_cmp}
use Rattle.std.specs.Map.{lookup}
use Rattle.std.specs.Ordering.{is_eq, match_ordering, nat_cmp}
use Rattle.std.specs.Str.{bytes_eq}
use Rattle.std.proofs.lemmas.Map.Lookups.{exact_bytes}
use Rattle.std.proofs.lemmas.Map.Text.{is_eq-slice_cmp}
use Rattle.std.proofs.lemmas.Slice.Eq.{bytes_eq-Decides}
use Rattle.linker_map.proofs.NameLemmas.{named}

abbrev by_bytes : List ℕ → List ℕ → Ordering
by_bytes = slice_cmp nat_cmp

module _ {Z V : Type 0} where
  -- a look-up
  pub lookup-ordered : (es : List (String Z × V)) (name : List ℕ) →
      lookup (is_at (λ k. by_bytes name (string_bytes k))) es ≡ lookup (bytes_eq name) (map named es)
  lookup-ordered [] name = refl
  lookup-ordered (e ∷ es) name =
      ap (λ (b : Bool). cond b (Some e.1) (lookup (is_at (λ k. by_bytes name (string_bytes k))) es))
      (is_eq-slice_cmp name (string_bytes e.0))
      ∙ ap (λ (o : Option V). cond (bytes_eq name (string_bytes e.0)) (Some e.1) o) (lookup-ordered es name)

  -- an insertion
  pub insert-ordered : (es : List (String Z × V)) (key : String Z) (v : V) →
      map named (insert_entry string_cmp es key v) ≡ insert_entry by_bytes (map named es) (string_bytes key) v
  insert-ordered [] key v = refl
  insert-ordered (e ∷ es) key v = by_order (string_cmp key e.0) (insert-ordered es key v) where
    by_order : (o : Ordering) →
        map named (insert_entry string_cmp es key v) ≡ insert_entry by_bytes (map named es) (string_bytes key) v →
        map named (match_ordering o ((key, v) ∷ e ∷ es) ((e.0, v) ∷ es) (e ∷ insert_entry string_cmp es key v))
        ≡ match_ordering o ((string_bytes key, v) ∷ map named (e ∷ es)) ((string_bytes e.0, v) ∷ map named es)
        (named e ∷ insert_entry by_bytes (map named es) (string_bytes key) v)
    by_order Less h = refl
    by_order Equal h = refl
    by_order Greater h = ap (λ (xs : List (List ℕ × V)). named e ∷ xs) h

-- ---- a look-up after an insertion

twice : {A : Type 0} (b : Bool) (x y z : A) → cond b x z ≡ cond b x (cond b y z)
twice true x y z = refl
twice false x y z = refl

-- two tests of which one at most holds, in either order
apart : {A : Type 0} (a b : Bool) (x y z : A) → (a ≡ true → b ≡ true → ⊥) →
    cond b y (cond a x z) ≡ cond a x (cond b y z)
apart true true x y z h = absurd (h refl refl)
apart true false x y z h = refl
apart false true x y z h = refl
apart false false x y z h = refl

module _ {V : Type 0} (q k : List ℕ) (v : V) where
  abbrev Finds : List (List ℕ × V) → List (List ℕ × V) → Type 0
  Finds more es = lookup (bytes_eq q) more ≡ cond (bytes_eq q k) (Some v) (lookup (bytes_eq q) es)

  at_order : (e : List ℕ × V) (es more : List (List ℕ × V)) (o : Ordering) → by_bytes k e.0 ≡ o → Finds more es →
      Finds (match_ordering o ((k, v) ∷ e ∷ es) ((e.0, v) ∷ es) (e ∷ more)) (e ∷ es)
  at_order e es more Less is h = refl
  at_order e es more Equal is h =
      twice (bytes_eq q e.0) (Some v) (Some e.1) (lookup (bytes_eq q) es)
      ∙ ap (λ (l : List ℕ). cond (bytes_eq q l) (Some v) (lookup (bytes_eq q) (e ∷ es))) (sym (exact_bytes k e.0 is))
  at_order e es more Greater is h =
      ap (λ (o : Option V). cond (bytes_eq q e.0) (Some e.1) o) h
      ∙ apart (bytes_eq q k) (bytes_eq q e.0) (Some v) (Some e.1) (lookup (bytes_eq q) es)
      (λ a b.
      let same : k ≡ e.0 = sym ((bytes_eq-Decides q k).0 a) ∙ (bytes_eq-Decides q e.0).0 b in
      let unlike : bytes_eq k e.0 ≡ false = sym (is_eq-slice_cmp k e.0) ∙ ap is_eq is in
      true≢false (sym ((bytes_eq-Decides k e.0).1 same) ∙ unlike))

  pub lookup-inserted : (es : List (List ℕ × V)) → Finds (insert_entry by_bytes es k v) es
  lookup-inserted [] = refl
  lookup-inserted (e ∷ es) =
      at_order e es (insert_entry by_bytes es k v) (by_bytes k e.0) refl (lookup-inserted es)
