-- What a map by vectors holds, by the lists of their items.
use Rattle.std.proofs.Common.{◌≡◌, ℕ, Bool, true, false, cond, List, [], ◌∷◌, map, Option, Some, Vec, Global, Ordering, Less, Equal, Greater, refl, sym, ◌∙◌, ap, true≢false}
use Rattle.std.specs.BTreeMap.{insert_entry, is_at}
use Rattle.std.specs.Cmp.Lexicographic.{slice_cmp}
use Rattle.std.specs.Map.{lookup}
use Rattle.std.specs.Ordering.{is_eq, match_ordering, nat_cmp}
use Rattle.std.specs.Str.{bytes_eq}
use Rattle.std.proofs.lemmas.Map.Lookups.{exact_bytes}
use Rattle.std.proofs.lemmas.Map.Text.{is_eq-slice_cmp}
use Rattle.std.proofs.lemmas.Slice.Eq.{bytes_eq-Decides}

abbrev pub Entry : Type 0
Entry = Vec ℕ Global × ℕ

abbrev pub keyed : List Entry → List (List ℕ × ℕ)
keyed es = map (λ p. (p.0.items, p.1)) es

pub found_by_items : (key : List ℕ) (es : List Entry) → lookup (is_at (λ k. slice_cmp nat_cmp key k.items)) es ≡ lookup (bytes_eq key) (keyed es)
found_by_items key [] = refl
found_by_items key (e ∷ es) =
    ap (λ (b : Bool). cond b (Some e.1) (lookup (is_at (λ k. slice_cmp nat_cmp key k.items)) es)) (is_eq-slice_cmp key e.0.items)
    ∙ ap (λ (o : Option ℕ). cond (bytes_eq key e.0.items) (Some e.1) o) (found_by_items key es)

twice : {A : Type 0} (b : Bool) (x y z : A) → cond b x z ≡ cond b x (cond b y z)
twice true x y z = refl
twice false x y z = refl

-- two tests of which one at most holds, in either order
apart : {A : Type 0} (a b : Bool) (x y z : A) → (a ≡ true → b ≡ true → ⊥) → cond b y (cond a x z) ≡ cond a x (cond b y z)
apart true true x y z h = absurd (h refl refl)
apart true false x y z h = refl
apart false true x y z h = refl
apart false false x y z h = refl

inserted_at : (q : List ℕ) (k : Vec ℕ Global) (v : ℕ) (e : Entry) (es more : List Entry) (o : Ordering) → slice_cmp nat_cmp k.items e.0.items ≡ o →
    lookup (bytes_eq q) (keyed more) ≡ cond (bytes_eq q k.items) (Some v) (lookup (bytes_eq q) (keyed es)) →
    lookup (bytes_eq q) (keyed (match_ordering o ((k, v) ∷ e ∷ es) ((e.0, v) ∷ es) (e ∷ more))) ≡ cond (bytes_eq q k.items) (Some v) (lookup (bytes_eq q) (keyed (e ∷ es)))
inserted_at q k v e es more Less is h = refl
inserted_at q k v e es more Equal is h =
    let same : k.items ≡ e.0.items = exact_bytes k.items e.0.items is in
    twice (bytes_eq q e.0.items) (Some v) (Some e.1) (lookup (bytes_eq q) (keyed es))
    ∙ ap (λ (l : List ℕ). cond (bytes_eq q l) (Some v) (lookup (bytes_eq q) (keyed (e ∷ es)))) (sym same)
inserted_at q k v e es more Greater is h =
    ap (λ (o : Option ℕ). cond (bytes_eq q e.0.items) (Some e.1) o) h
    ∙ apart (bytes_eq q k.items) (bytes_eq q e.0.items) (Some v) (Some e.1) (lookup (bytes_eq q) (keyed es))
    (λ a b.
    let same : k.items ≡ e.0.items = sym ((bytes_eq-Decides q k.items).0 a) ∙ (bytes_eq-Decides q e.0.items).0 b in
    let unlike : bytes_eq k.items e.0.items ≡ false = sym (is_eq-slice_cmp k.items e.0.items) ∙ ap is_eq is in
    true≢false (sym ((bytes_eq-Decides k.items e.0.items).1 same) ∙ unlike))

pub inserted : (q : List ℕ) (k : Vec ℕ Global) (v : ℕ) (es : List Entry) → lookup (bytes_eq q) (keyed (insert_entry (λ x y. slice_cmp nat_cmp x.items y.items) es k v)) ≡ cond (bytes_eq q k.items) (Some v) (lookup (bytes_eq q) (keyed es))
inserted q k v [] = refl
inserted q k v (e ∷ es) =
    inserted_at q k v e es (insert_entry (λ x y. slice_cmp nat_cmp x.items y.items) es k v) (slice_cmp nat_cmp k.items e.0.items) refl (inserted q k v es)
