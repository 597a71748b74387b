-- Maps by texts, against lists by the bytes of these texts.
use Rattle.std.proofs.Common.{◌≡◌, ℕ, zero, suc, Bool, true, false, cond, List, [], ◌∷◌, map, Option, Some, None, if◌then◌else◌, length, get_or, ◌<◌, refl, sym, ap, ◌∙◌, arith, slice_get}
use Rattle.std.proofs.lemmas.List.Quantifiers.{position-Some}
use Rattle.std.specs.Prelude.{String, string_bytes, position, unwrap_or, is_some, Result, Ok, Err, OnOk, OnErr}
use Rattle.std.specs.Map.{lookup, keys_of, values_of}
use Rattle.std.specs.Str.{bytes_eq}
use Rattle.std.specs.String.{string_eq}
use Rattle.indexmap.specs.IndexMap.{insert_entry}
use Rattle.indexmap.specs.Layout.{set_value_at}
use Rattle.wasm_values.specs.declared.externals.Extern.{Extern}
use Rattle.linker_map.specs.Linkers.{Entry, Space, LinkerParts, entries_of, with_name}

module _ {Z V : Type 0} where
  abbrev pub named : String Z × V → List ℕ × V
  named p = (string_bytes p.0, p.1)

  -- a look-up
  pub lookup-named : (es : List (String Z × V)) (name : List ℕ) → lookup (λ k. bytes_eq name (string_bytes k)) es ≡ lookup (bytes_eq name) (map named es)
  lookup-named [] name = refl
  lookup-named (e ∷ es) name = ap (λ o. cond (bytes_eq name (string_bytes e.0)) (Some e.1) o) (lookup-named es name)

  -- an insertion
  pub insert-named : (es : List (String Z × V)) (key : String Z) (v : V) → map named (insert_entry string_eq es key v) ≡ insert_entry bytes_eq (map named es) (string_bytes key) v
  insert-named [] key v = refl
  insert-named (e ∷ es) key v = by_case (string_eq key e.0) (insert-named es key v)
    where
      by_case : (t : Bool) → map named (insert_entry string_eq es key v) ≡ insert_entry bytes_eq (map named es) (string_bytes key) v →
          map named (if t then (e.0, v) ∷ es else e ∷ insert_entry string_eq es key v)
          ≡ (if t then (string_bytes e.0, v) ∷ map named es else named e ∷ insert_entry bytes_eq (map named es) (string_bytes key) v)
      by_case true h = refl
      by_case false h = ap (λ (xs : List (List ℕ × V)). named e ∷ xs) h

  -- a value that takes the place of another, which is the first of its name
  set-first : (es : List (String Z × V)) (i : ℕ) (name : List ℕ) (v : V) (d : String Z) → i < length (keys_of es) →
      bytes_eq name (string_bytes (get_or (keys_of es) i d)) ≡ true →
      ((k : ℕ) → k < i → bytes_eq name (string_bytes (get_or (keys_of es) k d)) ≡ false) →
      map named (set_value_at es i v) ≡ insert_entry bytes_eq (map named es) name v
  set-first [] i name v d within here before = absurd (omega arith)
  set-first (e ∷ es) zero name v d within here before =
      sym (ap (λ (b : Bool). if b then (string_bytes e.0, v) ∷ map named es else named e ∷ insert_entry bytes_eq (map named es) name v) here)
  set-first (e ∷ es) (suc i) name v d within here before =
      ap (λ (xs : List (List ℕ × V)). named e ∷ xs)
      (set-first es i name v d (omega arith) here (λ k h. before (suc k) (omega arith)))
      ∙ sym (ap (λ (b : Bool). if b then (string_bytes e.0, v) ∷ map named es else named e ∷ insert_entry bytes_eq (map named es) name v) (before 0 (omega arith)))

  pub set-named : (es : List (String Z × V)) (i : ℕ) (name : List ℕ) (v : V) →
      position (λ k. bytes_eq name (string_bytes k)) (keys_of es) ≡ Some i →
      map named (set_value_at es i v) ≡ insert_entry bytes_eq (map named es) name v
  set-named [] i name v at = absurd cc
  set-named (e ∷ es) i name v at =
      let p = position-Some (λ k. bytes_eq name (string_bytes k)) (keys_of (e ∷ es)) i e.0 at in
      set-first (e ∷ es) i name v e.0 p.0 p.1 p.2

  -- the same value once more
  pub set-same : (es : List (String Z × V)) (i : ℕ) (v : V) → slice_get (values_of es) i ≡ Some v → set_value_at es i v ≡ es
  set-same [] i v at = refl
  set-same (e ∷ es) zero v at = ap (λ (x : V). (e.0, x) ∷ es) (same v e.1 (sym at))
    where
      same : (a b : V) → ◌≡◌ {A = Option V} (Some a) (Some b) → a ≡ b
      same a b q = cc
  set-same (e ∷ es) (suc i) v at = ap (λ (xs : List (String Z × V)). e ∷ xs) (set-same es i v at)

pub none_found : {A : Type 0} (o : Option A) → false ≡ is_some o → o ≡ None
none_found None e = refl
none_found (Some a) e = absurd cc

-- a fact where a call came to its end, or did not
pub on_ok : {A E : Type 0} {P Q : Type 0} (r : Result A E) → (P → Q) → OnOk r P → OnOk r Q
on_ok (Ok a) f p = f p
on_ok (Err e) f p = tt

pub on_err : {A E : Type 0} {P Q : Type 0} (r : Result A E) → (P → Q) → OnErr r P → OnErr r Q
on_err (Ok a) f p = tt
on_err (Err e) f p = f p

-- a name that is put among those of a first name that is there, and among those of a new one
module _ {Z : Type 0} (es : List (String Z × List Entry)) (space name : List ℕ) (item : Extern) where
  pub put-there : (i : ℕ) (old new : List Entry) →
      position (λ k. bytes_eq space (string_bytes k)) (keys_of es) ≡ Some i →
      lookup (λ k. bytes_eq space (string_bytes k)) es ≡ Some old → new ≡ with_name old name item →
      map named (set_value_at es i new)
      ≡ insert_entry bytes_eq (map named es) space (with_name (entries_of (map named es) space) name item)
  put-there i old new at there is =
      set-named es i space new at
      ∙ ap (insert_entry bytes_eq (map named es) space)
      (is ∙ ap (λ (o : Option (List Entry)). with_name (unwrap_or o []) name item)
      (sym there ∙ lookup-named es space))

  pub put-new : (key : String Z) (new : List Entry) → lookup (bytes_eq space) (map named es) ≡ None →
      string_bytes key ≡ space → new ≡ with_name [] name item →
      map named (insert_entry string_eq es key new)
      ≡ insert_entry bytes_eq (map named es) space (with_name (entries_of (map named es) space) name item)
  put-new key new absent of_space is =
      insert-named es key new
      ∙ ap (λ (k : List ℕ). insert_entry bytes_eq (map named es) k new) of_space
      ∙ ap (insert_entry bytes_eq (map named es) space)
      (is ∙ sym (ap (λ (o : Option (List Entry)). with_name (unwrap_or o []) name item) absent))

-- a linker of these spaces
abbrev pub linker_of : Bool → List Space → LinkerParts
linker_of shadowing spaces = record { spaces = spaces; shadowing = shadowing }
