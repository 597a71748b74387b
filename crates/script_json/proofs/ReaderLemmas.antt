-- Reading by parts.
use Rattle.std.proofs.Common.{◌≡◌, ◌≢◌, ℕ, List, [], ◌∷◌, Bool, true, false, ◌&&◌, ◌||◌, Option, Some, None, Result, Ok, Err, map, refl, ap, sym, ◌∙◌, Bor, if◌then◌else◌}
use Rattle.std.specs.List.{list_any, list_all}
use Rattle.std.specs.Str.{bytes_eq}
use Rattle.std.proofs.lemmas.Slice.Eq.{bytes_eq-Decides}
use Rattle.std.proofs.Common.{String, string_bytes}
use Rattle.std.specs.declared.alloc.Global.{Global}
use Rattle.serde_json.specs.View.{members_view}
use Rattle.serde_json.specs.declared.value.Value.{Value}
use Rattle.serde_json.specs.Data.{Data}
use Rattle.script_json.specs.declared.faults.ScriptFault.{ScriptFault}
use Rattle.script_json.specs.declared.faults.ScriptFault.TheVariants.{NotScript, OutOfMemory}
use Rattle.script_json.specs.Fields.{◌>>=◌, Reads, has_only, only}
use Rattle.serde_json.specs.Find.{as_object}

-- a part that can't be read leaves the whole unread
pub reads_failed : {A B : Type 0} (o : Option A) (f : A → Option B) (e : ScriptFault) → Reads o (Err e) → Reads (o >>= f) (Err e)
reads_failed o f NotScript h = ap (λ x. x >>= f) h
reads_failed o f OutOfMemory h = tt

-- a part that is read gives what the rest gives
pub reads_then : {A B : Type 0} (o : Option A) (f : A → Option B) (x : A) (r : Result B ScriptFault) → o ≡ Some x → Reads (f x) r → Reads (o >>= f) r
reads_then o f x (Ok y) h k = ap (λ z. z >>= f) h ∙ k
reads_then o f x (Err NotScript) h k = ap (λ z. z >>= f) h ∙ k
reads_then o f x (Err OutOfMemory) h k = tt

not_true : (b : Bool) → (b ≡ true → ⊥) → b ≡ false
not_true true h = absurd (h refl)
not_true false h = refl

-- unequal texts, as the test of a match in code tells it
pub differs : (xs ys : List ℕ) → xs ≢ ys → bytes_eq xs ys ≡ false
differs xs ys h = not_true (bytes_eq xs ys) (λ e. h ((bytes_eq-Decides xs ys).0 e))

-- a test of some item, of mapped items
any_of_map : {A : Type 0} (f : A → List ℕ) (p : List ℕ → Bool) (xs : List A) → list_any p (map f xs) ≡ list_any (λ x. p (f x)) xs
any_of_map f p [] = refl
any_of_map f p (x ∷ xs) = ap (λ b. p (f x) || b) (any_of_map f p xs)

-- the test of the keys of a map is the test of the keys of its data
pub only_by_keys : (names : List (Bor (List ℕ))) (entries : List (String Global × Value)) → has_only (map (λ (k : Bor (List ℕ)). k.now) names) (members_view entries) ≡ list_all (λ key. list_any (λ (k : Bor (List ℕ)). bytes_eq k.now (string_bytes key)) names) (map (λ (m : String Global × Value). m.0) entries)
only_by_keys names [] = refl
only_by_keys names (m ∷ ms) =
    ap (λ b. b && has_only (map (λ (k : Bor (List ℕ)). k.now) names) (members_view ms)) (any_of_map (λ (k : Bor (List ℕ)). k.now) (λ k. bytes_eq k (string_bytes m.0)) names)
    ∙ ap (λ b. list_any (λ (k : Bor (List ℕ)). bytes_eq k.now (string_bytes m.0)) names && b) (only_by_keys names ms)

-- what `only` gives, from the test of the keys of a map
pub only_by : (names : List (Bor (List ℕ))) (entries : List (String Global × Value)) (d : Data) (r : Bool) → Some (members_view entries) ≡ as_object d → r ≡ list_all (λ key. list_any (λ (k : Bor (List ℕ)). bytes_eq k.now (string_bytes key)) names) (map (λ (m : String Global × Value). m.0) entries) → only (map (λ (k : Bor (List ℕ)). k.now) names) d ≡ (if r then Some tt else None)
only_by names entries d r e h =
    ap (λ o. o >>= (λ ms. if has_only (map (λ (k : Bor (List ℕ)). k.now) names) ms then Some tt else None)) (sym e)
    ∙ ap (λ (b : Bool). if b then Some tt else None) (only_by_keys names entries ∙ sym h)
