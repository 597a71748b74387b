-- What an index says stays true as types are added.
use Rattle.std.proofs.Common.{◌≡◌, ℕ, Bool, true, false, cond, List, [], ◌∷◌, ◌++◌, length, Option, Some, None, inl, inr, refl, sym, ◌∙◌, ap, subst, arith}
use Rattle.std.specs.Prelude.{position, slice_get}
use Rattle.std.specs.Map.{lookup}
use Rattle.std.specs.Str.{bytes_eq}
use Rattle.std.proofs.lemmas.Bool.{cond-true}
use Rattle.std.proofs.lemmas.List.{length_push}
use Rattle.std.proofs.lemmas.Slice.Eq.{bytes_eq-Decides}
use Rattle.wasm_types.specs.Signatures.{Signature}
use Rattle.binary_index.specs.Indexes.{IsIndexed}
use Rattle.binary_index.specs.Keys.{HasPlaced, IsKeyOf, IsPlaced, alike, first_alike, key_of}
use Rattle.binary_index.proofs.KeyLemmas.{alike_is, is_alike, is_key, key_is, key_more, member_placed}
use Rattle.binary_index.proofs.Positions.{first_agreed, first_more, first_pushed, kept_member, last_member, pushed_members}

has : List Signature → List ℕ → Signature → Bool
has ts key t = bytes_eq key (key_of ts t)

same_bool : (a b : Bool) → (a ≡ true → b ≡ true) → (b ≡ true → a ≡ true) → a ≡ b
same_bool true b f g = sym (f refl)
same_bool false true f g = g refl
same_bool false false f g = refl

-- the types that have the key of a type are those that say what it says
has_is_alike : (ts : List Signature) (t u : Signature) → HasPlaced ts t → HasPlaced ts u → bytes_eq (key_of ts t) (key_of ts u) ≡ alike t u
has_is_alike ts t u p q =
    same_bool _ _
    (λ e. is_alike t u (key_is ts t u p q ((bytes_eq-Decides (key_of ts t) (key_of ts u)).0 e)))
    (λ e. (bytes_eq-Decides (key_of ts t) (key_of ts u)).1 (is_key ts t u (alike_is t u e)))

pub first_by_key : (ts : List Signature) (firsts : List ℕ) (index : List (List ℕ × ℕ)) (t : Signature) (key : List ℕ) → IsIndexed ts firsts index → IsKeyOf ts t key → lookup (bytes_eq key) index ≡ first_alike ts t
first_by_key ts firsts index t key kept is =
    kept.found key
    ∙ ap (λ (k : List ℕ). position (λ u. bytes_eq k (key_of ts u)) ts) is.0
    ∙ first_agreed (λ u. bytes_eq (key_of ts t) (key_of ts u)) (alike t) ts (λ i u e. has_is_alike ts t u is.1 (kept.closed i u e))

-- the same, where the list and the key are given as others
pub first_found : (ts now : List Signature) (firsts : List ℕ) (index : List (List ℕ × ℕ)) (t : Signature) (key given : List ℕ) → IsIndexed ts firsts index → ts ≡ now → given ≡ key → IsKeyOf now t key → lookup (bytes_eq given) index ≡ first_alike now t
first_found ts now firsts index t key given kept s e is =
    ap (λ (k : List ℕ). lookup (bytes_eq k) index) e
    ∙ first_by_key ts firsts index t key kept (subst (λ (us : List Signature). IsKeyOf us t key) (sym s) is)
    ∙ ap (λ (us : List Signature). first_alike us t) s

-- ---- one type more

behind : Option ℕ → Option ℕ → Option ℕ
behind (Some n) o = Some n
behind None o = o

pushed_by : {A : Type 0} (p : A → Bool) (xs : List A) (y : A) (o : Option ℕ) → position p xs ≡ o → position p (xs ++ y ∷ []) ≡ behind o (cond (p y) (Some (length xs)) None)
unfolding behind
pushed_by p xs y (Some n) e = first_more p n xs (y ∷ []) e
pushed_by p xs y None e = first_pushed p xs y e

-- where a type says what one before says, it is not the first that passes
kept_first : (b : Bool) (c n : ℕ) (o : Option ℕ) → (b ≡ true → o ≡ Some c) → o ≡ behind o (cond b (Some n) None)
unfolding behind
kept_first b c n (Some m) h = refl
kept_first false c n None h = refl
kept_first true c n None h = absurd (cc (h refl))

-- and where none before does, it may be
new_first : (b : Bool) (n : ℕ) (o : Option ℕ) → (b ≡ true → o ≡ None) → cond b (Some n) o ≡ behind o (cond b (Some n) None)
unfolding behind
new_first false n (Some m) h = refl
new_first false n None h = refl
new_first true n (Some m) h = absurd (cc (h refl))
new_first true n None h = refl

placed_in : (ts : List Signature) (firsts : List ℕ) (index : List (List ℕ × ℕ)) (t : Signature) → IsIndexed ts firsts index → HasPlaced ts t → (k : ℕ) (y : Signature) → slice_get (ts ++ t ∷ []) k ≡ Some y → HasPlaced ts y
placed_in ts firsts index t kept placed k y e =
    elim (pushed_members ts t k y e) as (λ _. HasPlaced ts y) [
      | inl h ↦ kept.closed k y h
      | inr h ↦ subst (HasPlaced ts) (sym h.1) placed
    ]

first_in : (ts : List Signature) (firsts : List ℕ) (index : List (List ℕ × ℕ)) (t : Signature) (c : ℕ) → IsIndexed ts firsts index → first_alike (ts ++ t ∷ []) t ≡ Some c → (k : ℕ) (y : Signature) → slice_get (ts ++ t ∷ []) k ≡ Some y → slice_get (firsts ++ c ∷ []) k ≡ first_alike (ts ++ t ∷ []) y
first_in ts firsts index t c kept first k y e =
    elim (pushed_members ts t k y e) as (λ _. slice_get (firsts ++ c ∷ []) k ≡ first_alike (ts ++ t ∷ []) y) [
      | inl h ↦
          let placed : IsPlaced ts y = member_placed ts k y h in
          kept_member firsts c k placed.0 (kept.first k y h ∙ placed.1) ∙ sym (first_more (alike y) placed.0 ts (t ∷ []) placed.1)
      | inr h ↦
          let at : k ≡ length firsts = h.0 ∙ sym kept.as_many in
          ap (slice_get (firsts ++ c ∷ [])) at ∙ last_member firsts c ∙ sym first ∙ ap (first_alike (ts ++ t ∷ [])) (sym h.1)
    ]

as_many_more : (ts : List Signature) (firsts : List ℕ) (t : Signature) (c : ℕ) → length firsts ≡ length ts → length (firsts ++ c ∷ []) ≡ length (ts ++ t ∷ [])
as_many_more ts firsts t c e = omega (arith, length_push firsts c, length_push ts t)

-- the keys of all types stay as they are
by_old_keys : (ts : List Signature) (firsts : List ℕ) (index : List (List ℕ × ℕ)) (t : Signature) (q : List ℕ) → IsIndexed ts firsts index → HasPlaced ts t → position (has (ts ++ t ∷ []) q) (ts ++ t ∷ []) ≡ behind (position (has ts q) ts) (cond (has ts q t) (Some (length ts)) None)
unfolding has
by_old_keys ts firsts index t q kept placed =
    first_agreed (has (ts ++ t ∷ []) q) (has ts q) (ts ++ t ∷ [])
    (λ k y e. ap (bytes_eq q) (key_more ts (t ∷ []) y (placed_in ts firsts index t kept placed k y e)).1)
    ∙ pushed_by (has ts q) ts t (position (has ts q) ts) refl

has_its_key : (ts : List Signature) (firsts : List ℕ) (index : List (List ℕ × ℕ)) (t : Signature) (q : List ℕ) → IsIndexed ts firsts index → HasPlaced ts t → has ts q t ≡ true → position (has ts q) ts ≡ first_alike ts t
unfolding has
has_its_key ts firsts index t q kept placed e =
    sym (kept.found q) ∙ first_by_key ts firsts index t q kept ((bytes_eq-Decides q (key_of ts t)).0 e, placed)

kept_indexed : (ts : List Signature) (firsts : List ℕ) (index : List (List ℕ × ℕ)) (t : Signature) (c : ℕ) → IsIndexed ts firsts index → HasPlaced ts t → first_alike ts t ≡ Some c → IsIndexed (ts ++ t ∷ []) (firsts ++ c ∷ []) index
unfolding has
kept_indexed ts firsts index t c kept placed first = record {
  as_many = as_many_more ts firsts t c kept.as_many;
  closed = λ k y e. (key_more ts (t ∷ []) y (placed_in ts firsts index t kept placed k y e)).0;
  first = first_in ts firsts index t c kept (first_more (alike t) c ts (t ∷ []) first);
  found = λ q.
      kept.found q
      ∙ kept_first (has ts q t) c (length ts) (position (has ts q) ts) (λ e. has_its_key ts firsts index t q kept placed e ∙ first)
      ∙ sym (by_old_keys ts firsts index t q kept placed);
}

new_indexed : (ts : List Signature) (firsts : List ℕ) (index more : List (List ℕ × ℕ)) (t : Signature) → IsIndexed ts firsts index → HasPlaced ts t → first_alike ts t ≡ None → ((q : List ℕ) → lookup (bytes_eq q) more ≡ cond (bytes_eq q (key_of ts t)) (Some (length ts)) (lookup (bytes_eq q) index)) → IsIndexed (ts ++ t ∷ []) (firsts ++ length ts ∷ []) more
unfolding has
new_indexed ts firsts index more t kept placed none inserted = record {
  as_many = as_many_more ts firsts t (length ts) kept.as_many;
  closed = λ k y e. (key_more ts (t ∷ []) y (placed_in ts firsts index t kept placed k y e)).0;
  first = first_in ts firsts index t (length ts) kept
      (first_pushed (alike t) ts t none ∙ cond-true (alike t t) (Some (length ts)) None (is_alike t t refl));
  found = λ q.
      inserted q
      ∙ ap (λ (o : Option ℕ). cond (has ts q t) (Some (length ts)) o) (kept.found q)
      ∙ new_first (has ts q t) (length ts) (position (has ts q) ts) (λ e. has_its_key ts firsts index t q kept placed e ∙ none)
      ∙ sym (by_old_keys ts firsts index t q kept placed);
}

-- the same, of lists and keys that are given as others
as_given : (ts us : List Signature) (fs gs : List ℕ) (m n : List (List ℕ × ℕ)) → us ≡ ts → gs ≡ fs → n ≡ m → IsIndexed ts fs m → IsIndexed us gs n
as_given ts us fs gs m n e f g kept =
    subst (λ (l : List Signature). IsIndexed l gs n) (sym e)
    (subst (λ (l : List ℕ). IsIndexed ts l n) (sym f)
    (subst (λ (l : List (List ℕ × ℕ)). IsIndexed ts fs l) (sym g) kept))

pub extended_kept : (ts now more_ts : List Signature) (firsts more_firsts : List ℕ) (index more : List (List ℕ × ℕ)) (t : Signature) (key given : List ℕ) (c first : ℕ) → IsIndexed ts firsts index → ts ≡ now → given ≡ key → IsKeyOf now t key → Some c ≡ lookup (bytes_eq given) index → more_ts ≡ ts ++ t ∷ [] → more_firsts ≡ firsts ++ first ∷ [] → first ≡ c → more ≡ index → IsIndexed more_ts more_firsts more
extended_kept ts now more_ts firsts more_firsts index more t key given c first kept s e is found f g h i =
    let own : IsKeyOf ts t key = subst (λ (us : List Signature). IsKeyOf us t key) (sym s) is in
    let at : first_alike ts t ≡ Some c = sym (first_found ts ts firsts index t key given kept refl e own) ∙ sym found in
    as_given (ts ++ t ∷ []) more_ts (firsts ++ c ∷ []) more_firsts index more f (g ∙ ap (λ (n : ℕ). firsts ++ n ∷ []) h) i
    (kept_indexed ts firsts index t c kept own.1 at)

pub extended_new : (ts now more_ts : List Signature) (firsts more_firsts : List ℕ) (index inserted more : List (List ℕ × ℕ)) (t : Signature) (key given again : List ℕ) (number first : ℕ) → IsIndexed ts firsts index → ts ≡ now → given ≡ key → again ≡ key → IsKeyOf now t key → None ≡ lookup (bytes_eq given) index → more_ts ≡ ts ++ t ∷ [] → more_firsts ≡ firsts ++ first ∷ [] → first ≡ number → number ≡ length ts → more ≡ inserted → ((q : List ℕ) → lookup (bytes_eq q) inserted ≡ cond (bytes_eq q again) (Some number) (lookup (bytes_eq q) index)) → IsIndexed more_ts more_firsts more
extended_new ts now more_ts firsts more_firsts index inserted more t key given again number first kept s e a is found f g h n i added =
    let own : IsKeyOf ts t key = subst (λ (us : List Signature). IsKeyOf us t key) (sym s) is in
    let at : first_alike ts t ≡ None = sym (first_found ts ts firsts index t key given kept refl e own) ∙ sym found in
    as_given (ts ++ t ∷ []) more_ts (firsts ++ length ts ∷ []) more_firsts inserted more f (g ∙ ap (λ (k : ℕ). firsts ++ k ∷ []) (h ∙ n)) i
    (new_indexed ts firsts index inserted t kept own.1 at
    (λ q. added q ∙ ap (λ (k : List ℕ). cond (bytes_eq q k) (Some number) (lookup (bytes_eq q) index)) (a ∙ own.0)
    ∙ ap (λ (k : ℕ). cond (bytes_eq q (key_of ts t)) (Some k) (lookup (bytes_eq q) index)) n))
