-- Values of types: they go along matching and stay in later stores, alone and in lists.
use Rattle.std.proofs.Common.{◌≡◌, ℕ, zero, suc, ◌==◌, Bool, true, false, List, [], ◌∷◌, ◌++◌, length, set, take, drop, reverse, slice_get, Some, if◌then◌else◌, refl, sym, ap, ◌∙◌, subst}
use Rattle.std.proofs.lemmas.Option.{same_Some, none-some}
use Rattle.std.proofs.lemmas.Bool.{and_from}
use Rattle.std.proofs.lemmas.List.{reverse-append}
use Rattle.wasm_types.specs.Each.{Each}
use Rattle.wasm_types.specs.EqualityLaws.{both}
use Rattle.wasm_types.specs.FunctionParts.{heap_type}
use Rattle.wasm_types.specs.Matching.{heap_top, val_matches, all_match}
use Rattle.wasm_types.proofs.MatchingLemmas.{no, val_transitive}
use Rattle.wasm_types.specs.declared.value_types.RefType.{RefType}
use Rattle.wasm_types.specs.declared.value_types.ValType.{ValType}
use Rattle.wasm_types.specs.declared.value_types.ValType.TheVariants as t
use Rattle.wasm_syntax.specs.Operators.{integer_type}
use Rattle.wasm_objects.specs.declared.raw.RawRef.{RawRef}
use Rattle.wasm_objects.specs.declared.raw.RawVal.{RawVal}
use Rattle.wasm_objects.specs.declared.raw.RawVal.TheVariants as w
use Rattle.spec_machine.specs.Machine.{Machine}
use Rattle.spec_machine.specs.Values.{ref_at, top_of, raw_ref_fits, raw_val_fits}
use Rattle.spec_machine.specs.WellFormed.{IsFunction, is_raw_ref}
use Rattle.law_store.specs.Later.{Extends}
use Rattle.law_store.proofs.FitLemmas.{is_raw_val_stays, raw_val_fits_stays, raw_ref_fits_along, type_of_val_of}
use Rattle.spec_execution.specs.Operands.{integer, has_kind, have_kinds}
use Rattle.law_code.specs.Typed.{HasType, HaveTypes}

-- a reference as a value fits a type as the reference does
pub ref_val_fits : (m : Machine) (r : RawRef) (ty : RefType) →
    raw_val_fits m (w.Reference r) (t.Ref ty) ≡ raw_ref_fits m r ty
ref_val_fits m r ty = ap (λ a. val_matches a (t.Ref ty)) (type_of_val_of m (ref_at m.id (heap_top (heap_type ty)) r))

pub no_number : (m : Machine) (r : RawRef) (ty : ValType) {P : Type 0} →
    ((a : RefType) → val_matches (t.Ref a) ty ≡ false) → raw_val_fits m (w.Reference r) ty ≡ true → P
no_number m r ty never p =
    no (sym (never _) ∙ sym (ap (λ a. val_matches a ty) (type_of_val_of m (ref_at m.id (top_of ty) r))) ∙ p)

reference_along : (m : Machine) (r : RawRef) (a b : ValType) → raw_val_fits m (w.Reference r) a ≡ true →
    val_matches a b ≡ true → raw_val_fits m (w.Reference r) b ≡ true
reference_along m r (t.Ref a) (t.Ref b) p q =
    ref_val_fits m r b ∙ raw_ref_fits_along m r a b (sym (ref_val_fits m r a) ∙ p) q
reference_along m r (t.Ref a) _ p q = no q
reference_along m r t.I32 b p q = no_number m r t.I32 (λ a. refl) p
reference_along m r t.I64 b p q = no_number m r t.I64 (λ a. refl) p
reference_along m r t.F32 b p q = no_number m r t.F32 (λ a. refl) p
reference_along m r t.F64 b p q = no_number m r t.F64 (λ a. refl) p
reference_along m r t.V128 b p q = no_number m r t.V128 (λ a. refl) p

fits_along : (m : Machine) (v : RawVal) (a b : ValType) → raw_val_fits m v a ≡ true → val_matches a b ≡ true →
    raw_val_fits m v b ≡ true
fits_along m (w.I32 n) a b p q = val_transitive t.I32 a b p q
fits_along m (w.I64 n) a b p q = val_transitive t.I64 a b p q
fits_along m (w.F32 n) a b p q = val_transitive t.F32 a b p q
fits_along m (w.F64 n) a b p q = val_transitive t.F64 a b p q
fits_along m (w.V128 n) a b p q = val_transitive t.V128 a b p q
fits_along m (w.Reference r) a b p q = reference_along m r a b p q

-- what has a type has each type that this one matches
pub has_along : (m : Machine) (v : RawVal) (a b : ValType) → HasType m a v → val_matches a b ≡ true → HasType m b v
has_along m v a b h q = record { there = h.there; fits = fits_along m v a b h.fits q }

-- in a later store
pub has_later : (m after : Machine) → Extends m after → Each m.functions (IsFunction m) → (ty : ValType) (v : RawVal) →
    HasType m ty v → HasType after ty v
has_later m after x fs ty v h = record {
  there = is_raw_val_stays m after x v h.there;
  fits = raw_val_fits_stays m after x fs v ty h.there h.fits;
}

pub have_later : (m after : Machine) → Extends m after → Each m.functions (IsFunction m) →
    (tys : List ValType) (vs : List RawVal) → HaveTypes m tys vs → HaveTypes after tys vs
have_later m after x fs [] [] h = tt
have_later m after x fs (ty ∷ tys) (v ∷ vs) h = (has_later m after x fs ty v h.0, have_later m after x fs tys vs h.1)
have_later m after x fs [] (v ∷ vs) h = absurd h
have_later m after x fs (ty ∷ tys) [] h = absurd h

-- a value of a type is of the type's kind
kind_of : (m : Machine) (ty : ValType) (v : RawVal) → raw_val_fits m v ty ≡ true → has_kind ty v ≡ true
kind_of m t.I32 (w.I32 n) p = refl
kind_of m t.I64 (w.I64 n) p = refl
kind_of m t.F32 (w.F32 n) p = refl
kind_of m t.F64 (w.F64 n) p = refl
kind_of m t.V128 (w.V128 n) p = refl
kind_of m (t.Ref ty) (w.Reference r) p = refl
kind_of m t.I32 (w.Reference r) p = no_number m r t.I32 (λ a. refl) p
kind_of m t.I64 (w.Reference r) p = no_number m r t.I64 (λ a. refl) p
kind_of m t.F32 (w.Reference r) p = no_number m r t.F32 (λ a. refl) p
kind_of m t.F64 (w.Reference r) p = no_number m r t.F64 (λ a. refl) p
kind_of m t.V128 (w.Reference r) p = no_number m r t.V128 (λ a. refl) p
kind_of m _ _ p = no p

pub has_its_kind : (m : Machine) (ty : ValType) (v : RawVal) → HasType m ty v → has_kind ty v ≡ true
has_its_kind m ty v h = kind_of m ty v h.fits

pub have_their_kinds : (m : Machine) (tys : List ValType) (vs : List RawVal) → HaveTypes m tys vs →
    have_kinds tys vs ≡ true
have_their_kinds m [] [] h = refl
have_their_kinds m (ty ∷ tys) (v ∷ vs) h = and_from _ _ (has_its_kind m ty v h.0) (have_their_kinds m tys vs h.1)
have_their_kinds m [] (v ∷ vs) h = absurd h
have_their_kinds m (ty ∷ tys) [] h = absurd h

module _ (m : Machine) where
  -- integers and references have their types
  has_integer_by : (b : Bool) (n x : ℕ) → HasType m (if b then t.I32 else t.I64)
      (if b then integer 32 x else integer 64 x)
  has_integer_by true n x = record { there = refl; fits = refl }
  has_integer_by false n x = record { there = refl; fits = refl }

  pub has_integer : (n x : ℕ) → HasType m (integer_type n) (integer n x)
  has_integer n x = has_integer_by (n == 32) n x

  pub has_reference : (r : RawRef) (ty : RefType) → is_raw_ref m r ≡ true → raw_ref_fits m r ty ≡ true →
      HasType m (t.Ref ty) (w.Reference r)
  has_reference r ty p q = record { there = p; fits = ref_val_fits m r ty ∙ q }

  -- lists of values
  pub have_along : (a b : List ValType) (vs : List RawVal) → HaveTypes m a vs → all_match a b ≡ true → HaveTypes m b vs
  have_along [] [] [] h q = tt
  have_along (ty ∷ a) (uy ∷ b) (v ∷ vs) h q =
      (has_along m v ty uy h.0 (both _ _ q).0, have_along a b vs h.1 (both _ _ q).1)
  have_along [] [] (v ∷ vs) h q = absurd h
  have_along (ty ∷ a) b [] h q = absurd h
  have_along [] (uy ∷ b) vs h q = no q
  have_along (ty ∷ a) [] (v ∷ vs) h q = no q

  pub have_append : (a b : List ValType) (vs us : List RawVal) → HaveTypes m a vs → HaveTypes m b us →
      HaveTypes m (a ++ b) (vs ++ us)
  have_append [] b [] us h k = k
  have_append (ty ∷ a) b (v ∷ vs) us h k = (h.0, have_append a b vs us h.1 k)
  have_append [] b (v ∷ vs) us h k = absurd h
  have_append (ty ∷ a) b [] us h k = absurd h

  pub have_reverse : (a : List ValType) (vs : List RawVal) → HaveTypes m a vs → HaveTypes m (reverse a) (reverse vs)
  have_reverse [] [] h = tt
  have_reverse (ty ∷ a) (v ∷ vs) h =
      subst (λ bs. HaveTypes m bs (reverse (v ∷ vs))) (sym (reverse-append (ty ∷ []) a))
      (subst (HaveTypes m (reverse a ++ ty ∷ [])) (sym (reverse-append (v ∷ []) vs))
      (have_append (reverse a) (ty ∷ []) (reverse vs) (v ∷ []) (have_reverse a vs h.1) (h.0, tt)))
  have_reverse [] (v ∷ vs) h = absurd h
  have_reverse (ty ∷ a) [] h = absurd h

  pub have_length : (a : List ValType) (vs : List RawVal) → HaveTypes m a vs → length vs ≡ length a
  have_length [] [] h = refl
  have_length (ty ∷ a) (v ∷ vs) h = ap suc (have_length a vs h.1)
  have_length [] (v ∷ vs) h = absurd h
  have_length (ty ∷ a) [] h = absurd h

  -- the value in a place, and another value put there
  pub record Found (ty : ValType) (vs : List RawVal) (n : ℕ) : Type 0 where
    pub value : RawVal
    pub here : slice_get vs n ≡ Some value
    pub has : HasType m ty value

  pub find : (a : List ValType) (vs : List RawVal) (n : ℕ) (ty : ValType) → HaveTypes m a vs → slice_get a n ≡ Some ty →
      Found ty vs n
  find [] vs n ty h e = absurd (none-some ty e)
  find (uy ∷ a) [] n ty h e = absurd h
  find (uy ∷ a) (v ∷ vs) zero ty h e =
      record { value = v; here = refl; has = subst (λ b. HasType m b v) (same_Some uy ty e) h.0 }
  find (uy ∷ a) (v ∷ vs) (suc n) ty h e =
      let f : Found ty vs n = find a vs n ty h.1 e in record { value = f.value; here = f.here; has = f.has }

  pub have_set : (a : List ValType) (vs : List RawVal) (n : ℕ) (ty : ValType) (v : RawVal) → HaveTypes m a vs →
      slice_get a n ≡ Some ty → HasType m ty v → HaveTypes m a (set vs n v)
  have_set [] vs n ty v h e k = absurd (none-some ty e)
  have_set (uy ∷ a) [] n ty v h e k = absurd h
  have_set (uy ∷ a) (u ∷ vs) zero ty v h e k = (subst (λ b. HasType m b v) (sym (same_Some uy ty e)) k, h.1)
  have_set (uy ∷ a) (u ∷ vs) (suc n) ty v h e k = (h.0, have_set a vs n ty v h.1 e k)

  -- the front and the rest of values
  pub have_front : (a b : List ValType) (vs : List RawVal) → HaveTypes m (a ++ b) vs →
      HaveTypes m a (take (length a) vs)
  have_front [] b vs h = tt
  have_front (ty ∷ a) b (v ∷ vs) h = (h.0, have_front a b vs h.1)
  have_front (ty ∷ a) b [] h = absurd h

  pub have_rest : (a b : List ValType) (vs : List RawVal) → HaveTypes m (a ++ b) vs → HaveTypes m b (drop (length a) vs)
  have_rest [] b vs h = h
  have_rest (ty ∷ a) b (v ∷ vs) h = have_rest a b vs h.1
  have_rest (ty ∷ a) b [] h = absurd h

-- as many types match as are wanted
pub match_length : (a b : List ValType) → all_match a b ≡ true → length a ≡ length b
match_length [] [] q = refl
match_length (ty ∷ a) (uy ∷ b) q = ap suc (match_length a b (both _ _ q).1)
match_length [] (uy ∷ b) q = no q
match_length (ty ∷ a) [] q = no q
