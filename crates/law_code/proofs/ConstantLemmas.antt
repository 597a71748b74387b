-- Constant expressions have values of their types, over functions that are there and globals with values; so do the
-- globals that are defined, each over those before it.
use Rattle.std.proofs.Common.{◌≡◌, ℕ, suc, ◌+◌, true, List, [], ◌∷◌, ◌++◌, length, map, take, slice_get, Option, Some, None, option_map, option_and_then, refl, sym, ap, ◌∙◌, subst, arith, append_assoc, append-nil}
use Rattle.std.specs.List.{filter_map}
use Rattle.std.proofs.lemmas.List.{map-append}
use Rattle.std.proofs.lemmas.Option.{same_Some, none-some, option_and_then_some, slice_get-map}
use Rattle.wasm_types.proofs.MatchingLemmas.{no}
use Rattle.wasm_types.specs.GlobalTypes.{GlobalParts}
use Rattle.wasm_types.specs.Signatures.{Signature}
use Rattle.wasm_types.specs.declared.plain.HeapTopType.{HeapTopType}
use Rattle.wasm_types.specs.declared.plain.HeapTopType.TheVariants as top
use Rattle.wasm_types.specs.declared.plain.Mutability.{Mutability}
use Rattle.wasm_types.specs.declared.plain.Mutability.TheVariants.{Const, Var}
use Rattle.wasm_types.specs.declared.value_types.RefType.{RefType}
use Rattle.wasm_types.specs.declared.value_types.ValType.{ValType}
use Rattle.wasm_types.specs.declared.value_types.ValType.TheVariants as value
use Rattle.wasm_syntax.specs.Constants.{null_type, function_ref, constant, constant_content, const_type, is_below, const_fits}
use Rattle.wasm_syntax.specs.Contexts.{function_type}
use Rattle.wasm_syntax.specs.declared.constants.ConstExpr.{ConstExpr}
use Rattle.wasm_syntax.specs.declared.constants.ConstExpr.TheVariants as c
use Rattle.wasm_syntax.specs.declared.declarations.GlobalDecl.{GlobalDecl}
use Rattle.wasm_objects.specs.Globals.{Global}
use Rattle.wasm_objects.specs.declared.raw.RawRef.{RawRef}
use Rattle.wasm_objects.specs.declared.raw.RawRef.TheVariants as r
use Rattle.wasm_objects.specs.declared.raw.RawVal.{RawVal}
use Rattle.wasm_objects.specs.declared.raw.RawVal.TheVariants as w
use Rattle.spec_machine.specs.Machine.{Machine}
use Rattle.spec_machine.specs.Values.{raw_ref_fits}
use Rattle.spec_machine.specs.WellFormed.{is_raw_ref, Has, HasFunction, HasGlobal, IsGlobal, IsWellFormed}
use Rattle.spec_execution.specs.Allocation.{value_of, reference_of, values_from}
use Rattle.spec_execution.specs.Operands as on
use Rattle.law_code.specs.Typed.{HasType, HaveTypes}
use Rattle.law_code.proofs.Combinators.{holds_reference}
use Rattle.law_code.proofs.FollowLemmas.{map_some}
use Rattle.law_code.proofs.IndexLemmas.{member, flat, read_global, has_function}
use Rattle.law_code.proofs.SpaceLemmas.{cons_some, has_rest}
use Rattle.law_code.proofs.TypedValues.{Found, has_along, have_append, find}

-- what is declared of a function has its number
abbrev pub IsNamed : Machine → Option Signature → ℕ → Type 0
IsNamed m declared f = (ty : Signature) → declared ≡ Some ty → HasFunction m ty f

-- the contents of global types
abbrev pub contents : List GlobalParts → List ValType
contents tys = map (λ (ty : GlobalParts). ty.content) tys

abbrev pub types : List GlobalDecl → List GlobalParts
types gs = map (λ (g : GlobalDecl). g.ty) gs

constant_is : (mutability : Mutability) (content ty : ValType) → constant mutability content ≡ Some ty → content ≡ ty
constant_is Const content ty e = same_Some content ty e
constant_is Var content ty e = absurd (none-some ty e)

-- lists of types of which so many are before another
take_own : {A : Type 0} (xs ys : List A) → take (length xs) (xs ++ ys) ≡ xs
take_own [] ys = refl
take_own (x ∷ xs) ys = ap (λ zs. x ∷ zs) (take_own xs ys)

take_here : {A : Type 0} (xs ys : List A) → take (length xs + 0) (xs ++ ys) ≡ xs
take_here xs ys =
    let same : length xs + 0 ≡ length xs = omega arith in ap (λ n. take n (xs ++ ys)) same ∙ take_own xs ys

length_push : {A : Type 0} (xs : List A) (y : A) → length (xs ++ y ∷ []) ≡ suc (length xs)
length_push [] y = refl
length_push (x ∷ xs) y = ap suc (length_push xs y)

take_next : {A : Type 0} (xs : List A) (y : A) (ys : List A) (n : ℕ) →
    take (length xs + suc n) (xs ++ y ∷ ys) ≡ take (length (xs ++ y ∷ []) + n) ((xs ++ y ∷ []) ++ ys)
take_next xs y ys n =
    let same : length xs + suc n ≡ length (xs ++ y ∷ []) + n = omega (arith, length_push xs y) in
    ap (λ k. take k (xs ++ y ∷ ys)) same
    ∙ ap (take (length (xs ++ y ∷ []) + n)) (sym (append_assoc xs (y ∷ []) ys))

module _ (m : Machine) where
  null_has : (g : HeapTopType) → HasType m (null_type g) (w.Reference r.Null)
  null_has top.Func = record { there = refl; fits = refl }
  null_has top.Extern = record { there = refl; fits = refl }
  null_has top.Any = record { there = refl; fits = refl }

  -- over the functions of an index space
  module _ (functions : List (Option Signature)) (fs : List ℕ) (have : Has functions fs (IsNamed m)) where
    function_has : (f : ℕ) (ty : ValType) → const_type functions [] (c.RefFunc f) ≡ Some ty →
        HasType m ty (w.Reference (on.found r.Null (slice_get fs f) r.Func))
    function_has f ty p =
        let own : (s : Signature) × (function_type functions f ≡ Some s) × (function_ref s ≡ ty) =
        map_some function_ref (function_type functions f) ty p in
        let at : slice_get functions f ≡ Some (Some own.0) = flat (slice_get functions f) own.0 own.1 in
        let n : (n : ℕ) × (slice_get fs f ≡ Some n) = member functions fs f (Some own.0) have.as_many at in
        let h : HasFunction m own.0 n.0 = have.each f (Some own.0) n.0 at n.1 own.0 refl in
        subst (λ u. HasType m u (w.Reference (on.found r.Null (slice_get fs f) r.Func))) own.2
        (subst (λ o. HasType m (function_ref own.0) (w.Reference (on.found r.Null o r.Func))) (sym n.1)
        (has_function m n.0 h.ty own.0 h.found h.fits))

    -- and globals with values of their types
    module _ (tys : List GlobalParts) (gs : List RawVal) (are : HaveTypes m (contents tys) gs) where
      global_has : (g : ℕ) (ty : ValType) → option_and_then constant_content (slice_get tys g) ≡ Some ty →
          HasType m ty (on.found (w.Reference r.Null) (slice_get gs g) (λ v. v))
      global_has g ty p =
          option_and_then_some constant_content (slice_get tys g) ty p (λ u q d.
          let v : Found m u.content gs g =
          find m (contents tys) gs g u.content are
          (slice_get-map (λ (ty : GlobalParts). ty.content) tys g ∙ ap (option_map (λ (ty : GlobalParts). ty.content)) q) in
          subst (λ o. HasType m ty (on.found (w.Reference r.Null) o (λ v. v))) (sym v.here)
          (subst (λ b. HasType m b v.value) (constant_is u.mutability u.content ty d) v.has))

      value_has : (e : ConstExpr) (ty : ValType) → const_type functions tys e ≡ Some ty → HasType m ty (value_of fs gs e)
      value_has (c.I32 n) ty p =
          subst (λ u. HasType m u (w.I32 n)) (same_Some value.I32 ty p) (record { there = refl; fits = refl })
      value_has (c.I64 n) ty p =
          subst (λ u. HasType m u (w.I64 n)) (same_Some value.I64 ty p) (record { there = refl; fits = refl })
      value_has (c.F32 n) ty p =
          subst (λ u. HasType m u (w.F32 n)) (same_Some value.F32 ty p) (record { there = refl; fits = refl })
      value_has (c.F64 n) ty p =
          subst (λ u. HasType m u (w.F64 n)) (same_Some value.F64 ty p) (record { there = refl; fits = refl })
      value_has (c.V128 n) ty p =
          subst (λ u. HasType m u (w.V128 n)) (same_Some value.V128 ty p) (record { there = refl; fits = refl })
      value_has (c.RefNull g) ty p =
          subst (λ u. HasType m u (w.Reference r.Null)) (same_Some (null_type g) ty p) (null_has g)
      value_has (c.RefFunc f) ty p = function_has f ty p
      value_has (c.GlobalGet g) ty p = global_has g ty p

      fits_by : (wanted : ValType) (e : ConstExpr) (o : Option ValType) → const_type functions tys e ≡ o →
          is_below o wanted ≡ true → HasType m wanted (value_of fs gs e)
      fits_by wanted e None q p = no p
      fits_by wanted e (Some ty) q p = has_along m (value_of fs gs e) ty wanted (value_has e ty q) p

      -- one that fits has a value of the wanted type
      pub value_fits : (wanted : ValType) (e : ConstExpr) → const_fits functions tys wanted e ≡ true →
          HasType m wanted (value_of fs gs e)
      value_fits wanted e p = fits_by wanted e (const_type functions tys e) refl p

      -- and a reference, where one is wanted
      pub reference_fits : (ty : RefType) (e : ConstExpr) → const_fits functions tys (value.Ref ty) e ≡ true →
          (is_raw_ref m (reference_of fs gs e) ≡ true) × (raw_ref_fits m (reference_of fs gs e) ty ≡ true)
      reference_fits ty e p =
          let h : (y : RawRef) × (on.reference_in (value_of fs gs e) ≡ Some y) × (is_raw_ref m y ≡ true)
          × (raw_ref_fits m y ty ≡ true) =
          holds_reference m ty (value_of fs gs e) (value_fits (value.Ref ty) e p) in
          let same : h.0 ≡ reference_of fs gs e = sym (ap (λ o. on.found r.Null o (λ y. y)) h.1) in
          (subst (λ y. is_raw_ref m y ≡ true) same h.2, subst (λ y. raw_ref_fits m y ty ≡ true) same h.3)

    -- each global that is defined has a value of its type over those before it
    pub values_have : (tys : List GlobalParts) (more : List GlobalDecl) (gs : List RawVal) →
        ((n : ℕ) (g : GlobalDecl) → slice_get more n ≡ Some g →
        const_fits functions (take (length tys + n) (tys ++ types more)) g.ty.content g.init ≡ true) →
        HaveTypes m (contents tys) gs → HaveTypes m (contents (tys ++ types more)) (values_from fs gs more)
    values_have tys [] gs fits h = subst (λ us. HaveTypes m (contents us) gs) (sym (append-nil tys)) h
    values_have tys (g ∷ more) gs fits h =
        let v : RawVal = value_of fs gs g.init in
        let here : HasType m g.ty.content v =
        value_fits tys gs h g.ty.content g.init
        (subst (λ us. const_fits functions us g.ty.content g.init ≡ true) (take_here tys (g.ty ∷ types more))
        (fits 0 g refl)) in
        subst (λ us. HaveTypes m (contents us) (values_from fs (gs ++ v ∷ []) more))
        (append_assoc tys (g.ty ∷ []) (types more))
        (values_have (tys ++ g.ty ∷ []) more (gs ++ v ∷ [])
        (λ n x e. subst (λ us. const_fits functions us x.ty.content x.init ≡ true)
        (take_next tys g.ty (types more) n) (fits (suc n) x e))
        (subst (λ us. HaveTypes m us (gs ++ v ∷ []))
        (sym (map-append (λ (ty : GlobalParts). ty.content) tys (g.ty ∷ [])))
        (have_append m (contents tys) (g.ty.content ∷ []) gs (v ∷ []) h (here, tt))))

  -- ---- the values of imported globals

  -- the value of a global, by its number
  abbrev pub value_at : ℕ → Option RawVal
  value_at n = option_map (λ (g : Global). g.value) (slice_get m.globals n)

  global_value : (s : IsWellFormed m) (declared : GlobalParts) (n : ℕ) → HasGlobal m declared n →
      (v : RawVal) × (value_at n ≡ Some v) × (HasType m declared.content v)
  global_value s declared n h =
      let g : IsGlobal m h.global = s.globals_are n h.global h.found in (
        h.global.value,
        ap (option_map (λ (g : Global). g.value)) h.found,
        read_global m declared.mutability h.global.ty.mutability declared.content h.global.ty.content h.global.value
            h.fits (record { there = g.there; fits = g.fits }),
      )

  pub imported_have : (s : IsWellFormed m) (tys : List GlobalParts) (ns : List ℕ) → Has tys ns (HasGlobal m) →
      HaveTypes m (contents tys) (filter_map value_at ns)
  imported_have s [] [] h = tt
  imported_have s (ty ∷ tys) (n ∷ ns) h =
      let v : (v : RawVal) × (value_at n ≡ Some v) × (HasType m ty.content v) =
      global_value s ty n (h.each 0 ty n refl refl) in
      subst (HaveTypes m (contents (ty ∷ tys))) (sym (cons_some value_at ns n v.0 v.1))
      (v.2, imported_have s tys ns (has_rest (HasGlobal m) ty n tys ns h))
  imported_have s [] (n ∷ ns) h = absurd (omega (arith, h.as_many))
  imported_have s (ty ∷ tys) [] h = absurd (omega (arith, h.as_many))
