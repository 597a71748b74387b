-- What stands in a place of a store: it stays in a later store, and goes where its type goes.
use Rattle.std.proofs.Common.{◌≡◌, ℕ, true, false, ltb, length, slice_get, Option, Some, None, option_and_then, refl, sym, ap, ◌∙◌, subst, inl, inr, arith}
use Rattle.std.proofs.lemmas.Bool.{ltb-true}
use Rattle.std.proofs.lemmas.Option.{slice_get_cases}
use Rattle.wasm_types.specs.Each.{Each}
use Rattle.wasm_types.specs.FunctionParts.{heap_type, ref_type}
use Rattle.wasm_types.specs.Matching.{heap_top, ref_matches, val_matches}
use Rattle.wasm_types.specs.EqualityLaws.{both}
use Rattle.wasm_types.proofs.MatchingLemmas.{top_kept, ref_transitive, val_transitive}
use Rattle.wasm_types.specs.declared.plain.HeapTopType.{HeapTopType}
use Rattle.wasm_types.specs.declared.plain.HeapTopType.TheVariants as top
use Rattle.wasm_types.specs.declared.value_types.RefType.{RefType}
use Rattle.wasm_types.specs.declared.value_types.ValType.{ValType}
use Rattle.wasm_types.specs.declared.value_types.ValType.TheVariants as t
use Rattle.wasm_syntax.specs.declared.declarations.FuncDecl.{FuncDecl}
use Rattle.wasm_syntax.specs.declared.declarations.ModuleDecl.{ModuleDecl}
use Rattle.wasm_values.specs.Values.{val_of}
use Rattle.wasm_values.specs.declared.references.Ref.{Ref}
use Rattle.wasm_values.specs.declared.references.AnyRef.{AnyRef}
use Rattle.wasm_values.specs.declared.references.Ref.TheVariants as r
use Rattle.wasm_values.specs.declared.values.Val.{Val}
use Rattle.wasm_objects.specs.declared.raw.RawRef.{RawRef}
use Rattle.wasm_objects.specs.declared.raw.RawRef.TheVariants as raw
use Rattle.wasm_objects.specs.declared.raw.RawVal.{RawVal}
use Rattle.wasm_objects.specs.declared.raw.RawVal.TheVariants as w
use Rattle.spec_machine.specs.Machine.{Machine, Function, guest, host}
use Rattle.spec_machine.specs.Values.{any_of, concrete, ref_at, defined_type, type_of_function, function_type, type_of_ref, least_type, ref_fits, val_fits, raw_ref_fits, raw_val_fits, top_of}
use Rattle.spec_machine.specs.WellFormed.{IsFunction, is_raw_ref, is_raw_val}
use Rattle.law_store.specs.Later.{There, IsSame, IsLaterInstance, Extends}
use Rattle.law_store.proofs.Lists.{later_place}

module _ (m after : Machine) (x : Extends m after) where
  -- a function keeps its type
  pub type_of_function_stays : (f : Function) → IsFunction m f → type_of_function after f ≡ type_of_function m f
  type_of_function_stays (host ty body stored) h = refl
  type_of_function_stays (guest instance n) h =
      let t : There after.instances instance (IsLaterInstance h.parts) = x.instances instance h.parts h.found in
      ap (option_and_then (λ i. defined_type i n)) t.found
      ∙ ap (λ (d : ModuleDecl). option_and_then (λ (f : FuncDecl). slice_get d.types f.ty) (slice_get d.functions n))
      t.says.decl
      ∙ sym (ap (option_and_then (λ i. defined_type i n)) h.found)

  pub function_type_stays : Each m.functions (IsFunction m) → (f : ℕ) → ltb f (length m.functions) ≡ true →
      function_type after f ≡ function_type m f
  function_type_stays h f p =
      elim (slice_get_cases m.functions f).1 [
        | inl t ↦ let u : There after.functions f (IsSame t.0) = x.functions f t.0 t.2 in
            ap (option_and_then (type_of_function after)) u.found
            ∙ ap (type_of_function after) u.says
            ∙ type_of_function_stays t.0 (h f t.0 t.2)
            ∙ sym (ap (option_and_then (type_of_function m)) t.2)
        | inr t ↦ absurd (omega (arith, ltb-true f (length m.functions) p, t.0))
      ]

  pub is_raw_ref_stays : (r : RawRef) → is_raw_ref m r ≡ true → is_raw_ref after r ≡ true
  is_raw_ref_stays raw.Null p = refl
  is_raw_ref_stays (raw.Extern n) p = refl
  is_raw_ref_stays (raw.I31 n) p = p
  is_raw_ref_stays (raw.Func f) p = later_place IsSame m.functions after.functions f x.functions p

  pub is_raw_val_stays : (v : RawVal) → is_raw_val m v ≡ true → is_raw_val after v ≡ true
  is_raw_val_stays (w.Reference r) p = is_raw_ref_stays r p
  is_raw_val_stays _ p = refl

  null_type : (g : HeapTopType) →
      type_of_ref after (ref_at after.id g raw.Null) ≡ type_of_ref m (ref_at m.id g raw.Null)
  null_type top.Func = refl
  null_type top.Extern = refl
  null_type top.Any = refl

  any_type : (a : Option AnyRef) → type_of_ref after (r.Any a) ≡ type_of_ref m (r.Any a)
  any_type None = refl
  any_type (Some a) = refl

  pub type_of_raw_stays : Each m.functions (IsFunction m) → (g : HeapTopType) (r : RawRef) → is_raw_ref m r ≡ true →
      type_of_ref after (ref_at after.id g r) ≡ type_of_ref m (ref_at m.id g r)
  type_of_raw_stays h g raw.Null p = null_type g
  type_of_raw_stays h g (raw.Extern n) p = refl
  type_of_raw_stays h g (raw.I31 n) p = any_type (any_of n)
  type_of_raw_stays h g (raw.Func f) p = ap (λ t. ref_type false (concrete t)) (function_type_stays h f p)

  pub raw_ref_fits_stays : Each m.functions (IsFunction m) → (r : RawRef) (ty : RefType) → is_raw_ref m r ≡ true →
      raw_ref_fits m r ty ≡ true → raw_ref_fits after r ty ≡ true
  raw_ref_fits_stays h r ty p q = ap (λ a. ref_matches a ty) (type_of_raw_stays h (heap_top (heap_type ty)) r p) ∙ q

-- the type of a reference as a value
pub type_of_val_of : (m : Machine) (q : Ref) → least_type m (val_of q) ≡ t.Ref (type_of_ref m q)
type_of_val_of m (r.Func f) = refl
type_of_val_of m (r.Extern e) = refl
type_of_val_of m (r.Any a) = refl

pub raw_val_fits_stays : (m after : Machine) → Extends m after → Each m.functions (IsFunction m) →
    (v : RawVal) (ty : ValType) → is_raw_val m v ≡ true → raw_val_fits m v ty ≡ true → raw_val_fits after v ty ≡ true
raw_val_fits_stays m after x h (w.I32 n) ty p q = q
raw_val_fits_stays m after x h (w.I64 n) ty p q = q
raw_val_fits_stays m after x h (w.F32 n) ty p q = q
raw_val_fits_stays m after x h (w.F64 n) ty p q = q
raw_val_fits_stays m after x h (w.V128 n) ty p q = q
raw_val_fits_stays m after x h (w.Reference r) ty p q =
    ap (λ a. val_matches a ty) (
    type_of_val_of after (ref_at after.id (top_of ty) r)
    ∙ ap t.Ref (type_of_raw_stays m after x h (top_of ty) r p)
    ∙ sym (type_of_val_of m (ref_at m.id (top_of ty) r))
    ) ∙ q

-- what fits a type fits each type that this one matches
pub ref_fits_along : (m : Machine) (r : Ref) (a b : RefType) → ref_fits m r a ≡ true → ref_matches a b ≡ true →
    ref_fits m r b ≡ true
ref_fits_along m r a b p q = ref_transitive (type_of_ref m r) a b p q

pub val_fits_along : (m : Machine) (v : Val) (a b : ValType) → val_fits m v a ≡ true → val_matches a b ≡ true →
    val_fits m v b ≡ true
val_fits_along m v a b p q = val_transitive (least_type m v) a b p q

pub raw_ref_fits_along : (m : Machine) (r : RawRef) (a b : RefType) → raw_ref_fits m r a ≡ true →
    ref_matches a b ≡ true → raw_ref_fits m r b ≡ true
raw_ref_fits_along m r a b p q =
    let same : heap_top (heap_type a) ≡ heap_top (heap_type b) = top_kept (heap_type a) (heap_type b) (both _ _ q).0 in
    subst (λ g. ref_fits m (ref_at m.id g r) b ≡ true) same
    (ref_fits_along m (ref_at m.id (heap_top (heap_type a)) r) a b p q)
