-- Functions of a well-formed store: each that is named is there, its type is sound, its body is well typed, and its
-- locals begin with values of their types.
use Rattle.std.proofs.Common.{◌≡◌, ◌⊎◌, ℕ, Bool, true, false, not, ◌&&◌, ltb, if◌then◌else◌, List, [], ◌∷◌, length, map, slice_get, Option, Some, None, option_and_then, refl, sym, ap, ◌∙◌, subst, inl, inr, arith}
use Rattle.std.specs.List.{list_all}
use Rattle.std.proofs.lemmas.Bool.{ltb-true, lt-ltb}
use Rattle.std.proofs.lemmas.Option.{same_Some, option_and_then_some, slice_get_cases}
use Rattle.wasm_types.specs.EqualityLaws.{both}
use Rattle.wasm_types.specs.FunctionParts.{heap_type, is_nullable, ref_type}
use Rattle.wasm_types.specs.FunctionRules.{IsSound}
use Rattle.wasm_types.specs.Matching.{heap_top, is_func, is_extern, is_any, ref_matches}
use Rattle.wasm_types.specs.Signatures.{Signature}
use Rattle.wasm_types.proofs.MatchingLemmas.{no}
use Rattle.wasm_types.specs.declared.plain.HeapTopType.{HeapTopType}
use Rattle.wasm_types.specs.declared.plain.HeapTopType.TheVariants as top
use Rattle.wasm_types.specs.declared.value_types.HeapType.{HeapType}
use Rattle.wasm_types.specs.declared.value_types.RefType.{RefType}
use Rattle.wasm_types.specs.declared.value_types.ValType.{ValType}
use Rattle.wasm_types.specs.declared.value_types.ValType.TheVariants as t
use Rattle.wasm_syntax.specs.Rules.{has_default, has_types}
use Rattle.wasm_syntax.specs.Typing.{is_typed, function_references}
use Rattle.wasm_syntax.specs.declared.declarations.FuncDecl.{FuncDecl}
use Rattle.wasm_syntax.specs.declared.module_fault.Rule.TheVariants as rule
use Rattle.wasm_values.specs.References.{null_of}
use Rattle.wasm_values.specs.Values.{default_of, val_of}
use Rattle.wasm_values.specs.declared.references.AnyRef.{AnyRef}
use Rattle.wasm_values.specs.declared.references.Ref.TheVariants as r
use Rattle.wasm_objects.specs.declared.raw.RawRef.{RawRef}
use Rattle.wasm_objects.specs.declared.raw.RawRef.TheVariants as raw
use Rattle.wasm_objects.specs.declared.raw.RawVal.TheVariants as w
use Rattle.spec_machine.specs.Machine.{Machine, Function, guest, host, InstanceParts}
use Rattle.spec_machine.specs.Values.{any_of, raw_val, defined_type, type_of_function, function_type, type_of_ref, raw_ref_fits}
use Rattle.spec_machine.specs.WellFormed.{is_raw_ref, IsFunction, IsInstance, IsWellFormed}
use Rattle.law_store.proofs.FitLemmas.{raw_ref_fits_along}
use Rattle.spec_execution.specs.Entering.{begun}
use Rattle.law_code.specs.Typed.{HasType, HaveTypes}
use Rattle.law_code.proofs.TypedValues.{has_reference}

pub not_false : (b : Bool) → not b ≡ false → b ≡ true
not_false true e = refl
not_false false e = no (sym e)

-- a place within a list
pub within : {A : Type 0} (xs : List A) (n : ℕ) → ltb n (length xs) ≡ true → (x : A) × (slice_get xs n ≡ Some x)
within xs n p =
    elim (slice_get_cases xs n).1 [
      | inl q ↦ (q.0, q.2)
      | inr q ↦ absurd (omega (arith, ltb-true n (length xs) p, q.0))
    ]

-- ---- a function of an instance

pub record IsDefined (m : Machine) (instance n : ℕ) (own : Signature) : Type 0 where
  pub parts : InstanceParts
  pub found : slice_get m.instances instance ≡ Some parts
  pub function : FuncDecl
  pub defined : slice_get parts.decl.functions n ≡ Some function
  pub is : slice_get parts.decl.types function.ty ≡ Some own

module _ (m : Machine) (s : IsWellFormed m) where
  pub defined : (instance n : ℕ) (own : Signature) → type_of_function m (guest instance n) ≡ Some own →
      IsDefined m instance n own
  defined instance n own e =
      option_and_then_some (λ (i : InstanceParts). defined_type i n) (slice_get m.instances instance) own e
      (λ parts p q.
      option_and_then_some (λ (f : FuncDecl). slice_get parts.decl.types f.ty) (slice_get parts.decl.functions n) own q
      (λ function d i. record { parts = parts; found = p; function = function; defined = d; is = i }))

  -- its body is well typed, and its locals have default values
  pub typed_of : (instance n : ℕ) (own : Signature) (d : IsDefined m instance n own) →
      is_typed d.parts.decl d.function ≡ true
  typed_of instance n own d =
      let i : IsInstance m instance d.parts = s.instances_are instance d.parts d.found in
      not_false (is_typed d.parts.decl d.function) ((i.module_is.valid rule.Body).in_functions n d.function d.defined)

  pub defaults_of : (instance n : ℕ) (own : Signature) (d : IsDefined m instance n own) →
      list_all has_default d.function.locals ≡ true
  defaults_of instance n own d =
      let i : IsInstance m instance d.parts = s.instances_are instance d.parts d.found in
      not_false (list_all has_default d.function.locals)
      ((i.module_is.valid rule.Local).in_functions n d.function d.defined)

  -- ---- a function of the store

  -- each function has a type
  type_there : (g : Function) → IsFunction m g → (own : Signature) × (type_of_function m g ≡ Some own)
  type_there (host ty body stored) k = (ty, refl)
  type_there (guest instance n) k =
      let i : IsInstance m instance k.parts = s.instances_are instance k.parts k.found in
      let f : (x : FuncDecl) × (slice_get k.parts.decl.functions n ≡ Some x) =
      within k.parts.decl.functions n (lt-ltb n (length k.parts.decl.functions) k.defined) in
      let has : has_types k.parts.decl f.0 ≡ true =
      not_false (has_types k.parts.decl f.0) ((i.module_is.valid rule.Index).in_functions n f.0 f.1) in
      let ty : (x : Signature) × (slice_get k.parts.decl.types f.0.ty ≡ Some x) =
      within k.parts.decl.types f.0.ty (both _ _ has).0 in (
        ty.0,
        ap (option_and_then (λ (p : InstanceParts). defined_type p n)) k.found
            ∙ ap (option_and_then (λ (x : FuncDecl). slice_get k.parts.decl.types x.ty)) f.1
            ∙ ty.1,
      )

  pub function_there : (n : ℕ) → is_raw_ref m (raw.Func n) ≡ true → (own : Signature) × (function_type m n ≡ Some own)
  function_there n p =
      let g : (x : Function) × (slice_get m.functions n ≡ Some x) = within m.functions n p in
      let ty : (own : Signature) × (type_of_function m g.0 ≡ Some own) =
      type_there g.0 (s.functions_are n g.0 g.1) in
      (ty.0, ap (option_and_then (type_of_function m)) g.1 ∙ ty.1)

  -- its type keeps the rule on supertypes
  type_sound : (g : Function) (own : Signature) → IsFunction m g → type_of_function m g ≡ Some own → IsSound own
  type_sound (host ty body stored) own k e = subst IsSound (same_Some ty own e) k.type_is.sound
  type_sound (guest instance n) own k e =
      let d : IsDefined m instance n own = defined instance n own e in
      (s.instances_are instance d.parts d.found).module_is.types_are d.function.ty own d.is

  pub function_sound : (n : ℕ) (own : Signature) → function_type m n ≡ Some own → IsSound own
  function_sound n own e =
      option_and_then_some (type_of_function m) (slice_get m.functions n) own e
      (λ g p q. type_sound g own (s.functions_are n g p) q)

-- ---- references to functions

-- a reference that fits the type of functions is null, or a function
pub record IsCallable (m : Machine) (y : RawRef) : Type 0 where
  pub is : (y ≡ raw.Null) ⊎ ((n : ℕ) × (y ≡ raw.Func n) × (is_raw_ref m (raw.Func n) ≡ true))

no_any : (m : Machine) (a : Option AnyRef) → ref_matches (type_of_ref m (r.Any a)) function_references ≡ false
no_any m None = refl
no_any m (Some a) = refl

callable_by : (m : Machine) (y : RawRef) → is_raw_ref m y ≡ true → raw_ref_fits m y function_references ≡ true →
    IsCallable m y
callable_by m raw.Null p q = record { is = inl refl }
callable_by m (raw.Func n) p q = record { is = inr (n, refl, p) }
callable_by m (raw.Extern n) p q = no q
callable_by m (raw.I31 n) p q = no (sym (no_any m (any_of n)) ∙ q)

pub callable : (m : Machine) (y : RawRef) (ty : RefType) → is_raw_ref m y ≡ true → raw_ref_fits m y ty ≡ true →
    ref_matches ty function_references ≡ true → IsCallable m y
callable m y ty p q e = callable_by m y p (raw_ref_fits_along m y ty function_references q e)

-- ---- locals

module _ (m : Machine) where
  null_fits_by : (g : HeapTopType) (b : HeapType) → heap_top b ≡ g →
      ref_matches (type_of_ref m (null_of g)) (ref_type true b) ≡ true
  null_fits_by top.Func b e = ap (λ g. is_func g && true) e
  null_fits_by top.Extern b e = ap (λ g. is_extern g && true) e
  null_fits_by top.Any b e = ap (λ g. is_any g && true) e

  null_raw : (g : HeapTopType) → raw_val (val_of (null_of g)) ≡ w.Reference raw.Null
  null_raw top.Func = refl
  null_raw top.Extern = refl
  null_raw top.Any = refl

  begun_null : (b : Bool) (under : HeapType) → b ≡ true →
      HasType m (t.Ref (ref_type b under))
      (begun (if b then Some (val_of (null_of (heap_top under))) else None))
  begun_null false under p = no p
  begun_null true under p =
      subst (HasType m (t.Ref (ref_type true under))) (sym (null_raw (heap_top under)))
      (has_reference m raw.Null (ref_type true under) refl (null_fits_by (heap_top under) under refl))

  begun_has : (ty : ValType) → has_default ty ≡ true → HasType m ty (begun (default_of ty))
  begun_has t.I32 p = record { there = refl; fits = refl }
  begun_has t.I64 p = record { there = refl; fits = refl }
  begun_has t.F32 p = record { there = refl; fits = refl }
  begun_has t.F64 p = record { there = refl; fits = refl }
  begun_has t.V128 p = record { there = refl; fits = refl }
  begun_has (t.Ref ty) p = begun_null (is_nullable ty) (heap_type ty) p

  pub begun_have : (tys : List ValType) → list_all has_default tys ≡ true →
      HaveTypes m tys (map (λ ty. begun (default_of ty)) tys)
  begun_have [] p = tt
  begun_have (ty ∷ tys) p = (begun_has ty (both _ _ p).0, begun_have tys (both _ _ p).1)
