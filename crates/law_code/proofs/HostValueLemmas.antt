-- Values of a store as a host handles them: they are the store's, and of the types of their places.
use Rattle.std.proofs.Common.{◌≡◌, true, List, [], ◌∷◌, reverse, refl, subst, append-nil}
use Rattle.std.specs.List.{list_all}
use Rattle.std.proofs.lemmas.Bool.{and_from}
use Rattle.std.proofs.lemmas.List.{reverse-reverse}
use Rattle.wasm_types.specs.FunctionParts.{params}
use Rattle.wasm_types.specs.declared.plain.HeapTopType.{HeapTopType}
use Rattle.wasm_types.specs.declared.plain.HeapTopType.TheVariants as top
use Rattle.wasm_types.specs.declared.value_types.ValType.{ValType}
use Rattle.wasm_values.specs.Values.{val_of}
use Rattle.wasm_objects.specs.declared.raw.RawRef.{RawRef}
use Rattle.wasm_objects.specs.declared.raw.RawRef.TheVariants as raw
use Rattle.wasm_objects.specs.declared.raw.RawVal.{RawVal}
use Rattle.wasm_objects.specs.declared.raw.RawVal.TheVariants as w
use Rattle.spec_machine.specs.Machine.{Machine, host}
use Rattle.spec_machine.specs.Values.{ref_at, top_of, val_at, owns_val, all_fit}
use Rattle.spec_machine.specs.WellFormed.{is_raw_ref, is_raw_val, IsHost}
use Rattle.law_store.proofs.Places.{id_own}
use Rattle.spec_execution.specs.Entering.{values_at}
use Rattle.law_code.specs.Laws.{ResultsAreOwned, HostsBeginOwned}
use Rattle.law_code.specs.Typed.{HaveTypes}
use Rattle.law_code.proofs.TypedValues.{have_reverse}

module _ (m : Machine) where
  null_owned : (g : HeapTopType) → owns_val m (val_of (ref_at m.id g raw.Null)) ≡ true
  null_owned top.Func = refl
  null_owned top.Extern = refl
  null_owned top.Any = refl

  reference_owned : (g : HeapTopType) (r : RawRef) → is_raw_ref m r ≡ true →
      owns_val m (val_of (ref_at m.id g r)) ≡ true
  reference_owned g raw.Null p = null_owned g
  reference_owned g (raw.Func f) p = and_from _ _ (id_own m.id) p
  reference_owned g (raw.Extern n) p = refl
  reference_owned g (raw.I31 n) p = refl

  value_owned : (ty : ValType) (v : RawVal) → is_raw_val m v ≡ true → owns_val m (val_at m.id ty v) ≡ true
  value_owned ty (w.Reference r) p = reference_owned (top_of ty) r p
  value_owned ty (w.I32 n) p = refl
  value_owned ty (w.I64 n) p = refl
  value_owned ty (w.F32 n) p = refl
  value_owned ty (w.F64 n) p = refl
  value_owned ty (w.V128 n) p = refl

  pub values_owned : (tys : List ValType) (vs : List RawVal) → HaveTypes m tys vs →
      list_all (owns_val m) (values_at m tys vs) ≡ true
  values_owned [] [] h = refl
  values_owned (ty ∷ tys) (v ∷ vs) h = and_from _ _ (value_owned ty v h.0.there) (values_owned tys vs h.1)
  values_owned [] (v ∷ vs) h = absurd h
  values_owned (ty ∷ tys) [] h = absurd h

  pub values_fit : (tys : List ValType) (vs : List RawVal) → HaveTypes m tys vs →
      all_fit m (values_at m tys vs) tys ≡ true
  values_fit [] [] h = refl
  values_fit (ty ∷ tys) (v ∷ vs) h = and_from _ _ h.0.fits (values_fit tys vs h.1)
  values_fit [] (v ∷ vs) h = absurd h
  values_fit (ty ∷ tys) [] h = absurd h

pub results_are_owned : ResultsAreOwned
results_are_owned m c operands h =
    let are : HaveTypes m c.results (reverse operands) =
    subst (λ tys. HaveTypes m tys (reverse operands)) (reverse-reverse c.results)
    (have_reverse m (reverse c.results) operands
    (subst (λ tys. HaveTypes m tys operands) (append-nil (reverse c.results)) h)) in
    (values_owned m c.results (reverse operands) are, values_fit m c.results (reverse operands) are)

pub hosts_begin_owned : HostsBeginOwned
hosts_begin_owned m n depth body t stored args caller w found h =
    let is : IsHost m t stored = w.functions_are n (host t body stored) found in
    record { arguments = values_owned m (params t) args h; fit = values_fit m (params t) args h; stored = is.there }
