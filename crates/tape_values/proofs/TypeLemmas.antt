-- Types, as they are written and read.
use Rattle.std.proofs.Common.{◌≡◌, ℕ, suc, ◌+◌, ◌^◌, ◌<◌, ◌≤◌, ◌-◌, length, get_or, drop, add-one, Bool, true, false, List, [], ◌∷◌, Option, Some, None, refl, sym, ap, ◌∙◌, subst, arith, if◌then◌else◌}
use Rattle.std.specs.Prelude.{codes, slice_get}
use Rattle.std.proofs.lemmas.Bool.{le-leb}
use Rattle.std.proofs.Common.{drop_of_length-le}
use Rattle.serde_json.specs.Data.{Data}
use Rattle.wasm_types.specs.Equality.{same}
use Rattle.wasm_types.specs.EqualityLaws.{same_is}
use Rattle.wasm_types.specs.FunctionParts.{heap_type, is_nullable, ref_type}
use Rattle.wasm_types.specs.Signatures.{Signature}
use Rattle.wasm_types.specs.declared.plain.Mutability.{Mutability}
use Rattle.wasm_types.specs.declared.plain.Mutability.TheVariants.{Const, Var}
use Rattle.wasm_types.specs.declared.value_types.HeapType.{HeapType}
use Rattle.wasm_types.specs.declared.value_types.HeapType.TheVariants as h
use Rattle.wasm_types.specs.declared.value_types.RefType.{RefType}
use Rattle.wasm_types.specs.declared.value_types.ValType.{ValType}
use Rattle.wasm_types.specs.declared.value_types.ValType.TheVariants as t
use Rattle.script_json.specs.Fields.{◌>>=◌, whole_to, truth}
use Rattle.script_types.specs.Types.{whole_32, type_at, heap_type_of, reference_of, val_type_of, ref_type_of, mutability_of}
use Rattle.tape_values.specs.Writing.{whole_data, text_data}
use Rattle.tape_values.specs.Types.{number_from, number_of, type_data, heap_data, reference_by, reference_data, val_type_data, mutability_data}
use Rattle.tape_values.proofs.ListLemmas.{drop-first}
use Rattle.tape_values.proofs.Options.{bind_some, some_is}

-- ---- the number of a type

module _ (types : List Signature) where
  abbrev IsAt : Signature → ℕ → List Signature → ℕ → Type 0
  IsAt ty k rest n = (j : ℕ) × (n ≡ k + j) × (slice_get rest j ≡ Some ty)

  -- the first type is the one, or what holds of the others
  first : (k : ℕ) (ty other : Signature) (rest : List Signature) (n : ℕ) (b : Bool) → same other ty ≡ b
      → (number_from (suc k) ty rest ≡ Some n → IsAt ty (suc k) rest n)
      → (if b then Some k else number_from (suc k) ty rest) ≡ Some n → IsAt ty k (other ∷ rest) n
  first k ty other rest n true s more e =
      let here : k ≡ n = some_is k n e in (0, omega (arith, here), ap (λ x. Some x) (same_is other ty s))
  first k ty other rest n false s more e =
      let later : IsAt ty (suc k) rest n = more e in (suc later.0, omega (arith, later.1), later.2)

  number_from-back : (k : ℕ) (ty : Signature) (rest : List Signature) (n : ℕ) → number_from k ty rest ≡ Some n → IsAt ty k rest n
  number_from-back k ty [] n e = absurd (cc e)
  number_from-back k ty (other ∷ rest) n e = first k ty other rest n (same other ty) refl (λ f. number_from-back (suc k) ty rest n f) e

  number_back : (ty : Signature) (n : ℕ) → number_of types ty ≡ Some n → slice_get types n ≡ Some ty
  number_back ty n e =
      let found = number_from-back 0 ty types n e in
      let at : found.0 ≡ n = omega (arith, found.1) in
      subst (λ (m : ℕ). slice_get types m ≡ Some ty) at found.2

  pub type_back : (ty : Signature) (d : Data) → type_data types ty ≡ Some d → type_at types d ≡ Some ty
  type_back ty d e =
      let number = bind_some (number_of types ty) (λ (n : ℕ). Some (whole_data n)) d e in
      subst (λ (y : Data). type_at types y ≡ Some ty) (some_is (whole_data number.0) d number.2) (number_back ty number.0 number.1)

  -- ---- heap types, reference types and value types

  pub heap_back : (ty : HeapType) (d : Data) → heap_data types ty ≡ Some d → heap_type_of types d ≡ Some ty
  heap_back h.Func d e = subst (λ (y : Data). heap_type_of types y ≡ Some h.Func) (some_is (text_data (codes "func")) d e) refl
  heap_back h.NoFunc d e = subst (λ (y : Data). heap_type_of types y ≡ Some h.NoFunc) (some_is (text_data (codes "nofunc")) d e) refl
  heap_back h.Extern d e = subst (λ (y : Data). heap_type_of types y ≡ Some h.Extern) (some_is (text_data (codes "extern")) d e) refl
  heap_back h.NoExtern d e = subst (λ (y : Data). heap_type_of types y ≡ Some h.NoExtern) (some_is (text_data (codes "noextern")) d e) refl
  heap_back h.Any d e = subst (λ (y : Data). heap_type_of types y ≡ Some h.Any) (some_is (text_data (codes "any")) d e) refl
  heap_back h.Eq d e = subst (λ (y : Data). heap_type_of types y ≡ Some h.Eq) (some_is (text_data (codes "eq")) d e) refl
  heap_back h.I31 d e = subst (λ (y : Data). heap_type_of types y ≡ Some h.I31) (some_is (text_data (codes "i31")) d e) refl
  heap_back h.None d e = subst (λ (y : Data). heap_type_of types y ≡ Some h.None) (some_is (text_data (codes "none")) d e) refl
  heap_back (h.ConcreteFunc ty) d e =
      let number = bind_some (number_of types ty) (λ (n : ℕ). Some (whole_data n)) d e in
      subst (λ (y : Data). heap_type_of types y ≡ Some (h.ConcreteFunc ty)) (some_is (whole_data number.0) d number.2)
      (ap (λ (o : Option Signature). o >>= (λ x. Some (h.ConcreteFunc x))) (number_back ty number.0 number.1))

  reference_of-by : (ty : RefType) (heap : Data) → heap_type_of types heap ≡ Some (heap_type ty) → reference_of types (reference_by (is_nullable ty) heap) ≡ Some ty
  reference_of-by ty heap e = ap (λ (o : Option HeapType). o >>= (λ x. Some (ref_type (is_nullable ty) x))) e

  val_type_of-by : (ty : RefType) (heap : Data) → heap_type_of types heap ≡ Some (heap_type ty) → val_type_of types (reference_by (is_nullable ty) heap) ≡ Some (t.Ref ty)
  val_type_of-by ty heap e = ap (λ (o : Option RefType). o >>= (λ r. Some (t.Ref r))) (reference_of-by ty heap e)

  pub reference_back : (ty : RefType) (d : Data) → reference_data types ty ≡ Some d → val_type_of types d ≡ Some (t.Ref ty)
  reference_back ty d e =
      let heap = bind_some (heap_data types (heap_type ty)) (λ (heap : Data). Some (reference_by (is_nullable ty) heap)) d e in
      subst (λ (y : Data). val_type_of types y ≡ Some (t.Ref ty)) (some_is (reference_by (is_nullable ty) heap.0) d heap.2)
      (val_type_of-by ty heap.0 (heap_back (heap_type ty) heap.0 heap.1))

  pub ref_type_back : (ty : RefType) (d : Data) → reference_data types ty ≡ Some d → ref_type_of types d ≡ Some ty
  ref_type_back ty d e = rw (reference_back ty d e)

  pub val_type_back : (ty : ValType) (d : Data) → val_type_data types ty ≡ Some d → val_type_of types d ≡ Some ty
  val_type_back t.I32 d e = subst (λ (y : Data). val_type_of types y ≡ Some t.I32) (some_is (text_data (codes "i32")) d e) refl
  val_type_back t.I64 d e = subst (λ (y : Data). val_type_of types y ≡ Some t.I64) (some_is (text_data (codes "i64")) d e) refl
  val_type_back t.F32 d e = subst (λ (y : Data). val_type_of types y ≡ Some t.F32) (some_is (text_data (codes "f32")) d e) refl
  val_type_back t.F64 d e = subst (λ (y : Data). val_type_of types y ≡ Some t.F64) (some_is (text_data (codes "f64")) d e) refl
  val_type_back t.V128 d e = subst (λ (y : Data). val_type_of types y ≡ Some t.V128) (some_is (text_data (codes "v128")) d e) refl
  val_type_back (t.Ref ty) d e = reference_back ty d e

-- ---- the search for the number of a type

pub number-step : (i : ℕ) (ty other : Signature) (types : List Signature) → i < length types → other ≡ get_or types i other → same other ty ≡ false
    → number_from i ty (drop i types) ≡ number_from (i + 1) ty (drop (i + 1) types)
number-step i ty other types l e s =
    ap (number_from i ty) (drop-first types i other l e)
    ∙ ap (λ (b : Bool). if b then Some i else number_from (suc i) ty (drop (i + 1) types)) s
    ∙ ap (λ (n : ℕ). number_from n ty (drop (i + 1) types)) (sym (add-one i))

pub number-found : (i : ℕ) (ty other : Signature) (types : List Signature) → i < length types → other ≡ get_or types i other → same other ty ≡ true
    → number_from i ty (drop i types) ≡ Some i
number-found i ty other types l e s =
    ap (number_from i ty) (drop-first types i other l e)
    ∙ ap (λ (b : Bool). if b then Some i else number_from (suc i) ty (drop (i + 1) types)) s

pub number-none : (i : ℕ) (ty : Signature) (types : List Signature) → length types ≤ i → number_from i ty (drop i types) ≡ None
number-none i ty types l = ap (number_from i ty) (drop_of_length-le types l)

-- ---- numbers of 32 bits, and whether a global may be set

pub whole_to_back : (most n : ℕ) → n ≤ most → whole_to most (whole_data n) ≡ Some n
whole_to_back most n l = rw (le-leb n most l)

pub whole_32_back : (n : ℕ) → n < 2 ^ 32 → whole_32 (whole_data n) ≡ Some n
whole_32_back n l = whole_to_back (2 ^ 32 - 1) n (omega arith)

pub mutability_back : (m : Mutability) → (truth (mutability_data m) >>= (λ b. Some (mutability_of b))) ≡ Some m
mutability_back Const = refl
mutability_back Var = refl
