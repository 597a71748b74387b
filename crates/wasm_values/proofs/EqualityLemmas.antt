-- Tests of equality of ids, of handles and of references to data of WebAssembly are exact: a ghost field has one proof.
use Rattle.std.specs.Prelude.{ℕ, Bool, true, ◌≡◌, ◌^◌, ◌<◌, ◌≤◌, ◌&&◌, nat_eq, refl}
use Rattle.std.specs.Coded.{le_prop}
use Rattle.std.specs.declared.num.NonZeroU64.{NonZeroU64}
use Rattle.std.proofs.Common.{ap, sym, ◌∙◌, ap₂}
use Rattle.std.proofs.lemmas.Bool.{eqb-true, eq-eqb}
use Rattle.wasm_types.specs.EqualityLaws.{both}
use Rattle.wasm_types.specs.Laws.{IsExact}
use mathlib.Core.HLevel.{is_prop→PathP}
use Rattle.wasm_values.specs.declared.references.AnyRef.{AnyRef}
use Rattle.wasm_values.specs.declared.store_id.StoreId.{StoreId}
use Rattle.wasm_values.specs.contracts.references.AnyRefPartialEq.TheImpl.{ghosts as any_eq}
use Rattle.wasm_values.specs.contracts.store_id.StoreIdPartialEq.TheImpl.{ghosts as id_eq}
use Rattle.wasm_values.specs.contracts.handles.FuncPartialEq.TheImpl.{ghosts as func_eq}
use Rattle.wasm_values.specs.contracts.handles.GlobalPartialEq.TheImpl.{ghosts as global_eq}
use Rattle.wasm_values.specs.contracts.handles.TablePartialEq.TheImpl.{ghosts as table_eq}
use Rattle.wasm_values.specs.contracts.handles.MemoryPartialEq.TheImpl.{ghosts as memory_eq}
use Rattle.wasm_values.specs.contracts.handles.TagPartialEq.TheImpl.{ghosts as tag_eq}
use Rattle.wasm_values.specs.contracts.handles.InstancePartialEq.TheImpl.{ghosts as instance_eq}

exact_by : {A : Type 0} (f : A → A → Bool) → ((x y : A) → f x y ≡ true → x ≡ y) → ((x : A) → f x x ≡ true) → IsExact f
exact_by f is own x y = (is x y, λ p. ap (f x) (sym p) ∙ own x)

own : (n : ℕ) → nat_eq n n ≡ true
own n = eq-eqb n n refl

any_is : (x y : AnyRef) → x.value ≡ y.value → x ≡ y
any_is x y e =
    λ i. record { value = e i; small = is_prop→PathP (λ j. e j < 2 ^ 31) (λ j. le_prop) x.small y.small i }

non_zero_is : (x y : NonZeroU64) → x.value ≡ y.value → x ≡ y
non_zero_is x y e =
    λ i. record { value = e i; ok = is_prop→PathP (λ j. 0 < e j) (λ j. le_prop) x.ok y.ok i }

raw_is : (x y : StoreId) → x.raw ≡ y.raw → x ≡ y
raw_is x y e =
    λ i. record { raw = e i; within = is_prop→PathP (λ j. (e j).value ≤ 2 ^ 63) (λ j. le_prop) x.within y.within i }

id_is : (x y : StoreId) → nat_eq x.raw.value y.raw.value ≡ true → x ≡ y
id_is x y p = raw_is x y (non_zero_is x.raw y.raw (eqb-true _ _ p))

pub any_exact : IsExact any_eq.eq
any_exact = exact_by any_eq.eq (λ x y p. any_is x y (eqb-true _ _ p)) (λ x. own x.value)

pub id_exact : IsExact id_eq.eq
id_exact = exact_by id_eq.eq id_is (λ x. own x.raw.value)

both_own : (a b : Bool) → a ≡ true → b ≡ true → (a && b) ≡ true
both_own a b p q = ap₂ (λ x y. x && y) p q

pub func_exact : IsExact func_eq.eq
func_exact =
    exact_by func_eq.eq
    (λ x y p. let e = both _ _ p in λ i. record { store = id_is x.store y.store e.0 i; index = eqb-true _ _ e.1 i })
    (λ x. both_own _ _ (own x.store.raw.value) (own x.index))

pub global_exact : IsExact global_eq.eq
global_exact =
    exact_by global_eq.eq
    (λ x y p. let e = both _ _ p in λ i. record { store = id_is x.store y.store e.0 i; index = eqb-true _ _ e.1 i })
    (λ x. both_own _ _ (own x.store.raw.value) (own x.index))

pub table_exact : IsExact table_eq.eq
table_exact =
    exact_by table_eq.eq
    (λ x y p. let e = both _ _ p in λ i. record { store = id_is x.store y.store e.0 i; index = eqb-true _ _ e.1 i })
    (λ x. both_own _ _ (own x.store.raw.value) (own x.index))

pub memory_exact : IsExact memory_eq.eq
memory_exact =
    exact_by memory_eq.eq
    (λ x y p. let e = both _ _ p in λ i. record { store = id_is x.store y.store e.0 i; index = eqb-true _ _ e.1 i })
    (λ x. both_own _ _ (own x.store.raw.value) (own x.index))

pub tag_exact : IsExact tag_eq.eq
tag_exact =
    exact_by tag_eq.eq
    (λ x y p. let e = both _ _ p in λ i. record { store = id_is x.store y.store e.0 i; index = eqb-true _ _ e.1 i })
    (λ x. both_own _ _ (own x.store.raw.value) (own x.index))

pub instance_exact : IsExact instance_eq.eq
instance_exact =
    exact_by instance_eq.eq
    (λ x y p. let e = both _ _ p in λ i. record { store = id_is x.store y.store e.0 i; index = eqb-true _ _ e.1 i })
    (λ x. both_own _ _ (own x.store.raw.value) (own x.index))
