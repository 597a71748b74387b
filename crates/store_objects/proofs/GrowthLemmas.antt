-- Growths that were granted.
use Rattle.std.proofs.Common.{◌≡◌, ℕ, ◌+◌, ◌-◌, ◌≤◌, ◌*◌, ◌/◌, ◌^◌, ◌⊎◌, true, inl, inr, refl, ap, sym, ◌∙◌, subst, zero-add, List, length, arith}
use Rattle.std.proofs.lemmas.Bool.{le-leb}
use Rattle.std.specs.Prelude.{Option, Some, None, Result, Ok, Err}
use Rattle.wasm_types.specs.Memories.{Memory}
use Rattle.wasm_types.specs.MemoryTypes.{MemoryParts, page_size, within_maximum}
use Rattle.wasm_types.specs.TableTypes.{TableParts, are_table_limits}
use Rattle.wasm_values.specs.declared.handles.Table.{Table as Handle}
use Rattle.wasm_values.specs.declared.references.Ref.{Ref}
use Rattle.wasm_values.specs.declared.refusals.Refusal.{Refusal}
use Rattle.spec_machine.specs.Growth.{Plan, memory_range}
use Rattle.spec_machine.specs.Machine.{Machine}
use Rattle.spec_machine.specs.TableCalls.{table_new}
use Rattle.spec_machine.specs.WellFormed.{IsMemory}
use Rattle.law_store.proofs.GrowthLemmas.{MayGrow, may_grow}
use Rattle.law_store.proofs.Tables.{TableNew, table_new_passed}
use Rattle.law_store.specs.Granted.{IsGranted}
use Rattle.store_state.specs.Growing.{IsDue}

-- the plan of a growth that is due, and that it is granted
pub record IsPlan {A : Type 0} (m : Machine) (due : Result (Plan A) Refusal) : Type 0 where
  pub plan : Plan A
  pub is : due ≡ Ok plan
  pub granted : IsGranted m plan

pub plan_of : {A : Type 0} (m : Machine) (due : Result (Plan A) Refusal) → IsDue m due → IsPlan m due
plan_of m (Ok p) h = record { plan = p; is = refl; granted = h }
plan_of m (Err why) h = absurd h

zero_within : (most : Option ℕ) → within_maximum 0 most ≡ true
zero_within None = refl
zero_within (Some most) = le-leb 0 most (omega arith)

limits_by : (ty : TableParts) → (0 ≡ 0 + ty.minimum) ⊎
    ((0 + ty.minimum ≤ 2 ^ 32 - 1) × (within_maximum (0 + ty.minimum) ty.maximum ≡ true)) →
    are_table_limits ty ≡ true
limits_by ty (inl e) = subst (λ (n : ℕ). within_maximum n ty.maximum ≡ true) (e
    ∙ zero-add ty.minimum) (zero_within ty.maximum)
limits_by ty (inr h) = subst (λ (n : ℕ). within_maximum n ty.maximum ≡ true) (zero-add ty.minimum) h.1

-- a table that may be made keeps its declared maximum
pub new_limits : (m : Machine) (ty : TableParts) (init : Option Ref) (p : Plan Handle) →
    table_new m ty init ≡ Ok p → IsGranted m p → are_table_limits ty ≡ true
new_limits m ty init p e g =
    let q : TableNew m ty init p = table_new_passed m ty init p e in
    limits_by ty (subst MayGrow (sym q.is) (may_grow m p g))

-- the bytes of a memory are within its range of indices
pub bytes_within : (x : Memory) (bytes : List ℕ) (size : ℕ) (ty : MemoryParts) → IsMemory x → bytes ≡ x.bytes →
    size ≡ page_size x.ty → ty ≡ x.ty → length bytes / size * page_size ty ≤ 2 ^ 32
bytes_within x bytes size ty is b s t =
    let whole : length bytes / size * page_size ty ≡ length x.bytes =
    ap (λ (l : List ℕ). length l / size * page_size ty) b ∙ (ap (λ (n : ℕ). length x.bytes / n * page_size ty) s
    ∙ (ap (λ (u : MemoryParts). length x.bytes / page_size x.ty * page_size u) t ∙ sym is.whole)) in
    let small : length x.bytes ≤ memory_range x.ty = is.in_range in
    omega arith
