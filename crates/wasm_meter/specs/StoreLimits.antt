-- The answers of a limiter that goes by bounds, and of one that grants all. This project's own; the bounds are those
-- of the wasmtime crate's `StoreLimits`.
use Rattle.std.proofs.Common.{ap, subst, sym, true≢false}
use Rattle.std.proofs.lemmas.Bool.{false≢true}
use Rattle.std.specs.Prelude.{◌≡◌, ℕ, ◌≤◌, nat_le, Bool, true, false, if◌then◌else◌, Option, Some, None, Result, Ok, Err, is_err}
use Rattle.std.specs.Result.{result_unwrap_or}
use Rattle.wasm_meter.specs.Counting.{Rose}
use Rattle.wasm_meter.specs.Growths.{Growth, Growing, Memory, Table}
use Rattle.wasm_meter.specs.Lists.{one_more}
use Rattle.wasm_meter.specs.ListLaws.{rises}
use Rattle.wasm_meter.specs.declared.faults.LimiterFailed.{LimiterFailed}
use Rattle.wasm_meter.specs.declared.store_limits.StoreLimits.{StoreLimits}

-- within a bound, where there is one
abbrev pub is_within : Option ℕ → ℕ → Bool
is_within None size = true
is_within (Some most) size = nat_le size most

-- the bound on a memory, in bytes, and on a table, in elements
abbrev pub bound_of : StoreLimits → Growing → Option ℕ
bound_of s Memory = s.memory_size
bound_of s Table = s.table_elements

abbrev pub grants : StoreLimits → Growth → Bool
grants s question = is_within (bound_of s question.object) question.desired

-- a denial is counted
abbrev pub counted : StoreLimits → Bool → StoreLimits
counted s granted = if granted then s else record s { denials = one_more s.denials }

abbrev pub AnswersByBounds : StoreLimits → Growth → Result Bool LimiterFailed → StoreLimits → Type 0
AnswersByBounds s question answer t =
    (answer ≡ Ok (grants s question)) × (t ≡ counted s (grants s question)) × (s.denials ≤ t.denials)

denied : (s : StoreLimits) (granted : Bool) → false ≡ granted → Rose s.denials (counted s granted).denials
denied s true e = absurd (false≢true e)
denied s false e = rises s.denials

pub bounds_deny : (s t : StoreLimits) (question : Growth) → AnswersByBounds s question (Ok false) t →
    Rose s.denials t.denials
bounds_deny s t question h =
    subst (λ x. Rose s.denials x.denials) (sym h.1)
    (denied s (grants s question) (ap (λ r. result_unwrap_or r true) h.0))

-- it never fails
pub bounds_answer : {P : Type 0} (s t : StoreLimits) (question : Growth) (fault : LimiterFailed) →
    AnswersByBounds s question (Err fault) t → P
bounds_answer s t question fault h = absurd (true≢false (ap is_err h.0))

-- each growth is granted
abbrev pub Grants : Result Bool LimiterFailed → Type 0
Grants answer = answer ≡ Ok true

pub grants_all : {P : Type 0} → Grants (Ok false) → P
grants_all h = absurd (false≢true (ap (λ r. result_unwrap_or r true) h))

pub always_answers : {P : Type 0} (fault : LimiterFailed) → Grants (Err fault) → P
always_answers fault h = absurd (true≢false (ap is_err h))
