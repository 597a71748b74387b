-- A limiter of a host's own that never fails: what it denies is counted beside it. This project's own.
use Rattle.std.proofs.Common.{ap, subst, sym, true≢false}
use Rattle.std.proofs.lemmas.Bool.{false≢true}
use Rattle.std.specs.Prelude.{◌≡◌, ℕ, ◌≤◌, Bool, true, false, if◌then◌else◌, Result, Ok, Err, is_err}
use Rattle.std.specs.Result.{result_unwrap_or}
use Rattle.wasm_meter.specs.Counting.{Rose}
use Rattle.wasm_meter.specs.Lists.{one_more}
use Rattle.wasm_meter.specs.ListLaws.{rises}
use Rattle.wasm_meter.specs.declared.faults.LimiterFailed.{LimiterFailed}

abbrev pub denials_behind : Bool → ℕ → ℕ
denials_behind granted denials = if granted then denials else one_more denials

-- the count before, the answer, and the count behind it
abbrev pub CountsDenials : ℕ → Result Bool LimiterFailed → ℕ → Type 0
CountsDenials before answer after =
    (granted : Bool) × (answer ≡ Ok granted) × (after ≡ denials_behind granted before) × (before ≤ after)

denied : (granted : Bool) (before : ℕ) → false ≡ granted → Rose before (denials_behind granted before)
denied true before e = absurd (false≢true e)
denied false before e = rises before

pub counted_deny : (before after : ℕ) → CountsDenials before (Ok false) after → Rose before after
counted_deny before after h =
    subst (λ n. Rose before n) (sym h.2) (denied h.0 before (ap (λ r. result_unwrap_or r true) h.1))

-- it never fails
pub counted_answers : {P : Type 0} (before after : ℕ) (fault : LimiterFailed) → CountsDenials before (Err fault) after → P
counted_answers before after fault h = absurd (true≢false (ap is_err h.1))
