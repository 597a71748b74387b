-- How steps of a host's bodies go: of a host that has none, and of one that never fails. This project's own.
use Rattle.std.proofs.Common.{subst, sym}
use Rattle.std.proofs.Math.Nat.{le_refl}
use Rattle.std.specs.Prelude.{◌≡◌, ℕ, ◌≤◌, [], Result, Ok, refl}
use Rattle.wasm_types.specs.declared.faults.OutOfMemory.{OutOfMemory}
use Rattle.wasm_meter.specs.Counting.{NoneFell}
use Rattle.wasm_meter.specs.Unhooked.{nothing_fell}
use Rattle.spec_execution.specs.Askings.{View}
use Rattle.spec_execution.specs.declared.answer.Answer.{Answer}
use Rattle.spec_execution.specs.declared.answer.Answer.TheVariants.{Return, Fail}
use Rattle.spec_execution.specs.declared.answer.Event.{Event}

-- how a step of a body goes: from a host and host data, by the body's number, its state, why it is stepped and what it
-- sees, to its new state, what it says, and a host and host data
abbrev pub Steps : Type 0 → Type 0 → Type 1
Steps H T = H → T → ℕ → ℕ → Event → View → ℕ → Result Answer OutOfMemory → H → T → Type 0

-- a step of a body that is not there: it returns no values, and nothing changes
pub record Idles {H T : Type 0} (old : H) (host_data : T) (state : ℕ) (after : ℕ) (say : Result Answer OutOfMemory)
    (new : H) (left : T) : Type 0 where
  pub returns : say ≡ Ok (Return [])
  pub state_is : after ≡ state
  pub host_is : new ≡ old
  pub data_is : left ≡ host_data

abbrev is_fail : Result Answer OutOfMemory → Type 0
is_fail (Ok Fail) = ⊥
is_fail _ = Unit {0}

-- it never fails
pub idles_on : {H T P : Type 0} (old : H) (host_data : T) (state after : ℕ) (new : H) (left : T) → Idles old host_data state after (Ok Fail) new left → P
idles_on old host_data state after new left h = absurd (subst is_fail (sym h.returns) tt)

-- and no count falls
pub idles_keep : {H T : Type 0} (denials limiter_faults hook_faults behaviour_faults : T → ℕ) (old new : H) (host_data left : T) (state after : ℕ) (say : Result Answer OutOfMemory) → Idles old host_data state after say new left → (0 ≤ 0) × NoneFell denials limiter_faults hook_faults behaviour_faults host_data left
idles_keep a b c d old new host_data left state after say h = (le_refl 0, nothing_fell a b c d host_data left h.data_is)

-- ---- a step of a host that never fails and leaves the host data as they were: of the rest nothing is said

pub record Harmless {T : Type 0} (host_data : T) (say : Result Answer OutOfMemory) (left : T) : Type 0 where
  pub data_is : left ≡ host_data
  pub fails_not : say ≡ Ok Fail → ⊥

-- it never fails
pub harmless_on : {T P : Type 0} (host_data left : T) → Harmless host_data (Ok Fail) left → P
harmless_on host_data left h = absurd (h.fails_not refl)

-- and no count falls
pub harmless_keep : {T : Type 0} (denials limiter_faults hook_faults behaviour_faults : T → ℕ) (host_data left : T) (say : Result Answer OutOfMemory) → Harmless host_data say left → (0 ≤ 0) × NoneFell denials limiter_faults hook_faults behaviour_faults host_data left
harmless_keep a b c d host_data left say h = (le_refl 0, nothing_fell a b c d host_data left h.data_is)
