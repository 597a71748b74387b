-- How a step of bodies that never fail goes, and a step of a host of them. This project's own.
use Rattle.std.specs.Prelude.{◌≡◌, ℕ, Result}
use Rattle.wasm_types.specs.declared.faults.OutOfMemory.{OutOfMemory}
use Rattle.spec_execution.specs.Askings.{View}
use Rattle.spec_execution.specs.declared.answer.Answer.{Answer}
use Rattle.spec_execution.specs.declared.answer.Event.{Event}
use Rattle.wasm_host.specs.Hosts.{Harmless as LeavesAlone}
use Rattle.wasm_embedding.specs.declared.harmless.Harmless.{Harmless}

-- how a step of bodies goes: from them and host data, by the body's number, its state, why it is stepped and what it sees,
-- to its new state, what it says, and the bodies behind it
abbrev pub Goes : Type 0 → Type 0 → Type 1
Goes H T = H → T → ℕ → ℕ → Event → View → ℕ → Result Answer OutOfMemory → H → Type 0

-- a step of a host of such bodies is one step of theirs, of the same body; it never fails and leaves the host data as they
-- were, and there are as many bodies behind it
pub record StepsBodies {H T : Type 0} (goes : Goes H T) (old : Harmless H) (host_data : T) (body state : ℕ) (cause : Event) (view : View)
    (after : ℕ) (say : Result Answer OutOfMemory) (new : Harmless H) (left : T) : Type 0 where
  pub goes_so : goes old.bodies host_data body state cause view after say new.bodies
  pub count_is : new.count ≡ old.count
  pub harmless : LeavesAlone host_data say left
