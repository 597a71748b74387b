-- Calls of functions of a store, of which the functions and the instances are those of a program.
-- WebAssembly core specification, "Execution, instructions": function calls
use Rattle.std.specs.Prelude.{◌≡◌, ℕ, suc, slice_get, Some}
use Rattle.spec_machine.specs.Machine.{Machine, guest, host}
use Rattle.spec_execution.specs.Bodies.{call, exec}
use Rattle.spec_execution.specs.Outcomes.{World}
use Rattle.store_state.specs.Parts.{ProgramParts}
use Rattle.code_stack.specs.Layers.{frame_at, state_at, owing}
use Rattle.code_stack.specs.Steps.{Comes}
use Rattle.code_run.specs.Steps.{seen}
use Rattle.code_leaps.specs.declared.calls.Callee.{Callee}
use Rattle.code_stack.specs.declared.steps.HostCall.{HostCall}
use Rattle.code_stack.specs.declared.steps.Step.{Step}
use Rattle.code_run.specs.declared.thread.Thread.{Thread}
use Rattle.code_leaps.specs.Calling.{IsOf, IsThere}

-- a call of the function of a number in the store
abbrev pub CallsAs : (Machine → Type 0) → ℕ → Thread → Step → Thread → Type 0
CallsAs IsIn n old step new =
    (w : World) → IsIn w.machine →
    Comes (owing (seen old) (call exec (frame_at (seen old)) old.code.now (state_at (seen old) w) n)) step (seen new) w

abbrev pub Calls : ProgramParts → ℕ → ℕ → Thread → Step → Thread → Type 0
Calls program frames n old step new = CallsAs (IsOf program frames) n old step new

abbrev pub CallsGuest : ProgramParts → ℕ → ℕ → ℕ → Thread → Step → Thread → Type 0
CallsGuest program frames instance number old step new =
    (n : ℕ) → slice_get program.functions n ≡ Some (guest instance number) →
    CallsAs (IsOf program frames) n old step new

abbrev pub CallsHost : ℕ → HostCall → Thread → Step → Thread → Type 0
CallsHost frames call old step new =
    (program : ProgramParts) (n : ℕ) →
    slice_get program.functions n ≡ Some (host call.ty.now call.body call.stored.now) →
    CallsAs (IsOf program frames) n old step new

-- a function of an instance was entered, where another may be open
abbrev pub Begins : Callee → ℕ → ℕ → Thread → Step → Thread → Type 0
Begins c instance depth old step new =
    (program : ProgramParts) (frames n number : ℕ) → slice_get program.functions n ≡ Some (guest instance number) →
    IsThere program instance number c → depth ≡ suc old.activation.depth → (old.activation.depth ≡ frames → ⊥) →
    CallsAs (IsOf program frames) n old step new
