-- A function is entered by a caller that is no code of the run.
-- WebAssembly core specification, "Execution, modules, invocation"; "Execution, instructions": function calls
use Rattle.std.specs.Prelude.{◌≡◌, ℕ, List, slice_get, Option, Some}
use Rattle.wasm_objects.specs.declared.raw.RawVal.{RawVal}
use Rattle.spec_machine.specs.Machine.{guest}
use Rattle.spec_execution.specs.Bodies.{exec}
use Rattle.spec_execution.specs.Entering.{enter, enter_host}
use Rattle.spec_execution.specs.Outcomes.{World, Over}
use Rattle.store_state.specs.Parts.{ProgramParts}
use Rattle.code_leaps.specs.Calling.{IsOf}
use Rattle.code_leaps.specs.Leading.{halted}
use Rattle.code_run.specs.Pausing.{due}
use Rattle.code_stack.specs.Steps.{end_of}
use Rattle.code_run.specs.declared.starts.Started.{Started}
use Rattle.code_run.specs.declared.starts.Started.TheVariants as started

-- with so many functions open, called by code of an instance or by none, in each store of the program it comes to this
abbrev pub Starts : ProgramParts → ℕ → ℕ → ℕ → List RawVal → Started → Type 0
Starts program frames depth n args (started.Runs t) =
    (caller : Option ℕ) (w : World) → IsOf program frames w.machine → enter exec depth n args caller w ≡ due t w
Starts program frames depth n args (started.Fails f) =
    (caller : Option ℕ) (w : World) → IsOf program frames w.machine →
    enter exec depth n args caller w ≡ Over (end_of f) w
Starts program frames depth n args (started.Calls call) =
    (caller : Option ℕ) (w : World) → IsOf program frames w.machine →
    enter exec depth n args caller w ≡ enter_host exec depth call.ty.now call.body call.stored.now args caller w

-- and with no turns left nothing is done
abbrev pub Waits : ProgramParts → ℕ → ℕ → ℕ → List RawVal → Type 0
Waits program frames depth n args =
    (caller : Option ℕ) (w : World) → IsOf program frames w.machine → w.turns ≡ 0 →
    halted (enter exec depth n args caller w) ≡ Some w

-- the same of a function of an instance, under each number that it has
abbrev pub IsNumber : ProgramParts → ℕ → ℕ → ℕ → ℕ → ℕ → Type 0
IsNumber program instance number depth frames n =
    (depth ≡ frames → ⊥) × (slice_get program.functions n ≡ Some (guest instance number))

abbrev pub StartsGuest : ProgramParts → ℕ → ℕ → ℕ → List RawVal → Started → Type 0
StartsGuest program instance number depth args s =
    (frames n : ℕ) → IsNumber program instance number depth frames n → Starts program frames depth n args s

abbrev pub WaitsGuest : ProgramParts → ℕ → ℕ → ℕ → List RawVal → Type 0
WaitsGuest program instance number depth args =
    (frames n : ℕ) → IsNumber program instance number depth frames n → Waits program frames depth n args
