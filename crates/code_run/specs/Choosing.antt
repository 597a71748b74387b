-- The function that an indirect call leads to.
-- WebAssembly core specification, "Execution, instructions, control instructions", call_indirect
use Rattle.std.specs.Prelude.{ℕ, Option, Some, None}
use Rattle.wasm_types.specs.Signatures.{Signature}
use Rattle.wasm_values.specs.declared.refusals.Trap.TheVariants as trap
use Rattle.wasm_objects.specs.declared.raw.RawRef.{RawRef}
use Rattle.wasm_objects.specs.declared.raw.RawRef.TheVariants as r
use Rattle.spec_execution.specs.Bodies.{signed_by, call, exec}
use Rattle.spec_execution.specs.Outcomes.{World}
use Rattle.spec_machine.specs.Values.{function_type}
use Rattle.store_state.specs.Parts.{ProgramParts}
use Rattle.code_leaps.specs.Calling.{IsOf}
use Rattle.code_stack.specs.Layers.{frame_at, state_at, owing}
use Rattle.code_stack.specs.Steps.{Comes}
use Rattle.code_run.specs.Steps.{seen}
use Rattle.code_run.specs.declared.indirect.Chosen.{Chosen}
use Rattle.code_run.specs.declared.indirect.Chosen.TheVariants as chosen
use Rattle.code_stack.specs.declared.steps.Fault.TheVariants as fault
use Rattle.code_stack.specs.declared.steps.Step.{Step}
use Rattle.code_run.specs.declared.thread.Thread.{Thread}

-- by the element at the place
abbrev pub chosen_by : Option RawRef → Chosen
chosen_by None = chosen.Fails (fault.Trapped trap.TableOutOfBounds)
chosen_by (Some r.Null) = chosen.Fails (fault.Trapped trap.IndirectCallToNull)
chosen_by (Some (r.Func n)) = chosen.Function n
chosen_by (Some _) = chosen.Fails fault.Stuck

-- a call of a function of a number, where its type matches this one
abbrev pub CallsSigned : ProgramParts → ℕ → Signature → ℕ → Thread → Step → Thread → Type 0
CallsSigned program frames wanted n old step new =
    (w : World) → IsOf program frames w.machine →
    Comes (owing (seen old) (signed_by (function_type w.machine n) wanted (state_at (seen old) w)
    (call exec (frame_at (seen old)) old.code.now (state_at (seen old) w) n))) step (seen new) w
