-- What single instructions of control come to, whatever the turns and the questions are.
-- WebAssembly core specification, "Execution, instructions, control instructions"
use Rattle.std.specs.Prelude.{ℕ}
use Rattle.wasm_syntax.specs.declared.instr.Instr.{Instr}
use Rattle.wasm_syntax.specs.declared.instr.Instr.TheVariants as i
use Rattle.spec_execution.specs.Outcomes.{World}
use Rattle.store_state.specs.Parts.{ProgramParts}
use Rattle.code_leaps.specs.Calling.{IsOf}
use Rattle.code_leaps.specs.Running.{executing}
use Rattle.code_stack.specs.Steps.{Comes}
use Rattle.code_run.specs.Steps.{seen}
use Rattle.code_stack.specs.declared.steps.Step.{Step}
use Rattle.code_run.specs.declared.thread.Thread.{Thread}

abbrev pub Executes : Instr → Thread → Step → Thread → Type 0
Executes j old step new = (w : World) → Comes (executing (seen old) j w) step (seen new) w

-- a call of the function of an index, in each store of the program
abbrev pub CallsIndex : ProgramParts → ℕ → ℕ → Thread → Step → Thread → Type 0
CallsIndex program frames k old step new =
    (w : World) → IsOf program frames w.machine → Comes (executing (seen old) (i.Call k) w) step (seen new) w
