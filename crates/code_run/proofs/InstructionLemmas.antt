-- Instructions of a thread in the stores of a run.
use Rattle.std.proofs.Common.{◌≡◌, ℕ, refl, sym, subst}
use Rattle.wasm_syntax.specs.declared.instr.Instr.{Instr}
use Rattle.wasm_syntax.specs.declared.instr.Instr.TheVariants as i
use Rattle.wasm_values.specs.declared.refusals.Trap.TheVariants as trap
use Rattle.spec_execution.specs.Outcomes.{World, Over, Trapped}
use Rattle.store_state.specs.Parts.{ProgramParts, HeldParts}
use Rattle.code_leaps.specs.Calling.{IsOf}
use Rattle.code_leaps.specs.Leading.{at}
use Rattle.code_leaps.specs.Running.{ruled, executing, Steps}
use Rattle.code_stack.specs.Steps.{Comes}
use Rattle.code_run.specs.Steps.{seen}
use Rattle.code_stack.specs.declared.rules.Rules.{Rules}
use Rattle.code_stack.specs.declared.steps.Fault.TheVariants as fault
use Rattle.code_stack.specs.declared.steps.Step.{Step}
use Rattle.code_stack.specs.declared.steps.Step.TheVariants.{Fails}
use Rattle.code_run.specs.declared.thread.Thread.{Thread}
use Rattle.code_stack.proofs.LayerLemmas.{owing_over}
use Rattle.code_leaps.proofs.InstructionTurnLemmas.{is_of}

module _ (program : ProgramParts) (rules : Rules) (held : HeldParts) (j j' : Instr) (e : j ≡ j')
    (old new : Thread) (step : Step) where
  -- of the instruction that it is
  same : Steps (ruled program rules) (executing (seen old) j') held step (seen new) held →
      Steps (ruled program rules) (executing (seen old) j) held step (seen new) held
  same x =
      subst (λ (k : Instr). Steps (ruled program rules) (executing (seen old) k) held step (seen new) held) (sym e) x

  -- what holds in each world, and in each of the program
  pub in_each : ((w : World) → Comes (executing (seen old) j' w) step (seen new) w) →
      Steps (ruled program rules) (executing (seen old) j) held step (seen new) held
  in_each x = same (record {
    by = λ base b turns before answers. x (at (ruled program rules) base held turns before answers);
  })

  pub in_program : (frames : ℕ) → rules.frames ≡ frames →
      ((w : World) → IsOf program frames w.machine → Comes (executing (seen old) j' w) step (seen new) w) →
      Steps (ruled program rules) (executing (seen old) j) held step (seen new) held
  in_program frames ef x = same (record {
    by = λ base b turns before answers.
        let w = at (ruled program rules) base held turns before answers in
        x w (subst (λ (k : ℕ). IsOf program k w.machine) ef (is_of program rules base held b));
  })

pub reaches : (program : ProgramParts) (rules : Rules) (held : HeldParts) (j : Instr) (old new : Thread) →
    j ≡ i.Unreachable → Steps (ruled program rules) (executing (seen old) j) held
    (Fails (fault.Trapped trap.UnreachableCodeReached)) (seen new) held
reaches program rules held j old new e =
    in_each program rules held j i.Unreachable e old new (Fails (fault.Trapped trap.UnreachableCodeReached))
    (λ w. owing_over (seen old) (Over (Trapped trap.UnreachableCodeReached) w) (Trapped trap.UnreachableCodeReached) w
    refl)
