-- Between instructions: what has ended is left.
use Rattle.std.proofs.Common.{◌≡◌, List, ◌∷◌, false, sym, ap, ◌∙◌, subst}
use Rattle.wasm_syntax.specs.declared.instr.Instr.{Instr}
use Rattle.spec_execution.specs.Entering.{Run}
use Rattle.spec_execution.specs.Outcomes.{World}
use Rattle.spec_execution.proofs.EquationLemmas.{run_cons}
use Rattle.spec_execution.specs.Bodies.{exec}
use Rattle.code_run.specs.Control.{Ends}
use Rattle.code_stack.specs.Layers.{frame_at, state_at, owing, means}
use Rattle.code_run.specs.Settling.{Settles}
use Rattle.code_run.specs.Steps.{IsOver, seen}
use Rattle.code_leaps.specs.Turns.{passing}
use Rattle.code_stack.specs.declared.steps.Step.{Step}
use Rattle.code_stack.specs.declared.steps.Step.TheVariants as step
use Rattle.code_run.specs.declared.thread.Thread.{Thread}
use Rattle.code_run.proofs.Threads.{comes_from}

module _ (old mid : Thread) (same : (w : World) → means (seen old) w ≡ means (seen mid) w) where
  pub settle_goes : (new : Thread) (s : Step) → Ends mid s new → s ≡ step.Goes →
      (w : World) → means (seen old) w ≡ means (seen new) w
  settle_goes new s h e = λ w. same w ∙ (subst (λ (s : Step). Ends mid s new) e h) w

  pub settle_ends : (new : Thread) → Ends mid new.step new → IsOver new.step → Settles old false new
  settle_ends new h over = (λ w. comes_from _ _ new.step (seen new) w (same w) (h w), over)

-- an instruction that is passed
pub passes_first : (old : Thread) (j : Instr) (is : List Instr) → old.code.now ≡ j ∷ is → (new : Thread) →
    seen new ≡ record (seen old) { code = is } → (w : World) → means (seen old) w ≡ passing (seen new) j w
passes_first old j is e new en w =
    ap (λ (is : List Instr). owing (seen old) (exec (Run (frame_at (seen old)) is) (state_at (seen old) w))) e
    ∙ ap (λ o. owing (seen old) o) (run_cons (frame_at (seen old)) j is (state_at (seen old) w))
    ∙ ap (λ c. passing c j w) (sym en)
