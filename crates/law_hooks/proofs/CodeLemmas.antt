-- What all code does keeps the calls that are open.
use Rattle.std.proofs.Common.{ℕ, zero, suc, List, [], ◌∷◌}
use Rattle.wasm_syntax.specs.declared.instr.Instr.{Instr}
use Rattle.wasm_meter.specs.declared.call_hook.CallHook.{CallHook}
use Rattle.spec_execution.specs.Activations.{Activation}
use Rattle.spec_execution.specs.Bodies.{at_once, list, step, unfolded, exec}
use Rattle.spec_execution.specs.Entering.{Frame, Code, Run, Again, Step, Exec}
use Rattle.spec_execution.specs.Outcomes.{State, Stopped, Stuck}
use Rattle.spec_execution.specs.declared.answer.Event.{Event}
use Rattle.law_hooks.proofs.Worlds.{Base, Stands, ended}
use Rattle.law_hooks.proofs.Outcomes.{Keeps, Finishes, Good, code_ends, function_ends, values_keeps, finishes_keeps}
use Rattle.law_hooks.proofs.Hosts.{step_finishes}
use Rattle.law_hooks.proofs.Instructions.{iterate_keeps, instruction_keeps}

module _ (B : Base) (calls : List CallHook) (f : Exec) (good : Good B f) where
  at_once_keeps :
      (fr : Frame) (is : List Instr) (s : State) → Stands B calls s.world
      → Keeps B calls (at_once f fr is s)
  at_once_keeps fr [] s h = ended B (code_ends B calls) Stuck s.world h
  at_once_keeps fr (j ∷ is) s h = instruction_keeps B calls f good fr j is s h

  list_keeps :
      (fr : Frame) (is : List Instr) (s : State) → Stands B calls s.world → Keeps B calls (list f fr is s)
  list_keeps fr [] s h = values_keeps B calls s h
  list_keeps fr (j ∷ is) s h = instruction_keeps B calls f good fr j is s h

  step_keeps : (c : Code) (s : State) → Stands B calls s.world → Keeps B calls (step f c s)
  unfolding step
  step_keeps (Run fr is) s h = list_keeps fr is s h
  step_keeps (Again fr k is) s h =
      iterate_keeps B calls f good fr k is s (λ body. at_once f fr body.instrs) (λ body. at_once_keeps fr body.instrs) h
  step_keeps (Step a ev) s h = finishes_keeps B calls _ (step_finishes B calls f good a ev s.world h)

  body_finishes :
      (a : Activation) (ev : Event) (s : State) → Stands B calls s.world → Finishes B calls (step f (Step a ev) s)
  unfolding step
  body_finishes a ev s h = step_finishes B calls f good a ev s.world h

module _ (B : Base) where
  unfolded_good : (n : ℕ) → Good B (unfolded n)
  unfolding unfolded
  unfolded_good zero = record {
    code = λ calls c s h. ended B (code_ends B calls) Stopped s.world h;
    body = λ calls a ev s h. ended B (function_ends B calls) Stopped s.world h;
  }
  unfolded_good (suc n) = record {
    code = λ calls c s h. step_keeps B calls (unfolded n) (unfolded_good n) c s h;
    body = λ calls a ev s h. body_finishes B calls (unfolded n) (unfolded_good n) a ev s h;
  }

  pub exec_good : Good B exec
  unfolding exec
  exec_good = record {
    code = λ calls c s h. (unfolded_good (suc s.world.turns)).code calls c s h;
    body = λ calls a ev s h. (unfolded_good (suc s.world.turns)).body calls a ev s h;
  }
