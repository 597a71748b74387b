-- What all code does ends by a refusal only where its cause was heard.
use Rattle.std.proofs.Common.{ℕ, zero, suc, List, [], ◌∷◌}
use Rattle.wasm_syntax.specs.declared.instr.Instr.{Instr}
use Rattle.wasm_values.specs.declared.refusals.Refusal.{Refusal}
use Rattle.spec_execution.specs.Askings.{Asking}
use Rattle.spec_execution.specs.Bodies.{at_once, list, step, unfolded, exec}
use Rattle.spec_execution.specs.Entering.{Frame, Code, Run, Again, Step, Exec}
use Rattle.spec_execution.specs.Outcomes.{State}
use Rattle.law_causes.specs.Causes.{Reasons, CodeRefuses}
use Rattle.law_causes.proofs.Worlds.{Since}
use Rattle.law_causes.proofs.Outcomes.{Keeps, Good, values_keeps}
use Rattle.law_causes.proofs.Hosts.{step_keeps}
use Rattle.law_causes.proofs.Instructions.{iterate_keeps, instruction_keeps}

module _ (B : List Asking) (reason : Reasons) (f : Exec) (good : Good B reason f) where
  at_once_keeps : (fr : Frame) (is : List Instr) (s : State) → Since B s.world → Keeps B reason (at_once f fr is s)
  at_once_keeps fr [] s h = record { by = h }
  at_once_keeps fr (j ∷ is) s h = instruction_keeps B reason f good fr j is s h

  list_keeps : (fr : Frame) (is : List Instr) (s : State) → Since B s.world → Keeps B reason (list f fr is s)
  list_keeps fr [] s h = values_keeps B reason s h
  list_keeps fr (j ∷ is) s h = instruction_keeps B reason f good fr j is s h

  code_keeps : (c : Code) (s : State) → Since B s.world → Keeps B reason (step f c s)
  unfolding step
  code_keeps (Run fr is) s h = list_keeps fr is s h
  code_keeps (Again fr k is) s h =
      iterate_keeps B reason f good fr k is s (λ body. at_once f fr body.instrs) (λ body. at_once_keeps fr body.instrs) h
  code_keeps (Step a event) s h = step_keeps B reason f good a event s.world h

-- where what code refuses by itself is a reason
module _ (B : List Asking) (reason : Reasons) (own : (why : Refusal) → CodeRefuses why → reason.own why) where
  unfolded_good : (n : ℕ) → Good B reason (unfolded n)
  unfolding unfolded
  unfolded_good zero = record { own = own; code = λ c s h. record { by = h } }
  unfolded_good (suc n) =
      record { own = own; code = λ c s h. code_keeps B reason (unfolded n) (unfolded_good n) c s h }

  pub exec_good : Good B reason exec
  unfolding exec
  exec_good = record { own = own; code = λ c s h. (unfolded_good (suc s.world.turns)).code c s h }
