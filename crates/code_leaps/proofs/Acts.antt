-- Instructions that lead to no other code, in a state.
use Rattle.std.proofs.Common.{◌≡◌, List, refl, sym, ap, ◌∙◌, subst}
use Rattle.wasm_syntax.specs.declared.instr.Instr.{Instr}
use Rattle.wasm_syntax.specs.declared.instr.Instr.TheVariants as i
use Rattle.wasm_values.specs.declared.refusals.Trap.{Trap}
use Rattle.spec_machine.specs.Machine.{Machine}
use Rattle.spec_execution.specs.Bodies.{one, then_run, exec}
use Rattle.spec_execution.specs.Entering.{Frame, Run, Exec}
use Rattle.spec_execution.specs.Outcomes.{World, State, state, Outcome, Over, Trapped, Stuck}
use Rattle.spec_execution.specs.Straight as straight
use Rattle.store_state.specs.Machine.{run_machine}
use Rattle.store_state.specs.Parts.{ProgramParts, HeldParts}
use Rattle.code_stack.specs.Values.{Below, ValuesParts}
use Rattle.code_straight.specs.Acting.{effect_of, Keeps}
use Rattle.code_straight.specs.declared.acted.Acted.{Acted}
use Rattle.code_straight.specs.declared.acted.Acted.TheVariants as acted
use Rattle.code_stack.specs.Layers.{Configuration, frame_at, state_at, outwards, owing}
use Rattle.code_leaps.specs.Leading.{at}
use Rattle.code_leaps.specs.Running.{ruled, executing, IsStraight, Steps}
use Rattle.code_stack.specs.declared.rules.Rules.{Rules}
use Rattle.code_stack.specs.declared.steps.Fault.TheVariants as fault
use Rattle.code_stack.specs.declared.steps.Step.TheVariants.{Goes, Fails}
use Rattle.code_stack.proofs.LayerLemmas.{owing_over}

straight_is : (f : Exec) (fr : Frame) (j : Instr) (is : List Instr) (s : State) → IsStraight j →
    one f fr j is s ≡ then_run f (Run fr is) s (straight.act fr.instance s.world.machine s.locals j s.operands)
straight_is f fr i.Unreachable is s h = absurd h
straight_is f fr (i.Block b) is s h = absurd h
straight_is f fr (i.Loop b) is s h = absurd h
straight_is f fr (i.If a b) is s h = absurd h
straight_is f fr (i.Br l) is s h = absurd h
straight_is f fr (i.BrIf l) is s h = absurd h
straight_is f fr (i.BrTable k) is s h = absurd h
straight_is f fr i.Return is s h = absurd h
straight_is f fr (i.Call k) is s h = absurd h
straight_is f fr (i.CallIndirect ty k) is s h = absurd h
straight_is f fr j is s h = refl

module _ (program : ProgramParts) (old : Configuration) (v1 v2 : ValuesParts) (j : Instr) (h : IsStraight j)
    (held held' : HeldParts) (a : Acted)
    (eo : v1.operands ≡ old.values.operands) (el : v1.locals ≡ old.values.locals)
    (does : (base : Machine) → straight.act old.activation.instance (run_machine base program held)
    v1.locals j v1.operands ≡ effect_of a (run_machine base program held') v2.locals v2.operands) where
  done : (base : Machine) (w : World) → w.machine ≡ run_machine base program held →
      executing old j w ≡ owing old (then_run exec (Run (frame_at old) old.code)
      (state_at old w) (effect_of a (run_machine base program held') v2.locals v2.operands))
  done base w em =
      let run : straight.Effect → Outcome = λ e. owing old
      (then_run exec (Run (frame_at old) old.code) (state_at old w) e) in
      ap (λ o. owing old o) (straight_is exec (frame_at old) j old.code (state_at old w) h)
      ∙ ap (λ m. run (straight.act old.activation.instance m old.values.locals j old.values.operands)) em
      ∙ ap (λ locals. run (straight.act old.activation.instance (run_machine base program held)
      locals j old.values.operands)) (sym el)
      ∙ ap (λ ops. run (straight.act old.activation.instance (run_machine base program held) v1.locals j ops)) (sym eo)
      ∙ ap run (does base)

  module _ (rules : Rules) where
    pub act_goes : a ≡ acted.Goes → v2.below ≡ old.values.below →
        Steps (ruled program rules) (executing old j) held Goes (record old { values = v2 })
        held'
    act_goes e eb = record {
      by = λ base b turns before answers.
          let w = at (ruled program rules) base held turns before answers in
          let w' = at (ruled program rules) base held' turns before answers in
          done base w refl
          ∙ ap (λ a. owing old (then_run exec (Run (frame_at old) old.code) (state_at old w)
          (effect_of a (run_machine base program held') v2.locals v2.operands))) e
          ∙ ap (λ (x : Below). outwards old.activation old.layers x.operands x.locals
          (exec (Run (frame_at old) old.code) (state w' v2.locals v2.operands))) (sym eb);
    }

    pub act_traps : (new : Configuration) (t : Trap) → a ≡ acted.Traps t → Keeps a held held' →
        Steps (ruled program rules) (executing old j) held (Fails (fault.Trapped t)) new held'
    act_traps new t e k = record {
      by = λ base b turns before answers.
          let w = at (ruled program rules) base held turns before answers in
          done base w refl
          ∙ ap (λ a. owing old (then_run exec (Run (frame_at old) old.code) (state_at old w)
          (effect_of a (run_machine base program held') v2.locals v2.operands))) e
          ∙ owing_over old (Over (Trapped t) w) (Trapped t) w refl
          ∙ ap (λ h. Over (Trapped t) (at (ruled program rules) base h turns before answers))
          (sym (subst (λ a. Keeps a held held') e k));
    }

    pub act_sticks : (new : Configuration) → a ≡ acted.Sticks → Keeps a held held' →
        Steps (ruled program rules) (executing old j) held (Fails fault.Stuck) new held'
    act_sticks new e k = record {
      by = λ base b turns before answers.
          let w = at (ruled program rules) base held turns before answers in
          done base w refl
          ∙ ap (λ a. owing old (then_run exec (Run (frame_at old) old.code) (state_at old w)
          (effect_of a (run_machine base program held') v2.locals v2.operands))) e
          ∙ owing_over old (Over Stuck w) Stuck w refl
          ∙ ap (λ h. Over Stuck (at (ruled program rules) base h turns before answers))
          (sym (subst (λ a. Keeps a held held') e k));
    }
