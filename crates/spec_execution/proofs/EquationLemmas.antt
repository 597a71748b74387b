-- There are no more parts of code than turns: `exec` solves its own equation.
use Rattle.std.proofs.Common.{◌≡◌, ℕ, zero, suc, ◌≤◌, List, [], ◌∷◌, Option, Some, refl, sym, ap, ◌∙◌, subst, arith}
use Rattle.std.specs.Prelude.{slice_get}
use Rattle.wasm_syntax.specs.declared.declarations.Block.{Block}
use Rattle.wasm_syntax.specs.declared.instr.Instr.{Instr}
use Rattle.spec_execution.specs.Bodies.{stuck, inside, loop_exit, iterate, instruction, at_once, step, unfolded, exec}
use Rattle.spec_execution.specs.Checks.{check}
use Rattle.spec_execution.specs.Entering.{Frame, Code, Run, Again, Step}
use Rattle.spec_execution.specs.Hosts as hosts
use Rattle.spec_execution.specs.Activations.{Activation}
use Rattle.spec_execution.specs.Operands as on
use Rattle.spec_execution.specs.Outcomes.{State, Outcome, Values, Branch, Return, Over, End, Stopped, Waiting}
use Rattle.spec_execution.specs.declared.answer.Event.{Event}
use Rattle.spec_execution.proofs.Ways.{Way, shifted, Told, Alike, Fits, here, looser_to}
use Rattle.spec_execution.proofs.WaysOfCode.{step_fits}

-- more parts of code change nothing
pub parts_fit : (W : Way) (n m : ℕ) → n ≤ m → Fits W n (unfolded n) (unfolded m)
unfolding unfolded
parts_fit W zero m le = record { by = λ c s b. absurd (omega (arith, b.fewer)) }
parts_fit W (suc n) zero le = absurd (omega arith)
parts_fit W (suc n) (suc m) le = record {
  by = λ c s b.
      (step_fits W n (unfolded n) (unfolded m) (λ V. parts_fit V n m (omega (arith, le)))).by c s b;
}

module _ (W : Way) where
  pub enough : (n : ℕ) → Fits W n exec (unfolded n)
  unfolding exec
  enough n = record {
    by = λ c s b.
        looser_to W (suc s.world.turns) n _ _ (omega (arith, b.fewer))
        ((parts_fit W (suc s.world.turns) n (omega (arith, b.fewer))).by c s (here W s.world b.held));
  }

  -- the second run has no fewer turns
  rises : (t : ℕ) → t ≤ W.turns t
  rises zero = omega arith
  rises (suc t) = omega (arith, W.a_turn t, rises t)

  pub exec_alike :
      (c : Code) (s : State) → W.Holds s.world → Alike W (suc s.world.turns) (exec c s) (exec c (shifted W s))
  unfolding exec
  exec_alike c s h =
      (parts_fit W (suc s.world.turns) (suc (W.turns s.world.turns)) (omega (arith, rises s.world.turns))).by c s
      (here W s.world h)

  pub exec_fits : (n : ℕ) → Fits W n exec exec
  exec_fits n = record {
    by = λ c s b. looser_to W (suc s.world.turns) n _ _ (omega (arith, b.fewer)) (exec_alike c s b.held);
  }

-- the second run is the first one
abbrev itself : Way
itself = record {
  turns = λ t. t;
  answers = λ answers. answers;
  stops = Unit {0};
  waits = Unit {0};
  Holds = λ w. Unit {0};
  a_turn = λ t. refl;
  no_turn = λ c. refl;
  an_answer = λ a answers. refl;
  no_answer = λ c. refl;
  spent = λ w t e h. tt;
  changed = λ w m h. tt;
  heard = λ w q a rest e h. tt;
}

told : (e : End) → Told itself e
told Stopped = tt
told (Waiting q) = tt
told e = tt

same : (n : ℕ) (o o' : Outcome) → Alike itself n o o' → o' ≡ o
same n (Values s) o' h = h.by.0
same n (Branch l s) o' h = h.by.0
same n (Return s) o' h = h.by.0
same n (Over e w) o' h = h.by.0 (told e)

-- the equation that says what code does
pub exec_is : (c : Code) (s : State) → exec c s ≡ step exec c s
unfolding exec unfolded
exec_is c s =
    same (suc s.world.turns) (step exec c s) (exec c s)
    ((step_fits itself s.world.turns exec (unfolded s.world.turns) (λ V. enough V s.world.turns)).by c s
    (here itself s.world tt))

-- ---- what each code does

pub run_nil : (fr : Frame) (s : State) → exec (Run fr []) s ≡ Values s
unfolding step
run_nil fr s = exec_is (Run fr []) s

pub run_cons :
    (fr : Frame) (i : Instr) (is : List Instr) (s : State) → exec (Run fr (i ∷ is)) s ≡ instruction exec fr i is s
unfolding step
run_cons fr i is s = exec_is (Run fr (i ∷ is)) s

pub step_is :
    (a : Activation) (event : Event) (s : State)
    → exec (Step a event) s ≡ hosts.step exec a event s.world
unfolding step
step_is a event s = exec_is (Step a event) s

pub again_at_once :
    (fr : Frame) (b : ℕ) (is : List Instr) (s : State)
    → exec (Again fr b is) s ≡ iterate exec fr b is s (λ body. at_once exec fr body.instrs)
unfolding step
again_at_once fr b is s = exec_is (Again fr b is) s

-- a block that is not empty is run at once
at_once_is :
    (fr : Frame) (is : List Instr) (j : Instr) (js : List Instr) → is ≡ j ∷ js → at_once exec fr is ≡ exec (Run fr is)
at_once_is fr is j js e =
    subst (λ (ks : List Instr). at_once exec fr ks ≡ exec (Run fr ks)) (sym e) (λ i s. sym (run_cons fr j js s) i)

abbrev iterate_on : Frame → ℕ → List Instr → State → (Block → State → Outcome) → Option Block → Outcome
iterate_on fr b is s inner o =
    on.found (stuck s) o (λ (body : Block). on.found (stuck s) (slice_get fr.decl.types body.ty) (λ t.
    inside exec (Run fr is) (loop_exit fr b is t) t s
    (λ own. check own.world (λ w. inner body (record own { world = w })))))

-- so a loop goes on with its block, as it began
pub again_is :
    (fr : Frame) (b : ℕ) (is : List Instr) (s : State) (body : Block) (j : Instr) (js : List Instr)
    → slice_get fr.function.blocks b ≡ Some body → body.instrs ≡ j ∷ js
    → exec (Again fr b is) s ≡ iterate exec fr b is s (λ body. exec (Run fr body.instrs))
again_is fr b is s body j js e ej =
    again_at_once fr b is s
    ∙ ap (iterate_on fr b is s (λ body. at_once exec fr body.instrs)) e
    ∙ ap (λ (inner : State → Outcome). iterate_on fr b is s (λ _. inner) (Some body))
    (at_once_is fr body.instrs j js ej)
    ∙ sym (ap (iterate_on fr b is s (λ body. exec (Run fr body.instrs))) e)
