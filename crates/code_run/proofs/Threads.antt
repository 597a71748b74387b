-- Blocks and functions of a thread: what its calls come to.
use Rattle.std.proofs.Common.{◌≡◌, ℕ, suc, ◌+◌, ◌-◌, ◌≤◌, ◌<◌, List, [], ◌∷◌, length, Option, Some, None, true, refl, sym, ap, ◌∙◌, subst, arith}
use Rattle.std.specs.Prelude.{◌⊎◌, ◌==◌, cond}
use Rattle.std.proofs.lemmas.Bool.{le-leb}
use Rattle.std.proofs.lemmas.Bool.Decides.{nat_tests}
use Rattle.wasm_syntax.specs.declared.instr.Instr.{Instr}
use Rattle.spec_execution.specs.Bodies.{at_once, exec}
use Rattle.spec_execution.proofs.EquationLemmas.{run_nil}
use Rattle.spec_execution.specs.Checks.{check}
use Rattle.spec_execution.specs.Entering.{Run}
use Rattle.spec_execution.specs.Outcomes.{World, Outcome, Values, Branch, Return, Over, Stuck}
use Rattle.code_stack.specs.Values.{Below, below, ValuesParts, HasClosed, HasFinished, HasLeft, CannotClose}
use Rattle.code_run.specs.Control.{Enters, Repeats, Again, BranchesTo, Leaves, Ends, Branches, Returns}
use Rattle.code_stack.specs.Layers.{IsOutermost, HasDropped, Configuration, frame_at, state_at, outwards, past, owing, means}
use Rattle.code_stack.specs.Steps.{Comes, Opens, IsOpening}
use Rattle.code_run.specs.Steps.{seen, HasEntered}
use Rattle.code_stack.specs.declared.layers.Caller.{Caller}
use Rattle.code_stack.specs.declared.layers.Label.{Label}
use Rattle.code_stack.specs.declared.layers.Layer.{Layer}
use Rattle.code_stack.specs.declared.layers.Layer.TheVariants as layer
use Rattle.code_stack.specs.declared.layers.Opening.{Opening}
use Rattle.code_stack.specs.declared.steps.Fault.TheVariants as fault
use Rattle.code_stack.specs.declared.steps.Step.{Step}
use Rattle.code_stack.specs.declared.steps.Step.TheVariants.{Goes, Checks, Fails, Done}
use Rattle.code_run.specs.declared.thread.Thread.{Thread}
use Rattle.code_leaps.proofs.CheckLemmas.{check_alike}
use Rattle.code_leaps.proofs.Labels.{entered, closes, closes_lost, block_absent, loop_absent, block_few, loop_few, block_enters, loop_enters, run_inner, again_inner, again_empty, branch_stuck, branch_out, branch_again}
use Rattle.code_leaps.proofs.FunctionEndLemmas.{branch_returns, branch_beyond, return_stuck, returns, returns_last, end_returns, end_stuck}

-- what comes of an outcome comes of the same outcome
pub comes_from : (o o' : Outcome) (step : Step) (new : Configuration) (w : World) → o ≡ o' → Comes o' step new w →
    Comes o step new w
comes_from o o' step new w e h = subst (λ (x : Outcome). Comes x step new w) (sym e) h

-- code that is tested for its end
pub empty_code : (is : List Instr) → true ≡ (length is == 0) → is ≡ []
empty_code [] e = refl
empty_code (j ∷ js) e = absurd (grind (arith, nat_tests))

-- what is left where nothing is open
pub lost_means : (c : Configuration) (w : World) → c.code ≡ [] → c.layers ≡ [] → c.values.below ≡ below [] [] →
    means c w ≡ Over Stuck w
lost_means c w ec el eb =
    ap (λ is. owing c (exec (Run (frame_at c) is) (state_at c w))) ec
    ∙ ap (λ o. owing c o) (run_nil (frame_at c) (state_at c w))
    ∙ ap (λ ls. outwards c.activation ls c.values.below.operands c.values.below.locals (Values (state_at c w))) el
    ∙ ap (λ (b : Below). outwards c.activation [] b.operands b.locals (Values (state_at c w))) eb

-- ---- blocks

module _ (o : Opening) (arity : ℕ) (again : Option ℕ) (old new : Thread) (h : HasEntered o arity again old new) where
  entered_is : entered (seen old) h.label o.code.now new.values ≡ seen new
  entered_is =
      let c : Configuration = seen new in
      ap (λ a. record {
        activation = a;
        code = o.code.now;
        layers = layer.Block h.label ∷ old.layers;
        values =
            new.values;
      }) (sym h.activation)
      ∙ ap (λ is. record {
        activation = new.activation;
        code = is;
        layers = layer.Block h.label ∷ old.layers;
        values =
            new.values;
      }) (sym h.code)
      ∙ ap (λ ls. record { activation = new.activation; code = new.code.now; layers = ls; values = new.values })
      (sym h.layers)

  pub block_goes : (b : ℕ) → Opens (frame_at (seen old)) b o → arity ≡ o.results → again ≡ None → Enters b old Goes new
  block_goes b x ea en = λ w.
      block_enters (seen old) b w o x h.label new.values h.rest h.values (h.arity_is ∙ ea) (h.again_is ∙ en)
      ∙ ap (λ c. means c w) entered_is

  module _ (b : ℕ) (x : Opens (frame_at (seen old)) b o) (ea : arity ≡ o.params) (en : again ≡ Some b) where
    pub loop_goes : Repeats b old Checks new
    loop_goes = λ w.
        loop_enters (seen old) b w o x h.label new.values h.rest h.values
        (λ body. exec (Run (frame_at (seen old)) body.instrs)) (h.arity_is ∙ ea) (h.again_is ∙ en)
        (run_inner (seen old) b w o x)
        ∙ ap (λ c. check w (means c)) entered_is

    pub again_goes : (j : Instr) (js : List Instr) → o.code.now ≡ j ∷ js → Again b old Checks new
    again_goes j js e = λ w.
        loop_enters (seen old) b w o x h.label new.values h.rest h.values
        (λ body. at_once exec (frame_at (seen old)) body.instrs) (h.arity_is ∙ ea) (h.again_is ∙ en)
        (again_inner (seen old) b w o x j js e)
        ∙ ap (λ c. check w (means c)) entered_is

    pub again_goes_on : (o.code.now ≡ [] → ⊥) → Again b old Checks new
    again_goes_on other = by_code o.code.now refl
      where
        by_code : (is : List Instr) → o.code.now ≡ is → Again b old Checks new
        by_code [] e = absurd (other e)
        by_code (j ∷ js) e = again_goes j js e

module _ (old new : Thread) (b : ℕ) where
  pub block_none : IsOpening (frame_at (seen old)) b None → Enters b old (Fails fault.Stuck) new
  block_none x = λ w. block_absent (seen old) b w x

  pub loop_none : IsOpening (frame_at (seen old)) b None → Repeats b old (Fails fault.Stuck) new
  loop_none x = λ w. loop_absent (seen old) b w (λ body. exec (Run (frame_at (seen old)) body.instrs)) x

  pub again_none : IsOpening (frame_at (seen old)) b None → Again b old (Fails fault.Stuck) new
  again_none x = λ w. loop_absent (seen old) b w (λ body. at_once exec (frame_at (seen old)) body.instrs) x

  module _ (o : Opening) (x : Opens (frame_at (seen old)) b o) where
    pub block_short : length old.values.operands < o.params → Enters b old (Fails fault.Stuck) new
    block_short lt = λ w. block_few (seen old) b w o x lt

    pub loop_short : length old.values.operands < o.params → Repeats b old (Fails fault.Stuck) new
    loop_short lt = λ w. loop_few (seen old) b w o x (λ body. exec (Run (frame_at (seen old)) body.instrs)) lt

    pub again_short : length old.values.operands < o.params → Again b old (Fails fault.Stuck) new
    again_short lt = λ w. loop_few (seen old) b w o x (λ body. at_once exec (frame_at (seen old)) body.instrs) lt

    pub again_none_left : o.code.now ≡ [] → o.params ≤ length old.values.operands →
        ((w : World) → means (seen new) w ≡ Over Stuck w) → Again b old Checks new
    again_none_left e le lost = λ w.
        again_empty (seen old) b w o x e
        ∙ ap (λ b. cond b (check w (λ v. Over Stuck v)) (Over Stuck w)) (le-leb o.params (length old.values.operands) le)
        ∙ check_alike (λ v. Over Stuck v) (means (seen new)) (λ v. sym (lost v)) w

-- ---- branches

module _ (old : Thread) (p : Label) (passed : ℕ) where
  pub branch_fails : (new : Thread) → CannotClose passed p.arity old.values →
      BranchesTo p passed old (Fails fault.Stuck) new
  branch_fails new h = λ w. branch_stuck old.activation p old.layers old.values passed w h

  pub branch_goes : (v : ValuesParts) → HasClosed passed p.arity old.values v → p.again ≡ None →
      BranchesTo p passed old Goes (record old { code = p.rest; values = v })
  branch_goes v h e = λ w. branch_out old.activation p old.layers old.values passed w v h e

  pub branch_repeats : (v : ValuesParts) (b : ℕ) (step : Step) (new : Thread) → HasClosed passed p.arity old.values v
      → p.again ≡ Some b →
      Again b (record old { code = p.rest; values = v }) step new → BranchesTo p passed old step new
  branch_repeats v b step new h e next = λ w.
      comes_from _ _ step (seen new) w (branch_again old.activation p old.layers old.values passed w v h b e) (next w)

-- a branch to a label outwards, once the blocks within are dropped
module _ (old : Thread) (n : ℕ) (ls : List Layer) (h : HasDropped n old.layers ls) where
  branched : (l : ℕ) (w : World) → owing (seen old) (Branch (n + l) (state_at (seen old) w))
      ≡ past old.activation n ls old.values.below.operands old.values.below.locals (Branch l (state_at (seen old) w))
  branched l w = h.branch old.activation old.values.below.operands old.values.below.locals l (state_at (seen old) w)

  pub branches_beyond : (l : ℕ) (new : Thread) → n < l → IsOutermost ls → Branches l old (Fails fault.Stuck) new
  branches_beyond l new lt out = λ w.
      let k = l - n - 1 in
      let e : l ≡ n + suc k = omega arith in
      ap (λ l. owing (seen old) (Branch l (state_at (seen old) w))) e ∙ branched (suc k) w
      ∙ branch_beyond old.activation ls old.values n w k out

  pub branches_to : (p : Label) (more : List Layer) (l : ℕ) (step : Step) (new : Thread) → l ≡ n →
      ls ≡ layer.Block p ∷ more →
      BranchesTo p n (record old { layers = more }) step new → Branches l old step new
  branches_to p more l step new e el next = λ w.
      let z : l ≡ n + 0 = omega arith in
      comes_from _ _ step (seen new) w
      (ap (λ l. owing (seen old) (Branch l (state_at (seen old) w))) z ∙ branched 0 w
      ∙ ap (λ ls. past old.activation n ls old.values.below.operands old.values.below.locals
      (Branch 0 (state_at (seen old) w))) el) (next w)

  pub branches_out : (ls' : List Layer) (l : ℕ) (step : Step) (new : Thread) → l ≡ n → IsOutermost ls → ls' ≡ ls →
      Leaves n (record old { layers = ls' }) step new → Branches l old step new
  branches_out ls' l step new e out el next = λ w.
      let z : l ≡ n + 0 = omega arith in
      comes_from _ _ step (seen new) w
      (ap (λ l. owing (seen old) (Branch l (state_at (seen old) w))) z ∙ branched 0 w
      ∙ branch_returns old.activation ls old.values n w out
      ∙ ap (λ ls. past old.activation n ls old.values.below.operands old.values.below.locals
      (Return (state_at (seen old) w))) (sym el)) (next w)

  pub returns_out : (step : Step) (new : Thread) → Leaves n (record old { layers = ls }) step new → Returns old step new
  returns_out step new next = λ w.
      comes_from _ _ step (seen new) w (h.return old.activation old.values.below.operands old.values.below.locals
      (state_at (seen old) w)) (next w)

-- ---- functions are left

module _ (old : Thread) (passed : ℕ) where
  pub leave_fails : (new : Thread) → IsOutermost old.layers →
      CannotClose passed old.activation.results old.values ⊎ (old.values.below.locals ≡ []) →
      Leaves passed old (Fails fault.Stuck) new
  leave_fails new out h = λ w. return_stuck old.activation old.layers old.values passed w out h

  module _ (v : ValuesParts) (h : HasLeft passed old.activation.results old.values v) where
    pub leave_goes : (x : Layer) (c : Caller) (more : List Layer) → old.layers ≡ x ∷ more → x ≡ layer.Call c →
        Leaves passed old Goes (record old { activation = c.activation; code = c.rest; layers = more; values = v })
    leave_goes x c more e ex = λ w. returns old.activation old.layers old.values passed w v h c more (e
        ∙ ap (λ y. y ∷ more) ex)

    pub leave_ends : (ls : List Layer) → old.layers ≡ [] →
        Leaves passed old Done (record old { layers = ls; values = v })
    leave_ends ls e = λ w. returns_last old.activation old.layers old.values passed w v h e

module _ (old : Thread) (ec : old.code.now ≡ []) where
  pub end_lost : (new : Thread) (p : Label) (more : List Layer) → old.layers ≡ layer.Block p ∷ more →
      old.values.below.operands ≡ [] → Ends old (Fails fault.Stuck) new
  end_lost new p more e eb = λ w. closes_lost (seen old) p more w e ec eb

  pub end_goes : (p : Label) (more : List Layer) (v : ValuesParts) → old.layers ≡ layer.Block p ∷ more →
      HasFinished old.values v →
      Ends old Goes (record old { code = p.rest; layers = more; values = v })
  end_goes p more v e h = λ w. closes (seen old) p more v w e ec h

  pub end_fails : (new : Thread) → IsOutermost old.layers → (length old.values.operands ≡ old.activation.results → ⊥)
      → Ends old (Fails fault.Stuck) new
  end_fails new out other = λ w. end_stuck (seen old) w ec out other

  pub end_leaves : (ls : List Layer) (step : Step) (new : Thread) → IsOutermost old.layers → ls ≡ old.layers →
      length old.values.operands ≡ old.activation.results →
      Leaves 0 (record old { layers = ls }) step new → Ends old step new
  end_leaves ls step new out el n next = λ w.
      comes_from _ _ step (seen new) w
      (end_returns (seen old) w ec out n ∙ ap (λ ls.
      past old.activation 0 ls old.values.below.operands old.values.below.locals (Return (state_at (seen old) w)))
      (sym el)) (next w)
