-- The loop of the innermost code, and the checks before its rounds.
use Rattle.std.proofs.Common.{◌≡◌, ℕ, zero, suc, ◌+◌, ◌-◌, ◌<◌, ◌≤◌, List, [], ◌∷◌, ◌++◌, take, drop, Option, Some, None, refl, sym, ap, ◌∙◌, subst, arith, Bool, true, false, length}
use Rattle.std.proofs.lemmas.Bool.{le-leb}
use Rattle.std.proofs.lemmas.Bool.Decides.{nat_tests}
use Rattle.std.specs.Prelude.{ℤ, ◌-ℤ◌, pos, negsuc, not, ◌||◌, cond, ltb, IfSome, ◌==◌}
use Rattle.wasm_meter.specs.Fuel.{is_fuelled, fuel_left}
use Rattle.wasm_syntax.specs.declared.instr.Instr.{Instr}
use Rattle.wasm_syntax.specs.declared.instr.Instr.TheVariants as i
use Rattle.wasm_objects.specs.declared.raw.RawVal.{RawVal}
use Rattle.wasm_values.specs.declared.refusals.Trap.TheVariants as trap
use Rattle.spec_machine.specs.Machine.{Machine}
use Rattle.spec_execution.specs.Askings.{Reading, Answer, Asking}
use Rattle.spec_execution.specs.Bodies.{at_once, branch_if, stuck, with_operands, exec}
use Rattle.spec_execution.specs.Checks.{check, on_epoch, read}
use Rattle.spec_execution.specs.Entering.{Run}
use Rattle.spec_execution.specs.Outcomes.{World, State, state, Outcome, Branch, Over, Trapped, ask}
use Rattle.store_state.specs.Parts.{ProgramParts, HeldParts}
use Rattle.code_stack.specs.Reading.{TakesI32}
use Rattle.code_stack.specs.Values.{below, values_parts, ValuesParts, HasOpened, HasClosed}
use Rattle.code_straight.specs.Frames.{topmost}
use Rattle.code_leaps.specs.Bursts.{Surrounding, standing}
use Rattle.code_stack.specs.Layers.{Configuration, frame_of, frame_at, state_at, outwards, owing, means}
use Rattle.code_leaps.specs.Leading.{Doing, at}
use Rattle.code_leaps.specs.Rounds.{LoopsTo, Loops, IsRound, Lets, Hops, Passes, IsFree}
use Rattle.code_leaps.specs.Running.{IsRuled, ruled, charged}
use Rattle.code_stack.specs.Steps.{Opens}
use Rattle.code_stack.specs.declared.layers.Label.{Label}
use Rattle.code_stack.specs.declared.layers.Layer.{Layer}
use Rattle.code_stack.specs.declared.layers.Layer.TheVariants as layer
use Rattle.code_stack.specs.declared.layers.Opening.{Opening}
use Rattle.code_leaps.specs.declared.rounds.Hop.{Hop}
use Rattle.code_stack.specs.declared.rules.Rules.{Rules}
use Rattle.code_leaps.proofs.OperandLemmas.{i32_takes}
use Rattle.code_leaps.proofs.Labels.{loop_enters, again_inner, branch_again}

-- code that is tested for its end
pub some_code : (is : List Instr) → false ≡ (length is == 0) → is ≡ [] → ⊥
some_code [] e is = absurd (grind (arith, nat_tests))
some_code (j ∷ js) e is = cc is

-- ---- a branch back to the loop

module _ (s : Surrounding) (p : Label) (ls : List Layer) (is : s.layers ≡ layer.Block p ∷ ls) (b : ℕ) (o : Opening)
    (x : Opens (frame_of s.activation) b o) (none : p.arity ≡ 0) (again : p.again ≡ Some b) (alone : o.params ≡ 0) where
  module _ (j : Instr) (js : List Instr) (code : o.code.now ≡ j ∷ js) (outer : List RawVal)
      (further : List (List RawVal)) (around : s.below.operands ≡ outer ∷ further) where
    loops_around : LoopsTo s o.code.now
    loops_around operands locals w =
        let old : ValuesParts = values_parts operands locals s.below 0 in
        let mid : ValuesParts = values_parts outer locals (below further s.below.locals) 0 in
        let new : ValuesParts = values_parts [] locals s.below 0 in
        let c : Configuration = record { activation = s.activation; code = p.rest.now; layers = ls; values = mid } in
        let closed : HasClosed 0 p.arity old mid = record {
          enough = omega (arith, none);
          outer = outer;
          further = further;
          around = around;
          operands = sym (ap (λ n. take n operands ++ outer) none);
          below = refl;
          locals = refl;
        } in
        let opened : HasOpened o.params mid new = record {
          enough = omega (arith, alone);
          operands = sym (ap (λ n. take n outer) alone);
          below = ap (λ xs. below xs s.below.locals) around
              ∙ sym (ap (λ n. below (drop n outer ∷ further) s.below.locals) alone);
          locals = refl;
        } in
        ap (λ xs. outwards s.activation xs s.below.operands s.below.locals (Branch 0 (state w locals operands))) is
        ∙ branch_again s.activation p ls old 0 w mid closed b again
        ∙ loop_enters c b w o x p new refl opened (λ body. at_once exec (frame_at c) body.instrs) (none ∙ sym alone) again
        (again_inner c b w o x j js code)
        ∙ ap (λ xs. check w (means (record { activation = s.activation; code = o.code.now; layers = xs; values = new })))
        (sym is)

  loops_by : (code : List Instr) → o.code.now ≡ code → (code ≡ [] → ⊥) → (around : List (List RawVal)) →
      s.below.operands ≡ around → (around ≡ [] → ⊥) → LoopsTo s o.code.now
  loops_by [] e some around f nested = absurd (some refl)
  loops_by (j ∷ js) e some [] f nested = absurd (nested refl)
  loops_by (j ∷ js) e some (outer ∷ further) f nested = loops_around j js e outer further f

  pub loops : (o.code.now ≡ [] → ⊥) → (s.below.operands ≡ [] → ⊥) → LoopsTo s o.code.now
  loops some nested = loops_by o.code.now refl some s.below.operands refl nested

-- ---- branches that stay in the block

-- back to the loop, where the check passes
back : (again : List Instr) (h : Hop) → IsRound again h → (s : Surrounding) (rest : List Instr)
    (operands locals slice : List RawVal) (w : World) → Loops s again → Lets true w →
    owing (standing s rest operands locals) (Branch 0 (state w locals operands))
    ≡ means (standing s h.code.now (topmost h.height slice) locals) w
back again h x s rest operands locals slice w l lets =
    l x.0 operands locals w ∙ lets refl (means (standing s again [] locals))
    ∙ ap (λ is. means (standing s is [] locals) w) (sym x.1)
    ∙ ap (λ n. means (standing s h.code.now (topmost n slice) locals) w) (sym x.2)

branches : (k l : ℕ) (s : State) (go : State → Outcome) → (k ≡ 0 → ⊥) → branch_if k l s go ≡ Branch l s
branches zero l s go other = absurd (other refl)
branches (suc k) l s go other = refl

module _ (again : List Instr) (passes : Bool) (code rest : List Instr) (j : Instr) (is : code ≡ j ∷ rest)
    (operands : List RawVal) where
  hops_by : (k : Instr) → j ≡ k → code ≡ k ∷ rest
  hops_by k e = is ∙ ap (λ k. k ∷ rest) e

  -- a branch that is not taken
  pub stays : (l x : ℕ) (left : List RawVal) → j ≡ i.BrIf l → TakesI32 operands x left → x ≡ 0 →
      Hops again passes code operands rest left
  stays l x left e t none = record {
    instr = i.BrIf l;
    rest = rest;
    code_is = hops_by (i.BrIf l) e;
    quiet = tt;
    leads = λ s locals w loops lets.
        let c = standing s rest operands locals in
        let go : ℕ → List RawVal → Outcome = λ x kept. branch_if x l (with_operands (state_at c w) kept)
        (exec (Run (frame_at c) rest)) in
        ap (λ o. owing c o) (i32_takes (stuck (state_at c w)) operands x left go t ∙ ap (λ k. go k left) none);
  }

  module _ (h : Hop) (x : IsRound again h) (pass : passes ≡ true) (l : ℕ) (innermost : l ≡ 0) (slice : List RawVal) where
    lets_pass : (w : World) → Lets passes w → Lets true w
    lets_pass w lets = λ e. lets pass

    -- one that is
    pub leads_back : j ≡ i.Br l → Hops again passes code operands h.code.now (topmost h.height slice)
    leads_back e = record {
      instr = i.Br l;
      rest = rest;
      code_is = hops_by (i.Br l) e;
      quiet = tt;
      leads = λ s locals w loops lets.
          let c = standing s rest operands locals in
          ap (λ l. owing c (Branch l (state_at c w))) innermost
          ∙ back again h x s rest operands locals slice w loops (lets_pass w lets);
    }

    pub leads_back_if : (n : ℕ) (left : List RawVal) → j ≡ i.BrIf l → TakesI32 operands n left → (n ≡ 0 → ⊥) →
        Hops again passes code operands h.code.now (topmost h.height slice)
    leads_back_if n left e t other = record {
      instr = i.BrIf l;
      rest = rest;
      code_is = hops_by (i.BrIf l) e;
      quiet = tt;
      leads = λ s locals w loops lets.
          let c = standing s rest operands locals in
          let go : ℕ → List RawVal → Outcome = λ x kept. branch_if x l (with_operands (state_at c w) kept)
          (exec (Run (frame_at c) rest)) in
          ap (λ o. owing c o) (i32_takes (stuck (state_at c w)) operands n left go t
          ∙ branches n l (with_operands (state_at c w) left) (exec (Run (frame_at c) rest)) other)
          ∙ ap (λ l. owing c (Branch l (state w locals left))) innermost
          ∙ back again h x s rest left locals slice w loops (lets_pass w lets);
    }

  -- where there is such a round
  module _ (l : ℕ) (slice : List RawVal) where
    pub back_by_br : (o : Option Hop) → IfSome o (λ h. l ≡ 0) → IfSome o (λ h. passes ≡ true) →
        IfSome o (λ h. IsRound again h) → j ≡ i.Br l →
        IfSome o (λ h. Hops again passes code operands h.code.now (topmost h.height slice))
    back_by_br None a b c e = tt
    back_by_br (Some h) a b c e = leads_back h c b l a slice e

    pub back_by_br_if : (o : Option Hop) → IfSome o (λ h. l ≡ 0) → IfSome o (λ h. passes ≡ true) →
        IfSome o (λ h. IsRound again h) → (n : ℕ) (left : List RawVal) → j ≡ i.BrIf l → TakesI32 operands n left →
        (n ≡ 0 → ⊥) → IfSome o (λ h. Hops again passes code operands h.code.now (topmost h.height slice))
    back_by_br_if None a b c n left e t other = tt
    back_by_br_if (Some h) a b c n left e t other = leads_back_if h c b l a slice n left e t other

-- ---- checks that pass and ask nothing

module _ (program : ProgramParts) (rules : Rules) (held : HeldParts) (owed : ℕ) (passes : Passes rules held.fuel owed)
  where
    fuelled : (b : Bool) → (not b || is_fuelled (held.fuel -ℤ pos owed)) ≡ true →
        (not b || is_fuelled (charged b held owed).fuel) ≡ true
    fuelled true e = e
    fuelled false e = refl

    pub check_passes : (go : Doing) (base : Machine) → IsRuled rules base → (turns : ℕ) (before : List Asking)
        (answers : List Answer) →
        check (at (ruled program rules) base (charged rules.consumes_fuel held owed) turns before answers) go
        ≡ go (at (ruled program rules) base (charged rules.consumes_fuel held owed) turns before answers)
    check_passes go base is turns before answers =
        let h = charged rules.consumes_fuel held owed in
        let w = at (ruled program rules) base h turns before answers in
        ap (λ b. cond (not b || is_fuelled h.fuel) (on_epoch w go) (Over (Trapped trap.OutOfFuel) w)) is.fuel_is
        ∙ ap (λ b. cond b (on_epoch w go) (Over (Trapped trap.OutOfFuel) w)) (fuelled rules.consumes_fuel passes.1)
        ∙ ap (λ b. cond b (ask Over w Reading (read go)) (go w)) (is.epochs_are ∙ passes.0)

module _ (rules : Rules) (fuel : ℤ) (owed : ℕ) where
  pub free_of : (n m : ℕ) → m ≤ n → IsFree rules fuel owed n → IsFree rules fuel owed m
  free_of n m le free = λ spent less. free spent (omega (arith, le, less))

  pub free_on : (n made : ℕ) → IsFree rules fuel owed n → (rest : ℕ) → rest ≤ n - made →
      IsFree rules fuel (owed + made) rest
  free_on n made free rest le = λ spent less.
      let same : owed + (made + spent) ≡ owed + made + spent = omega arith in
      subst (λ k. Passes rules fuel k) same (free (made + spent) (omega (arith, le, less)))

  pub free_at : (n made spent : ℕ) → IsFree rules fuel owed n → made + spent < n → (z : ℤ) → z ≡ fuel →
      Passes rules z (owed + made + spent)
  free_at n made spent free less z e =
      let same : owed + (made + spent) ≡ owed + made + spent = omega arith in
      subst (λ z. Passes rules z (owed + made + spent)) (sym e)
      (subst (λ k. Passes rules fuel k) same (free (made + spent) less))

-- where neither fuel is consumed nor epochs are read, and where only fuel is
pub free_always : (rules : Rules) (fuel : ℤ) (owed n : ℕ) → rules.reads_epochs ≡ false → rules.consumes_fuel ≡ false →
    IsFree rules fuel owed n
free_always rules fuel owed n e f = λ spent less.
    (e, ap (λ b. not b || is_fuelled (fuel -ℤ pos (owed + spent))) f)

some_fuel : (n : ℕ) → 0 < n → is_fuelled (pos n) ≡ true
some_fuel n less = le-leb 1 n less

more_fuel : (fuel : ℤ) (n : ℕ) → n < fuel_left fuel → is_fuelled (fuel -ℤ pos n) ≡ true
more_fuel (pos n) zero less = some_fuel (n + 0) (omega (arith, less))
more_fuel (pos n) (suc k) less = by_test (ltb n (suc k)) refl
  where
    by_test : (b : Bool) → b ≡ ltb n (suc k) → is_fuelled (cond b (negsuc (suc k - suc n)) (pos (n - suc k))) ≡ true
    by_test true e = absurd (grind (arith, nat_tests))
    by_test false e = some_fuel (n - suc k) (omega (arith, less))
more_fuel (negsuc k) n less = absurd (omega (arith, less))

or_true : (a b : Bool) → b ≡ true → (a || b) ≡ true
or_true true b e = refl
or_true false b e = e

pub free_fuel : (rules : Rules) (fuel : ℤ) (owed n : ℕ) → rules.reads_epochs ≡ false → n ≡ fuel_left fuel - owed →
    IsFree rules fuel owed n
free_fuel rules fuel owed n e is = λ spent less. (
  e,
  or_true (not rules.consumes_fuel) (is_fuelled (fuel -ℤ pos (owed + spent)))
      (more_fuel fuel (owed + spent) (omega (arith, is, less))),
)
