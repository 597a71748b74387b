-- A bulk form: the fuel is tested before its turn, which takes its cost.
use Rattle.std.proofs.Common.{◌≡◌, ℕ, List, [], refl, sym, ap, ◌∙◌, subst, arith, Bool, true, false}
use Rattle.std.specs.Prelude.{ℤ, suc, ◌<◌, ◌%◌, ◌^◌, ◌++◌, ◌∷◌, length, reverse, cond, not, ◌&&◌, ◌||◌, int_lt, pos}
use Rattle.code_stack.proofs.CutLemmas.{reverse_push}
use Rattle.wasm_syntax.specs.declared.instr.Instr.{Instr}
use Rattle.wasm_syntax.specs.declared.instr.Instr.TheVariants as i
use Rattle.std.proofs.Math.Nat.{mod-eq_of_lt}
use Rattle.std.proofs.lemmas.List.{reverse-reverse}
use Rattle.wasm_syntax.specs.Operators.{unsigned}
use Rattle.wasm_objects.specs.declared.raw.RawVal.{RawVal}
use Rattle.wasm_objects.specs.declared.raw.RawVal.TheVariants as raw
use Rattle.wasm_values.specs.declared.refusals.Trap.TheVariants as trap
use Rattle.spec_machine.specs.Machine.{Machine}
use Rattle.spec_execution.specs.Askings.{Answer, Asking}
use Rattle.spec_execution.specs.Bodies.{one, instruction, exec}
use Rattle.spec_execution.specs.Checks.{on_fuel}
use Rattle.spec_execution.specs.Costs.{is_bulk, length_in, length_of, cost}
use Rattle.spec_execution.specs.Entering.{Frame, Exec}
use Rattle.spec_execution.specs.Operands as on
use Rattle.spec_execution.specs.Outcomes.{State, Over, Trapped, spend}
use Rattle.store_state.specs.Parts.{ProgramParts, HeldParts}
use Rattle.code_stack.specs.Layers.{Configuration, frame_at, state_at, owing}
use Rattle.code_leaps.specs.Leading.{Doing, at, Leads}
use Rattle.code_leaps.specs.Running.{AsksNothing, IsQuiet, IsRuled, Steps, ruled, charged, executing}
use Rattle.code_leaps.specs.Spending.{turn_of, Spends}
use Rattle.code_leaps.specs.Turns.{passing}
use Rattle.code_stack.specs.declared.rules.Rules.{Rules}
use Rattle.code_stack.specs.declared.steps.Fault.TheVariants as fault
use Rattle.code_stack.specs.declared.steps.Step.{Step}
use Rattle.code_stack.specs.declared.turns.Ending.TheVariants as ending
use Rattle.code_stack.specs.declared.turns.Turn.{Turn}
use Rattle.code_stack.specs.declared.turns.Turn.TheVariants as turn
use Rattle.code_leaps.proofs.InstructionTurnLemmas.{Takes}
use Rattle.code_stack.proofs.LayerLemmas.{owing_over}
use Rattle.code_leaps.proofs.PartLemmas.{leads_from, leads_none}
use Rattle.code_leaps.proofs.TurnLemmas.{takes_limit, takes_exhausted, takes_step}
use Rattle.code_run.specs.Spinning.{Stepped, ahead_of, beat_of, IsTurn}
use Rattle.code_run.specs.Steps.{came}
use Rattle.code_run.specs.declared.spins.Beat.{Beat}
use Rattle.code_run.specs.declared.steps.Signal.{Signal}
use Rattle.code_run.specs.declared.steps.Signal.TheVariants as signal
use Rattle.code_run.specs.declared.thread.Thread.{Thread}
use Rattle.code_run.proofs.CheckedStoreLemmas.{lacking, having, fuel_at}
use Rattle.code_run.proofs.SpinLemmas.{beat_is}

-- ---- what is no growth, and what is no bulk form besides

pub bulk_asks_nothing : (j : Instr) → is_bulk j ≡ true → AsksNothing j
bulk_asks_nothing (i.MemoryGrow k) e = absurd (cc e)
bulk_asks_nothing (i.TableGrow k) e = absurd (cc e)
bulk_asks_nothing j e = tt

pub quiet_of : (j : Instr) → is_bulk j ≡ false → ((k : ℕ) → j ≡ i.MemoryGrow k → ⊥) → ((k : ℕ) → j ≡ i.TableGrow k → ⊥) →
    IsQuiet j
quiet_of (i.MemoryGrow k) e m t = absurd (m k refl)
quiet_of (i.TableGrow k) e m t = absurd (t k refl)
quiet_of (i.MemoryFill k) e m t = absurd (cc e)
quiet_of (i.MemoryCopy dst src) e m t = absurd (cc e)
quiet_of (i.MemoryInit memory segment) e m t = absurd (cc e)
quiet_of (i.TableFill k) e m t = absurd (cc e)
quiet_of (i.TableCopy dst src) e m t = absurd (cc e)
quiet_of (i.TableInit table segment) e m t = absurd (cc e)
quiet_of j e m t = tt

pub quiet_asks_nothing : (j : Instr) → IsQuiet j → AsksNothing j
quiet_asks_nothing (i.MemoryGrow k) q = absurd q
quiet_asks_nothing (i.TableGrow k) q = absurd q
quiet_asks_nothing j q = tt

bulk_is : (f : Exec) (fr : Frame) (j : Instr) (is : List Instr) (s : State) → is_bulk j ≡ true →
    instruction f fr j is s
    ≡ on_fuel s.world (λ w. spend (cost j s.operands) w (λ v. one f fr j is (record s { world = v })))
bulk_is f fr (i.MemoryFill k) is s e = refl
bulk_is f fr (i.MemoryCopy dst src) is s e = refl
bulk_is f fr (i.MemoryInit memory segment) is s e = refl
bulk_is f fr (i.TableFill k) is s e = refl
bulk_is f fr (i.TableCopy dst src) is s e = refl
bulk_is f fr (i.TableInit table segment) is s e = refl
bulk_is f fr j is s e = absurd (cc e)

-- ---- the length on top

pub no_length : (v : RawVal) → ((z : ℤ) → v ≡ raw.I32 z → ⊥) → length_in (on.integer_in 32 v) ≡ 0
no_length (raw.I32 z) no_integer = absurd (no_integer z refl)
no_length v no_integer = refl

-- the topmost operand stands last
pub none_on_top : (operands : List RawVal) → length operands ≡ 0 → 0 ≡ length_of (reverse operands)
none_on_top [] e = refl
none_on_top (v ∷ rest) e = absurd (cc e)

pub length_is : (operands rest : List RawVal) (v : RawVal) → operands ≡ rest ++ v ∷ [] →
    length_in (on.integer_in 32 v) ≡ length_of (reverse operands)
length_is operands rest v e = ap length_of (sym (reverse_push rest operands v e))

pub length_read : (z : ℤ) (n : ℕ) → n ≡ unsigned 32 z → n < 2 ^ 32 → n ≡ length_in (on.integer_in 32 (raw.I32 z))
length_read z n e within = sym (mod-eq_of_lt within) ∙ ap (λ k. k % 2 ^ 32) e

pub top_is : (length : ℕ) (operands shown : List RawVal) → shown ≡ reverse operands →
    length ≡ length_of (reverse shown) → length ≡ length_of operands
top_is length operands shown e is = is ∙ ap length_of (ap reverse e ∙ reverse-reverse operands)

-- what is owed, where fuel is consumed
pub charged_where : (c : Bool) (h : HeldParts) (n owed : ℕ) → owed ≡ cond c n 0 → charged c h n ≡ charged c h owed
charged_where true h n owed e = ap (charged true h) (sym e)
charged_where false h n owed e = refl

-- what the thread says of a step
pub step_is : (s : Signal) (t : Thread) (what : Turn) (b : Beat) → b ≡ beat_of s → ahead_of b t ≡ Stepped what →
    turn_of (came s t) ≡ what
step_is s t what b e is = cc (beat_is s t ∙ ap (λ b. ahead_of b t) (sym e) ∙ is)

pub signal_is_turn : (s : Signal) (b : Beat) → b ≡ beat_of s → IsTurn b
signal_is_turn signal.Goes b e = subst IsTurn (sym e) tt
signal_is_turn signal.Checks b e = subst IsTurn (sym e) tt
signal_is_turn signal.Ends b e = subst IsTurn (sym e) tt

module _ (program : ProgramParts) (rules : Rules) (mid : Configuration) (j : Instr) (bulk : is_bulk j ≡ true)
    (h : HeldParts) where
  is_tested : (fuelled : Bool) → (not rules.consumes_fuel || int_lt (pos 0) h.fuel) ≡ fuelled → (base : Machine) →
      IsRuled rules base → (turns : ℕ) (before : List Asking) (answers : List Answer) →
      passing mid j (at (ruled program rules) base h turns before answers)
      ≡ owing mid (cond fuelled (spend (cost j mid.values.operands)
      (at (ruled program rules) base h turns before answers) (λ v. one exec (frame_at mid) j mid.code
      (record (state_at mid (at (ruled program rules) base h turns before answers)) { world = v })))
      (Over (Trapped trap.OutOfFuel) (at (ruled program rules) base h turns before answers)))
  is_tested fuelled e base b turns before answers =
      let s = state_at mid (at (ruled program rules) base h turns before answers) in
      ap (λ o. owing mid o) (bulk_is exec (frame_at mid) j mid.code s bulk
      ∙ fuel_at program rules h fuelled e
      (λ w. spend (cost j mid.values.operands) w (λ v. one exec (frame_at mid) j mid.code (record s { world = v })))
      base b turns before answers)

  -- no fuel is left
  pub bulk_unfuelled : true ≡ (rules.consumes_fuel && not (int_lt (pos 0) h.fuel)) → (left : ℕ)
      (new : Configuration) (h' : HeldParts) → h' ≡ h →
      Spends (ruled program rules) (passing mid j) h left (turn.Ends (ending.Fails (fault.Trapped trap.OutOfFuel))) 0 new
      h'
  bulk_unfuelled e left new h' eh =
      let g = ruled program rules in
      let out : Doing = λ w. Over (Trapped trap.OutOfFuel) w in
      record {
        within = omega arith;
        turns =
            subst (λ (k : HeldParts). Leads g (passing mid j) h 0 [] out k) (sym eh)
            (leads_from g (passing mid j) out h
            (λ base b turns before answers.
            let w = at g base h turns before answers in
            is_tested false (lacking rules.consumes_fuel (int_lt (pos 0) h.fuel) e) base b turns before answers
            ∙ owing_over mid (out w) (Trapped trap.OutOfFuel) w refl) 0 [] out h (leads_none g out h));
      }

  -- fuel is left, or none is consumed
  module _ (some_fuel : false ≡ (rules.consumes_fuel && not (int_lt (pos 0) h.fuel))) (left : ℕ) (new : Configuration)
    where
      takes : Takes program rules mid j h (cost j mid.values.operands)
      takes base b turns before answers =
          is_tested true (having rules.consumes_fuel (int_lt (pos 0) h.fuel) some_fuel) base b turns before answers

      pub bulk_limit : left ≡ 0 → (h' : HeldParts) → h' ≡ h →
          Spends (ruled program rules) (passing mid j) h left (turn.Ends ending.Limit) 0 new h'
      bulk_limit none h' eh =
          takes_limit program rules mid j h (cost j mid.values.operands) takes left new h' none eh

      pub bulk_exhausted : (h' : HeldParts) → h' ≡ h →
          Spends (ruled program rules) (passing mid j) h left (turn.Ends ending.Exhausted) 0 new h'
      bulk_exhausted h' eh =
          takes_exhausted program rules mid j h (cost j mid.values.operands) takes left new h' eh

      pub bulk_steps : (left ≡ 0 → ⊥) → (h' : HeldParts) (step : Step) (what : Turn) → turn_of step ≡ what → (owed : ℕ) →
          owed ≡ cond rules.consumes_fuel (suc (length_of mid.values.operands)) 0 →
          Steps (ruled program rules) (executing mid j)
          (charged rules.consumes_fuel h (suc (length_of mid.values.operands))) step new
          (charged rules.consumes_fuel h' (suc (length_of mid.values.operands))) →
          Spends (ruled program rules) (passing mid j) h left what 1 new (charged rules.consumes_fuel h' owed)
      bulk_steps some h' step what is owed owed_is x =
          let n = suc (length_of mid.values.operands) in
          let c = rules.consumes_fuel in
          let all : cost j mid.values.operands ≡ n =
          ap (λ b. suc (cond b (length_of mid.values.operands) 0)) bulk in
          subst (λ w. Spends (ruled program rules) (passing mid j) h left w 1 new (charged c h' owed)) is
          (subst (λ k. Spends (ruled program rules) (passing mid j) h left (turn_of step) 1 new k)
          (charged_where c h' n owed owed_is)
          (takes_step program rules mid j h (cost j mid.values.operands) takes left new (charged c h' n) some step
          (subst (λ k. Steps (ruled program rules) (executing mid j) (charged c h k) step new (charged c h' n)) (sym all)
          x)))
