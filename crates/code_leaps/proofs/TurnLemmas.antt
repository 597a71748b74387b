-- What the turn of an instruction that asks nothing comes to.
use Rattle.std.proofs.Common.{◌≡◌, ℕ, ◌+◌, [], sym, subst, arith}
use Rattle.wasm_syntax.specs.declared.instr.Instr.{Instr}
use Rattle.spec_execution.specs.Askings.{Question, Answer}
use Rattle.store_state.specs.Parts.{ProgramParts, HeldParts}
use Rattle.code_stack.specs.Layers.{Configuration}
use Rattle.code_leaps.specs.Leading.{Setting, Stops, Halts}
use Rattle.code_leaps.specs.Running.{ruled, charged, executing, IsQuiet, Steps}
use Rattle.code_leaps.specs.Spending.{turn_of, Spends}
use Rattle.code_leaps.specs.Turns.{passing, Turns}
use Rattle.code_stack.specs.declared.rules.Rules.{Rules}
use Rattle.code_stack.specs.declared.steps.Step.{Step}
use Rattle.code_stack.specs.declared.turns.Ending.TheVariants as ending
use Rattle.code_stack.specs.declared.turns.Turn.{Turn}
use Rattle.code_stack.specs.declared.turns.Turn.TheVariants as turn
use Rattle.code_leaps.proofs.InstructionTurnLemmas.{charged_on, Takes, quiet_takes, turn_stops, turn_by}
use Rattle.code_leaps.proofs.PartLemmas.{stops_halts}

-- an instruction whose turn takes so much
module _ (program : ProgramParts) (rules : Rules) (mid : Configuration) (j : Instr) (h : HeldParts) (amount : ℕ)
    (starts : Takes program rules mid j h amount) (left : ℕ) (new : Configuration) (h' : HeldParts) where
  pub takes_limit : left ≡ 0 → h' ≡ h →
      Spends (ruled program rules) (passing mid j) h left (turn.Ends ending.Limit) 0 new h'
  takes_limit e eh = record {
    within = omega arith;
    turns = (
      subst (λ (x : HeldParts). Stops (ruled program rules) (passing mid j) h 0 [] x) (sym eh)
          (turn_stops program rules mid j h amount starts),
      sym e,
    );
  }

  pub takes_exhausted : h' ≡ h →
      Spends (ruled program rules) (passing mid j) h left (turn.Ends ending.Exhausted) 0 new h'
  takes_exhausted eh = record {
    within = omega arith;
    turns =
        subst (λ (x : HeldParts). Halts (ruled program rules) (passing mid j) h 0 [] x) (sym eh)
        (stops_halts (ruled program rules) (passing mid j) h 0 [] h (turn_stops program rules mid j h amount starts));
  }

  pub takes_step : (left ≡ 0 → ⊥) → (step : Step) →
      Steps (ruled program rules) (executing mid j) (charged rules.consumes_fuel h amount) step new h' →
      Spends (ruled program rules) (passing mid j) h left (turn_of step) 1 new h'
  takes_step some step x = record {
    within = omega (arith, some);
    turns = turn_by program rules mid j h amount starts new h' left step x;
  }

-- one that asks nothing, and takes one unit
module _ (program : ProgramParts) (rules : Rules) (mid : Configuration) (j : Instr) (q : IsQuiet j) (h : HeldParts)
    (left : ℕ) (new : Configuration) (h' : HeldParts) where
  pub spends_limit : left ≡ 0 → h' ≡ h →
      Spends (ruled program rules) (passing mid j) h left (turn.Ends ending.Limit) 0 new h'
  spends_limit = takes_limit program rules mid j h 1 (quiet_takes program rules mid j q h) left new h'

  pub spends_exhausted : h' ≡ h →
      Spends (ruled program rules) (passing mid j) h left (turn.Ends ending.Exhausted) 0 new h'
  spends_exhausted = takes_exhausted program rules mid j h 1 (quiet_takes program rules mid j q h) left new h'

-- where so much fuel is owed
module _ (program : ProgramParts) (rules : Rules) (mid : Configuration) (j : Instr) (q : IsQuiet j) (held : HeldParts)
    (owed left : ℕ) (new : Configuration) (held' : HeldParts) where
  pub spends_owing : (left ≡ 0 → ⊥) → (step : Step) →
      Steps (ruled program rules) (executing mid j) (charged rules.consumes_fuel held (owed + 1)) step new
      (charged rules.consumes_fuel held' (owed + 1)) →
      Spends (ruled program rules) (passing mid j) (charged rules.consumes_fuel held owed) left (turn_of step) 1 new
      (charged rules.consumes_fuel held' (owed + 1))
  spends_owing some step x =
      let start = charged rules.consumes_fuel held owed in
      takes_step program rules mid j start 1 (quiet_takes program rules mid j q start) left new
      (charged rules.consumes_fuel held' (owed + 1)) some step
      (subst (λ (k : HeldParts). Steps (ruled program rules) (executing mid j) k step new
      (charged rules.consumes_fuel held' (owed + 1))) (sym (charged_on rules.consumes_fuel held owed 1)) x)

-- of the instruction that it is, and of what is held
pub turns_of_instr : {W : Type 0} (g : Setting HeldParts) (moves : W → Question → Answer → W → Type 0)
    (c : Configuration) (j j' : Instr) → j ≡ j' → (h k : HeldParts) → k ≡ h → (t : W) (left : ℕ) (what : Turn)
    (spent : ℕ) (new : Configuration) (h' : HeldParts) (t' : W) →
    Turns g moves (passing c j') k t left what spent new h' t' → Turns g moves (passing c j) h t left what spent new h' t'
turns_of_instr {W} g moves c j j' e h k ek t left what spent new h' t' x =
    subst (λ (i : Instr). Turns g moves (passing c i) h t left what spent new h' t') (sym e)
    (subst (λ (y : HeldParts). Turns g moves (passing c j') y t left what spent new h' t') ek x)
