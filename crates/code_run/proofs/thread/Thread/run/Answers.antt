use Rattle.std.proofs.Common.{◌≡◌, ◌≤◌, ℕ, ◌+◌, ◌-◌, refl, sym, ◌∙◌, subst, arith, Bool, true, false}
use Rattle.std.specs.Prelude.{◌^◌}
use Rattle.store_state.specs.Parts.{HeldParts}
use Rattle.code_run.specs.Asking.{Asks, ruled_in}
use Rattle.code_run.specs.Pausing.{due}
use Rattle.code_leaps.specs.Running.{charged}
use Rattle.code_run.specs.Steps.{seen}
use Rattle.code_leaps.specs.Turns.{going, Passes, Ends}
use Rattle.code_leaps.proofs.InstructionTurnLemmas.{charged_none}
use Rattle.code_run.proofs.Runs.{ended, passes_none, passes_on, moves_on, ends_on}
use Rattle.code_run.proofs.thread.Thread.run.Goals as goal

-- whether fuel is consumed or not
room_by : (c : Bool) (n : ℕ) → (c ≡ true → n ≤ 2 ^ 64 - 1) → (c ≡ false → n ≤ 2 ^ 64 - 1) → n ≤ 2 ^ 64 - 1
room_by true n x y = x refl
room_by false n x y = y refl

pub turns-init : goal.turns-init
turns-init g c = record {
  within = omega arith;
  unmetered = λ e. omega arith;
  debt = omega arith;
  passes =
      subst (λ (h : HeldParts). Passes (ruled_in c.args.context.now)
      (Asks c.args.context.now.rules g.W.Surroundings.moves)
      (due c.args.self.now) c.args.held.now c.args.world.now 0 (due c.args.self.now) h
      c.args.world.now) (sym (charged_none c.args.context.now.rules.consumes_fuel c.args.held.now))
      (passes_none (ruled_in c.args.context.now)
      (Asks c.args.context.now.rules g.W.Surroundings.moves)
      (due c.args.self.now) c.args.held.now c.args.world.now);
}

pub turns-preserved : goal.turns-preserved
turns-preserved g c = record {
  within = omega (arith, c.round-turned.ensures.turns.within, c.turns.invariant.within);
  unmetered = λ e. omega (arith, c.round-turned.ensures.unmetered e, c.turns.invariant.unmetered e);
  debt = omega (arith, c.round-turned.ensures.debt, c.turns.invariant.debt);
  passes =
      passes_on (ruled_in c.args.context.now)
      (Asks c.args.context.now.rules g.W.Surroundings.moves)
      (due c.args.self.now) c.args.held.now c.args.world.now c.turns.made
      (going c.turns.checks (seen c.turns.self)) (charged c.args.context.now.rules.consumes_fuel c.turns.held c.turns.owed)
      c.turns.world c.turns.invariant.passes c.args.turns c.turns.invariant.within
      c.round-turned.result.spent (seen c.round-turned.new.self)
      (charged c.args.context.now.rules.consumes_fuel c.round-turned.new.held c.round-turned.result.owed)
      c.round-turned.new.world c.round-turned.result.what
      c.round-turned.ensures.turns c.in_default.not-Ends c.is_checked-checks.result c.is_checked-checks.ensures;
}

pub turns-smaller : goal.turns-smaller
turns-smaller g c =
    omega (
      arith,
      c.round-turned.ensures.turns.within,
      c.turns.invariant.within,
      moves_on (ruled_in c.args.context.now)
          (Asks c.args.context.now.rules g.W.Surroundings.moves)
          (due c.args.self.now) c.args.held.now c.args.world.now c.turns.made
          (going c.turns.checks (seen c.turns.self)) (charged c.args.context.now.rules.consumes_fuel c.turns.held c.turns.owed)
          c.turns.world c.turns.invariant.passes c.args.turns c.turns.invariant.within
          c.round-turned.result.spent (seen c.round-turned.new.self)
          (charged c.args.context.now.rules.consumes_fuel c.round-turned.new.held c.round-turned.result.owed)
          c.round-turned.new.world c.round-turned.result.what
          c.round-turned.ensures.turns c.in_default.not-Ends,
    )

pub returns-in-Ends-clause-ends : goal.returns-in-Ends-clause-ends
returns-in-Ends-clause-ends g c =
    subst (λ (h : HeldParts). Ends (ruled_in c.args.context.now)
    (Asks c.args.context.now.rules g.W.Surroundings.moves)
    (due c.args.self.now) c.args.held.now c.args.world.now c.args.turns
    (ended c.in-Ends.how (c.turns.made + c.round-turned.result.spent)) (seen c.round-turned.new.self) h
    c.round-turned.new.world) (sym c.take_fuel.ensures.held)
    (ends_on (ruled_in c.args.context.now)
    (Asks c.args.context.now.rules g.W.Surroundings.moves)
    (due c.args.self.now) c.args.held.now c.args.world.now c.turns.made
    (going c.turns.checks (seen c.turns.self)) (charged c.args.context.now.rules.consumes_fuel c.turns.held c.turns.owed)
    c.turns.world c.turns.invariant.passes c.args.turns c.turns.invariant.within
    c.round-turned.result.spent (seen c.round-turned.new.self)
    (charged c.args.context.now.rules.consumes_fuel c.round-turned.new.held c.round-turned.result.owed)
    c.round-turned.new.world c.round-turned.result.what
    c.in-Ends.how c.round-turned.ensures.turns c.in-Ends.is)

pub returns-then-made-slice : goal.returns-then-made-slice
returns-then-made-slice g c = record {
  ends = tt;
  pauses = record {
    within = omega (arith, c.round-turned.ensures.turns.within, c.turns.invariant.within);
    whole = omega (arith, c.if-made-slice.true);
    some =
        omega (
          arith,
          moves_on (ruled_in c.args.context.now)
              (Asks c.args.context.now.rules g.W.Surroundings.moves)
              (due c.args.self.now) c.args.held.now c.args.world.now c.turns.made
              (going c.turns.checks (seen c.turns.self)) (charged c.args.context.now.rules.consumes_fuel c.turns.held c.turns.owed)
              c.turns.world c.turns.invariant.passes c.args.turns c.turns.invariant.within
              c.round-turned.result.spent (seen c.round-turned.new.self)
              (charged c.args.context.now.rules.consumes_fuel c.round-turned.new.held c.round-turned.result.owed)
              c.round-turned.new.world c.round-turned.result.what
              c.round-turned.ensures.turns c.in_default.not-Ends,
        );
    checks = refl;
    passes =
        subst (λ (h : HeldParts). Passes (ruled_in c.args.context.now)
        (Asks c.args.context.now.rules g.W.Surroundings.moves)
        (due c.args.self.now) c.args.held.now c.args.world.now (c.turns.made + c.round-turned.result.spent)
        (going true (seen c.round-turned.new.self)) h c.round-turned.new.world)
        (sym c.take_fuel-then-made-slice.ensures.held)
        (passes_on (ruled_in c.args.context.now)
        (Asks c.args.context.now.rules g.W.Surroundings.moves)
        (due c.args.self.now) c.args.held.now c.args.world.now c.turns.made
        (going c.turns.checks (seen c.turns.self)) (charged c.args.context.now.rules.consumes_fuel c.turns.held c.turns.owed)
        c.turns.world c.turns.invariant.passes c.args.turns c.turns.invariant.within
        c.round-turned.result.spent (seen c.round-turned.new.self)
        (charged c.args.context.now.rules.consumes_fuel c.round-turned.new.held c.round-turned.result.owed)
        c.round-turned.new.world c.round-turned.result.what
        c.round-turned.ensures.turns c.in_default.not-Ends true (sym c.if-checks.true ∙ c.is_checked-checks.ensures));
  };
  debt = omega (arith, c.take_fuel-then-made-slice.ensures.debt, c.round-turned.ensures.debt, c.turns.invariant.debt);
}

pub round-turned-requires-clause-fuel : goal.round-turned-requires-clause-fuel
round-turned-requires-clause-fuel g c = λ e.
    omega (arith, c.requires.fuel e, c.turns.invariant.debt, c.turns.invariant.within)

pub returns-in-Ends-clause-debt : goal.returns-in-Ends-clause-debt
returns-in-Ends-clause-debt g c =
    omega (arith, c.take_fuel.ensures.debt, c.round-turned.ensures.debt, c.turns.invariant.debt)

pub take_fuel-requires : goal.take_fuel-requires
take_fuel-requires g c = λ e.
    omega (
      arith,
      c.requires.fuel e,
      c.round-turned.ensures.debt,
      c.round-turned.ensures.turns.within,
      c.turns.invariant.debt,
      c.turns.invariant.within,
    )

pub round-turned-requires-clause-room : goal.round-turned-requires-clause-room
round-turned-requires-clause-room g c =
    room_by c.args.context.now.rules.consumes_fuel (c.turns.owed + (c.args.turns - c.turns.made))
    (λ e. omega (arith, c.requires.fuel e, c.turns.invariant.debt, c.turns.invariant.within))
    (λ e. omega (arith, c.turns.invariant.unmetered e, c.turns.invariant.within, c.ranges.turns))
