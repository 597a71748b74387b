use Rattle.std.proofs.Common.{◌+◌, ◌-◌, ◌<◌, refl, sym, subst, nat_lt, arith, ◌∙◌}
use Rattle.std.proofs.lemmas.Bool.{ltb-true}
use Rattle.code_stack.specs.Layers.{means}
use Rattle.code_leaps.specs.Rounds.{IsFree, Passes}
use Rattle.code_leaps.specs.Running.{charged}
use Rattle.code_run.specs.Spinning.{ahead_of}
use Rattle.code_run.specs.Steps.{seen}
use Rattle.code_leaps.proofs.LoopLemmas.{free_on, free_at}
use Rattle.code_leaps.proofs.PartLemmas.{leads_owing}
use Rattle.code_run.proofs.SpinLemmas.{spins_owing, goes_next, moved}
use Rattle.code_run.proofs.thread.Thread.spin.Goals as goal

pub returns-then-not-goes_on-clause-spins : goal.returns-then-not-goes_on-clause-spins
returns-then-not-goes_on-clause-spins c = λ owed free.
    let later : IsFree c.args.rules c.spin.held.fuel (owed + c.spin.made) c.saturating_sub.result =
    subst (λ z. IsFree c.args.rules z (owed + c.spin.made) c.saturating_sub.result) (sym c.spin.invariant.fuel)
    (free_on c.args.rules c.args.held.now.fuel owed c.args.free c.spin.made free c.saturating_sub.result (omega arith)) in
    spins_owing c.args.program.now c.args.rules (means (seen c.args.self.now)) c.args.held.now owed c.args.left
    c.spin.made c.spin.invariant.within (means (seen c.spin.self)) c.spin.held (c.spin.invariant.leads owed free)
    (ahead_of c.spin_once-spun.result.beat c.spin_once-spun.new.self) c.spin_once-spun.result.spent
    (seen c.spin_once-spun.new.self) c.spin_once-spun.new.held (c.args.left - c.spin.made) refl
    (c.spin_once-spun.ensures.spins (owed + c.spin.made) later)

pub spin-preserved : goal.spin-preserved
spin-preserved c = record {
  within = omega (arith, c.spin_once-spun.ensures.within, c.spin.invariant.within);
  fuel = c.spin_once-spun.ensures.fuel ∙ c.spin.invariant.fuel;
  leads = λ owed free.
      let made = c.spin.made + c.spin_once-spun.result.spent in
      let later : IsFree c.args.rules c.spin.held.fuel (owed + c.spin.made) c.saturating_sub.result =
      subst (λ z. IsFree c.args.rules z (owed + c.spin.made) c.saturating_sub.result) (sym c.spin.invariant.fuel)
      (free_on c.args.rules c.args.held.now.fuel owed c.args.free c.spin.made free c.saturating_sub.result (omega arith)) in
      let passes : (made < c.args.free) → Passes c.args.rules c.spin_once-spun.new.held.fuel (owed + c.spin.made
      + c.spin_once-spun.result.spent) =
      λ less. free_at c.args.rules c.args.held.now.fuel owed c.args.free c.spin.made c.spin_once-spun.result.spent free
      less c.spin_once-spun.new.held.fuel (c.spin_once-spun.ensures.fuel ∙ c.spin.invariant.fuel) in
      leads_owing c.args.program.now c.args.rules (means (seen c.args.self.now)) c.args.held.now owed c.spin.made
      (means (seen c.spin.self)) c.spin.held (c.spin.invariant.leads owed free) c.spin_once-spun.result.spent
      (means (seen c.spin_once-spun.new.self)) c.spin_once-spun.new.held
      (goes_next c.args.program.now c.args.rules (nat_lt made c.args.free)
      (means (seen c.spin.self)) (charged c.args.rules.consumes_fuel c.spin.held (owed + c.spin.made))
      (c.args.left - c.spin.made) c.spin_once-spun.result.spent c.spin_once-spun.result.beat c.spin_once-spun.new.self
      c.spin_once-spun.new.held (owed + c.spin.made + c.spin_once-spun.result.spent)
      (λ e. passes (ltb-true made c.args.free e))
      (c.spin_once-spun.ensures.spins (owed + c.spin.made) later) (sym c.goes_on.ensures ∙ c.if-not-goes_on.false)).0;
}

pub spin-smaller : goal.spin-smaller
spin-smaller c =
    omega (
      arith,
      c.spin_once-spun.ensures.within,
      c.spin.invariant.within,
      moved c.spin_once-spun.result.beat c.spin_once-spun.result.spent _ c.spin_once-spun.ensures.moves
          (sym c.goes_on.ensures ∙ c.if-not-goes_on.false),
    )
