use Rattle.std.proofs.Common.{◌+◌, ◌-◌, ◌≤◌, ◌∙◌, nat_lt, subst, arith}
use Rattle.std.proofs.lemmas.Bool.{ltb-true}
use Rattle.code_straight.specs.Frames.{topmost}
use Rattle.code_straight.specs.declared.frames.Framed.{Framed}
use Rattle.code_leaps.specs.Bursts.{standing, behind}
use Rattle.code_stack.specs.Layers.{means}
use Rattle.code_leaps.proofs.RoundLemmas.{Led, hop_on, led_on}
use Rattle.code_leaps.proofs.rounds.perform_rounds.Goals as goal

pub returns-in_default-clause-leads : goal.returns-in_default-clause-leads
returns-in_default-clause-leads c = λ rules owed s same loops free.
    led_on c.args.program.now rules owed
    (means (standing s c.args.code.now (topmost c.args.height c.args.operands.now) c.args.locals.now)) c.args.held.now
    c.args.turns c.rounds.left c.rounds.invariant.within c.rounds.held
    (means (standing s c.rounds.code.now (topmost c.rounds.height c.rounds.operands) c.rounds.locals))
    (c.rounds.invariant.leads rules owed s same loops free) c.perform_all-ran.result.left c.perform_all-ran.ensures.left
    (behind s c.perform_all-ran.result.rest.now c.perform_all-ran.new.operands c.perform_all-ran.new.locals
    c.perform_all-ran.result.framed)
    c.perform_all-ran.new.held
    (c.perform_all-ran.ensures.leads rules (owed + (c.args.turns - c.rounds.left)) s same)

pub rounds-preserved : goal.rounds-preserved
rounds-preserved c =
    let hop = c.in-Some.ensures.hops in
    record {
      within = omega (arith, c.perform_all-ran.ensures.left, c.rounds.invariant.within);
      still = λ is. absurd (omega (
        arith,
        is,
        hop.some,
        c.perform_all-ran.ensures.left,
        c.rounds.invariant.within,
      ));
      height = c.in-Some.ensures.within;
      long = c.perform_all-ran.ensures.long ∙ c.rounds.invariant.long;
      many = c.perform_all-ran.ensures.many ∙ c.rounds.invariant.many;
      fuel = c.perform_all-ran.ensures.fuel ∙ c.rounds.invariant.fuel;
      leads = λ rules owed s same loops free.
          let due = means (standing s c.args.code.now (topmost c.args.height c.args.operands.now) c.args.locals.now) in
          let left = c.perform_all-ran.result.left in
          let held = c.perform_all-ran.new.held in
          let rest = c.perform_all-ran.result.rest.now in
          let operands = c.perform_all-ran.new.operands in
          let locals = c.perform_all-ran.new.locals in
          let within : left ≤ c.args.turns =
          omega (arith, c.perform_all-ran.ensures.left, c.rounds.invariant.within) in
          hop_on c.args.program.now rules owed due c.args.held.now c.args.turns left within held s locals c.args.again.now
          loops c.args.floor hop.some (nat_lt c.args.floor (left - 1)) (ltb-true c.args.floor (left - 1))
          (c.perform_all-ran.ensures.fuel ∙ c.rounds.invariant.fuel) free rest (topmost hop.top operands)
          (subst (λ (f : Framed). Led c.args.program.now rules owed due c.args.held.now c.args.turns left within held left
          (behind s rest operands locals f) held) hop.goes
          (led_on c.args.program.now rules owed due c.args.held.now c.args.turns c.rounds.left c.rounds.invariant.within
          c.rounds.held (means (standing s c.rounds.code.now (topmost c.rounds.height c.rounds.operands) c.rounds.locals))
          (c.rounds.invariant.leads rules owed s same loops free) left c.perform_all-ran.ensures.left
          (behind s rest operands locals c.perform_all-ran.result.framed) held
          (c.perform_all-ran.ensures.leads rules (owed + (c.args.turns - c.rounds.left)) s same)))
          c.in-Some.hop.code.now (topmost c.in-Some.hop.height operands) hop.hops;
    }

pub rounds-smaller : goal.rounds-smaller
rounds-smaller c = omega (arith, c.in-Some.ensures.hops.some, c.perform_all-ran.ensures.left)
