use Rattle.std.proofs.Common.{sym, ap, ◌∙◌, arith}
use Rattle.spec_execution.specs.Operands as on
use Rattle.store_state.specs.Machine.{run_machine}
use Rattle.code_run.specs.Asking.{Asks}
use Rattle.code_run.specs.Spinning.{growth_instr}
use Rattle.code_run.specs.Steps.{seen}
use Rattle.store_state.specs.Parts.{HeldParts}
use Rattle.code_run.proofs.DueGrowthLemmas.{growth_sticks, object_of, growth_due, plan_after, plan_gives, grown_fuel}
use Rattle.code_run.proofs.GrowthTurnLemmas.{nothing_owed, fits_none, limit_unasked, limiter_faults, limit_failed, limit_granted, granted_exhausted, fails_on, grows_on}
use Rattle.code_run.proofs.thread.Thread.take_growth.Goals as goal

pub returns-in_default-clause-turns : goal.returns-in_default-clause-turns
returns-in_default-clause-turns g c =
    nothing_owed c.args.context.now.rules.consumes_fuel c.args.held.now
    (fits_none c.args.context.now.program.now c.args.context.now.rules (seen c.args.self.now) (growth_instr c.args.growing)
    c.args.held.now
    (Asks c.args.context.now.rules g.W.Surroundings.moves)
    c.args.world.now c.args.left
    (seen (record c.args.self.now { values = c.due_growth.new.values }))
    (growth_sticks c.args.context.now.program.now c.args.context.now.rules (seen c.args.self.now) c.args.held.now c.args.growing
    c.in_default.ensures.due))

pub returns-in-Limit-clause-turns : goal.returns-in-Limit-clause-turns
returns-in-Limit-clause-turns g c =
    nothing_owed c.args.context.now.rules.consumes_fuel c.args.held.now
    (limit_unasked c.args.context.now.program.now c.args.context.now.rules (seen c.args.self.now) (growth_instr c.args.growing)
    c.args.held.now c.due_growth.new.values _
    c.rule_of.result
    (growth_due c.args.context.now.program.now c.args.context.now.rules (seen c.args.self.now) c.args.held.now c.args.growing
    c.in-Some.growth c.due_growth.new.values.operands c.in-Some.ensures.due.0 c.rule_of.result c.rule_of.ensures)
    (Asks c.args.context.now.rules g.W.Surroundings.moves)
    c.args.world.now c.args.left c.decide-decided.result
    c.decide-decided.new.world
    (c.decide-decided.ensures.decides c.args.context.now.rules)
    (seen (record c.args.self.now { values = c.due_growth.new.values })) c.in-Limit.is)

pub returns-in-Faulted-clause-turns : goal.returns-in-Faulted-clause-turns
returns-in-Faulted-clause-turns g c =
    nothing_owed c.args.context.now.rules.consumes_fuel c.args.held.now
    (limiter_faults c.args.context.now.program.now c.args.context.now.rules (seen c.args.self.now) (growth_instr c.args.growing)
    c.args.held.now c.due_growth.new.values _
    c.rule_of.result
    (growth_due c.args.context.now.program.now c.args.context.now.rules (seen c.args.self.now) c.args.held.now c.args.growing
    c.in-Some.growth c.due_growth.new.values.operands c.in-Some.ensures.due.0 c.rule_of.result c.rule_of.ensures)
    (Asks c.args.context.now.rules g.W.Surroundings.moves)
    c.args.world.now c.args.left c.decide-decided.result
    c.decide-decided.new.world
    (c.decide-decided.ensures.decides c.args.context.now.rules)
    (seen (record c.args.self.now { values = c.due_growth.new.values })) c.in-Faulted.is)

pub returns-then-spent-left-clause-turns : goal.returns-then-spent-left-clause-turns
returns-then-spent-left-clause-turns g c =
    nothing_owed c.args.context.now.rules.consumes_fuel c.args.held.now
    (limit_failed c.args.context.now.program.now c.args.context.now.rules (seen c.args.self.now) (growth_instr c.args.growing)
    c.args.held.now c.due_growth.new.values _
    c.rule_of.result
    (growth_due c.args.context.now.program.now c.args.context.now.rules (seen c.args.self.now) c.args.held.now c.args.growing
    c.in-Some.growth c.due_growth.new.values.operands c.in-Some.ensures.due.0 c.rule_of.result c.rule_of.ensures)
    (Asks c.args.context.now.rules g.W.Surroundings.moves)
    c.args.world.now c.args.left c.decide-decided.result
    c.decide-decided.new.world
    (c.decide-decided.ensures.decides c.args.context.now.rules)
    c.in-Failed.is (seen (record c.args.self.now { values = c.due_growth.new.values })) c.if-spent-left.true)

pub returns-else-spent-left-clause-turns : goal.returns-else-spent-left-clause-turns
returns-else-spent-left-clause-turns g c =
    fails_on c.args.context.now.program.now c.args.context.now.rules (seen c.args.self.now) (growth_instr c.args.growing)
    c.args.held.now c.due_growth.new.values _
    c.rule_of.result
    (growth_due c.args.context.now.program.now c.args.context.now.rules (seen c.args.self.now) c.args.held.now c.args.growing
    c.in-Some.growth c.due_growth.new.values.operands c.in-Some.ensures.due.0 c.rule_of.result c.rule_of.ensures)
    (Asks c.args.context.now.rules g.W.Surroundings.moves)
    c.args.world.now c.args.left c.decide-decided.result
    c.decide-decided.new.world
    (c.decide-decided.ensures.decides c.args.context.now.rules)
    c.push.new.self c.failed_growth.result (ap (λ v. v.operands) c.push.ensures)
    (ap (λ v. v.locals) c.push.ensures ∙ c.in-Some.ensures.locals)
    (ap (λ v. v.below) c.push.ensures ∙ c.in-Some.ensures.below)
    (omega (arith, (c.decide-decided.ensures.decides c.args.context.now.rules).within, c.if-spent-left.false)) c.in-Failed.is
    c.failed_growth.ensures

pub returns-then-spent-left-2-clause-turns : goal.returns-then-spent-left-2-clause-turns
returns-then-spent-left-2-clause-turns g c =
    nothing_owed c.args.context.now.rules.consumes_fuel c.args.held.now
    (limit_granted c.args.context.now.program.now c.args.context.now.rules (seen c.args.self.now) (growth_instr c.args.growing)
    c.args.held.now c.due_growth.new.values _
    c.rule_of.result
    (growth_due c.args.context.now.program.now c.args.context.now.rules (seen c.args.self.now) c.args.held.now c.args.growing
    c.in-Some.growth c.due_growth.new.values.operands c.in-Some.ensures.due.0 c.rule_of.result c.rule_of.ensures)
    (Asks c.args.context.now.rules g.W.Surroundings.moves)
    c.args.world.now c.args.left c.decide-decided.result
    c.decide-decided.new.world
    (c.decide-decided.ensures.decides c.args.context.now.rules)
    c.in-Granted.is (seen (record c.args.self.now { values = c.due_growth.new.values })) c.if-spent-left-2.true)

pub returns-in_default-grow_object-clause-turns : goal.returns-in_default-grow_object-clause-turns
returns-in_default-grow_object-clause-turns g c =
    nothing_owed c.args.context.now.rules.consumes_fuel c.grow_object.new.held
    (granted_exhausted c.args.context.now.program.now c.args.context.now.rules (seen c.args.self.now) (growth_instr c.args.growing)
    c.args.held.now c.due_growth.new.values _
    c.rule_of.result
    (growth_due c.args.context.now.program.now c.args.context.now.rules (seen c.args.self.now) c.args.held.now c.args.growing
    c.in-Some.growth c.due_growth.new.values.operands c.in-Some.ensures.due.0 c.rule_of.result c.rule_of.ensures)
    (Asks c.args.context.now.rules g.W.Surroundings.moves)
    c.args.world.now c.args.left c.decide-decided.result
    c.decide-decided.new.world
    (c.decide-decided.ensures.decides c.args.context.now.rules)
    c.in-Granted.is (seen (record c.args.self.now { values = c.due_growth.new.values })) c.grow_object.new.held
    c.in_default-grow_object.ensures.err)

pub returns-in-Ok-clause-turns : goal.returns-in-Ok-clause-turns
returns-in-Ok-clause-turns g c =
    let object = object_of c.args.context.now.program.now c.args.context.now.rules (seen c.args.self.now) c.args.held.now c.args.growing
    c.in-Some.growth c.due_growth.new.values.operands c.in-Some.ensures.due.0 in
    let grown = c.in-Ok.ensures.ok c.args.context.now.rules.limited object in
    grows_on c.args.context.now.program.now c.args.context.now.rules (seen c.args.self.now) (growth_instr c.args.growing)
    c.args.held.now c.due_growth.new.values _
    c.rule_of.result
    (growth_due c.args.context.now.program.now c.args.context.now.rules (seen c.args.self.now) c.args.held.now c.args.growing
    c.in-Some.growth c.due_growth.new.values.operands c.in-Some.ensures.due.0 c.rule_of.result c.rule_of.ensures)
    (Asks c.args.context.now.rules g.W.Surroundings.moves)
    c.args.world.now c.args.left c.decide-decided.result
    c.decide-decided.new.world
    (c.decide-decided.ensures.decides c.args.context.now.rules)
    c.push-in-Granted.new.self c.granted_growth.result (ap (λ v. v.operands) c.push-in-Granted.ensures)
    (ap (λ v. v.locals) c.push-in-Granted.ensures ∙ c.in-Some.ensures.locals)
    (ap (λ v. v.below) c.push-in-Granted.ensures ∙ c.in-Some.ensures.below)
    (omega (arith, (c.decide-decided.ensures.decides c.args.context.now.rules).within, c.if-spent-left-2.false)) c.in-Granted.is
    c.grow_object.new.held
    (λ base. plan_after c.args.context.now.program.now c.args.held.now c.args.context.now.rules.limited c.in-Some.growth object base
    ∙ ap (run_machine base c.args.context.now.program.now) (sym grown))
    (λ base. c.granted_growth.ensures ∙ ap (on.integer 32) (c.size_before.ensures
    ∙ sym (plan_gives c.args.held.now c.args.context.now.rules.limited c.in-Some.growth object
    (run_machine base c.args.context.now.program.now c.args.held.now))))

pub returns-in-Ok-clause-fuel : goal.returns-in-Ok-clause-fuel
returns-in-Ok-clause-fuel g c =
    let object = object_of c.args.context.now.program.now c.args.context.now.rules (seen c.args.self.now) c.args.held.now c.args.growing
    c.in-Some.growth c.due_growth.new.values.operands c.in-Some.ensures.due.0 in
    ap (λ (h : HeldParts). h.fuel) (c.in-Ok.ensures.ok c.args.context.now.rules.limited object)
    ∙ grown_fuel c.args.held.now c.args.context.now.rules.limited c.in-Some.growth object

pub returns-in_default-grow_object-clause-fuel : goal.returns-in_default-grow_object-clause-fuel
returns-in_default-grow_object-clause-fuel g c = ap (λ (h : HeldParts). h.fuel) c.in_default-grow_object.ensures.err

pub overflow_add-result : goal.overflow_add-result
overflow_add-result g c =
    omega (
      arith,
      (c.decide-decided.ensures.decides c.args.context.now.rules).within,
      c.if-spent-left.false,
      c.ranges.left,
    )

pub overflow_add-result-in-Granted : goal.overflow_add-result-in-Granted
overflow_add-result-in-Granted g c =
    omega (
      arith,
      (c.decide-decided.ensures.decides c.args.context.now.rules).within,
      c.if-spent-left-2.false,
      c.ranges.left,
    )
