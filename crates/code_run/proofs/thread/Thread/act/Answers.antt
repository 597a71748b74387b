use Rattle.std.proofs.Common.{◌∙◌}
use Rattle.code_leaps.specs.Running.{charged}
use Rattle.code_run.specs.Steps.{seen}
use Rattle.code_leaps.proofs.Acts.{act_goes, act_traps, act_sticks}
use Rattle.code_leaps.proofs.FuelLemmas.{acts_fuel, acts_charged, keeps_charged}
use Rattle.code_run.proofs.thread.Thread.act.Goals as goal

pub returns-in-Goes-clause-acts : goal.returns-in-Goes-clause-acts
returns-in-Goes-clause-acts c = λ rules owed.
    act_goes c.args.program.now (seen c.args.self.now) c.make_room.new.values c.act.new.values c.args.instr c.requires
    (charged rules.consumes_fuel c.args.held.now owed) (charged rules.consumes_fuel c.act.new.held owed) c.act.result
    c.in_ok-make_room.ensures.operands c.in_ok-make_room.ensures.locals
    (acts_charged c.args.program.now c.args.self.now.activation.instance c.args.instr c.args.held.now c.act.new.held
    c.make_room.new.values.locals c.make_room.new.values.operands c.act.new.values.locals c.act.new.values.operands
    c.act.result c.act.ensures.acts c.act.ensures.kept rules.consumes_fuel owed) rules
    c.in-Goes.is (c.act.ensures.below ∙ c.in_ok-make_room.ensures.below)

pub returns-in-Goes-clause-fuel : goal.returns-in-Goes-clause-fuel
returns-in-Goes-clause-fuel c =
    acts_fuel c.args.program.now c.args.self.now.activation.instance c.args.instr c.args.held.now c.act.new.held
    c.make_room.new.values.locals c.make_room.new.values.operands c.act.new.values.locals c.act.new.values.operands
    c.act.result c.act.ensures.acts c.act.ensures.kept

pub returns-in-Traps-clause-acts : goal.returns-in-Traps-clause-acts
returns-in-Traps-clause-acts c = λ rules owed.
    act_traps c.args.program.now (seen c.args.self.now) c.make_room.new.values c.act.new.values c.args.instr c.requires
    (charged rules.consumes_fuel c.args.held.now owed) (charged rules.consumes_fuel c.act.new.held owed) c.act.result
    c.in_ok-make_room.ensures.operands c.in_ok-make_room.ensures.locals
    (acts_charged c.args.program.now c.args.self.now.activation.instance c.args.instr c.args.held.now c.act.new.held
    c.make_room.new.values.locals c.make_room.new.values.operands c.act.new.values.locals c.act.new.values.operands
    c.act.result c.act.ensures.acts c.act.ensures.kept rules.consumes_fuel owed) rules
    (seen (record c.args.self.now { values = c.act.new.values })) c.in-Traps.trap c.in-Traps.is
    (keeps_charged c.act.result c.args.held.now c.act.new.held rules.consumes_fuel owed c.act.ensures.kept)

pub returns-in-Traps-clause-fuel : goal.returns-in-Traps-clause-fuel
returns-in-Traps-clause-fuel c =
    acts_fuel c.args.program.now c.args.self.now.activation.instance c.args.instr c.args.held.now c.act.new.held
    c.make_room.new.values.locals c.make_room.new.values.operands c.act.new.values.locals c.act.new.values.operands
    c.act.result c.act.ensures.acts c.act.ensures.kept

pub returns-in-Sticks-clause-acts : goal.returns-in-Sticks-clause-acts
returns-in-Sticks-clause-acts c = λ rules owed.
    act_sticks c.args.program.now (seen c.args.self.now) c.make_room.new.values c.act.new.values c.args.instr c.requires
    (charged rules.consumes_fuel c.args.held.now owed) (charged rules.consumes_fuel c.act.new.held owed) c.act.result
    c.in_ok-make_room.ensures.operands c.in_ok-make_room.ensures.locals
    (acts_charged c.args.program.now c.args.self.now.activation.instance c.args.instr c.args.held.now c.act.new.held
    c.make_room.new.values.locals c.make_room.new.values.operands c.act.new.values.locals c.act.new.values.operands
    c.act.result c.act.ensures.acts c.act.ensures.kept rules.consumes_fuel owed) rules
    (seen (record c.args.self.now { values = c.act.new.values })) c.in-Sticks.is
    (keeps_charged c.act.result c.args.held.now c.act.new.held rules.consumes_fuel owed c.act.ensures.kept)

pub returns-in-Sticks-clause-fuel : goal.returns-in-Sticks-clause-fuel
returns-in-Sticks-clause-fuel c =
    acts_fuel c.args.program.now c.args.self.now.activation.instance c.args.instr c.args.held.now c.act.new.held
    c.make_room.new.values.locals c.make_room.new.values.operands c.act.new.values.locals c.act.new.values.operands
    c.act.result c.act.ensures.acts c.act.ensures.kept
