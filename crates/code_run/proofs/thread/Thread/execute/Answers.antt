use Rattle.wasm_syntax.specs.declared.instr.Instr.TheVariants as i
use Rattle.code_leaps.specs.Running.{charged}
use Rattle.code_run.specs.Steps.{came}
use Rattle.code_run.proofs.InstructionLemmas.{reaches, in_each, in_program}
use Rattle.code_run.proofs.thread.Thread.execute.Goals as goal

pub returns-in-Unreachable-clause-steps : goal.returns-in-Unreachable-clause-steps
returns-in-Unreachable-clause-steps c = λ rules owed ef.
    reaches c.args.program.now rules (charged rules.consumes_fuel c.args.held.now owed) c.args.instr c.args.self.now
    c.args.self.now c.in-Unreachable.is

pub returns-in_ok-step-in-Loop-clause-steps : goal.returns-in_ok-step-in-Loop-clause-steps
returns-in_ok-step-in-Loop-clause-steps c = λ rules owed ef.
    in_each c.args.program.now rules (charged rules.consumes_fuel c.args.held.now owed) c.args.instr
    (i.Loop c.in-Loop.block) c.in-Loop.is c.args.self.now
    c.begin_loop.new.self (came c.in_ok-step-in-Loop.step c.begin_loop.new.self) c.in_ok-step-in-Loop.ensures

pub returns-in_ok-step-in-Call-clause-steps : goal.returns-in_ok-step-in-Call-clause-steps
returns-in_ok-step-in-Call-clause-steps c = λ rules owed ef.
    in_program c.args.program.now rules (charged rules.consumes_fuel c.args.held.now owed) c.args.instr
    (i.Call c.in-Call.function) c.in-Call.is c.args.self.now
    c.call_index.new.self (came c.in_ok-step-in-Call.step c.call_index.new.self) c.args.frames ef c.in_ok-step-in-Call.ensures
