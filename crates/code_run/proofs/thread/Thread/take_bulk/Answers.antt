use Rattle.std.proofs.Common.{refl, ap, ◌∙◌}
use Rattle.std.specs.Prelude.{cond, suc}
use Rattle.spec_execution.specs.Costs.{length_of}
use Rattle.code_leaps.proofs.InstructionTurnLemmas.{charged_none}
use Rattle.code_run.specs.Steps.{seen}
use Rattle.code_run.proofs.BulkTurnLemmas.{top_is, bulk_asks_nothing, signal_is_turn, step_is, bulk_unfuelled, bulk_limit, bulk_exhausted, bulk_steps}
use Rattle.code_run.proofs.thread.Thread.take_bulk.Goals as goal

pub execute-requires : goal.execute-requires
execute-requires c = bulk_asks_nothing c.args.self.now.bulk c.requires.bulk

pub what-requires : goal.what-requires
what-requires c = signal_is_turn c.in-Ok.signal c.beat_of.result c.beat_of.ensures

pub returns-then-lacks_fuel-clause-spends : goal.returns-then-lacks_fuel-clause-spends
returns-then-lacks_fuel-clause-spends c =
    bulk_unfuelled c.args.program.now c.args.rules (seen c.args.self.now) c.args.self.now.bulk c.requires.bulk
    c.args.held.now c.if-lacks_fuel.ensures.answer c.args.left (seen c.args.self.now) _
    (charged_none c.args.rules.consumes_fuel c.lacks_fuel.new.held ∙ c.if-lacks_fuel.ensures.same)

pub returns-then-left-eq0-clause-spends : goal.returns-then-left-eq0-clause-spends
returns-then-left-eq0-clause-spends c =
    bulk_limit c.args.program.now c.args.rules (seen c.args.self.now) c.args.self.now.bulk c.requires.bulk
    c.args.held.now c.if-lacks_fuel.ensures.answer c.args.left (seen c.args.self.now) c.if-left-eq0.true _
    (charged_none c.args.rules.consumes_fuel c.lacks_fuel.new.held ∙ c.if-lacks_fuel.ensures.same)

pub returns-in-Err-clause-spends : goal.returns-in-Err-clause-spends
returns-in-Err-clause-spends c =
    bulk_exhausted c.args.program.now c.args.rules (seen c.args.self.now) c.args.self.now.bulk c.requires.bulk
    c.args.held.now c.if-lacks_fuel.ensures.answer c.args.left (seen c.execute.new.self) _
    (charged_none c.args.rules.consumes_fuel c.execute.new.held ∙ c.in-Err.ensures.err ∙ c.if-lacks_fuel.ensures.same)

pub returns-in-Ok-clause-spends : goal.returns-in-Ok-clause-spends
returns-in-Ok-clause-spends c =
    bulk_steps c.args.program.now c.args.rules (seen c.args.self.now) c.args.self.now.bulk c.requires.bulk
    c.args.held.now c.if-lacks_fuel.ensures.answer c.args.left (seen c.execute.new.self) c.if-left-eq0.false
    c.execute.new.held _ c.what.result
    (step_is c.in-Ok.signal c.execute.new.self c.what.result c.beat_of.result c.beat_of.ensures c.what.ensures)
    c.owed_by.result (c.owed_by.ensures.owed ∙ ap (λ n. cond c.args.rules.consumes_fuel (suc n) 0)
    (top_is c.length_on_top-length.result c.args.self.now.values.operands c.operands.result.now c.operands.ensures
    c.length_on_top-length.ensures)) (rw c.if-lacks_fuel.ensures.same at (c.in-Ok.ensures.steps c.args.rules
    (suc (length_of c.args.self.now.values.operands)) refl))
