use Rattle.binary_code.proofs.Owed.{by_block, by_straight, by_table}
use Rattle.binary_code.proofs.nesting.Nesting.go_on_by.Goals as goal

pub returns-in-Straight : goal.returns-in-Straight
returns-in-Straight c m outer due =
    by_straight c.args.context m outer c.args.form c.in-Straight.form c.args.self.now c.straight.new.self c.args.input.now c.straight.new.input
    c.straight.result c.not_whole.result c.in-Straight.is due c.straight.ensures c.not_whole.ensures

pub returns-in-BrTable : goal.returns-in-BrTable
returns-in-BrTable c m outer due =
    by_table c.args.context m outer c.args.form c.args.self.now c.branch_table.new.self c.args.input.now c.branch_table.new.input
    c.branch_table.result c.not_whole-in-BrTable.result c.in-BrTable.is due c.branch_table.ensures c.not_whole-in-BrTable.ensures

pub returns-in-Opens : goal.returns-in-Opens
returns-in-Opens c m outer due =
    by_block c.args.context m outer c.args.form c.in-Opens.opener c.args.self.now c.begin.new.self c.args.input.now c.begin.new.input
    c.begin.result c.not_whole-in-Opens.result c.in-Opens.is due c.begin.ensures c.not_whole-in-Opens.ensures
