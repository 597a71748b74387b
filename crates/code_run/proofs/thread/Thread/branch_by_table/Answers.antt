use Rattle.code_run.proofs.Conditions.{br_table_lacks, br_table_none}
use Rattle.code_run.proofs.thread.Thread.branch_by_table.Goals as goal

pub returns-in_default : goal.returns-in_default
returns-in_default c = br_table_lacks c.args.self.now c.args.self.now c.args.table c.in_default.ensures.value

pub returns-in_default-table_label : goal.returns-in_default-table_label
returns-in_default-table_label c =
    br_table_none c.args.self.now c.args.self.now c.pop_i32.new.self c.in-Some.ensures.locals c.in-Some.ensures.below
    c.in-Some.place c.in-Some.ensures.value.0 c.args.table c.in_default-table_label.ensures
