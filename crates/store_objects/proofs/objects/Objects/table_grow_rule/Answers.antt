use Rattle.std.proofs.Common.{subst}
use Rattle.wasm_values.specs.Handles.{table_index}
use Rattle.spec_machine.specs.WellFormed.{IsTable}
use Rattle.spec_machine.specs.WellFormed.{IsWellFormed}
use Rattle.store_objects.proofs.objects.Objects.table_grow_rule.Goals as goal

pub rule_of_table-said-requires : goal.rule_of_table-said-requires
rule_of_table-said-requires c =
    let x = c.in_ok-grown.grown.now.table in
    let s : IsWellFormed c.args.self.now = subst IsWellFormed c.self.view_is c.self.invariant in
    let is : IsTable c.args.self.now x =
    s.tables_are (table_index c.args.table) x c.in_ok-grown.ensures.1 in
    is.in_range
