use Rattle.std.proofs.Common.{◌≡◌, ℕ, Bool, set, ap, sym, ◌∙◌, arith}
use Rattle.std.specs.Prelude.{slice_get, option_map, Some}
use Rattle.wasm_types.specs.TableTypes.{TableParts}
use Rattle.wasm_objects.specs.Growth.{longer_table}
use Rattle.wasm_objects.specs.Tables.{Table}
use Rattle.spec_machine.specs.Growth.{plan, growth_rule, table_range, table_growing}
use Rattle.spec_execution.specs.Bodies.{grow}
use Rattle.spec_execution.specs.Entering.{Run}
use Rattle.spec_execution.specs.Outcomes.{Over, Stuck, state}
use Rattle.store_state.specs.Lists.{table_behind}
use Rattle.store_state.specs.Machine.{run_machine}
use Rattle.store_state.specs.Growing.{says, table_says}
use Rattle.store_state.specs.declared.growth.GrowthRule.{GrowthRule}
use Rattle.code_straight.proofs.Growths.{on_table_in}
use Rattle.code_straight.proofs.OperandLemmas.{takes_i32, takes_reference}
use Rattle.code_straight.proofs.InstanceLemmas.{on_table_is, found_as, found_at}
use Rattle.code_straight.proofs.growing.table_growth.Goals as goal

-- what the rule says by its parts
abbrev ruled : Bool → TableParts → ℕ → ℕ → GrowthRule
ruled limited ty before delta =
    says (growth_rule limited table_range (table_growing ty before delta)) (table_growing ty before delta)

pub returns-in_default-table_number-clause-due : goal.returns-in_default-table_number-clause-due
returns-in_default-table_number-clause-due c = λ base f fr is w locals same store.
    takes_i32 (Over Stuck w) c.args.values.now.operands c.in-Some.delta c.pop_i32.new.self.operands _
    c.in-Some.ensures.value.0
    ∙ (takes_reference (Over Stuck w) c.pop_i32.new.self.operands c.in-Some-pop_reference.value
    c.pop_reference.new.self.operands _ c.in-Some-pop_reference.ensures.value.0
    ∙ (on_table_in (Over Stuck w) w.machine (run_machine base c.args.program.now c.args.held.now) fr.instance
    c.args.instance c.args.index _ store same
    ∙ on_table_is (Over Stuck w) base c.args.program.now c.args.held.now c.args.instance c.args.index _
    ∙ found_as (Over Stuck w) _ (sym c.table_number.ensures ∙ c.in_default-table_number.is)))

pub returns-in_default-table-clause-due : goal.returns-in_default-table-clause-due
returns-in_default-table-clause-due c = λ base f fr is w locals same store.
    takes_i32 (Over Stuck w) c.args.values.now.operands c.in-Some.delta c.pop_i32.new.self.operands _
    c.in-Some.ensures.value.0
    ∙ (takes_reference (Over Stuck w) c.pop_i32.new.self.operands c.in-Some-pop_reference.value
    c.pop_reference.new.self.operands _ c.in-Some-pop_reference.ensures.value.0
    ∙ (on_table_in (Over Stuck w) w.machine (run_machine base c.args.program.now c.args.held.now) fr.instance
    c.args.instance c.args.index _ store same
    ∙ on_table_is (Over Stuck w) base c.args.program.now c.args.held.now c.args.instance c.args.index _
    ∙ found_at (Over Stuck w) _ _ (sym c.table_number.ensures ∙ c.in-Some-table_number.is)
    (sym c.table.ensures.lent ∙ ap (option_map table_behind) c.in_default-table.is)))

pub returns-clause-due : goal.returns-clause-due
returns-clause-due c =
    let x : Table = c.in-Some-table.table.now.table in
    let number = c.in-Some-table_number.number in
    let delta = c.in-Some.delta in
    let value = c.in-Some-pop_reference.value in
    let found : slice_get c.args.held.now.tables number ≡ Some x =
    sym c.table.ensures.lent ∙ ap (option_map table_behind) c.in-Some-table.is in (
      (
        x,
        record {
          found = found;
          before = sym c.rule_of_table-said.ensures.before;
          rule = c.rule_of_table-said.ensures.rule ∙ (ap (table_says c.args.limited x) c.from.ensures
              ∙ ap (λ n. ruled c.args.limited x.ty n delta) (sym c.rule_of_table-said.ensures.before));
        },
        λ base f fr is w locals same store.
            takes_i32 (Over Stuck w) c.args.values.now.operands delta c.pop_i32.new.self.operands _
            c.in-Some.ensures.value.0
            ∙ (takes_reference (Over Stuck w) c.pop_i32.new.self.operands value c.pop_reference.new.self.operands _
            c.in-Some-pop_reference.ensures.value.0
            ∙ (on_table_in (Over Stuck w) w.machine (run_machine base c.args.program.now c.args.held.now) fr.instance
            c.args.instance c.args.index _ store same
            ∙ (on_table_is (Over Stuck w) base c.args.program.now c.args.held.now c.args.instance c.args.index _
            ∙ found_at (Over Stuck w) _ _ (sym c.table_number.ensures ∙ c.in-Some-table_number.is) found
            ∙ ap (λ n. grow f (Run fr is) (state w locals c.pop_reference.new.self.operands)
            (plan table_range (table_growing x.ty n delta) (record w.machine {
              tables = set w.machine.tables number (longer_table x delta value);
            }) n)) (sym c.rule_of_table-said.ensures.before)))),
      ),
      omega (arith, c.in-Some.ensures.value.1, c.in-Some-pop_reference.ensures.value.1),
    )
