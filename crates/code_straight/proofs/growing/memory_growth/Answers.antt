use Rattle.std.proofs.Common.{◌≡◌, ◌*◌, ℕ, Bool, set, ap, sym, ◌∙◌}
use Rattle.std.specs.Prelude.{slice_get, option_map, Some}
use Rattle.wasm_types.specs.Memories.{Memory}
use Rattle.wasm_types.specs.MemoryTypes.{MemoryParts, page_size}
use Rattle.wasm_objects.specs.Growth.{longer_memory}
use Rattle.spec_machine.specs.Growth.{plan, growth_rule, memory_range, memory_growing}
use Rattle.spec_execution.specs.Bodies.{grow}
use Rattle.spec_execution.specs.Entering.{Run}
use Rattle.spec_execution.specs.Outcomes.{Over, Stuck, state}
use Rattle.store_state.specs.Lists.{memory_behind}
use Rattle.store_state.specs.Machine.{run_machine}
use Rattle.store_state.specs.Growing.{says, memory_says}
use Rattle.store_state.specs.declared.growth.GrowthRule.{GrowthRule}
use Rattle.code_straight.proofs.Growths.{on_memory_in}
use Rattle.code_straight.proofs.OperandLemmas.{takes_i32}
use Rattle.code_straight.proofs.InstanceLemmas.{on_memory_is, found_as, found_at}
use Rattle.code_straight.proofs.growing.memory_growth.Goals as goal

-- what the rule says by its parts
abbrev ruled : Bool → MemoryParts → ℕ → ℕ → GrowthRule
ruled limited ty before delta =
    says (growth_rule limited (memory_range ty) (memory_growing ty before delta)) (memory_growing ty before delta)

pub returns-in_default-memory_number-clause-due : goal.returns-in_default-memory_number-clause-due
returns-in_default-memory_number-clause-due c = λ base f fr is w locals same store.
    takes_i32 (Over Stuck w) c.args.values.now.operands c.in-Some.delta c.pop_i32.new.self.operands _
    c.in-Some.ensures.value.0
    ∙ (on_memory_in (Over Stuck w) w.machine (run_machine base c.args.program.now c.args.held.now) fr.instance
    c.args.instance c.args.index _ store same
    ∙ on_memory_is (Over Stuck w) base c.args.program.now c.args.held.now c.args.instance c.args.index _
    ∙ found_as (Over Stuck w) _ (sym c.memory_number.ensures ∙ c.in_default-memory_number.is))

pub returns-in_default-memory-clause-due : goal.returns-in_default-memory-clause-due
returns-in_default-memory-clause-due c = λ base f fr is w locals same store.
    takes_i32 (Over Stuck w) c.args.values.now.operands c.in-Some.delta c.pop_i32.new.self.operands _
    c.in-Some.ensures.value.0
    ∙ (on_memory_in (Over Stuck w) w.machine (run_machine base c.args.program.now c.args.held.now) fr.instance
    c.args.instance c.args.index _ store same
    ∙ on_memory_is (Over Stuck w) base c.args.program.now c.args.held.now c.args.instance c.args.index _
    ∙ found_at (Over Stuck w) _ _ (sym c.memory_number.ensures ∙ c.in-Some-memory_number.is)
    (sym c.memory.ensures.lent ∙ ap (option_map memory_behind) c.in_default-memory.is))

pub returns-clause-due : goal.returns-clause-due
returns-clause-due c =
    let x : Memory = c.in-Some-memory.memory.now.memory in
    let number = c.in-Some-memory_number.number in
    let delta = c.in-Some.delta in
    let found : slice_get c.args.held.now.memories number ≡ Some x =
    sym c.memory.ensures.lent ∙ ap (option_map memory_behind) c.in-Some-memory.is in (
      (
        x,
        record {
          found = found;
          before = sym c.rule_of_memory-said.ensures.before;
          rule = c.rule_of_memory-said.ensures.rule ∙ (ap (memory_says c.args.limited x) c.from.ensures
              ∙ ap (λ n. ruled c.args.limited x.ty n delta) (sym c.rule_of_memory-said.ensures.before));
        },
        λ base f fr is w locals same store.
            takes_i32 (Over Stuck w) c.args.values.now.operands delta c.pop_i32.new.self.operands _
            c.in-Some.ensures.value.0
            ∙ (on_memory_in (Over Stuck w) w.machine (run_machine base c.args.program.now c.args.held.now) fr.instance
            c.args.instance c.args.index _ store same
            ∙ (on_memory_is (Over Stuck w) base c.args.program.now c.args.held.now c.args.instance c.args.index _
            ∙ found_at (Over Stuck w) _ _ (sym c.memory_number.ensures ∙ c.in-Some-memory_number.is) found
            ∙ ap (λ n. grow f (Run fr is) (state w locals c.pop_i32.new.self.operands)
            (plan (memory_range x.ty) (memory_growing x.ty n delta) (record w.machine {
              memories = set w.machine.memories number (longer_memory x (delta * page_size x.ty));
            }) n)) (sym c.rule_of_memory-said.ensures.before))),
      ),
      c.in-Some.ensures.value.1,
    )
