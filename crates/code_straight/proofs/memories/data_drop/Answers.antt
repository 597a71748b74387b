use Rattle.std.proofs.Common.{ap, sym, ◌∙◌}
use Rattle.std.specs.Prelude.{option_map}
use Rattle.spec_execution.specs.Straight.{Sticks}
use Rattle.store_state.specs.Lists.{names_behind}
use Rattle.code_straight.proofs.FindingLemmas.{data_dropped}
use Rattle.code_straight.proofs.InstanceLemmas.{on_data_none, on_data_is, found_as}
use Rattle.code_straight.proofs.memories.data_drop.Goals as goal

pub returns-in_default-clause-acts : goal.returns-in_default-clause-acts
returns-in_default-clause-acts c = λ values base.
    on_data_none Sticks base c.args.program.now c.args.held.now c.args.instance c.args.segment
    (sym c.instance.ensures ∙ ap (option_map names_behind) c.in_default.is) _

pub returns-then-drop_data-clause-acts : goal.returns-then-drop_data-clause-acts
returns-then-drop_data-clause-acts c = λ values base.
    let d = c.if-drop_data.ensures.dropped in
    data_dropped base c.args.program.now c.args.held.now c.args.instance c.args.segment c.in-Some._names.now
    (sym c.instance.ensures ∙ ap (option_map names_behind) c.in-Some.is) values.locals
    values.operands d.0 c.drop_data.new.self d.1 d.2 d.3

pub returns-clause-acts : goal.returns-clause-acts
returns-clause-acts c = λ values base.
    on_data_is Sticks base c.args.program.now c.args.held.now c.args.instance c.args.segment c.in-Some._names.now
    (sym c.instance.ensures ∙ ap (option_map names_behind) c.in-Some.is) _
    ∙ found_as Sticks _ c.if-drop_data.ensures.none.0
