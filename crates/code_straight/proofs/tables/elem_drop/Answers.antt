use Rattle.std.proofs.Common.{ap, sym, ◌∙◌}
use Rattle.std.specs.Prelude.{option_map}
use Rattle.spec_execution.specs.Straight.{Sticks}
use Rattle.store_state.specs.Lists.{names_behind}
use Rattle.code_straight.proofs.FindingLemmas.{elements_dropped}
use Rattle.code_straight.proofs.InstanceLemmas.{on_elements_none, on_elements_is, found_as}
use Rattle.code_straight.proofs.tables.elem_drop.Goals as goal

pub returns-in_default-clause-acts : goal.returns-in_default-clause-acts
returns-in_default-clause-acts c = λ values base.
    on_elements_none Sticks base c.args.program.now c.args.held.now c.args.instance c.args.segment
    (sym c.instance.ensures ∙ ap (option_map names_behind) c.in_default.is) _

pub returns-then-drop_elements-clause-acts : goal.returns-then-drop_elements-clause-acts
returns-then-drop_elements-clause-acts c = λ values base.
    let d = c.if-drop_elements.ensures.dropped in
    elements_dropped base c.args.program.now c.args.held.now c.args.instance c.args.segment c.in-Some._names.now
    (sym c.instance.ensures ∙ ap (option_map names_behind) c.in-Some.is) values.locals
    values.operands d.0 c.drop_elements.new.self d.1 d.2 d.3

pub returns-clause-acts : goal.returns-clause-acts
returns-clause-acts c = λ values base.
    on_elements_is Sticks base c.args.program.now c.args.held.now c.args.instance c.args.segment c.in-Some._names.now
    (sym c.instance.ensures ∙ ap (option_map names_behind) c.in-Some.is) _
    ∙ found_as Sticks _ c.if-drop_elements.ensures.none.0
