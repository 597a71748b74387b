use Rattle.std.proofs.Common.{ap, sym, ◌∙◌}
use Rattle.std.specs.Prelude.{option_map}
use Rattle.store_state.specs.Lists.{names_behind}
use Rattle.store_state.specs.Machine.{run_machine}
use Rattle.instance_parts.proofs.TakingLemmas.{no_instance_element, element_missing, element_dropped, elements_behind, datas_stay}
use Rattle.instance_parts.proofs.taking.drop_element.Goals as goal

pub returns-in_default-clause-dropped : goal.returns-in_default-clause-dropped
returns-in_default-clause-dropped c = λ base.
    no_instance_element base c.args.program.now c.args.held.now c.args.instance c.args.segment
    (ap (option_map names_behind) (sym c.in_default.is) ∙ c.instance.ensures)

pub returns-then-drop_elements-clause-dropped : goal.returns-then-drop_elements-clause-dropped
returns-then-drop_elements-clause-dropped c = λ base.
    let d = c.if-drop_elements.ensures.dropped in
    element_dropped base c.args.program.now c.args.held.now c.args.instance c.args.segment c.in-Some._names.now
    (ap (option_map names_behind) (sym c.in-Some.is) ∙ c.instance.ensures) d.0 c.drop_elements.new.self d.1 d.2 d.3

pub returns-then-drop_elements-clause-behind : goal.returns-then-drop_elements-clause-behind
returns-then-drop_elements-clause-behind c =
    let d = c.if-drop_elements.ensures.dropped in
    elements_behind c.args.held.now c.drop_elements.new.self c.args.instance c.args.segment d.0 d.3

pub returns-then-drop_elements-clause-datas : goal.returns-then-drop_elements-clause-datas
returns-then-drop_elements-clause-datas c =
    let d = c.if-drop_elements.ensures.dropped in
    datas_stay c.args.held.now c.drop_elements.new.self c.args.instance c.args.segment d.0 d.3

pub returns-clause-dropped : goal.returns-clause-dropped
returns-clause-dropped c = λ base.
    let n = c.if-drop_elements.ensures.none in
    element_missing base c.args.program.now c.args.held.now c.args.instance c.args.segment c.in-Some._names.now
    (ap (option_map names_behind) (sym c.in-Some.is) ∙ c.instance.ensures) n.0
    ∙ ap (run_machine base c.args.program.now) (sym n.1)
