use Rattle.std.proofs.Common.{ap, sym, ◌∙◌}
use Rattle.std.specs.Prelude.{option_map}
use Rattle.store_state.specs.Lists.{names_behind}
use Rattle.store_state.specs.Machine.{run_machine}
use Rattle.instance_parts.proofs.TakingLemmas.{no_instance_data, data_missing, data_dropped, datas_behind}
use Rattle.instance_parts.proofs.taking.drop_data.Goals as goal

pub returns-in_default-clause-dropped : goal.returns-in_default-clause-dropped
returns-in_default-clause-dropped c = λ base.
    no_instance_data base c.args.program.now c.args.held.now c.args.instance c.args.segment
    (ap (option_map names_behind) (sym c.in_default.is) ∙ c.instance.ensures)

pub returns-then-drop_data-clause-dropped : goal.returns-then-drop_data-clause-dropped
returns-then-drop_data-clause-dropped c = λ base.
    let d = c.if-drop_data.ensures.dropped in
    data_dropped base c.args.program.now c.args.held.now c.args.instance c.args.segment c.in-Some._names.now
    (ap (option_map names_behind) (sym c.in-Some.is) ∙ c.instance.ensures) d.0 c.drop_data.new.self d.1 d.2 d.3

pub returns-then-drop_data-clause-behind : goal.returns-then-drop_data-clause-behind
returns-then-drop_data-clause-behind c =
    let d = c.if-drop_data.ensures.dropped in
    datas_behind c.args.held.now c.drop_data.new.self c.args.instance c.args.segment d.0 d.3

pub returns-clause-dropped : goal.returns-clause-dropped
returns-clause-dropped c = λ base.
    let n = c.if-drop_data.ensures.none in
    data_missing base c.args.program.now c.args.held.now c.args.instance c.args.segment c.in-Some._names.now
    (ap (option_map names_behind) (sym c.in-Some.is) ∙ c.instance.ensures) n.0
    ∙ ap (run_machine base c.args.program.now) (sym n.1)
