use Rattle.std.proofs.Common.{◌-◌, pos, ap, sym, ◌∙◌, arith}
use Rattle.wasm_objects.specs.declared.raw.RawVal.TheVariants as w
use Rattle.spec_execution.specs.Straight.{Goes}
use Rattle.code_straight.specs.Frames.{topmost}
use Rattle.code_straight.proofs.FrameLemmas.{takes_choice}
use Rattle.code_straight.proofs.frames.operands.select.Goals as goal

pub returns-clause-acts : goal.returns-clause-acts
returns-clause-acts c = λ locals instance m.
    let any = w.I32 (pos 0) in
    takes_choice c.args.operands.now c.args.height any c.requires.within m locals c.in-Some.condition
    c.chosen_place-chosen.result (omega arith) c.in-Some.ensures c.chosen_place-chosen.ensures
    ∙ ap (λ l. Goes m locals (topmost (c.args.height - 2) l)) (sym (c.copy_value.ensures any))
