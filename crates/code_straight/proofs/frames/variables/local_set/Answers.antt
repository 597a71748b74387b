use Rattle.std.proofs.Common.{◌-◌, pos, ap, sym, ◌∙◌, arith}
use Rattle.wasm_objects.specs.declared.raw.RawVal.TheVariants as w
use Rattle.spec_execution.specs.Straight.{Goes}
use Rattle.code_straight.specs.Frames.{topmost}
use Rattle.code_straight.proofs.FrameLemmas.{takes_top, found_at}
use Rattle.code_straight.proofs.frames.variables.local_set.Goals as goal

pub returns-clause-acts : goal.returns-clause-acts
returns-clause-acts c = λ instance m.
    let any = w.I32 (pos 0) in
    takes_top c.args.operands.now c.args.height any c.requires.within _ (omega arith)
    ∙ found_at c.args.locals.now c.args.index any _ (omega arith)
    ∙ ap (λ l. Goes m l (topmost (c.args.height - 1) c.args.operands.now)) (sym (c.copy_value_from.ensures any))
