use Rattle.std.proofs.Common.{◌+◌, get_or, pos, ap, sym, ◌∙◌, arith}
use Rattle.wasm_objects.specs.declared.raw.RawVal.TheVariants as w
use Rattle.spec_execution.specs.Straight.{Goes}
use Rattle.code_straight.specs.Frames.{topmost}
use Rattle.code_straight.proofs.FrameLemmas.{topmost_put, found_at}
use Rattle.code_straight.proofs.frames.variables.local_get.Goals as goal

pub returns-clause-acts : goal.returns-clause-acts
returns-clause-acts c = λ instance m.
    let any = w.I32 (pos 0) in
    found_at c.args.locals.now c.args.index any _ (omega arith)
    ∙ ap (Goes m c.args.locals.now) (sym (topmost_put c.args.operands.now c.args.height
    (get_or c.args.locals.now c.args.index any) c.requires.room))
    ∙ ap (λ l. Goes m c.args.locals.now (topmost (c.args.height + 1) l)) (sym (c.copy_value_from.ensures any))
