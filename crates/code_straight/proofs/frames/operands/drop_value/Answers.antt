use Rattle.std.proofs.Common.{pos, arith}
use Rattle.wasm_objects.specs.declared.raw.RawVal.TheVariants as w
use Rattle.code_straight.proofs.FrameLemmas.{takes_top}
use Rattle.code_straight.proofs.frames.operands.drop_value.Goals as goal

pub returns-clause-acts : goal.returns-clause-acts
returns-clause-acts c = λ locals instance m.
    takes_top c.args.operands.now c.args.height (w.I32 (pos 0)) c.requires.within _ (omega arith)
