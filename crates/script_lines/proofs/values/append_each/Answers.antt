use Rattle.std.proofs.Common.{arith, ap, ◌∷◌}
use Rattle.script_lines.specs.Lines.{value_text}
use Rattle.script_lines.proofs.Beginnings.{at_err, begun_each}
use Rattle.script_lines.proofs.values.append_each.Goals as goal

pub returns-in_err-append_item-clause-short : goal.returns-in_err-append_item-clause-short
returns-in_err-append_item-clause-short c =
    at_err _ (begun_each (λ val. 32 ∷ value_text val) c.args.vals.now c.loop-val.val-index _ _ _ _ _
    (omega arith) (ap (λ val. 32 ∷ value_text val) c.val-item.is) c.loop-val.invariant c.in_err-append_item.ensures.short)
