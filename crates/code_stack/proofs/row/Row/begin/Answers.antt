use Rattle.std.proofs.Common.{◌+◌, ◌-◌, ◌≤◌, length, take, drop, ap, ◌∙◌, arith}
use Rattle.std.specs.Prelude.{vec_len}
use Rattle.code_stack.proofs.CutLemmas.{pasted_part}
use Rattle.code_stack.proofs.row.Row.begin.Goals as goal

pub returns-clause-last : goal.returns-clause-last
returns-clause-last c =
    let row = c.self.inside in
    let xs = row.items.items in
    let top = row.height in
    let values = c.args.values.now in
    let n = length values in
    let room : n ≤ vec_len row.items - top = omega (arith, c.in_ok-reserve.ensures.room, ap (λ v. v.room) c.self.view_is) in
    let ends : top + n ≤ length xs = omega (arith, room, c.self.invariant.0, row.items.ok.0) in
    ap (λ l. drop top (take (top + n) l)) c.write.ensures.items ∙ pasted_part xs values top ends
