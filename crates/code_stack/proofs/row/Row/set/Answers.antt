use Rattle.std.proofs.Common.{◌+◌, ◌-◌, ◌<◌, set, take, ap, ◌∙◌, arith}
use Rattle.std.proofs.Math.Seq.{take-set-lt}
use Rattle.std.specs.Prelude.{reverse, vec_len}
use Rattle.code_stack.specs.Cuts.{row_parts, cut}
use Rattle.code_stack.proofs.CutLemmas.{set_row}
use Rattle.code_stack.proofs.row.Row.set.Goals as goal

pub returns-clause-written : goal.returns-clause-written
returns-clause-written c =
    let row = c.self.inside in
    let i = c.args.at in
    let hs = reverse row.starts.items in
    let room = vec_len row.items - row.height in
    let there : row.start + i < row.height = omega arith in
    ap (λ l. cut row.start hs l room) (take-set-lt row.height row.items.items (row.start + i) c.args.value there)
    ∙ set_row (take row.height row.items.items) row.start hs room i c.args.value
    ∙ ap (λ v. row_parts (set v.last i c.args.value) v.before v.room) c.self.view_is
