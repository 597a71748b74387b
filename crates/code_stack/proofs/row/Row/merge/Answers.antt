use Rattle.std.proofs.Common.{◌-◌, take, subst}
use Rattle.std.specs.Prelude.{reverse, vec_len}
use Rattle.code_stack.specs.Cuts.{RowParts, cut, HasMerged}
use Rattle.code_stack.proofs.CutLemmas.{reverse_push, merged}
use Rattle.code_stack.proofs.row.Row.merge.Goals as goal

pub returns : goal.returns
returns c =
    let row = c.self.inside in
    let xs = take row.height row.items.items in
    let room = vec_len row.items - row.height in
    let rest = reverse c.pop.new.self.items in
    subst (λ (v : RowParts). HasMerged v (cut c.in-Some.start rest xs room)) c.self.view_is
    (merged xs row.start (reverse row.starts.items) room c.in-Some.start rest
    (reverse_push c.pop.new.self.items row.starts.items c.in-Some.start c.in-Some.ensures.items) c.self.invariant.1)
