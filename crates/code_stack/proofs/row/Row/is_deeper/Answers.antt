use Rattle.std.proofs.Common.{take, ap, ◌∙◌, sym, length}
use Rattle.std.proofs.lemmas.List.{length-reverse}
use Rattle.std.specs.Prelude.{reverse}
use Rattle.code_stack.specs.Cuts.{RowParts}
use Rattle.code_stack.proofs.CutLemmas.{length_segments, deeper}
use Rattle.code_stack.proofs.row.Row.is_deeper.Goals as goal

pub returns : goal.returns
returns c =
    let row = c.self.inside in
    let hs = reverse row.starts.items in
    let ys = take row.start (take row.height row.items.items) in
    deeper c.args.skipped c.len.result c.args.self.now.before
    (ap (λ (v : RowParts). length v.before) (sym c.self.view_is) ∙ length_segments hs ys
    ∙ length-reverse row.starts.items ∙ sym (c.len.ensures ∙ row.starts.ok.0))
