use Rattle.std.proofs.Common.{◌-◌, sym, ap, ◌∙◌, drop, length}
use Rattle.std.specs.Prelude.{reverse}
use Rattle.std.proofs.lemmas.List.{take_rest, reverse-reverse}
use Rattle.code_run.proofs.ResumeLemmas.{last_items}
use Rattle.code_run.proofs.pauses.topmost.Goals as goal

pub returns : goal.returns
returns c =
    let values = c.args.values.now.operands in
    let items = c.operands-operands.result.now in
    take_rest items c.saturating_sub-start.result ∙ ap (λ k. drop k items) c.saturating_sub-start.ensures
    ∙ sym (reverse-reverse (drop (length items - c.args.count) items))
    ∙ ap reverse (last_items c.args.count items values c.operands-operands.ensures)
