use Rattle.std.proofs.Common.{◌-◌, take, drop, ap, ◌∙◌, arith}
use Rattle.std.proofs.lemmas.List.{length-take-le}
use Rattle.code_stack.proofs.CutLemmas.{part_of}
use Rattle.code_stack.proofs.row.Row.last.Goals as goal

pub returns : goal.returns
returns c =
    let row = c.self.inside in
    let long = length-take-le row.height row.items.items c.self.invariant.0 in
    ap (λ l. take (row.height - row.start) (drop row.start l)) c.deref.ensures.value
    ∙ part_of row.items.items row.start row.height (omega (arith, long, c.self.invariant.1.0))
    ∙ ap (λ v. v.last) c.self.view_is
