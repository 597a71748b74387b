use Rattle.std.proofs.Common.{◌≤◌, ◌-◌, length, take, drop, ap, sym, ◌∙◌, arith, length-drop}
use Rattle.std.proofs.lemmas.List.{length-take-le, take-take}
use Rattle.std.specs.Prelude.{reverse, vec_len}
use Rattle.code_stack.proofs.CutLemmas.{split_rest}
use Rattle.code_stack.proofs.row.Row.shorten.Goals as goal

pub returns-clause-last : goal.returns-clause-last
returns-clause-last c =
    let row = c.self.inside in
    let top = row.height in
    let xs = take top row.items.items in
    let n = c.args.count in
    let in_last : n ≤ length xs - row.start =
    omega (arith, c.requires, ap (λ v. length v.last) c.self.view_is, length-drop row.start xs) in
    ap (drop row.start) (sym (take-take (top - n) top row.items.items (omega arith)))
    ∙ ap (λ k. drop row.start (take (k - n) xs)) (sym (length-take-le top row.items.items c.self.invariant.0))
    ∙ split_rest xs row.start (reverse row.starts.items) (vec_len row.items - top) n in_last c.self.invariant.1.0
    ∙ ap (λ v. take (length v.last - n) v.last) c.self.view_is
