use Rattle.std.proofs.Common.{◌≤◌, ◌-◌, ◌∷◌, length, take, drop, ap, ◌∙◌, subst, arith}
use Rattle.code_stack.specs.Cuts.{row_parts}
use Rattle.code_stack.specs.Values.{ValuesParts, two_rows, HasOpened}
use Rattle.code_stack.proofs.TopmostLemmas.{opened}
use Rattle.code_stack.proofs.values.Values.open.Goals as goal

pub returns-clause-done : goal.returns-clause-done
returns-clause-done c =
    let old = c.self.inside.rows.operands in
    let new = c.split_behind.new.self in
    let locals = c.self.inside.rows.locals in
    let n = c.args.count in
    let enough : n ≤ length old.last = omega (arith, c.if-held-count.false, c.len-held.ensures) in
    subst (λ (v : ValuesParts). HasOpened n v (two_rows new locals)) c.self.view_is
    (opened old new locals n enough
    (c.in_ok-split_behind.ensures.done
    ∙ ap (λ k. row_parts (drop (k - n) old.last) (take (k - n) old.last ∷ old.before) old.room) c.len-held.ensures))
