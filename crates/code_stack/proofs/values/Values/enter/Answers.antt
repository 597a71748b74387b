use Rattle.std.proofs.Common.{◌≤◌, ◌-◌, length, drop, ap, ◌∙◌, subst, arith}
use Rattle.std.proofs.lemmas.List.{take_rest, length-take-le}
use Rattle.code_stack.specs.Values.{ValuesParts, two_rows, HasEntered}
use Rattle.code_stack.proofs.TopmostLemmas.{entered}
use Rattle.code_stack.proofs.values.Values.enter.Goals as goal

pub returns-clause-done : goal.returns-clause-done
returns-clause-done c =
    let old = c.self.inside.rows.operands in
    let new = c.split_behind.new.self in
    let shorter = c.shorten.new.self in
    let locals = c.self.inside.rows.locals in
    let n = c.args.count in
    let enough : n ≤ length old.last = omega (arith, c.if-held-count.false, c.len-held.ensures) in
    let all : length shorter.last ≤ c.len-held.result - n =
    omega (arith, enough, c.len-held.ensures, ap length c.shorten.ensures.last, length-take-le (length old.last - n) old.last (omega arith)) in
    subst (λ (v : ValuesParts). HasEntered n v (two_rows new c.begin.new.self)) c.self.view_is
    (entered old new locals n shorter c.begin.new.self enough c.shorten.ensures.last c.shorten.ensures.before
    (c.len-held.result - n) all c.in_ok-split_behind.ensures.done
    (c.in_ok-begin.ensures.last ∙ take_rest c.last.result.now (c.len-held.result - n)
    ∙ ap (drop (c.len-held.result - n)) c.last.ensures
    ∙ ap (λ k. drop (k - n) old.last) c.len-held.ensures)
    c.in_ok-begin.ensures.before)
