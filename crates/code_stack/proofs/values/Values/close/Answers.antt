use Rattle.std.proofs.Common.{◌≤◌, length, subst, arith}
use Rattle.code_stack.specs.Values.{ValuesParts, two_rows, HasClosed, CannotClose}
use Rattle.code_stack.proofs.TopmostLemmas.{by_cases, closed, not_closed}
use Rattle.code_stack.proofs.values.Values.close.Goals as goal

pub returns-clause-done : goal.returns-clause-done
returns-clause-done c =
    let old = c.self.inside.rows.operands in
    let new = c.join.new.self in
    let locals = c.self.inside.rows.locals in
    let enough : c.args.count ≤ length old.last = omega (arith, c.if-len-count.false, c.len.ensures) in
    by_cases c.join.result
    (λ j. subst (λ (v : ValuesParts). HasClosed c.args.skipped c.args.count v (two_rows new locals)) c.self.view_is
    (closed old new locals c.args.skipped c.args.count enough j))
    (λ none. subst (λ (v : ValuesParts). CannotClose c.args.skipped c.args.count v) c.self.view_is
    (not_closed old new locals c.args.skipped c.args.count none.0)) c.join.ensures
