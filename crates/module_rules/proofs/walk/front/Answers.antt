use Rattle.std.proofs.Common.{sym, arith}
use Rattle.std.proofs.lemmas.List.{length-take-le, take_all}
use Rattle.module_rules.proofs.walk.front.Goals as goal

pub slice_bounds-result-end : goal.slice_bounds-result-end
slice_bounds-result-end g c = sym (length-take-le 1000000 c.args.items.now (omega (arith, c.if-items-gt-MOST_ITEMS.true)))

pub returns-else-items-gt-MOST_ITEMS-clause-items : goal.returns-else-items-gt-MOST_ITEMS-clause-items
returns-else-items-gt-MOST_ITEMS-clause-items g c = sym (take_all 1000000 c.args.items.now c.if-items-gt-MOST_ITEMS.false)

pub returns-then-items-gt-MOST_ITEMS-clause-short : goal.returns-then-items-gt-MOST_ITEMS-clause-short
returns-then-items-gt-MOST_ITEMS-clause-short g c =
    omega (arith, length-take-le 1000000 c.args.items.now (omega (arith, c.if-items-gt-MOST_ITEMS.true)))
