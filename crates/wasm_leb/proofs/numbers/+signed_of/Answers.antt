use Rattle.std.proofs.Common.{rules, arith, w64, ◌-◌, FitsSigned}
use Rattle.std.proofs.lemmas.Int.{ints}
use Rattle.wasm_leb.proofs.Powers.{half_by_groups, at_most_56}
use Rattle.wasm_leb.proofs.numbers.+signed_of.Goals as goal

pub with_low-requires-clause-below : goal.with_low-requires-clause-below
with_low-requires-clause-below t c =
    let fits : FitsSigned w64 c.in-Some-signed_of.high = search rules in
    omega (arith, ints, c.in-Some-signed_of.ensures.below, at_most_56 (c.args.bits - 7 - 1) (omega arith))

pub with_low-requires-clause-above : goal.with_low-requires-clause-above
with_low-requires-clause-above t c =
    let fits : FitsSigned w64 c.in-Some-signed_of.high = search rules in
    omega (arith, ints, c.in-Some-signed_of.ensures.above, at_most_56 (c.args.bits - 7 - 1) (omega arith))

pub returns-in-Some-signed_of-clause-below : goal.returns-in-Some-signed_of-clause-below
returns-in-Some-signed_of-clause-below t c =
    let fits : FitsSigned w64 c.in-Some-signed_of.high = search rules in
    let all_fits : FitsSigned w64 c.with_low.result = search rules in
    omega (arith, ints, c.with_low.ensures, c.in-Some-signed_of.ensures.below, half_by_groups c.args.bits (omega arith))

pub returns-in-Some-signed_of-clause-above : goal.returns-in-Some-signed_of-clause-above
returns-in-Some-signed_of-clause-above t c =
    let fits : FitsSigned w64 c.in-Some-signed_of.high = search rules in
    let all_fits : FitsSigned w64 c.with_low.result = search rules in
    omega (arith, ints, c.with_low.ensures, c.in-Some-signed_of.ensures.above, half_by_groups c.args.bits (omega arith))
