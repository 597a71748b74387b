use Rattle.std.proofs.Common.{arith}
use Rattle.wasm_leb.proofs.Powers.{power_by_groups, at_most_64}
use Rattle.wasm_leb.proofs.numbers.+unsigned_of.Goals as goal

pub overflow_mul-result : goal.overflow_mul-result
overflow_mul-result t c =
    omega (arith, c.in-Some.ensures.bound, power_by_groups c.args.bits (omega arith), at_most_64 c.args.bits (omega arith))

pub overflow_add-result-in-Some : goal.overflow_add-result-in-Some
overflow_add-result-in-Some t c =
    omega (arith, c.in-Some.ensures.bound, power_by_groups c.args.bits (omega arith), at_most_64 c.args.bits (omega arith))
