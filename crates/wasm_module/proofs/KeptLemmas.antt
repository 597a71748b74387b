-- What is left of a number where segments take away what they hold, one by one.
use Rattle.std.proofs.Common.{◌≡◌, ℕ, ◌+◌, ◌-◌, ◌*◌, ◌^◌, ◌≤◌, ◌<◌, List, ◌∷◌, ap, ◌∙◌, arith}
use Rattle.std.specs.Prelude.{min}
use Rattle.std.specs.List.{sum_by}
use Rattle.std.proofs.lemmas.List.Sums.{sum_by-cons}

-- what is left of a number behind one segment more
pub one_less : {Segment : Type 0} (held : Segment → ℕ) (first : Segment) (tail rest : List Segment) (number left eightfold after all : ℕ) →
    rest ≡ first ∷ tail → left - 8 * sum_by held rest ≡ all → left ≤ number → number < 2 ^ 64 →
    eightfold ≡ min (held first * 8) (2 ^ 64 - 1) → after ≡ left - eightfold → after - 8 * sum_by held tail ≡ all
one_less held first tail rest number left eightfold after all is so less fits taken behind =
    let sums : sum_by held rest ≡ held first + sum_by held tail = ap (sum_by held) is ∙ sum_by-cons held first tail in
    omega (arith, sums, so, less, fits, taken, behind)
