use Rattle.std.proofs.Common.{◌*◌, ap, inl, inr, arith}
use Rattle.wasm_module.proofs.leading.first_size.Goals as goal

pub returns-clause-small : goal.returns-clause-small
returns-clause-small c =
    elim c.page_size.ensures.one_of_two [
      | inl one ↦ omega (arith, c.minimum.ensures.within, ap (λ k. c.minimum.result * k) one)
      | inr most ↦ omega (arith, c.minimum.ensures.within, ap (λ k. c.minimum.result * k) most)
    ]
