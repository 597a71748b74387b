-- What is outside is that of a call whatever is asked.
use Rattle.std.proofs.Common.{List, [], ◌∷◌, sym, subst}
use Rattle.spec_execution.specs.Askings.{Question, Answer, Asking, Chain}
use Rattle.code_run.specs.Asking.{Moving}
use Rattle.code_hosts.specs.Contexts.{moves_in}
use Rattle.code_hosts.specs.declared.context.RunContext.{RunContext}

-- along each row of questions and answers
pub stays_along : {W : Type 0} (asks : Moving W) (fits : W → RunContext → Type 0) →
    ((old : W) (q : Question) (a : Answer) (new : W) (c : RunContext) → asks old q a new → fits old c → fits new c) →
    (c : RunContext) (old : W) (heard : List Asking) (new : W) → Chain (moves_in c asks) old heard new → fits old c →
    fits new c
stays_along asks fits stays c old [] new e x = subst (λ w. fits w c) (sym e) x
stays_along asks fits stays c old (asking ∷ heard) new m x =
    stays_along asks fits stays c m.0 heard new m.2 (stays old asking.0 asking.1 m.0 c m.1.2 x)
