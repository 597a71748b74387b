use Rattle.std.proofs.Common.{sym, ◌∙◌}
use Rattle.wasm_call.proofs.GrowthLemmas.{begun, begun_refused, begun_stopped}
use Rattle.wasm_call.proofs.growth.begin.Goals as goal

pub returns-in-Err : goal.returns-in-Err
returns-in-Err g c = λ p e. begun_refused g.T.ResourceLimiter.growths c.args.limit p _ _ _ _ _ e
    c.count_question.ensures c.in-Err.ensures.settles c.in-Err.ensures.machine c.in-Err.ensures.turns
    c.requires.some_turns

pub returns-then-turns-limit : goal.returns-then-turns-limit
returns-then-turns-limit g c = λ p e.
    begun_stopped g.T.ResourceLimiter.growths c.args.limit p _ _ _ _ e c.count_question.ensures
    c.in_default.ensures.settles c.in_default.ensures.machine c.in_default.ensures.turns c.requires.some_turns
    (sym c.turns.ensures ∙ c.if-turns-limit.true)

pub returns : goal.returns
returns g c = λ p e.
    begun g.T.ResourceLimiter.growths c.args.limit p _ _ _ _ e c.count_question.ensures c.in_default.ensures.settles
    c.in_default.ensures.machine c.in_default.ensures.turns c.requires.some_turns
    (λ last. c.if-turns-limit.false (c.turns.ensures ∙ last))
