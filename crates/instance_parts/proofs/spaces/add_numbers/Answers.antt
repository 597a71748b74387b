use Rattle.std.proofs.Common.{[], ◌∷◌, ◌++◌, ap, ◌∙◌}
use Rattle.instance_parts.proofs.ListLemmas.{from_more_behind}
use Rattle.instance_parts.proofs.spaces.add_numbers.Goals as goal

pub loop-number-preserved : goal.loop-number-preserved
loop-number-preserved c =
    let n = c.loop-number.number in
    c.in_ok-push.ensures.items
    ∙ ap (λ l. l ++ n ∷ []) c.loop-number.invariant
    ∙ from_more_behind _ c.args.first n c.loop-number.auto.number
