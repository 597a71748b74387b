use Rattle.std.proofs.Common.{◌≡◌, ℕ, List, [], ◌∷◌, ◌++◌, ap, ◌∙◌}
use Rattle.spec_machine.specs.Machine.{Function, guest}
use Rattle.instance_parts.proofs.ListLemmas.{from_more_mapped}
use Rattle.instance_parts.proofs.objects.new_functions.Goals as goal

pub loop-number-preserved : goal.loop-number-preserved
loop-number-preserved c =
    let n : ℕ = c.loop-number.number in
    let i : ℕ = c.args.instance in
    let done : List Function = c.loop-number.made.items in
    let pushed : c.push.new.self.items ≡ done ++ guest i n ∷ [] =
    c.in_ok-push.ensures.items ∙ ap (λ (f : Function). done ++ f ∷ []) c.guest.ensures in
    pushed ∙ ap (λ (l : List Function). l ++ guest i n ∷ []) c.loop-number.invariant ∙ from_more_mapped (guest i) n
