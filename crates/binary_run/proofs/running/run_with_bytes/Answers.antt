use Rattle.std.proofs.Common.{ℕ, List, ap, ◌∙◌}
use Rattle.spec_machine.specs.declared.reply.Reply.{Reply}
use Rattle.binary_run.specs.Bytes.{first_part, second_part, third_part, pointer_in, region_in}
use Rattle.binary_run.specs.declared.parts.Region.{Region}
use Rattle.binary_run.proofs.StartLemmas.{runs_with_bytes}
use Rattle.binary_run.proofs.running.run_with_bytes.Goals as goal

pub returns-clause-ran : goal.returns-clause-ran
returns-clause-ran g c = runs_with_bytes _ _ _ _ _ _ _ _ _ _ _ _ _ _ _ _
    (c.in_ok-makes_room.ensures ∙ ap (λ (n : ℕ). first_part c.args.name.now n) c.len.ensures)
    (c.in_ok-calls.ensures
    ∙ ap (λ (at : ℕ). second_part at c.args.bytes c.args.arguments.items)
    (c.pointer_in.ensures ∙ ap (λ (rs : List Reply). pointer_in rs) c.as_slice.ensures))
    (c.in_ok-reads.ensures
    ∙ ap (λ (r : Region). third_part r)
    (c.region_in.ensures ∙ ap (λ (rs : List Reply). region_in rs) c.as_slice-2.ensures))
    c.new-replies.ensures c.in_ok-run_more.ensures.ran c.in_ok-run_more-2.ensures.ran c.in_ok-run_more-3.ensures.ran
