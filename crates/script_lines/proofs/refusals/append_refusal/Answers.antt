use Rattle.std.proofs.Common.{ap, ◌∙◌, ◌++◌, string_bytes}
use Rattle.std.specs.Prelude.{codes}
use Rattle.script_lines.proofs.refusals.append_refusal.Goals as goal

pub returns-in_ok-append_pieces-in-ImportType-clause-appended : goal.returns-in_ok-append_pieces-in-ImportType-clause-appended
returns-in_ok-append_pieces-in-ImportType-clause-appended c =
    rw c.in-ImportType.is (c.in_ok-append_pieces-in-ImportType.ensures.appended
    ∙ ap (λ t. string_bytes c.args.text.now ++ (codes "refused ImportType " ++ t)) c.format.ensures.text)
