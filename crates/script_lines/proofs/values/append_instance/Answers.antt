use Rattle.std.proofs.Common.{ap, ◌∙◌, ◌++◌, string_bytes}
use Rattle.std.specs.Fmt.{decimal}
use Rattle.std.specs.Prelude.{codes}
use Rattle.script_lines.proofs.values.append_instance.Goals as goal

pub returns-clause-appended : goal.returns-clause-appended
returns-clause-appended c =
    c.in_ok-append_pieces.ensures.appended
    ∙ ap (λ t. string_bytes c.args.text.now ++ (codes "ok instance " ++ t))
    (c.format.ensures.text ∙ ap (λ n. decimal n) c.index.ensures)
