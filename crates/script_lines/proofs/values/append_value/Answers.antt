use Rattle.std.proofs.Common.{List, ℕ, ap, subst, ◌∙◌, ◌++◌, string_bytes}
use Rattle.std.specs.Int.{w128, to_be_bytes}
use Rattle.std.specs.Prelude.{codes}
use Rattle.hex.specs.Hex.{encode_lower}
use Rattle.script_lines.specs.Lines.{Begun}
use Rattle.script_lines.proofs.Beginnings.{at_err}
use Rattle.script_lines.proofs.values.append_value.Goals as goal

pub returns-in_err-append_bits-in-V128-clause-short : goal.returns-in_err-append_bits-in-V128-clause-short
returns-in_err-append_bits-in-V128-clause-short c =
    let P : List ℕ → Type 0 = λ bytes.
    Begun (codes "v128:" ++ encode_lower bytes) (string_bytes c.args.text.now)
    (string_bytes c.append_bits-in-V128.new.text) in
    let short : P (to_be_bytes w128 c.in-V128.vector.0) =
    subst P c.to_be_bytes-in-V128.ensures c.in_err-append_bits-in-V128.ensures.short in
    rw c.in-V128.is (at_err _ short)

pub returns-in_ok-append_bits-in-V128-clause-appended : goal.returns-in_ok-append_bits-in-V128-clause-appended
returns-in_ok-append_bits-in-V128-clause-appended c =
    rw c.in-V128.is (c.in_ok-append_bits-in-V128.ensures.appended
    ∙ ap (λ bytes. string_bytes c.args.text.now ++ (codes "v128:" ++ encode_lower bytes))
    c.to_be_bytes-in-V128.ensures)
