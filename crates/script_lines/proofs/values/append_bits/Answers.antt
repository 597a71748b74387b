use Rattle.std.proofs.Common.{refl}
use Rattle.hex.specs.Hex.{encode_lower}
use Rattle.script_lines.proofs.Beginnings.{at_err, begun_none}
use Rattle.script_lines.proofs.values.append_bits.Goals as goal

pub returns-in_err-digits-clause-short : goal.returns-in_err-digits-clause-short
returns-in_err-digits-clause-short c =
    at_err _ (begun_none c.args.kind.now (encode_lower c.args.bytes.now) _ _ c.requires refl)
