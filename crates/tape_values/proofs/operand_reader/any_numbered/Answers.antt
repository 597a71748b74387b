use Rattle.std.proofs.Common.{arith}
use Rattle.script_commands.proofs.References.{any_given}
use Rattle.tape_values.proofs.operand_reader.any_numbered.Goals as goal

pub returns-in-Some : goal.returns-in-Some
returns-in-Some c =
    any_given c.args.number c.in-Some.reference (omega (arith, c.if-number.false)) c.in-Some.ensures.given
