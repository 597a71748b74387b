use Rattle.std.proofs.Common.{sym}
use Rattle.binary_code.proofs.Owed.{byte_failed, goes_on, no_byte, no_form_at}
use Rattle.binary_code.proofs.nesting.Nesting.go_on.Goals as goal

pub returns-in-Some : goal.returns-in-Some
returns-in-Some c m outer due =
    c.go_on_by.ensures m outer
    (goes_on c.args.context m c.args.self.now c.args.input.now c.byte.new.input c.in-Ok.code c.in-Some.form outer due c.in-Ok.ensures (sym c.in-Some.ensures))

pub returns-in-None : goal.returns-in-None
returns-in-None c m outer due =
    no_form_at c.args.context m c.args.self.now c.args.input.now c.byte.new.input c.in-Ok.code c.at-at.result c.from.result outer due
    c.in-Ok.ensures (sym c.in-None.ensures) c.at-at.ensures c.from.ensures

pub returns-in-Err : goal.returns-in-Err
returns-in-Err c m outer due =
    byte_failed c.args.context m outer c.args.input.now c.in-Err.fault c.args.self.now c.byte.new.input _ c.in-Err.ensures
    (no_byte c.args.context m c.args.self.now c.args.input.now outer c.in-Err.fault due)
