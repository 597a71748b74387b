use Rattle.wasm_tape.specs.Parts.{parts_of}
use Rattle.wasm_tape.proofs.WayBack.{tape_back}
use Rattle.wasm_tape.proofs.tape.Tape.to_value.Goals as goal

pub returns-in-Ok-clause-comes_back : goal.returns-in-Ok-clause-comes_back
returns-in-Ok-clause-comes_back c =
    tape_back c.args.types.now (parts_of c.args.self.now) _ c.in-Ok.ensures.within c.in-Ok.ensures.written
