use Rattle.module_typing.proofs.Walks.{body_fits_to}
use Rattle.module_typing.proofs.walk.body_is_typed.Goals as goal

pub returns-in-Some : goal.returns-in-Some
returns-in-Some c =
    body_fits_to c.ends.result 256 c.new-code.result.spaces.now.decl.now c.args.spaces.now.decl.now
    c.new-code.result.function.now c.args.function.now c.in-Some.body.now c.new-code.ensures.spaces
    c.new-code.ensures.function c.in-Some.ensures c.ends.ensures
