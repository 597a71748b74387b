use Rattle.binary_code.proofs.SlotLemmas.{known_pushed}
use Rattle.binary_code.proofs.code_types.CodeTypes.add.Goals as goal

pub invariant_of-self : goal.invariant_of-self
invariant_of-self c =
    known_pushed c.self.inside.types c.replace-types.result c.in-Ok.types c.args.ty c.self.inside.known.items
    c.replace-types.ensures.value c.in-Ok.ensures c.self.invariant
