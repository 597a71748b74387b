use Rattle.std.proofs.Common.{rules}
use Rattle.binary_code.proofs.SlotLemmas.{known_kept}
use Rattle.binary_code.proofs.code_types.CodeTypes.keep.Goals as goal

pub invariant_of-self : goal.invariant_of-self
invariant_of-self c =
    known_kept c.self.inside.types c.self.inside.known.items c.in-Some.kind c.args.number c.args.results.now
    c.self.invariant c.in-Some.ensures (search rules)
