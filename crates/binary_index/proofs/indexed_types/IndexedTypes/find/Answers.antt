use Rattle.std.proofs.Common.{◌∙◌}
use Rattle.binary_index.proofs.IndexLemmas.{first_found}
use Rattle.binary_index.proofs.indexed_types.IndexedTypes.find.Goals as goal

pub returns : goal.returns
returns c = λ t is.
    c.get.ensures
    ∙ first_found c.self.inside.types.items c.args.self.now c.self.inside.firsts.items c.self.inside.index t c.args.key.now c.as_slice.result.now
    c.self.invariant c.self.view_is c.as_slice.ensures is
