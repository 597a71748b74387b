use Rattle.binary_code.proofs.BlockLemmas.{numbered_front}
use Rattle.binary_code.proofs.code_types.CodeTypes.reference.Goals as goal

pub keyed_reference-requires : goal.keyed_reference-requires
keyed_reference-requires c =
    numbered_front c.self.inside.types c.self.inside.types c.first.result.now c.args.count (λ _. c.self.inside.types) c.first.ensures
