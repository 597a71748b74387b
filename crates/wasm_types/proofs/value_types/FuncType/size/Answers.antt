use Rattle.wasm_types.proofs.SoundTypeLemmas.{size_kept}
use Rattle.wasm_types.proofs.value_types.FuncType.size.Goals as goal

pub returns-clause-bound : goal.returns-clause-bound
returns-clause-bound c = rw c.deref.ensures (size_kept c.self.inside c.self.invariant)
