use Rattle.wasm_types.proofs.SoundTypeLemmas.{depth_kept}
use Rattle.wasm_types.proofs.value_types.FuncType.depth.Goals as goal

pub returns-clause-bound : goal.returns-clause-bound
returns-clause-bound c = rw c.deref.ensures (depth_kept c.self.inside c.self.invariant)
