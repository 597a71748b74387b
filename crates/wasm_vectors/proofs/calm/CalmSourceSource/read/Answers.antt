use Rattle.std.proofs.Common.{rules}
use Rattle.wasm_vectors.proofs.BufferLemmas.{first_taken}
use Rattle.wasm_vectors.proofs.calm.CalmSourceSource.read.Goals as goal

-- src/calm.rt:37:5
pub returns-clause-taken : goal.returns-clause-taken
returns-clause-taken c = first_taken c.args.self.now.rest.now c.args.buffer.now c.in-Some.rest.now c.in-Some.byte.now (search rules) (search rules)
