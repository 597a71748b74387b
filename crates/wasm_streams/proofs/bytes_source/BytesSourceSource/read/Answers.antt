use Rattle.std.proofs.Common.{Some, ap, arith}
use Rattle.std.proofs.lemmas.List.{take_rest}
use Rattle.wasm_streams.proofs.Joins.{copied_front}
use Rattle.wasm_streams.proofs.bytes_source.BytesSourceSource.read.Goals as goal

pub returns-clause-taken : goal.returns-clause-taken
returns-clause-taken c =
    let d = c.deref-2.ensures.value in
    let count = rw (take_rest, d) at c.copy_front-count.ensures.count in
    let copied = rw (take_rest, d) at c.copy_front-count.ensures.copied in
    rw (← c.self.view_is) (ap (λ xs. Some xs) (copied_front c.self.inside.bytes.items c.args.buffer.now c.copy_front-count.new.target c.self.inside.at c.copy_front-count.result (omega arith) copied))
