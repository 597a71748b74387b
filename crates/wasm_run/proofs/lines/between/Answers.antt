use Rattle.std.proofs.Common.{string_bytes}
use Rattle.wasm_run.proofs.BufferLemmas.{notes_between}
use Rattle.wasm_run.proofs.lines.between.Goals as goal

pub returns : goal.returns
returns c = notes_between string_bytes c.args.notes.now c.behind.result.now c.front.result.now c.args.before c.args.count _
    c.behind.ensures c.saturating_sub.ensures c.front.ensures
