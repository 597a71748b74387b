use Rattle.std.proofs.Common.{sym}
use Rattle.wasm_syntax.proofs.FirstBrokenLemmas.{broken_engine}
use Rattle.module_rules.proofs.engines.engine.Goals as goal

pub returns : goal.returns
returns c =
    rw (c.first_there.ensures, c.first_in.ensures, c.first_in-2.ensures, c.first_in-3.ensures, c.first_in-4.ensures, c.first_in-5.ensures, c.first_in-6.ensures)
    (rw (c.as_slice.ensures, c.as_slice-2.ensures, c.as_slice-3.ensures, c.as_slice-4.ensures, c.as_slice-5.ensures, c.as_slice-6.ensures)
    (sym (broken_engine c.args.decl.now)))
