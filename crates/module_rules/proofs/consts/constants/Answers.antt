use Rattle.std.proofs.Common.{sym}
use Rattle.wasm_syntax.proofs.FirstBrokenLemmas.{broken_const}
use Rattle.module_rules.proofs.consts.constants.Goals as goal

pub returns : goal.returns
returns c =
    rw (c.first_there.ensures, c.first_in.ensures, c.first_in-2.ensures, c.first_in-3.ensures, c.first_in-4.ensures)
    (rw (c.as_slice.ensures, c.as_slice-2.ensures, c.as_slice-3.ensures, c.as_slice-4.ensures)
    (sym (broken_const c.args.spaces.now.decl.now)))
