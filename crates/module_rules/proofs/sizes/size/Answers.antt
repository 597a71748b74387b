use Rattle.std.proofs.Common.{sym}
use Rattle.wasm_syntax.proofs.FirstBrokenLemmas.{broken_size}
use Rattle.module_rules.proofs.sizes.size.Goals as goal

pub returns : goal.returns
returns c =
    rw (c.first_there.ensures, c.first_past.ensures, c.first_past-2.ensures, c.first_in_long.ensures, c.first_past-3.ensures, c.first_past-4.ensures, c.first_past-5.ensures, c.first_past-6.ensures, c.first_past-7.ensures, c.first_in_long-2.ensures, c.first_in_long-3.ensures)
    (rw (c.as_slice.ensures, c.as_slice-2.ensures, c.as_slice-3.ensures, c.as_slice-4.ensures, c.as_slice-5.ensures, c.as_slice-6.ensures, c.as_slice-7.ensures, c.as_slice-8.ensures, c.as_slice-9.ensures, c.as_slice-10.ensures)
    (sym (broken_size c.args.decl.now)))
