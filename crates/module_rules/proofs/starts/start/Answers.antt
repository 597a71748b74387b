use Rattle.std.proofs.Common.{sym, ◌∙◌}
use Rattle.wasm_syntax.proofs.FirstBrokenLemmas.{broken_start}
use Rattle.module_rules.proofs.FirstItemLemmas.{only_one}
use Rattle.module_rules.proofs.starts.start.Goals as goal

pub returns : goal.returns
returns c = rw c.unfit_start.ensures (sym (broken_start c.args.spaces.now.decl.now ∙ only_one _))
