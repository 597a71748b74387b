use Rattle.std.proofs.Common.{sym, ◌∙◌}
use Rattle.wasm_syntax.proofs.FirstBrokenLemmas.{broken_element}
use Rattle.module_rules.proofs.FirstItemLemmas.{only_one}
use Rattle.module_rules.proofs.elements.element.Goals as goal

pub returns : goal.returns
returns c =
    rw (c.first_in.ensures, c.as_slice.ensures) (sym (broken_element c.args.spaces.now.decl.now ∙ only_one _))
