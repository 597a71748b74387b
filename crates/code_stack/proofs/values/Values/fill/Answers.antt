use Rattle.std.proofs.Common.{◌++◌, ap, ◌∙◌}
use Rattle.std.proofs.lemmas.List.{length-reverse}
use Rattle.std.specs.Prelude.{reverse}
use Rattle.code_stack.specs.Values.{values_parts}
use Rattle.code_stack.proofs.TopmostLemmas.{filled_top}
use Rattle.code_stack.proofs.values.Values.fill.Goals as goal

pub returns : goal.returns
returns c =
    let spare = c.fill.ensures.0 in (
      reverse spare,
      length-reverse spare ∙ c.fill.ensures.1 ∙ ap (λ v. v.room) c.self.view_is,
      filled_top c.self.inside.rows.operands c.fill.new.self c.self.inside.rows.locals spare c.fill.ensures.2
          ∙ ap (λ v. values_parts (reverse spare ++ v.operands) v.locals v.below 0) c.self.view_is,
    )
