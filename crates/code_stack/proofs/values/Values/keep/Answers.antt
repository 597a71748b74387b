use Rattle.std.proofs.Common.{◌≤◌, ◌+◌, ◌-◌, length, drop, ap, ◌∙◌, arith}
use Rattle.std.proofs.lemmas.List.{length-reverse}
use Rattle.code_stack.specs.Values.{values_parts}
use Rattle.code_stack.proofs.TopmostLemmas.{kept_bottom}
use Rattle.code_stack.proofs.values.Values.keep.Goals as goal

pub returns : goal.returns
returns c =
    let old = c.self.inside.rows.operands in
    let n = c.args.count in
    let enough : n ≤ length old.last =
    omega (arith, c.requires, ap (λ v. length v.operands) c.self.view_is, length-reverse old.last) in
    kept_bottom old c.keep.new.self c.self.inside.rows.locals n enough c.keep.ensures
    ∙ ap (λ v. values_parts (drop (length v.operands - n) v.operands) v.locals v.below
    (v.room + (length v.operands - n))) c.self.view_is
