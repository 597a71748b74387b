use Rattle.std.proofs.Common.{◌≤◌, ◌-◌, refl, ap, ◌∙◌, arith}
use Rattle.std.proofs.lemmas.List.{length-take-le}
use Rattle.std.specs.Prelude.{reverse, vec_len}
use Rattle.code_stack.specs.Cuts.{row_parts}
use Rattle.code_stack.specs.Lending.{left_over}
use Rattle.code_stack.proofs.CutLemmas.{part_of, lent_row}
use Rattle.code_stack.proofs.row.Row.last_mut.Goals as goal

pub returns : goal.returns
returns c =
    let row = c.self.inside in
    let xs = row.items.items in
    let long = length-take-le row.height xs c.self.invariant.0 in
    let low : row.start ≤ row.height = omega (arith, long, c.self.invariant.1.0) in (
      (
        refl,
        λ w. lent_row xs w row.items.len row.start row.height row.items.ok.0 low
            (omega (arith, row.items.ok.0, c.self.invariant.0)) (reverse row.starts.items)
            (vec_len row.items - row.height)
            ∙ ap (λ v. row_parts (left_over v.last w) v.before v.room) c.self.view_is,
      ),
      record {
        lends = tt;
        value = c.slice_mut.ensures.value ∙ part_of xs row.start row.height low ∙ ap (λ v. v.last) c.self.view_is;
      },
    )
