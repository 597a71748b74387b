use Rattle.std.proofs.Common.{ap, sym, ◌∙◌, arith}
use Rattle.std.specs.Prelude.{length, vec_items}
use Rattle.std.specs.List.{sum_by}
use Rattle.wasm_types.specs.Ranges.{written}
use Rattle.wasm_module.proofs.FrontLemmas.{part_of_all, image_there, some_is, together}
use Rattle.wasm_module.proofs.fronts.Fronts.total_behind.Goals as goal

pub overflow_sub-result : goal.overflow_sub-result
overflow_sub-result g c =
    let images = c.args.self.now in
    let front = c.index.result.now in
    let stood = image_there vec_items c.self.inside.fronts.items images c.self.view_is c.args.number front c.requires.there
    c.index.ensures in
    omega (
      arith,
      c.self.invariant,
      ap (sum_by length) c.self.view_is,
      part_of_all images c.args.number front.items stood,
      ap length c.as_slice-front.ensures.value,
    )

pub overflow_add-result : goal.overflow_add-result
overflow_add-result g c =
    omega (
      arith,
      c.self.invariant,
      ap (sum_by length) c.self.view_is,
      c.requires.limited,
      c.length_behind-behind.ensures.small,
    )

pub returns : goal.returns
returns g c = λ blank image got.
    let images = c.args.self.now in
    let front = c.index.result.now in
    let stood = image_there vec_items c.self.inside.fronts.items images c.self.view_is c.args.number front c.requires.there
    c.index.ensures in
    let same = some_is front.items image (sym stood ∙ got) in
    let long = ap length c.as_slice-front.ensures.value in
    let behind = c.length_behind-behind.ensures.behind blank
    ∙ ap (λ l. length (written blank c.args.at c.args.piece.now l)) (c.as_slice-front.ensures.value ∙ same) in
    omega (
      arith,
      c.self.invariant,
      ap (sum_by length) c.self.view_is,
      part_of_all images c.args.number image got,
      together blank images c.args.number c.args.at c.args.piece.now image got,
      long,
      ap length same,
      behind,
    )
