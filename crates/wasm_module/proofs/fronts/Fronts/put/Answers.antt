use Rattle.std.proofs.Common.{ap, sym, ◌∙◌}
use Rattle.std.specs.Prelude.{length, vec_items}
use Rattle.std.specs.List.{sum_by}
use Rattle.wasm_module.proofs.FrontLemmas.{image_there, put_same, put_behind}
use Rattle.wasm_module.proofs.fronts.Fronts.put.Goals as goal

pub invariant_of-self : goal.invariant_of-self
invariant_of-self g c =
    let same = put_same vec_items c.self.inside.fronts.items c.args.self.now c.self.view_is c.args.number
    c.index_mut.result.now c.requires.there c.index_mut.ensures.value c.write_front.new.front
    c.in_err-write_front.ensures.unchanged in
    c.self.invariant ∙ ap (sum_by length) (c.self.view_is ∙ sym same)

pub invariant_of-self-2 : goal.invariant_of-self-2
invariant_of-self-2 g c =
    let images = c.args.self.now in
    let fronts = c.self.inside.fronts.items in
    let front = c.index_mut.result.now in
    let stood = image_there vec_items fronts images c.self.view_is c.args.number front c.requires.there c.index_mut.ensures.value in
    let is = put_behind vec_items fronts images c.self.view_is c.args.number front c.requires.there c.index_mut.ensures.value
    c.args.blank c.args.at c.args.piece.now front.items c.write_front.new.front stood c.in_ok-write_front.ensures.written in
    c.total_behind-total.ensures c.args.blank front.items stood ∙ ap (sum_by length) (sym is)

pub returns : goal.returns
returns g c = λ image got.
    put_behind vec_items c.self.inside.fronts.items c.args.self.now c.self.view_is c.args.number c.index_mut.result.now
    c.requires.there c.index_mut.ensures.value c.args.blank c.args.at c.args.piece.now image c.write_front.new.front got
    c.in_ok-write_front.ensures.written
