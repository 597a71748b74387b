use Rattle.std.proofs.Common.{◌≡◌, get_or, set, pos, ap, ◌∙◌, arith}
use Rattle.wasm_objects.specs.declared.raw.RawVal.TheVariants as w
use Rattle.code_stack.proofs.MoveLemmas.{own_copied}
use Rattle.code_stack.proofs.moves.copy_within.Goals as goal

pub returns-in-1-clause-items : goal.returns-in-1-clause-items
returns-in-1-clause-items c =
    let items = c.args.items.now in
    let one : c.args.count ≡ 1 = c.in-1.is in
    own_copied items.items c.copy_value.new.values items.len c.args.at c.args.count (w.I32 (pos 0))
    items.ok.0 (omega (arith, one, c.requires.there, items.ok.0)) one c.args.place
    (omega (arith, one, c.requires.found, items.ok.0))
    (c.copy_value.ensures _
    ∙ ap (λ l. set l c.args.at (get_or l c.args.place (w.I32 (pos 0)))) c.as_mut_slice.ensures.value)
