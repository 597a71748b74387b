use Rattle.std.proofs.Common.{◌≡◌, length, get_or, set, pos, ap, ◌∙◌, arith}
use Rattle.wasm_objects.specs.declared.raw.RawVal.TheVariants as w
use Rattle.code_stack.proofs.MoveLemmas.{first_copied}
use Rattle.code_stack.proofs.moves.write.Goals as goal

pub returns-in-1-clause-items : goal.returns-in-1-clause-items
returns-in-1-clause-items c =
    let items = c.args.items.now in
    let one : length c.args.values.now ≡ 1 = c.in-1.is in
    first_copied items.items c.copy_value_from.new.values items.len c.args.at (length c.args.values.now) (w.I32 (pos 0))
    items.ok.0 (omega (arith, one, c.requires, items.ok.0)) one c.args.values.now (omega (arith, one))
    (c.copy_value_from.ensures _
    ∙ ap (λ l. set l c.args.at (get_or c.args.values.now 0 (w.I32 (pos 0)))) c.as_mut_slice.ensures.value)
