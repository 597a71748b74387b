use Rattle.std.specs.Rc.{rc_slice_items}
use Rattle.wasm_objects.proofs.ElementLemmas.{lazy_made, lazy_places}
use Rattle.wasm_objects.proofs.table.TableObject.try_new_lazy.Goals as goal

pub returns-clause-made : goal.returns-clause-made
returns-clause-made c =
    lazy_made c.args.ty c.args.init (rc_slice_items c.args.functions) (rc_slice_items c.args.image) c.as_slice.result.now
    c.in_ok-slots.slots.items c.open_cells.new.slots.items c.lengthen.new.items.items c.minimum-size.result c.len.result
    c.in_ok-slots.ensures.items c.as_slice.ensures.value c.open_cells.ensures.cells c.lengthen.ensures
    c.minimum-size.ensures.value c.len.ensures

pub returns-clause-places : goal.returns-clause-places
returns-clause-places c =
    lazy_places c.args.ty c.args.init (rc_slice_items c.args.functions) (rc_slice_items c.args.image) c.as_slice.result.now
    c.in_ok-slots.slots.items c.open_cells.new.slots.items c.lengthen.new.items.items c.minimum-size.result c.len.result
    c.in_ok-slots.ensures.items c.as_slice.ensures.value c.open_cells.ensures.cells c.lengthen.ensures
    c.minimum-size.ensures.value c.len.ensures c.requires.fits
