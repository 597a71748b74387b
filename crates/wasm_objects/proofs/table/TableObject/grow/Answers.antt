use Rattle.wasm_objects.specs.Slots.{functions_of}
use Rattle.wasm_objects.proofs.ElementLemmas as more
use Rattle.wasm_objects.proofs.table.TableObject.grow.Goals as goal

pub invariant_of-self : goal.invariant_of-self
invariant_of-self c = (
  more.longer_kept c.self.inside.ty c.self.inside.init (functions_of c.self.inside.functions) c.self.inside.slots.items
      _ c.self.inside.filled c.args.self.now c.self.view_is
      c.args.extra c.args.value c.of.result c.of.ensures c.lengthen.new.items.items c.lengthen.ensures c.self.invariant.0,
  λ e. more.longer_settles c.self.inside.ty c.self.inside.init (functions_of c.self.inside.functions) c.self.inside.slots.items
      _ c.self.inside.filled c.args.self.now c.self.view_is
      c.args.extra c.args.value c.of.result c.of.ensures c.lengthen.new.items.items c.lengthen.ensures (c.self.invariant.1 e),
)

pub returns-clause-longer : goal.returns-clause-longer
returns-clause-longer c =
    more.longer c.self.inside.ty c.self.inside.init (functions_of c.self.inside.functions) c.self.inside.slots.items
    _ c.self.inside.filled c.args.self.now c.self.view_is
    c.args.extra c.args.value c.of.result c.of.ensures c.lengthen.new.items.items c.lengthen.ensures

pub returns-clause-places : goal.returns-clause-places
returns-clause-places c =
    more.longer_places c.self.inside.ty c.self.inside.init (functions_of c.self.inside.functions) c.self.inside.slots.items
    _ c.self.inside.filled c.args.self.now c.self.view_is
    c.args.extra c.args.value c.of.result c.of.ensures c.lengthen.new.items.items c.lengthen.ensures
