use Rattle.std.proofs.Common.{arith}
use Rattle.wasm_objects.specs.Slots.{functions_of}
use Rattle.wasm_objects.proofs.ElementLemmas as one
use Rattle.wasm_objects.proofs.table.TableObject.set.Goals as goal

pub invariant_of-self : goal.invariant_of-self
invariant_of-self c =
    let there = c.if-at-len.false in (
      one.kept c.self.inside.ty c.self.inside.init (functions_of c.self.inside.functions) c.self.inside.slots.items
          _ c.self.inside.filled c.args.self.now c.self.view_is c.args.at
          c.args.value c.of.result c.of.ensures (omega (arith, there, c.len.ensures, c.self.inside.slots.ok.0)) c.self.invariant.0,
      λ e. one.settles c.self.inside.ty c.self.inside.init (functions_of c.self.inside.functions) c.self.inside.slots.items
          _ c.self.inside.filled c.args.self.now c.self.view_is c.args.at
          c.args.value c.of.result c.of.ensures (omega (arith, there, c.len.ensures, c.self.inside.slots.ok.0)) (c.self.invariant.1 e),
    )

pub returns-clause-written : goal.returns-clause-written
returns-clause-written c =
    one.written c.self.inside.ty c.self.inside.init (functions_of c.self.inside.functions) c.self.inside.slots.items
    _ c.self.inside.filled c.args.self.now c.self.view_is c.args.at
    c.args.value c.of.result c.of.ensures

pub returns-clause-places : goal.returns-clause-places
returns-clause-places c =
    one.places c.self.inside.ty c.self.inside.init (functions_of c.self.inside.functions) c.self.inside.slots.items
    _ c.self.inside.filled c.args.self.now c.self.view_is c.args.at
    c.args.value c.of.result c.of.ensures
