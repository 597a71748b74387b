use Rattle.std.proofs.Common.{◌<◌, length, ap, sym, ◌∙◌, subst, arith}
use Rattle.std.specs.Prelude.{Some, option_map}
use Rattle.wasm_objects.specs.Growth.{TableObjectParts}
use Rattle.store_state.proofs.ChangeLemmas.{found_there, known, kept, put_same}
use Rattle.store_state.specs.Lists.{element_at}
use Rattle.store_state.specs.Within.{IsTableSized}
use Rattle.store_state.proofs.tables.ObjectList+TableObject.look_up.Goals as goal

there : (c : goal.After-self-1) → c.args.number < length c.args.self.now
there c = omega (arith, c.if-number-len.false, c.len.ensures)

pub invariant_of-self : goal.invariant_of-self
invariant_of-self c =
    let x = c.index_mut.result.now in
    kept (λ (h : TableObjectParts). h.table) c.self.inside.objects.items c.args.self.now c.self.view_is c.args.number x
    (there c) c.index_mut.ensures.value IsTableSized c.get.new.self
    (subst IsTableSized (sym c.get.ensures.unchanged)
    (known (λ (h : TableObjectParts). h.table) c.self.inside.objects.items c.args.self.now c.self.view_is c.args.number x
    (there c) c.index_mut.ensures.value IsTableSized c.self.invariant))
    c.self.invariant

pub returns-clause-value : goal.returns-clause-value
returns-clause-value c =
    ap Some c.get.ensures.value
    ∙ sym (ap (option_map (element_at c.args.at))
    (found_there (λ (h : TableObjectParts). h.table) c.self.inside.objects.items c.args.self.now c.self.view_is
    c.args.number c.index_mut.result.now (there c) c.index_mut.ensures.value))

pub returns-clause-same : goal.returns-clause-same
returns-clause-same c =
    put_same (λ (h : TableObjectParts). h.table) c.self.inside.objects.items c.args.self.now c.self.view_is c.args.number
    c.index_mut.result.now (there c) c.index_mut.ensures.value c.get.new.self c.get.ensures.unchanged
