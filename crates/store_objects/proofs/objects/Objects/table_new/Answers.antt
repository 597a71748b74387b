use Rattle.std.proofs.Common.{◌≡◌, [], ◌∷◌, ◌++◌, ap, sym, ◌∙◌, subst}
use Rattle.wasm_types.specs.SoundTypes.{IsRefSound}
use Rattle.wasm_values.specs.declared.handles.Table.{Table as Handle}
use Rattle.wasm_objects.specs.Tables.{Table, new_table}
use Rattle.spec_machine.specs.Changes.{append_tables}
use Rattle.spec_machine.specs.Growth.{Plan}
use Rattle.spec_machine.specs.Machine.{Machine}
use Rattle.spec_machine.specs.TableCalls.{table_new, raw_given}
use Rattle.law_store.proofs.Tables.{TableNew, table_new_passed, keeps_table_new}
use Rattle.store_state.specs.Parts.{HeldParts}
use Rattle.store_state.specs.Within.{IsTableSized}
use Rattle.store_objects.proofs.GrowthLemmas.{plan_of, new_limits}
use Rattle.store_objects.proofs.StoreLemmas.{new_table_sized}
use Rattle.store_objects.specs.contracts.objects.Objects.{the_view}
use Rattle.spec_machine.specs.WellFormed.{IsWellFormed}
use Rattle.store_objects.proofs.objects.Objects.table_new.Goals as goal

pub add_table-requires : goal.add_table-requires
add_table-requires c =
    let m = c.args.self.now in
    let s : IsWellFormed m = subst IsWellFormed c.self.view_is c.self.invariant in
    let due = plan_of m (table_new m c.args.ty c.args.init) c.requires in
    let p = due.plan in
    subst IsTableSized (sym (c.in_ok-object.ensures.made ∙ ap (new_table c.args.ty) c.raw_given.ensures))
    (new_table_sized m c.args.ty c.args.init p s (new_limits m c.args.ty c.args.init p due.is due.granted)
    (subst IsRefSound c.element-element.ensures c.keeps_rules.ensures) due.is due.granted)

pub invariant_of-self-2 : goal.invariant_of-self-2
invariant_of-self-2 c =
    let m = c.args.self.now in
    let old = c.self.inside.held in
    let after : HeldParts → Machine = λ h. the_view (record c.self.inside { held = h }) in
    let s : IsWellFormed m = subst IsWellFormed c.self.view_is c.self.invariant in
    let due = plan_of m (table_new m c.args.ty c.args.init) c.requires in
    let p = due.plan in
    let q : TableNew m c.args.ty c.args.init p = table_new_passed m c.args.ty c.args.init p due.is in
    let made : Table = new_table c.args.ty (raw_given c.args.init) in
    let held : c.add_table.new.self ≡ record old { tables = old.tables ++ made ∷ [] } =
    c.in_ok-add_table.ensures.ok
    ∙ ap (λ (x : Table). record old { tables = old.tables ++ x ∷ [] })
    (c.in_ok-object.ensures.made ∙ ap (new_table c.args.ty) c.raw_given.ensures) in
    let done : after c.add_table.new.self ≡ p.after =
    ap after held ∙ (ap (λ (k : Machine). append_tables k (made ∷ [])) c.self.view_is
    ∙ ap (λ (r : Plan Handle). r.after) q.is) in
    subst IsWellFormed (sym done)
    (keeps_table_new m c.args.ty c.args.init p s (new_limits m c.args.ty c.args.init p due.is due.granted)
    (subst IsRefSound c.element-element.ensures c.keeps_rules.ensures) due.is due.granted)
