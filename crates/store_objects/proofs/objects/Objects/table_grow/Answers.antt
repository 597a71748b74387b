use Rattle.std.proofs.Common.{◌≡◌, ℕ, set, ap, sym, ◌∙◌, subst}
use Rattle.std.specs.Prelude.{Some, slice_get}
use Rattle.wasm_values.specs.Handles.{table_index}
use Rattle.wasm_objects.specs.Growth.{longer_table}
use Rattle.wasm_objects.specs.Tables.{Table}
use Rattle.wasm_objects.specs.declared.raw.RawRef.{RawRef}
use Rattle.spec_machine.specs.Growth.{Plan}
use Rattle.spec_machine.specs.Machine.{Machine}
use Rattle.spec_machine.specs.TableCalls.{table_grow, raw_given, with_table}
use Rattle.law_store.proofs.Tables.{TableGrow, table_grow_passed, keeps_table_grow}
use Rattle.store_state.specs.Parts.{HeldParts}
use Rattle.store_objects.proofs.GrowthLemmas.{plan_of}
use Rattle.store_objects.proofs.StoreLemmas.{table_may_grow}
use Rattle.store_objects.specs.contracts.objects.Objects.{the_view}
use Rattle.spec_machine.specs.WellFormed.{IsWellFormed}
use Rattle.store_objects.proofs.objects.Objects.table_grow.Goals as goal

pub grow_table-requires-clause-may_grow : goal.grow_table-requires-clause-may_grow
grow_table-requires-clause-may_grow c = λ x found.
    let m = c.args.self.now in
    let due = plan_of m (table_grow m c.args.table c.args.delta c.args.init) c.requires in
    table_may_grow m c.args.table c.args.delta c.args.init due.plan due.is due.granted x
    (subst (λ (k : Machine). slice_get k.tables (table_index c.args.table) ≡ Some x) c.self.view_is
    (subst (λ (i : ℕ). slice_get c.self.inside.held.tables i ≡ Some x) c.index.ensures found))

pub invariant_of-self-2 : goal.invariant_of-self-2
invariant_of-self-2 c =
    let m = c.args.self.now in
    let at : ℕ = table_index c.args.table in
    let old = c.self.inside.held in
    let after : HeldParts → Machine = λ h. the_view (record c.self.inside { held = h }) in
    let s : IsWellFormed m = subst IsWellFormed c.self.view_is c.self.invariant in
    let due = plan_of m (table_grow m c.args.table c.args.delta c.args.init) c.requires in
    let p = due.plan in
    let q : TableGrow m c.args.table c.args.delta c.args.init p =
    table_grow_passed m c.args.table c.args.delta c.args.init p due.is in
    let y : RawRef → Table = λ r. longer_table q.object c.args.delta r in
    let found : slice_get old.tables c.index.result ≡ Some q.object =
    ap (slice_get old.tables) c.index.ensures ∙ subst (λ (k : Machine). slice_get k.tables at ≡ Some q.object)
    (sym c.self.view_is) q.found in
    let held : c.grow_table.new.self ≡ record old { tables = set old.tables at (y (raw_given c.args.init)) } =
    c.in_ok-grow_table.ensures.ok q.object found
    ∙ (ap (λ (i : ℕ). record old { tables = set old.tables i (y c.raw_given.result) }) c.index.ensures
    ∙ ap (λ (r : RawRef). record old { tables = set old.tables at (y r) }) c.raw_given.ensures) in
    let done : after c.grow_table.new.self ≡ p.after =
    ap after held ∙ (ap (λ (k : Machine). with_table k c.args.table (y (raw_given c.args.init))) c.self.view_is
    ∙ ap (λ (r : Plan ℕ). r.after) q.is) in
    subst IsWellFormed (sym done)
    (keeps_table_grow m c.args.table c.args.delta c.args.init p s due.is due.granted)
