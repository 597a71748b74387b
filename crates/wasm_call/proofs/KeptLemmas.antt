-- What no operation changes: the id and the engine, the functions and the instances, and whom the store asks.
use Rattle.std.proofs.Common.{◌≡◌, ℕ, ℤ, List, [], ◌++◌, Option, Some, None, refl, sym, subst}
use Rattle.std.specs.Prelude.{Result, Ok, Err}
use Rattle.wasm_types.specs.GlobalTypes.{GlobalParts}
use Rattle.wasm_types.specs.Memories.{Memory}
use Rattle.wasm_types.specs.Signatures.{Signature}
use Rattle.wasm_types.specs.TableTypes.{TableParts}
use Rattle.wasm_types.specs.declared.faults.OutOfMemory.{OutOfMemory as NoMemory}
use Rattle.wasm_values.specs.Values.{val_ref}
use Rattle.wasm_values.specs.declared.handles.Global.{Global as GlobalHandle}
use Rattle.wasm_values.specs.declared.handles.Memory.{Memory as MemoryHandle}
use Rattle.wasm_values.specs.declared.handles.Table.{Table as TableHandle}
use Rattle.wasm_values.specs.declared.handles.Tag.{Tag}
use Rattle.wasm_values.specs.declared.references.Ref.{Ref}
use Rattle.wasm_values.specs.declared.refusals.Refusal.{Refusal}
use Rattle.wasm_values.specs.declared.values.Val.{Val}
use Rattle.wasm_objects.specs.Globals.{Global}
use Rattle.wasm_objects.specs.Tables.{Table}
use Rattle.spec_machine.specs.Commands.{Row, reads, changes, makes, grows, named, operation}
use Rattle.spec_machine.specs.FuelCalls.{fill_fuel, yield_interval}
use Rattle.spec_machine.specs.GlobalCalls.{global_new, global_set, tag_new}
use Rattle.spec_machine.specs.Growth.{Plan}
use Rattle.spec_machine.specs.Machine.{Machine}
use Rattle.spec_machine.specs.MemoryCalls.{memory_write, memory_grow}
use Rattle.spec_machine.specs.Names.{Scope, named_memory, named_table, named_global, named_instance, operand_value}
use Rattle.spec_machine.specs.TableCalls.{table_new, table_set, table_fill, table_grow, table_copy}
use Rattle.spec_machine.specs.declared.command.Command.TheVariants as command
use Rattle.spec_machine.specs.declared.operation.Op.{Op}
use Rattle.spec_machine.specs.declared.operation.Op.TheVariants.{MemoryNew, MemoryRead, MemoryWrite, MemorySize, MemoryGrow, TableNew, TableGet, TableSet, TableSize, TableGrow, TableCopy, TableFill, GlobalNew, GlobalGet, GlobalSet, TagNew, GetExport, GetFuel, SetFuel, YieldInterval, SetEpochDeadline, Call}
use Rattle.spec_machine.specs.declared.reply.Reply.{Reply}
use Rattle.spec_execution.specs.Askings.{answers_in}
use Rattle.spec_execution.specs.Outcomes.{World}
use Rattle.law_store.specs.Rows.{LeavesBy, RunsNoCode}
use Rattle.law_store.proofs.Globals.{global_set_passed, global_new_passed, tag_new_passed}
use Rattle.law_store.proofs.Memories.{memory_write_passed, memory_grow_passed}
use Rattle.law_store.proofs.Meters.{fill_fuel_is, yield_interval_is}
use Rattle.law_store.proofs.Tables.{table_set_passed, table_fill_passed, TableCopy as TableCopied, table_copy_passed, table_new_passed, table_grow_passed}
use Rattle.wasm_call.specs.Operating.{KeepsRead}
use Rattle.wasm_call.specs.Outcomes.{PerformedWithin}
use Rattle.wasm_call.specs.Outside.{Moving, Surrounded}
use Rattle.wasm_call.proofs.Plain.{codeless, In, in_codeless}

module _ (m : Machine) where
  -- other objects, fuel and deadline
  pub kept : (memories : List Memory) (tables : List Table) (globals : List Global) (tags : List Signature) (fuel : ℤ)
      (deadline : ℕ) → KeepsRead m (record m {
        memories = memories;
        tables = tables;
        globals = globals;
        tags = tags;
        fuel = fuel;
        deadline = deadline;
      })
  kept memories tables globals tags fuel deadline = record {
    id_is = refl;
    engine_is = refl;
    functions_are = refl;
    instances_are = refl;
    limited_is = refl;
    hooked_is = refl;
    behaving_is = refl;
  }

  pub kept_all : KeepsRead m m
  kept_all = kept m.memories m.tables m.globals m.tags m.fuel m.deadline

  -- ---- by each call that changes objects

  memory_grown : (h : MemoryHandle) (delta : ℕ) (p : Plan ℕ) → memory_grow m h delta ≡ Ok p → KeepsRead m p.after
  memory_grown h delta p e =
      subst (λ (q : Plan ℕ). KeepsRead m q.after) (memory_grow_passed m h delta p e).is (kept _ _ _ _ _ _)

  memory_written : (h : MemoryHandle) (at : ℕ) (bytes : List ℕ) (after : Machine) →
      memory_write m h at bytes ≡ Ok after → KeepsRead m after
  memory_written h at bytes after e =
      subst (KeepsRead m) (memory_write_passed m after h at bytes e).is (kept _ _ _ _ _ _)

  table_made : (ty : TableParts) (init : Option Ref) (p : Plan TableHandle) → table_new m ty init ≡ Ok p →
      KeepsRead m p.after
  table_made ty init p e =
      subst (λ (q : Plan TableHandle). KeepsRead m q.after) (table_new_passed m ty init p e).is (kept _ _ _ _ _ _)

  table_grown : (h : TableHandle) (delta : ℕ) (init : Option Ref) (p : Plan ℕ) → table_grow m h delta init ≡ Ok p →
      KeepsRead m p.after
  table_grown h delta init p e =
      subst (λ (q : Plan ℕ). KeepsRead m q.after) (table_grow_passed m h delta init p e).is (kept _ _ _ _ _ _)

  table_was_set : (h : TableHandle) (at : ℕ) (val : Option Ref) (after : Machine) → table_set m h at val ≡ Ok after →
      KeepsRead m after
  table_was_set h at val after e =
      subst (KeepsRead m) (table_set_passed m after h at val e).is (kept _ _ _ _ _ _)

  table_filled : (h : TableHandle) (at : ℕ) (val : Option Ref) (len : ℕ) (after : Machine) →
      table_fill m h at val len ≡ Ok after → KeepsRead m after
  table_filled h at val len after e =
      subst (KeepsRead m) (table_fill_passed m after h at val len e).is (kept _ _ _ _ _ _)

  table_copied : (dst : TableHandle) (dst_at : ℕ) (src : TableHandle) (src_at len : ℕ) (after : Machine) →
      table_copy m dst dst_at src src_at len ≡ Ok after → KeepsRead m after
  table_copied dst dst_at src src_at len after e =
      let p : TableCopied m dst dst_at src src_at len after = table_copy_passed m dst dst_at src src_at len after e in
      subst (KeepsRead m) p.is (kept _ _ _ _ _ _)

  global_made : (ty : GlobalParts) (val : Val) (made : Machine × GlobalHandle) → global_new m ty val ≡ Ok made →
      KeepsRead m made.0
  global_made ty val made e =
      subst (λ (d : Machine × GlobalHandle). KeepsRead m d.0) (global_new_passed m ty val made e).is (kept _ _ _ _ _ _)

  global_was_set : (h : GlobalHandle) (val : Val) (after : Machine) → global_set m h val ≡ Ok after → KeepsRead m after
  global_was_set h val after e = subst (KeepsRead m) (global_set_passed m after h val e).is (kept _ _ _ _ _ _)

  tag_made : (ty : Signature) (made : Machine × Tag) → tag_new m ty ≡ Ok made → KeepsRead m made.0
  tag_made ty made e = subst (λ (d : Machine × Tag). KeepsRead m d.0) (tag_new_passed m ty made e).is (kept _ _ _ _ _ _)

  fuel_filled : (amount : ℕ) (after : Machine) → fill_fuel m amount ≡ Ok after → KeepsRead m after
  fuel_filled amount after e = subst (KeepsRead m) (fill_fuel_is m after amount e) (kept _ _ _ _ _ _)

  interval_set : (interval : Option ℕ) (after : Machine) → yield_interval m interval ≡ Ok after → KeepsRead m after
  interval_set interval after e = subst (KeepsRead m) (yield_interval_is m after interval e) (kept _ _ _ _ _ _)

  -- ---- by a row

  abbrev Keeps : Row → Type 0
  Keeps r = LeavesBy (KeepsRead m) m r

  by_reads : {A : Type 0} (say : A → Reply) (r : Result A Refusal) → Keeps (reads m say r)
  by_reads say (Ok a) = kept_all
  by_reads say (Err why) = tt

  by_changes : (r : Result Machine Refusal) → ((after : Machine) → r ≡ Ok after → KeepsRead m after) → Keeps (changes r)
  by_changes (Ok after) h = h after refl
  by_changes (Err why) h = tt

  by_makes : {A : Type 0} (say : A → Reply) (r : Result (Machine × A) Refusal) →
      ((made : Machine × A) → r ≡ Ok made → KeepsRead m made.0) → Keeps (makes say r)
  by_makes say (Ok made) h = h made refl
  by_makes say (Err why) h = tt

  by_grows : {A : Type 0} (say : A → Reply) (r : Result (Plan A) Refusal) →
      ((p : Plan A) → r ≡ Ok p → KeepsRead m p.after) → Keeps (grows say r)
  by_grows say (Ok p) h = λ granted. h p refl
  by_grows say (Err why) h = tt

  by_named : {A : Type 0} (o : Option A) (go : A → Row) → ((a : A) → Keeps (go a)) → Keeps (named o go)
  by_named None go h = tt
  by_named (Some a) go h = h a

  module _ (s : Scope) where
    operation_keeps : (op : Op) → RunsNoCode (command.Op op) → Keeps (operation m s op)
    operation_keeps (MemoryNew ty) none = λ granted. kept _ _ _ _ _ _
    operation_keeps (MemoryRead memory at len) none = by_named (named_memory s memory) _ (λ h. by_reads _ _)
    operation_keeps (MemoryWrite memory at bytes) none =
        by_named (named_memory s memory) _ (λ h. by_changes _ (memory_written h at bytes))
    operation_keeps (MemorySize memory) none = by_named (named_memory s memory) _ (λ h. by_reads _ _)
    operation_keeps (MemoryGrow memory delta) none =
        by_named (named_memory s memory) _ (λ h. by_grows _ _ (memory_grown h delta))
    operation_keeps (TableNew ty init) none =
        by_named (operand_value s init) _ (λ val. by_grows _ _ (table_made ty (val_ref val)))
    operation_keeps (TableGet table at) none = by_named (named_table s table) _ (λ h. by_reads _ _)
    operation_keeps (TableSet table at value) none =
        by_named (named_table s table) _
        (λ h. by_named (operand_value s value) _ (λ val. by_changes _ (table_was_set h at (val_ref val))))
    operation_keeps (TableSize table) none = by_named (named_table s table) _ (λ h. by_reads _ _)
    operation_keeps (TableGrow table delta value) none =
        by_named (named_table s table) _
        (λ h. by_named (operand_value s value) _ (λ val. by_grows _ _ (table_grown h delta (val_ref val))))
    operation_keeps (TableCopy dst dst_at src src_at len) none =
        by_named (named_table s dst) _
        (λ d. by_named (named_table s src) _ (λ e. by_changes _ (table_copied d dst_at e src_at len)))
    operation_keeps (TableFill table at value len) none =
        by_named (named_table s table) _
        (λ h. by_named (operand_value s value) _ (λ val. by_changes _ (table_filled h at (val_ref val) len)))
    operation_keeps (GlobalNew ty init) none =
        by_named (operand_value s init) _ (λ val. by_makes _ _ (global_made ty val))
    operation_keeps (GlobalGet global) none = by_named (named_global s global) _ (λ h. by_reads _ _)
    operation_keeps (GlobalSet global value) none =
        by_named (named_global s global) _
        (λ h. by_named (operand_value s value) _ (λ val. by_changes _ (global_was_set h val)))
    operation_keeps (TagNew ty) none = by_makes _ _ (tag_made ty)
    operation_keeps (GetExport instance name) none = by_named (named_instance s instance) _ (λ h. by_reads _ _)
    operation_keeps GetFuel none = by_reads _ _
    operation_keeps (SetFuel fuel) none = by_changes _ (fuel_filled fuel)
    operation_keeps (YieldInterval interval) none = by_changes _ (interval_set interval)
    operation_keeps (SetEpochDeadline ticks) none = λ reading. kept _ _ _ _ _ _
    operation_keeps (Call func args results) none = absurd none

-- ---- so it stays

pub performed_keeps : {T H E : Type 0} (moves : Moving T H E) (limit : ℕ) (s : Scope) (op : Op)
    (result : Result Reply NoMemory) (old new : Surrounded T H E) → RunsNoCode (command.Op op) →
    PerformedWithin moves limit (operation old.store.machine s op) old result new →
    KeepsRead old.store.machine new.store.machine
performed_keeps moves limit s op (Ok reply) old new none l =
    let m = old.store.machine in
    let r = operation m s op in
    let P : Option (Reply × World) → Type 0 = λ o. In (KeepsRead m) m (kept_all m) o in
    subst P (l.ends [] [])
    (in_codeless (KeepsRead m) m (kept_all m) r (codeless [] m s (command.Op op) none) (operation_keeps m s op none) limit
    [] (answers_in l.heard ++ []))
performed_keeps moves limit s op (Err none) old new plain short =
    subst (KeepsRead old.store.machine) (sym short.unchanged) (kept_all old.store.machine)
