-- What the calls of a host leave, and what holds of it holds of what commands leave.
use Rattle.std.proofs.Common.{◌≡◌, List, Option, Some, None, slice_get, Result, Ok, Err, refl}
use Rattle.wasm_types.specs.SoundTypes.{IsExternSound}
use Rattle.wasm_types.specs.declared.extern_type.ExternType.{ExternType}
use Rattle.wasm_syntax.specs.declared.declarations.ModuleDecl.{ModuleDecl}
use Rattle.wasm_values.specs.Values.{val_ref}
use Rattle.wasm_values.specs.declared.refusals.Refusal.{Refusal}
use Rattle.spec_machine.specs.Commands.{Row, Refuse, Act, ActAt, Grow, Invoke, Instantiate, reads, changes, makes, grows, invokes, named, operation, row}
use Rattle.spec_machine.specs.FunctionCalls.{Called}
use Rattle.spec_machine.specs.Growth.{Plan}
use Rattle.spec_machine.specs.Machine.{Machine}
use Rattle.spec_machine.specs.Names.{Scope, named_func, named_memory, named_table, named_global, named_instance, named_objects, operand_value, operand_values}
use Rattle.spec_machine.specs.WellFormed.{IsWellFormed}
use Rattle.spec_machine.specs.declared.command.Command.{Command}
use Rattle.spec_machine.specs.declared.command.Command.TheVariants as command
use Rattle.spec_machine.specs.declared.operation.Op.{Op}
use Rattle.spec_machine.specs.declared.operation.Op.TheVariants.{MemoryNew, MemoryRead, MemoryWrite, MemorySize, MemoryGrow, TableNew, TableGet, TableSet, TableSize, TableGrow, TableCopy, TableFill, GlobalNew, GlobalGet, GlobalSet, TagNew, GetExport, GetFuel, SetFuel, YieldInterval, SetEpochDeadline, Call}
use Rattle.spec_machine.specs.declared.reply.Reply.{Reply}
use Rattle.law_store.specs.Granted.{IsGranted}
use Rattle.law_store.specs.HostCalls.{OfAnyType, CallsLeave, MetersLeave}
use Rattle.law_store.specs.Later.{Extends, LeavesRest, LeavesFlags}
use Rattle.law_store.specs.Laws.{CallsKeepWellFormed, CallsLeaveRest, RowsKeepWellFormed}
use Rattle.law_store.specs.Rows.{LeavesBy, MakesGood, AreGood, IsTyped}
use Rattle.law_store.proofs.LaterStoreLemmas.{extends_own}
use Rattle.law_store.proofs.Globals.{extends_global_set, keeps_global_set, extends_global_new, keeps_global_new, extends_tag_new, keeps_tag_new, extends_func_new, keeps_func_new}
use Rattle.law_store.proofs.Memories.{extends_memory_write, keeps_memory_write, extends_memory_new, keeps_memory_new, extends_memory_grow, keeps_memory_grow}
use Rattle.law_store.proofs.Meters.{meters_extend, meters_keep_well_formed, meters_leave_flags}
use Rattle.law_store.proofs.Rest.{flags_of, flags_own, rest_global_set, rest_global_new, rest_tag_new, rest_func_new, rest_memory_write, rest_memory_new, rest_memory_grow, rest_table_set, rest_table_fill, rest_table_copy, rest_table_new, rest_table_grow}
use Rattle.law_store.proofs.Tables.{extends_table_set, keeps_table_set, extends_table_fill, keeps_table_fill, extends_table_copy, keeps_table_copy, extends_table_new, keeps_table_new, extends_table_grow, keeps_table_grow}

-- of another property that follows
pub leaves_by : (P Q : Machine → Type 0) (m : Machine) (r : Row) → ((x : Machine) → P x → Q x) → LeavesBy P m r →
    LeavesBy Q m r
leaves_by P Q m (Refuse why) f h = tt
leaves_by P Q m (Act after reply) f h = f after h
leaves_by P Q m (ActAt after reply) f h = λ reading. f (after reading) (h reading)
leaves_by P Q m (Grow p) f h = λ g. f p.after (h g)
leaves_by P Q m (Invoke c) f h = tt
leaves_by P Q m (Instantiate d imports) f h = tt

module _ (P : Machine → Type 0) (m : Machine) where
  by_reads : {A : Type 0} (say : A → Reply) (r : Result A Refusal) → P m → LeavesBy P m (reads m say r)
  by_reads say (Ok a) p = p
  by_reads say (Err why) p = tt

  by_changes : (r : Result Machine Refusal) → ((after : Machine) → r ≡ Ok after → P after) → LeavesBy P m (changes r)
  by_changes (Ok after) h = h after refl
  by_changes (Err why) h = tt

  by_makes : {A : Type 0} (say : A → Reply) (r : Result (Machine × A) Refusal) →
      ((made : Machine × A) → r ≡ Ok made → P made.0) → LeavesBy P m (makes say r)
  by_makes say (Ok made) h = h made refl
  by_makes say (Err why) h = tt

  by_grows : {A : Type 0} (say : A → Reply) (r : Result (Plan A) Refusal) →
      ((p : Plan A) → r ≡ Ok p → IsGranted m p → P p.after) → LeavesBy P m (grows say r)
  by_grows say (Ok p) h = h p refl
  by_grows say (Err why) h = tt

  by_invokes : (r : Result Called Refusal) → LeavesBy P m (invokes r)
  by_invokes (Ok c) = tt
  by_invokes (Err why) = tt

  by_named : {A : Type 0} (o : Option A) (go : A → Row) → ((a : A) → LeavesBy P m (go a)) → LeavesBy P m (named o go)
  by_named None go h = tt
  by_named (Some a) go h = h a

-- what holds of the store itself and of what each call leaves
module _ (IsGood : ExternType → Type 0) (P : Machine → Type 0) (m : Machine) (own : P m) (c : CallsLeave IsGood P m)
    (d : MetersLeave P m) (s : Scope) where
  by_operation : (op : Op) → MakesGood IsGood op → LeavesBy P m (operation m s op)
  by_operation (MemoryNew ty) t = c.memory_new ty t
  by_operation (MemoryRead memory at len) t = by_named P m (named_memory s memory) _ (λ h. by_reads P m _ _ own)
  by_operation (MemoryWrite memory at bytes) t =
      by_named P m (named_memory s memory) _ (λ h. by_changes P m _ (c.memory_write h at bytes))
  by_operation (MemorySize memory) t = by_named P m (named_memory s memory) _ (λ h. by_reads P m _ _ own)
  by_operation (MemoryGrow memory delta) t =
      by_named P m (named_memory s memory) _ (λ h. by_grows P m _ _ (c.memory_grow h delta))
  by_operation (TableNew ty init) t =
      by_named P m (operand_value s init) _ (λ val. by_grows P m _ _ (λ p. c.table_new ty (val_ref val) p t))
  by_operation (TableGet table at) t = by_named P m (named_table s table) _ (λ h. by_reads P m _ _ own)
  by_operation (TableSet table at value) t =
      by_named P m (named_table s table) _
      (λ h. by_named P m (operand_value s value) _
      (λ val. by_changes P m _ (c.table_set h at (val_ref val))))
  by_operation (TableSize table) t = by_named P m (named_table s table) _ (λ h. by_reads P m _ _ own)
  by_operation (TableGrow table delta value) t =
      by_named P m (named_table s table) _
      (λ h. by_named P m (operand_value s value) _ (λ val. by_grows P m _ _ (c.table_grow h delta (val_ref val))))
  by_operation (TableCopy dst dst_at src src_at len) t =
      by_named P m (named_table s dst) _
      (λ d. by_named P m (named_table s src) _
      (λ e. by_changes P m _ (c.table_copy d dst_at e src_at len)))
  by_operation (TableFill table at value len) t =
      by_named P m (named_table s table) _
      (λ h. by_named P m (operand_value s value) _
      (λ val. by_changes P m _ (c.table_fill h at (val_ref val) len)))
  by_operation (GlobalNew ty init) t =
      by_named P m (operand_value s init) _ (λ val. by_makes P m _ _ (λ made. c.global_new ty val made t))
  by_operation (GlobalGet global) t = by_named P m (named_global s global) _ (λ h. by_reads P m _ _ own)
  by_operation (GlobalSet global value) t =
      by_named P m (named_global s global) _
      (λ h. by_named P m (operand_value s value) _ (λ val. by_changes P m _ (c.global_set h val)))
  by_operation (TagNew ty) t = by_makes P m _ _ (λ made. c.tag_new ty made t)
  by_operation (GetExport instance name) t = by_named P m (named_instance s instance) _ (λ h. by_reads P m _ _ own)
  by_operation GetFuel t = by_reads P m _ _ own
  by_operation (SetFuel fuel) t = by_changes P m _ (d.fill_fuel fuel)
  by_operation (YieldInterval interval) t = by_changes P m _ (d.yield_interval interval)
  by_operation (SetEpochDeadline ticks) t = d.move_deadline ticks
  by_operation (Call func args results) t =
      by_named P m (named_func s func) _ (λ h. by_named P m (operand_values s args) _ (λ vals. by_invokes P m _))

  by_row : (modules : List ModuleDecl) (x : Command) → AreGood IsGood x → LeavesBy P m (row modules m s x)
  by_row modules (command.Op op) t = by_operation op t
  by_row modules (command.Instantiate number imports) t =
      by_named P m (named_objects s imports) _ (λ found. by_named P m (slice_get modules number) _ (λ d. tt))
  by_row modules (command.FuncNew ty body names) t =
      by_named P m (named_objects s names) _ (λ found. by_makes P m _ _ (λ made. c.func_new ty body found made t))

-- each call keeps a store well formed
pub calls_keep_well_formed : CallsKeepWellFormed
calls_keep_well_formed m w = record {
  memory_new = λ ty t g. keeps_memory_new m ty w t g;
  memory_write = λ h at bytes after e. keeps_memory_write m after h at bytes w e;
  memory_grow = λ h delta p e g. keeps_memory_grow m h delta p w e g;
  table_new = λ ty init p t e g. keeps_table_new m ty init p w t.0 t.1 e g;
  table_set = λ h at val after e. keeps_table_set m after h at val w e;
  table_fill = λ h at val len after e. keeps_table_fill m after h at val len w e;
  table_copy = λ dst dst_at src src_at len after e. keeps_table_copy m after dst dst_at src src_at len w e;
  table_grow = λ h delta init p e g. keeps_table_grow m h delta init p w e g;
  global_new = λ ty val made t e. keeps_global_new m ty val made w t e;
  global_set = λ h val after e. keeps_global_set m after h val w e;
  tag_new = λ ty made t e. keeps_tag_new m ty made w t e;
  func_new = λ ty body stored made t e. keeps_func_new m ty body stored made w t e;
}

-- it leaves a later store
pub calls_extend : (m : Machine) → CallsLeave OfAnyType (Extends m) m
calls_extend m = record {
  memory_new = λ ty t g. extends_memory_new m ty;
  memory_write = λ h at bytes after e. extends_memory_write m after h at bytes e;
  memory_grow = λ h delta p e g. extends_memory_grow m h delta p e;
  table_new = λ ty init p t e g. extends_table_new m ty init p e;
  table_set = λ h at val after e. extends_table_set m after h at val e;
  table_fill = λ h at val len after e. extends_table_fill m after h at val len e;
  table_copy = λ dst dst_at src src_at len after e. extends_table_copy m after dst dst_at src src_at len e;
  table_grow = λ h delta init p e g. extends_table_grow m h delta init p e;
  global_new = λ ty val made t e. extends_global_new m ty val made e;
  global_set = λ h val after e. extends_global_set m after h val e;
  tag_new = λ ty made t e. extends_tag_new m ty made e;
  func_new = λ ty body stored made t e. extends_func_new m ty body stored made e;
}

-- and it leaves all but the objects
pub calls_leave_rest : CallsLeaveRest
calls_leave_rest m = record {
  memory_new = λ ty t g. rest_memory_new m ty;
  memory_write = λ h at bytes after e. rest_memory_write m after h at bytes e;
  memory_grow = λ h delta p e g. rest_memory_grow m h delta p e;
  table_new = λ ty init p t e g. rest_table_new m ty init p e;
  table_set = λ h at val after e. rest_table_set m after h at val e;
  table_fill = λ h at val len after e. rest_table_fill m after h at val len e;
  table_copy = λ dst dst_at src src_at len after e. rest_table_copy m after dst dst_at src src_at len e;
  table_grow = λ h delta init p e g. rest_table_grow m h delta init p e;
  global_new = λ ty val made t e. rest_global_new m ty val made e;
  global_set = λ h val after e. rest_global_set m after h val e;
  tag_new = λ ty made t e. rest_tag_new m ty made e;
  func_new = λ ty body stored made t e. rest_func_new m ty body stored made e;
}

-- the types of a command are of whatever kind
any_operation : (op : Op) → MakesGood OfAnyType op
any_operation (MemoryNew ty) = tt
any_operation (TableNew ty init) = tt
any_operation (GlobalNew ty init) = tt
any_operation (TagNew ty) = tt
any_operation _ = tt

any_command : (c : Command) → AreGood OfAnyType c
any_command (command.FuncNew ty body stored) = tt
any_command (command.Instantiate number imports) = tt
any_command (command.Op op) = any_operation op

-- a call that leaves the rest leaves the flags
calls_leave_flags : (m : Machine) → CallsLeave OfAnyType (LeavesFlags m) m
calls_leave_flags m = let c : CallsLeave OfAnyType (LeavesRest m) m = calls_leave_rest m in record {
  memory_new = λ ty t g. flags_of m _ (c.memory_new ty t g);
  memory_write = λ h at bytes after e. flags_of m after (c.memory_write h at bytes after e);
  memory_grow = λ h delta p e g. flags_of m p.after (c.memory_grow h delta p e g);
  table_new = λ ty init p t e g. flags_of m p.after (c.table_new ty init p t e g);
  table_set = λ h at val after e. flags_of m after (c.table_set h at val after e);
  table_fill = λ h at val len after e. flags_of m after (c.table_fill h at val len after e);
  table_copy = λ dst dst_at src src_at len after e. flags_of m after (c.table_copy dst dst_at src src_at len after e);
  table_grow = λ h delta init p e g. flags_of m p.after (c.table_grow h delta init p e g);
  global_new = λ ty val made t e. flags_of m made.0 (c.global_new ty val made t e);
  global_set = λ h val after e. flags_of m after (c.global_set h val after e);
  tag_new = λ ty made t e. flags_of m made.0 (c.tag_new ty made t e);
  func_new = λ ty body stored made t e. flags_of m made.0 (c.func_new ty body stored made t e);
}

-- what a command leaves is well formed, a later store, and its limits and flags as before
pub row_keeps : (modules : List ModuleDecl) (m : Machine) (s : Scope) (c : Command) → IsWellFormed m → IsTyped c →
    LeavesBy IsWellFormed m (row modules m s c)
row_keeps modules m s c w t =
    by_row IsExternSound IsWellFormed m w (calls_keep_well_formed m w) (meters_keep_well_formed m w) s modules c t

pub row_extends : (modules : List ModuleDecl) (m : Machine) (s : Scope) (c : Command) →
    LeavesBy (Extends m) m (row modules m s c)
row_extends modules m s c =
    by_row OfAnyType (Extends m) m (extends_own m) (calls_extend m) (meters_extend m) s modules c (any_command c)

pub row_leaves_flags : (modules : List ModuleDecl) (m : Machine) (s : Scope) (c : Command) →
    LeavesBy (LeavesFlags m) m (row modules m s c)
row_leaves_flags modules m s c =
    by_row OfAnyType (LeavesFlags m) m (flags_own m) (calls_leave_flags m) (meters_leave_flags m) s modules c
    (any_command c)

pub rows_keep_well_formed : RowsKeepWellFormed
rows_keep_well_formed = row_keeps
