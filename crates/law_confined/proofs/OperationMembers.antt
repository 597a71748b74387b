-- Each operation and each command keeps to the members, where all nodes that its names and literal operands give are
-- members, and is the same in another store.
use Rattle.std.proofs.Common.{Bool, List, ◌++◌, Ok, refl, sym, ap, subst}
use Rattle.std.specs.Prelude.{flat_map, slice_get}
use Rattle.wasm_syntax.specs.declared.declarations.ModuleDecl.{ModuleDecl}
use Rattle.wasm_values.specs.declared.externals.Extern.TheVariants as x
use Rattle.spec_machine.specs.Commands.{Row, ActAt, operation, row, one_value, element_reply}
use Rattle.spec_machine.specs.FuelCalls.{get_fuel, fill_fuel, yield_interval}
use Rattle.spec_machine.specs.Machine.{Machine}
use Rattle.spec_machine.specs.MemoryCalls.{memory_new}
use Rattle.spec_machine.specs.Names.{Scope, named_func, named_memory, named_table, named_global, named_instance, named_objects, operand_value, operand_values}
use Rattle.spec_machine.specs.declared.command.Command.{Command}
use Rattle.spec_machine.specs.declared.command.Command.TheVariants as command
use Rattle.spec_machine.specs.declared.operation.Op.{Op}
use Rattle.spec_machine.specs.declared.operation.Op.TheVariants.{MemoryNew, MemoryRead, MemoryWrite, MemorySize, MemoryGrow, TableNew, TableGet, TableSet, TableSize, TableGrow, TableCopy, TableFill, GlobalNew, GlobalGet, GlobalSet, TagNew, GetExport, GetFuel, SetFuel, YieldInterval, SetEpochDeadline, Call}
use Rattle.spec_machine.specs.declared.reply.Reply.TheVariants as reply
use Rattle.spec_execution.specs.Askings.{Asking}
use Rattle.spec_reach.specs.Nodes.{Node}
use Rattle.spec_reach.specs.Reach.{in_object}
use Rattle.spec_reach.specs.Roots.{by_name, by_operand, operation_roots, roots}
use Rattle.law_confined.specs.Members.{IsIn}
use Rattle.law_confined.proofs.AllMembers.{AllIn, all_none, all_front, all_back}
use Rattle.law_confined.proofs.CallMembers.{global_new_in, global_get_in, global_set_in, tag_new_in, get_export_in, func_new_in, called_in, get_fuel_in, fill_fuel_in, yield_interval_in, move_deadline_is}
use Rattle.law_confined.proofs.ContentMembers.{memory_new_in, memory_read_in, memory_size_in, memory_write_in, memory_grow_in, table_new_in, table_size_in, table_get_in, table_set_in, table_fill_in, table_grow_in, table_copy_in}
use Rattle.law_confined.proofs.NameLemmas.{func_in, memory_in, table_in, global_in, instance_in, value_in, objects_in, values_in}
use Rattle.law_confined.proofs.NewMembers.{HoldsNew, SeesNew}
use Rattle.law_confined.proofs.NewMembers as place
use Rattle.law_confined.proofs.RowMembers.{StaysRow, named_in, reads_in, changes_in, makes_in, grows_in, invokes_in}
use Rattle.law_confined.proofs.OtherStores.{Sees}

module _ (M : Node → Bool) (first : Machine) (other : Machine → Machine) (heard0 : List Asking)
    (sees : Sees M first other) (news : SeesNew M first other) (new : HoldsNew M first) (m : Machine) (h : IsIn M first m)
    (s : Scope) where
  abbrev Stays : Row → Row → Type 0
  Stays = StaysRow M first other heard0 sees news new

  -- of the store's own id
  abbrev Named : Op → Type 0
  Named op = AllIn M (operation_roots m.id s op)

  abbrev Goes : Op → Type 0
  Goes op = Stays (operation m s op) (operation (other m) s op)

  -- the second of two
  second : (xs ys : List Node) → AllIn M (xs ++ ys) → AllIn M ys
  second xs ys k = all_back M xs ys k

  row_in : (op : Op) → Named op → Goes op
  row_in (MemoryNew ty) k =
      grows_in M first other heard0 sees news new m h (λ y. reply.Object (x.Memory y)) (Ok (memory_new m ty))
      (Ok (memory_new (other m) ty)) (memory_new_in M first other sees news new m h ty)
  row_in (MemoryRead memory at len) k =
      named_in M first other heard0 sees news new (named_memory s memory) _ _ (λ y e.
      reads_in M first other heard0 sees news new m h reply.Bytes _ _
      (memory_read_in M first other sees news new m h y at len (memory_in M m.id s memory y e k)))
  row_in (MemoryWrite memory at bytes) k =
      named_in M first other heard0 sees news new (named_memory s memory) _ _ (λ y e.
      changes_in M first other heard0 sees news new m h _ _
      (memory_write_in M first other sees news new m h y at bytes (memory_in M m.id s memory y e k)))
  row_in (MemorySize memory) k =
      named_in M first other heard0 sees news new (named_memory s memory) _ _ (λ y e.
      reads_in M first other heard0 sees news new m h reply.Number _ _
      (memory_size_in M first other sees news new m h y (memory_in M m.id s memory y e k)))
  row_in (MemoryGrow memory delta) k =
      named_in M first other heard0 sees news new (named_memory s memory) _ _ (λ y e.
      grows_in M first other heard0 sees news new m h reply.Number _ _
      (memory_grow_in M first other sees news new m h y delta (memory_in M m.id s memory y e k)))
  row_in (TableNew ty init) k =
      named_in M first other heard0 sees news new (operand_value s init) _ _ (λ val e.
      grows_in M first other heard0 sees news new m h (λ y. reply.Object (x.Table y)) _ _
      (table_new_in M first other sees news new m h ty val (value_in M m.id s init val e k)))
  row_in (TableGet table at) k =
      named_in M first other heard0 sees news new (named_table s table) _ _ (λ y e.
      reads_in M first other heard0 sees news new m h element_reply _ _
      (table_get_in M first other sees news new m h y at (table_in M m.id s table y e k)))
  row_in (TableSet table at value) k =
      named_in M first other heard0 sees news new (named_table s table) _ _ (λ y e.
      named_in M first other heard0 sees news new (operand_value s value) _ _ (λ val f.
      changes_in M first other heard0 sees news new m h _ _
      (table_set_in M first other sees news new m h y at val
      (table_in M m.id s table y e (all_front M _ (by_operand m.id s value) k))
      (value_in M m.id s value val f (second (by_name m.id s table) _ k)))))
  row_in (TableSize table) k =
      named_in M first other heard0 sees news new (named_table s table) _ _ (λ y e.
      reads_in M first other heard0 sees news new m h reply.Number _ _
      (table_size_in M first other sees news new m h y (table_in M m.id s table y e k)))
  row_in (TableGrow table delta value) k =
      named_in M first other heard0 sees news new (named_table s table) _ _ (λ y e.
      named_in M first other heard0 sees news new (operand_value s value) _ _ (λ val f.
      grows_in M first other heard0 sees news new m h reply.Number _ _
      (table_grow_in M first other sees news new m h y delta val
      (table_in M m.id s table y e (all_front M _ (by_operand m.id s value) k))
      (value_in M m.id s value val f (second (by_name m.id s table) _ k)))))
  row_in (TableCopy dst at src from len) k =
      named_in M first other heard0 sees news new (named_table s dst) _ _ (λ d e.
      named_in M first other heard0 sees news new (named_table s src) _ _ (λ y f.
      changes_in M first other heard0 sees news new m h _ _
      (table_copy_in M first other sees news new m h d at y from len
      (table_in M m.id s dst d e (all_front M _ (by_name m.id s src) k))
      (table_in M m.id s src y f (second (by_name m.id s dst) _ k)))))
  row_in (TableFill table at value len) k =
      named_in M first other heard0 sees news new (named_table s table) _ _ (λ y e.
      named_in M first other heard0 sees news new (operand_value s value) _ _ (λ val f.
      changes_in M first other heard0 sees news new m h _ _
      (table_fill_in M first other sees news new m h y at val len
      (table_in M m.id s table y e (all_front M _ (by_operand m.id s value) k))
      (value_in M m.id s value val f (second (by_name m.id s table) _ k)))))
  row_in (GlobalNew ty init) k =
      named_in M first other heard0 sees news new (operand_value s init) _ _ (λ val e.
      makes_in M first other heard0 sees news new m h (λ y. reply.Object (x.Global y)) _ _
      (global_new_in M first other sees news new m h ty val (value_in M m.id s init val e k)))
  row_in (GlobalGet global) k =
      named_in M first other heard0 sees news new (named_global s global) _ _ (λ y e.
      reads_in M first other heard0 sees news new m h one_value _ _
      (global_get_in M first other sees news new m h y (global_in M m.id s global y e k)))
  row_in (GlobalSet global value) k =
      named_in M first other heard0 sees news new (named_global s global) _ _ (λ y e.
      named_in M first other heard0 sees news new (operand_value s value) _ _ (λ val f.
      changes_in M first other heard0 sees news new m h _ _
      (global_set_in M first other sees news new m h y val
      (global_in M m.id s global y e (all_front M _ (by_operand m.id s value) k))
      (value_in M m.id s value val f (second (by_name m.id s global) _ k)))))
  row_in (TagNew ty) k =
      makes_in M first other heard0 sees news new m h (λ y. reply.Object (x.Tag y)) _ _
      (tag_new_in M first other sees news new m h ty)
  row_in (GetExport of name) k =
      named_in M first other heard0 sees news new (named_instance s of) _ _ (λ y e.
      reads_in M first other heard0 sees news new m h reply.Object _ _
      (get_export_in M first other sees news new m h y name (instance_in M m.id s of y e k)))
  row_in GetFuel k =
      reads_in M first other heard0 sees news new m h reply.Number (get_fuel m) (get_fuel (other m))
      (get_fuel_in M first other sees news new m h)
  row_in (SetFuel fuel) k =
      changes_in M first other heard0 sees news new m h (fill_fuel m fuel) (fill_fuel (other m) fuel)
      (fill_fuel_in M first other sees news new m h fuel)
  row_in (YieldInterval interval) k =
      changes_in M first other heard0 sees news new m h (yield_interval m interval) (yield_interval (other m) interval)
      (yield_interval_in M first other sees news new m h interval)
  row_in (SetEpochDeadline ticks) k = record {
    by = ((λ reading. place.deadline_set M first m h _), all_none M);
    same = ap (λ after. ActAt after reply.Done) (move_deadline_is M first other sees news new m h ticks);
  }
  row_in (Call callee args wanted) k =
      named_in M first other heard0 sees news new (named_func s callee) _ _ (λ y e.
      named_in M first other heard0 sees news new (operand_values s args) _ _ (λ vals f.
      invokes_in M first other heard0 sees news new m h _ _
      (called_in M first other sees news new m h y vals wanted
      (func_in M m.id s callee y e (all_front M _ (flat_map (by_operand m.id s) args) k))
      (values_in M m.id s args vals f (second (by_name m.id s callee) _ k)))))

  pub operation_in : (op : Op) → AllIn M (operation_roots first.id s op) → Goes op
  operation_in op k = row_in op (subst (λ i. AllIn M (operation_roots i s op)) (sym h.id) k)

  pub command_in :
      (modules : List ModuleDecl) (c : Command) → AllIn M (roots first.id s c)
      → Stays (row modules m s c) (row modules (other m) s c)
  command_in modules (command.FuncNew ty body stored) k =
      named_in M first other heard0 sees news new (named_objects s stored) _ _ (λ found e.
      makes_in M first other heard0 sees news new m h (λ y. reply.Object (x.Func y)) _ _
      (func_new_in M first other sees news new m h ty body found
      (subst (λ i. AllIn M (flat_map (in_object i) found)) (sym h.id) (objects_in M first.id s stored found e k))))
  command_in modules (command.Instantiate number imports) k =
      named_in M first other heard0 sees news new (named_objects s imports) _ _ (λ found e.
      named_in M first other heard0 sees news new (slice_get modules number) _ _ (λ d f.
      record { by = objects_in M first.id s imports found e k; same = refl }))
  command_in modules (command.Op op) k = operation_in op k
