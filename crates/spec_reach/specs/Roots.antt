-- The roots of a command: all that its names and its literal operands give. This project's own.
use Rattle.std.specs.Prelude.{ℕ, List, [], ◌∷◌, ◌++◌, flat_map, Option, Some, None}
use Rattle.wasm_values.specs.Handles.{instance_store, instance_index}
use Rattle.wasm_values.specs.declared.externals.Extern.TheVariants as x
use Rattle.wasm_values.specs.declared.handles.Instance.{Instance}
use Rattle.wasm_values.specs.declared.store_id.StoreId.{StoreId}
use Rattle.wasm_values.specs.declared.values.Val.{Val}
use Rattle.wasm_values.specs.declared.values.Val.TheVariants as v
use Rattle.wasm_objects.specs.declared.raw.RawVal.{RawVal}
use Rattle.spec_machine.specs.Names.{Scope, Item, value as a_value, object as an_object, instance as an_instance, resolve}
use Rattle.spec_machine.specs.declared.command.Command.{Command}
use Rattle.spec_machine.specs.declared.command.Command.TheVariants as command
use Rattle.spec_machine.specs.declared.name.Name.{Name}
use Rattle.spec_machine.specs.declared.name.Operand.{Operand}
use Rattle.spec_machine.specs.declared.name.Operand.TheVariants as operand
use Rattle.spec_machine.specs.declared.operation.Op.{Op}
use Rattle.spec_machine.specs.declared.operation.Op.TheVariants.{MemoryNew, MemoryRead, MemoryWrite, MemorySize, MemoryGrow, TableNew, TableGet, TableSet, TableSize, TableGrow, TableCopy, TableFill, GlobalNew, GlobalGet, GlobalSet, TagNew, GetExport, GetFuel, SetFuel, YieldInterval, SetEpochDeadline, Call}
use Rattle.spec_reach.specs.Nodes.{Node, func, instance}
use Rattle.spec_reach.specs.Reach.{of_store, in_object, in_value, where_there}

-- of the store of this id
module _ (id : StoreId) where
  abbrev pub in_instance : Instance → List Node
  in_instance h = of_store id (instance_store h) (instance (instance_index h))

  -- the function in a value
  abbrev pub in_val : Val → List Node
  in_val (v.FuncRef (Some f)) = in_object id (x.Func f)
  in_val _ = []

  abbrev pub in_item : Item → List Node
  in_item (a_value val) = in_val val
  in_item (an_object found) = in_object id found
  in_item (an_instance found) = in_instance found

  -- what names and operands give
  module _ (s : Scope) where
    abbrev pub by_name : Name → List Node
    by_name name = where_there (resolve s name) in_item

    abbrev pub by_operand : Operand → List Node
    by_operand (operand.Val val) = in_val val
    by_operand (operand.Named name) = by_name name

    abbrev pub operation_roots : Op → List Node
    operation_roots (MemoryNew ty) = []
    operation_roots (MemoryRead memory at len) = by_name memory
    operation_roots (MemoryWrite memory at bytes) = by_name memory
    operation_roots (MemorySize memory) = by_name memory
    operation_roots (MemoryGrow memory delta) = by_name memory
    operation_roots (TableNew ty init) = by_operand init
    operation_roots (TableGet table at) = by_name table
    operation_roots (TableSet table at value) = by_name table ++ by_operand value
    operation_roots (TableSize table) = by_name table
    operation_roots (TableGrow table delta value) = by_name table ++ by_operand value
    operation_roots (TableCopy dst dst_at src src_at len) = by_name dst ++ by_name src
    operation_roots (TableFill table at value len) = by_name table ++ by_operand value
    operation_roots (GlobalNew ty init) = by_operand init
    operation_roots (GlobalGet global) = by_name global
    operation_roots (GlobalSet global value) = by_name global ++ by_operand value
    operation_roots (TagNew ty) = []
    operation_roots (GetExport of name) = by_name of
    operation_roots GetFuel = []
    operation_roots (SetFuel fuel) = []
    operation_roots (YieldInterval interval) = []
    operation_roots (SetEpochDeadline ticks) = []
    operation_roots (Call callee args results) = by_name callee ++ flat_map by_operand args

    abbrev pub roots : Command → List Node
    roots (command.FuncNew ty body stored) = flat_map by_name stored
    roots (command.Instantiate number imports) = flat_map by_name imports
    roots (command.Op op) = operation_roots op

-- the roots of a call: the function, the functions among the arguments, and the instance whose code calls
abbrev pub in_caller : Option ℕ → List Node
in_caller None = []
in_caller (Some n) = instance n ∷ []

abbrev pub call_roots : ℕ → List RawVal → Option ℕ → List Node
call_roots n args caller = func n ∷ (flat_map in_value args ++ in_caller caller)
