-- The functions that bodies of the host hand out and were not shown. This project's own.
use Rattle.std.specs.Prelude.{not, List, [], ◌++◌, filter, flat_map, Ok}
use Rattle.wasm_values.specs.declared.store_id.StoreId.{StoreId}
use Rattle.spec_machine.specs.declared.name.Operand.{Operand}
use Rattle.spec_machine.specs.declared.name.Operand.TheVariants as operand
use Rattle.spec_machine.specs.declared.operation.Op.{Op}
use Rattle.spec_machine.specs.declared.operation.Op.TheVariants.{TableNew, TableSet, TableGrow, TableFill, GlobalNew, GlobalSet, Call}
use Rattle.spec_machine.specs.declared.reply.Reply.{Reply}
use Rattle.spec_machine.specs.declared.reply.Reply.TheVariants as reply
use Rattle.spec_execution.specs.Askings.{View, Caller, Exported, Question, Stepping, Answer, Stepped, Asking}
use Rattle.spec_execution.specs.declared.answer.Answer.{Answer as Say}
use Rattle.spec_execution.specs.declared.answer.Answer.TheVariants as say
use Rattle.spec_reach.specs.Nodes.{Node, has}
use Rattle.spec_reach.specs.Reach.{in_object, where_there}
use Rattle.spec_reach.specs.Roots.{in_instance, in_val}

-- of the store of this id
module _ (id : StoreId) where
  abbrev pub in_reply : Reply → List Node
  in_reply (reply.Object found) = in_object id found
  in_reply (reply.Instance found) = in_instance id found
  in_reply (reply.Values vals) = flat_map (in_val id) vals
  in_reply _ = []

  abbrev pub in_export : Exported → List Node
  in_export e = where_there e.object (in_object id)

  abbrev pub in_exports : Caller → List Node
  in_exports c = flat_map in_export c.exports

  -- what a step was shown
  abbrev pub shown : View → List Node
  shown seen =
      flat_map (in_val id) seen.arguments ++ (flat_map (in_object id) seen.stored
      ++ (flat_map in_reply seen.replies ++ where_there seen.caller in_exports))

  -- the functions that it hands out: among what it returns, and in literal operands of what it asks for
  abbrev pub literal : Operand → List Node
  literal (operand.Val val) = in_val id val
  literal (operand.Named name) = []

  abbrev pub literals : Op → List Node
  literals (TableNew ty init) = literal init
  literals (TableSet table at value) = literal value
  literals (TableGrow table delta value) = literal value
  literals (TableFill table at value len) = literal value
  literals (GlobalNew ty init) = literal init
  literals (GlobalSet global value) = literal value
  literals (Call f args results) = flat_map literal args
  literals _ = []

  abbrev pub handed_out : Say → List Node
  handed_out (say.Return vals) = flat_map (in_val id) vals
  handed_out say.Fail = []
  handed_out (say.Call op) = literals op

  -- and those of them that it was not shown
  abbrev pub unshown_by : Question → Answer → List Node
  unshown_by (Stepping body state event seen) (Stepped after (Ok what)) =
      filter (λ x. not (has (shown seen) x)) (handed_out what)
  unshown_by question answer = []

  abbrev pub unshown : List Asking → List Node
  unshown heard = flat_map (λ (asking : Asking). unshown_by asking.0 asking.1) heard
