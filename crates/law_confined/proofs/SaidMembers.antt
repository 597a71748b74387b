-- An operation that a step of the host asks for keeps to the members: each name in the scope of its activation gives
-- members, and so do its literal operands.
use Rattle.std.proofs.Common.{◌≡◌, ℕ, Bool, List, [], ◌∷◌, ◌++◌, Option, Some, None, refl, ap, ◌∙◌}
use Rattle.std.specs.Prelude.{flat_map, slice_get, option_map, option_and_then}
use Rattle.wasm_values.specs.Handles.{instance_of}
use Rattle.wasm_values.specs.declared.externals.Extern.{Extern}
use Rattle.wasm_values.specs.declared.store_id.StoreId.{StoreId}
use Rattle.wasm_values.specs.declared.values.Val.{Val}
use Rattle.spec_machine.specs.Commands.{operation}
use Rattle.spec_machine.specs.Machine.{Machine}
use Rattle.spec_machine.specs.Names.{Scope, Item, value, object, instance as an_instance, reply_item, reply_values}
use Rattle.spec_machine.specs.declared.name.Name.{Name}
use Rattle.spec_machine.specs.declared.name.Name.TheVariants.{Reply as InReply, Value, Arg, Stored, Caller}
use Rattle.spec_machine.specs.declared.name.Operand.{Operand}
use Rattle.spec_machine.specs.declared.name.Operand.TheVariants as operand
use Rattle.spec_machine.specs.declared.operation.Op.{Op}
use Rattle.spec_machine.specs.declared.operation.Op.TheVariants.{MemoryNew, MemoryRead, MemoryWrite, MemorySize, MemoryGrow, TableNew, TableGet, TableSet, TableSize, TableGrow, TableCopy, TableFill, GlobalNew, GlobalGet, GlobalSet, TagNew, GetExport, GetFuel, SetFuel, YieldInterval, SetEpochDeadline, Call}
use Rattle.spec_machine.specs.declared.reply.Reply.{Reply}
use Rattle.spec_machine.specs.declared.reply.Reply.TheVariants as reply
use Rattle.spec_execution.specs.Activations.{Activation, scope_of}
use Rattle.spec_execution.specs.Askings.{Asking}
use Rattle.spec_execution.specs.declared.answer.Answer.TheVariants as say
use Rattle.spec_reach.specs.Nodes.{Node, instance}
use Rattle.spec_reach.specs.Reach.{in_object, where_there}
use Rattle.spec_reach.specs.Roots.{in_val, in_item, by_name, by_operand, operation_roots}
use Rattle.law_courses.proofs.Bounds.{IsRowIn, row_in}
use Rattle.law_confined.specs.Members.{IsMember, IsIn}
use Rattle.law_confined.specs.Shown.{in_reply, literal, literals, handed_out}
use Rattle.law_confined.proofs.AllMembers.{AllIn, all_none, all_in, all_front, all_back, all_flat, in_own}
use Rattle.law_confined.proofs.MemberBounds.{IsOpen, bounds}
use Rattle.law_confined.proofs.NewMembers.{HoldsNew, SeesNew}
use Rattle.law_confined.proofs.OperationMembers.{operation_in}
use Rattle.law_confined.proofs.RowMembers.{StaysRow}
use Rattle.law_confined.proofs.OtherStores.{Sees}

module _ (M : Node → Bool) (id : StoreId) where
  abbrev ItemIn : Option Item → Type 0
  ItemIn o = AllIn M (where_there o (in_item id))

  -- ---- what replies, arguments and stored objects give

  reply_in : (r : Reply) → AllIn M (in_reply id r) → ItemIn (reply_item r)
  reply_in (reply.Object found) h = h
  reply_in (reply.Instance found) h = h
  reply_in _ h = all_none M

  by_reply :
      (o : Option Reply) → ((r : Reply) → o ≡ Some r → AllIn M (in_reply id r))
      → ItemIn (option_and_then reply_item o)
  by_reply None h = all_none M
  by_reply (Some r) h = reply_in r (h r refl)

  by_value : (o : Option Val) → ((val : Val) → o ≡ Some val → AllIn M (in_val id val)) → ItemIn (option_map value o)
  by_value None h = all_none M
  by_value (Some val) h = h val refl

  by_object : (o : Option Extern) → ((y : Extern) → o ≡ Some y → AllIn M (in_object id y)) → ItemIn (option_map object o)
  by_object None h = all_none M
  by_object (Some y) h = h y refl

  value_in :
      (r : Reply) (index : ℕ) → AllIn M (in_reply id r) → ItemIn (option_map value (slice_get (reply_values r) index))
  value_in (reply.Values vals) index h =
      by_value (slice_get vals index) (λ val e. all_flat M (in_val id) vals h index val e)
  value_in _ index h = all_none M

  by_reply_value :
      (o : Option Reply) (index : ℕ) → ((r : Reply) → o ≡ Some r → AllIn M (in_reply id r))
      → ItemIn (option_map value (option_and_then (λ r. slice_get (reply_values r) index) o))
  by_reply_value None index h = all_none M
  by_reply_value (Some r) index h = value_in r index (h r refl)

  by_caller :
      (of : StoreId) (o : Option ℕ) → ((n : ℕ) → o ≡ Some n → IsMember M (instance n))
      → ItemIn (option_map an_instance (option_map (instance_of of) o))
  by_caller of None h = all_none M
  by_caller of (Some n) h = in_own M id of (instance n) (h n refl)

module _ (M : Node → Bool) (first : Machine) (m : Machine) (a : Activation) (o : IsOpen M first a) where
  abbrev here : Scope
  here = scope_of m a

  name_in : (name : Name) → AllIn M (by_name first.id here name)
  name_in (InReply place) =
      by_reply M first.id (slice_get a.replies place)
      (λ r e. all_flat M (in_reply first.id) a.replies o.replies place r e)
  name_in (Value place index) =
      by_reply_value M first.id (slice_get a.replies place) index
      (λ r e. all_flat M (in_reply first.id) a.replies o.replies place r e)
  name_in (Arg place) =
      by_value M first.id (slice_get a.arguments place)
      (λ val e. all_flat M (in_val first.id) a.arguments o.arguments place val e)
  name_in (Stored place) =
      by_object M first.id (slice_get a.stored place)
      (λ y e. all_flat M (in_object first.id) a.stored o.stored place y e)
  name_in Caller = by_caller M first.id m.id a.caller o.caller

  operand_in : (given : Operand) → AllIn M (literal first.id given) → AllIn M (by_operand first.id here given)
  operand_in (operand.Val val) h = h
  operand_in (operand.Named name) h = name_in name

  operands_in :
      (given : List Operand) → AllIn M (flat_map (literal first.id) given)
      → AllIn M (flat_map (by_operand first.id here) given)
  operands_in [] h = all_none M
  operands_in (one ∷ more) h =
      all_in M (by_operand first.id here one) (flat_map (by_operand first.id here) more)
      (operand_in one (all_front M (literal first.id one) (flat_map (literal first.id) more) h))
      (operands_in more (all_back M (literal first.id one) (flat_map (literal first.id) more) h))

  with_operand :
      (name : Name) (given : Operand) → AllIn M (literal first.id given)
      → AllIn M (by_name first.id here name ++ by_operand first.id here given)
  with_operand name given h = all_in M _ _ (name_in name) (operand_in given h)

  pub said_roots : (op : Op) → AllIn M (literals first.id op) → AllIn M (operation_roots first.id here op)
  said_roots (MemoryNew ty) h = all_none M
  said_roots (MemoryRead memory at len) h = name_in memory
  said_roots (MemoryWrite memory at bytes) h = name_in memory
  said_roots (MemorySize memory) h = name_in memory
  said_roots (MemoryGrow memory delta) h = name_in memory
  said_roots (TableNew ty init) h = operand_in init h
  said_roots (TableGet table at) h = name_in table
  said_roots (TableSet table at given) h = with_operand table given h
  said_roots (TableSize table) h = name_in table
  said_roots (TableGrow table delta given) h = with_operand table given h
  said_roots (TableCopy dst dst_at src src_at len) h = all_in M _ _ (name_in dst) (name_in src)
  said_roots (TableFill table at given len) h = with_operand table given h
  said_roots (GlobalNew ty init) h = operand_in init h
  said_roots (GlobalGet global) h = name_in global
  said_roots (GlobalSet global given) h = with_operand global given h
  said_roots (TagNew ty) h = all_none M
  said_roots (GetExport of name) h = name_in of
  said_roots GetFuel h = all_none M
  said_roots (SetFuel fuel) h = all_none M
  said_roots (YieldInterval interval) h = all_none M
  said_roots (SetEpochDeadline ticks) h = all_none M
  said_roots (Call callee args results) h = all_in M _ _ (name_in callee) (operands_in args h)

module _ (M : Node → Bool) (first : Machine) (other : Machine → Machine) (heard0 : List Asking)
    (sees : Sees M first other) (news : SeesNew M first other) (new : HoldsNew M first) (m : Machine)
    (h : IsIn M first m) where
  scope_is : (a : Activation) → scope_of (other m) a ≡ scope_of m a
  scope_is a =
      ap (λ i. record (scope_of m a) { caller = option_map (instance_of i) a.caller }) (news.same m h).id

  pub operates :
      (a : Activation) (op : Op) → IsOpen M first a → AllIn M (handed_out first.id (say.Call op))
      → IsRowIn (bounds M first other heard0) (operation m (scope_of m a) op)
      × (operation (other m) (scope_of (other m) a) op ≡ row_in other (operation m (scope_of m a) op))
  operates a op o k =
      let r : StaysRow M first other heard0 sees news new (operation m (scope_of m a) op)
      (operation (other m) (scope_of m a) op) =
      operation_in M first other heard0 sees news new m h (scope_of m a) op (said_roots M first m a o op k) in
      (r.by, ap (λ s. operation (other m) s op) (scope_is a) ∙ r.same)
