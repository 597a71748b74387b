-- Names of objects, values and instances: this project's own.
use Rattle.std.specs.Prelude.{List, [], ◌∷◌, Option, Some, None, option_and_then, option_map, slice_get}
use Rattle.wasm_values.specs.Externals.{extern_func, extern_global, extern_table, extern_memory}
use Rattle.wasm_values.specs.declared.externals.Extern.{Extern}
use Rattle.wasm_values.specs.declared.externals.Extern.TheVariants as x
use Rattle.wasm_values.specs.declared.handles.Func.{Func}
use Rattle.wasm_values.specs.declared.handles.Global.{Global}
use Rattle.wasm_values.specs.declared.handles.Instance.{Instance}
use Rattle.wasm_values.specs.declared.handles.Memory.{Memory}
use Rattle.wasm_values.specs.declared.handles.Table.{Table}
use Rattle.wasm_values.specs.declared.values.Val.{Val}
use Rattle.wasm_values.specs.declared.values.Val.TheVariants as v
use Rattle.spec_machine.specs.declared.name.Name.{Name}
use Rattle.spec_machine.specs.declared.name.Name.TheVariants.{Reply as InReply, Value, Arg, Stored, Caller}
use Rattle.spec_machine.specs.declared.name.Operand.{Operand}
use Rattle.spec_machine.specs.declared.name.Operand.TheVariants as operand
use Rattle.spec_machine.specs.declared.reply.Reply.{Reply}
use Rattle.spec_machine.specs.declared.reply.Reply.TheVariants as reply

-- where names are looked up: replies, and in a function of the host its arguments, the objects that were stored with it,
-- and the instance whose code called it
pub record Scope : Type 0 where
  pub replies : List Reply
  pub arguments : List Val
  pub stored : List Extern
  pub caller : Option Instance

-- the scope of an outermost command: the replies so far
abbrev pub outermost : List Reply → Scope
outermost replies = record { replies = replies; arguments = []; stored = []; caller = None }

-- what a name may stand for
pub data Item : Type 0 where
  value : Val → Item
  object : Extern → Item
  instance : Instance → Item

abbrev pub reply_item : Reply → Option Item
reply_item (reply.Object found) = Some (object found)
reply_item (reply.Instance found) = Some (instance found)
reply_item _ = None

abbrev pub reply_values : Reply → List Val
reply_values (reply.Values vals) = vals
reply_values _ = []

abbrev pub resolve : Scope → Name → Option Item
resolve s (InReply place) = option_and_then reply_item (slice_get s.replies place)
resolve s (Value place index) =
    option_map value (option_and_then (λ r. slice_get (reply_values r) index) (slice_get s.replies place))
resolve s (Arg place) = option_map value (slice_get s.arguments place)
resolve s (Stored place) = option_map object (slice_get s.stored place)
resolve s Caller = option_map instance s.caller

-- a value that is a function gives it where an object is needed
abbrev pub val_object : Val → Option Extern
val_object (v.FuncRef f) = option_map x.Func f
val_object _ = None

abbrev pub item_object : Item → Option Extern
item_object (value val) = val_object val
item_object (object found) = Some found
item_object (instance found) = None

-- an object that is a function gives a reference to it where a value is needed
abbrev pub item_value : Item → Option Val
item_value (value val) = Some val
item_value (object found) = option_map (λ f. v.FuncRef (Some f)) (extern_func found)
item_value (instance found) = None

abbrev pub item_instance : Item → Option Instance
item_instance (instance found) = Some found
item_instance _ = None

-- the object that a name stands for, of any kind or of one
abbrev pub named_object : Scope → Name → Option Extern
named_object s name = option_and_then item_object (resolve s name)

abbrev pub named_func : Scope → Name → Option Func
named_func s name = option_and_then extern_func (named_object s name)

abbrev pub named_memory : Scope → Name → Option Memory
named_memory s name = option_and_then extern_memory (named_object s name)

abbrev pub named_table : Scope → Name → Option Table
named_table s name = option_and_then extern_table (named_object s name)

abbrev pub named_global : Scope → Name → Option Global
named_global s name = option_and_then extern_global (named_object s name)

-- the instance that a name stands for
abbrev pub named_instance : Scope → Name → Option Instance
named_instance s name = option_and_then item_instance (resolve s name)

-- the value that an operand gives
abbrev pub operand_value : Scope → Operand → Option Val
operand_value s (operand.Val val) = Some val
operand_value s (operand.Named name) = option_and_then item_value (resolve s name)

-- a list, where there is its first member and the rest
abbrev pub with_first : {A : Type 0} → Option A → Option (List A) → Option (List A)
with_first None rest = None
with_first (Some first) None = None
with_first (Some first) (Some rest) = Some (first ∷ rest)

-- the objects of a list of names, the values of a list of operands, where each gives one
abbrev pub named_objects : Scope → List Name → Option (List Extern)
named_objects s [] = Some []
named_objects s (name ∷ names) = with_first (named_object s name) (named_objects s names)

abbrev pub operand_values : Scope → List Operand → Option (List Val)
operand_values s [] = Some []
operand_values s (given ∷ more) = with_first (operand_value s given) (operand_values s more)
