-- What a call leaves as it was, however it ends: all outside of what it reaches; and what of that it keeps. This project's
-- own.
use Rattle.std.proofs.Common.{inl, inr}
use Rattle.std.specs.Prelude.{ℕ, List, ◌++◌, flat_map, Option, Result, Ok, Err}
use Rattle.wasm_types.specs.declared.faults.OutOfMemory.{OutOfMemory as NoMemory}
use Rattle.wasm_syntax.specs.declared.declarations.ModuleDecl.{ModuleDecl}
use Rattle.wasm_values.specs.declared.externals.Extern.{Extern}
use Rattle.wasm_values.specs.declared.externals.Extern.TheVariants as x
use Rattle.wasm_values.specs.declared.handles.Func.{Func}
use Rattle.wasm_values.specs.declared.handles.Instance.{Instance}
use Rattle.wasm_values.specs.declared.refusals.Refusal.{Refusal}
use Rattle.wasm_values.specs.declared.refusals.Refusal.TheVariants.{OutOfMemory}
use Rattle.wasm_values.specs.declared.store_id.StoreId.{StoreId}
use Rattle.wasm_values.specs.declared.values.Val.{Val}
use Rattle.spec_machine.specs.Commands.{Row, Instantiate}
use Rattle.spec_machine.specs.Machine.{Machine}
use Rattle.spec_machine.specs.declared.reply.Reply.{Reply}
use Rattle.spec_machine.specs.declared.reply.Reply.TheVariants as reply
use Rattle.spec_execution.specs.Askings.{Asking}
use Rattle.spec_reach.specs.Nodes.{Node}
use Rattle.spec_reach.specs.Outside.{SameOutside}
use Rattle.spec_reach.specs.Reach.{in_object, reach}
use Rattle.spec_reach.specs.ReachLaws.{HoldsReach}
use Rattle.spec_reach.specs.Roots.{in_val}
use Rattle.law_store.specs.Later.{Extends}
use Rattle.law_confined.specs.Laws.{KeepsReach}
use Rattle.law_confined.specs.Shown.{unshown}
use Rattle.wasm_call.specs.Calls.{call_row}
use Rattle.wasm_call.specs.Outcomes.{Called}
use Rattle.wasm_call.specs.Outside.{Moving, Surrounded}

-- ---- a change of a store

-- it keeps to what leads from these nodes: nothing outside of that is changed, and nothing outside of it is reached
-- afterwards from it and from all that is new. So it keeps to each set that holds these nodes and all that its members
-- lead to
pub record KeepsTo (from : List Node) (m after : Machine) : Type 0 where
  pub outside : SameOutside (reach m from) m after
  pub reaches : KeepsReach m after (reach m from)
  pub outside_sets : (set : List Node) → HoldsReach m from set → SameOutside set m after
  pub reaches_sets : (set : List Node) → HoldsReach m from set → KeepsReach m after set

-- ---- a command by its row

-- what was heard in it, whether it gave a reply or memory ran out
abbrev pub heard_in : {T H E : Type 0} (moves : Moving T H E) (row : Row) (old new : Surrounded T H E)
    (result : Result Reply NoMemory) → Called moves row old result new → List Asking
heard_in moves row old new (Ok answer) l = l.heard
heard_in moves row old new (Err none) (inl k) = k.led.heard
heard_in moves row old new (Err none) (inr k) = k.led.heard

-- it ended so, and kept to what leads from these nodes, and from the functions that bodies of the host handed out in it
-- and were not shown; each object is there still, of its type and no smaller
pub record Confined {T H E : Type 0} (moves : Moving T H E) (row : Row) (from : List Node) (old : Surrounded T H E)
    (result : Result Reply NoMemory) (new : Surrounded T H E) : Type 0 where
  pub ran : Called moves row old result new
  pub keeps :
      KeepsTo (from ++ unshown old.store.machine.id (heard_in moves row old new result ran)) old.store.machine
      new.store.machine
  pub later : Extends old.store.machine new.store.machine

-- the reply that a host is told, or that memory ran out
abbrev pub told : {A : Type 0} → (A → Reply) → Result A Refusal → Result Reply NoMemory
told answer (Ok a) = Ok (answer a)
told answer (Err OutOfMemory) = Err (record {})
told answer (Err why) = Ok (reply.Refused why)

-- ---- calls and instantiations

-- a function by its handle, and the functions among the arguments
abbrev pub handled : StoreId → Func → List Val → List Node
handled id f args = in_object id (x.Func f) ++ flat_map (in_val id) args

-- of a call that left these values, where it returned
abbrev pub CallConfined : {T H E A : Type 0} → Moving T H E → Func → List Val → Option ℕ → Surrounded T H E →
    Result A Refusal → List Val → Surrounded T H E → Type 0
CallConfined moves f args wanted old result vals new =
    Confined moves (call_row old.store.machine f args wanted) (handled old.store.machine.id f args) old
    (told (λ done. reply.Values vals) result) new

abbrev pub InstantiationConfined : {T H E : Type 0} → Moving T H E → ModuleDecl → List Extern → Surrounded T H E →
    Result Instance Refusal → Surrounded T H E → Type 0
InstantiationConfined moves d imports old result new =
    Confined moves (Instantiate d imports) (flat_map (in_object old.store.machine.id) imports) old
    (told (λ made. reply.Instance made) result) new
