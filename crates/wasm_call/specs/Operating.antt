-- The store of a call, apart from the objects that a run holds: operations that bodies of the host ask for put its
-- objects into it. This project's own.
use Rattle.std.specs.Prelude.{◌≡◌, ◌⊎◌, ℕ, [], ⊤}
use Rattle.wasm_values.specs.declared.store_id.StoreId.{StoreId}
use Rattle.spec_machine.specs.FunctionCalls.{Called}
use Rattle.spec_machine.specs.Machine.{Machine, EngineParts}
use Rattle.spec_machine.specs.Names.{Scope}
use Rattle.spec_machine.specs.Values.{function_type}
use Rattle.spec_machine.specs.declared.operation.Op.{Op}
use Rattle.spec_machine.specs.declared.reply.Reply.{Reply}
use Rattle.spec_execution.specs.Outcomes.{World, Outcome}
use Rattle.store_state.specs.Machine.{type_named}
use Rattle.store_state.specs.Parts.{ProgramParts, HeldParts}
use Rattle.code_leaps.specs.Leading.{Setting, Halts, Leads}
use Rattle.code_hosts.specs.declared.bounds.Bounds.{Bounds}
use Rattle.code_hosts.specs.Hosting.{opened}
use Rattle.code_hosts.specs.Operating.{operating, invoking, IsDue, Operates, OperatesBy, Misses}
use Rattle.code_hosts.specs.declared.operations.Operated.{Operated}
use Rattle.code_hosts.specs.declared.operations.Operation.{Operation}
use Rattle.store_objects.specs.Machines.{emptied}
use Rattle.wasm_call.specs.Alone.{codeless}
use Rattle.wasm_call.specs.Outside.{Growths, Readings, Surrounded, outside}

-- it has this id and this engine, it asks whom the bounds of the call say, and these are the bounds of the engine; it has
-- no objects
pub record Fits (m : Machine) (bounds : Bounds) (id : StoreId) (engine : EngineParts) : Type 0 where
  pub id_is : m.id ≡ id
  pub engine_is : m.engine ≡ engine
  pub limited_is : m.is_limited ≡ bounds.rules.limited
  pub hooked_is : m.is_hooked ≡ bounds.hooked
  pub behaving_is : m.is_behaving ≡ bounds.rules.behaving
  pub frames_are : bounds.rules.frames ≡ engine.frames
  pub fuel_is : bounds.rules.consumes_fuel ≡ engine.consumes_fuel
  pub epochs_are : bounds.rules.reads_epochs ≡ engine.reads_epochs
  pub empty : m ≡ emptied m

-- what no operation changes: the id and the engine, the functions and the instances, and whom the store asks
pub record KeepsRead (m after : Machine) : Type 0 where
  pub id_is : after.id ≡ m.id
  pub engine_is : after.engine ≡ m.engine
  pub functions_are : after.functions ≡ m.functions
  pub instances_are : after.instances ≡ m.instances
  pub limited_is : after.is_limited ≡ m.is_limited
  pub hooked_is : after.is_hooked ≡ m.is_hooked
  pub behaving_is : after.is_behaving ≡ m.is_behaving

-- with this held, each store of the call is this machine
abbrev pub IsHeld : Setting HeldParts → HeldParts → Machine → Type 0
IsHeld g h m = (base : Machine) → g.is_base base → g.put base h ≡ m

-- the functions of a machine have the types that a program gives them
abbrev pub AreTypes : ProgramParts → Machine → Type 0
AreTypes program m = (n : ℕ) → function_type m n ≡ type_named program n

-- of each call whose stores are one machine with what was held before, and another with what was held then
abbrev pub InCalls : Machine → Machine → (ProgramParts → Bounds → StoreId → EngineParts → HeldParts → HeldParts → Type 0) →
    Type 0
InCalls m after Says =
    (program : ProgramParts) (bounds : Bounds) (id : StoreId) (engine : EngineParts) (h h' : HeldParts) →
    AreTypes program m → IsHeld (opened program bounds id engine) h m → IsHeld (opened program bounds id engine) h' after →
    Says program bounds id engine h h'

-- an operation on a store, with what is outside around it: what it came to, or that there was no memory
module _ {T E : Type 0} (growths : Growths T) (readings : Readings E) (scope : Scope) (op : Op) (left : ℕ)
    (old new : Surrounded T ⊤ E) where
  abbrev pub Does : Operation → Type 0
  Does d = InCalls old.store.machine new.store.machine (λ program bounds id engine h h'.
      Operates (opened program bounds id engine) program (codeless growths readings) scope op h (outside old) left d h'
      (outside new))

  abbrev pub Lacks : ℕ → Type 0
  Lacks spent = InCalls old.store.machine new.store.machine (λ program bounds id engine h h'.
      Misses (opened program bounds id engine) program (codeless growths readings) scope op h (outside old) left spent h'
      (outside new))

-- the same of what takes no turn, asks nothing and leaves the machine
module _ (scope : Scope) (op : Op) (m : Machine) where
  abbrev pub ComesTo : Operated → Type 0
  ComesTo what = InCalls m m (λ program bounds id engine h h'. (left : ℕ) →
      OperatesBy (opened program bounds id engine) program scope op h left 0 [] h' what)

  abbrev pub WantsRoom : Type 0
  WantsRoom = InCalls m m (λ program bounds id engine h h'.
      ((depth : ℕ) (go : World → Reply → Outcome) → IsDue go →
      Halts (opened program bounds id engine) (operating scope op depth go) h 0 [] h')
      ⊎ ((called : Called) × ((depth : ℕ) (go : World → Reply → Outcome) →
      Leads (opened program bounds id engine) (operating scope op depth go) h 0 [] (invoking called depth go) h')))
