-- A run of a function on the objects of a store, apart from the store. This project's own.
use Rattle.std.specs.Global.{Global}
use Rattle.std.specs.Prelude.{◌≡◌, ℕ, ◌≤◌, List, Option, Result, Ok, Err, Vec}
use Rattle.wasm_types.specs.declared.value_types.ValType.{ValType}
use Rattle.wasm_objects.specs.declared.raw.RawVal.{RawVal}
use Rattle.wasm_values.specs.declared.refusals.Refusal.{Refusal}
use Rattle.wasm_values.specs.declared.refusals.Refusal.TheVariants as refusal
use Rattle.wasm_values.specs.declared.values.Val.{Val}
use Rattle.spec_machine.specs.Machine.{Machine}
use Rattle.spec_execution.specs.Askings.{Outside, Answer, Asking}
use Rattle.spec_execution.specs.Entering.{values_at}
use Rattle.spec_execution.specs.Outcomes.{World, world}
use Rattle.law_code.specs.Answers.{AreTyped}
use Rattle.law_code.specs.Good.{IsReturned}
use Rattle.store_state.specs.Engines.{engine_parts}
use Rattle.store_state.specs.Parts.{HeldParts}
use Rattle.store_state.specs.declared.engine.Engine.{Engine}
use Rattle.store_state.specs.declared.flags.Flags.{Flags}
use Rattle.code_leaps.specs.Leading.{Setting}
use Rattle.code_hosts.specs.Entering.{calling}
use Rattle.code_hosts.specs.Replies.{Comes}
use Rattle.code_hosts.specs.declared.bounds.Bounds.{Bounds}
use Rattle.code_hosts.specs.declared.replies.How.{How}
use Rattle.code_hosts.specs.declared.replies.How.TheVariants as how
use Rattle.code_hosts.specs.declared.replies.Reply.{Reply}
use Rattle.code_hosts.specs.declared.replies.Unfinished.{Unfinished}
use Rattle.code_hosts.specs.Hosting.{opened}
use Rattle.code_hosts.specs.Replies.{BreaksOff}
use Rattle.store_objects.specs.Machines.{store_of}
use Rattle.store_objects.specs.declared.objects.ObjectParts.{ObjectParts}
use Rattle.wasm_store.specs.Stores.{StoreParts, store_parts}
use Rattle.wasm_call.specs.Outside.{Moving}

-- the store of these objects; and with so many turns and this host data
abbrev pub machine_in : ObjectParts → Machine
machine_in p = store_of p.id p.engine p.flags p.program p.held

abbrev pub store_in : {T : Type 0} → ObjectParts → ℕ → T → StoreParts T
store_in p turns host_data = store_parts (machine_in p) turns host_data

-- what bounds a run, by the engine and by whom the store asks
abbrev pub bounds_in : Engine → Flags → ℕ → Bounds
bounds_in engine flags turns = record {
  rules = record {
    frames = (engine_parts engine).frames;
    consumes_fuel = (engine_parts engine).consumes_fuel;
    reads_epochs = (engine_parts engine).reads_epochs;
    limited = flags.limited;
    behaving = flags.behaving;
  };
  hooked = flags.hooked;
  turns = turns;
}

-- the stores of a run on these objects
abbrev pub setting_in : ObjectParts → ℕ → Setting HeldParts
setting_in p turns = opened p.program (bounds_in p.engine p.flags turns) p.id (engine_parts p.engine)

-- a run of a function, by its number, on these arguments, called by code of an instance or by none, with at most so many
-- turns: what it replied, what is held then, and how what is outside went
module _ {T H E : Type 0} (moves : Moving T H E) (p : ObjectParts) (n : ℕ) (args : List RawVal) (turns : ℕ)
    (old : Outside T H E) (held : HeldParts) (new : Outside T H E) where
  abbrev pub RunReplies : Reply → Option ℕ → Type 0
  RunReplies reply caller =
      Comes (setting_in p turns) moves (calling n args caller) p.held old turns reply held new

  -- there was no memory, in the run or in a step of a body of the host
  abbrev pub RunUnfinishes : Unfinished → Option ℕ → Type 0
  RunUnfinishes u caller =
      BreaksOff (setting_in p turns) moves (calling n args caller) p.held old turns u held new

-- by the laws of code a function returns values of these types, or ends early, with at most so many turns
abbrev pub IsSafe : Machine → ℕ → List RawVal → Option ℕ → List ValType → ℕ → Type 0
IsSafe m n args caller types most =
    (turns : ℕ) (heard : List Asking) (answers : List Answer) → turns ≤ most → AreTyped answers →
    (base : World) × IsReturned base types (calling n args caller (world m turns heard answers))

-- the operands fitted, as those of valid code do
abbrev pub IsUnstuck : How → Type 0
IsUnstuck how.Stuck = ⊥
IsUnstuck h = Unit {0}

-- what a host is told of a run of a function with these results: its results as values, for which there may be no
-- memory; or why there are none
abbrev pub Tells : Machine → List ValType → How → Result (Vec Val Global) Refusal → Type 0
Tells m types (how.Returned v) (Ok vals) = vals.items ≡ values_at m types v.items
Tells m types (how.Returned v) (Err why) = why ≡ refusal.OutOfMemory
Tells m types (how.Trapped t) told = told ≡ Err (refusal.Trap t)
Tells m types (how.Refused why) told = told ≡ Err why
Tells m types how.TurnLimit told = told ≡ Err refusal.TurnLimit
Tells m types how.Stuck told = ⊥
