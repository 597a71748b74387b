-- What a script begins with. This project's own.
use Rattle.std.specs.Prelude.{◌≡◌, Bool, true, false, List, [], is_some}
use Rattle.std.proofs.Common.{lit<, lit≤}
use Rattle.wasm_values.specs.declared.store_id.StoreId.{StoreId}
use Rattle.spec_machine.specs.Machine.{EngineParts, Machine, Numbers, numbers, new_machine}
use Rattle.spec_execution.specs.Askings.{Answer}
use Rattle.spec_execution.specs.Runs.{State, state}
use Rattle.wasm_store.specs.Meters.{limited}
use Rattle.wasm_store.specs.Stores.{StoreParts}
use Rattle.script_commands.specs.declared.engine.ScriptEngine.{ScriptEngine}
use Rattle.script_commands.specs.declared.host_answers.HostAnswers.{HostAnswers}
use Rattle.script_commands.specs.declared.host_answers.LimiterAnswers.{LimiterAnswers}
use Rattle.script_commands.specs.declared.host_bodies.Action.{Action}
use Rattle.script_commands.specs.declared.script.Script.{Script}
use Rattle.script_data.specs.HostData.{limiter_by, script_data}
use Rattle.script_data.specs.declared.script_data.ScriptData.{ScriptData}
use Rattle.script_host.specs.ScriptSteps.{HostParts, host_parts}

-- the first id of a new source of ids: 1
abbrev pub first_id : StoreId
first_id = record { raw = record { value = 1; ok = lit< tt }; within = lit≤ tt }

-- the engine of a script: its number is 1, and the rest is as the script says
abbrev pub script_engine : ScriptEngine → EngineParts
script_engine engine = record {
  number = 1;
  consumes_fuel = engine.consumes_fuel;
  reads_epochs = engine.reads_epochs;
  frames = engine.frames;
  turns = engine.turns;
}

-- the most of what instantiation makes, as a limiter says
abbrev pub most_by : LimiterAnswers → Numbers
most_by limiter = numbers limiter.instances limiter.memories limiter.tables

-- the store of a script before its first command: there are no objects in it, what instantiation makes is bounded by the
-- limiter of the script, or by 10,000 each, and a limiter, a hook and a deadline behaviour are asked where the script has
-- answers of one
abbrev pub start_machine : ScriptEngine → HostAnswers → Machine
start_machine engine answers = record (new_machine first_id (script_engine engine)) {
  limits = most_by (limiter_by answers.limiter);
  is_limited = is_some answers.limiter;
  is_hooked = is_some answers.hook;
  is_behaving = is_some answers.deadline;
}

-- and the host data: the script's number, and no answer was given yet
abbrev pub start_data : HostAnswers → ScriptData
start_data answers = script_data answers

-- and the host: the script's bodies, of which none has failed or taken a note yet
abbrev pub start_host : List (List Action) → HostParts
start_host bodies = host_parts bodies 0 []

-- this store, with no turn taken and no reply, and the answers that are left
abbrev pub start : Script → List Answer → State
start script left = state (start_machine script.engine script.answers) 0 [] [] left

-- a store of a script before its first command
pub record Starts (engine : ScriptEngine) (answers : HostAnswers) (s : StoreParts ScriptData) : Type 0 where
  pub machine : s.machine ≡ start_machine engine answers
  pub turns : s.turns ≡ 0
  pub host_data : s.host_data ≡ start_data answers

-- the machine of a store that keeps this data, once the limiter is asked, or not
abbrev pub limited_by : Bool → ScriptData → Machine → Machine
limited_by false host_data m = m
limited_by true host_data m =
    limited m (numbers host_data.answers.instances host_data.answers.memories host_data.answers.tables)
