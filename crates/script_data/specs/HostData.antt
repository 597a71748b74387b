-- What a script keeps in its store, and what it answers. All of it is this project's own.
use Rattle.std.specs.Prelude.{◌≡◌, List, [], Option, Some, None, Bool, false, ⊤, Result, Ok, Err}
use Rattle.wasm_meter.specs.Counting.{Rose}
use Rattle.wasm_meter.specs.Lists.{GrowsByList, HooksByList, BehavesByList}
use Rattle.wasm_meter.specs.ListLaws as laws
use Rattle.wasm_meter.specs.declared.call_hook.CallHook.{CallHook}
use Rattle.wasm_meter.specs.declared.deadline.UpdateDeadline.{UpdateDeadline}
use Rattle.wasm_meter.specs.declared.faults.BehaviourFailed.{BehaviourFailed}
use Rattle.wasm_meter.specs.declared.faults.HookFailed.{HookFailed}
use Rattle.wasm_meter.specs.declared.faults.LimiterFailed.{LimiterFailed}
use Rattle.wasm_meter.specs.declared.lists.BehaviourAnswer.{BehaviourAnswer}
use Rattle.wasm_meter.specs.declared.lists.HookAnswer.{HookAnswer}
use Rattle.wasm_meter.specs.declared.lists.ListedData.{ListedData}
use Rattle.script_commands.specs.declared.host_answers.HostAnswers.{HostAnswers}
use Rattle.script_commands.specs.declared.host_answers.LimiterAnswers.{LimiterAnswers}
use Rattle.script_data.specs.Events.{with_event}
use Rattle.script_data.specs.declared.script_data.ScriptData.{ScriptData}

-- the answers of a list, none where there is no list
abbrev pub given : {A : Type 0} → Option (List A) → List A
given None = []
given (Some answers) = answers

-- a limiter, or one that grants all
abbrev pub limiter_by : Option LimiterAnswers → LimiterAnswers
limiter_by None = record { instances = 10000; tables = 10000; memories = 10000; answers = [] }
limiter_by (Some limiter) = limiter

-- host data of these answers, of which none was given yet
abbrev pub answering : LimiterAnswers → List HookAnswer → List BehaviourAnswer → ListedData
answering limiter hooks behaviours = record {
  instances = limiter.instances;
  tables = limiter.tables;
  memories = limiter.memories;
  growths = limiter.answers;
  denials = 0;
  limiter_faults = 0;
  hooks = hooks;
  hook_faults = 0;
  behaviours = behaviours;
  behaviour_faults = 0;
}

-- what a script keeps in its store before its first command
abbrev pub script_data : HostAnswers → ScriptData
script_data answers = record {
  number = answers.number;
  answers = answering (limiter_by answers.limiter) (given answers.hook) (given answers.deadline);
  events = [];
}

-- the limiter gives the next answer
abbrev pub GrowsByScript : ScriptData → Result Bool LimiterFailed → ScriptData → Type 0
GrowsByScript s answer t = (t ≡ record s { answers = t.answers }) × GrowsByList s.answers answer t.answers

-- the hook gives the next answer, and the event is kept
abbrev pub HooksByScript : ScriptData → CallHook → Result ⊤ HookFailed → ScriptData → Type 0
HooksByScript s event answer t =
    (t ≡ record s { answers = t.answers; events = with_event s.events event }) × HooksByList s.answers answer t.answers

-- the deadline behaviour gives the next answer
abbrev pub BehavesByScript : ScriptData → Result UpdateDeadline BehaviourFailed → ScriptData → Type 0
BehavesByScript s answer t = (t ≡ record s { answers = t.answers }) × BehavesByList s.answers answer t.answers

-- the laws of its counts
pub growth_denies : (s t : ScriptData) → GrowsByScript s (Ok false) t → Rose s.answers.denials t.answers.denials
growth_denies s t h = laws.growth_denies s.answers t.answers h.1.0 h.1.1

pub growth_fails : (s t : ScriptData) (fault : LimiterFailed) → GrowsByScript s (Err fault) t → Rose s.answers.limiter_faults t.answers.limiter_faults
growth_fails s t fault h = laws.growth_fails s.answers t.answers fault h.1.0 h.1.1

pub hook_fails : (s t : ScriptData) (event : CallHook) (fault : HookFailed) → HooksByScript s event (Err fault) t → Rose s.answers.hook_faults t.answers.hook_faults
hook_fails s t event fault h = laws.hook_fails s.answers t.answers fault h.1.0 h.1.1

pub behaviour_fails : (s t : ScriptData) (fault : BehaviourFailed) → BehavesByScript s (Err fault) t → Rose s.answers.behaviour_faults t.answers.behaviour_faults
behaviour_fails s t fault h = laws.behaviour_fails s.answers t.answers fault h.1.0 h.1.1
