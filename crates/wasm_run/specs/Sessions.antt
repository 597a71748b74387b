-- Sessions: what is due for an input, and what a session holds. This project's own.
use Rattle.std.specs.Prelude.{◌≡◌, ℕ, ◌+◌, ◌<◌, List, [], ◌∷◌, ◌++◌, length, take, nat_le, slice_get, if◌then◌else◌, Option, Some, None}
use Rattle.wasm_types.specs.Each.{Each}
use Rattle.wasm_syntax.specs.declared.declarations.ModuleDecl.{ModuleDecl}
use Rattle.wasm_syntax.specs.declared.module_fault.Place.{Place}
use Rattle.wasm_syntax.specs.declared.module_fault.Rule.{Rule}
use Rattle.wasm_meter.specs.declared.call_hook.CallHook.{CallHook}
use Rattle.spec_machine.specs.Machine.{Machine}
use Rattle.spec_machine.specs.declared.command.Command.{Command}
use Rattle.spec_machine.specs.declared.reply.Reply.{Reply}
use Rattle.law_store.specs.Rows.{AsksLimiterAlone}
use Rattle.spec_execution.specs.Askings.{Asking, Outside, Chain, answers_in}
use Rattle.spec_execution.specs.Runs.{state, run, IsStop}
use Rattle.wasm_call.specs.Outside.{Readings}
use Rattle.script_commands.specs.Scripts.{Spelling, NoJson, NoScript, Spells, spelling}
use Rattle.script_commands.specs.declared.engine.ScriptEngine.{ScriptEngine}
use Rattle.script_commands.specs.declared.host_answers.HostAnswers.{HostAnswers}
use Rattle.script_commands.specs.declared.host_bodies.Action.{Action}
use Rattle.script_commands.specs.declared.script.Script.{Script}
use Rattle.script_data.specs.declared.script_data.ScriptData.{ScriptData}
use Rattle.script_generated.specs.Scripts.{generated}
use Rattle.script_generated.specs.Words.{origin_of}
use Rattle.script_generated.specs.declared.words.Origin.{Origin}
use Rattle.script_generated.specs.declared.words.Origin.TheVariants.{Input, Generated}
use Rattle.script_host.specs.ScriptSteps.{HostParts, host_parts}
use Rattle.script_lines.specs.Lines.{noted_from}
use Rattle.wasm_store.specs.Stores.{StoreParts, store_parts}
use Rattle.wasm_run.specs.ModuleFaults.{first_invalid}
use Rattle.wasm_run.specs.Relations.{script_relations, around_script}
use Rattle.wasm_run.specs.Starts.{start, start_data, start_host}
use Rattle.wasm_run.specs.declared.status.Status.{Status}
use Rattle.wasm_run.specs.declared.status.Status.TheVariants.{Done, BadWords, TooLong, BadJson, BadScript, InvalidModule}

-- the most bytes of an input: 2^24
abbrev pub limit : ℕ
limit = 16777216

-- what words and a whole input ask for: nothing that can be done, which a status says; or the run of a script that comes
-- from there
pub data Task : Type 0 where
  NoRun : Status → Task
  RunOf : Origin → Script → Task

-- a script is run where none of its modules breaks a rule
abbrev pub task_by_modules : Origin → Script → Option (ℕ × (Rule × Place)) → Task
task_by_modules origin script None = RunOf origin script
task_by_modules origin script (Some invalid) = NoRun (InvalidModule invalid.0 invalid.1.0 invalid.1.1)

abbrev pub task_for : Origin → Script → Task
task_for origin script = task_by_modules origin script (first_invalid 0 script.modules)

abbrev pub task_of_spelling : Spelling → Task
task_of_spelling NoJson = NoRun BadJson
task_of_spelling NoScript = NoRun BadScript
task_of_spelling (Spells script) = task_for Input script

abbrev pub task_of_input : List ℕ → Task
task_of_input input = if nat_le (length input) limit then task_of_spelling (spelling input) else NoRun TooLong

-- a script that is generated asks for no input
abbrev pub task_from : Option Origin → List ℕ → Task
task_from None input = NoRun BadWords
task_from (Some Input) input = task_of_input input
task_from (Some (Generated n)) input = RunOf (Generated n) (generated n)

abbrev pub task_of : List (List ℕ) → List ℕ → Task
task_of words input = task_from (origin_of words) input

abbrev pub status_of : Task → Status
status_of (NoRun status) = status
status_of (RunOf origin script) = Done

-- the status that is due for words and a whole input, where nothing fails and memory does not run out
abbrev pub due : List (List ℕ) → List ℕ → Status
due words input = status_of (task_of words input)

-- where the words ask for an input, it is what a source that tells its bytes had left
abbrev pub HasInput : List (List ℕ) → Option (List ℕ) → List ℕ → Type 0
HasInput words left input = origin_of words ≡ Some Input → left ≡ Some input

-- what a session holds: its store once there is one, the host, the replies of the finished commands, how many notes the
-- host had when each of these was finished, and the turns that the unfinished command made
pub record SessionParts : Type 0 where
  pub store : Option (StoreParts ScriptData)
  pub host : HostParts
  pub replies : List Reply
  pub notes_after : List ℕ
  pub turns : ℕ

abbrev pub session_parts : Option (StoreParts ScriptData) → HostParts → List Reply → List ℕ → ℕ → SessionParts
session_parts store host replies notes_after turns =
    record { store = store; host = host; replies = replies; notes_after = notes_after; turns = turns }

-- no store, and a host without bodies
abbrev pub empty : SessionParts
empty = session_parts None (host_parts [] 0 []) [] [] 0

-- a store that tells the turns of its last command, with what a script keeps in it, and what else a session holds
abbrev pub holding : Machine → ℕ → ScriptData → HostParts → List Reply → List ℕ → ℕ → SessionParts
holding m last host_data host replies notes_after turns =
    session_parts (Some (store_parts m last host_data)) host replies notes_after turns

abbrev pub script_parts : ScriptEngine → List ModuleDecl → HostAnswers → List (List Action) → List Command → Script
script_parts engine modules answers bodies commands =
    record { engine = engine; modules = modules; answers = answers; bodies = bodies; commands = commands }

-- the events that the data of a store kept, where there is a store
abbrev pub events_in : Option (StoreParts ScriptData) → List CallHook
events_in None = []
events_in (Some store) = store.host_data.events

-- the replies of a session, each with the notes that were taken while its command ran
abbrev pub noted_replies : SessionParts → List (List (List ℕ) × Reply)
noted_replies h = noted_from 0 h.notes_after h.host.notes h.replies

-- a source of epochs that goes by these readings, before and after a session
module _ {E : Type 0} (readings : Readings E) (script : Script) (epochs epochs_after : E) where
  -- what is outside of the script before its first command: its data, and its host, which took no notes yet
  abbrev pub outside_at_first : Outside ScriptData HostParts E
  outside_at_first = around_script (start_data script.answers) (start_host script.bodies) epochs

  -- what was heard on the way of the script
  abbrev pub Heard : List Asking → ScriptData → HostParts → Type 0
  Heard heard host_data host =
      Chain (script_relations readings) outside_at_first heard (around_script host_data host epochs_after)

  -- when the command at this place was finished the host had so many notes: it and those before it were run, by a front
  -- of what was heard, which led to a host with so many notes
  pub record IsNoted (heard : List Asking) (host_data : ScriptData) (host : HostParts) (place count : ℕ) : Type 0 where
    pub machine : Machine
    pub last : ℕ
    pub so_far : List Reply
    pub mid : Outside ScriptData HostParts E
    pub before : List Asking
    pub later : List Asking
    pub in_order : heard ≡ before ++ later
    pub chained : Chain (script_relations readings) outside_at_first before mid
    pub goes_on : Chain (script_relations readings) mid later (around_script host_data host epochs_after)
    pub ran :
        run script.modules (start script (answers_in before)) (take (place + 1) script.commands)
        ≡ Some (state machine last so_far before [])
    pub counted : count ≡ length mid.host.notes

  -- and so for each finished command
  abbrev pub AreNoted : List Asking → ScriptData → SessionParts → Type 0
  AreNoted heard host_data h =
      (place count : ℕ) → slice_get h.notes_after place ≡ Some count → IsNoted heard host_data h.host place count

  -- all commands of the script were run over its modules on a store of its engine, each has its reply and its count of
  -- notes, and the store tells the turns that the last one took. Where the script has no limiter, and no command runs code
  -- or reads an epoch, nothing was asked
  pub record HasRun (h : SessionParts) : Type 0 where
    pub machine : Machine
    pub last : ℕ
    pub host_data : ScriptData
    pub heard : List Asking
    pub chained : Heard heard host_data h.host
    pub ran :
        run script.modules (start script (answers_in heard)) script.commands
        ≡ Some (state machine last h.replies heard [])
    pub state_is : h ≡ holding machine last host_data h.host h.replies h.notes_after 0
    pub answered : length h.replies ≡ length script.commands
    pub counted : length h.notes_after ≡ length script.commands
    pub noted : AreNoted heard host_data h
    pub unasked : script.answers.limiter ≡ None → Each script.commands AsksLimiterAlone → heard ≡ []

  -- the first commands were run, and each has its reply and its count of notes; the next one was stopped after so many
  -- turns, which the store tells, too. Where nothing could be asked the unfinished one made no turn
  pub record HasStopped (h : SessionParts) : Type 0 where
    pub machine : Machine
    pub host_data : ScriptData
    pub finished : ℕ
    pub unfinished : finished < length script.commands
    pub heard : List Asking
    pub chained : Heard heard host_data h.host
    pub stop :
        IsStop script.modules (start script (answers_in heard)) script.commands finished h.turns
        (state machine h.turns h.replies heard [])
    pub state_is : h ≡ holding machine h.turns host_data h.host h.replies h.notes_after h.turns
    pub answered : length h.replies ≡ finished
    pub counted : length h.notes_after ≡ finished
    pub noted : AreNoted heard host_data h
    pub unasked : script.answers.limiter ≡ None → Each script.commands AsksLimiterAlone → heard ≡ []
    pub no_turn : script.answers.limiter ≡ None → Each script.commands AsksLimiterAlone → h.turns ≡ 0
