-- What each status says of the input, of the session and of the sink. This project's own.
use Rattle.std.specs.Prelude.{◌≡◌, ◌≢◌, ℕ, ◌+◌, ◌≤◌, ◌⊎◌, List, [], length, take, Bool, true, false, Option, Some, None, is_some}
use Rattle.wasm_meter.specs.declared.call_hook.CallHook.{CallHook}
use Rattle.spec_execution.specs.Askings.{answers_in}
use Rattle.spec_execution.specs.Runs.{state}
use Rattle.law_confined.specs.RunLaws.{RunConfinesNamed, StopConfinesNamed}
use Rattle.wasm_call.specs.Outside.{Readings}
use Rattle.wasm_streams.specs.Streams.{after, Fronts}
use Rattle.script_lines.specs.Lines.{noted_lines_of, noted_session_lines}
use Rattle.script_commands.specs.declared.script.Script.{Script}
use Rattle.script_generated.specs.Summaries.{summary}
use Rattle.script_generated.specs.Words.{origin_of}
use Rattle.script_generated.specs.declared.words.Origin.{Origin}
use Rattle.script_generated.specs.declared.words.Origin.TheVariants.{Input, Generated}
use Rattle.wasm_run.specs.Buffers.{IsCutShort}
use Rattle.wasm_run.specs.ModuleFaults.{first_invalid}
use Rattle.wasm_run.specs.Sessions.{SessionParts, Task, NoRun, RunOf, task_of, empty, limit, events_in, noted_replies, HasRun, HasStopped}
use Rattle.wasm_run.specs.Starts.{start}
use Rattle.wasm_run.specs.declared.status.Status.{Status}
use Rattle.wasm_run.specs.declared.status.Status.TheVariants.{Done, BadWords, ReadFault, TooLong, BadJson, BadScript, InvalidModule, OutOfMemory, WriteFault}

-- the events that a hook was told of, where there is one
abbrev pub hook_events : Bool → List CallHook → Option (List CallHook)
hook_events false events = None
hook_events true events = Some events

-- the text of a script that was run to a stop. Of one that was read: the lines of the finished commands, one for each
-- reply, behind those of the notes that were taken while its command ran. Of one that was generated: none
abbrev pub finished_text : Origin → SessionParts → List ℕ
finished_text Input h = noted_lines_of (noted_replies h)
finished_text (Generated n) h = []

-- the text of a script that was run to its end. Of one that was read: these lines and, where there is a hook, one of the
-- events that its data kept. Of one that was generated: its summary
abbrev pub whole_text : Origin → Bool → SessionParts → List ℕ
whole_text Input hooked h = noted_session_lines (noted_replies h) (hook_events hooked (events_in h.store))
whole_text (Generated n) hooked h = summary n h.replies

abbrev pub text_of : Origin → Script → SessionParts → List ℕ
text_of origin script h = whole_text origin (is_some script.answers.hook) h

-- by whether it was run to its end, and whether there is a hook
abbrev pub text_when : Origin → Bool → Bool → SessionParts → List ℕ
text_when origin true hooked h = whole_text origin hooked h
text_when origin false hooked h = finished_text origin h

-- the words ask for a session; of an input so many bytes were taken at most, and where none is asked for, nothing was
pub record Took (words : List (List ℕ)) (taken : List ℕ) : Type 0 where
  pub asked : origin_of words ≢ None
  pub within : length taken ≤ limit
  pub nothing : origin_of words ≢ Some Input → taken ≡ []

-- nothing came of it: the session is empty, nothing was written, and no epoch was read
pub record Quiet {E : Type 0} (epochs epochs_after : E) (h : SessionParts) (old new : Option (List ℕ)) : Type 0 where
  pub session : h ≡ empty
  pub sink : new ≡ old
  pub unread : epochs_after ≡ epochs

-- a source of epochs that goes by these readings, before and after
module _ {E : Type 0} (readings : Readings E) (epochs epochs_after : E) (h : SessionParts) (script : Script) where
  -- the script was run to its end, and each command left all as it was outside of what leads from the objects that it names
  pub record RanConfined : Type 0 where
    pub ran : HasRun readings script epochs epochs_after h
    pub confined : RunConfinesNamed script.modules (start script (answers_in ran.heard)) script.commands

  -- the script was run to a stop, and so it is with each finished command and with the unfinished one
  pub record StoppedConfined : Type 0 where
    pub stopped : HasStopped readings script epochs epochs_after h
    pub finished :
        RunConfinesNamed script.modules (start script (answers_in stopped.heard)) (take stopped.finished script.commands)
    pub unfinished :
        StopConfinesNamed script.modules (start script (answers_in stopped.heard)) script.commands stopped.finished
        (state stopped.machine h.turns h.replies stopped.heard [])

-- and the sink, before and after
module _ {E : Type 0} (readings : Readings E) (epochs epochs_after : E) (h : SessionParts) (old new : Option (List ℕ))
  where
    -- no module of the script breaks a rule, the script was run to its end, and its text was written
    pub record Finished (origin : Origin) (script : Script) : Type 0 where
      pub valid : first_invalid 0 script.modules ≡ None
      pub ran : RanConfined readings epochs epochs_after h script
      pub wrote : new ≡ after (text_of origin script h) old

    -- the script was run to its end and a front of its text was written, or it was run to a stop and a front of the text
    -- that is due then was
    abbrev pub RunInPart : Origin → Script → Type 0
    RunInPart origin script =
        (RanConfined readings epochs epochs_after h script × Fronts (text_of origin script h) old new)
        ⊎ (StoppedConfined readings epochs epochs_after h script × Fronts (finished_text origin h) old new)

    -- no module of the script breaks a rule, and it was run or written in part
    pub record PartlyWritten (origin : Origin) (script : Script) : Type 0 where
      pub valid : first_invalid 0 script.modules ≡ None
      pub ran : RunInPart origin script

    -- the script was run to its end and its text is cut short, or it was run to a stop and a front of the text that is due
    -- then was written
    abbrev pub RunShort : Origin → Script → Type 0
    RunShort origin script =
        (RanConfined readings epochs epochs_after h script × IsCutShort (text_of origin script h) old new)
        ⊎ (StoppedConfined readings epochs epochs_after h script × Fronts (finished_text origin h) old new)

    -- no module of the script breaks a rule, and memory ran out while it was run, or before its last line was written
    pub record ShortOfMemory (origin : Origin) (script : Script) : Type 0 where
      pub valid : first_invalid 0 script.modules ≡ None
      pub ran : RunShort origin script

    -- the task is the run of a script, which was run and answered
    pub record Answered (task : Task) : Type 0 where
      pub origin : Origin
      pub script : Script
      pub asks : task ≡ RunOf origin script
      pub finished : Finished origin script

    -- the task is the run of a script, which was run to its end or to a stop and not answered to the end
    pub record Broken (task : Task) : Type 0 where
      pub origin : Origin
      pub script : Script
      pub asks : task ≡ RunOf origin script
      pub stopped : PartlyWritten origin script

    -- the task is the run of a script, for whose run or text the memory did not suffice
    pub record BrokenShort (task : Task) : Type 0 where
      pub origin : Origin
      pub script : Script
      pub asks : task ≡ RunOf origin script
      pub stopped : ShortOfMemory origin script

    abbrev pub IsQuietly : Type 0
    IsQuietly = Quiet epochs epochs_after h old new

    -- what a status says of a task for which all that is to be read was read, of the session, and of the sink before and
    -- after
    abbrev pub Ends : Task → Status → Type 0
    Ends task Done = Answered task
    Ends task BadWords = ⊥
    Ends task ReadFault = ⊥
    Ends task TooLong = ⊥
    Ends task BadJson = (task ≡ NoRun BadJson) × IsQuietly
    Ends task BadScript = (task ≡ NoRun BadScript) × IsQuietly
    Ends task (InvalidModule n rule place) = (task ≡ NoRun (InvalidModule n rule place)) × IsQuietly
    Ends task OutOfMemory = IsQuietly ⊎ BrokenShort task
    Ends task WriteFault = Broken task

    -- what a status says of the words, of the bytes that were taken, of the session, and of the sink before and after
    abbrev pub Says : List (List ℕ) → List ℕ → Status → Type 0
    Says words taken Done = Took words taken × Ends (task_of words taken) Done
    Says words taken BadWords = (origin_of words ≡ None) × (taken ≡ []) × IsQuietly
    Says words taken ReadFault = (origin_of words ≡ Some Input) × (length taken ≤ limit) × IsQuietly
    Says words taken TooLong = (origin_of words ≡ Some Input) × (length taken ≡ limit + 1) × IsQuietly
    Says words taken BadJson = Took words taken × Ends (task_of words taken) BadJson
    Says words taken BadScript = Took words taken × Ends (task_of words taken) BadScript
    Says words taken (InvalidModule n rule place) =
        Took words taken × Ends (task_of words taken) (InvalidModule n rule place)
    Says words taken OutOfMemory = Took words taken × Ends (task_of words taken) OutOfMemory
    Says words taken WriteFault = Took words taken × Ends (task_of words taken) WriteFault

-- the statuses that, where an input is asked for, come only after the source gave its end
abbrev pub IsOfWhole : Status → Type 0
IsOfWhole Done = Unit {0}
IsOfWhole BadWords = ⊥
IsOfWhole ReadFault = ⊥
IsOfWhole TooLong = ⊥
IsOfWhole BadJson = Unit {0}
IsOfWhole BadScript = Unit {0}
IsOfWhole (InvalidModule n rule place) = Unit {0}
IsOfWhole OutOfMemory = ⊥
IsOfWhole WriteFault = Unit {0}

-- the statuses that the words and the input decide
abbrev pub IsDecided : Status → Type 0
IsDecided Done = Unit {0}
IsDecided BadWords = Unit {0}
IsDecided ReadFault = ⊥
IsDecided TooLong = Unit {0}
IsDecided BadJson = Unit {0}
IsDecided BadScript = Unit {0}
IsDecided (InvalidModule n rule place) = Unit {0}
IsDecided OutOfMemory = ⊥
IsDecided WriteFault = ⊥

-- the statuses with which nothing came of the session
abbrev pub IsQuiet : Status → Type 0
IsQuiet Done = ⊥
IsQuiet BadWords = Unit {0}
IsQuiet ReadFault = Unit {0}
IsQuiet TooLong = Unit {0}
IsQuiet BadJson = Unit {0}
IsQuiet BadScript = Unit {0}
IsQuiet (InvalidModule n rule place) = Unit {0}
IsQuiet OutOfMemory = ⊥
IsQuiet WriteFault = ⊥
