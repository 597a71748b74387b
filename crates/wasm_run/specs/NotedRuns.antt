-- A run of commands on a script's store, with how many notes its host had behind each. This project's own.
use Rattle.std.specs.Prelude.{◌≡◌, ℕ, ◌+◌, List, ◌++◌, length, take, Some, slice_get}
use Rattle.wasm_syntax.specs.declared.declarations.ModuleDecl.{ModuleDecl}
use Rattle.spec_machine.specs.declared.command.Command.{Command}
use Rattle.spec_machine.specs.declared.reply.Reply.{Reply}
use Rattle.spec_execution.specs.Askings.{Asking}
use Rattle.wasm_call.specs.Outside.{Readings, Surrounded, Hears}
use Rattle.wasm_session.specs.Sessions.{Runs, StopsIn}
use Rattle.script_data.specs.declared.script_data.ScriptData.{ScriptData}
use Rattle.script_host.specs.ScriptSteps.{HostParts}
use Rattle.wasm_run.specs.Relations.{script_relations}

-- a source of epochs that goes by these readings, and what a run begins with
module _ {E : Type 0} (readings : Readings E) (modules : List ModuleDecl) (commands : List Command)
    (old : Surrounded ScriptData HostParts E) (replies : List Reply) where
  -- when the command at this place was finished the host had so many notes: it and those before it were run, by a front of
  -- what was heard
  pub record IsCount (heard : List Asking) (new : Surrounded ScriptData HostParts E) (place count : ℕ) : Type 0 where
    pub mid : Surrounded ScriptData HostParts E
    pub so_far : List Reply
    pub ran : Runs (script_relations readings) modules (take (place + 1) commands) old replies mid so_far
    pub later : List Asking
    pub in_order : heard ≡ ran.heard ++ later
    pub goes_on : Hears (script_relations readings) mid later new
    pub counted : count ≡ length mid.host.notes

  abbrev pub AreCounts : List Asking → Surrounded ScriptData HostParts E → List ℕ → Type 0
  AreCounts heard new counts = (place count : ℕ) → slice_get counts place ≡ Some count → IsCount heard new place count

  -- the commands were run in order, and there is a count for each
  pub record RunsNoted (new : Surrounded ScriptData HostParts E) (all : List Reply) (counts : List ℕ) : Type 0 where
    pub runs : Runs (script_relations readings) modules commands old replies new all
    pub counted : length counts ≡ length commands
    pub counts_are : AreCounts runs.heard new counts

  -- the first commands were run, and there is a count for each of them; the next one was ended for want of memory
  pub record StopsNoted (turns : ℕ) (new : Surrounded ScriptData HostParts E) (all : List Reply) (counts : List ℕ) :
      Type 0 where
    pub stops : StopsIn (script_relations readings) modules commands turns old replies new all
    pub counted : length counts ≡ stops.finished
    pub counts_are : AreCounts stops.stops.heard new counts
