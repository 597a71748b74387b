-- The text of small sessions, and what words ask for, each by computation.
use Rattle.std.proofs.Common.{◌≡◌, ℕ, pos, List, [], ◌∷◌, Option, Some, None, refl}
use Rattle.std.specs.Prelude.{codes}
use Rattle.std.specs.Fmt.{digits}
use Rattle.wasm_values.specs.declared.refusals.Refusal.TheVariants as refusal
use Rattle.wasm_values.specs.declared.values.Val.TheVariants as v
use Rattle.wasm_meter.specs.declared.call_hook.CallHook.{CallHook}
use Rattle.wasm_meter.specs.declared.call_hook.CallHook.TheVariants as event
use Rattle.wasm_meter.specs.declared.lists.HookAnswer.{HookAnswer}
use Rattle.spec_machine.specs.Machine.{Machine}
use Rattle.spec_machine.specs.declared.reply.Reply.TheVariants as reply
use Rattle.script_commands.specs.HostAnswers.{no_answers}
use Rattle.script_commands.specs.declared.engine.ScriptEngine.{ScriptEngine}
use Rattle.script_commands.specs.declared.script.Script.{Script}
use Rattle.script_data.specs.HostData.{script_data}
use Rattle.script_host.specs.ScriptSteps.{host_parts}
use Rattle.script_generated.specs.Scripts.{generated}
use Rattle.script_generated.specs.declared.words.Origin.TheVariants.{Input, Generated}
use Rattle.wasm_run.specs.Sessions.{SessionParts, RunOf, due, empty, holding, script_parts, task_of}
use Rattle.wasm_run.specs.Statuses.{finished_text, text_of}
use Rattle.wasm_run.specs.declared.status.Status.TheVariants.{BadWords}

-- a script that has a hook or not; the text says no more of it
abbrev script : ScriptEngine → Option (List HookAnswer) → Script
script engine hook = script_parts engine [] (record no_answers { hook = hook }) [] []

-- three finished commands, and three notes, the last of which has no text
abbrev session : Machine → List ℕ → List CallHook → SessionParts
session m notes_after events = holding m 0 (record (script_data no_answers) { events = events })
    (host_parts [] 0 (codes "Got 3" ∷ codes "again" ∷ [] ∷ []))
    (reply.Number 1 ∷ reply.Values (v.I32 (pos 7) ∷ []) ∷ reply.Refused refusal.NoReply ∷ []) notes_after 0

-- the notes of a command stand before its line
in_the_second : (engine : ScriptEngine) (m : Machine) → text_of Input (script engine None) (session m (0 ∷ 3 ∷ 3 ∷ []) []) ≡ codes "ok 1\nnote Got 3\nnote again\nnote\nok values i32:7\nrefused NoReply\n"
unfolding digits
in_the_second engine m = refl

in_the_first_and_the_last : (engine : ScriptEngine) (m : Machine) → text_of Input (script engine None) (session m (2 ∷ 2 ∷ 3 ∷ []) []) ≡ codes "note Got 3\nnote again\nok 1\nok values i32:7\nnote\nrefused NoReply\n"
unfolding digits
in_the_first_and_the_last engine m = refl

-- the notes of a command that is not finished are not written
unfinished : (m : Machine) → finished_text Input (session m (1 ∷ 1 ∷ 2 ∷ []) []) ≡ codes "note Got 3\nok 1\nok values i32:7\nnote again\nrefused NoReply\n"
unfolding digits
unfinished m = refl

-- the hook's line stands behind all
hooked : (engine : ScriptEngine) (m : Machine) → text_of Input (script engine (Some [])) (session m (0 ∷ 2 ∷ 3 ∷ []) (event.CallingWasm ∷ event.CallingHost ∷ [])) ≡ codes "ok 1\nnote Got 3\nnote again\nok values i32:7\nnote\nrefused NoReply\nhooks CallingWasm CallingHost\n"
unfolding digits
hooked engine m = refl

-- nothing is written of an empty session
nothing : finished_text Input empty ≡ []
nothing = refl

-- of a generated session that is run to its end the summary is written, and else nothing
generated_text : (engine : ScriptEngine) (m : Machine) → text_of (Generated 7) (script engine None) (session m (0 ∷ 3 ∷ 3 ∷ []) []) ≡ codes "gen 7\ncommands 3 refused 1\nrefused NoReply\n"
unfolding digits
generated_text engine m = refl

generated_in_part : (m : Machine) → finished_text (Generated 7) (session m (1 ∷ 1 ∷ 2 ∷ []) []) ≡ []
generated_in_part m = refl

-- ---- what words ask for, whatever the input is

seven_calls : (input : List ℕ) → task_of (codes "gen" ∷ codes "7" ∷ []) input ≡ RunOf (Generated 7) (generated 7)
seven_calls input = refl

no_calls : (input : List ℕ) → due (codes "gen" ∷ codes "0" ∷ []) input ≡ BadWords
no_calls input = refl

two_words : (input : List ℕ) → due (codes "run" ∷ codes "run" ∷ []) input ≡ BadWords
two_words input = refl
