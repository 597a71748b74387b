-- What a run that was recorded or replayed comes to, by what its parts tell.
use Rattle.std.proofs.Common.{◌≡◌, ℕ, false, List, [], ◌++◌, Some, None, refl, ap, subst, ◌∙◌}
use Rattle.std.specs.Prelude.{codes, is_some}
use Rattle.serde_json.specs.Data.{Data}
use Rattle.serde_json.specs.Written.{compact_text, has_float}
use Rattle.wasm_types.specs.Signatures.{Signature}
use Rattle.wasm_syntax.specs.declared.declarations.ModuleDecl.{ModuleDecl}
use Rattle.spec_machine.specs.declared.command.Command.{Command}
use Rattle.spec_machine.specs.declared.reply.Reply.{Reply}
use Rattle.law_replay.specs.Tapes.{TapeParts}
use Rattle.wasm_call.specs.Outside.{Readings}
use Rattle.wasm_store.specs.Stores.{StoreParts}
use Rattle.wasm_tape.specs.Read.{tape_in}
use Rattle.wasm_tape.specs.Written.{tape_data}
use Rattle.script_commands.specs.declared.engine.ScriptEngine.{ScriptEngine}
use Rattle.script_commands.specs.declared.host_answers.HostAnswers.{HostAnswers}
use Rattle.script_commands.specs.declared.script.Script.{Script}
use Rattle.script_data.specs.declared.script_data.ScriptData.{ScriptData}
use Rattle.script_lines.specs.Lines.{lines_of}
use Rattle.wasm_replay.specs.Calls.{IsFresh, Records, Spends}
use Rattle.wasm_replay.specs.Kept.{KeptParts}
use Rattle.wasm_replay.specs.ReplayCalls.{RanReplayed}
use Rattle.wasm_replay.specs.declared.ends.ReplayEnd.{ReplayEnd}
use Rattle.wasm_replay.specs.declared.recorded.Recorded.{Recorded}
use Rattle.wasm_replay.specs.declared.replayed.Replayed.{Replayed}
use Rattle.wasm_run.specs.Starts.{start_host}
use Rattle.spec_machine.specs.Machine.{Machine}
use Rattle.replay_run.specs.Inputs.{Typed, typed}
use Rattle.replay_run.specs.Lines.{tape_line, end_line}
use Rattle.replay_run.specs.Runs.{HasRecorded, HasSpent, HasReplayed, bodies_of, script_moves}
use Rattle.replay_run.specs.SessionSteps.{session_host}
use Rattle.replay_run.specs.Starts.{IsUnhooked, IsRecordedStart, IsReplayedStart, room}
use Rattle.replay_run.specs.Statuses.{IsWritten, NotRecorded, RecordsAs, ReplaysAs}
use Rattle.replay_run.specs.Tellings.{IsLineFault, IsTapeLine}
use Rattle.replay_run.specs.declared.host.SessionHost.{SessionHost}
use Rattle.replay_run.specs.declared.status.Status.{Status}
use Rattle.replay_run.specs.declared.status.Status.TheVariants.{Session, Hooked, BadTape, UnknownType, RoomSpent, NotSame}
use Rattle.wasm_run.specs.declared.status.Status.TheVariants as session
use Rattle.replay_run.proofs.TapeTexts.{written_plain}

-- ---- runs

-- a store of a script before its first command can be recorded
pub is_fresh :
    (engine : ScriptEngine) (answers : HostAnswers) (s : StoreParts (Recorded ScriptData)) → IsUnhooked answers
    → IsRecordedStart engine answers s → IsFresh s
is_fresh engine answers s u b = record {
  kept = ap (λ (k : KeptParts _). k.items) b.kept;
  past = b.past;
  off = (
    ap (λ (m : Machine). m.is_hooked) b.starts.machine ∙ ap is_some u.hook,
    ap (λ (m : Machine). m.is_behaving) b.starts.machine ∙ ap is_some u.deadline,
  );
}

module _ {E : Type 0} (readings : Readings E) (epochs epochs_after : E) (script : Script)
    (old new : StoreParts (Recorded ScriptData)) (host host_after : SessionHost) (bodies : ℕ) (modules : List ModuleDecl)
    (commands : List Command) (before : List Reply)
    (begins : IsRecordedStart script.engine script.answers old) (b : bodies ≡ bodies_of script)
    (m : modules ≡ script.modules) (c : commands ≡ script.commands) (h : host ≡ session_host (start_host script.bodies))
    (r : before ≡ []) where
  -- a record of its commands is one of the script
  pub has_recorded :
      (tape : TapeParts) (replies : List Reply)
      → Records (script_moves readings bodies) bodies modules commands room tape old host epochs before new host_after
      epochs_after replies
      → HasRecorded readings epochs epochs_after script tape replies
  has_recorded tape replies k =
      record { old = old; new = new; host = host_after; begins = begins; records = rw (b, m, c, h, r) at k }

  pub has_spent :
      (replies : List Reply)
      → Spends (script_moves readings bodies) bodies modules commands room old host epochs before new host_after
      epochs_after replies
      → HasSpent readings epochs epochs_after script
  has_spent replies k = record {
    old = old;
    new = new;
    host = host_after;
    replies = replies;
    begins = begins;
    spends = rw (b, m, c, h, r) at k;
  }

-- and so is a replay
pub has_replayed :
    (script : Script) (tape : TapeParts) (old new : StoreParts Replayed) (bodies : ℕ) (modules : List ModuleDecl)
    (commands : List Command) (before replies : List Reply) (ended : ReplayEnd)
    → IsReplayedStart script.engine script.answers tape old → bodies ≡ bodies_of script → modules ≡ script.modules
    → commands ≡ script.commands → before ≡ []
    → RanReplayed bodies modules commands tape old before new replies ended → HasReplayed script tape replies ended
has_replayed script tape old new bodies modules commands before replies ended begins b m c r k =
    record { old = old; new = new; begins = begins; ran = rw (b, m, c, r) at k }

-- ---- texts

pub is_tape_line :
    (types : List Signature) (tape : TapeParts) (value : Data) (text line : List ℕ)
    → tape_data types tape ≡ Some value → tape_in types value ≡ Some tape
    → (has_float value ≡ false → text ≡ compact_text value) → line ≡ text ++ codes "\n" → IsTapeLine types tape line
is_tape_line types tape value text line w back plain e = record {
  value = value;
  value_is = record { written = w; comes_back = back };
  line_is = e ∙ ap (λ (x : List ℕ). x ++ codes "\n") (plain (written_plain types tape value w));
}

pub records_as :
    {E : Type 0} (readings : Readings E) (epochs epochs_after : E) (script : Script) (types numbered : List Signature)
    (tape : TapeParts) (replies listed : List Reply) (line text : List ℕ)
    → HasRecorded readings epochs epochs_after script tape replies → numbered ≡ types → IsTapeLine numbered tape line
    → listed ≡ replies → text ≡ line ++ lines_of listed → RecordsAs readings epochs epochs_after (typed script types) text
records_as readings epochs epochs_after script types numbered tape replies listed line text ran n l r e =
    let told : IsTapeLine types tape line = subst (λ (x : List Signature). IsTapeLine x tape line) n l in
    record {
      tape = tape;
      replies = replies;
      ran = ran;
      value = told.value;
      value_is = told.value_is;
      text_is =
          e ∙ ap (λ (x : List Reply). line ++ lines_of x) r ∙ ap (λ (x : List ℕ). x ++ lines_of replies) told.line_is;
    }

-- there is no line of a tape, so no text of a record
pub line_fault :
    {E : Type 0} (readings : Readings E) (epochs epochs_after : E) (script : Script) (types numbered : List Signature)
    (tape : TapeParts) (replies : List Reply) (s : Status)
    → HasRecorded readings epochs epochs_after script tape replies → numbered ≡ types → IsLineFault numbered tape s
    → NotRecorded readings epochs epochs_after (typed script types) s
line_fault readings e0 e1 script types numbered tape replies (Session session.Done) ran n f = absurd f
line_fault readings e0 e1 script types numbered tape replies (Session session.BadWords) ran n f = absurd f
line_fault readings e0 e1 script types numbered tape replies (Session session.ReadFault) ran n f = absurd f
line_fault readings e0 e1 script types numbered tape replies (Session session.TooLong) ran n f = absurd f
line_fault readings e0 e1 script types numbered tape replies (Session session.BadJson) ran n f = absurd f
line_fault readings e0 e1 script types numbered tape replies (Session session.BadScript) ran n f = absurd f
line_fault readings e0 e1 script types numbered tape replies (Session (session.InvalidModule m rule place)) ran n f =
    absurd f
line_fault readings e0 e1 script types numbered tape replies (Session session.OutOfMemory) ran n f = tt
line_fault readings e0 e1 script types numbered tape replies (Session session.WriteFault) ran n f = absurd f
line_fault readings e0 e1 script types numbered tape replies Hooked ran n f = absurd f
line_fault readings e0 e1 script types numbered tape replies BadTape ran n f = absurd f
line_fault readings e0 e1 script types numbered tape replies UnknownType ran n f = record {
  tape = tape;
  replies = replies;
  ran = ran;
  unwritten = subst (λ (x : List Signature). tape_data x tape ≡ None) n f;
}
line_fault readings e0 e1 script types numbered tape replies RoomSpent ran n f = absurd f
line_fault readings e0 e1 script types numbered tape replies NotSame ran n f = absurd f

pub replays_as :
    (script : Script) (tape : TapeParts) (replies listed : List Reply) (ended : ReplayEnd) (first lines text : List ℕ)
    → HasReplayed script tape replies ended → first ≡ [] → listed ≡ replies → lines ≡ first ++ lines_of listed
    → text ≡ lines ++ end_line ended → ReplaysAs script tape ended text
replays_as script tape replies listed ended first lines text ran f r l e = record {
  replies = replies;
  ran = ran;
  text_is =
      e
      ∙ ap (λ (x : List ℕ). x ++ end_line ended)
      (l ∙ ap (λ (x : List Reply). first ++ lines_of x) r ∙ ap (λ (x : List ℕ). x ++ lines_of replies) f);
}
