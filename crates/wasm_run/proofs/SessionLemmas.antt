-- What a session holds after a run.
use Rattle.std.proofs.Common.{inl, inr, ◌≡◌, ℕ, ◌+◌, List, [], ◌++◌, length, take, Option, Some, None, refl, ap, sym, ◌∙◌, subst, arith, true≢false}
use Rattle.std.specs.Prelude.{◌&&◌, Bool, true, false, is_some, is_ok, Result, Ok, Err, OnOk, OnErr}
use Rattle.std.proofs.lemmas.List.{append-nil}
use Rattle.std.proofs.lemmas.Option.{same_Some}
use Rattle.wasm_types.specs.Each.{Each}
use Rattle.wasm_syntax.specs.declared.declarations.ModuleDecl.{ModuleDecl}
use Rattle.wasm_meter.specs.declared.call_hook.CallHook.{CallHook}
use Rattle.spec_machine.specs.Machine.{Machine}
use Rattle.spec_machine.specs.declared.command.Command.{Command}
use Rattle.spec_machine.specs.declared.reply.Reply.{Reply}
use Rattle.law_store.specs.Rows.{AsksLimiterAlone}
use Rattle.law_store.proofs.RefusedCommandLemmas.{alone_runs_no_code}
use Rattle.law_code.specs.RunLaws.{Unasked}
use Rattle.law_code.proofs.PlainRuns.{run_unasked, stop_unasked}
use Rattle.spec_execution.specs.Askings.{Answer, Asking, Outside, Chain, answers_in}
use Rattle.spec_execution.specs.Runs.{State, state, run, IsStop}
use Rattle.law_confined.proofs.NamedConfinement.{runs_confine_named, stops_confine_named}
use Rattle.wasm_call.specs.Outside.{Readings, Surrounded, outside, surrounded, turns_heard}
use Rattle.wasm_call.specs.Runs.{state_of}
use Rattle.wasm_store.specs.Stores.{StoreParts, store_parts}
use Rattle.wasm_streams.specs.Streams.{after, Fronts}
use Rattle.script_lines.specs.Lines.{noted_from, noted_lines_of, noted_session_lines}
use Rattle.script_commands.specs.declared.engine.ScriptEngine.{ScriptEngine}
use Rattle.script_commands.specs.declared.host_answers.HostAnswers.{HostAnswers}
use Rattle.script_commands.specs.declared.host_bodies.Action.{Action}
use Rattle.script_commands.specs.declared.script.Script.{Script}
use Rattle.script_data.specs.declared.script_data.ScriptData.{ScriptData}
use Rattle.script_generated.specs.declared.words.Origin.{Origin}
use Rattle.script_generated.specs.declared.words.Origin.TheVariants.{Input}
use Rattle.script_host.specs.ScriptSteps.{HostParts}
use Rattle.law_scripts.specs.Literals.{AreByNames}
use Rattle.wasm_run.specs.Buffers.{IsCutShort}
use Rattle.wasm_run.specs.ModuleFaults.{first_invalid}
use Rattle.wasm_run.specs.NotedRuns.{AreCounts, RunsNoted, StopsNoted}
use Rattle.wasm_run.specs.Relations.{script_relations, around_script}
use Rattle.wasm_run.specs.Sessions.{SessionParts, RunOf, session_parts, script_parts, outside_at_first, events_in, noted_replies, task_by_modules, task_for, AreNoted, HasRun, HasStopped}
use Rattle.wasm_run.specs.Starts.{Starts, start, start_data, start_host, start_machine}
use Rattle.wasm_run.specs.Statuses.{hook_events, finished_text, text_of, text_when, whole_text, RanConfined, StoppedConfined, RunInPart, RunShort, Answered, Broken, BrokenShort}
use Rattle.wasm_run.proofs.ShownBodies.{unshown_none}

unlimited : (engine : ScriptEngine) (answers : HostAnswers) (s : StoreParts ScriptData) → Starts engine answers s →
    answers.limiter ≡ None → s.machine.is_limited ≡ false
unlimited engine answers s h none = ap (λ (m : Machine). m.is_limited) h.machine ∙ ap is_some none

starting : (script : Script) (s : StoreParts ScriptData) → Starts script.engine script.answers s →
    (answers : List Answer) → state_of s [] [] (answers ++ []) ≡ start script answers
starting script s h answers =
    ap (λ (m : Machine). state m s.turns [] [] (answers ++ [])) h.machine
    ∙ ap (λ (turns : ℕ). state (start_machine script.engine script.answers) turns [] [] (answers ++ [])) h.turns
    ∙ ap (λ (left : List Answer). start script left) (append-nil answers)

module _ {E : Type 0} (readings : Readings E) (script : Script) (old new : StoreParts ScriptData)
    (host : HostParts) (e e' : E) where
  abbrev around_old : Surrounded ScriptData HostParts E
  around_old = surrounded old (start_host script.bodies) e

  abbrev around_new : Surrounded ScriptData HostParts E
  around_new = surrounded new host e'

  -- what is outside of the store before the first command is what is outside of the script
  chaining : (heard : List Asking) (mid : Outside ScriptData HostParts E) → Starts script.engine script.answers old →
      Chain (script_relations readings) (outside around_old) heard mid →
      Chain (script_relations readings) (outside_at_first readings script e e') heard mid
  chaining heard mid h c =
      let P : ScriptData → Type 0 = λ d.
      Chain (script_relations readings) (around_script d (start_host script.bodies) e) heard mid in
      subst P h.host_data c

  -- nothing was heard on the way from one state to another where nobody is asked
  unheard_run : (s t : State) → Each script.commands AsksLimiterAlone → s.machine.is_limited ≡ false →
      run script.modules s script.commands ≡ Some t → t.heard ≡ s.heard
  unheard_run s t plain free ran =
      let u : Unasked s (run script.modules s script.commands) =
      run_unasked script.modules s script.commands plain free in
      let same : u.state ≡ t = same_Some u.state t (sym u.found ∙ ran) in
      ap (λ (x : State). x.heard) (sym same) ∙ u.is.heard

  -- the counts of notes are those of the script
  counted : (heard : List Asking) (replies : List Reply) (counts : List ℕ) (turns : ℕ) →
      Starts script.engine script.answers old →
      AreCounts readings script.modules script.commands around_old [] heard around_new counts →
      AreNoted readings script e e' heard new.host_data (session_parts (Some new) host replies counts turns)
  counted heard replies counts turns h are place count found =
      let k = are place count found in
      record {
        machine = k.mid.store.machine;
        last = k.mid.store.turns;
        so_far = k.so_far;
        mid = outside k.mid;
        before = k.ran.heard;
        later = k.later;
        in_order = k.in_order;
        chained = chaining k.ran.heard (outside k.mid) h k.ran.chained;
        goes_on = k.goes_on;
        ran =
            ap (λ (s : State). run script.modules s (take (place + 1) script.commands))
            (sym (starting script old h (answers_in k.ran.heard)))
            ∙ k.ran.ends [] [];
        counted = k.counted;
      }

  pub has_run : (all : List Reply) (counts : List ℕ) → Starts script.engine script.answers old →
      RunsNoted readings script.modules script.commands around_old [] around_new all counts →
      length all ≡ 0 + length script.commands →
      HasRun readings script e e' (session_parts (Some new) host all counts 0)
  has_run all counts h n as_many =
      let r = n.runs in
      record {
        machine = new.machine;
        last = new.turns;
        host_data = new.host_data;
        heard = r.heard;
        chained = chaining r.heard (outside around_new) h r.chained;
        ran =
            ap (λ (s : State). run script.modules s script.commands) (sym (starting script old h (answers_in r.heard)))
            ∙ r.ends [] [];
        state_is = refl;
        answered = omega (arith, as_many);
        counted = n.counted;
        noted = counted r.heard all counts 0 h n.counts_are;
        unasked = λ none plain. unheard_run (state_of old [] [] (answers_in r.heard ++ []))
            (state_of new all r.heard []) plain (unlimited script.engine script.answers old h none) (r.ends [] []);
      }

  stop_at : (n turns : ℕ) (s s' t t' : State) → s ≡ s' → t ≡ t' →
      IsStop script.modules s script.commands n turns t → IsStop script.modules s' script.commands n turns t'
  stop_at n turns s s' t t' p q h =
      let P : State → Type 0 = λ x. IsStop script.modules x script.commands n turns t in
      let Q : State → Type 0 = λ y. IsStop script.modules s' script.commands n turns y in
      subst Q q (subst P p h)

  pub has_stopped : (turns : ℕ) (all : List Reply) (counts : List ℕ) → Starts script.engine script.answers old →
      StopsNoted readings script.modules script.commands around_old [] turns around_new all counts →
      HasStopped readings script e e' (session_parts (Some new) host all counts turns)
  has_stopped turns all counts h n =
      let s = n.stops in
      let k = s.stops in
      let unheard : script.answers.limiter ≡ None → Each script.commands AsksLimiterAlone → k.heard ≡ [] =
      λ none plain. (stop_unasked script.modules (state_of old [] [] (answers_in k.heard ++ []))
      (state_of new all k.heard []) script.commands s.finished plain
      (unlimited script.engine script.answers old h none) turns (k.stop [] [])).heard in
      record {
        machine = new.machine;
        host_data = new.host_data;
        finished = s.finished;
        unfinished = s.unfinished;
        heard = k.heard;
        chained = chaining k.heard (outside around_new) h k.chained;
        stop = stop_at s.finished turns _ _ _ _ (starting script old h (answers_in k.heard))
            (ap (λ (t : ℕ). state new.machine t all k.heard []) s.told) (k.stop [] []);
        state_is =
            ap (λ (t : ℕ). session_parts (Some (store_parts new.machine t new.host_data)) host all counts turns) s.told;
        answered = omega (arith, s.answered);
        counted = n.counted;
        noted = counted k.heard all counts turns h n.counts_are;
        unasked = unheard;
        no_turn = λ none plain. omega (
          arith,
          s.questions (λ n c at. alone_runs_no_code c (plain n c at)),
          ap turns_heard (unheard none plain),
        );
      }

-- ---- what came of a text

-- the lines that are written of a script that was read, by their parts
lines_are : (h : SessionParts) (finished hooked : Bool) →
    noted_session_lines (noted_replies h) (hook_events (finished && hooked) (events_in h.store))
    ≡ text_when Input finished hooked h
lines_are h true hooked = refl
lines_are h false hooked = append-nil (noted_lines_of (noted_replies h))

pub lines_of_parts : (h : SessionParts) (counts : List ℕ) (notes : List (List ℕ)) (replies : List Reply)
    (events : List CallHook) (finished hooked due : Bool) → counts ≡ h.notes_after → notes ≡ h.host.notes →
    replies ≡ h.replies → events ≡ events_in h.store → due ≡ (finished && hooked) →
    noted_session_lines (noted_from 0 counts notes replies) (hook_events due events) ≡ text_when Input finished hooked h
lines_of_parts h counts notes replies events finished hooked due c n r e d =
    ap (λ (x : List ℕ). noted_session_lines (noted_from 0 x notes replies) (hook_events due events)) c
    ∙ ap (λ (x : List (List ℕ)). noted_session_lines (noted_from 0 h.notes_after x replies) (hook_events due events)) n
    ∙ ap (λ (x : List Reply). noted_session_lines (noted_from 0 h.notes_after h.host.notes x) (hook_events due events)) r
    ∙ ap (λ (x : List CallHook). noted_session_lines (noted_replies h) (hook_events due x)) e
    ∙ ap (λ (x : Bool). noted_session_lines (noted_replies h) (hook_events x (events_in h.store))) d
    ∙ lines_are h finished hooked

-- what is known of a script once it was run, by its parts
module _ {E : Type 0} (readings : Readings E) (epochs epochs_after : E) (h : SessionParts) (old new : Option (List ℕ))
    (origin : Origin) (script : Script) (by_names : AreByNames script.bodies)
    (valid : first_invalid 0 script.modules ≡ None) (modules : List ModuleDecl) (commands : List Command)
    (bodies : List (List Action)) (m : modules ≡ script.modules) (c : commands ≡ script.commands)
    (b : bodies ≡ script.bodies) (store : StoreParts ScriptData)
    (begins : Starts script.engine script.answers store) where
  abbrev RanBy : Type 0
  RanBy =
      (engine : ScriptEngine) (answers : HostAnswers) → Starts engine answers store →
      HasRun readings (script_parts engine modules answers bodies commands) epochs epochs_after h

  abbrev StoppedBy : Type 0
  StoppedBy =
      (engine : ScriptEngine) (answers : HostAnswers) → Starts engine answers store →
      HasStopped readings (script_parts engine modules answers bodies commands) epochs epochs_after h

  has_run_by : RanBy → HasRun readings script epochs epochs_after h
  has_run_by ran =
      let P : List ModuleDecl → Type 0 = λ ms.
      HasRun readings (script_parts script.engine ms script.answers bodies commands) epochs epochs_after h in
      let Q : List (List Action) → Type 0 = λ bs.
      HasRun readings (script_parts script.engine script.modules script.answers bs commands) epochs epochs_after h in
      let R : List Command → Type 0 = λ cs.
      HasRun readings (script_parts script.engine script.modules script.answers script.bodies cs) epochs epochs_after
      h in
      subst R c (subst Q b (subst P m (ran script.engine script.answers begins)))

  has_stopped_by : StoppedBy → HasStopped readings script epochs epochs_after h
  has_stopped_by stopped =
      let P : List ModuleDecl → Type 0 = λ ms.
      HasStopped readings (script_parts script.engine ms script.answers bodies commands) epochs epochs_after h in
      let Q : List (List Action) → Type 0 = λ bs.
      HasStopped readings (script_parts script.engine script.modules script.answers bs commands) epochs epochs_after
      h in
      let R : List Command → Type 0 = λ cs.
      HasStopped readings (script_parts script.engine script.modules script.answers script.bodies cs) epochs
      epochs_after h in
      subst R c (subst Q b (subst P m (stopped script.engine script.answers begins)))

  -- no body of a script hands out a function that it was not shown, so what its commands name is all that they reach
  run_confined : HasRun readings script epochs epochs_after h → RanConfined readings epochs epochs_after h script
  run_confined r = record {
    ran = r;
    confined =
        runs_confine_named script.modules (start script (answers_in r.heard)) script.commands
        (state r.machine r.last h.replies r.heard []) r.ran
        (λ id. unshown_none readings script by_names id epochs (start_data script.answers) r.heard _ r.chained);
  }

  stop_confined : HasStopped readings script epochs epochs_after h → StoppedConfined readings epochs epochs_after h script
  stop_confined s =
      let k = stops_confine_named script.modules (start script (answers_in s.heard)) script.commands s.finished h.turns
      (state s.machine h.turns h.replies s.heard []) s.stop
      (λ id. unshown_none readings script by_names id epochs (start_data script.answers) s.heard _ s.chained) in
      record { stopped = s; finished = k.0; unfinished = k.1 }

  -- it is the task of its origin
  task_is : task_for origin script ≡ RunOf origin script
  task_is = ap (task_by_modules origin script) valid

  module _ (hooked : Bool) (k : hooked ≡ is_some script.answers.hook) (finished : Bool) where
    abbrev WrittenOf : (List ℕ → Type 0) → Type 0
    WrittenOf P = P (text_when origin finished hooked h)

    -- of one that was run to its end, what holds of the text that is due holds of its own
    whole : (P : List ℕ → Type 0) → finished ≡ true → WrittenOf P → P (text_of origin script h)
    whole P f p =
        let Q : Bool → Type 0 = λ x. P (text_when origin x hooked h) in
        let R : Bool → Type 0 = λ x. P (whole_text origin x h) in
        subst R k (subst Q f p)

    stopped_text : (P : List ℕ → Type 0) → finished ≡ false → WrittenOf P → P (finished_text origin h)
    stopped_text P f p = let Q : Bool → Type 0 = λ x. P (text_when origin x hooked h) in subst Q f p

    -- it was run to its end, and all of its text was written
    pub answered : {A F : Type 0} (r : Result A F) → finished ≡ is_ok r → OnOk r RanBy → finished ≡ true →
        WrittenOf (λ text. new ≡ after text old) →
        Answered readings epochs epochs_after h old new (task_for origin script)
    answered (Err f) d ran f' wrote = absurd (true≢false (sym f' ∙ d))
    answered (Ok a) d ran f' wrote = record {
      origin = origin;
      script = script;
      asks = task_is;
      finished = record {
        valid = valid;
        ran = run_confined (has_run_by ran);
        wrote = whole (λ text. new ≡ after text old) f' wrote;
      };
    }

    in_part : {A F : Type 0} (r : Result A F) → finished ≡ is_ok r → OnOk r RanBy → OnErr r StoppedBy →
        WrittenOf (λ text. Fronts text old new) → RunInPart readings epochs epochs_after h old new origin script
    in_part (Ok a) d ran stopped front = inl (run_confined (has_run_by ran), whole (λ text. Fronts text old new) d front)
    in_part (Err f) d ran stopped front =
        inr (stop_confined (has_stopped_by stopped), stopped_text (λ text. Fronts text old new) d front)

    -- it was run to its end or to a stop, and a front was written
    pub broken : {A F : Type 0} (r : Result A F) → finished ≡ is_ok r → OnOk r RanBy → OnErr r StoppedBy →
        WrittenOf (λ text. Fronts text old new) →
        Broken readings epochs epochs_after h old new (task_for origin script)
    broken r d ran stopped front = record {
      origin = origin;
      script = script;
      asks = task_is;
      stopped = record { valid = valid; ran = in_part r d ran stopped front };
    }

    run_short : {A F : Type 0} (r : Result A F) → finished ≡ is_ok r → OnOk r RanBy → OnErr r StoppedBy →
        WrittenOf (λ text. Fronts text old new) → (finished ≡ true → WrittenOf (λ text. IsCutShort text old new)) →
        RunShort readings epochs epochs_after h old new origin script
    run_short (Ok a) d ran stopped front cut =
        inl (run_confined (has_run_by ran), whole (λ text. IsCutShort text old new) d (cut d))
    run_short (Err f) d ran stopped front cut =
        inr (stop_confined (has_stopped_by stopped), stopped_text (λ text. Fronts text old new) d front)

    -- it was run to its end and its text is cut short, or it was run to a stop and a front was written
    pub broken_short : {A F : Type 0} (r : Result A F) → finished ≡ is_ok r → OnOk r RanBy → OnErr r StoppedBy →
        WrittenOf (λ text. Fronts text old new) → (finished ≡ true → WrittenOf (λ text. IsCutShort text old new)) →
        BrokenShort readings epochs epochs_after h old new (task_for origin script)
    broken_short r d ran stopped front cut = record {
      origin = origin;
      script = script;
      asks = task_is;
      stopped = record { valid = valid; ran = run_short r d ran stopped front cut };
    }
