-- What `run_commands` says of the wrappers of a recording, told of what is outside itself.
use Rattle.std.proofs.Common.{◌≡◌, ℕ, zero, suc, List, [], ◌∷◌, ◌++◌, Some, refl, sym, ap, ◌∙◌, subst}
use Rattle.std.specs.Prelude.{Bool, true, false, ◌||◌, Result, Ok, Err, OnOk, IfErr}
use Rattle.std.proofs.lemmas.List.{append-nil}
use Rattle.wasm_types.specs.Each.{Each}
use Rattle.wasm_types.specs.declared.faults.OutOfMemory.{OutOfMemory}
use Rattle.wasm_syntax.specs.declared.declarations.ModuleDecl.{ModuleDecl}
use Rattle.wasm_meter.specs.Growths.{Growth}
use Rattle.wasm_meter.specs.declared.faults.EpochFailed.{EpochFailed}
use Rattle.wasm_meter.specs.declared.faults.LimiterFailed.{LimiterFailed}
use Rattle.spec_machine.specs.declared.command.Command.{Command}
use Rattle.spec_machine.specs.declared.reply.Reply.{Reply}
use Rattle.spec_execution.specs.Askings.{Question, Having, Answer, Has, Asking, View, answers_in, Outside, Chain}
use Rattle.spec_execution.specs.Runs.{State, run}
use Rattle.spec_execution.specs.declared.answer.Answer.{Answer as Say}
use Rattle.spec_execution.specs.declared.answer.Event.{Event}
use Rattle.law_code.specs.Answers.{IsTypedAnswer}
use Rattle.law_hooks.specs.Askers.{Flags, flags_of}
use Rattle.law_replay.specs.Replays.{RanBy, HasIs, HasBelow, IsOff}
use Rattle.law_replay.specs.Tapes.{TapeParts, no_tape, tape_of, IsTapable}
use Rattle.law_replay.specs.declared.step.TapedStep.{TapedStep}
use Rattle.law_replay.proofs.RunAskings.{AskedSince, run_asked}
use Rattle.law_replay.proofs.TapeLemmas.{law_of_tapable}
use Rattle.wasm_host.specs.Hosts.{Steps}
use Rattle.wasm_store.specs.Stores.{StoreParts}
use Rattle.wasm_call.specs.Outside.{Surrounded, surrounded, outside, Hears}
use Rattle.wasm_call.specs.Runs.{state_of}
use Rattle.wasm_session.specs.Sessions.{Runs, StopsIn}
use Rattle.wasm_replay.specs.Calls.{typed, typed_moves, begun, moved_out, Went, RanRecorded, Records, Spends, StopsRecorded, RanLent, IsFresh}
use Rattle.wasm_replay.specs.Kept.{KeptParts, kept}
use Rattle.wasm_replay.specs.Recordings.{Actual, actual, RecordMoves, wrapped}
use Rattle.wasm_replay.specs.declared.recorded.Recorded.{Recorded}
use Rattle.wasm_replay.specs.Wrappers.{TapedEpochs, Taping}
use Rattle.wasm_replay.proofs.RecordChains.{or_false, parts, append, append_before, AllGo, all_go}

-- a run that took all of what it heard, from its very beginning
pub ran_by :
    (modules : List ModuleDecl) (commands : List Command) (s t : State) (heard : List Asking)
    → s.heard ≡ [] → run modules (record s { answers = answers_in heard ++ [] }) commands ≡ Some t → t.heard ≡ heard
    → t.answers ≡ [] → RanBy modules commands s heard t
ran_by modules commands s t heard n e f g = record {
  ran = ap (λ (xs : List Answer). run modules (record s { answers = xs }) commands) (sym (append-nil (answers_in heard))) ∙ e;
  course = f ∙ ap (λ (xs : List Asking). xs ++ heard) (sym n);
  used = g;
}

module _ {T H E : Type 0} (growths : T → Growth → Result Bool LimiterFailed → T → Type 0) (has : H → ℕ → Bool)
    (readings : E → Result ℕ EpochFailed → E → Type 0) (steps : Steps H (Recorded T)) where
  abbrev Moving : ℕ → Actual T H E → Question → Answer → Actual T H E → Type 0
  Moving bodies = RecordMoves growths has readings steps bodies

  has_is :
      (bodies : ℕ) (w v : Actual T H E) (q : Question) (a : Answer) → Moving bodies w q a v → HasIs bodies q a
  has_is bodies w v (Having body) (Has answer) h = h.0
  has_is bodies w v q a h = tt

  chain_has :
      (bodies : ℕ) (heard : List Asking) (w v : Actual T H E) → Chain (typed (Moving bodies)) w heard v
      → HasBelow bodies heard
  chain_has bodies [] w v h n x e = absurd cc
  chain_has bodies (y ∷ heard) w v h zero x e =
      let f : y ≡ x = cc in
      subst (λ (z : Asking). HasIs bodies z.0 z.1) f (has_is bodies w h.0 y.0 y.1 h.1.1)
  chain_has bodies (y ∷ heard) w v h (suc n) x e = chain_has bodies heard h.0 v h.2 n x e

  module _ (keeps : (h k : H) (s t : Recorded T) (body state after : ℕ) (cause : Event) (view : View)
      (what : Result Say OutOfMemory) → steps h s body state cause view after what k t
      → (t.kept ≡ s.kept) × (t.past ≡ s.past)) where
    abbrev TypedMoves : Outside (Recorded T) (Taping H) (TapedEpochs E) → Question → Answer
        → Outside (Recorded T) (Taping H) (TapedEpochs E) → Type 0
    TypedMoves = typed_moves (wrapped growths has readings steps)

    pub went :
        (old new : Surrounded (Recorded T) (Taping H) (TapedEpochs E)) (heard : List Asking)
        → Hears TypedMoves old heard new
        → AllGo growths has readings steps keeps IsTypedAnswer (outside old) heard (outside new)
    went old new heard c = all_go growths has readings steps keeps IsTypedAnswer heard (outside old) (outside new) c

    pub same_host_run :
        (modules : List ModuleDecl) (commands : List Command)
        (old new : Surrounded (Recorded T) (Taping H) (TapedEpochs E)) (replies replies' : List Reply)
        → Runs TypedMoves modules commands old replies new replies'
        → (new.host.host.ghost_name ≡ old.host.host.ghost_name)
        × (new.epochs.epochs.ghost_name ≡ old.epochs.epochs.ghost_name)
        × (new.host.steps.ghost_name ≡ old.host.steps.ghost_name)
        × (new.epochs.kept.ghost_name ≡ old.epochs.kept.ghost_name)
    same_host_run modules commands old new replies replies' r =
        let a = went old new r.heard r.chained in (a.same_host, a.same_epochs, a.same_steps, a.same_readings)

    pub same_host_stop :
        (modules : List ModuleDecl) (commands : List Command) (turns : ℕ)
        (old new : Surrounded (Recorded T) (Taping H) (TapedEpochs E)) (replies replies' : List Reply)
        → StopsIn TypedMoves modules commands turns old replies new replies'
        → (new.host.host.ghost_name ≡ old.host.host.ghost_name)
        × (new.epochs.epochs.ghost_name ≡ old.epochs.epochs.ghost_name)
        × (new.host.steps.ghost_name ≡ old.host.steps.ghost_name)
        × (new.epochs.kept.ghost_name ≡ old.epochs.kept.ghost_name)
    same_host_stop modules commands turns old new replies replies' r =
        let a = went old new r.stops.heard r.stops.chained in (a.same_host, a.same_epochs, a.same_steps, a.same_readings)

    -- from a recording's beginning
    module _ (bodies room : ℕ) (old new : StoreParts (Recorded T)) (h k : Taping H) (e f : TapedEpochs E)
        (is_bodies : h.bodies ≡ bodies) (is_room : e.kept.now ≡ kept [] room) (not_past : e.past ≡ false) where
      abbrev begins : Actual T H E
      begins = begun old h.host.now e.epochs.now room

      begins_so : actual (outside (surrounded old h e)) ≡ begins
      begins_so =
          ap (λ (x : KeptParts (Result ℕ EpochFailed)). let r : Actual T H E = record {
            host_data = old.host_data;
            host = h.host.now;
            epochs = record { source = e.epochs.now; kept = x; past = e.past };
          } in r) is_room
          ∙ ap (λ (x : Bool). let r : Actual T H E = record {
            host_data = old.host_data;
            host = h.host.now;
            epochs = record { source = e.epochs.now; kept = kept [] room; past = x };
          } in r) not_past

      chained :
          (heard : List Asking) → Hears TypedMoves (surrounded old h e) heard (surrounded new k f)
          → Chain (typed (Moving bodies)) begins heard (actual (outside (surrounded new k f)))
      chained heard c =
          subst (λ (w : Actual T H E). Chain (typed (Moving bodies)) w heard (actual (outside (surrounded new k f)))) begins_so
          (subst (λ (n : ℕ). Chain (typed (Moving n)) (actual (outside (surrounded old h e))) heard
          (actual (outside (surrounded new k f)))) is_bodies (went (surrounded old h e) (surrounded new k f) heard c).chained)

      went_so :
          (heard : List Asking) → Hears TypedMoves (surrounded old h e) heard (surrounded new k f)
          → Went (Moving bodies) room old h.host.now e.epochs.now heard (moved_out new) k.host.now f.epochs.now
      went_so heard c = record {
        readings = f.kept.now;
        past = f.past;
        before = new;
        moved = refl;
        chained = chained heard c;
      }

      module _ (modules : List ModuleDecl) (commands : List Command) (replies replies' : List Reply) where
        pub stops_recorded :
            (turns : ℕ)
            → StopsIn TypedMoves modules commands turns (surrounded old h e) replies (surrounded new k f) replies'
            → StopsRecorded (Moving bodies) modules commands turns room old h.host.now e.epochs.now replies (moved_out new)
            k.host.now f.epochs.now replies'
        stops_recorded turns s = record {
          finished = s.finished;
          unfinished = s.unfinished;
          heard = s.stops.heard;
          went = went_so s.stops.heard s.stops.chained;
          stop = s.stops.stop;
          questions = s.questions;
          answered = s.answered;
          told = s.told;
        }

        module _ (no_steps : h.steps.now.items ≡ []) (fresh : IsFresh old)
            (done : Runs TypedMoves modules commands (surrounded old h e) replies (surrounded new k f) replies') where
          ran :
              RanRecorded (Moving bodies) bodies modules commands room old h.host.now e.epochs.now replies (moved_out new)
              k.host.now f.epochs.now replies'
          ran = record {
            heard = done.heard;
            went = went_so done.heard done.chained;
            tapable =
                law_of_tapable bodies modules commands (state_of old replies [] []) done.heard
                (state_of new replies' done.heard []) fresh.off
                (ran_by modules commands (state_of old replies [] []) (state_of new replies' done.heard []) done.heard refl
                (done.ends [] []) refl refl)
                (chain_has bodies done.heard begins (actual (outside (surrounded new k f))) (chained done.heard done.chained));
            ends = done.ends;
          }

          -- what was kept is what was heard
          tape_is :
              (new.host_data.past || f.past) ≡ false
              → parts k.steps.now.items f.kept.now.items new.host_data.kept.items ≡ tape_of done.heard
          tape_is p =
              (went (surrounded old h e) (surrounded new k f) done.heard done.chained).kept p
              ∙ ap (λ (xs : List TapedStep). append (parts xs e.kept.now.items old.host_data.kept.items) (tape_of done.heard))
              no_steps
              ∙ ap (λ (x : KeptParts (Result ℕ EpochFailed)). append (parts [] x.items old.host_data.kept.items) (tape_of done.heard))
              is_room
              ∙ ap (λ (xs : List (Result Bool LimiterFailed)). append (parts [] [] xs) (tape_of done.heard)) fresh.kept
              ∙ append_before (tape_of done.heard)

          pub ran_lent :
              RanLent (Moving bodies) bodies modules commands room old h.host.now e.epochs.now replies new k.host.now
              f.epochs.now replies' k.steps.now.items f.kept.now.items f.past
          unfolding ran went_so
          ran_lent = record { ran = ran; past_is = refl; tape_is = λ p. tape_is p }

-- where a call answered, and where it failed
pub on_ok : {A F : Type 0} (r : Result A F) (P Q : Type 0) → (P → Q) → OnOk r P → OnOk r Q
on_ok (Ok a) P Q f h = f h
on_ok (Err e) P Q f h = h

pub if_err : {A F : Type 0} (r : Result A F) (P Q : F → Type 0) → ((e : F) → P e → Q e) → IfErr r P → IfErr r Q
if_err (Ok a) P Q f h = h
if_err (Err e) P Q f h = f e h

-- what comes of a run over what was lent: a tape, or something was asked past its room
module _ {T H E : Type 0} (moves : Actual T H E → Question → Answer → Actual T H E → Type 0) (bodies : ℕ)
    (modules : List ModuleDecl) (commands : List Command) (room : ℕ) (old new : StoreParts (Recorded T)) (host host' : H)
    (source source' : E) (replies replies' : List Reply) (steps : List TapedStep)
    (readings : List (Result ℕ EpochFailed)) (past : Bool)
    (r : RanLent moves bodies modules commands room old host source replies new host' source' replies' steps readings past)
  where
    pub records :
        (new.host_data.past || past) ≡ false
        → Records moves bodies modules commands room (parts steps readings new.host_data.kept.items) old host source replies
        (moved_out new) host' source' replies'
    records p = record { ran = r.ran; within = r.past_is ∙ p; holds = r.tape_is p }

    pub spends :
        (new.host_data.past || past) ≡ true
        → Spends moves bodies modules commands room old host source replies (moved_out new) host' source' replies'
    spends p = record { ran = r.ran; past = r.past_is ∙ p }

-- a store that was recorded can be recorded again
pub fresh_again :
    {T H E : Type 0} (moves : Actual T H E → Question → Answer → Actual T H E → Type 0) (bodies : ℕ)
    (modules : List ModuleDecl) (commands : List Command) (room : ℕ) (tape : TapeParts)
    (old new : StoreParts (Recorded T)) (host host' : H) (source source' : E) (replies replies' : List Reply)
    → Records moves bodies modules commands room tape old host source replies new host' source' replies' → IsFresh old
    → IsFresh new
fresh_again moves bodies modules commands room tape old new host host' source source' replies replies' r fresh =
    let asked : AskedSince (flags_of old.machine) [] (state_of new replies' r.ran.heard []) =
    run_asked modules commands (state_of old replies [] (answers_in r.ran.heard ++ []))
    (state_of new replies' r.ran.heard []) (r.ran.ends [] []) in
    record {
      kept = ap (λ (s : StoreParts (Recorded _)). s.host_data.kept.items) r.ran.went.moved;
      past =
          ap (λ (s : StoreParts (Recorded _)). s.host_data.past) r.ran.went.moved
          ∙ (or_false r.ran.went.before.host_data.past r.ran.went.past r.within).0;
      off = (
        ap (λ (f : Flags). f.hooked) asked.stays ∙ fresh.off.0,
        ap (λ (f : Flags). f.behaving) asked.stays ∙ fresh.off.1,
      );
    }
