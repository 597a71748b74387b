-- What `run_commands` says of a replay, told of its tape; and a replay of a record is the recorded run.
use Rattle.std.proofs.Common.{◌≡◌, ℕ, zero, suc, List, [], ◌∷◌, Option, None, refl, sym, ap, ◌∙◌, subst}
use Rattle.std.specs.Prelude.{Bool, drop, Result}
use Rattle.std.proofs.lemmas.List.{append-nil}
use Rattle.wasm_syntax.specs.declared.declarations.ModuleDecl.{ModuleDecl}
use Rattle.wasm_meter.specs.declared.faults.EpochFailed.{EpochFailed}
use Rattle.wasm_meter.specs.declared.faults.LimiterFailed.{LimiterFailed}
use Rattle.spec_machine.specs.Machine.{Machine}
use Rattle.spec_machine.specs.declared.command.Command.{Command}
use Rattle.spec_machine.specs.declared.reply.Reply.{Reply}
use Rattle.spec_execution.specs.Askings.{Question, Having, Answer, Has, Asking, answers_in, Chain}
use Rattle.spec_execution.specs.Runs.{State, state, run}
use Rattle.law_code.specs.Answers.{IsTypedAnswer}
use Rattle.law_replay.specs.Replays.{RanBy, HasBelow, HasIs, IsOff}
use Rattle.law_replay.specs.Tapes.{TapeParts}
use Rattle.law_replay.specs.declared.step.TapedStep.{TapedStep}
use Rattle.law_replay.proofs.Replays.{equal_runs}
use Rattle.law_replay.proofs.TapeLemmas.{law_of_tapable}
use Rattle.wasm_store.specs.Stores.{StoreParts}
use Rattle.wasm_call.specs.Outside.{surrounded, outside}
use Rattle.wasm_call.specs.Runs.{state_of}
use Rattle.wasm_session.specs.Sessions.{Runs, StopsIn}
use Rattle.wasm_replay.specs.Calls.{typed_moves}
use Rattle.wasm_replay.specs.Played.{not_played}
use Rattle.wasm_replay.specs.Progress.{Progress, at_start, Gives, GivesOrWants, ending}
use Rattle.wasm_replay.specs.Recordings.{Actual}
use Rattle.wasm_replay.specs.ReplayCalls.{RunsTo, RanReplayed, RanByTape, StopsReplayed}
use Rattle.wasm_replay.specs.ReplayLaws.{AreEqual, LawOfReplays, ReplaysAgree}
use Rattle.wasm_replay.specs.declared.ends.Difference.{Difference}
use Rattle.wasm_replay.specs.declared.ends.ReplayEnd.{ReplayEnd}
use Rattle.wasm_replay.specs.declared.ends.ReplayEnd.TheVariants as end
use Rattle.wasm_replay.specs.declared.played.Played.{Played}
use Rattle.wasm_replay.specs.declared.replayed.Replayed.{Replayed}
use Rattle.wasm_replay.specs.declared.replayed_epochs.ReplayedEpochs.{ReplayedEpochs}
use Rattle.wasm_replay.specs.declared.replaying.Replaying.{Replaying}
use Rattle.wasm_replay.proofs.ProgressLemmas.{clean_start, gives_one, gives_has, GivesAll, gives_all, used_whole}
use Rattle.wasm_replay.proofs.ReplayChains.{Replay, replays, progress_of, all_go, all_given}
use Rattle.wasm_replay.proofs.ReplayEnds.{ends, ends_so}

-- ---- a replay of a record

-- a run that took all of what it heard, from its very beginning
ran_by :
    {T : Type 0} (modules : List ModuleDecl) (commands : List Command) (old new : StoreParts T)
    (replies all : List Reply) (heard : List Asking) → RunsTo modules commands old replies heard new all
    → RanBy modules commands (state_of old replies [] []) heard (state_of new all heard [])
ran_by modules commands old new replies all heard r = record {
  ran =
      ap (λ (xs : List Answer). run modules (state_of old replies [] xs) commands) (sym (append-nil (answers_in heard)))
      ∙ r [] [];
  course = refl;
  used = refl;
}

equal_states :
    {T U : Type 0} (s : StoreParts T) (t : StoreParts U) (replies : List Reply) → AreEqual s t
    → state_of s replies [] [] ≡ state_of t replies [] []
equal_states s t replies e =
    ap (λ (m : Machine). state m s.turns replies [] []) e.machine ∙ ap (λ (n : ℕ). state t.machine n replies [] []) e.turns

pub law_of_replays :
    {T H E : Type 0} (moves : ℕ → Actual T H E → Question → Answer → Actual T H E → Type 0) → LawOfReplays moves
law_of_replays moves bodies room modules commands tape old new host host' source source' before after replies all again ended r
    e p =
    let first : RanBy modules commands (state_of old replies [] []) r.ran.heard (state_of new all r.ran.heard []) =
    ran_by modules commands old new replies all r.ran.heard r.ran.ends in
    let second : RanBy modules commands (state_of old replies [] []) p.heard (state_of after again p.heard []) =
    subst (λ (s : State). RanBy modules commands s p.heard (state_of after again p.heard []))
    (equal_states before old replies e) (ran_by modules commands before after replies again p.heard p.ends) in
    let g : GivesAll bodies (at_start tape) r.ran.heard =
    gives_all bodies r.ran.heard (at_start tape) r.ran.tapable (clean_start tape) r.holds in
    let k = equal_runs (Gives bodies) (gives_one bodies) modules commands (state_of old replies [] []) r.ran.heard
    p.heard (state_of new all r.ran.heard []) (state_of after again p.heard []) (at_start tape) g.last p.left first
    second g.gave p.given in
    record {
      ended_same = p.ended_so ∙ ap ending (sym k.1) ∙ g.same;
      replies = ap (λ (s : State). s.replies) (sym k.2);
      store = record {
        machine = ap (λ (s : State). s.machine) (sym k.2);
        turns = ap (λ (s : State). s.turns) (sym k.2);
      };
    }

-- ---- two replays of one tape

pub replays_agree : ReplaysAgree
replays_agree bodies modules commands tape old new before after replies all again ended ended' e p q =
    let first : RanBy modules commands (state_of old replies [] []) p.heard (state_of new all p.heard []) =
    ran_by modules commands old new replies all p.heard p.ends in
    let second : RanBy modules commands (state_of old replies [] []) q.heard (state_of after again q.heard []) =
    subst (λ (s : State). RanBy modules commands s q.heard (state_of after again q.heard []))
    (equal_states before old replies e) (ran_by modules commands before after replies again q.heard q.ends) in
    let k = equal_runs (Gives bodies) (gives_one bodies) modules commands (state_of old replies [] []) p.heard q.heard
    (state_of new all p.heard []) (state_of after again q.heard []) (at_start tape) p.left q.left first second p.given
    q.given in
    record {
      ends = q.ended_so ∙ ap ending (sym k.1) ∙ sym p.ended_so;
      replies = ap (λ (s : State). s.replies) (sym k.2);
      store = record {
        machine = ap (λ (s : State). s.machine) (sym k.2);
        turns = ap (λ (s : State). s.turns) (sym k.2);
      };
    }

-- ---- what `run_commands` says of a replay

made :
    List TapedStep → List (Result ℕ EpochFailed) → List (Result Bool LimiterFailed) → Played → Played → Played
    → Option Difference → Progress
made steps readings growths p q r d = record {
  left = record { steps = drop p.next steps; readings = drop q.next readings; growths = drop r.next growths };
  taken = p.next;
  differs = d;
  steps_ended = p.ended;
  readings_ended = q.ended;
  growths_ended = r.ended;
}

-- a replay of this tape that was asked nothing yet, over the bodies below a number
pub record Begins (tape : TapeParts) (bodies : ℕ) (w : Replay) : Type 0 where
  pub steps : w.host.steps.now ≡ tape.steps
  pub readings : w.epochs.readings.now ≡ tape.readings
  pub growths : w.host_data.growths ≡ tape.growths
  pub host : w.host.played ≡ not_played
  pub epochs : w.epochs.played ≡ not_played
  pub host_data : w.host_data.played ≡ not_played
  pub differs : w.host.differs ≡ None
  pub limit : w.host.bodies ≡ bodies

begins_so : (tape : TapeParts) (bodies : ℕ) (w : Replay) → Begins tape bodies w → progress_of w ≡ at_start tape
unfolding made
begins_so tape bodies w b =
    let h = w.host in
    let e = w.epochs in
    let d = w.host_data in
    ap (λ (xs : List TapedStep). made xs e.readings.now d.growths h.played e.played d.played h.differs) b.steps
    ∙ ap (λ (xs : List (Result ℕ EpochFailed)). made tape.steps xs d.growths h.played e.played d.played h.differs)
    b.readings
    ∙ ap (λ (xs : List (Result Bool LimiterFailed)). made tape.steps tape.readings xs h.played e.played d.played h.differs)
    b.growths
    ∙ ap (λ (p : Played). made tape.steps tape.readings tape.growths p e.played d.played h.differs) b.host
    ∙ ap (λ (p : Played). made tape.steps tape.readings tape.growths not_played p d.played h.differs) b.epochs
    ∙ ap (λ (p : Played). made tape.steps tape.readings tape.growths not_played not_played p h.differs) b.host_data
    ∙ ap (λ (o : Option Difference). made tape.steps tape.readings tape.growths not_played not_played not_played o) b.differs

gave :
    (tape : TapeParts) (bodies : ℕ) (w v : Replay) (heard : List Asking) → Begins tape bodies w
    → Chain (typed_moves replays) w heard v → Chain (GivesOrWants bodies) (at_start tape) heard (progress_of v)
gave tape bodies w v heard b c =
    subst (λ (p : Progress). Chain (GivesOrWants bodies) p heard (progress_of v)) (begins_so tape bodies w b)
    (all_go bodies IsTypedAnswer heard w v b.limit c)

-- of an answer whether there is a body it tells the number
wants_has :
    (bodies : ℕ) (p q : Progress) (question : Question) (a : Answer) → GivesOrWants bodies p question a q
    → HasIs bodies question a
wants_has bodies p q (Having body) (Has answer) h = h.0
wants_has bodies p q question a h = tt

all_have :
    (bodies : ℕ) (heard : List Asking) (p q : Progress) → Chain (GivesOrWants bodies) p heard q → HasBelow bodies heard
all_have bodies [] p q h n x e = absurd cc
all_have bodies (y ∷ heard) p q h zero x e =
    let f : y ≡ x = cc in subst (λ (z : Asking). HasIs bodies z.0 z.1) f (wants_has bodies p h.0 y.0 y.1 h.1)
all_have bodies (y ∷ heard) p q h (suc n) x e = all_have bodies heard h.0 q h.2 n x e

pub replayed :
    (tape : TapeParts) (bodies : ℕ) (modules : List ModuleDecl) (commands : List Command) (old new : StoreParts Replayed)
    (replies replies' : List Reply) (h k : Replaying) (e f : ReplayedEpochs) (ended : ReplayEnd)
    → Begins tape bodies (outside (surrounded old h e)) → IsOff old.machine
    → Runs (typed_moves replays) modules commands (surrounded old h e) replies (surrounded new k f) replies'
    → ended ≡ ends (outside (surrounded new k f)) → RanReplayed bodies modules commands tape old replies new replies' ended
replayed tape bodies modules commands old new replies replies' h k e f ended b off done x =
    let w : Replay = outside (surrounded new k f) in
    let c : Chain (GivesOrWants bodies) (at_start tape) done.heard (progress_of w) =
    gave tape bodies (outside (surrounded old h e)) w done.heard b done.chained in
    record {
      heard = done.heard;
      left = progress_of w;
      given =
          all_given bodies done.heard (at_start tape) (progress_of w)
          (law_of_tapable bodies modules commands (state_of old replies [] []) done.heard
          (state_of new replies' done.heard []) off
          (ran_by modules commands old new replies replies' done.heard done.ends)
          (all_have bodies done.heard (at_start tape) (progress_of w) c)) c;
      ends = done.ends;
      ended_so = x ∙ ends_so w;
    }

-- one that ended the same
pub by_tape :
    (tape : TapeParts) (bodies : ℕ) (modules : List ModuleDecl) (commands : List Command) (old new : StoreParts Replayed)
    (replies replies' : List Reply) (ended : ReplayEnd)
    → RanReplayed bodies modules commands tape old replies new replies' ended → ended ≡ end.Same
    → RanByTape bodies modules commands tape old replies new replies'
by_tape tape bodies modules commands old new replies replies' ended r e = record {
  heard = r.heard;
  holds = used_whole bodies r.heard (at_start tape) r.left r.given (sym r.ended_so ∙ e);
  below = gives_has bodies r.heard (at_start tape) r.left r.given;
  ends = r.ends;
}

-- one that wanted memory
pub stopped :
    (tape : TapeParts) (bodies : ℕ) (modules : List ModuleDecl) (commands : List Command) (turns : ℕ)
    (old new : StoreParts Replayed) (replies replies' : List Reply) (h k : Replaying) (e f : ReplayedEpochs)
    → Begins tape bodies (outside (surrounded old h e))
    → StopsIn (typed_moves replays) modules commands turns (surrounded old h e) replies (surrounded new k f) replies'
    → StopsReplayed bodies modules commands tape turns old replies new replies'
stopped tape bodies modules commands turns old new replies replies' h k e f b s = record {
  finished = s.finished;
  unfinished = s.unfinished;
  heard = s.stops.heard;
  left = progress_of (outside (surrounded new k f));
  given =
      gave tape bodies (outside (surrounded old h e)) (outside (surrounded new k f)) s.stops.heard b s.stops.chained;
  stop = s.stops.stop;
  questions = s.questions;
  answered = s.answered;
  told = s.told;
}
