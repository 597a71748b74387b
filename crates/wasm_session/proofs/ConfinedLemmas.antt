-- A command that was run or stopped is confined, by the law.
use Rattle.std.proofs.Common.{◌≡◌, ℕ, ◌≤◌, List, [], ◌∷◌, ◌++◌, length, take, refl, ap, subst, append-nil}
use Rattle.std.proofs.lemmas.List.{take_all}
use Rattle.std.specs.Prelude.{Result, Ok, Err, OnOk, IfErr}
use Rattle.wasm_syntax.specs.declared.declarations.ModuleDecl.{ModuleDecl}
use Rattle.spec_machine.specs.declared.command.Command.{Command}
use Rattle.spec_machine.specs.declared.reply.Reply.{Reply}
use Rattle.spec_execution.specs.Askings.{Answer, Asking, answers_in}
use Rattle.spec_execution.specs.Runs.{State, IsStop}
use Rattle.law_confined.specs.RunLaws.{Confines}
use Rattle.law_confined.proofs.RunConfinement.{runs_confine, stops_confine}
use Rattle.wasm_call.specs.Outside.{Moving, Surrounded}
use Rattle.wasm_call.specs.Runs.{state_of, Steps, Breaks}
use Rattle.wasm_session.specs.Confined.{StepsConfined, BreaksConfined, RunsConfined, StopsConfined}
use Rattle.wasm_session.specs.Sessions.{Runs, StopsIn}

module _ {T H E : Type 0} (moves : Moving T H E) (modules : List ModuleDecl) (old new : Surrounded T H E)
    (replies all : List Reply) where
  -- from the answers that were heard and no others
  abbrev began : List Asking → List Answer → State
  began heard rest = state_of old.store replies [] (answers_in heard ++ rest)

  abbrev ended : List Asking → State
  ended heard = state_of new.store all heard []

  all_answers : (heard : List Asking) → began heard [] ≡ state_of old.store replies [] (answers_in heard)
  all_answers heard = ap (state_of old.store replies []) (append-nil (answers_in heard))

  steps_confined : (c : Command) → Steps moves modules c old replies new all →
      StepsConfined moves modules c old replies new all
  steps_confined c a = record {
    ran = a;
    confined =
        subst (λ (s : State). Confines s c (ended a.heard)) (all_answers a.heard)
        (runs_confine modules (began a.heard []) (c ∷ []) (ended a.heard) (a.ends [] [])).0;
  }

  breaks_confined : (c : Command) (turns : ℕ) → Breaks moves modules c turns old replies new all →
      BreaksConfined moves modules c turns old replies new all
  breaks_confined c turns b = record {
    broke = b;
    confined =
        subst (λ (s : State). Confines s c (ended b.stops.heard)) (all_answers b.stops.heard)
        (stops_confine modules (began b.stops.heard []) (c ∷ []) 0 turns (ended b.stops.heard) (b.stops.stop [] [])
        (began b.stops.heard []) c refl refl);
  }

  runs_confined : (commands : List Command) → Runs moves modules commands old replies new all →
      RunsConfined moves modules commands old replies new all
  runs_confined commands a = record {
    ran = a;
    confined = runs_confine modules (state_of old.store replies [] (answers_in a.heard)) commands;
  }

  pub stop_confined : (commands : List Command) (turns : ℕ) → StopsIn moves modules commands turns old replies new all →
      StopsConfined moves modules commands turns old replies new all
  stop_confined commands turns b = record {
    stopped = b;
    finished = runs_confine modules (state_of old.store replies [] (answers_in b.stops.heard)) _;
    unfinished =
        stops_confine modules (state_of old.store replies [] (answers_in b.stops.heard)) commands b.finished turns
        (ended b.stops.heard)
        (subst (λ (s : State). IsStop modules s commands b.finished turns (ended b.stops.heard))
        (all_answers b.stops.heard) (b.stops.stop [] []));
  }

  -- of a call that tells how it went
  module _ {A F : Type 0} (c : Command) (turns_of : F → ℕ) where
    pub step_confined : (result : Result A F) → OnOk result (Steps moves modules c old replies new all) →
        OnOk result (StepsConfined moves modules c old replies new all)
    step_confined (Ok a) h = steps_confined c h
    step_confined (Err e) h = tt

    pub break_confined : (result : Result A F) →
        IfErr result (λ e. Breaks moves modules c (turns_of e) old replies new all) →
        IfErr result (λ e. BreaksConfined moves modules c (turns_of e) old replies new all)
    break_confined (Ok a) h = tt
    break_confined (Err e) h = breaks_confined c (turns_of e) h

  -- the first commands of a list, once these are all of it
  pub run_confined : (commands : List Command) (i : ℕ) → length commands ≤ i →
      Runs moves modules (take i commands) old replies new all → RunsConfined moves modules commands old replies new all
  run_confined commands i past a =
      runs_confined commands
      (subst (λ (cs : List Command). Runs moves modules cs old replies new all) (take_all i commands past) a)
