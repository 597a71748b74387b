-- A command of a session is refused by what is outside only where the count of that rose in it, and so is each of a run.
use Rattle.std.proofs.Common.{◌≡◌, ◌⊎◌, inl, inr, ℕ, zero, suc, ◌+◌, ◌<◌, ◌≤◌, arith, List, [], ◌∷◌, ◌++◌, length, take, get_or, Some, None, refl, ap, sym, ◌∙◌, subst, append_assoc}
use Rattle.std.specs.Prelude.{Result, Ok, Err, OnOk, slice_get}
use Rattle.std.proofs.lemmas.List.{append-nil, take_all}
use Rattle.std.proofs.lemmas.Option.{same_Some, none-some, slice_get-get_or}
use Rattle.wasm_syntax.specs.declared.declarations.ModuleDecl.{ModuleDecl}
use Rattle.wasm_values.specs.declared.refusals.Refusal.{Refusal}
use Rattle.wasm_values.specs.declared.refusals.Refusal.TheVariants.{TurnLimit}
use Rattle.spec_machine.specs.declared.command.Command.{Command}
use Rattle.spec_machine.specs.declared.reply.Reply.{Reply}
use Rattle.spec_machine.specs.declared.reply.Reply.TheVariants.{Refused}
use Rattle.spec_execution.specs.Askings.{Asking, Relations, answers_in}
use Rattle.spec_execution.specs.Commands.{Finish, Replied, Early}
use Rattle.spec_execution.specs.Outcomes.{Stopped}
use Rattle.spec_execution.specs.Runs.{State, behind, turns_of, finished, finish_of}
use Rattle.law_causes.specs.Tallies.{IsCounted}
use Rattle.wasm_call.specs.Outside.{Moving, Surrounded, outside, typed, Hears}
use Rattle.wasm_call.specs.Runs.{state_of, Steps, Breaks}
use Rattle.wasm_call.proofs.CauseLemmas.{ByCounts, command_reason, place_by_counts}
use Rattle.wasm_session.specs.Causes.{CommandInVain, RefusedIn, RunsCaused}
use Rattle.wasm_session.specs.Sessions.{Runs}
use Rattle.wasm_session.proofs.Parts.{chain_then}

-- ---- the reply that a command added

module _ {T H E : Type 0} (old new : Surrounded T H E) (replies all : List Reply) (heard : List Asking) where
  abbrev first : State
  first = state_of old.store replies [] (answers_in heard ++ [])

  abbrev last : State
  last = state_of new.store all ([] ++ heard) []

  reply_of : (turns : ℕ) (o : Finish) → finished turns first o ≡ Some last →
      (answer : Reply) × (all ≡ replies ++ answer ∷ [])
  reply_of turns (Replied answer w) e = (
    answer,
    sym (ap (λ (x : State). x.replies) (same_Some (behind turns w (replies ++ answer ∷ [])) last e)),
  )
  reply_of turns (Early Stopped w) e = (
    Refused TurnLimit,
    sym (ap (λ (x : State). x.replies) (same_Some (behind turns w (replies ++ Refused TurnLimit ∷ [])) last e)),
  )
  reply_of turns (Early end w) e = absurd cc

added_reply : {T H E : Type 0} (moves : Moving T H E) (modules : List ModuleDecl) (c : Command)
    (old new : Surrounded T H E) (replies all : List Reply) → Steps moves modules c old replies new all →
    (answer : Reply) × (all ≡ replies ++ answer ∷ [])
added_reply moves modules c old new replies all s =
    let turns = turns_of old.store.machine in
    reply_of old new replies all s.heard turns (finish_of modules turns (first old new replies all s.heard) c)
    (s.ends [] [])

-- a place of a list with one more is one of the list, or the last
place_of : {A : Type 0} (xs : List A) (a x : A) (n : ℕ) → slice_get (xs ++ a ∷ []) n ≡ Some x →
    (slice_get xs n ≡ Some x) ⊎ (n ≡ length xs)
place_of [] a x zero e = inr refl
place_of [] a x (suc n) e = absurd cc
place_of (y ∷ xs) a x zero e = inl e
place_of (y ∷ xs) a x (suc n) e = later (place_of xs a x n e) where
  later : (slice_get xs n ≡ Some x) ⊎ (n ≡ length xs) → (slice_get (y ∷ xs) (suc n) ≡ Some x) ⊎ (suc n ≡ suc (length xs))
  later (inl h) = inl h
  later (inr h) = inr (ap suc h)

past_end : {A : Type 0} (xs : List A) (n : ℕ) → slice_get xs (length xs + n) ≡ None
past_end [] n = refl
past_end (x ∷ xs) n =
    let same : suc (length xs) + n ≡ suc (length xs + n) = omega arith in
    ap (slice_get (x ∷ xs)) same ∙ past_end xs n

module _ {T H E : Type 0} (r : Relations T H E) (denials limiter_faults hook_faults behaviour_faults : T → ℕ)
    (epoch_faults : E → ℕ) (host_faults : H → ℕ)
    (counted : IsCounted r denials limiter_faults hook_faults behaviour_faults epoch_faults host_faults) where
  abbrev pub Refuses : Surrounded T H E → Surrounded T H E → Type 0 → Refusal → Type 0
  Refuses old new reason why =
      ByCounts r denials limiter_faults hook_faults behaviour_faults epoch_faults host_faults counted old new reason why

  -- ---- one command

  module _ (modules : List ModuleDecl) (c : Command) (old new : Surrounded T H E) (replies all : List Reply) where
    pub command_causes : {A F : Type 0} (result : Result A F) →
        OnOk result (Steps (typed r) modules c old replies new all) →
        OnOk result ((why : Refusal) → slice_get all (length replies) ≡ Some (Refused why) →
        Refuses old new (CommandInVain modules old.store replies c) why)
    command_causes (Ok a) s = λ why there.
        place_by_counts r denials limiter_faults hook_faults behaviour_faults epoch_faults host_faults counted modules c
        old new replies all s why there
    command_causes (Err e) s = tt

  -- ---- a run

  module _ (modules : List ModuleDecl) (commands : List Command) (old : Surrounded T H E) (replies : List Reply) where
    abbrev In : ℕ → Refusal → List Asking → Surrounded T H E → Type 0
    In n why heard new = RefusedIn (typed r) Refuses modules commands old replies n why heard new

    -- each reply that was added
    abbrev pub RunCauses : List Asking → Surrounded T H E → List Reply → Type 0
    RunCauses heard new all =
        (n : ℕ) (why : Refusal) → slice_get all (length replies + n) ≡ Some (Refused why) → In n why heard new

    -- before the first command
    pub run_causes_none : RunCauses [] old replies
    run_causes_none n why there = absurd (none-some (Refused why) (sym (past_end replies n) ∙ there))

    -- more was heard behind it
    goes_on : (n : ℕ) (why : Refusal) (heard later : List Asking) (mid new : Surrounded T H E) →
        Hears (typed r) mid later new → In n why heard mid → In n why (heard ++ later) new
    goes_on n why heard later mid new hears c = record {
      next = c.next;
      is_next = c.is_next;
      mid = c.mid;
      more = c.more;
      before = c.before;
      after = c.after;
      all = c.all;
      step = c.step;
      rest = c.rest ++ later;
      onwards =
          chain_then (typed r) (outside c.after) (outside mid) (outside new) c.rest later c.onwards hears;
      in_turn =
          ap (λ (xs : List Asking). xs ++ later) c.in_turn
          ∙ append_assoc c.before.heard (c.step.heard ++ c.rest) later
          ∙ ap (λ (xs : List Asking). c.before.heard ++ xs) (append_assoc c.step.heard c.rest later);
      refused = c.refused;
    }

    module _ (heard : List Asking) (mid new : Surrounded T H E) (more all : List Reply) (so_far : RunCauses heard mid more)
      where
        -- no reply more
        pub run_causes_break : (c : Command) (turns : ℕ) (b : Breaks (typed r) modules c turns mid more new all) →
            RunCauses (heard ++ b.stops.heard) new all
        run_causes_break c turns b n why there =
            goes_on n why heard b.stops.heard mid new b.stops.chained
            (so_far n why (ap (λ (xs : List Reply). slice_get xs (length replies + n)) (sym b.unanswered) ∙ there))

    -- one command more
    module _ (i : ℕ) (c : Command) (mid new : Surrounded T H E) (more all : List Reply) (within : i < length commands)
        (is_next : c ≡ get_or commands i c) (as_many : length more ≡ length replies + i)
        (ran : Runs (typed r) modules (take i commands) old replies mid more)
        (step : Steps (typed r) modules c mid more new all) (so_far : RunCauses ran.heard mid more) where
      new_cause : (why : Refusal) → slice_get all (length more) ≡ Some (Refused why) →
          In i why (ran.heard ++ step.heard) new
      new_cause why there = record {
        next = c;
        is_next = slice_get-get_or commands i c within ∙ ap (λ (x : Command). Some x) (sym is_next);
        mid = mid;
        more = more;
        before = ran;
        after = new;
        all = all;
        step = step;
        rest = [];
        onwards = refl;
        in_turn = ap (λ (xs : List Asking). ran.heard ++ xs) (sym (append-nil step.heard));
        refused =
            place_by_counts r denials limiter_faults hook_faults behaviour_faults epoch_faults host_faults counted
            modules c mid new more all step why there;
      }

      by_place : (n : ℕ) (why : Refusal) → slice_get all (length replies + n) ≡ Some (Refused why) →
          (slice_get more (length replies + n) ≡ Some (Refused why)) ⊎ (length replies + n ≡ length more) →
          In n why (ran.heard ++ step.heard) new
      by_place n why there (inl h) = goes_on n why ran.heard step.heard mid new step.chained (so_far n why h)
      by_place n why there (inr e) =
          let here : n ≡ i = omega (arith, e, as_many) in
          subst (λ (k : ℕ). In k why (ran.heard ++ step.heard) new) (sym here)
          (new_cause why (ap (slice_get all) (sym e) ∙ there))

      pub run_causes_more : RunCauses (ran.heard ++ step.heard) new all
      run_causes_more n why there =
          let last : (answer : Reply) × (all ≡ more ++ answer ∷ []) =
          added_reply (typed r) modules c mid new more all step in
          by_place n why there
          (place_of more last.0 (Refused why) (length replies + n)
          (ap (λ (xs : List Reply). slice_get xs (length replies + n)) (sym last.1) ∙ there))

    -- once the first commands are all
    pub run_caused : (i : ℕ) (new : Surrounded T H E) (all : List Reply) → length commands ≤ i →
        (ran : Runs (typed r) modules (take i commands) old replies new all) → RunCauses ran.heard new all →
        RunsCaused (typed r) Refuses modules commands old replies new all
    run_caused i new all past ran causes =
        whole (take i commands) (take_all i commands past) ran causes
      where
        whole : (done : List Command) → done ≡ commands → (ran : Runs (typed r) modules done old replies new all) →
            RunCauses ran.heard new all → RunsCaused (typed r) Refuses modules commands old replies new all
        whole done e ran causes =
            (subst (λ (cs : List Command). (ran : Runs (typed r) modules cs old replies new all) →
            RunCauses ran.heard new all → RunsCaused (typed r) Refuses modules commands old replies new all) (sym e)
            (λ given so. record { ran = given; causes = so }))
            ran causes
