-- A command is refused by what is outside only where the count of that rose, by what was heard in it.
use Rattle.std.proofs.Common.{◌≡◌, ℕ, List, [], ◌∷◌, ◌++◌, length, Option, Some, refl, ap, sym, ◌∙◌, subst}
use Rattle.std.specs.Prelude.{⊤, Result, Ok, Err, IfOk, IfErr, IsErrAnd, slice_get}
use Rattle.std.proofs.lemmas.Option.{same_Some}
use Rattle.wasm_syntax.specs.declared.declarations.ModuleDecl.{ModuleDecl}
use Rattle.wasm_values.specs.declared.handles.Func.{Func}
use Rattle.wasm_values.specs.declared.refusals.Refusal.{Refusal}
use Rattle.wasm_values.specs.declared.refusals.Refusal.TheVariants.{GrowFailed, OutOfMemory, TurnLimit}
use Rattle.wasm_values.specs.declared.values.Val.{Val}
use Rattle.spec_machine.specs.Commands.{Row, invokes, row}
use Rattle.spec_machine.specs.FunctionCalls.{Called, called}
use Rattle.spec_machine.specs.Machine.{Machine}
use Rattle.spec_machine.specs.Names.{outermost}
use Rattle.spec_machine.specs.declared.command.Command.{Command}
use Rattle.spec_machine.specs.declared.reply.Reply.{Reply}
use Rattle.spec_machine.specs.declared.reply.Reply.TheVariants.{Refused}
use Rattle.spec_execution.specs.Askings.{Asking, Relations, answers_in}
use Rattle.spec_execution.specs.Commands.{Finish, Replied, Early}
use Rattle.spec_execution.specs.Outcomes.{World, world, Stopped}
use Rattle.spec_execution.specs.Runs.{State, world_in, behind, turns_of, finished, finish_of}
use Rattle.law_causes.specs.Causes.{Reasons, HasCause, GrowsInVain, row_reasons}
use Rattle.law_causes.specs.CauseLaws.{CausedSince}
use Rattle.law_causes.specs.Tallies.{IsCounted, RefusedByCounts, RepliedByCounts}
use Rattle.law_causes.proofs.Counts.{refused_by_counts, refused_for}
use Rattle.law_causes.proofs.LawLemmas.{row_caused, commands_have_causes}
use Rattle.law_causes.proofs.OwnRefusals.{IsOwnRow, call_own}
use Rattle.wasm_store.specs.Stores.{StoreParts}
use Rattle.wasm_call.specs.Calls.{call_row, Failed}
use Rattle.wasm_call.specs.Outcomes.{AnsweredWithin, by_row, answer_of}
use Rattle.wasm_call.specs.Outside.{Surrounded, surrounded, outside, typed, Hears}
use Rattle.wasm_call.specs.Runs.{state_of, Steps}
use Rattle.wasm_call.proofs.HeardLemmas.{heard_moves}

-- the last of a list
last_there : {A : Type 0} (xs : List A) (a : A) → slice_get (xs ++ a ∷ []) (length xs) ≡ Some a
last_there [] a = refl
last_there (x ∷ xs) a = last_there xs a

refused_same : (a b : Refusal) → Refused a ≡ Refused b → a ≡ b
refused_same a b e = cc

-- a call grows nothing by itself
call_in_vain : (m : Machine) (r : Result Called Refusal) → GrowsInVain m (invokes r) → ⊥
call_in_vain m (Ok c) h = h
call_in_vain m (Err why) h = h

module _ {T H E : Type 0} (r : Relations T H E) (denials limiter_faults hook_faults behaviour_faults : T → ℕ)
    (epoch_faults : E → ℕ) (host_faults : H → ℕ)
    (counted : IsCounted r denials limiter_faults hook_faults behaviour_faults epoch_faults host_faults) where
  abbrev pub ByCounts : Surrounded T H E → Surrounded T H E → Type 0 → Refusal → Type 0
  ByCounts old new reason why =
      RefusedByCounts denials limiter_faults hook_faults behaviour_faults epoch_faults host_faults (outside old)
      (outside new) reason why

  abbrev pub SaidByCounts : Surrounded T H E → Surrounded T H E → Type 0 → Reply → Type 0
  SaidByCounts old new reason reply =
      RepliedByCounts denials limiter_faults hook_faults behaviour_faults epoch_faults host_faults (outside old)
      (outside new) reason reply

  -- by what was heard from a world in which nothing was heard to the one in which it was refused
  heard_by_counts : (old new : Surrounded T H E) (heard : List Asking) → Hears (typed r) old heard new →
      (reason : Reasons) (why : Refusal) (first last : World) → first.heard ≡ [] → last.heard ≡ heard →
      CausedSince reason first last why → ByCounts old new (reason.own GrowFailed) why
  heard_by_counts old new heard hears reason why first last none all c =
      let same : c.more ≡ heard = ap (λ (xs : List Asking). xs ++ c.more) (sym none) ∙ sym c.course ∙ all in
      refused_by_counts r denials limiter_faults hook_faults behaviour_faults epoch_faults host_faults counted
      (outside old) (outside new) heard (heard_moves r (outside old) (outside new) heard hears) reason why
      (subst (HasCause reason why) same c.cause)

  -- ---- a row

  module _ (due : Row) (own : IsOwnRow due) (old new : Surrounded T H E) (why : Refusal) where
    abbrev reason : Type 0
    reason = GrowsInVain old.store.machine due

    module _ (first last : World) (heard : List Asking) (hears : Hears (typed r) old heard new)
        (here : first.machine ≡ old.store.machine) (none : first.heard ≡ []) (all : last.heard ≡ heard) where
      finish_by_counts : (o : Finish) → by_row due first ≡ o → answer_of o ≡ Some (Refused why, last) →
          ByCounts old new reason why
      finish_by_counts (Replied answer w) e a =
          let both : ◌≡◌ {A = Reply × World} (answer, w) (Refused why, last) =
          same_Some (answer, w) (Refused why, last) a in
          let done : by_row due first ≡ Replied (Refused why) last =
          e ∙ ap (λ (p : Reply × World). Replied p.0 p.1) both in
          heard_by_counts old new heard hears (row_reasons old.store.machine due) why first last none all
          (subst (λ (m : Machine). CausedSince (row_reasons m due) first last why) here
          (row_caused due own first last why done))
      finish_by_counts (Early Stopped w) e a =
          let both : ◌≡◌ {A = Reply × World} (Refused TurnLimit, w) (Refused why, last) =
          same_Some (Refused TurnLimit, w) (Refused why, last) a in
          subst (ByCounts old new reason) (refused_same TurnLimit why (ap (λ (p : Reply × World). p.0) both)) tt
      finish_by_counts (Early end w) e a = absurd cc

    pub answered_by_counts : (limit : ℕ) → AnsweredWithin (typed r) limit due old (Refused why) new →
        ByCounts old new reason why
    answered_by_counts limit l =
        finish_by_counts (world old.store.machine limit [] (answers_in l.heard ++ []))
        (world new.store.machine l.left ([] ++ l.heard) []) l.heard l.chained refl refl refl _ refl (l.ends [] [])

  failed_by_counts : (due : Row) (own : IsOwnRow due) (old new : Surrounded T H E) (why : Refusal) →
      Failed (typed r) due old why new → ByCounts old new (GrowsInVain old.store.machine due) why
  failed_by_counts due own old new OutOfMemory l = tt
  failed_by_counts due own old new why l =
      answered_by_counts due own old new why old.store.machine.engine.turns l

  -- ---- a call, of a store whose turns are counted anew

  pub call_by_counts : (host host' : H) (epochs epochs' : E) (old mid new : StoreParts T) (f : Func) (args : List Val)
      (wanted : Option ℕ) (why : Refusal) (result : Result ⊤ Refusal) → mid ≡ record old { turns = 0 } →
      Failed (typed r) (call_row mid.machine f args wanted) (surrounded mid host epochs) why
      (surrounded new host' epochs') → IsErrAnd result (λ told. told ≡ why) →
      IfErr result (λ told. ByCounts (surrounded old host epochs) (surrounded new host' epochs') ⊥ told)
  call_by_counts host host' epochs epochs' old mid new f args wanted why (Ok done) e h told = tt
  call_by_counts host host' epochs epochs' old mid new f args wanted why (Err said) e h told =
      let before = surrounded mid host epochs in
      let behind = surrounded new host' epochs' in
      let due : Result Called Refusal = called mid.machine f args wanted in
      subst (λ (x : Refusal). ByCounts (surrounded old host epochs) behind ⊥ x) (sym told)
      (subst (λ (s : StoreParts T). ByCounts (surrounded s host epochs) behind ⊥ why) e
      (refused_for denials limiter_faults hook_faults behaviour_faults epoch_faults host_faults (outside before)
      (outside behind) (call_in_vain mid.machine due) why
      (failed_by_counts (call_row mid.machine f args wanted) (call_own mid.machine f args wanted) before behind why h)))

  -- ---- a command

  module _ (modules : List ModuleDecl) (c : Command) (old new : Surrounded T H E) (replies : List Reply) where
    abbrev pub command_reason : Type 0
    command_reason = GrowsInVain old.store.machine (row modules old.store.machine (outermost replies) c)

    module _ (all : List Reply) (why : Refusal) (there : slice_get all (length replies) ≡ Some (Refused why))
        (heard : List Asking) (hears : Hears (typed r) old heard new) where
      abbrev first : State
      first = state_of old.store replies [] (answers_in heard ++ [])

      abbrev last : State
      last = state_of new.store all ([] ++ heard) []

      abbrev turns : ℕ
      turns = turns_of first.machine

      -- the reply that was added is this refusal
      added : (answer : Reply) → replies ++ answer ∷ [] ≡ all → answer ≡ Refused why
      added answer e =
          same_Some answer (Refused why)
          (sym (last_there replies answer) ∙ ap (λ (xs : List Reply). slice_get xs (length replies)) e ∙ there)

      command_by_counts : (o : Finish) → finish_of modules turns first c ≡ o → finished turns first o ≡ Some last →
          ByCounts old new command_reason why
      command_by_counts (Replied answer w) e a =
          let same = same_Some (behind turns w (replies ++ answer ∷ [])) last a in
          let said : answer ≡ Refused why = added answer (ap (λ (s : State). s.replies) same) in
          heard_by_counts old new heard hears
          (row_reasons old.store.machine (row modules old.store.machine (outermost replies) c)) why (world_in turns first)
          w refl
          (ap (λ (s : State). s.heard) same)
          (commands_have_causes modules (outermost replies) c (world_in turns first) w why
          (e ∙ ap (λ (x : Reply). Replied x w) said))
      command_by_counts (Early Stopped w) e a =
          let same = same_Some (behind turns w (replies ++ Refused TurnLimit ∷ [])) last a in
          let said : Refused TurnLimit ≡ Refused why =
          added (Refused TurnLimit) (ap (λ (s : State). s.replies) same) in
          subst (ByCounts old new command_reason) (refused_same TurnLimit why said) tt
      command_by_counts (Early end w) e a = absurd cc

    -- by the place of its reply
    pub place_by_counts : (all : List Reply) → Steps (typed r) modules c old replies new all → (why : Refusal) →
        slice_get all (length replies) ≡ Some (Refused why) → ByCounts old new command_reason why
    place_by_counts all s why there = command_by_counts all why there s.heard s.chained _ refl (s.ends [] [])

    steps_by_counts : (answer : Reply) → Steps (typed r) modules c old replies new (replies ++ answer ∷ []) →
        SaidByCounts old new command_reason answer
    steps_by_counts (Refused why) s =
        place_by_counts (replies ++ Refused why ∷ []) s why (last_there replies (Refused why))
    steps_by_counts answer s = tt

    -- of a result
    pub steps_by_counts_on : {F : Type 0} (result : Result Reply F) →
        IfOk result (λ answer. (ms : List ModuleDecl) → Steps (typed r) ms c old replies new (replies ++ answer ∷ [])) →
        IfOk result (λ answer. SaidByCounts old new command_reason answer)
    steps_by_counts_on (Ok answer) h = steps_by_counts answer (h modules)
    steps_by_counts_on (Err e) h = tt

    -- over these modules
    pub said_by_counts : {F : Type 0} (result : Result Reply F) →
        IfOk result (λ answer. Steps (typed r) modules c old replies new (replies ++ answer ∷ [])) →
        IfOk result (λ answer. SaidByCounts old new command_reason answer)
    said_by_counts (Ok answer) h = steps_by_counts answer h
    said_by_counts (Err e) h = tt
