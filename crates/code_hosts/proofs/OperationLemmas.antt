-- The operation that a step of a body asked for.
use Rattle.std.proofs.Common.{◌≡◌, ℕ, suc, ◌+◌, ◌-◌, ◌≤◌, ◌⊎◌, inl, inr, List, [], ◌∷◌, ◌++◌, refl, sym, ap, ◌∙◌, subst, arith, add-one, Bool}
use Rattle.std.specs.Prelude.{Result, IfOk, IfErr}
use Rattle.wasm_values.specs.declared.store_id.StoreId.{StoreId}
use Rattle.spec_machine.specs.FunctionCalls.{Called}
use Rattle.spec_machine.specs.Machine.{Machine, EngineParts, new_machine, debt, most_debt}
use Rattle.spec_machine.specs.Names.{Scope}
use Rattle.spec_machine.specs.WellFormed.{IsWellFormed}
use Rattle.spec_machine.specs.declared.operation.Op.{Op}
use Rattle.spec_machine.specs.declared.reply.Reply.{Reply}
use Rattle.spec_execution.specs.Activations as execution
use Rattle.spec_execution.specs.Activations.{Activation}
use Rattle.spec_execution.specs.Askings.{Question, Growing, Having, Reading, Answer, Grown, Has, Read, Asking, Chain}
use Rattle.spec_execution.specs.Bodies.{exec}
use Rattle.spec_execution.specs.Commands.{operation}
use Rattle.spec_execution.specs.Hosts.{said, go_on}
use Rattle.spec_execution.specs.Outcomes.{World, Outcome, Over}
use Rattle.spec_execution.specs.declared.answer.Answer.TheVariants as say
use Rattle.store_state.specs.Machine.{run_machine}
use Rattle.store_state.specs.Parts.{ProgramParts, HeldParts}
use Rattle.code_run.specs.Asking.{Moving}
use Rattle.code_leaps.specs.Leading.{Doing, Setting, at, Leads, Halts}
use Rattle.code_leaps.proofs.PartLemmas.{chain_on, leads_from, stops_from, halts_from, halts_on}
use Rattle.code_hosts.specs.declared.bounds.Bounds.{Bounds}
use Rattle.code_hosts.specs.Asked.{Moves}
use Rattle.code_hosts.specs.Hosting.{AreRulesOf, IsOpen, opened}
use Rattle.code_hosts.specs.Operating.{AsksFor, operating, invoking, IsInvoked, IsDue, OperatesBy, Operates, Misses}
use Rattle.code_hosts.specs.Parting.{awaited, bordered, replying, later, TakesReply, LacksAtOnce}
use Rattle.code_hosts.specs.Rounds.{Rounds, Lacks}
use Rattle.code_hosts.specs.declared.operations.Invoked.{Invoked}
use Rattle.code_hosts.specs.declared.operations.Operated.{Operated}
use Rattle.code_hosts.specs.declared.operations.Operated.TheVariants as operated
use Rattle.code_hosts.specs.declared.operations.Operation.{Operation}
use Rattle.code_hosts.specs.declared.rounds.Lack.TheVariants as lack
use Rattle.code_hosts.specs.declared.rounds.Lacking.{Lacking}
use Rattle.code_hosts.specs.declared.rounds.Round.TheVariants as round
use Rattle.code_hosts.specs.declared.rounds.Rounded.{Rounded}
use Rattle.code_hosts.specs.declared.states.Waiting.{Waiting}
use Rattle.code_hosts.proofs.ContextLemmas.{go_on_stops}
use Rattle.code_hosts.proofs.IdleCallLemmas.{asked_idles, asked_halts}
use Rattle.code_hosts.proofs.LeaveLemmas.{leads_bordered, stops_bordered, halts_bordered, reply_rounds, reply_lacks}
use Rattle.code_hosts.proofs.PartingLemmas.{if_ok, if_err, sum_fits, later_ok, later_err}
use Rattle.code_hosts.proofs.RoundLemmas.{rounds_on, lacks_on}

-- ---- whom it asks

module _ {W : Type 0} (bounds : Bounds) (asks : Moving W) where
  goes : (old new : W) (q : Question) (a : Answer) → AsksFor asks old q a new → Moves bounds asks old q a new
  goes old new (Growing g) (Grown answer) m = (tt, tt, m)
  goes old new Reading (Read answer) m = (tt, tt, m)
  goes old new q a m = absurd m

  chain_whole : (old new : W) (heard : List Asking) → Chain (AsksFor asks) old heard new →
      Chain (Moves bounds asks) old heard new
  chain_whole old new [] c = c
  chain_whole old new (asking ∷ heard) c =
      (c.0, goes old c.0 asking.0 asking.1 c.1, chain_whole c.0 new heard c.2)

  -- ---- what it comes to

  module _ (can : (w : W) (body : ℕ) → (b : Bool) × asks w (Having body) (Has b) w) (program : ProgramParts)
      (id : StoreId) (engine : EngineParts)
      (a : Activation) (scope : Scope) (scope_is : (m : Machine) → m.id ≡ id → scope ≡ execution.scope_of m a)
      (depth : ℕ) (depth_is : depth ≡ a.depth + 1) (op : Op) (h : HeldParts) (o : W) (left : ℕ)
      (waiting : List Waiting) where
    abbrev stores : Setting HeldParts
    stores = opened program bounds id engine

    abbrev due : Doing
    due = said exec a (say.Call op)

    abbrev all : Doing
    all = awaited waiting (bordered due)

    inner : suc a.depth ≡ depth
    inner = sym (depth_is ∙ add-one a.depth)

    same : (base : Machine) → IsOpen bounds id engine base → (turns : ℕ) (before : List Asking) (answers : List Answer) →
        due (at stores base h turns before answers)
        ≡ operating scope op depth (go_on exec a) (at stores base h turns before answers)
    same base x turns before answers =
        let w = at stores base h turns before answers in
        ap (λ s. operation Over exec (suc a.depth) s op w (go_on exec a))
        (sym (scope_is (run_machine base program h) x.id_is))
        ∙ ap (λ n. operation Over exec n scope op w (go_on exec a)) inner

    -- there was no memory for it, or for the arguments of a function that is to be called
    module _ (n : ℕ) (h' : HeldParts) (o' : W) where
      at_end : IsDue (go_on exec a)
      at_end v answer none = go_on_stops a answer v none

      lacks_after : (heard : List Asking) → n ≤ left →
          Chain (Moves bounds asks) o heard o' →
          Halts stores (operating scope op depth (go_on exec a)) h n heard h' →
          Lacks stores (Moves bounds asks) all h o left n lack.Run h' o'
      lacks_after heard few chain l = record {
        within = few;
        heard = heard;
        chain = chain;
        by =
            halts_bordered stores waiting due h n heard h'
            (halts_from stores due (operating scope op depth (go_on exec a)) h same n heard h' l);
      }

      lacks_call : (called : Called) (heard : List Asking) → n ≤ left →
          Chain (Moves bounds asks) o heard o' →
          Leads stores (operating scope op depth (go_on exec a)) h n heard
          (invoking called depth (go_on exec a)) h' →
          Lacks stores (Moves bounds asks) all h o left n lack.Run h' o'
      lacks_call called heard few chain l =
          let i = asked_idles bounds asks program id engine called depth o' (can o') in
          let halts = asked_halts bounds asks program id engine called depth o' (can o') (go_on exec a) at_end h' in
          let n_is : n + 0 ≡ n = omega arith in
          lacks_after (heard ++ i.heard) few
          (chain_on (Moves bounds asks) o o' o' heard i.heard chain i.chain)
          (subst (λ (k : ℕ). Halts stores (operating scope op depth (go_on exec a)) h k (heard ++ i.heard) h')
          n_is
          (halts_on stores (operating scope op depth (go_on exec a)) (invoking called depth (go_on exec a)) h h'
          n heard l 0 i.heard h' halts))

      lacks_so : (x : Misses stores program (AsksFor asks) scope op h o left n h'
          o') → ((d : ℕ) (go : World → Reply → Outcome) → IsDue go →
          Halts stores (operating scope op d go) h n x.heard h')
          ⊎ ((called : Called) × ((d : ℕ) (go : World → Reply → Outcome) →
          Leads stores (operating scope op d go) h n x.heard (invoking called d go) h')) →
          Lacks stores (Moves bounds asks) all h o left n lack.Run h' o'
      lacks_so x (inl l) =
          lacks_after x.heard x.within (chain_whole o o' x.heard x.chain)
          (l depth (go_on exec a) at_end)
      lacks_so x (inr (called, l)) =
          lacks_call called x.heard x.within (chain_whole o o' x.heard x.chain)
          (l depth (go_on exec a))

      pub op_misses : Misses stores program (AsksFor asks) scope op h o left n h' o' →
          Lacks stores (Moves bounds asks) all h o left n lack.Run h' o'
      op_misses x = lacks_so x x.misses

    module _ (d : Operation) (h' : HeldParts) (o' : W)
        (operates : Operates stores program (AsksFor asks) scope op h o left d h' o') where
      pub op_chain : Chain (Moves bounds asks) o operates.heard o'
      op_chain = chain_whole o o' operates.heard operates.chain

      by_what : (k : Operated) → d.what ≡ k →
          OperatesBy stores program scope op h left d.spent operates.heard h' k
      by_what k ek =
          subst (λ (k : Operated). OperatesBy stores program scope op h left d.spent operates.heard h' k) ek
          operates.by

      led : (b : Doing) →
          Leads stores (operating scope op depth (go_on exec a)) h d.spent operates.heard b h' →
          Leads stores all h d.spent operates.heard (awaited waiting (bordered b)) h'
      led b l =
          leads_bordered stores waiting due h d.spent operates.heard h' b
          (leads_from stores due (operating scope op depth (go_on exec a)) h same d.spent operates.heard b h' l)

      pub op_replies : (answer : Reply) → d.what ≡ operated.Replies answer →
          Leads stores all h d.spent operates.heard (awaited waiting (bordered (replying a answer))) h'
      op_replies answer ek = led (replying a answer) (by_what (operated.Replies answer) ek depth (go_on exec a))

      pub op_invokes : (f : Invoked) → d.what ≡ operated.Invokes f →
          (called : Called) × IsInvoked program called f ×
          Leads stores all h d.spent operates.heard
          (awaited waiting (bordered (invoking called depth (go_on exec a)))) h'
      op_invokes f ek =
          let l = by_what (operated.Invokes f) ek in
          (l.0, l.1, led (invoking l.0 depth (go_on exec a)) (l.2 depth (go_on exec a)))

      pub op_limit : d.what ≡ operated.Limit →
          Rounds stores (Moves bounds asks) all h o left d.spent round.Limit waiting h'
          o'
      op_limit ek =
          let l = by_what operated.Limit ek in
          record {
            within = operates.within;
            heard = operates.heard;
            chain = op_chain;
            by = (
              stops_bordered stores waiting due h d.spent operates.heard h'
                  (stops_from stores due (operating scope op depth (go_on exec a)) h same d.spent
                  operates.heard h' (l.0 depth (go_on exec a) (λ v answer none. go_on_stops a answer v none))),
              l.1,
            );
          }

      -- ---- with the part behind it

      abbrev AllRounds : W → List Waiting → Rounded → Type 0
      AllRounds o2 around x =
          Rounds stores (Moves bounds asks) all h o left x.spent x.round around h' o2

      abbrev AllLacks : W → Lacking → Type 0
      AllLacks o2 x =
          Lacks stores (Moves bounds asks) all h o left x.spent x.lack h' o2

      module _ (b : Doing) (l : Leads stores all h d.spent operates.heard (awaited waiting (bordered b)) h')
          (o2 : W) where
        goes_on : (around : List Waiting) (x : Rounded) →
            Rounds stores (Moves bounds asks) (awaited waiting (bordered b)) h' o' (left - d.spent) x.spent
            x.round around h' o2 →
            AllRounds o2 around (record x { spent = d.spent + x.spent })
        goes_on around x p =
            rounds_on stores (Moves bounds asks) all (awaited waiting (bordered b)) h h' o o' left d.spent
            operates.heard operates.within op_chain l x.spent h' o2 around x.round p

        runs_short : (x : Lacking) →
            Lacks stores (Moves bounds asks) (awaited waiting (bordered b)) h' o' (left - d.spent) x.spent
            x.lack h' o2 → AllLacks o2 (record x { spent = d.spent + x.spent })
        runs_short x p =
            lacks_on stores (Moves bounds asks) all (awaited waiting (bordered b)) h h' o o' left d.spent
            operates.heard operates.within op_chain l x.spent h' o2 x.lack p

      module _ (answer : Reply) (ek : d.what ≡ operated.Replies answer) (part s : Result Rounded Lacking)
          (es : s ≡ later d.spent part) where
        pub replies_rounds : IfOk part (λ x. TakesReply a answer x) → IfOk s (AllRounds o' waiting)
        replies_rounds p =
            later_ok (λ (x : Rounded). TakesReply a answer x) (AllRounds o' waiting) d.spent part s es p (λ x takes.
            goes_on (replying a answer) (op_replies answer ek) o' waiting x
            (reply_rounds stores (Moves bounds asks) a answer h' o' (left - d.spent) waiting x takes))

        pub replies_lacks : IfErr part (λ x. LacksAtOnce x) → IfErr s (AllLacks o')
        replies_lacks p =
            later_err (λ (x : Lacking). LacksAtOnce x) (AllLacks o') d.spent part s es p (λ x none.
            runs_short (replying a answer) (op_replies answer ek) o' x
            (reply_lacks stores (Moves bounds asks) a answer h' o' (left - d.spent) waiting x none))

      -- the call of a function, as whoever does it says
      module _ (f : Invoked) (ek : d.what ≡ operated.Invokes f) (part : Result Rounded Lacking) (o2 : W) where
        abbrev CallRounds : List Waiting → Rounded → Type 0
        CallRounds around x =
            (called : Called) → IsInvoked program called f → (held : HeldParts) →
            Rounds stores (Moves bounds asks)
            (awaited waiting (bordered (invoking called depth (go_on exec a)))) held o' (left - d.spent) x.spent
            x.round around held o2

        abbrev CallLacks : Lacking → Type 0
        CallLacks x =
            (called : Called) → IsInvoked program called f → (held : HeldParts) →
            Lacks stores (Moves bounds asks)
            (awaited waiting (bordered (invoking called depth (go_on exec a)))) held o' (left - d.spent) x.spent
            x.lack held o2

        abbrev due_call : (called : Called) × IsInvoked program called f ×
            Leads stores all h d.spent operates.heard
            (awaited waiting (bordered (invoking called depth (go_on exec a)))) h'
        due_call = op_invokes f ek

        module _ (few : left ≤ 18446744073709551615) where
          pub invokes_fits : (around : List Waiting) → IfOk part (CallRounds around) →
              IfOk part (λ x. d.spent + x.spent ≤ 18446744073709551615)
          invokes_fits around p =
              if_ok (CallRounds around) (λ (x : Rounded). d.spent + x.spent ≤ 18446744073709551615) part p (λ x q.
              sum_fits d.spent x.spent left operates.within few (q due_call.0 due_call.1 h').within)

          pub invokes_short_fits : IfErr part CallLacks → IfErr part (λ x. d.spent + x.spent ≤ 18446744073709551615)
          invokes_short_fits p =
              if_err CallLacks (λ (x : Lacking). d.spent + x.spent ≤ 18446744073709551615) part p (λ x q.
              sum_fits d.spent x.spent left operates.within few (q due_call.0 due_call.1 h').within)

        module _ (s : Result Rounded Lacking) (es : s ≡ later d.spent part) where
          pub invokes_rounds : (around : List Waiting) → IfOk part (CallRounds around) → IfOk s (AllRounds o2 around)
          invokes_rounds around p =
              later_ok (CallRounds around) (AllRounds o2 around) d.spent part s es p (λ x q.
              goes_on (invoking due_call.0 depth (go_on exec a)) due_call.2 o2 around x
              (q due_call.0 due_call.1 h'))

          pub invokes_lacks : IfErr part CallLacks → IfErr s (AllLacks o2)
          invokes_lacks p =
              later_err CallLacks (AllLacks o2) d.spent part s es p (λ x q.
              runs_short (invoking due_call.0 depth (go_on exec a)) due_call.2 o2 x
              (q due_call.0 due_call.1 h'))

-- ---- the fuel of a store that is well formed

module _ (bounds : Bounds) (id : StoreId) (engine : EngineParts) (rules : AreRulesOf engine bounds.rules) where
  -- there is a store that is bounded so
  abbrev a_base : Machine
  a_base = record (new_machine id engine) {
    is_limited = bounds.rules.limited;
    is_hooked = bounds.hooked;
    is_behaving = bounds.rules.behaving;
  }

  is_open : IsOpen bounds id engine a_base
  is_open = record {
    bounded =
        record {
          ruled =
              record {
                frames_are = rules.0;
                fuel_is = rules.1;
                epochs_are = rules.2;
                limited_is = refl;
                behaving_is = λ reads. refl;
              };
          hooked_is = refl;
        };
    id_is = refl;
    engine_is = refl;
    behaving_is = refl;
  }

  pub few_owed : (program : ProgramParts) (h : HeldParts) →
      ((base : Machine) → IsOpen bounds id engine base → IsWellFormed (run_machine base program h)) →
      debt h.fuel ≤ most_debt
  few_owed program h formed = (formed a_base is_open).debt_is

  -- of one that is held otherwise, in the same store
  pub same_fuel : (program : ProgramParts) (h h' : HeldParts) →
      ((base : Machine) → IsOpen bounds id engine base → run_machine base program h' ≡ run_machine base program h) →
      h'.fuel ≡ h.fuel
  same_fuel program h h' stays = ap (λ (m : Machine). m.fuel) (stays a_base is_open)
