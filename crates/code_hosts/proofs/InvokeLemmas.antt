-- A function is entered whose call a body of the host asked for.
use Rattle.std.proofs.Common.{Some, ◌≡◌, ℕ, ◌+◌, ◌-◌, List, [], ◌∷◌, ◌++◌, sym, ap, ◌∙◌, subst, arith}
use Rattle.std.proofs.lemmas.Option.{same_Some}
use Rattle.std.specs.Prelude.{Option, None}
use Rattle.wasm_types.specs.FunctionParts.{results}
use Rattle.wasm_types.specs.Signatures.{Signature}
use Rattle.wasm_types.specs.declared.value_types.ValType.{ValType}
use Rattle.wasm_meter.specs.declared.call_hook.CallHook.TheVariants as event
use Rattle.wasm_values.specs.declared.refusals.Refusal.TheVariants as refusal
use Rattle.wasm_objects.specs.declared.raw.RawVal.{RawVal}
use Rattle.spec_machine.specs.FunctionCalls.{Called}
use Rattle.spec_machine.specs.declared.reply.Reply.TheVariants as reply
use Rattle.spec_execution.specs.Activations.{Activation}
use Rattle.spec_execution.specs.Askings.{Question, Answer, Asking}
use Rattle.spec_execution.specs.Bodies.{exec}
use Rattle.spec_execution.specs.Checks.{pass, pass_behind}
use Rattle.spec_execution.specs.Commands.{by_run, call_reply}
use Rattle.spec_execution.specs.Entering.{enter}
use Rattle.spec_execution.specs.Hosts.{go_on}
use Rattle.spec_execution.specs.Outcomes.{Outcome, Over, Refused}
use Rattle.store_state.specs.Parts.{HeldParts}
use Rattle.code_leaps.specs.Leading.{Doing, Setting, Leads, Halts}
use Rattle.code_leaps.proofs.PartLemmas.{leads_within, stops_within, stops_halts}
use Rattle.code_hosts.specs.Entrances.{Waits}
use Rattle.code_hosts.specs.Hosting as hosting
use Rattle.code_hosts.specs.Hosting.{back_to, outwards, Asks}
use Rattle.code_hosts.specs.Operating.{invoking}
use Rattle.code_hosts.specs.Parting.{awaited, bordered, replying, TakesReply, LacksAtOnce}
use Rattle.code_hosts.specs.Rounds.{ends_in, RoundBy, Rounds, Lacks}
use Rattle.code_hosts.specs.States.{open_of, waiting_of, around_of, due_of}
use Rattle.code_hosts.specs.Telling.{TellsBy, Tells}
use Rattle.code_hosts.specs.declared.rounds.Lack.TheVariants as lack
use Rattle.code_hosts.specs.declared.rounds.Lacking.{Lacking}
use Rattle.code_hosts.specs.declared.rounds.Round.{Round}
use Rattle.code_hosts.specs.declared.rounds.Round.TheVariants as round
use Rattle.code_hosts.specs.declared.rounds.Rounded.{Rounded}
use Rattle.code_hosts.specs.declared.states.Waiting.{Waiting}
use Rattle.code_hosts.specs.declared.borders.Told.{Told}
use Rattle.code_hosts.specs.declared.borders.Word.{Word}
use Rattle.code_hosts.specs.declared.borders.Word.TheVariants as word
use Rattle.code_hosts.proofs.ContextLemmas.{around_more, outwards_stopped, does_halts, halts_outwards, halts_back}
use Rattle.code_hosts.proofs.LeaveLemmas.{reply_rounds, reply_lacks}
use Rattle.code_hosts.proofs.PartingLemmas.{leads_halts}
use Rattle.code_hosts.proofs.RoundLemmas.{rounds_outwards, rounds_on, lacks_on}
use Rattle.code_hosts.proofs.SettleLemmas.{ended_halts}

-- ---- where no turn is left behind a part, nothing of the outside is lacking

round_halts : {H : Type 0} (g : Setting H) (due : Doing) (h : H) (left n : ℕ) (heard : List Asking) (h' : H) (r : Round)
    → RoundBy g due h left n heard [] h' r → Halts g due h n heard h'
round_halts g due h left n heard h' (round.Goes now) l =
    leads_halts g due (due_of now []) h n heard h' l (does_halts (open_of now))
round_halts g due h left n heard h' (round.Ends y) l =
    leads_halts g due (ends_in [] y) h n heard h' l.0 (λ w none. ended_halts y w)
round_halts g due h left n heard h' round.Limit l = stops_halts g due h n heard h' l.0

-- ---- the function that was entered

module _ {W : Type 0} (g : Setting HeldParts) (moves : W → Question → Answer → W → Type 0) (p : Waiting) (entry : Doing)
    (h : HeldParts) (o : W) (left : ℕ) (around : List Waiting) where
  abbrev all : Doing
  all = awaited around (λ w. back_to (waiting_of p) (entry w))

  all_halts : (n : ℕ) (heard : List Asking) → Halts g entry h n heard h → Halts g all h n heard h
  all_halts n heard l =
      halts_outwards g (around_of around) _ h n heard h (halts_back g (waiting_of p) entry h n heard h l)

  -- there was no memory to enter it
  pub invoke_waits : (o' : W) → Waits g moves entry h o o' → Lacks g moves all h o left 0 lack.Run h o'
  invoke_waits o' x = record {
    within = omega arith;
    heard = x.heard;
    chain = x.chain;
    by = all_halts 0 x.heard x.halts;
  }

  module _ (n : ℕ) (r : Round) (o' : W) (x : Rounds g moves entry h o left n r [] h o') where
    -- there was no memory to let the body wait
    pub invoke_lacks : Lacks g moves all h o left n lack.Run h o'
    invoke_lacks = record {
      within = x.within;
      heard = x.heard;
      chain = x.chain;
      by = all_halts n x.heard (round_halts g entry h left n x.heard h r x.by);
    }

    pub invoke_rounds : (around' : List Waiting) → around' ≡ around ++ p ∷ [] →
        Rounds g moves all h o left n r around' h o'
    invoke_rounds around' more =
        subst (λ (ps : List hosting.Waiting). Rounds g moves (λ w. outwards ps (entry w)) h o left n r around' h o')
        (ap around_of more ∙ around_more around p) (rounds_outwards g moves around' entry h o left n h o' r x)

-- ---- the border before it

module _ {W : Type 0} (g : Setting HeldParts) (moves : W → Question → Answer → W → Type 0) (a : Activation)
    (called : Called) (depth : ℕ) (h : HeldParts) (o : W) (left : ℕ) (around : List Waiting) (told : Told) (o' : W)
    (t : Tells g moves event.CallingWasm h o left told o') where
  abbrev entered : Doing
  entered w = pass_behind event.ReturningFromWasm (enter exec depth called.function called.arguments None w)

  abbrev onwards : Outcome → Outcome
  onwards x =
      outwards (around_of around)
      (pass_behind event.ReturningFromHost (by_run Over (call_reply called) (go_on exec a) x))

  abbrev calling : Doing
  calling = awaited around (bordered (invoking called depth (go_on exec a)))

  by_word : (y : Word) → told.word ≡ y → TellsBy g event.CallingWasm entered h left told.spent t.heard y
  by_word y e =
      subst (λ (y : Word). TellsBy g event.CallingWasm entered h left told.spent t.heard y) e (t.by entered)

  pub invoke_passes : told.word ≡ word.Passes → (f : ℕ) (args : List RawVal) (types : List ValType) →
      called.function ≡ f → called.arguments ≡ args → called.results ≡ types →
      Leads g calling h told.spent t.heard
      (awaited around (λ w. back_to (Asks a types) (enter exec depth f args None w))) h
  invoke_passes e f args types ef ea et =
      subst (λ (types : List ValType). Leads g calling h told.spent t.heard
      (awaited around (λ w. back_to (Asks a types) (enter exec depth f args None w))) h) et
      (subst (λ (args : List RawVal). Leads g calling h told.spent t.heard
      (awaited around (λ w. back_to (Asks a called.results) (enter exec depth f args None w))) h) ea
      (subst (λ (f : ℕ). Leads g calling h told.spent t.heard
      (awaited around (λ w. back_to (Asks a called.results) (enter exec depth f called.arguments None w))) h) ef
      (leads_within g onwards (λ w. pass event.CallingWasm w entered) h told.spent t.heard h entered
      (by_word word.Passes e))))

  pub invoke_refused : told.word ≡ word.Fails →
      Leads g calling h told.spent t.heard (awaited around (bordered (replying a (reply.Refused refusal.HookFault)))) h
  invoke_refused e =
      leads_within g onwards (λ w. pass event.CallingWasm w entered) h told.spent t.heard h
      (λ w. Over (Refused refusal.HookFault) w) (by_word word.Fails e)

  pub invoke_limit : told.word ≡ word.Limit → Rounds g moves calling h o left told.spent round.Limit around h o'
  invoke_limit e =
      let l = by_word word.Limit e in
      record {
        within = t.within;
        heard = t.heard;
        chain = t.chain;
        by = (
          stops_within g onwards (λ w. pass event.CallingWasm w entered) h told.spent t.heard h
              (outwards_stopped (around_of around)) l.0,
          l.1,
        );
      }

  -- ---- with the part behind it

  abbrev AllRounds : W → List Waiting → Rounded → Type 0
  AllRounds o2 around' x = Rounds g moves calling h o left x.spent x.round around' h o2

  abbrev AllLacks : W → Lacking → Type 0
  AllLacks o2 x = Lacks g moves calling h o left x.spent x.lack h o2

  module _ (e : told.word ≡ word.Passes) (f : ℕ) (args : List RawVal) (types : List ValType)
      (ef : called.function ≡ f) (ea : called.arguments ≡ args) (et : called.results ≡ types) (o2 : W) where
    abbrev called_so : Doing
    called_so = awaited around (λ w. back_to (Asks a types) (enter exec depth f args None w))

    pub passes_rounds : (around' : List Waiting) (x : Rounded) →
        Rounds g moves called_so h o' (left - told.spent) x.spent x.round around' h o2 →
        AllRounds o2 around' (record x { spent = told.spent + x.spent })
    passes_rounds around' x p =
        rounds_on g moves calling called_so h h o o' left told.spent t.heard t.within t.chain
        (invoke_passes e f args types ef ea et) x.spent h o2 around' x.round p

    pub passes_lacks : (x : Lacking) → Lacks g moves called_so h o' (left - told.spent) x.spent x.lack h o2 →
        AllLacks o2 (record x { spent = told.spent + x.spent })
    passes_lacks x p =
        lacks_on g moves calling called_so h h o o' left told.spent t.heard t.within t.chain
        (invoke_passes e f args types ef ea et) x.spent h o2 x.lack p

  module _ (e : told.word ≡ word.Fails) where
    abbrev refused_so : Doing
    refused_so = awaited around (bordered (replying a (reply.Refused refusal.HookFault)))

    pub fails_rounds : (x : Rounded) → TakesReply a (reply.Refused refusal.HookFault) x →
        AllRounds o' around (record x { spent = told.spent + x.spent })
    fails_rounds x p =
        rounds_on g moves calling refused_so h h o o' left told.spent t.heard t.within t.chain (invoke_refused e)
        x.spent h o' around x.round
        (reply_rounds g moves a (reply.Refused refusal.HookFault) h o' (left - told.spent) around x p)

    pub fails_lacks : (x : Lacking) → LacksAtOnce x → AllLacks o' (record x { spent = told.spent + x.spent })
    fails_lacks x p =
        lacks_on g moves calling refused_so h h o o' left told.spent t.heard t.within t.chain (invoke_refused e)
        x.spent h o' x.lack
        (reply_lacks g moves a (reply.Refused refusal.HookFault) h o' (left - told.spent) around x p)

-- the types of its results, as the program has them
pub types_alike : (o : Option Signature) (found ty : Signature) (rs : List ValType) → Some found ≡ o → o ≡ Some ty →
    rs ≡ results ty → rs ≡ results found
types_alike o found ty rs e et er = er ∙ ap results (same_Some ty found (sym et ∙ sym e))
