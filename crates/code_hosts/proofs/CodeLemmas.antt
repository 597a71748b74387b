-- Code goes on, and enters the functions of the host that it calls.
use Rattle.std.proofs.Common.{◌≡◌, ℕ, ◌+◌, ◌*◌, ◌-◌, ◌≤◌, List, [], ◌∷◌, ◌++◌, Some, refl, sym, ap, ◌∙◌, subst, arith}
use Rattle.std.specs.Global.{Global as GlobalSpec}
use Rattle.std.specs.Prelude.{reverse, take, Box, Vec}
use Rattle.wasm_objects.specs.declared.raw.RawVal.{RawVal}
use Rattle.spec_execution.specs.Askings.{Question, Answer, Asking}
use Rattle.spec_execution.specs.Outcomes.{World, state, Values, Over}
use Rattle.spec_execution.specs.declared.answer.Event.TheVariants.{Start}
use Rattle.store_state.specs.Parts.{HeldParts}
use Rattle.wasm_host.specs.Activations.{activation_of}
use Rattle.wasm_host.specs.declared.activation.Activation.{Activation as Entered_body}
use Rattle.code_stack.specs.Layers.{Configuration}
use Rattle.code_leaps.specs.Leading.{Doing, Setting, Leads, Stops, Halts}
use Rattle.code_run.specs.Pausing.{due}
use Rattle.code_stack.specs.Steps.{end_of, hosted, arguments_at}
use Rattle.code_run.specs.Steps.{seen}
use Rattle.code_leaps.specs.Turns.{EndsBy, Ends}
use Rattle.code_stack.specs.declared.steps.Fault.{Fault}
use Rattle.code_stack.specs.declared.steps.HostCall.{HostCall}
use Rattle.code_run.specs.declared.thread.Thread.{Thread}
use Rattle.code_stack.specs.declared.turns.Ended.{Ended}
use Rattle.code_stack.specs.declared.turns.Ending.{Ending}
use Rattle.code_stack.specs.declared.turns.Ending.TheVariants as ending
use Rattle.code_leaps.proofs.PartLemmas.{leads_from, stops_from, halts_from}
use Rattle.code_hosts.specs.declared.replies.How.{How}
use Rattle.code_hosts.specs.declared.replies.How.TheVariants as how
use Rattle.code_hosts.specs.Behind.{ended}
use Rattle.code_hosts.specs.Entrances.{entering, EntersBy, Enters, Waits}
use Rattle.code_hosts.specs.Hosting as hosting
use Rattle.code_hosts.specs.Hosting.{back_to, does, outwards, Calls}
use Rattle.code_hosts.specs.Parting.{awaited}
use Rattle.code_hosts.specs.Rounds.{IsEnd, RoundBy, Rounds, Lacks}
use Rattle.code_hosts.specs.States.{around_of}
use Rattle.code_hosts.specs.declared.body_entry.Entered.{Entered}
use Rattle.code_hosts.specs.declared.body_entry.Entrance.{Entrance}
use Rattle.code_hosts.specs.declared.body_entry.Entrance.TheVariants as entrance
use Rattle.code_hosts.specs.declared.rounds.Lack.TheVariants as lack
use Rattle.code_hosts.specs.declared.rounds.Round.{Round}
use Rattle.code_hosts.specs.declared.rounds.Round.TheVariants as round
use Rattle.code_hosts.specs.declared.states.Open.TheVariants as working
use Rattle.code_hosts.specs.declared.states.Waiting.{Waiting}
use Rattle.code_hosts.specs.declared.states.Waiting.TheVariants as waiting
use Rattle.code_hosts.proofs.ContextLemmas.{around_more, does_halts, leads_outwards, stops_outwards, halts_outwards, leads_back, stops_back, halts_back, leads_past_code}
use Rattle.code_hosts.proofs.PartingLemmas.{leads_halts, fault_round}
use Rattle.store_state.specs.Tanks.{most_owed}
use Rattle.code_leaps.specs.Spending.{most_cost}

-- ---- a function of the host that code called

module _ {W : Type 0} (g : Setting HeldParts) (moves : W → Question → Answer → W → Type 0) (t : Box Thread GlobalSpec) (call : HostCall)
    (h : HeldParts) (o : W) (left : ℕ) (around : List Waiting) (depth : ℕ) (args : List RawVal) (instance : ℕ)
    (code : Thread) (code_is : code ≡ t.value) (depth_is : depth ≡ code.activation.depth)
    (args_are : args ≡ arguments_at (seen code) call) (instance_is : instance ≡ code.activation.instance) where
  abbrev entry : Doing
  entry = entering call depth args (Some instance)

  abbrev all : Doing
  all = awaited around (hosted (seen t.value) call)

  abbrev within : Doing
  within = awaited around (λ w. back_to (Calls t.value call) (entry w))

  same : (w : World) → all w ≡ within w
  same w = rw (depth_is, args_are, instance_is, code_is) refl

  module _ (n : ℕ) (heard : List Asking) where
    all_leads : (b : Doing) → Leads g entry h n heard b h →
        Leads g all h n heard (awaited around (λ w. back_to (Calls t.value call) (b w))) h
    all_leads b l =
        leads_from g all within h (λ base is turns before answers. same _) n heard _ h
        (leads_outwards g (around_of around) _ h n heard h _ (leads_back g (Calls t.value call) entry h n heard h b l))

    all_stops : Stops g entry h n heard h → Stops g all h n heard h
    all_stops l =
        stops_from g all within h (λ base is turns before answers. same _) n heard h
        (stops_outwards g (around_of around) _ h n heard h (stops_back g (Calls t.value call) entry h n heard h l))

    all_halts : Halts g entry h n heard h → Halts g all h n heard h
    all_halts l =
        halts_from g all within h (λ base is turns before answers. same _) n heard h
        (halts_outwards g (around_of around) _ h n heard h (halts_back g (Calls t.value call) entry h n heard h l))

  -- there was no memory to enter it
  pub call_waits : (o' : W) → Waits g moves entry h o o' → Lacks g moves all h o left 0 lack.Run h o'
  call_waits o' x = record {
    within = omega arith;
    heard = x.heard;
    chain = x.chain;
    by = all_halts 0 x.heard x.halts;
  }

  module _ (entered : Entered) (o' : W) (x : Enters g moves entry h o left entered o') where
    by_what : (what : Entrance) → entered.what ≡ what → EntersBy g entry h left entered.spent x.heard what
    by_what what e =
        subst (λ (what : Entrance). EntersBy g entry h left entered.spent x.heard what) e x.by

    ends_with : (around' : List Waiting) (y : Round) → RoundBy g all h left entered.spent x.heard around' h y →
        Rounds g moves all h o left entered.spent y around' h o'
    ends_with around' y by = record { within = x.within; heard = x.heard; chain = x.chain; by = by }

    pub call_opens : (a : Entered_body) → entered.what ≡ entrance.Opens a → (around' : List Waiting) →
        around' ≡ around ++ waiting.Calls t call ∷ [] →
        Rounds g moves all h o left entered.spent (round.Goes (working.Body a Start)) around' h o'
    call_opens a e around' more =
        let now : Doing = does (hosting.Body (activation_of a) Start) in
        ends_with around' (round.Goes (working.Body a Start))
        (subst (λ (ps : List hosting.Waiting). Leads g all h entered.spent x.heard (λ w. outwards ps (now w)) h)
        (sym (ap around_of more ∙ around_more around (waiting.Calls t call)))
        (all_leads entered.spent x.heard now (by_what (entrance.Opens a) e)))

    -- there was no memory to let the code wait
    pub call_lacks : (a : Entered_body) → entered.what ≡ entrance.Opens a →
        Lacks g moves all h o left entered.spent lack.Run h o'
    call_lacks a e = record {
      within = x.within;
      heard = x.heard;
      chain = x.chain;
      by =
          all_halts entered.spent x.heard
          (leads_halts g entry (does (hosting.Body (activation_of a) Start)) h entered.spent x.heard h
          (by_what (entrance.Opens a) e) (does_halts (hosting.Body (activation_of a) Start)));
    }

    pub call_fails : (f : Fault) → entered.what ≡ entrance.Fails f → (y : How) → ended y ≡ Over (end_of f) → IsEnd y →
        Rounds g moves all h o left entered.spent (round.Ends y) around h o'
    call_fails f e y ey end =
        ends_with around (round.Ends y) (fault_round g all h left entered.spent x.heard around h f y ey end
        (leads_from g all within h (λ base is turns before answers. same _) entered.spent x.heard _ h
        (leads_outwards g (around_of around) _ h entered.spent x.heard h _
        (leads_past_code g t.value call entry h entered.spent x.heard h (end_of f) (by_what (entrance.Fails f) e)))))

    pub call_limit : entered.what ≡ entrance.Limit → Rounds g moves all h o left entered.spent round.Limit around h o'
    call_limit e =
        let l = by_what entrance.Limit e in
        ends_with around round.Limit (all_stops entered.spent x.heard l.0, l.1)

-- ---- code that was run

module _ {W : Type 0} (g : Setting HeldParts) (moves : W → Question → Answer → W → Type 0) (t : Thread) (h : HeldParts)
    (o : W) (left : ℕ) (around : List Waiting) (finished : Ended) (new : Configuration) (h' : HeldParts) (o' : W)
    (x : Ends g moves (due t) h o left finished new h' o') where
  abbrev code : Doing
  code = awaited around (due t)

  by_ending : (k : Ending) → finished.how ≡ k → EndsBy g (due t) h left finished.spent x.heard new h' k
  by_ending k e =
      subst (λ (k : Ending). EndsBy g (due t) h left finished.spent x.heard new h' k) e x.ends

  code_leads : (b : Doing) → Leads g (due t) h finished.spent x.heard b h' →
      Leads g code h finished.spent x.heard (awaited around b) h'
  code_leads b l = leads_outwards g (around_of around) (due t) h finished.spent x.heard h' b l

  code_rounds : (y : Round) → RoundBy g code h left finished.spent x.heard around h' y →
      Rounds g moves code h o left finished.spent y around h' o'
  code_rounds y by = record { within = x.within; heard = x.heard; chain = x.chain; by = by }

  code_lacks : Halts g (due t) h finished.spent x.heard h' → Lacks g moves code h o left finished.spent lack.Run h' o'
  code_lacks l = record {
    within = x.within;
    heard = x.heard;
    chain = x.chain;
    by = halts_outwards g (around_of around) (due t) h finished.spent x.heard h' l;
  }

  pub code_fails : (f : Fault) → finished.how ≡ ending.Fails f → (y : How) → ended y ≡ Over (end_of f) → IsEnd y →
      Rounds g moves code h o left finished.spent (round.Ends y) around h' o'
  code_fails f e y ey end =
      code_rounds (round.Ends y) (fault_round g code h left finished.spent x.heard around h' f y ey end
      (code_leads (Over (end_of f)) (by_ending (ending.Fails f) e)))

  abbrev results : Doing
  results w = Values (state w [] (take new.activation.results new.values.operands))

  pub code_done : finished.how ≡ ending.Done → (v : Vec RawVal GlobalSpec) →
      reverse v.items ≡ take new.activation.results new.values.operands →
      Rounds g moves code h o left finished.spent (round.Ends (how.Returned v)) around h' o'
  code_done e v ev =
      code_rounds (round.Ends (how.Returned v)) (
        code_leads (ended (how.Returned v))
            (subst (λ (ops : List RawVal). Leads g (due t) h finished.spent x.heard (λ w. Values (state w [] ops)) h') (sym ev)
            (by_ending ending.Done e)),
        tt,
      )

  -- there was no memory for a copy of the results
  pub code_uncopied : finished.how ≡ ending.Done → Lacks g moves code h o left finished.spent lack.Run h' o'
  code_uncopied e =
      code_lacks (leads_halts g (due t) results h finished.spent x.heard h' (by_ending ending.Done e) (λ w none. refl))

  pub code_limit : finished.how ≡ ending.Limit → Rounds g moves code h o left finished.spent round.Limit around h' o'
  code_limit e =
      let l = by_ending ending.Limit e in
      code_rounds round.Limit
      (stops_outwards g (around_of around) (due t) h finished.spent x.heard h' l.0, l.1)

  pub code_exhausted : finished.how ≡ ending.Exhausted → Lacks g moves code h o left finished.spent lack.Run h' o'
  code_exhausted e = code_lacks (by_ending ending.Exhausted e)

  pub code_calls : (call : HostCall) → finished.how ≡ ending.Calls call →
      Leads g code h finished.spent x.heard (awaited around (hosted new call)) h'
  code_calls call e = code_leads (hosted new call) (by_ending (ending.Calls call) e)

-- the fuel behind it
pub code_fuel : (old new n left : ℕ) → n ≤ left → old + left * most_cost ≤ most_owed → new ≤ old + n * most_cost →
    new + (left - n) * most_cost ≤ most_owed
code_fuel old new n left a b c = omega arith
