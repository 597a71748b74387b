-- A body of the host ends, or goes on behind the reply to its operation.
use Rattle.std.proofs.Common.{Some, ◌≡◌, ℕ, ◌+◌, ◌-◌, ◌*◌, ◌<◌, List, [], length, map, reverse, refl, sym, ap, ◌∙◌, subst, arith}
use Rattle.std.proofs.lemmas.List.{append-nil}
use Rattle.std.specs.Prelude.{◌&&◌}
use Rattle.std.specs.List.{list_all}
use Rattle.wasm_types.specs.declared.value_types.ValType.{ValType}
use Rattle.wasm_meter.specs.declared.call_hook.CallHook.TheVariants as event
use Rattle.wasm_values.specs.declared.refusals.Refusal.TheVariants as refusal
use Rattle.wasm_values.specs.declared.values.Val.{Val}
use Rattle.spec_machine.specs.Machine.{Machine}
use Rattle.spec_machine.specs.Values.{owns_val, raw_val, all_fit}
use Rattle.spec_machine.specs.declared.reply.Reply.{Reply}
use Rattle.spec_execution.specs.Activations.{Activation, replied}
use Rattle.spec_execution.specs.Askings.{Question, Answer, Asking}
use Rattle.spec_execution.specs.Bodies.{exec}
use Rattle.spec_execution.specs.Checks.{pass_behind}
use Rattle.spec_execution.specs.Hosts.{said, returned}
use Rattle.spec_execution.specs.Outcomes.{World, world, state, Values, Outcome, Over, Refused}
use Rattle.spec_execution.specs.declared.answer.Answer.{Answer as Say}
use Rattle.spec_execution.specs.declared.answer.Answer.TheVariants as say
use Rattle.spec_execution.specs.declared.answer.Event.TheVariants.{Replied}
use Rattle.store_state.specs.Parts.{HeldParts}
use Rattle.code_leaps.specs.Leading.{Doing, Setting, at, halted, Leads, Stops, Halts}
use Rattle.code_run.proofs.NoTurnLemmas.{either_halts}
use Rattle.code_leaps.proofs.PartLemmas.{leads_none, leads_within, stops_within, halts_within}
use Rattle.code_hosts.specs.declared.replies.How.{How}
use Rattle.code_hosts.specs.declared.replies.How.TheVariants as how
use Rattle.code_hosts.specs.declared.replies.Reply.{Reply as Told}
use Rattle.code_hosts.specs.Behind.{ended, PassesBy, Passes}
use Rattle.code_hosts.specs.Hosting as hosting
use Rattle.code_hosts.specs.Hosting.{does, opened, outwards}
use Rattle.code_hosts.specs.Operating.{Returns}
use Rattle.code_hosts.specs.Parting.{awaited, bordered, replying, TakesReply, LacksAtOnce}
use Rattle.code_hosts.specs.Rounds.{IsNearer, RoundBy, Rounds, Lacks}
use Rattle.code_hosts.specs.States.{around_of}
use Rattle.code_hosts.specs.declared.rounds.Lack.{Lack}
use Rattle.code_hosts.specs.declared.rounds.Lack.TheVariants as lack
use Rattle.code_hosts.specs.declared.rounds.Lacking.{Lacking}
use Rattle.code_hosts.specs.declared.rounds.Round.{Round}
use Rattle.code_hosts.specs.declared.rounds.Round.TheVariants as round
use Rattle.code_hosts.specs.declared.rounds.Rounded.{Rounded}
use Rattle.code_hosts.specs.declared.states.Open.TheVariants as working
use Rattle.code_hosts.specs.declared.states.Waiting.{Waiting}
use Rattle.code_hosts.proofs.ContextLemmas.{outwards_stopped, outwards_halts, border_halts, go_on_stops, leads_outwards, stops_outwards, halts_now}
use Rattle.code_hosts.proofs.PartingLemmas.{rounds_then}

-- ---- behind the border of a body, where functions wait

module _ {H : Type 0} (g : Setting H) (around : List Waiting) (a : Doing) (h : H) (n : ℕ) (heard : List Asking)
    (h' : H) where
  abbrev pub past : Outcome → Outcome
  past o = outwards (around_of around) (pass_behind event.ReturningFromHost o)

  pub leads_bordered : (b : Doing) → Leads g a h n heard b h' →
      Leads g (awaited around (bordered a)) h n heard (awaited around (bordered b)) h'
  leads_bordered b l = leads_within g past a h n heard h' b l

  pub stops_bordered : Stops g a h n heard h' → Stops g (awaited around (bordered a)) h n heard h'
  stops_bordered l = stops_within g past a h n heard h' (outwards_stopped (around_of around)) l

  pub halts_bordered : Halts g a h n heard h' → Halts g (awaited around (bordered a)) h n heard h'
  halts_bordered l =
      halts_within g past a h n heard h' (λ o w none p.
      outwards_halts (around_of around) _ w none (border_halts event.ReturningFromHost o w none p)) l

-- ---- a body that is left

module _ {W : Type 0} (g : Setting HeldParts) (moves : W → Question → Answer → W → Type 0) (old : How) (h : HeldParts)
    (o : W) (left : ℕ) (around : List Waiting) (new : Told) (o' : W)
    (x : Passes g moves event.ReturningFromHost old h o left new o') where
  abbrev leaving : Doing
  leaving = awaited around (bordered (ended old))

  by_how : (y : How) → new.how ≡ y → PassesBy g event.ReturningFromHost old h left new.turns x.heard y
  by_how y e = subst (λ (y : How). PassesBy g event.ReturningFromHost old h left new.turns x.heard y) e x.by

  leaves_with : (y : Round) → RoundBy g leaving h left new.turns x.heard around h y →
      Rounds g moves leaving h o left new.turns y around h o'
  leaves_with y by = record { within = x.within; heard = x.heard; chain = x.chain; by = by }

  leaves_on : (b : Doing) → Leads g (bordered (ended old)) h new.turns x.heard b h →
      Leads g leaving h new.turns x.heard (awaited around b) h
  leaves_on b l = leads_outwards g (around_of around) (bordered (ended old)) h new.turns x.heard h b l

  pub leaves_late : new.how ≡ how.TurnLimit → Rounds g moves leaving h o left new.turns round.Limit around h o'
  leaves_late e =
      let l = by_how how.TurnLimit e in
      leaves_with round.Limit
      (stops_outwards g (around_of around) (bordered (ended old)) h new.turns x.heard h l.0, l.1)

  pub leaves_so : (y : How) → new.how ≡ y → (y ≡ how.TurnLimit → ⊥) →
      Rounds g moves leaving h o left new.turns (round.Ends y) around h o'
  leaves_so (how.Returned v) e other =
      leaves_with (round.Ends (how.Returned v)) (leaves_on (ended (how.Returned v)) (by_how (how.Returned v) e), tt)
  leaves_so (how.Trapped t) e other =
      leaves_with (round.Ends (how.Trapped t)) (leaves_on (ended (how.Trapped t)) (by_how (how.Trapped t) e), tt)
  leaves_so (how.Refused why) e other =
      leaves_with (round.Ends (how.Refused why)) (leaves_on (ended (how.Refused why)) (by_how (how.Refused why) e), tt)
  leaves_so how.Stuck e other = leaves_with (round.Ends how.Stuck) (leaves_on (ended how.Stuck) (by_how how.Stuck e), tt)
  leaves_so how.TurnLimit e other = absurd (other refl)

-- ---- values that a body returned

returned_halts : (types : List ValType) (vals : List Val) (w : World) → halted (returned w types vals) ≡ Some w
returned_halts types vals w =
    either_halts w (list_all (owns_val w.machine) vals && all_fit w.machine vals types)
    (Values (state w [] (reverse (map raw_val vals)))) (Over (Refused refusal.HostResultType) w) refl refl

module _ {W : Type 0} (g : Setting HeldParts) (moves : W → Question → Answer → W → Type 0) (types : List ValType)
    (vals : List Val) (h : HeldParts) (o : W) (left : ℕ) (around : List Waiting) where
  abbrev values : Doing
  values w = returned w types vals

  abbrev returning : Doing
  returning = awaited around (bordered values)

  -- there was no memory for them, or there is no store where they end so; the store stays as it is
  pub return_lacks : (h' : HeldParts) → ((base : Machine) → g.is_base base → g.put base h' ≡ g.put base h) →
      Lacks g moves returning h o left 0 lack.Run h' o
  return_lacks h' stays = record {
    within = omega arith;
    heard = [];
    chain = refl;
    by =
        halts_bordered g around values h 0 [] h'
        (record {
          by = λ base is before rest.
              returned_halts types vals (at g base h 0 before rest)
              ∙ ap (λ (m : Machine). Some (world m 0 before rest)) (sym (stays base is))
              ∙ ap (λ q. Some (at g base h' 0 q rest)) (sym (append-nil before));
        });
  }

  module _ (how_is : How) (h' : HeldParts) (x : Returns g types vals h how_is h') where
    pub returns_rounds : (n : ℕ) (r : Round) (o' : W) →
        Rounds g moves (awaited around (bordered (ended how_is))) h' o left n r around h' o' →
        Rounds g moves returning h o left n r around h' o'
    returns_rounds n r o' y =
        rounds_then g moves returning (awaited around (bordered (ended how_is))) h h' o o left [] refl
        (leads_bordered g around values h 0 [] h' (ended how_is) x) n r around h' o' y

-- the same of the step that said so
module _ {W : Type 0} (g : Setting HeldParts) (moves : W → Question → Answer → W → Type 0) (a : Activation) (what : Say)
    (vals vals' : List Val) (says : what ≡ say.Return vals) (are : vals' ≡ vals) (h : HeldParts) (o : W) (left : ℕ)
    (around : List Waiting) (h' : HeldParts) (o' : W) (n : ℕ) where
  abbrev of_values : List Val → Doing
  of_values vs = awaited around (bordered (λ w. returned w a.results vs))

  abbrev of_step : Say → Doing
  of_step k = awaited around (bordered (said exec a k))

  pub said_rounds : (r : Round) → Rounds g moves (of_values vals') h o left n r around h' o' →
      Rounds g moves (of_step what) h o left n r around h' o'
  said_rounds r x =
      subst (λ (k : Say). Rounds g moves (of_step k) h o left n r around h' o') (sym says)
      (subst (λ (vs : List Val). Rounds g moves (of_values vs) h o left n r around h' o') are x)

  pub said_lacks : (r : Lack) → Lacks g moves (of_values vals') h o left n r h' o' →
      Lacks g moves (of_step what) h o left n r h' o'
  said_lacks r x =
      subst (λ (k : Say). Lacks g moves (of_step k) h o left n r h' o') (sym says)
      (subst (λ (vs : List Val). Lacks g moves (of_values vs) h o left n r h' o') are x)

-- ---- the reply to an operation

module _ {W : Type 0} (g : Setting HeldParts) (moves : W → Question → Answer → W → Type 0) (a : Activation)
    (answer : Reply) (h : HeldParts) (o : W) (left : ℕ) (around : List Waiting) where
  abbrev replying_to : Doing
  replying_to = awaited around (bordered (replying a answer))

  pub reply_rounds : (x : Rounded) → TakesReply a answer x →
      Rounds g moves replying_to h o left x.spent x.round around h o
  reply_rounds x (none, (b, is, same)) =
      let now : Doing = λ w. does (hosting.Body (replied a answer) Replied) w in
      let at_work : RoundBy g replying_to h left 0 [] around h (round.Goes (working.Body b Replied)) =
      subst (λ (k : Activation). Leads g replying_to h 0 [] (awaited around (does (hosting.Body k Replied))) h) (sym same)
      (leads_none g replying_to h) in
      record {
        within = rw none (omega arith);
        heard = [];
        chain = refl;
        by =
            subst (λ (n : ℕ). RoundBy g replying_to h left n [] around h x.round) (sym none)
            (subst (λ (r : Round). RoundBy g replying_to h left 0 [] around h r) (sym is) at_work);
      }

  pub reply_lacks : (x : Lacking) → LacksAtOnce x → Lacks g moves replying_to h o left x.spent x.lack h o
  reply_lacks x (is, none) =
      let stopped : Halts g replying_to h 0 [] h =
      halts_bordered g around (replying a answer) h 0 [] h
      (halts_now g (replying a answer) h (λ w at_end. ap halted (go_on_stops a answer w at_end))) in
      subst (λ (n : ℕ). Lacks g moves replying_to h o left n x.lack h o) (sym none)
      (subst (λ (r : Lack). Lacks g moves replying_to h o left 0 r h o) (sym is)
      (record { within = omega arith; heard = []; chain = refl; by = stopped }))

  pub reply_nearer : (x : Rounded) → TakesReply a answer x → (n before : ℕ) → 4 * n + length around < before →
      IsNearer x.round around (n - x.spent) before
  reply_nearer x (none, (b, is, same)) n before less =
      subst (λ (r : Round). IsNearer r around (n - x.spent) before) (sym is) (omega (arith, less))
