-- A body of the host is stepped.
use Rattle.std.proofs.Common.{◌≡◌, ℕ, ◌<◌, [], refl, sym, ap, ◌∙◌, arith}
use Rattle.std.proofs.lemmas.List.{append-nil}
use Rattle.std.specs.Prelude.{List}
use Rattle.spec_execution.specs.Activations.{Activation}
use Rattle.spec_execution.specs.Askings.{Question, Answer}
use Rattle.spec_execution.specs.Bodies.{exec}
use Rattle.spec_execution.specs.Hosts.{said}
use Rattle.spec_execution.specs.Outcomes.{Over, Stopped}
use Rattle.spec_execution.specs.declared.answer.Answer.{Answer as Say}
use Rattle.spec_execution.specs.declared.answer.Event.{Event}
use Rattle.store_state.specs.Parts.{HeldParts}
use Rattle.code_leaps.specs.Leading.{Doing, Setting, at, Leads, Stops}
use Rattle.code_hosts.specs.Hosting.{Body, does, stepping}
use Rattle.code_hosts.specs.Parting.{awaited, bordered}
use Rattle.code_hosts.specs.Rounds.{Rounds, Lacks}
use Rattle.code_hosts.specs.States.{around_of}
use Rattle.code_hosts.specs.Stepping.{Says, Fails}
use Rattle.code_hosts.specs.declared.rounds.Lack.TheVariants as lack
use Rattle.code_hosts.specs.declared.rounds.Round.TheVariants as round
use Rattle.code_hosts.specs.declared.states.Waiting.{Waiting}
use Rattle.code_hosts.proofs.ContextLemmas.{outwards_exhausted, body_stops, does_halts, halts_now, exhausts_within, stops_outwards, halts_outwards}
use Rattle.code_hosts.proofs.LeaveLemmas.{past, leads_bordered}

module _ {W : Type 0} (g : Setting HeldParts) (moves : W → Question → Answer → W → Type 0) (a : Activation) (why : Event)
    (h : HeldParts) (o : W) (left : ℕ) (around : List Waiting) where
  abbrev due : Doing
  due = awaited around (does (Body a why))

  stops_now : Stops g (does (Body a why)) h 0 [] h
  stops_now = record {
    by = λ base is before rest.
        body_stops a why (at g base h 0 before rest) refl
        ∙ ap (λ q. Over Stopped (at g base h 0 q rest)) (sym (append-nil before));
  }

  -- no turn is left for it
  pub step_limit : left ≡ 0 → Rounds g moves due h o left 0 round.Limit around h o
  step_limit none = record {
    within = omega arith;
    heard = [];
    chain = refl;
    by = (stops_outwards g (around_of around) (does (Body a why)) h 0 [] h stops_now, sym none);
  }

  -- it is not stepped, for want of memory
  pub step_waits : Lacks g moves due h o left 0 lack.Run h o
  step_waits = record {
    within = omega arith;
    heard = [];
    chain = refl;
    by =
        halts_outwards g (around_of around) (does (Body a why)) h 0 [] h
        (halts_now g (does (Body a why)) h (does_halts (Body a why)));
  }

  module _ (o' : W) where
    -- the step had no memory
    pub step_fails : 0 < left → Fails g moves a why h o o' → Lacks g moves due h o left 0 lack.Step h o'
    step_fails some x = record {
      within = omega arith;
      heard = x.heard;
      chain = x.chain;
      by = (
        exhausts_within g (past g around (stepping a why) h 0 x.heard h) (stepping a why) h 0 x.heard h
            (outwards_exhausted (around_of around)) x.exhausts,
        some,
      );
    }

    pub step_says : (new : Activation) (what : Say) (x : Says g moves a why h o new what o') →
        Leads g due h 1 x.heard (awaited around (bordered (said exec new what))) h
    step_says new what x = leads_bordered g around (stepping a why) h 1 x.heard h (said exec new what) x.leads
