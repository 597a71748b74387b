-- A step of a body of the host is answered from outside.
use Rattle.std.proofs.Common.{◌≡◌, ℕ, ◌+◌, ◌-◌, ◌<◌, List, [], ◌∷◌, sym, subst, arith}
use Rattle.std.specs.Global.{Global}
use Rattle.std.specs.Prelude.{Vec, Ok}
use Rattle.spec_machine.specs.Machine.{Machine}
use Rattle.spec_execution.specs.Activations.{Activation, view}
use Rattle.spec_execution.specs.Askings.{Asking, Stepped}
use Rattle.spec_execution.specs.Bodies.{exec}
use Rattle.spec_execution.specs.Hosts.{said}
use Rattle.spec_execution.specs.declared.answer.Answer.{Answer as Say}
use Rattle.spec_execution.specs.declared.answer.Event.{Event}
use Rattle.store_state.specs.Machine.{run_machine}
use Rattle.store_state.specs.Parts.{HeldParts}
use Rattle.wasm_host.proofs.ViewLemmas.{view_alike}
use Rattle.wasm_host.specs.Activations.{activation_of}
use Rattle.wasm_host.specs.declared.activation.Activation.{Activation as Entered}
use Rattle.code_leaps.specs.Leading.{Doing, Leads}
use Rattle.code_run.specs.Asking.{Moving}
use Rattle.code_hosts.specs.Contexts.{IsSeenIn, moves_in, opened_in, stepping_in}
use Rattle.code_hosts.specs.Courses.{due_in, stage_of, Goes, GoesBehind, LacksBehind, WithStep}
use Rattle.code_hosts.specs.Hosting.{Body, does, stepping}
use Rattle.code_hosts.specs.Parting.{awaited, bordered}
use Rattle.code_hosts.specs.Rounds.{IsLast, Rounds, Lacks}
use Rattle.code_hosts.specs.States.{due_of}
use Rattle.code_hosts.specs.declared.context.RunContext.{RunContext}
use Rattle.code_hosts.specs.declared.courses.Stage.{Stage}
use Rattle.code_hosts.specs.declared.courses.Stage.TheVariants as stage
use Rattle.code_hosts.specs.declared.replies.How.TheVariants as how
use Rattle.code_hosts.specs.declared.rounds.Lack.{Lack}
use Rattle.code_hosts.specs.declared.rounds.Lack.TheVariants as lack
use Rattle.code_hosts.specs.declared.rounds.Round.{Round}
use Rattle.code_hosts.specs.declared.states.Open.{Open}
use Rattle.code_hosts.specs.declared.states.Open.TheVariants as working
use Rattle.code_hosts.specs.declared.states.Waiting.{Waiting}
use Rattle.code_hosts.proofs.BodyLemmas.{step_limit, step_waits}
use Rattle.code_hosts.proofs.CourseLemmas.{staged, stages_by}
use Rattle.code_hosts.proofs.LeaveLemmas.{leads_bordered}
use Rattle.code_hosts.proofs.RoundLemmas.{round_on, lack_on}
use Rattle.code_hosts.proofs.StepLemmas.{least, says_leads}

module _ {W : Type 0} (c : RunContext) (asks : Moving W) (h : HeldParts) (o : W) (a : Activation) (why : Event)
    (after : ℕ) (what : Say) (around : List Waiting) (b : Activation) (eb : b ≡ record a { state = after })
    (base : Machine) (is : IsSeenIn c base) where
  abbrev first : Asking
  first = (stepping_in c base h a why, Stepped after (Ok what))

  abbrev due : Doing
  due = awaited around (does (Body a why))

  abbrev then : Doing
  then = awaited around (bordered (λ w. said exec b what w))

  leads_said : Leads (opened_in c) due h 1 (first ∷ []) then h
  leads_said =
      leads_bordered (opened_in c) around (stepping a why) h 1 (first ∷ []) h (λ w. said exec b what w)
      (says_leads c asks h a why o o after what b eb (view (run_machine base c.program.now h) a)
      (view_alike (least c asks h a why o o after) base c.program.now h (sym is.id_is) (sym is.engine_is) a))

  module _ (left : ℕ) (some : 0 < left) (n : ℕ) (h2 : HeldParts) (o2 : W) where
    pub goes_said : (r : Round) (around2 : Vec Waiting Global) → IsLast r around2.items →
        Rounds (opened_in c) (moves_in c asks) then h o (left - 1) n r around2.items h2 o2 →
        GoesBehind (opened_in c) (moves_in c asks) due first due_in h o left (staged (stage_of r around2) (1 + n)) h2 o2
    goes_said r around2 last x = record {
      within = omega (arith, some, x.within);
      more = x.heard;
      chain = x.chain;
      by =
          stages_by (opened_in c) due h left (1 + n) (first ∷ x.heard) h2 around2 r last
          (round_on (opened_in c) due then h h left 1 (first ∷ []) (omega (arith, some)) leads_said n x.heard h2
          around2.items r x.by);
    }

    pub lacks_said : (k : Lack) → Lacks (opened_in c) (moves_in c asks) then h o (left - 1) n k h2 o2 →
        LacksBehind (opened_in c) (moves_in c asks) due first h o left (1 + n) k h2 o2
    lacks_said k x = record {
      within = omega (arith, some, x.within);
      more = x.heard;
      chain = x.chain;
      by =
          lack_on (opened_in c) due then h h left 1 (first ∷ []) (omega (arith, some)) leads_said n x.heard h2 k x.by;
    }

-- ---- of a course, whose body is at work

module _ {W : Type 0} (c : RunContext) (asks : Moving W) (h : HeldParts) (o : W) (left : ℕ) (now : Open)
    (a : Entered) (why : Event) (e : now ≡ working.Body a why) (around : List Waiting) where
  abbrev here : Doing
  here = due_of now around

  -- no turn is left for it
  pub says_late : left ≡ 0 →
      Goes (opened_in c) (moves_in c asks) here due_in h o left (staged (stage.Ends how.TurnLimit) 0) h o
  says_late none =
      let x = step_limit (opened_in c) (moves_in c asks) (activation_of a) why h o left around none in
      subst (λ (k : Open). Goes (opened_in c) (moves_in c asks) (due_of k around) due_in h o left
      (staged (stage.Ends how.TurnLimit) 0) h o) (sym e)
      (record { within = x.within; heard = x.heard; chain = x.chain; by = x.by })

  -- too many functions are open around it
  pub says_deep : Lacks (opened_in c) (moves_in c asks) here h o left 0 lack.Run h o
  says_deep =
      subst (λ (k : Open). Lacks (opened_in c) (moves_in c asks) (due_of k around) h o left 0 lack.Run h o) (sym e)
      (step_waits (opened_in c) (moves_in c asks) (activation_of a) why h o left around)

  module _ (some : 0 < left) (after : ℕ) (what : Say) (b : Activation)
      (eb : b ≡ record (activation_of a) { state = after }) (n : ℕ) (h2 : HeldParts) (o2 : W) where
    pub says_step : (r : Round) (around2 : Vec Waiting Global) (s : Stage) → s ≡ stage_of r around2 →
        IsLast r around2.items →
        Rounds (opened_in c) (moves_in c asks) (awaited around (bordered (λ w. said exec b what w))) h o (left - 1) n r
        around2.items h2 o2 →
        WithStep c h after what now (λ first.
        GoesBehind (opened_in c) (moves_in c asks) here first due_in h o left (staged s (1 + n)) h2 o2)
    says_step r around2 s es last x =
        subst (λ (k : Open). WithStep c h after what k (λ first.
        GoesBehind (opened_in c) (moves_in c asks) (due_of k around) first due_in h o left (staged s (1 + n)) h2 o2))
        (sym e) (λ base is.
        subst (λ (k : Stage). GoesBehind (opened_in c) (moves_in c asks) (due_of (working.Body a why) around)
        (stepping_in c base h (activation_of a) why, Stepped after (Ok what)) due_in h o left (staged k (1 + n)) h2 o2)
        (sym es)
        (goes_said c asks h o (activation_of a) why after what around b eb base is left some n h2 o2 r around2 last x))

    pub says_short : (k : Lack) →
        Lacks (opened_in c) (moves_in c asks) (awaited around (bordered (λ w. said exec b what w))) h o (left - 1) n k h2
        o2 → WithStep c h after what now (λ first.
        LacksBehind (opened_in c) (moves_in c asks) here first h o left (1 + n) k h2 o2)
    says_short k x =
        subst (λ (y : Open). WithStep c h after what y (λ first.
        LacksBehind (opened_in c) (moves_in c asks) (due_of y around) first h o left (1 + n) k h2 o2))
        (sym e) (λ base is.
        lacks_said c asks h o (activation_of a) why after what around b eb base is left some n h2 o2 k x)
