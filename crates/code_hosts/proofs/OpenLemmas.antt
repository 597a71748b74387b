-- A function of either kind is entered, and what it comes to stands alone.
use Rattle.std.proofs.Common.{◌≡◌, ℕ, List, [], Option, Some, refl, sym, ap, ◌∙◌, subst, arith}
use Rattle.std.proofs.lemmas.List.{append-nil}
use Rattle.std.specs.Global.{Global as GlobalSpec}
use Rattle.std.specs.Prelude.{Result, Ok, Err, OnErr, Box}
use Rattle.wasm_objects.specs.declared.raw.RawVal.{RawVal}
use Rattle.wasm_values.specs.declared.store_id.StoreId.{StoreId}
use Rattle.spec_machine.specs.Machine.{Machine, EngineParts}
use Rattle.spec_execution.specs.Askings.{Question, Answer, Asking}
use Rattle.spec_execution.specs.Bodies.{exec}
use Rattle.spec_execution.specs.Entering.{enter}
use Rattle.spec_execution.specs.Outcomes.{Over}
use Rattle.spec_execution.specs.declared.answer.Event.TheVariants.{Start}
use Rattle.store_state.specs.Machine.{run_machine}
use Rattle.store_state.specs.Parts.{ProgramParts, HeldParts}
use Rattle.wasm_host.specs.declared.activation.Activation.{Activation}
use Rattle.code_leaps.specs.Calling.{IsOf}
use Rattle.code_leaps.specs.Leading.{Doing, Setting, at, halted, Leads}
use Rattle.code_run.specs.Starting as starting
use Rattle.code_run.specs.Starting.{Starts}
use Rattle.code_stack.specs.Steps.{end_of}
use Rattle.code_run.specs.declared.starts.Started.{Started}
use Rattle.code_run.specs.declared.starts.Started.TheVariants as started
use Rattle.code_stack.specs.declared.steps.Fault.{Fault}
use Rattle.code_stack.specs.declared.steps.HostCall.{HostCall}
use Rattle.code_run.specs.declared.thread.Thread.{Thread}
use Rattle.code_leaps.proofs.InstructionTurnLemmas.{names_of-instances}
use Rattle.code_leaps.proofs.PartLemmas.{leads_none, leads_from, stops_from, halts_from}
use Rattle.code_hosts.specs.declared.bounds.Bounds.{Bounds}
use Rattle.code_hosts.specs.declared.replies.How.{How}
use Rattle.code_hosts.specs.Behind.{ended}
use Rattle.code_hosts.specs.Entrances.{entering, EntersBy, Enters, Waits}
use Rattle.code_hosts.specs.Hosting as hosting
use Rattle.code_hosts.specs.Hosting.{IsOpen, opened}
use Rattle.code_hosts.specs.Parting.{RunsCode}
use Rattle.code_hosts.specs.Rounds.{IsEnd, RoundBy, Rounds}
use Rattle.code_hosts.specs.States.{due_of}
use Rattle.code_hosts.specs.declared.body_entry.Entered.{Entered}
use Rattle.code_hosts.specs.declared.body_entry.Entrance.{Entrance}
use Rattle.code_hosts.specs.declared.body_entry.Entrance.TheVariants as entrance
use Rattle.code_hosts.specs.declared.rounds.Round.{Round}
use Rattle.code_hosts.specs.declared.rounds.Round.TheVariants as round
use Rattle.code_hosts.specs.declared.rounds.Rounded.{Rounded}
use Rattle.code_hosts.specs.declared.states.Open.TheVariants as working
use Rattle.code_hosts.proofs.ContextLemmas.{does_halts}

-- what holds of an error, whatever comes
pub on_err : {A E P : Type 0} (r : Result A E) → P → OnErr r P
on_err (Ok x) p = tt
on_err (Err e) p = p

module _ {W : Type 0} (bounds : Bounds) (moves : W → Question → Answer → W → Type 0) (program : ProgramParts)
    (id : StoreId) (engine : EngineParts) (h : HeldParts) (depth n : ℕ) (args : List RawVal) (caller : Option ℕ) (o : W)
    (left : ℕ) where
  abbrev stores : Setting HeldParts
  stores = opened program bounds id engine

  abbrev due : Doing
  due w = enter exec depth n args caller w

  abbrev Starts_as : Started → Type 0
  Starts_as s = Starts program bounds.rules.frames depth n args s

  of_program : (base : Machine) → IsOpen bounds id engine base →
      IsOf program bounds.rules.frames (run_machine base program h)
  of_program base x = record {
    functions = refl;
    instances = names_of-instances program.instances h.segments;
    frames_are = x.bounded.ruled.frames_are;
  }

  -- it comes to the same
  abbrev Alike : Doing → Type 0
  Alike next =
      (base : Machine) → IsOpen bounds id engine base → (turns : ℕ) (before : List Asking) (answers : List Answer) →
      due (at stores base h turns before answers) ≡ next (at stores base h turns before answers)

  at_once : (next : Doing) → Alike next → Leads stores due h 0 [] next h
  at_once next e = leads_from stores due next h e 0 [] next h (leads_none stores next h)

  rounds_now : (x : Round) → RoundBy stores due h left 0 [] [] h x → Rounds stores moves due h o left 0 x [] h o
  rounds_now x by = record { within = omega arith; heard = []; chain = refl; by = by }

  runs_in : (b : Box Thread GlobalSpec) → Starts_as (started.Runs b.value) →
      Rounds stores moves due h o left 0 (round.Goes (working.Code b)) [] h o
  runs_in b s =
      rounds_now (round.Goes (working.Code b))
      (at_once (due_of (working.Code b) [])
      (λ base x turns before answers. s caller (at stores base h turns before answers) (of_program base x)))

  pub runs : (t : Thread) → Starts_as (started.Runs t) → (x : Rounded) → RunsCode t x →
      Rounds stores moves due h o left x.spent x.round [] h o
  runs t s x r =
      subst (λ (k : ℕ). Rounds stores moves due h o left k x.round [] h o) (sym r.0)
      (subst (λ (y : Round). Rounds stores moves due h o left 0 y [] h o) (sym r.1.1)
      (runs_in r.1.0 (subst (λ (u : Thread). Starts_as (started.Runs u)) (sym r.1.2) s)))

  -- there was no memory for it
  pub runs_none : (t : Thread) → Starts_as (started.Runs t) → Waits stores moves due h o o
  runs_none t s = record {
    heard = [];
    chain = refl;
    halts =
        record {
          by = λ base x before rest.
              ap halted (s caller (at stores base h 0 before rest) (of_program base x))
              ∙ does_halts (hosting.Code t) (at stores base h 0 before rest) refl
              ∙ ap (λ q. Some (at stores base h 0 q rest)) (sym (append-nil before));
        };
  }

  pub faults : (f : Fault) (y : How) → Starts_as (started.Fails f) → ended y ≡ Over (end_of f) → IsEnd y →
      Rounds stores moves due h o left 0 (round.Ends y) [] h o
  faults f y s e end =
      rounds_now (round.Ends y) (
        at_once (ended y) (λ base x turns before answers.
            s caller (at stores base h turns before answers) (of_program base x)
            ∙ ap (λ (k : Doing). k (at stores base h turns before answers)) (sym e)),
        end,
      )

  -- there was no memory for the code of an instance
  pub starts_none : starting.Waits program bounds.rules.frames depth n args → Waits stores moves due h o o
  starts_none s = record {
    heard = [];
    chain = refl;
    halts =
        record {
          by = λ base x before rest.
              s caller (at stores base h 0 before rest) (of_program base x) refl
              ∙ ap (λ q. Some (at stores base h 0 q rest)) (sym (append-nil before));
        };
  }

  module _ (call : HostCall) (s : Starts_as (started.Calls call)) (o' : W) where
    abbrev hosted : Doing
    hosted = entering call depth args caller

    same : Alike hosted
    same base x turns before answers = s caller (at stores base h turns before answers) (of_program base x)

    pub enters_none : Waits stores moves hosted h o o' → Waits stores moves due h o o'
    enters_none x = record {
      heard = x.heard;
      chain = x.chain;
      halts = halts_from stores due hosted h same 0 x.heard h x.halts;
    }

    module _ (y : Entered) (x : Enters stores moves hosted h o left y o') where
      by_what : (k : Entrance) → y.what ≡ k → EntersBy stores hosted h left y.spent x.heard k
      by_what k e = subst (λ (k : Entrance). EntersBy stores hosted h left y.spent x.heard k) e x.by

      rounds_so : (r : Round) → RoundBy stores due h left y.spent x.heard [] h r →
          Rounds stores moves due h o left y.spent r [] h o'
      rounds_so r by = record { within = x.within; heard = x.heard; chain = x.chain; by = by }

      led : (next : Doing) → Leads stores hosted h y.spent x.heard next h →
          Leads stores due h y.spent x.heard next h
      led next l = leads_from stores due hosted h same y.spent x.heard next h l

      pub opens_so : (a : Activation) → y.what ≡ entrance.Opens a →
          Rounds stores moves due h o left y.spent (round.Goes (working.Body a Start)) [] h o'
      opens_so a e =
          rounds_so (round.Goes (working.Body a Start))
          (led (due_of (working.Body a Start) []) (by_what (entrance.Opens a) e))

      pub fails_so : (f : Fault) (k : How) → y.what ≡ entrance.Fails f → ended k ≡ Over (end_of f) → IsEnd k →
          Rounds stores moves due h o left y.spent (round.Ends k) [] h o'
      fails_so f k e ek end =
          rounds_so (round.Ends k) (
            led (ended k) (subst (λ (k : Doing). Leads stores hosted h y.spent x.heard k h) (sym ek)
                (by_what (entrance.Fails f) e)),
            end,
          )

      pub limits_so : y.what ≡ entrance.Limit → Rounds stores moves due h o left y.spent round.Limit [] h o'
      limits_so e =
          let l = by_what entrance.Limit e in
          rounds_so round.Limit (stops_from stores due hosted h same y.spent x.heard h l.0, l.1)
