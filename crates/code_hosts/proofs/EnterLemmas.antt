-- A function of the host is entered.
use Rattle.std.proofs.Common.{◌≡◌, ℕ, ◌+◌, List, [], ◌∷◌, ◌++◌, refl, sym, ap, ◌∙◌, subst, arith, Bool, true, false}
use Rattle.std.specs.Prelude.{Option}
use Rattle.wasm_types.specs.FunctionParts.{params}
use Rattle.wasm_meter.specs.declared.call_hook.CallHook.TheVariants as event
use Rattle.wasm_values.specs.declared.refusals.Refusal.TheVariants as refusal
use Rattle.wasm_values.specs.declared.store_id.StoreId.{StoreId}
use Rattle.wasm_objects.specs.declared.raw.RawVal.{RawVal}
use Rattle.spec_machine.specs.Machine.{Machine, EngineParts}
use Rattle.spec_execution.specs.Activations.{Activation}
use Rattle.spec_execution.specs.Askings.{Having, Passing, Answer, Has, Asking, Chain}
use Rattle.spec_execution.specs.Bodies.{exec}
use Rattle.spec_execution.specs.Checks.{passed, pass, pass_behind}
use Rattle.spec_execution.specs.Entering.{activation, step_first, begin_host, where_has}
use Rattle.spec_execution.specs.Operands.{have_kinds}
use Rattle.spec_execution.specs.Hosts.{step_with}
use Rattle.spec_execution.specs.Outcomes.{World, state, Over, hear, ask}
use Rattle.spec_execution.specs.declared.answer.Event.TheVariants.{Start}
use Rattle.spec_execution.proofs.EquationLemmas.{step_is}
use Rattle.store_state.specs.Parts.{ProgramParts, HeldParts}
use Rattle.wasm_host.specs.Activations.{activation_of}
use Rattle.wasm_host.specs.declared.activation.Activation.{Activation as Entered_body}
use Rattle.code_leaps.specs.Leading.{Doing, Setting, at, halted, Leads, Stops}
use Rattle.code_stack.specs.Steps.{end_of}
use Rattle.code_stack.specs.declared.steps.Fault.{Fault}
use Rattle.code_stack.specs.declared.steps.Fault.TheVariants as fault
use Rattle.code_stack.specs.declared.steps.HostCall.{HostCall}
use Rattle.code_run.specs.Asking.{Moving}
use Rattle.code_run.proofs.NoTurnLemmas.{Halted, either_halts, turn_halts}
use Rattle.code_leaps.proofs.PartLemmas.{chain_on, leads_on, stops_on}
use Rattle.code_hosts.specs.declared.bounds.Bounds.{Bounds}
use Rattle.code_hosts.specs.Asked.{Moves}
use Rattle.code_hosts.specs.Entrances.{entering, EntersBy, Enters, Waits}
use Rattle.code_hosts.specs.Hosting.{Body, does, IsOpen, opened}
use Rattle.code_hosts.specs.Telling.{TellsBy, Tells}
use Rattle.code_hosts.specs.declared.body_entry.Entered.{Entered}
use Rattle.code_hosts.specs.declared.body_entry.Entrance.{Entrance}
use Rattle.code_hosts.specs.declared.body_entry.Entrance.TheVariants as entrance
use Rattle.code_hosts.specs.declared.borders.Word.{Word}
use Rattle.code_hosts.specs.declared.borders.Word.TheVariants as word
use Rattle.code_hosts.proofs.TellLemmas.{told_of}

abbrev pub entered_of : Entrance → ℕ → Entered
entered_of what spent = record { what = what; spent = spent }

module _ {W : Type 0} (bounds : Bounds) (asks : Moving W) (program : ProgramParts) (id : StoreId)
    (engine : EngineParts) (h : HeldParts) (call : HostCall) (depth : ℕ) (args : List RawVal) (caller : Option ℕ)
    (o : W) (left : ℕ) where
  abbrev stores : Setting HeldParts
  stores = opened program bounds id engine

  abbrev due : Doing
  due = entering call depth args caller

  abbrev moves : Moving W
  moves = Moves bounds asks

  -- the host has the body, or has it not
  abbrev IsAnswer : Bool → Type 0
  IsAnswer b = asks o (Having call.body) (Has b) o

  abbrev kinds_fit : Bool
  kinds_fit = have_kinds (params call.ty.now) args

  abbrev first : Machine → Activation
  first m = activation m depth call.ty.now call.body call.stored.now args caller

  abbrev asked_for : Bool → List Asking
  asked_for b = (Having call.body, Has b) ∷ []

  knows : (b : Bool) → IsAnswer b → Chain moves o (asked_for b) o
  knows b e = (o, (tt, tt, e), refl)

  -- what is done behind the answer
  abbrev begun : Bool → Doing
  begun b w = where_has (begin_host exec (first w.machine) kinds_fit) (Has b) w

  reaches : (b : Bool) (next : Doing) →
      ((base : Machine) → IsOpen bounds id engine base → (turns : ℕ) (before : List Asking) (answers : List Answer) →
      begun b (at stores base h turns before answers) ≡ next (at stores base h turns before answers)) →
      Leads stores due h 0 (asked_for b) next h
  reaches b next e = record {
    by = λ base x extra before rest.
        let z : 0 + extra ≡ extra = omega arith in
        ap (λ t. due (at stores base h t before (Has b ∷ rest))) z
        ∙ e base x extra (before ++ asked_for b) rest;
  }

  ends_at_once : (b : Bool) → IsAnswer b → (f : Fault) →
      ((base : Machine) → IsOpen bounds id engine base → (turns : ℕ) (before : List Asking) (answers : List Answer) →
      begun b (at stores base h turns before answers) ≡ Over (end_of f) (at stores base h turns before answers)) →
      Enters stores moves due h o left (entered_of (entrance.Fails f) 0) o
  ends_at_once b e f same = record {
    within = omega arith;
    heard = asked_for b;
    chain = knows b e;
    by = reaches b (λ w. Over (end_of f) w) same;
  }

  pub bodiless : IsAnswer false →
      Enters stores moves due h o left (entered_of (entrance.Fails (fault.Refused refusal.NoHostBody)) 0) o
  bodiless e =
      ends_at_once false e (fault.Refused refusal.NoHostBody) (λ base x turns before answers. refl)

  pub unfit : IsAnswer true → kinds_fit ≡ false →
      Enters stores moves due h o left (entered_of (entrance.Fails fault.Stuck) 0) o
  unfit e k =
      ends_at_once true e fault.Stuck (λ base x turns before answers.
      let w = at stores base h turns before answers in ap (λ b. begin_host exec (first w.machine) b w) k)

  module _ (e : IsAnswer true) (k : kinds_fit ≡ true) where
    -- with no turns left, nothing more is asked
    unstepped : (a : Activation) (w : World) → w.turns ≡ 0 → Halted w (does (Body a Start) w)
    unstepped a w none =
        ap (λ x. halted (pass_behind event.ReturningFromHost x)) (step_is a Start (state w [] [])
        ∙ ap (λ n. step_with exec a Start w n) none)

    quiet : (a : Activation) (w : World) → w.turns ≡ 0 → Halted w (step_first exec a w)
    quiet a w none =
        either_halts w w.machine.is_hooked (ask Over w (Passing event.CallingHost) (passed (does (Body a Start))))
        (does (Body a Start) w)
        (turn_halts w none (λ v. hear Over v (Passing event.CallingHost) (passed (does (Body a Start))) v.answers))
        (unstepped a w none)

    pub waits : Waits stores moves due h o o
    waits = record {
      heard = asked_for true;
      chain = knows true e;
      halts =
          record {
            by = λ base x before rest.
                let w = at stores base h 0 (before ++ asked_for true) rest in
                ap (λ b. halted (begin_host exec (first w.machine) b w)) k
                ∙ quiet (first w.machine) w refl;
          };
    }

    module _ (a : Entered_body)
        (is : (m : Machine) → m.id ≡ id → activation_of a ≡ first m) (spent : ℕ) (word_is : Word) (o' : W)
        (t : Tells stores moves event.CallingHost h o left (told_of word_is spent) o') where
      abbrev go : Doing
      go = does (Body (activation_of a) Start)

      begins : Leads stores due h 0 (asked_for true) (λ w. pass event.CallingHost w go) h
      begins =
          reaches true (λ w. pass event.CallingHost w go) (λ base x turns before answers.
          let w = at stores base h turns before answers in
          ap (λ b. begin_host exec (first w.machine) b w) k
          ∙ ap (λ (c : Activation). step_first exec c w) (sym (is w.machine x.id_is)))

      by_word : (y : Word) → word_is ≡ y → TellsBy stores event.CallingHost go h left spent t.heard y
      by_word y ey = subst (λ (y : Word). TellsBy stores event.CallingHost go h left spent t.heard y) ey (t.by go)

      spent_is : 0 + spent ≡ spent
      spent_is = omega arith

      ends_with : (x : Entrance) → EntersBy stores due h left spent (asked_for true ++ t.heard) x →
          Enters stores moves due h o left (entered_of x spent) o'
      ends_with x by = record {
        within = t.within;
        heard = asked_for true ++ t.heard;
        chain = chain_on moves o o o' (asked_for true) t.heard (knows true e) t.chain;
        by = by;
      }

      led : (next : Doing) → Leads stores (λ w. pass event.CallingHost w go) h spent t.heard next h →
          Leads stores due h spent (asked_for true ++ t.heard) next h
      led next l =
          subst (λ (n : ℕ). Leads stores due h n (asked_for true ++ t.heard) next h) spent_is
          (leads_on stores due (λ w. pass event.CallingHost w go) h h 0 (asked_for true) begins spent t.heard next h l)

      pub opens : word_is ≡ word.Passes → Enters stores moves due h o left (entered_of (entrance.Opens a) spent) o'
      opens ey = ends_with (entrance.Opens a) (led go (by_word word.Passes ey))

      pub refused : word_is ≡ word.Fails →
          Enters stores moves due h o left (entered_of (entrance.Fails (fault.Refused refusal.HookFault)) spent) o'
      refused ey =
          ends_with (entrance.Fails (fault.Refused refusal.HookFault))
          (led (λ w. Over (end_of (fault.Refused refusal.HookFault)) w) (by_word word.Fails ey))

      pub limited : word_is ≡ word.Limit → Enters stores moves due h o left (entered_of entrance.Limit spent) o'
      limited ey =
          let l = by_word word.Limit ey in
          ends_with entrance.Limit (
            subst (λ (n : ℕ). Stops stores due h n (asked_for true ++ t.heard) h) spent_is
                (stops_on stores due (λ w. pass event.CallingHost w go) h h 0 (asked_for true) begins spent t.heard h l.0),
            l.1,
          )
