-- A step of a body of the host.
use Rattle.std.proofs.Common.{◌≡◌, ℕ, suc, ◌+◌, [], ◌∷◌, ◌++◌, refl, sym, ap, ◌∙◌, arith, one-add}
use Rattle.std.specs.Prelude.{Result, Ok, Err}
use Rattle.wasm_types.specs.declared.faults.OutOfMemory.{OutOfMemory}
use Rattle.spec_machine.specs.Machine.{Machine, new_machine}
use Rattle.law_code.specs.Answers.{IsTypedSaying, IsTypedAnswer}
use Rattle.spec_execution.specs.Activations.{Activation, view}
use Rattle.spec_execution.specs.Askings.{View, Stepping, Answer, Stepped, Asking, Chain}
use Rattle.spec_execution.specs.Bodies.{exec}
use Rattle.spec_execution.specs.Hosts.{said}
use Rattle.spec_execution.specs.Outcomes.{World, world, state, Over, Exhausted}
use Rattle.spec_execution.specs.declared.answer.Answer.{Answer as Say}
use Rattle.spec_execution.specs.declared.answer.Event.{Event}
use Rattle.spec_execution.proofs.EquationLemmas.{step_is}
use Rattle.store_state.specs.Engines.{engine_parts}
use Rattle.store_state.specs.Machine.{run_machine}
use Rattle.store_state.specs.Parts.{HeldParts}
use Rattle.wasm_host.proofs.ViewLemmas.{view_alike}
use Rattle.code_leaps.specs.Leading.{Setting, at, Leads}
use Rattle.code_run.specs.Asking.{Moving}
use Rattle.code_hosts.specs.Contexts.{moves_in, opened_in}
use Rattle.code_hosts.specs.Hosting.{IsOpen, stepping}
use Rattle.code_hosts.specs.Stepping.{Says, Fails}
use Rattle.code_hosts.specs.declared.context.RunContext.{RunContext}

module _ {W : Type 0} (c : RunContext) (asks : Moving W) (h : HeldParts) (a : Activation) (why : Event) (old new : W)
    (after : ℕ) where
  abbrev stores : Setting HeldParts
  stores = opened_in c

  abbrev answer : Result Say OutOfMemory → Answer
  answer what = Stepped after what

  abbrev asking : View → Result Say OutOfMemory → Asking
  asking sight what = (Stepping a.body a.state why sight, answer what)

  -- a store that has the id and the engine
  abbrev pub least : Machine
  least = new_machine c.id (engine_parts c.engine.now)

  abbrev sight : View
  sight = view (run_machine least c.program.now h) a

  -- what is seen, in each store of the call
  same_sight : (base : Machine) → IsOpen c.bounds c.id (engine_parts c.engine.now) base →
      sight ≡ view (run_machine base c.program.now h) a
  same_sight base x = view_alike least base c.program.now h (sym x.id_is) (sym x.engine_is) a

  abbrev Goes : Result Say OutOfMemory → Type 0
  Goes what = asks old (Stepping a.body a.state why sight) (answer what) new

  chain_of : (what : Result Say OutOfMemory) → IsTypedAnswer (answer what) → Goes what →
      Chain (moves_in c asks) old (asking sight what ∷ []) new
  chain_of what typed m = (new, (tt, typed, m), refl)

  -- one turn leads to what is said, in a store that has the id and the engine as this one
  pub says_leads : (what : Say) (b : Activation) → b ≡ record a { state = after } → (seen : View) → sight ≡ seen →
      Leads stores (stepping a why) h 1 (asking seen (Ok what) ∷ []) (λ w. said exec b what w) h
  says_leads what b eb seen es = record {
    by = λ base x extra before rest.
        let before_it : ℕ → World = λ t. at stores base h t before (answer (Ok what) ∷ rest) in
        let behind : View → World = λ v.
        world (run_machine base c.program.now h) extra (before ++ asking v (Ok what) ∷ []) rest in
        ap (λ t. stepping a why (before_it t)) (one-add extra)
        ∙ step_is a why (state (before_it (suc extra)) [] [])
        ∙ ap (λ v. said exec (record a { state = after }) what (behind v)) (sym (same_sight base x) ∙ es)
        ∙ ap (λ (k : Activation). said exec k what (behind seen)) (sym eb);
  }

  pub says : (what : Say) → IsTypedSaying what → Goes (Ok what) → (b : Activation) → b ≡ record a { state = after } →
      Says stores (moves_in c asks) a why h old b what new
  says what typed m b eb = record {
    heard = asking sight (Ok what) ∷ [];
    chain = chain_of (Ok what) typed m;
    leads = says_leads what b eb sight refl;
  }

  pub fails : (short : OutOfMemory) → Goes (Err short) → Fails stores (moves_in c asks) a why h old new
  fails short m = record {
    heard = asking sight (Err short) ∷ [];
    chain = chain_of (Err short) tt m;
    exhausts =
        record {
          by = λ base x extra before rest.
              let before_it : ℕ → World = λ t. at stores base h t before (answer (Err short) ∷ rest) in
              let z : 0 + suc extra ≡ suc extra = omega arith in
              ap (λ t. stepping a why (before_it t)) z
              ∙ step_is a why (state (before_it (suc extra)) [] [])
              ∙ ap (λ v. Over Exhausted (world (run_machine base c.program.now h) (suc extra)
              (before ++ asking v (Err short) ∷ []) rest)) (sym (same_sight base x));
        };
  }
