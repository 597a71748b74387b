-- Instructions of growth, with their turns.
use Rattle.std.proofs.Common.{◌≡◌, ℕ, ◌+◌, ◌<◌, List, [], ◌∷◌, ◌++◌, refl, sym, ap, ◌∙◌, subst, arith, add-zero, add_assoc, Bool}
use Rattle.std.specs.Prelude.{◌-◌, ◌^◌}
use Rattle.wasm_syntax.specs.declared.instr.Instr.{Instr}
use Rattle.wasm_values.specs.declared.refusals.Refusal.TheVariants as refusal
use Rattle.wasm_objects.specs.declared.raw.RawVal.{RawVal}
use Rattle.spec_machine.specs.Changes.{charge}
use Rattle.spec_machine.specs.Growth as growth
use Rattle.spec_machine.specs.Growth.{Plan, plan_rule}
use Rattle.spec_machine.specs.Machine.{Machine}
use Rattle.spec_execution.specs.Askings.{Question, Answer, Asking, answers_in}
use Rattle.spec_execution.specs.Bodies.{grown, grow, exec}
use Rattle.spec_execution.specs.Checks.{decide}
use Rattle.spec_execution.specs.Entering.{Run}
use Rattle.spec_execution.specs.Operands as on
use Rattle.spec_execution.specs.Outcomes.{World, world, state, Outcome, Over, Refused, Stopped, Stuck}
use Rattle.store_state.specs.Machine.{run_machine}
use Rattle.store_state.specs.Parts.{ProgramParts, HeldParts}
use Rattle.code_stack.specs.Values.{Below, ValuesParts}
use Rattle.store_state.specs.Growing.{says}
use Rattle.store_state.specs.declared.growth.GrowthRule.{GrowthRule}
use Rattle.code_run.specs.Deciding.{DecidesAs, IsFull, Decides}
use Rattle.code_stack.specs.Layers.{Configuration, frame_at, outwards, owing, means}
use Rattle.code_leaps.specs.Leading.{at, Doing, Setting, Stops, Halts}
use Rattle.code_leaps.specs.Running.{IsRuled, ruled, charged}
use Rattle.code_stack.specs.declared.rules.Rules.{Rules}
use Rattle.code_leaps.specs.Turns.{passing, EndsBy, Turns}
use Rattle.code_run.specs.declared.decisions.Choice.{Choice}
use Rattle.code_run.specs.declared.decisions.Choice.TheVariants as choice
use Rattle.code_run.specs.declared.decisions.Decided.{Decided}
use Rattle.code_stack.specs.declared.steps.Fault.TheVariants as fault
use Rattle.code_stack.specs.declared.turns.Ending.{Ending}
use Rattle.code_stack.specs.declared.turns.Ending.TheVariants as ending
use Rattle.code_stack.specs.declared.turns.Turn.{Turn}
use Rattle.code_stack.specs.declared.turns.Turn.TheVariants as turn
use Rattle.code_leaps.proofs.PartLemmas.{leads_none, leads_from, stops_halts}
use Rattle.code_stack.proofs.LayerLemmas.{owing_over}
use Rattle.code_leaps.proofs.InstructionTurnLemmas.{charged_none, charges, spends}

-- where no fuel is owed
pub nothing_owed : {W : Type 0} {g : Setting HeldParts} {moves : W → Question → Answer → W → Type 0} {due : Doing}
    {h : HeldParts} {t : W} {left : ℕ} {what : Turn} {spent : ℕ} {new : Configuration} {t' : W} (c : Bool)
    (h' : HeldParts) → Turns g moves due h t left what spent new h' t' →
    Turns g moves due h t left what spent new (charged c h' 0) t'
nothing_owed {W} {g} {moves} {due} {h} {t} {left} {what} {spent} {new} {t'} c h' x =
    subst (λ (k : HeldParts). Turns g moves due h t left what spent new k t') (sym (charged_none c h')) x

-- an instruction whose operands do not fit
module _ {W : Type 0} (program : ProgramParts) (rules : Rules) (c : Configuration) (j : Instr) (h : HeldParts)
    (moves : W → Question → Answer → W → Type 0) (u : W) (left : ℕ) (new : Configuration) where
  pub fits_none : ((base : Machine) → IsRuled rules base → (w : World) → w.machine ≡ run_machine base program h
      → passing c j w ≡ Over Stuck w) →
      Turns (ruled program rules) moves (passing c j) h u left
      (turn.Ends (ending.Fails fault.Stuck)) 0 new h u
  fits_none e =
      let g = ruled program rules in
      let stuck : Doing = λ w. Over Stuck w in
      record {
        within = omega arith;
        heard = [];
        chain = refl;
        turns =
            leads_from g (passing c j) stuck h
            (λ base b turns before answers. e base b (at g base h turns before answers) refl) 0 [] stuck h
            (leads_none g stuck h);
      }

-- a growth that is due, by its plan in each store
pub record IsDue (program : ProgramParts) (rules : Rules) (c : Configuration) (j : Instr) (h : HeldParts)
    (operands : List RawVal) (plan_in : Machine → Plan ℕ) (rule : GrowthRule) : Type 0 where
  pub due : (base : Machine) → IsRuled rules base → (w : World) → w.machine ≡ run_machine base program h →
      passing c j w ≡ owing c (grow exec (Run (frame_at c) c.code) (state w c.values.locals operands)
      (plan_in w.machine))
  pub ruled : (base : Machine) → IsRuled rules base →
      says (plan_rule (run_machine base program h) (plan_in (run_machine base program h)))
      (plan_in (run_machine base program h)).growth ≡ rule

module _ {W : Type 0} (program : ProgramParts) (rules : Rules) (c : Configuration) (j : Instr)
    (h : HeldParts) (v : ValuesParts) (plan_in : Machine → Plan ℕ) (rule : GrowthRule)
    (i : IsDue program rules c j h v.operands plan_in rule) (moves : W → Question → Answer → W → Type 0) (u : W) (left : ℕ)
    (d : Decided) (u' : W) (x : Decides moves rule u left d u') where
  -- the world in which it is decided, and what is then done
  abbrev first : Machine → ℕ → List Asking → List Answer → World
  first base extra before rest =
      world (run_machine base program h) (d.spent + extra) before (answers_in x.heard ++ rest)

  abbrev doing : World → Plan ℕ → growth.Decision → World → Outcome
  doing w p = grown exec (Run (frame_at c) c.code) (state w c.values.locals v.operands) p

  abbrev planned : Machine → Plan ℕ
  planned base = plan_in (run_machine base program h)

  decides : (base : Machine) → IsRuled rules base → (extra : ℕ) (before : List Asking) (rest : List Answer) →
      DecidesAs d.choice
      (decide Over (first base extra before rest) (planned base) (doing (first base extra before rest) (planned base)))
      (doing (first base extra before rest) (planned base))
      (world (run_machine base program h) extra (before ++ x.heard) rest)
  decides base b extra before rest =
      x.by (run_machine base program h) (planned base) (i.ruled base b)
      (doing (first base extra before rest) (planned base)) extra before rest

  goes_by : (e : growth.Decision) (base : Machine) → IsRuled rules base → (extra : ℕ) (before : List Asking)
      (rest : List Answer) →
      decide Over (first base extra before rest) (planned base) (doing (first base extra before rest) (planned base))
      ≡ doing (first base extra before rest) (planned base) e
      (world (run_machine base program h) extra (before ++ x.heard) rest) →
      passing c j (first base extra before rest) ≡ owing c (doing (first base extra before rest) (planned base) e
      (world (run_machine base program h) extra (before ++ x.heard) rest))
  goes_by e base b extra before rest is =
      i.due base b (first base extra before rest) refl ∙ ap (λ o. owing c o) is

  -- no turn is left, for the question or for the instruction
  stops_by : ((base : Machine) → IsRuled rules base → (before : List Asking) (rest : List Answer) →
      decide Over (first base 0 before rest) (planned base) (doing (first base 0 before rest) (planned base))
      ≡ Over Stopped (world (run_machine base program h) 0 (before ++ x.heard) rest)) →
      Stops (ruled program rules) (passing c j) h d.spent x.heard h
  stops_by e = record {
    by = λ base b before rest.
        ap (λ k. passing c j (world (run_machine base program h) k before (answers_in x.heard ++ rest)))
        (sym (add-zero d.spent))
        ∙ i.due base b (first base 0 before rest) refl
        ∙ owing_over c _ Stopped (world (run_machine base program h) 0 (before ++ x.heard) rest)
        (e base b before rest);
  }

  ends : (e : Ending) (new : Configuration) (h' : HeldParts) →
      EndsBy (ruled program rules) (passing c j) h left d.spent x.heard new h' e →
      Turns (ruled program rules) moves (passing c j) h u left (turn.Ends e) d.spent new h' u'
  ends e new h' y = record {
    within = x.within;
    heard = x.heard;
    chain = x.chain;
    turns = y;
  }

  pub limit_unasked : (new : Configuration) → d.choice ≡ choice.Limit →
      Turns (ruled program rules) moves (passing c j) h u left (turn.Ends ending.Limit) d.spent
      new h u'
  limit_unasked new e =
      ends ending.Limit new h (
        stops_by (λ base b before rest. subst (λ (k : Choice). DecidesAs k
            (decide Over (first base 0 before rest) (planned base) (doing (first base 0 before rest) (planned base)))
            (doing (first base 0 before rest) (planned base))
            (world (run_machine base program h) 0 (before ++ x.heard) rest)) e (decides base b 0 before rest) refl),
        subst (λ (k : Choice). IsFull k d.spent left) e x.full,
      )

  pub limiter_faults : (new : Configuration) → d.choice ≡ choice.Faulted →
      Turns (ruled program rules) moves (passing c j) h u left
      (turn.Ends (ending.Fails (fault.Refused refusal.LimiterFault))) d.spent new h u'
  limiter_faults new e =
      ends (ending.Fails (fault.Refused refusal.LimiterFault)) new h
      (record {
        by = λ base b extra before rest.
            goes_by growth.Faulted base b extra before rest (subst (λ (k : Choice). DecidesAs k
            (decide Over (first base extra before rest) (planned base)
            (doing (first base extra before rest) (planned base)))
            (doing (first base extra before rest) (planned base))
            (world (run_machine base program h) extra (before ++ x.heard) rest)) e (decides base b extra before rest))
            ∙ owing_over c _ (Refused refusal.LimiterFault)
            (world (run_machine base program h) extra (before ++ x.heard) rest) refl;
      })

  -- a growth that fails
  module _ (e : d.choice ≡ choice.Failed) where
    fails_by : (base : Machine) → IsRuled rules base → (extra : ℕ) (before : List Asking) (rest : List Answer)
        → decide Over (first base extra before rest) (planned base)
        (doing (first base extra before rest) (planned base))
        ≡ doing (first base extra before rest) (planned base) growth.Failed
        (world (run_machine base program h) extra (before ++ x.heard) rest)
    fails_by base b extra before rest = subst (λ (k : Choice). DecidesAs k
        (decide Over (first base extra before rest) (planned base)
        (doing (first base extra before rest) (planned base)))
        (doing (first base extra before rest) (planned base))
        (world (run_machine base program h) extra (before ++ x.heard) rest)) e (decides base b extra before rest)

    pub limit_failed : (new : Configuration) → d.spent ≡ left →
        Turns (ruled program rules) moves (passing c j) h u left (turn.Ends ending.Limit) d.spent
        new h u'
    limit_failed new full =
        ends ending.Limit new h (stops_by (λ base b before rest. fails_by base b 0 before rest), full)

  -- a growth that is granted
  module _ (e : d.choice ≡ choice.Granted) where
    granted_by : (base : Machine) → IsRuled rules base → (extra : ℕ) (before : List Asking)
        (rest : List Answer) →
        decide Over (first base extra before rest) (planned base) (doing (first base extra before rest) (planned base))
        ≡ doing (first base extra before rest) (planned base) growth.Granted
        (world (run_machine base program h) extra (before ++ x.heard) rest)
    granted_by base b extra before rest = subst (λ (k : Choice). DecidesAs k
        (decide Over (first base extra before rest) (planned base)
        (doing (first base extra before rest) (planned base)))
        (doing (first base extra before rest) (planned base))
        (world (run_machine base program h) extra (before ++ x.heard) rest)) e (decides base b extra before rest)

    granted_stops : Stops (ruled program rules) (passing c j) h d.spent x.heard h
    granted_stops = stops_by (λ base b before rest. granted_by base b 0 before rest)

    pub limit_granted : (new : Configuration) → d.spent ≡ left →
        Turns (ruled program rules) moves (passing c j) h u left (turn.Ends ending.Limit) d.spent
        new h u'
    limit_granted new full = ends ending.Limit new h (granted_stops, full)

    pub granted_exhausted : (new : Configuration) (h' : HeldParts) → h' ≡ h →
        Turns (ruled program rules) moves (passing c j) h u left
        (turn.Ends ending.Exhausted) d.spent new h' u'
    granted_exhausted new h' eh =
        ends ending.Exhausted new h'
        (subst (λ (k : HeldParts). Halts (ruled program rules) (passing c j) h d.spent x.heard k)
        (sym eh)
        (stops_halts (ruled program rules) (passing c j) h d.spent x.heard h granted_stops))

  -- the instruction gives an operand
  module _ (v2 : ValuesParts) (value : RawVal) (eo : v2.operands ≡ value ∷ v.operands)
      (el : v2.locals ≡ c.values.locals) (eb : v2.below ≡ c.values.below) (some : d.spent < left) where
    given : (w : World) →
        owing c (exec (Run (frame_at c) c.code) (state w c.values.locals (value ∷ v.operands))) ≡ means
        (record c { values = v2 }) w
    given w =
        let run : List (List RawVal) → List (List RawVal) → List RawVal → List RawVal → Outcome =
        λ below own locals ops.
        outwards c.activation c.layers below own (exec (Run (frame_at c) c.code) (state w locals ops)) in
        ap (λ ops. run c.values.below.operands c.values.below.locals c.values.locals ops) (sym eo)
        ∙ ap (λ locals. run c.values.below.operands c.values.below.locals locals v2.operands) (sym el)
        ∙ ap (λ (b : Below). run b.operands b.locals v2.locals v2.operands) (sym eb)

    goes_on : (h' : HeldParts) →
        ((base : Machine) → IsRuled rules base → (extra : ℕ) (before : List Asking) (rest : List Answer) →
        passing c j (first base (1 + extra) before rest) ≡ means (record c { values = v2 })
        (world (run_machine base program h') extra (before ++ x.heard) rest)) →
        Turns (ruled program rules) moves (passing c j) h u left turn.Goes (d.spent + 1)
        (record c { values = v2 }) h' u'
    goes_on h' y = record {
      within = omega (arith, some);
      heard = x.heard;
      chain = x.chain;
      turns = (
        record {
          by = λ base b extra before rest.
              ap (λ k. passing c j (world (run_machine base program h) k before (answers_in x.heard ++ rest)))
              (add_assoc d.spent 1 extra)
              ∙ y base b extra before rest;
        },
        omega arith,
      );
    }

    pub fails_on : d.choice ≡ choice.Failed → value ≡ on.integer 32 (2 ^ 32 - 1) →
        Turns (ruled program rules) moves (passing c j) h u left turn.Goes (d.spent + 1)
        (record c { values = v2 }) (charged rules.consumes_fuel h 1) u'
    fails_on e ev =
        goes_on (charged rules.consumes_fuel h 1) (λ base b extra before rest.
        let w = world (run_machine base program (charged rules.consumes_fuel h 1)) extra (before ++ x.heard) rest in
        goes_by growth.Failed base b (1 + extra) before rest (fails_by e base b (1 + extra) before rest)
        ∙ ap (λ o. owing c o) (spends program rules base h b 1 extra (before ++ x.heard) rest
        (λ u. exec (Run (frame_at c) c.code) (state u c.values.locals (on.integer 32 (2 ^ 32 - 1) ∷ v.operands))))
        ∙ ap (λ y. owing c (exec (Run (frame_at c) c.code) (state w c.values.locals (y ∷ v.operands)))) (sym ev)
        ∙ given w)

    pub grows_on : d.choice ≡ choice.Granted → (h' : HeldParts) →
        ((base : Machine) → (plan_in (run_machine base program h)).after ≡ run_machine base program h') →
        ((base : Machine) → value ≡ on.integer 32 (plan_in (run_machine base program h)).gives) →
        Turns (ruled program rules) moves (passing c j) h u left turn.Goes (d.spent + 1)
        (record c { values = v2 }) (charged rules.consumes_fuel h' 1) u'
    grows_on e h' after ev =
        goes_on (charged rules.consumes_fuel h' 1) (λ base b extra before rest.
        let p = planned base in
        let before' = before ++ x.heard in
        let w : Machine → World = λ m. world m extra before' rest in
        let charged' = run_machine base program (charged rules.consumes_fuel h' 1) in
        goes_by growth.Granted base b (1 + extra) before rest (granted_by e base b (1 + extra) before rest)
        ∙ ap (λ o. owing c o) (spends program rules base h b 1 extra before' rest
        (λ u. exec (Run (frame_at c) c.code)
        (state (record u { machine = charge p.after 1 }) c.values.locals (on.integer 32 p.gives ∷ v.operands))))
        ∙ ap (λ m. owing c (exec (Run (frame_at c) c.code)
        (state (w m) c.values.locals (on.integer 32 p.gives ∷ v.operands))))
        (ap (λ m. charge m 1) (after base) ∙ charges program rules base h' b 1)
        ∙ ap (λ y. owing c (exec (Run (frame_at c) c.code)
        (state (w charged') c.values.locals (y ∷ v.operands)))) (sym (ev base))
        ∙ given (w charged'))
