-- Turns that ask nothing, one after another.
use Rattle.std.proofs.Common.{◌≡◌, ℕ, ◌+◌, ◌-◌, ◌≤◌, ◌<◌, List, [], refl, sym, ap, ◌∙◌, subst, arith, Bool, true, false}
use Rattle.std.specs.Prelude.{take}
use Rattle.wasm_syntax.specs.declared.instr.Instr.{Instr}
use Rattle.spec_machine.specs.Machine.{Machine}
use Rattle.spec_execution.specs.Askings.{Answer, Asking}
use Rattle.spec_execution.specs.Costs.{is_bulk}
use Rattle.spec_execution.specs.Outcomes.{World, state, Values, Over}
use Rattle.store_state.specs.Parts.{ProgramParts, HeldParts}
use Rattle.code_stack.specs.Layers.{Configuration, means}
use Rattle.code_leaps.specs.Leading.{Doing, Setting, at, Leads}
use Rattle.code_leaps.specs.Rounds.{Passes}
use Rattle.code_leaps.specs.Running.{IsQuiet, Steps, executing, ruled, charged}
use Rattle.code_leaps.specs.Spending.{turn_of}
use Rattle.code_run.specs.Spinning.{growth_instr, Ahead, Grown, Metered, Stepped, ahead_of, beat_of, goes_on, SpinsBy, Spins, SpinsBehind, Moves}
use Rattle.code_stack.specs.Steps.{Comes, end_of, hosted}
use Rattle.code_run.specs.Steps.{IsOver, came, seen}
use Rattle.code_leaps.specs.Turns.{going, passing, EndsBy, TurnsBy}
use Rattle.code_stack.specs.declared.rules.Rules.{Rules}
use Rattle.code_run.specs.declared.spins.Beat.{Beat}
use Rattle.code_run.specs.declared.spins.Beat.TheVariants as beat
use Rattle.code_run.specs.declared.spins.Growing.{Growing}
use Rattle.code_run.specs.declared.steps.Signal.{Signal}
use Rattle.code_run.specs.declared.steps.Signal.TheVariants as signal
use Rattle.code_stack.specs.declared.steps.Step.{Step}
use Rattle.code_stack.specs.declared.steps.Step.TheVariants as step
use Rattle.code_run.specs.declared.thread.Thread.{Thread}
use Rattle.code_stack.specs.declared.turns.Ending.{Ending}
use Rattle.code_stack.specs.declared.turns.Ending.TheVariants as ending
use Rattle.code_stack.specs.declared.turns.Turn.{Turn}
use Rattle.code_stack.specs.declared.turns.Turn.TheVariants as turn
use Rattle.code_leaps.proofs.LoopLemmas.{check_passes}
use Rattle.code_leaps.proofs.PartLemmas.{leads_none, leads_into, leads_from, stops_from, halts_from, leads_on, stops_on, halts_on}
use Rattle.code_leaps.proofs.TurnLemmas.{spends_limit, spends_exhausted, spends_owing}

module _ {H : Type 0} (g : Setting H) where
  -- so many turns, and then those of what is next
  module _ (due next : Doing) (h h1 : H) (made : ℕ) (l : Leads g due h made [] next h1) (left : ℕ) (le : made ≤ left)
      (spent : ℕ) (new : Configuration) (h2 : H) where
    ends_on : (x : Ending) → EndsBy g next h1 (left - made) spent [] new h2 x →
        EndsBy g due h left (made + spent) [] new h2 x
    ends_on (ending.Fails f) k = leads_on g due next h h1 made [] l spent [] (λ w. Over (end_of f) w) h2 k
    ends_on ending.Done k =
        leads_on g due next h h1 made [] l spent []
        (λ w. Values (state w [] (take new.activation.results new.values.operands))) h2 k
    ends_on (ending.Calls call) k = leads_on g due next h h1 made [] l spent [] (hosted new call) h2 k
    ends_on ending.Limit k = (stops_on g due next h h1 made [] l spent [] h2 k.0, omega (arith, le, k.1))
    ends_on ending.Exhausted k = halts_on g due next h h1 made [] l spent [] h2 k

    turns_on : (x : Turn) → TurnsBy g next h1 (left - made) spent [] new h2 x →
        TurnsBy g due h left (made + spent) [] new h2 x
    turns_on turn.Goes k =
        (leads_on g due next h h1 made [] l spent [] (going false new) h2 k.0, omega (arith, k.1))
    turns_on turn.Checks k =
        (leads_on g due next h h1 made [] l spent [] (going true new) h2 k.0, omega (arith, k.1))
    turns_on (turn.Ends x) k = ends_on x k

    spins_by : (x : Ahead) → SpinsBy g next h1 (left - made) spent new h2 x →
        SpinsBy g due h left (made + spent) new h2 x
    spins_by (Grown x) k = leads_on g due next h h1 made [] l spent [] (passing new (growth_instr x)) h2 k
    spins_by (Metered j) k = (leads_on g due next h h1 made [] l spent [] (passing new j) h2 k.0, k.1)
    spins_by (Stepped x) k = turns_on x k

    pub spins_on : (x : Ahead) → Spins g next h1 (left - made) x spent new h2 →
        Spins g due h left x (made + spent) new h2
    spins_on x k = record { within = omega (arith, le, k.within); spins = spins_by x k.spins }

  -- what means the same, in each world of this store
  module _ (due due' : Doing) (h : H) (e : (base : Machine) → g.is_base base → (turns : ℕ) (before : List Asking)
      (answers : List Answer) → due (at g base h turns before answers) ≡ due' (at g base h turns before answers))
      (left spent : ℕ) (new : Configuration) (h' : H) where
    ends_from : (x : Ending) → EndsBy g due' h left spent [] new h' x → EndsBy g due h left spent [] new h' x
    ends_from (ending.Fails f) l = leads_from g due due' h e spent [] (λ w. Over (end_of f) w) h' l
    ends_from ending.Done l =
        leads_from g due due' h e spent [] (λ w. Values (state w [] (take new.activation.results new.values.operands)))
        h' l
    ends_from (ending.Calls call) l = leads_from g due due' h e spent [] (hosted new call) h' l
    ends_from ending.Limit l = (stops_from g due due' h e spent [] h' l.0, l.1)
    ends_from ending.Exhausted l = halts_from g due due' h e spent [] h' l

    turns_from : (x : Turn) → TurnsBy g due' h left spent [] new h' x → TurnsBy g due h left spent [] new h' x
    turns_from turn.Goes l = (leads_from g due due' h e spent [] (going false new) h' l.0, l.1)
    turns_from turn.Checks l = (leads_from g due due' h e spent [] (going true new) h' l.0, l.1)
    turns_from (turn.Ends x) l = ends_from x l

    spins_by_from : (x : Ahead) → SpinsBy g due' h left spent new h' x → SpinsBy g due h left spent new h' x
    spins_by_from (Grown x) l = leads_from g due due' h e spent [] (passing new (growth_instr x)) h' l
    spins_by_from (Metered j) l = (leads_from g due due' h e spent [] (passing new j) h' l.0, l.1)
    spins_by_from (Stepped x) l = turns_from x l

    pub spins_from : (x : Ahead) → Spins g due' h left x spent new h' → Spins g due h left x spent new h'
    spins_from x k = record { within = k.within; spins = spins_by_from x k.spins }

-- what came to no end and no question, where a check passes
module _ (program : ProgramParts) (rules : Rules) (passes : Bool) where
  pub goes_next : (due : Doing) (h : HeldParts) (left spent : ℕ) (b : Beat) (new : Thread) (held : HeldParts) (owed : ℕ) →
      (passes ≡ true → Passes rules held.fuel owed) →
      Spins (ruled program rules) due h left (ahead_of b new) spent (seen new) (charged rules.consumes_fuel held owed) →
      goes_on b passes ≡ true →
      Leads (ruled program rules) due h spent [] (means (seen new)) (charged rules.consumes_fuel held owed) × (0 < spent)
  goes_next due h left spent beat.Goes new held owed free k e = (k.spins.0, k.spins.1)
  goes_next due h left spent beat.Checks new held owed free k e = (
    leads_into (ruled program rules) due h spent [] (going true (seen new)) (means (seen new))
        (charged rules.consumes_fuel held owed) k.spins.0
        (check_passes program rules held owed (free e) (means (seen new))),
    k.spins.1,
  )
  goes_next due h left spent beat.Ends new held owed free k e = absurd (cc e)
  goes_next due h left spent beat.Limit new held owed free k e = absurd (cc e)
  goes_next due h left spent beat.Exhausted new held owed free k e = absurd (cc e)
  goes_next due h left spent beat.Meters new held owed free k e = absurd (cc e)
  goes_next due h left spent (beat.Grows y) new held owed free k e = absurd (cc e)

-- a run that goes on took a turn
pub moved : (b : Beat) (spent : ℕ) (passes : Bool) → Moves b spent → goes_on b passes ≡ true → 0 < spent
moved beat.Goes spent passes m e = m
moved beat.Checks spent passes m e = m
moved beat.Ends spent passes m e = absurd (cc e)
moved beat.Limit spent passes m e = absurd (cc e)
moved beat.Exhausted spent passes m e = absurd (cc e)
moved beat.Meters spent passes m e = absurd (cc e)
moved (beat.Grows y) spent passes m e = absurd (cc e)

-- what comes behind a step
pub beat_is : (s : Signal) (t : Thread) → Stepped (turn_of (came s t)) ≡ ahead_of (beat_of s) t
beat_is signal.Goes t = refl
beat_is signal.Checks t = refl
beat_is signal.Ends t = refl

-- ---- where fuel is owed

module _ (program : ProgramParts) (rules : Rules) where
  -- a growth is next
  pub grows_now : (c : Configuration) (j : Instr) (x : Growing) → j ≡ growth_instr x → (held : HeldParts)
      (owed left : ℕ) →
      Spins (ruled program rules) (passing c j) (charged rules.consumes_fuel held owed) left (Grown x) 0 c
      (charged rules.consumes_fuel held (owed + 0))
  grows_now c j x e held owed left =
      let start = charged rules.consumes_fuel held owed in
      let same : owed ≡ owed + 0 = omega arith in
      record {
        within = omega arith;
        spins =
            subst (λ k. Leads (ruled program rules) (passing c j) start 0 [] (passing c (growth_instr x))
            (charged rules.consumes_fuel held k)) same
            (subst (λ i. Leads (ruled program rules) (passing c j) start 0 [] (passing c i) start) e
            (leads_none (ruled program rules) (passing c j) start));
      }

  -- a bulk form is next
  pub metered_now : (c : Configuration) (j : Instr) → is_bulk j ≡ true → (held : HeldParts) (owed left : ℕ) →
      Spins (ruled program rules) (passing c j) (charged rules.consumes_fuel held owed) left (Metered j) 0 c
      (charged rules.consumes_fuel held (owed + 0))
  metered_now c j bulk held owed left =
      let start = charged rules.consumes_fuel held owed in
      let same : owed ≡ owed + 0 = omega arith in
      record {
        within = omega arith;
        spins = (
          subst (λ k. Leads (ruled program rules) (passing c j) start 0 [] (passing c j)
              (charged rules.consumes_fuel held k)) same
              (leads_none (ruled program rules) (passing c j) start),
          bulk,
        );
      }

  -- so many turns, and then those of what is next, which owe more
  pub spins_owing : (due : Doing) (held : HeldParts) (owed left made : ℕ) → made ≤ left → (next : Doing)
      (mid : HeldParts) →
      Leads (ruled program rules) due (charged rules.consumes_fuel held owed) made [] next
      (charged rules.consumes_fuel mid (owed + made)) →
      (x : Ahead) (spent : ℕ) (new : Configuration) (held' : HeldParts) (rest : ℕ) → rest ≡ left - made →
      Spins (ruled program rules) next (charged rules.consumes_fuel mid (owed + made)) rest x spent new
      (charged rules.consumes_fuel held' (owed + made + spent)) →
      Spins (ruled program rules) due (charged rules.consumes_fuel held owed) left x (made + spent) new
      (charged rules.consumes_fuel held' (owed + (made + spent)))
  spins_owing due held owed left made le next mid l x spent new held' rest e k =
      let same : owed + made + spent ≡ owed + (made + spent) = omega arith in
      subst (λ n. Spins (ruled program rules) due (charged rules.consumes_fuel held owed) left x (made + spent) new
      (charged rules.consumes_fuel held' n)) same
      (spins_on (ruled program rules) due next (charged rules.consumes_fuel held owed)
      (charged rules.consumes_fuel mid (owed + made)) made l left le spent new
      (charged rules.consumes_fuel held' (owed + made + spent)) x
      (subst (λ n. Spins (ruled program rules) next (charged rules.consumes_fuel mid (owed + made)) n x spent new
      (charged rules.consumes_fuel held' (owed + made + spent))) e k))

  charged_same : (held : HeldParts) (owed : ℕ) →
      charged rules.consumes_fuel held owed ≡ charged rules.consumes_fuel held (owed + 0)
  charged_same held owed =
      let same : owed ≡ owed + 0 = omega arith in
      ap (charged rules.consumes_fuel held) same

  -- the end, without a turn
  module _ (due : Doing) (held : HeldParts) (owed left : ℕ) (new : Configuration) where
    abbrev start : HeldParts
    start = charged rules.consumes_fuel held owed

    now_to : (next : Doing) → ((w : World) → due w ≡ next w) →
        Leads (ruled program rules) due start 0 [] next (charged rules.consumes_fuel held (owed + 0))
    now_to next e =
        subst (λ h. Leads (ruled program rules) due start 0 [] next h) (charged_same held owed)
        (leads_from (ruled program rules) due next start
        (λ base b turns before answers. e (at (ruled program rules) base start turns before answers)) 0 [] next start
        (leads_none (ruled program rules) next start))

    over_by : (s : Step) → IsOver s → ((w : World) → Comes (due w) s new w) →
        TurnsBy (ruled program rules) due start left 0 [] new (charged rules.consumes_fuel held (owed + 0)) (turn_of s)
    over_by step.Goes h e = absurd h
    over_by step.Checks h e = absurd h
    over_by (step.Calls call) h e = absurd h
    over_by (step.Fails f) h e = now_to (λ w. Over (end_of f) w) e
    over_by step.Done h e = now_to (λ w. Values (state w [] (take new.activation.results new.values.operands))) e

    pub over_now : (s : Step) → IsOver s → ((w : World) → Comes (due w) s new w) →
        Spins (ruled program rules) due start left (Stepped (turn_of s)) 0 new
        (charged rules.consumes_fuel held (owed + 0))
    over_now s h e = record { within = omega arith; spins = over_by s h e }

  -- the turn of an instruction
  module _ (mid : Configuration) (j : Instr) (q : IsQuiet j) (held held' : HeldParts) (owed left : ℕ) where
    pub spin_limit : (new : Configuration) → left ≡ 0 →
        Spins (ruled program rules) (passing mid j) (charged rules.consumes_fuel held owed) left
        (Stepped (turn.Ends ending.Limit)) 0 new (charged rules.consumes_fuel held (owed + 0))
    spin_limit new e =
        let k = spends_limit program rules mid j q (charged rules.consumes_fuel held owed) left new
        (charged rules.consumes_fuel held (owed + 0)) e (sym (charged_same held owed)) in
        record { within = k.within; spins = k.turns }

    pub spin_exhausted : (new : Configuration) → held' ≡ held →
        Spins (ruled program rules) (passing mid j) (charged rules.consumes_fuel held owed) left
        (Stepped (turn.Ends ending.Exhausted)) 0 new (charged rules.consumes_fuel held' (owed + 0))
    spin_exhausted new e =
        let k = spends_exhausted program rules mid j q (charged rules.consumes_fuel held owed) left new
        (charged rules.consumes_fuel held' (owed + 0))
        (ap (λ h. charged rules.consumes_fuel h (owed + 0)) e ∙ sym (charged_same held owed)) in
        record { within = k.within; spins = k.turns }

    pub spin_step : (left ≡ 0 → ⊥) → (s : Signal) (new : Thread) →
        Steps (ruled program rules) (executing mid j) (charged rules.consumes_fuel held (owed + 1)) (came s new)
        (seen new) (charged rules.consumes_fuel held' (owed + 1)) → (b : Beat) → b ≡ beat_of s →
        Spins (ruled program rules) (passing mid j) (charged rules.consumes_fuel held owed) left (ahead_of b new) 1
        (seen new) (charged rules.consumes_fuel held' (owed + 1))
    spin_step some s new x b e =
        let k = spends_owing program rules mid j q held owed left (seen new) held' some (came s new) x in
        subst (λ a. Spins (ruled program rules) (passing mid j) (charged rules.consumes_fuel held owed) left a 1
        (seen new) (charged rules.consumes_fuel held' (owed + 1)))
        (beat_is s new ∙ ap (λ b. ahead_of b new) (sym e)) (record { within = k.within; spins = k.turns })

  -- behind so many turns: an instruction that was passed
  module _ (spent left : ℕ) (old : Thread) (held : HeldParts) where
    pub passed_behind : (j : Instr) (mid : Configuration) → ((w : World) → means (seen old) w ≡ passing mid j w) →
        (more : ℕ) (x : Ahead) (new : Configuration) (held' : HeldParts) →
        ((owed : ℕ) → Spins (ruled program rules) (passing mid j) (charged rules.consumes_fuel held owed) left x more
        new (charged rules.consumes_fuel held' (owed + more))) →
        SpinsBehind (ruled program rules) rules.consumes_fuel spent left old held x (spent + more) new held'
    passed_behind j mid same more x new held' k due first owed l =
        spins_owing due first owed (spent + left) spent (omega arith) (means (seen old)) held l x more new held' left
        (omega arith)
        (spins_from (ruled program rules) (means (seen old)) (passing mid j)
        (charged rules.consumes_fuel held (owed + spent))
        (λ base b turns before answers. same
        (at (ruled program rules) base (charged rules.consumes_fuel held (owed + spent)) turns before answers))
        left more new (charged rules.consumes_fuel held' (owed + spent + more)) x (k (owed + spent)))

    -- or none is left
    pub goes_behind : 0 < spent → (new : Thread) → new ≡ old →
        SpinsBehind (ruled program rules) rules.consumes_fuel spent left old held (Stepped turn.Goes) spent (seen new)
        held
    goes_behind some new same due first owed l = record {
      within = omega arith;
      spins = (
        subst (λ t. Leads (ruled program rules) due (charged rules.consumes_fuel first owed) spent [] (means (seen t))
            (charged rules.consumes_fuel held (owed + spent))) (sym same) l,
        some,
      );
    }
