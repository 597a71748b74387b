-- An instruction and its turn.
use Rattle.std.proofs.Common.{◌≡◌, ℕ, zero, suc, ◌+◌, List, [], ◌∷◌, refl, sym, ap, ◌∙◌, one-add, arith, Bool, false}
use Rattle.std.proofs.lemmas.Int.{ints}
use Rattle.std.specs.Prelude.{cond, slice_get, option_map, take, ℤ, ◌-ℤ◌, pos, true}
use Rattle.std.proofs.lemmas.List.{append-nil}
use Rattle.wasm_syntax.specs.declared.instr.Instr.{Instr}
use Rattle.wasm_syntax.specs.declared.instr.Instr.TheVariants as i
use Rattle.spec_machine.specs.Changes.{charge}
use Rattle.spec_machine.specs.Machine.{Machine}
use Rattle.spec_execution.specs.Askings.{Answer, Asking}
use Rattle.spec_execution.specs.Bodies.{one, instruction, exec}
use Rattle.spec_execution.specs.Checks.{check}
use Rattle.spec_execution.specs.Entering.{Frame, Exec}
use Rattle.spec_execution.specs.Outcomes.{World, world, State, state, Outcome, Values, Over, Stopped, spend}
use Rattle.store_state.specs.Machine.{run_machine, instances_of}
use Rattle.store_state.specs.Parts.{Names, SegmentParts, ProgramParts, HeldParts}
use Rattle.code_leaps.specs.Calling.{names_of, IsOf}
use Rattle.code_stack.specs.Layers.{Configuration, frame_at, state_at, owing, means}
use Rattle.code_leaps.specs.Leading.{Doing, at, Leads, Stops}
use Rattle.code_leaps.specs.Running.{IsRuled, ruled, charged, executing, IsQuiet, Steps}
use Rattle.code_leaps.specs.Spending.{turn_of}
use Rattle.code_stack.specs.Steps.{end_of, hosted}
use Rattle.code_leaps.specs.Turns.{passing, TurnsBy}
use Rattle.code_stack.specs.declared.rules.Rules.{Rules}
use Rattle.code_stack.specs.declared.steps.Step.{Step}
use Rattle.code_stack.specs.declared.steps.Step.TheVariants.{Goes, Checks, Fails, Done, Calls}
use Rattle.code_stack.proofs.LayerLemmas.{owing_over}

-- such an instruction takes its turn first
quiet_is : (f : Exec) (fr : Frame) (j : Instr) (is : List Instr) (s : State) → IsQuiet j →
    instruction f fr j is s ≡ spend 1 s.world (λ w. one f fr j is (record s { world = w }))
quiet_is f fr (i.MemoryGrow k) is s q = absurd q
quiet_is f fr (i.TableGrow k) is s q = absurd q
quiet_is f fr (i.MemoryFill k) is s q = absurd q
quiet_is f fr (i.MemoryCopy dst src) is s q = absurd q
quiet_is f fr (i.MemoryInit memory segment) is s q = absurd q
quiet_is f fr (i.TableFill k) is s q = absurd q
quiet_is f fr (i.TableCopy dst src) is s q = absurd q
quiet_is f fr (i.TableInit table segment) is s q = absurd q
quiet_is f fr j is s q = refl

-- ---- fuel

-- so much more, and so much more
less_by : (z : ℤ) (a b : ℕ) → (z -ℤ pos a) -ℤ pos b ≡ z -ℤ pos (a + b)
less_by z a b = omega (arith, ints)

pub charged_on : (c : Bool) (h : HeldParts) (a b : ℕ) → charged c (charged c h a) b ≡ charged c h (a + b)
charged_on true h a b = ap (λ z. record h { fuel = z }) (less_by h.fuel a b)
charged_on false h a b = refl

pub charged_true : (c : Bool) (h : HeldParts) (n : ℕ) → c ≡ true → charged c h n ≡ record h { fuel = h.fuel -ℤ pos n }
charged_true c h n e = ap (λ c. charged c h n) e

pub charged_false : (c : Bool) (h : HeldParts) (n : ℕ) → c ≡ false → charged c h n ≡ h
charged_false c h n e = ap (λ c. charged c h n) e

less_none : (z : ℤ) → z -ℤ pos 0 ≡ z
less_none z = omega (arith, ints)

pub charged_none : (c : Bool) (h : HeldParts) → charged c h 0 ≡ h
charged_none true h = ap (λ z. record h { fuel = z }) (less_none h.fuel)
charged_none false h = refl

-- ---- the stores of a run

pub names_of-instances : (ns : List Names) (ss : List SegmentParts) (k : ℕ) →
    option_map names_of (slice_get (instances_of ns ss) k) ≡ slice_get ns k
names_of-instances [] ss k = refl
names_of-instances (n ∷ ns) [] zero = refl
names_of-instances (n ∷ ns) (s ∷ ss) zero = refl
names_of-instances (n ∷ ns) [] (suc k) = names_of-instances ns [] k
names_of-instances (n ∷ ns) (s ∷ ss) (suc k) = names_of-instances ns ss k

-- the fuel of a turn is taken
charge_by : (c : Bool) (base : Machine) (program : ProgramParts) (h : HeldParts) (amount : ℕ) →
    cond c (record (run_machine base program h) { fuel = h.fuel -ℤ pos amount }) (run_machine base program h)
    ≡ run_machine base program (charged c h amount)
charge_by true base program h amount = refl
charge_by false base program h amount = refl

module _ (program : ProgramParts) (rules : Rules) (base : Machine) (held : HeldParts) (b : IsRuled rules base) where
  pub is_of : IsOf program rules.frames (run_machine base program held)
  is_of = record {
    functions = refl;
    instances = names_of-instances program.instances held.segments;
    frames_are =
        b.frames_are;
  }

  pub charges : (amount : ℕ) →
      charge (run_machine base program held) amount ≡ run_machine base program (charged rules.consumes_fuel held amount)
  charges amount =
      ap (λ c. cond c (record (run_machine base program held) { fuel = held.fuel -ℤ pos amount })
      (run_machine base program held)) b.fuel_is
      ∙ charge_by rules.consumes_fuel base program held amount

  pub spends : (amount extra : ℕ) (before : List Asking) (answers : List Answer) (go : World → Outcome) →
      spend amount (world (run_machine base program held) (1 + extra) before answers) go
      ≡ go (world (run_machine base program (charged rules.consumes_fuel held amount)) extra before answers)
  spends amount extra before answers go =
      ap (λ t. spend amount (world (run_machine base program held) t before answers) go) (one-add extra)
      ∙ ap (λ m. go (world m extra before answers)) (charges amount)

-- ---- the turn of an instruction

-- in the stores of these rules, where so much is held, the turn of the instruction is next, and takes so much
abbrev pub Takes : ProgramParts → Rules → Configuration → Instr → HeldParts → ℕ → Type 0
Takes program rules mid j h amount =
    (base : Machine) → IsRuled rules base → (turns : ℕ) (before : List Asking) (answers : List Answer) →
    passing mid j (at (ruled program rules) base h turns before answers)
    ≡ owing mid (spend amount (at (ruled program rules) base h turns before answers)
    (λ v. one exec (frame_at mid) j mid.code
    (record (state_at mid (at (ruled program rules) base h turns before answers)) { world = v })))

pub quiet_takes : (program : ProgramParts) (rules : Rules) (mid : Configuration) (j : Instr) → IsQuiet j →
    (h : HeldParts) → Takes program rules mid j h 1
quiet_takes program rules mid j q h base b turns before answers =
    ap (λ o. owing mid o) (quiet_is exec (frame_at mid) j mid.code
    (state_at mid (at (ruled program rules) base h turns before answers)) q)

module _ (program : ProgramParts) (rules : Rules) (mid : Configuration) (j : Instr) (h : HeldParts) (amount : ℕ)
    (starts : Takes program rules mid j h amount) where
  -- what is held after the turn
  abbrev after : HeldParts
  after = charged rules.consumes_fuel h amount

  -- after the turn the instruction acts
  turned : (base : Machine) → IsRuled rules base → (extra : ℕ) (before : List Asking) (answers : List Answer) →
      passing mid j (at (ruled program rules) base h (1 + extra) before answers)
      ≡ executing mid j (at (ruled program rules) base after extra before answers)
  turned base b extra before answers =
      starts base b (1 + extra) before answers
      ∙ ap (λ o. owing mid o) (spends program rules base h b amount extra before answers
      (λ v. one exec (frame_at mid) j mid.code (record (state_at mid (at (ruled program rules) base h (1 + extra)
      before answers)) { world = v })))

  pub turn_stops : Stops (ruled program rules) (passing mid j) h 0 [] h
  turn_stops = record {
    by = λ base b before rest.
        starts base b 0 before rest
        ∙ owing_over mid (Over Stopped (at (ruled program rules) base h 0 before rest)) Stopped
        (at (ruled program rules) base h 0 before rest) refl
        ∙ ap (λ heard. Over Stopped (at (ruled program rules) base h 0 heard rest))
        (sym (append-nil before));
  }

  module _ (new : Configuration) (h' : HeldParts) where
    turn_leads : (next : Doing) → ((base : Machine) → IsRuled rules base → (turns : ℕ) (before : List Asking)
        (answers : List Answer) →
        executing mid j (at (ruled program rules) base after turns before answers)
        ≡ next (at (ruled program rules) base h' turns before answers)) →
        Leads (ruled program rules) (passing mid j) h 1 [] next h'
    turn_leads next x = record {
      by = λ base b extra before rest.
          turned base b extra before rest ∙ x base b extra before rest
          ∙ ap (λ heard. next (at (ruled program rules) base h' extra heard rest)) (sym (append-nil before));
    }

    pub turn_by : (left : ℕ) (step : Step) → Steps (ruled program rules) (executing mid j) after step new h' →
        TurnsBy (ruled program rules) (passing mid j) h left 1 [] new h' (turn_of step)
    turn_by left Goes x = (turn_leads (means new) x.by, omega arith)
    turn_by left Checks x = (turn_leads (λ w. check w (means new)) x.by, omega arith)
    turn_by left (Fails f) x = turn_leads (λ w. Over (end_of f) w) x.by
    turn_by left Done x =
        turn_leads (λ w. Values (state w [] (take new.activation.results new.values.operands))) x.by
    turn_by left (Calls call) x = turn_leads (hosted new call) x.by
