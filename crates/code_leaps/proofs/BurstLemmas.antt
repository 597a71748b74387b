-- Instructions that lead to no other code, one after another, over operands and locals.
use Rattle.std.proofs.Common.{◌≡◌, ℕ, ◌+◌, ◌-◌, ◌≤◌, List, [], ◌∷◌, refl, sym, ap, ◌∙◌, subst, arith, true}
use Rattle.wasm_syntax.specs.declared.instr.Instr.{Instr}
use Rattle.wasm_syntax.specs.declared.instr.Instr.TheVariants as i
use Rattle.wasm_objects.specs.declared.raw.RawVal.{RawVal}
use Rattle.spec_machine.specs.Machine.{Machine}
use Rattle.spec_execution.specs.Outcomes.{World, Over, Trapped, Stuck}
use Rattle.spec_execution.specs.Straight.{act}
use Rattle.spec_execution.proofs.EquationLemmas.{run_cons}
use Rattle.store_state.specs.Machine.{run_machine}
use Rattle.store_state.specs.Parts.{ProgramParts, HeldParts}
use Rattle.code_stack.specs.Values.{values_parts}
use Rattle.code_straight.specs.Acting.{effect_of, Keeps}
use Rattle.code_straight.specs.Frames.{topmost, effect_in, ActsIn, ActsInAny, KeepsIn}
use Rattle.code_straight.specs.declared.acted.Acted.{Acted}
use Rattle.code_straight.specs.declared.acted.Acted.TheVariants as acted
use Rattle.code_straight.specs.declared.frames.Framed.{Framed}
use Rattle.code_straight.specs.declared.frames.Framed.TheVariants as framed
use Rattle.code_leaps.specs.Bursts.{is_frequent, Surrounding, standing, behind}
use Rattle.code_stack.specs.Layers.{Configuration, frame_at, state_at, owing, means}
use Rattle.code_leaps.specs.Leading.{Doing, at, Leads}
use Rattle.code_leaps.specs.Running.{ruled, charged, executing, IsQuiet, IsStraight, Steps}
use Rattle.code_leaps.specs.Turns.{passing, TurnsBy}
use Rattle.code_stack.specs.declared.rules.Rules.{Rules}
use Rattle.code_stack.specs.declared.steps.Fault.TheVariants as fault
use Rattle.code_stack.specs.declared.steps.Step.{Step}
use Rattle.code_stack.specs.declared.steps.Step.TheVariants as step
use Rattle.code_leaps.specs.Spending.{turn_of}
use Rattle.code_leaps.proofs.Acts.{act_goes, act_traps, act_sticks}
use Rattle.code_leaps.proofs.FuelLemmas.{acts_fuel, acts_charged, keeps_charged}
use Rattle.code_leaps.proofs.PartLemmas.{leads_from, leads_none, leads_on}
use Rattle.code_leaps.proofs.TurnLemmas.{spends_owing}

-- a frequent instruction asks nothing, is no bulk form, and leads to no other code
quiet : (j : Instr) → is_frequent j ≡ true → IsQuiet j
quiet (i.MemoryGrow k) e = absurd (cc e)
quiet (i.TableGrow k) e = absurd (cc e)
quiet (i.MemoryFill k) e = absurd (cc e)
quiet (i.MemoryCopy dst src) e = absurd (cc e)
quiet (i.MemoryInit memory segment) e = absurd (cc e)
quiet (i.TableFill k) e = absurd (cc e)
quiet (i.TableCopy dst src) e = absurd (cc e)
quiet (i.TableInit table segment) e = absurd (cc e)
quiet j e = tt

straight : (j : Instr) → is_frequent j ≡ true → IsStraight j
straight i.Unreachable e = absurd (cc e)
straight (i.Block b) e = absurd (cc e)
straight (i.Loop b) e = absurd (cc e)
straight (i.If a b) e = absurd (cc e)
straight (i.Br l) e = absurd (cc e)
straight (i.BrIf l) e = absurd (cc e)
straight (i.BrTable k) e = absurd (cc e)
straight i.Return e = absurd (cc e)
straight (i.Call k) e = absurd (cc e)
straight (i.CallIndirect ty k) e = absurd (cc e)
straight (i.MemoryGrow k) e = absurd (cc e)
straight (i.TableGrow k) e = absurd (cc e)
straight j e = tt

-- as what an instruction comes to without slices
abbrev acted_of : Framed → Acted
acted_of (framed.Goes height) = acted.Goes
acted_of (framed.Traps t) = acted.Traps t
acted_of framed.Sticks = acted.Sticks

abbrev height_of : Framed → ℕ
height_of (framed.Goes height) = height
height_of _ = 0

effect_as : (f : Framed) (m : Machine) (locals operands : List RawVal) →
    effect_in f m locals operands ≡ effect_of (acted_of f) m locals (topmost (height_of f) operands)
effect_as (framed.Goes height) m locals operands = refl
effect_as (framed.Traps t) m locals operands = refl
effect_as framed.Sticks m locals operands = refl

keeps_as : (f : Framed) (old new : HeldParts) → KeepsIn f old new → Keeps (acted_of f) old new
keeps_as (framed.Goes height) old new k = tt
keeps_as (framed.Traps t) old new k = k
keeps_as framed.Sticks old new k = k

module _ (program : ProgramParts) (j : Instr) (frequent : is_frequent j ≡ true) (held held' : HeldParts) (height : ℕ)
    (operands locals operands' locals' : List RawVal) where
  -- it leaves the fuel as it was
  pub burst_fuel : (instance : ℕ) (f : Framed) →
      ActsIn j program instance held height operands locals f held' operands' locals' → KeepsIn f held held' →
      held'.fuel ≡ held.fuel
  burst_fuel instance f acts keeps =
      acts_fuel program instance j held held' locals (topmost height operands) locals'
      (topmost (height_of f) operands') (acted_of f)
      (λ base. acts base ∙ effect_as f (run_machine base program held') locals' operands')
      (keeps_as f held held' keeps)

  module _ (rules : Rules) (owed : ℕ) (s : Surrounding) (rest : List Instr) where
    abbrev before : Configuration
    before = standing s (j ∷ rest) (topmost height operands) locals

    abbrev mid : Configuration
    mid = standing s rest (topmost height operands) locals

    abbrev start : HeldParts
    start = charged rules.consumes_fuel held owed

    abbrev after : HeldParts
    after = charged rules.consumes_fuel held' (owed + 1)

    first : (w : World) → means before w ≡ passing mid j w
    first w = ap (λ o. owing mid o) (run_cons (frame_at mid) j rest (state_at mid w))

    -- the turn of an instruction whose step is this
    taken : (step : Step) (new : Configuration) →
        Steps (ruled program rules) (executing mid j) (charged rules.consumes_fuel held (owed + 1)) step new after →
        TurnsBy (ruled program rules) (passing mid j) start 1 1 [] new after (turn_of step)
    taken step new x =
        (spends_owing program rules mid j (quiet j frequent) held owed 1 new held' (λ e. absurd (cc e)) step x).turns

    from_first : (next : Doing) → Leads (ruled program rules) (passing mid j) start 1 [] next after →
        Leads (ruled program rules) (means before) start 1 [] next after
    from_first next l =
        leads_from (ruled program rules) (means before) (passing mid j) start
        (λ base b turns asked answers. first (at (ruled program rules) base start turns asked answers)) 1 [] next after
        l

    by_framed : (f : Framed) →
        ActsIn j program s.activation.instance held height operands locals f held' operands' locals' →
        KeepsIn f held held' →
        Leads (ruled program rules) (means before) start 1 [] (behind s rest operands' locals' f) after
    by_framed (framed.Goes h) acts keeps =
        let v = values_parts (topmost h operands') locals' s.below 0 in
        from_first (means (standing s rest (topmost h operands') locals'))
        (taken step.Goes (record mid { values = v })
        (act_goes program mid mid.values v j (straight j frequent) (charged rules.consumes_fuel held (owed + 1)) after acted.Goes
        refl refl
        (acts_charged program s.activation.instance j held held' locals (topmost height operands) locals'
        (topmost h operands') acted.Goes acts tt rules.consumes_fuel (owed + 1)) rules refl refl)).0
    by_framed (framed.Traps t) acts keeps =
        from_first (λ w. Over (Trapped t) w)
        (taken (step.Fails (fault.Trapped t)) mid
        (act_traps program mid mid.values mid.values j (straight j frequent) (charged rules.consumes_fuel held (owed + 1)) after
        (acted.Traps t) refl refl
        (acts_charged program s.activation.instance j held held' locals (topmost height operands) locals
        (topmost height operands) (acted.Traps t) acts keeps rules.consumes_fuel (owed + 1)) rules mid t refl
        (keeps_charged (acted.Traps t) held held' rules.consumes_fuel (owed + 1) keeps)))
    by_framed framed.Sticks acts keeps =
        from_first (λ w. Over Stuck w)
        (taken (step.Fails fault.Stuck) mid
        (act_sticks program mid mid.values mid.values j (straight j frequent) (charged rules.consumes_fuel held (owed + 1)) after
        acted.Sticks refl refl
        (acts_charged program s.activation.instance j held held' locals (topmost height operands) locals
        (topmost height operands) acted.Sticks acts keeps rules.consumes_fuel (owed + 1)) rules mid refl
        (keeps_charged acted.Sticks held held' rules.consumes_fuel (owed + 1) keeps)))

-- so many turns, and one more
module _ (program : ProgramParts) (rules : Rules) (owed : ℕ) (s : Surrounding) (due : Doing) (first : HeldParts)
    (turns left : ℕ) (le : left ≤ turns) (some : left ≡ 0 → ⊥) (rest tail : List Instr) (j : Instr)
    (e : rest ≡ j ∷ tail) (frequent : is_frequent j ≡ true) (held held' : HeldParts) (height : ℕ)
    (operands locals operands' locals' : List RawVal)
    (l : Leads (ruled program rules) due (charged rules.consumes_fuel first owed) (turns - left) []
    (means (standing s rest (topmost height operands) locals))
    (charged rules.consumes_fuel held (owed + (turns - left)))) where
  pub burst_on : (f : Framed) →
      ActsIn j program s.activation.instance held height operands locals f held' operands' locals' →
      KeepsIn f held held' →
      Leads (ruled program rules) due (charged rules.consumes_fuel first owed) (turns - (left - 1)) []
      (behind s tail operands' locals' f) (charged rules.consumes_fuel held' (owed + (turns - (left - 1))))
  burst_on f acts keeps =
      let g = ruled program rules in
      let start = charged rules.consumes_fuel first owed in
      let made = turns - left in
      let next = behind s tail operands' locals' f in
      let one : Leads g (means (standing s rest (topmost height operands) locals))
      (charged rules.consumes_fuel held (owed + made)) 1 [] next
      (charged rules.consumes_fuel held' (owed + made + 1)) =
      subst (λ is. Leads g (means (standing s is (topmost height operands) locals))
      (charged rules.consumes_fuel held (owed + made)) 1 [] next
      (charged rules.consumes_fuel held' (owed + made + 1))) (sym e)
      (by_framed program j frequent held held' height operands locals operands' locals' rules (owed + made) s tail f
      acts keeps) in
      let count : made + 1 ≡ turns - (left - 1) = omega (arith, le, some) in
      let owes : owed + made + 1 ≡ owed + (turns - (left - 1)) = omega (arith, le, some) in
      subst (λ n. Leads g due start n [] next (charged rules.consumes_fuel held' (owed + (turns - (left - 1))))) count
      (subst (λ k. Leads g due start (made + 1) [] next (charged rules.consumes_fuel held' k)) owes
      (leads_on g due (means (standing s rest (topmost height operands) locals)) start
      (charged rules.consumes_fuel held (owed + made)) made [] l 1 [] next
      (charged rules.consumes_fuel held' (owed + made + 1)) one))

-- no turn yet
pub burst_none : (program : ProgramParts) (rules : Rules) (owed : ℕ) (due : Doing) (held : HeldParts) (turns : ℕ) →
    Leads (ruled program rules) due (charged rules.consumes_fuel held owed) (turns - turns) [] due
    (charged rules.consumes_fuel held (owed + (turns - turns)))
burst_none program rules owed due held turns =
    let none : 0 ≡ turns - turns = omega arith in
    let owes : owed ≡ owed + (turns - turns) = omega arith in
    subst (λ n. Leads (ruled program rules) due (charged rules.consumes_fuel held owed) n [] due
    (charged rules.consumes_fuel held (owed + (turns - turns)))) none
    (subst (λ k. Leads (ruled program rules) due (charged rules.consumes_fuel held owed) 0 [] due
    (charged rules.consumes_fuel held k)) owes
    (leads_none (ruled program rules) due (charged rules.consumes_fuel held owed)))

-- an instruction that touches no object acts in each store alike
pub acts_in : (j j' : Instr) → j ≡ j' → (height : ℕ) (operands locals : List RawVal) (f : Framed)
    (operands' locals' : List RawVal) → ActsInAny j' height operands locals f operands' locals' →
    (program : ProgramParts) (instance : ℕ) (held : HeldParts) →
    ActsIn j program instance held height operands locals f held operands' locals'
acts_in j j' e height operands locals f operands' locals' acts program instance held = λ base.
    let m = run_machine base program held in
    ap (λ j. act instance m locals j (topmost height operands)) e ∙ acts instance m
