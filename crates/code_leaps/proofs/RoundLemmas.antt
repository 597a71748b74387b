-- Instructions of the innermost code with branches that stay in its block, one after another.
use Rattle.std.proofs.Common.{◌≡◌, ℕ, ◌+◌, ◌-◌, ◌≤◌, ◌<◌, List, [], Bool, true, sym, ap, ◌∙◌, subst, arith}
use Rattle.wasm_syntax.specs.declared.instr.Instr.{Instr}
use Rattle.wasm_objects.specs.declared.raw.RawVal.{RawVal}
use Rattle.spec_execution.specs.Outcomes.{World}
use Rattle.spec_execution.proofs.EquationLemmas.{run_cons}
use Rattle.store_state.specs.Parts.{ProgramParts, HeldParts}
use Rattle.code_leaps.specs.Bursts.{Surrounding, standing}
use Rattle.code_stack.specs.Layers.{Configuration, frame_at, state_at, owing, means}
use Rattle.code_leaps.specs.Leading.{Doing, at, Leads}
use Rattle.code_leaps.specs.Rounds.{Loops, Hops, Passes, IsFree}
use Rattle.code_leaps.specs.Running.{ruled, charged}
use Rattle.code_leaps.specs.Turns.{passing}
use Rattle.code_stack.specs.declared.rules.Rules.{Rules}
use Rattle.code_stack.specs.declared.steps.Step.TheVariants as step
use Rattle.code_leaps.proofs.LoopLemmas.{check_passes}
use Rattle.code_leaps.proofs.PartLemmas.{leads_from, leads_owing}
use Rattle.code_leaps.proofs.TurnLemmas.{spends_owing}

-- a branch, with its turn
module _ (program : ProgramParts) (rules : Rules) (owed : ℕ) (held : HeldParts) (s : Surrounding) (locals : List RawVal)
    (again : List Instr) (loops : Loops s again) (passes : Bool)
    (lets : passes ≡ true → Passes rules held.fuel (owed + 1)) (code code' : List Instr) (operands operands' : List RawVal)
    (h : Hops again passes code operands code' operands') where
  abbrev mid : Configuration
  mid = standing s h.rest operands locals

  abbrev new : Configuration
  new = standing s code' operands' locals

  first : (w : World) → means (standing s code operands locals) w ≡ passing mid h.instr w
  first w =
      ap (λ is. means (standing s is operands locals) w) h.code_is
      ∙ ap (λ o. owing mid o) (run_cons (frame_at mid) h.instr h.rest (state_at mid w))

  pub hop : Leads (ruled program rules) (means (standing s code operands locals)) (charged rules.consumes_fuel held owed)
      1 [] (means new) (charged rules.consumes_fuel held (owed + 1))
  hop =
      let g = ruled program rules in
      let start = charged rules.consumes_fuel held owed in
      let after = charged rules.consumes_fuel held (owed + 1) in
      leads_from g (means (standing s code operands locals)) (passing mid h.instr) start
      (λ base b turns before answers. first (at g base start turns before answers)) 1 [] (means new) after
      (spends_owing program rules mid h.instr h.quiet held owed 1 new held (λ e. absurd (cc e)) step.Goes (record {
        by = λ base b turns before answers. h.leads s locals (at g base after turns before answers) loops
            (λ e go. check_passes program rules held (owed + 1) (lets e) go base b turns before answers);
      })).turns.0

-- so many turns, and a branch
module _ (program : ProgramParts) (rules : Rules) (owed : ℕ) (due : Doing) (first : HeldParts) (turns left : ℕ)
    (le : left ≤ turns) (held : HeldParts) where
  abbrev pub Led : ℕ → Doing → HeldParts → Type 0
  Led n next mid =
      Leads (ruled program rules) due (charged rules.consumes_fuel first owed) (turns - n) [] next
      (charged rules.consumes_fuel mid (owed + (turns - n)))

  module _ (s : Surrounding) (locals : List RawVal) (again : List Instr) (loops : Loops s again) (floor : ℕ)
      (some : 0 < left) (passes : Bool) (tested : passes ≡ true → floor < left - 1) (fuel : held.fuel ≡ first.fuel)
      (free : IsFree rules first.fuel owed (turns - floor)) (code : List Instr) (operands : List RawVal)
      (l : Led left (means (standing s code operands locals)) held) where
    lets : passes ≡ true → Passes rules held.fuel (owed + (turns - left) + 1)
    lets e =
        let same : owed + (turns - (left - 1)) ≡ owed + (turns - left) + 1 = omega (arith, le, some) in
        subst (λ z. Passes rules z (owed + (turns - left) + 1)) (sym fuel)
        (subst (λ k. Passes rules first.fuel k) same (free (turns - (left - 1)) (omega (arith, le, some, tested e))))

    pub hop_on : (code' : List Instr) (operands' : List RawVal) → Hops again passes code operands code' operands' →
        Led (left - 1) (means (standing s code' operands' locals)) held
    hop_on code' operands' h =
        let made = turns - left in
        let next = means (standing s code' operands' locals) in
        let start = charged rules.consumes_fuel first owed in
        let count : made + 1 ≡ turns - (left - 1) = omega (arith, le, some) in
        subst (λ n. Leads (ruled program rules) due start n [] next (charged rules.consumes_fuel held (owed + n))) count
        (leads_owing program rules due first owed made (means (standing s code operands locals)) held l 1 next held
        (hop program rules (owed + made) held s locals again loops passes lets code code' operands operands' h))

  -- so many turns, and more of them
  pub led_on : (next : Doing) → Led left next held → (less : ℕ) → less ≤ left → (more : Doing) (held' : HeldParts) →
      Leads (ruled program rules) next (charged rules.consumes_fuel held (owed + (turns - left))) (left - less) [] more
      (charged rules.consumes_fuel held' (owed + (turns - left) + (left - less))) → Led less more held'
  led_on next l less fewer more held' k =
      let made = turns - left in
      let start = charged rules.consumes_fuel first owed in
      let count : made + (left - less) ≡ turns - less = omega (arith, le, fewer) in
      subst (λ n. Leads (ruled program rules) due start n [] more (charged rules.consumes_fuel held' (owed + n))) count
      (leads_owing program rules due first owed made next held l (left - less) more held' k)
