-- An instruction that leads to no other code neither looks at the fuel nor changes it.
use Rattle.std.proofs.Common.{◌≡◌, ℕ, List, [], ◌∷◌, Option, Some, None, refl, sym, ap, ◌∙◌, arith, Bool, true, false}
use Rattle.std.specs.Prelude.{ℤ, ◌-ℤ◌, ◌-◌, ◌+◌, ◌≤◌, pos, negsuc, zero, suc, ltb, cond}
use Rattle.wasm_syntax.specs.Operators.{ArithOutcome, Number, IntegerDivisionByZero, IntegerOverflow}
use Rattle.wasm_syntax.specs.declared.instr.Instr.{Instr}
use Rattle.wasm_syntax.specs.declared.instr.Instr.TheVariants as i
use Rattle.wasm_values.specs.declared.refusals.Trap.{Trap}
use Rattle.wasm_objects.specs.declared.raw.RawRef.{RawRef}
use Rattle.wasm_objects.specs.declared.raw.RawVal.{RawVal}
use Rattle.spec_machine.specs.Changes.{set_fuel}
use Rattle.spec_machine.specs.Machine.{Machine, new_machine, debt}
use Rattle.spec_execution.specs.Operands as on
use Rattle.spec_execution.specs.Straight.{Effect, Goes, Traps, Sticks, bounded, element, result_of, act}
use Rattle.store_state.specs.Machine.{run_machine}
use Rattle.store_state.specs.Parts.{ProgramParts, HeldParts}
use Rattle.code_straight.specs.Acting.{effect_of, Keeps}
use Rattle.code_straight.specs.declared.acted.Acted.{Acted}
use Rattle.code_straight.specs.declared.acted.Acted.TheVariants as acted
use Rattle.code_leaps.specs.Running.{charged}

-- an effect, with other fuel
abbrev fuelled : ℤ → Effect → Effect
fuelled z (Goes m locals operands) = Goes (set_fuel m z) locals operands
fuelled z (Traps t) = Traps t
fuelled z Sticks = Sticks

-- two effects alike but for the fuel
abbrev Alike : ℤ → Effect → Effect → Type 0
Alike z e e' = e' ≡ fuelled z e

module _ (z : ℤ) where
  found_alike : {A : Type 0} (o : Option A) (go go' : A → Effect) → ((a : A) → Alike z (go a) (go' a)) →
      Alike z (on.found Sticks o go) (on.found Sticks o go')
  found_alike None go go' h = refl
  found_alike (Some a) go go' h = h a

  value_alike : (ops : List RawVal) (go go' : RawVal → List RawVal → Effect) →
      ((v : RawVal) (rest : List RawVal) → Alike z (go v rest) (go' v rest)) →
      Alike z (on.on_value Sticks ops go) (on.on_value Sticks ops go')
  value_alike [] go go' h = refl
  value_alike (v ∷ rest) go go' h = h v rest

  bounded_alike : (t : Trap) (b : Bool) (e e' : Effect) → Alike z e e' → Alike z (bounded t b e) (bounded t b e')
  bounded_alike t true e e' h = h
  bounded_alike t false e e' h = refl

  either_alike : (b : Bool) (x y x' y' : Effect) → Alike z x x' → Alike z y y' → Alike z (cond b x y) (cond b x' y')
  either_alike true x y x' y' h j = h
  either_alike false x y x' y' h j = j

  element_alike : (o : Option RawRef) (go go' : RawRef → Effect) → ((r : RawRef) → Alike z (go r) (go' r)) →
      Alike z (element o go) (element o go')
  element_alike None go go' h = refl
  element_alike (Some r) go go' h = h r

  result_alike : (go go' : RawVal → Effect) (n : ℕ) (o : ArithOutcome) → ((v : RawVal) → Alike z (go v) (go' v)) →
      Alike z (result_of go n o) (result_of go' n o)
  result_alike go go' n (Number x) h = h (on.integer n x)
  result_alike go go' n IntegerDivisionByZero h = refl
  result_alike go go' n IntegerOverflow h = refl

  pub act_alike : (instance : ℕ) (m : Machine) (locals : List RawVal) (j : Instr) (ops : List RawVal) →
      Alike z (act instance m locals j ops) (act instance (set_fuel m z) locals j ops)
  act_alike instance m locals i.Nop ops = refl
  act_alike instance m locals j ops =
      search (found_alike, value_alike, bounded_alike, either_alike, element_alike, result_alike) depth 30

fuelled_effect : (z : ℤ) (a : Acted) (m : Machine) (locals ops : List RawVal) →
    fuelled z (effect_of a m locals ops) ≡ effect_of a (set_fuel m z) locals ops
fuelled_effect z acted.Goes m locals ops = refl
fuelled_effect z (acted.Traps t) m locals ops = refl
fuelled_effect z acted.Sticks m locals ops = refl

-- the fuel behind an effect that goes on
abbrev fuel_in : Effect → ℤ
fuel_in (Goes m locals ops) = m.fuel
fuel_in _ = pos 0

-- any store
abbrev a_base : Machine
a_base =
    new_machine (record { raw = record { value = 1; ok = omega arith }; within = omega arith })
    (record { number = 1; consumes_fuel = false; reads_epochs = false; frames = 1; turns = 1 })

-- an instruction that came to this in each store of these objects
module _ (program : ProgramParts) (instance : ℕ) (j : Instr) (held held' : HeldParts) (locals ops locals' ops' : List RawVal)
    (a : Acted) (does : (base : Machine) → act instance (run_machine base program held) locals j ops
    ≡ effect_of a (run_machine base program held') locals' ops') (k : Keeps a held held') where
  goes_fuel : a ≡ acted.Goes → held'.fuel ≡ held.fuel
  goes_fuel e =
      let m = run_machine a_base program held in
      let m' = run_machine a_base program held' in
      let is : act instance m locals j ops ≡ Goes m' locals' ops' =
      does a_base ∙ ap (λ a. effect_of a m' locals' ops') e in
      ap fuel_in (sym is ∙ act_alike held.fuel instance m locals j ops ∙ ap (fuelled held.fuel) is)

  by_acted : (b : Acted) → a ≡ b → Keeps b held held' → held'.fuel ≡ held.fuel
  by_acted acted.Goes e h = goes_fuel e
  by_acted (acted.Traps t) e h = ap (λ (x : HeldParts). x.fuel) h
  by_acted acted.Sticks e h = ap (λ (x : HeldParts). x.fuel) h

  pub acts_fuel : held'.fuel ≡ held.fuel
  acts_fuel = by_acted a refl k

  pub acts_charged : (c : Bool) (owed : ℕ) (base : Machine) →
      act instance (run_machine base program (charged c held owed)) locals j ops
      ≡ effect_of a (run_machine base program (charged c held' owed)) locals' ops'
  acts_charged c owed base =
      let taken : ℤ → ℤ = λ z. cond c (z -ℤ pos owed) z in
      act_alike (taken held.fuel) instance (run_machine base program held) locals j ops
      ∙ ap (fuelled (taken held.fuel)) (does base)
      ∙ fuelled_effect (taken held.fuel) a (run_machine base program held') locals' ops'
      ∙ ap (λ z. effect_of a (run_machine base program (record held' { fuel = taken z })) locals' ops') (sym acts_fuel)

pub keeps_charged : (a : Acted) (held held' : HeldParts) (c : Bool) (owed : ℕ) → Keeps a held held' →
    Keeps a (charged c held owed) (charged c held' owed)
keeps_charged acted.Goes held held' c owed h = tt
keeps_charged (acted.Traps t) held held' c owed h = ap (λ x. charged c x owed) h
keeps_charged acted.Sticks held held' c owed h = ap (λ x. charged c x owed) h

-- so much less fuel is so much more debt at most
pub owes_more : (fuel : ℤ) (amount : ℕ) → debt (fuel -ℤ pos amount) ≤ debt fuel + amount
owes_more (pos n) zero = omega arith
owes_more (pos n) (suc k) = less (ltb n (suc k)) n (n - suc k) k
  where
    less : (b : Bool) (a n k : ℕ) → debt (cond b (negsuc (suc k - suc a)) (pos n)) ≤ 0 + suc k
    less true a n k = omega arith
    less false a n k = omega arith
owes_more (negsuc n) zero = owes_less n (ltb 0 (suc n))
  where
    owes_less : (n : ℕ) (b : Bool) → debt (cond b (negsuc (suc n - suc 0)) (pos (0 - suc n))) ≤ suc n + 0
    owes_less n true = omega arith
    owes_less n false = omega arith
owes_more (negsuc n) (suc k) = omega arith
