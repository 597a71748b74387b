-- An instruction that leads to no other code changes not whether a hook is asked: one lemma for each way to go on, and
-- then a search.
use Rattle.std.proofs.Common.{◌≡◌, ℕ, Bool, true, false, List, [], ◌∷◌, Option, Some, None}
use Rattle.std.specs.Prelude.{if◌then◌else◌}
use Rattle.wasm_syntax.specs.Operators.{ArithOutcome, Number, IntegerDivisionByZero, IntegerOverflow}
use Rattle.wasm_syntax.specs.declared.instr.Instr.{Instr}
use Rattle.wasm_syntax.specs.declared.instr.Instr.TheVariants as i
use Rattle.wasm_values.specs.declared.refusals.Trap.{Trap}
use Rattle.wasm_objects.specs.declared.raw.RawRef.{RawRef}
use Rattle.wasm_objects.specs.declared.raw.RawVal.{RawVal}
use Rattle.spec_machine.specs.Machine.{Machine}
use Rattle.spec_execution.specs.Operands as on
use Rattle.law_hooks.specs.Askers.{Flags, flags_of}
use Rattle.spec_execution.specs.Straight.{Effect, Goes, Traps, Sticks, bounded, element, result_of, act}

-- what goes on does so in a store whose hook is asked, or is not
abbrev pub GoesHooked : Flags → Effect → Type 0
GoesHooked flags (Goes m locals operands) = flags_of m ≡ flags
GoesHooked flags (Traps t) = Unit {0}
GoesHooked flags Sticks = Unit {0}

pub record LeavesHook (flags : Flags) (e : Effect) : Type 0 where
  pub by : GoesHooked flags e

module _ (flags : Flags) where
  abbrev P : Effect → Type 0
  P = LeavesHook flags

  sticks : P Sticks
  sticks = record { by = tt }

  traps : (t : Trap) → P (Traps t)
  traps t = record { by = tt }

  pub goes : (m : Machine) (locals operands : List RawVal) → flags_of m ≡ flags → P (Goes m locals operands)
  goes m locals operands e = record { by = e }

  pub found_leaves : {A : Type 0} (o : Option A) (go : A → Effect) → ((a : A) → P (go a)) → P (on.found Sticks o go)
  found_leaves None go j = sticks
  found_leaves (Some a) go j = j a

  value_leaves : (vs : List RawVal) (go : RawVal → List RawVal → Effect) → ((v : RawVal) (rest : List RawVal) → P (go v rest))
      → P (on.on_value Sticks vs go)
  value_leaves [] go j = sticks
  value_leaves (v ∷ rest) go j = j v rest

  either_leaves : (b : Bool) (x y : Effect) → P x → P y → P (if b then x else y)
  either_leaves true x y h j = h
  either_leaves false x y h j = j

  pub bounded_leaves : (t : Trap) (b : Bool) (e : Effect) → P e → P (bounded t b e)
  bounded_leaves t true e h = h
  bounded_leaves t false e h = traps t

  element_leaves : (o : Option RawRef) (go : RawRef → Effect) → ((r : RawRef) → P (go r)) → P (element o go)
  element_leaves None go j = record { by = tt }
  element_leaves (Some r) go j = j r

  result_leaves : (go : RawVal → Effect) (n : ℕ) (o : ArithOutcome) → ((v : RawVal) → P (go v)) → P (result_of go n o)
  result_leaves go n (Number x) j = j (on.integer n x)
  result_leaves go n IntegerDivisionByZero j = record { by = tt }
  result_leaves go n IntegerOverflow j = record { by = tt }

  module _ (instance : ℕ) (m : Machine) (e : flags_of m ≡ flags) (locals operands : List RawVal) where
    pub act_leaves : (j : Instr) → P (act instance m locals j operands)
    act_leaves i.Unreachable = sticks
    act_leaves _ =
        search (
          found_leaves,
          value_leaves,
          either_leaves,
          bounded_leaves,
          element_leaves,
          result_leaves,
          goes,
          sticks,
          e,
        ) depth 30
