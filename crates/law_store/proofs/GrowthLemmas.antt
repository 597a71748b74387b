-- A growth that is granted asks for no more, or for no more than the range of indices and the declared maximum.
use Rattle.std.proofs.Common.{◌≡◌, ◌⊎◌, ◌≤◌, Bool, true, false, eqb, ltb, if◌then◌else◌, inl, inr, refl}
use Rattle.std.proofs.lemmas.Bool.{eqb-true, ltb-false}
use Rattle.wasm_types.specs.MemoryTypes.{within_maximum}
use Rattle.spec_machine.specs.Growth.{Plan, Rule, Grows, Fails, Asks, Granted, Failed, rule_of}
use Rattle.spec_machine.specs.Machine.{Machine}
use Rattle.law_store.specs.Granted.{IsGranted}

-- the tests of the rule
rule_by : (same past limited within : Bool) → Rule
rule_by same past limited within =
    if same then Grows else if past then Fails else if limited then Asks else rule_of
    (if within then Granted else Failed)

by_cases : (same past limited within : Bool) →
    (rule_by same past limited within ≡ Grows) ⊎
    ((rule_by same past limited within ≡ Asks) × ((if within then Granted else Failed) ≡ Granted)) →
    (same ≡ true) ⊎ ((past ≡ false) × (within ≡ true))
unfolding rule_by
by_cases true past limited within h = inl refl
by_cases false false limited true h = inr (refl, refl)
by_cases false true limited within h = elim h [ inl p ↦ absurd cc | inr p ↦ absurd (let q : Fails ≡ Asks = p.0 in cc) ]
by_cases false false true false h = elim h [ inl p ↦ absurd cc | inr p ↦ absurd (let q : Failed ≡ Granted = p.1 in cc) ]
by_cases false false false false h = elim h [ inl p ↦ absurd cc | inr p ↦ absurd (let q : Fails ≡ Asks = p.0 in cc) ]

-- no more is asked, or what is asked is within the range and the maximum
abbrev pub MayGrow : {A : Type 0} → Plan A → Type 0
MayGrow p = (p.growth.current ≡ p.growth.desired) ⊎
    ((p.growth.desired ≤ p.range) × (within_maximum p.growth.desired p.growth.maximum ≡ true))

pub may_grow : {A : Type 0} (m : Machine) (p : Plan A) → IsGranted m p → MayGrow p
unfolding rule_by
may_grow m p h =
    elim (by_cases (eqb p.growth.current p.growth.desired) (ltb p.range p.growth.desired) m.is_limited
    (within_maximum p.growth.desired p.growth.maximum) h) [
      | inl e ↦ inl (eqb-true _ _ e)
      | inr e ↦ inr (ltb-false _ _ e.0, e.1)
    ]
