-- In a store without a limiter no growth asks.
use Rattle.std.proofs.Common.{◌≡◌, Bool, true, false, if◌then◌else◌, eqb, ltb, subst}
use Rattle.spec_machine.specs.Growth.{Plan, plan_rule, growth_rule, rule_of, by_maximum, Grows, Fails, Asks, Decision, Granted, Failed, Faulted}
use Rattle.spec_machine.specs.Machine.{Machine}

-- the rule of a growth does not ask
maximum_asks_not : (d : Decision) → rule_of d ≡ Asks → ⊥
maximum_asks_not Granted e = cc
maximum_asks_not Failed e = cc
maximum_asks_not Faulted e = cc

rule_asks_not : (same past : Bool) (d : Decision) →
    (if same then Grows else if past then Fails else if false then Asks else rule_of d) ≡ Asks → ⊥
rule_asks_not true past d e = let q : Grows ≡ Asks = e in cc
rule_asks_not false true d e = let q : Fails ≡ Asks = e in cc
rule_asks_not false false d e = maximum_asks_not d e

pub asks_not : {A : Type 0} (m : Machine) (p : Plan A) → m.is_limited ≡ false → plan_rule m p ≡ Asks → ⊥
asks_not m p free e =
    rule_asks_not (eqb p.growth.current p.growth.desired) (ltb p.range p.growth.desired) (by_maximum p.growth)
    (subst (λ b. growth_rule b p.range p.growth ≡ Asks) free e)
