-- When a growth that is planned takes place: by the rule alone, or by the limiter's answer where the rule asks it.
-- This project's own.
use Rattle.std.specs.Prelude.{◌≡◌, ◌⊎◌, true, Ok}
use Rattle.spec_machine.specs.Growth.{Plan, plan_rule, Grows, Asks, answered_growth, Granted}
use Rattle.spec_machine.specs.Machine.{Machine}

abbrev pub IsGranted : {A : Type 0} → Machine → Plan A → Type 0
IsGranted m p =
    (plan_rule m p ≡ Grows) ⊎ ((plan_rule m p ≡ Asks) × (answered_growth p.growth (Ok true) ≡ Granted))
