-- How a memory or a table of a store grows: by the rule, by the limiter's answer where it is asked, and by the act.
use Rattle.std.specs.Prelude.{◌≡◌, Bool, ⊤, Result, Ok, Err}
use Rattle.wasm_meter.specs.Growths.{Growth}
use Rattle.wasm_meter.specs.declared.faults.LimiterFailed.{LimiterFailed}
use Rattle.wasm_values.specs.declared.refusals.Refusal.{Refusal}
use Rattle.wasm_values.specs.declared.refusals.Refusal.TheVariants.{OutOfMemory, GrowFailed, LimiterFault}
use Rattle.spec_machine.specs.Growth.{Rule, Grows, Fails, Asks, Decision, Granted, Failed, Faulted, Plan, plan_rule, answered_growth}
use Rattle.spec_machine.specs.Machine.{Machine}
use Rattle.store_state.specs.Growing.{growth_of, decided}
use Rattle.store_state.specs.declared.growth.GrowthRule.{GrowthRule}
use Rattle.store_state.specs.declared.growth.GrowthRule.TheVariants as said
use Rattle.wasm_store.specs.Stores.{StoreParts}

-- by the rule: nothing is asked, or the limiter, by the relation of the host data
abbrev pub Settles : {T : Type 0} → (T → Growth → Result Bool LimiterFailed → T → Type 0) → GrowthRule → T →
    Result ⊤ Refusal → T → Type 0
Settles growths said.Grows old result new = (result ≡ Ok tt) × (new ≡ old)
Settles growths said.Fails old result new = (result ≡ Err GrowFailed) × (new ≡ old)
Settles growths (said.Asks q) old result new =
    (answer : Result Bool LimiterFailed) × growths old (growth_of q) answer new
    × (result ≡ decided (answered_growth (growth_of q) answer))

-- a growth by the host that was decided: the act, or want of memory; or a refusal; and these change nothing
abbrev pub Decides : {A : Type 0} → Decision → Plan A → Machine → Result A Refusal → Machine → Type 0
Decides Granted p old (Ok a) new = (a ≡ p.gives) × (new ≡ p.after)
Decides Granted p old (Err why) new = (why ≡ OutOfMemory) × (new ≡ old)
Decides Failed p old result new = (result ≡ Err GrowFailed) × (new ≡ old)
Decides Faulted p old result new = (result ≡ Err LimiterFault) × (new ≡ old)

-- by the rule, with the question to the limiter where it is to be asked; only that changes the host data
abbrev pub GrowsBy : {T A : Type 0} → (T → Growth → Result Bool LimiterFailed → T → Type 0) → Rule → Plan A →
    StoreParts T → Result A Refusal → StoreParts T → Type 0
GrowsBy growths Grows p old result new =
    Decides Granted p old.machine result new.machine × (new.host_data ≡ old.host_data)
GrowsBy growths Fails p old result new =
    Decides Failed p old.machine result new.machine × (new.host_data ≡ old.host_data)
GrowsBy growths Asks p old result new =
    (answer : Result Bool LimiterFailed) × growths old.host_data p.growth answer new.host_data
    × Decides (answered_growth p.growth answer) p old.machine result new.machine

-- a call of the host that grows what is due, or refuses it
abbrev pub GrowsAs : {T A : Type 0} → (T → Growth → Result Bool LimiterFailed → T → Type 0) →
    Result (Plan A) Refusal → StoreParts T → Result A Refusal → StoreParts T → Type 0
GrowsAs growths (Ok p) old result new = GrowsBy growths (plan_rule old.machine p) p old result new
GrowsAs growths (Err why) old result new = (result ≡ Err why) × (new ≡ old)
