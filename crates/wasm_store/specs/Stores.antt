-- What contracts see of a store.
use Rattle.std.specs.Prelude.{ℕ, ◌≡◌, refl}
use Rattle.std.specs.Coded.{Coded, code_by, coded×, coded_ℕ}
use Rattle.spec_machine.specs.Machine.{Machine}
use Rattle.store_state.specs.Codes.{machine_code}

-- a store: the machine; the turns of its last outermost command; and what the host keeps in it
pub record StoreParts (T : Type 0) : Type 0 where
  pub machine : Machine
  pub turns : ℕ
  pub host_data : T

abbrev pub store_parts : {T : Type 0} → Machine → ℕ → T → StoreParts T
store_parts machine turns host_data = record { machine = machine; turns = turns; host_data = host_data }

abbrev pub store_code : {T : Type 0} → Coded T → Coded (StoreParts T)
store_code {T} code =
    code_by (Machine × (ℕ × T)) (coded× machine_code (coded× coded_ℕ code)) (λ s. (s.machine, (s.turns, s.host_data)))
    (λ p. store_parts p.0 p.1.0 p.1.1) (λ _. refl)

-- nothing but the machine changes
abbrev pub KeepsRest : {T : Type 0} → StoreParts T → StoreParts T → Type 0
KeepsRest old new = new ≡ record old { machine = new.machine }
