-- How a call answers, by the row of the machine that is due.
use Rattle.std.specs.Prelude.{◌≡◌, ℕ, ⊤, List, Result, Ok, Err}
use Rattle.wasm_values.specs.declared.refusals.Refusal.{Refusal}
use Rattle.wasm_values.specs.declared.refusals.Refusal.TheVariants.{OutOfMemory}
use Rattle.spec_machine.specs.Machine.{Machine}

-- why a call that takes memory gives nothing: a refusal that is due, and else for want of memory
abbrev pub cause : {A : Type 0} → Result A Refusal → Refusal
cause (Ok a) = OutOfMemory
cause (Err why) = why

-- a call that copies what is due
abbrev pub Copies : {A : Type 0} → Result A Refusal → Result A Refusal → Type 0
Copies due (Ok a) = due ≡ Ok a
Copies due (Err why) = why ≡ cause due

-- a call that changes the store to what is due, or is refused and changes nothing
abbrev pub Changes : Result Machine Refusal → Machine → Result ⊤ Refusal → Machine → Type 0
Changes due old (Ok _) new = due ≡ Ok new
Changes due old (Err why) new = (due ≡ Err why) × (new ≡ old)

-- a call that makes an object in the store and gives its handle, or changes nothing
abbrev pub Makes : {A : Type 0} → Result (Machine × A) Refusal → Machine → Result A Refusal → Machine → Type 0
Makes due old (Ok handle) new = due ≡ Ok (new, handle)
Makes due old (Err why) new = (why ≡ cause due) × (new ≡ old)

-- what is due is in the buffer, or it is refused and the buffer is as it was
abbrev pub Reads : Result (List ℕ) Refusal → List ℕ → Result ⊤ Refusal → List ℕ → Type 0
Reads due old (Ok _) new = due ≡ Ok new
Reads due old (Err why) new = (due ≡ Err why) × (new ≡ old)
