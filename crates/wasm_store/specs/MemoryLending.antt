-- Bytes of a memory, and host data beside them, that are lent out of a store. This project's own.
use Rattle.std.specs.Borrow.{Lends, MutBor, Fml, RattleType, u8, Array}
use Rattle.std.specs.Prelude.{◌≡◌, ℕ, List, Ok}
use Rattle.wasm_values.specs.declared.handles.Memory.{Memory as Handle}
use Rattle.store_objects.specs.LentData.{machine_left, memory_data}
use Rattle.wasm_store.specs.Stores.{StoreParts}
use Rattle.wasm_store.specs.contracts.store.Store.{the_row}

-- the store with what was left in a memory, and with that and other host data
abbrev pub with_left : {T : Type 0} → StoreParts T → Handle → List ℕ → StoreParts T
with_left s h left = record s { machine = machine_left s.machine h left }

abbrev pub with_both_left : {T : Type 0} → StoreParts T → Handle → List ℕ → T → StoreParts T
with_both_left s h left host_data = record s { machine = machine_left s.machine h left; host_data = host_data }

-- the store ends with the bytes that were left
abbrev pub lends_bytes : (T K B : RattleType) → MutBor (StoreParts T.Denot) → Handle → MutBor (List ℕ) → Fml
lends_bytes T K B store h lent = Lends (the_row T K B) (Array u8 0) store lent (with_left store.now h)

-- how a call of a closure goes: what it is shown, what it gives, and what it leaves
abbrev pub Calls : Type 0 → Type 0 → Type 1
Calls T R = MutBor (List ℕ) → MutBor T → R → MutBor (List ℕ) → MutBor T → Type 0

-- a call on the bytes of a memory and on the host data took a store to one that has what the call left there, and is
-- else as it was
pub record ChangesBoth {T R : Type 0} (calls : Calls T R) (h : Handle) (old : StoreParts T) (given : R)
    (new : StoreParts T) : Type 0 where
  pub shown : MutBor (List ℕ)
  pub shown_data : MutBor T
  pub left : MutBor (List ℕ)
  pub left_data : MutBor T
  pub shows : memory_data old.machine h ≡ Ok shown.now
  pub shows_data : shown_data.now ≡ old.host_data
  pub called : calls shown shown_data given left left_data
  pub leaves : new ≡ with_both_left old h left.now left_data.now
