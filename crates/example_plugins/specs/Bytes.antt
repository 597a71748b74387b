-- The bytes of the memories that a guest reaches, and that it keeps while others run. This project's own.
use Rattle.std.specs.Prelude.{◌≡◌, ℕ, true, List, Option, Some, slice_get, option_map}
use Rattle.wasm_types.specs.Memories.{Memory}
use Rattle.spec_machine.specs.Machine.{Machine}
use Rattle.spec_reach.specs.Nodes.{memory, has}
use Rattle.law_plugins.specs.Meeting.{reach_of}
use Rattle.wasm_plugins.specs.Guests.{PluginsParts}

-- the bytes of a memory, where it is there
abbrev pub bytes_at : Machine → ℕ → Option (List ℕ)
bytes_at m n = option_map (λ (x : Memory). x.bytes) (slice_get m.memories n)

-- a guest reaches the memories that it reached, and each of them is byte for byte as it was
pub record KeepsBytes (before after : Machine) (guest : ℕ) : Type 0 where
  pub reaches : (n : ℕ) → has (reach_of after guest) (memory n) ≡ has (reach_of before guest) (memory n)
  pub bytes : (n : ℕ) → has (reach_of before guest) (memory n) ≡ true → bytes_at after n ≡ bytes_at before n

-- there are the same guests, and each but the one of this number keeps its bytes
pub record OthersKeep {T : Type 0} (before after : PluginsParts T) (own : ℕ) : Type 0 where
  pub guests : after.guests ≡ before.guests
  pub bytes :
      (i g : ℕ) → (i ≡ own → ⊥) → slice_get before.guests i ≡ Some g
      → KeepsBytes before.store.machine after.store.machine g
