-- Bytes of a memory of a store, lent. This project's own.
use Rattle.std.specs.Borrow.{Lends, Bor, MutBor, Fml, u8, Array}
use Rattle.std.specs.Prelude.{◌≡◌, ℕ, List, Result, Ok, Err}
use Rattle.wasm_values.specs.Handles.{memory_index}
use Rattle.wasm_values.specs.declared.handles.Memory.{Memory as Handle}
use Rattle.wasm_values.specs.declared.refusals.Refusal.{Refusal}
use Rattle.spec_machine.specs.Machine.{Machine}
use Rattle.spec_machine.specs.MemoryCalls.{memory_at}
use Rattle.spec_machine.specs.Steps.{◌>>=◌}
use Rattle.store_state.specs.Lending.{memories_left}
use Rattle.store_objects.specs.contracts.objects.Objects.{the_row}

-- the bytes of a memory
abbrev pub memory_data : Machine → Handle → Result (List ℕ) Refusal
memory_data m h = do
  x ← memory_at m h
  Ok x.bytes

-- a call that lends what is due, or is refused
abbrev pub Shows : {A : Type 0} → Result A Refusal → Result (Bor A) Refusal → Type 0
Shows due (Ok lent) = due ≡ Ok lent.now
Shows due (Err why) = due ≡ Err why

-- the store, once the loan of the bytes of a memory ends
abbrev pub machine_left : Machine → Handle → List ℕ → Machine
machine_left m h left = record m { memories = memories_left m.memories (memory_index h) left }

abbrev pub LendsData : MutBor Machine → Handle → MutBor (List ℕ) → Fml
LendsData lender h lent = Lends the_row (Array u8 0) lender lent (machine_left lender.now h)
