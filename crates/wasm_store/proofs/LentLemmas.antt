-- A closure was called on the bytes of a memory and on the host's data.
use Rattle.std.proofs.Common.{◌≡◌, ℕ, List, refl, subst}
use Rattle.std.specs.Borrow.{MutBor}
use Rattle.std.specs.Prelude.{Ok}
use Rattle.wasm_values.specs.declared.handles.Memory.{Memory as Handle}
use Rattle.spec_machine.specs.Machine.{Machine}
use Rattle.store_objects.specs.LentData.{memory_data}
use Rattle.wasm_store.specs.MemoryLending.{Calls, ChangesBoth, with_both_left}
use Rattle.wasm_store.specs.Stores.{StoreParts, store_parts}

module _ {T R : Type 0} (calls : Calls T R) (h : Handle) (shown : MutBor (List ℕ)) (shown_data : MutBor T) (given : R)
    (left : MutBor (List ℕ)) (left_data : MutBor T) (called : calls shown shown_data given left left_data) where
  pub changes_both : (machine : Machine) (turns : ℕ) (host_data : T) (old : StoreParts T) →
      store_parts machine turns host_data ≡ old → memory_data machine h ≡ Ok shown.now → shown_data.now ≡ host_data →
      ChangesBoth calls h old given (with_both_left (store_parts machine turns host_data) h left.now left_data.now)
  changes_both machine turns host_data old seen there is =
      let s : StoreParts T = store_parts machine turns host_data in
      subst (λ (o : StoreParts T). ChangesBoth calls h o given (with_both_left s h left.now left_data.now)) seen
      (record {
        shown = shown;
        shown_data = shown_data;
        left = left;
        left_data = left_data;
        shows = there;
        shows_data = is;
        called = called;
        leaves = refl;
      })
