-- The ids of stores, by their numbers. This project's own.
use Rattle.std.specs.Prelude.{◌≡◌, ℕ, ◌^◌, Bool, true, false, nat_lt, nat_le, Option, Some, None, refl}
use Rattle.std.proofs.lemmas.Bool.{ltb-true, leb-true}
use Rattle.wasm_values.specs.declared.store_id.StoreId.{StoreId}

-- the id of a number from 1 to 2^63; of another there is none
abbrev pub store_id_by : (n : ℕ) (above below : Bool) → nat_lt 0 n ≡ above → nat_le n (2 ^ 63) ≡ below → Option StoreId
store_id_by n true true above below =
    Some (record { raw = record { value = n; ok = ltb-true 0 n above }; within = leb-true n (2 ^ 63) below })
store_id_by n true false above below = None
store_id_by n false below' above below = None

abbrev pub store_id_of : ℕ → Option StoreId
store_id_of n = store_id_by n (nat_lt 0 n) (nat_le n (2 ^ 63)) refl refl
