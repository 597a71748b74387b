-- The laws of ids and of references as values. This project's own.
use Rattle.std.specs.Prelude.{ℕ, Bool, true, List, ◌≡◌, ◌≢◌, ◌≤◌, ◌↔◌, Some}
use Rattle.wasm_values.specs.StoreIds.{Gives}
use Rattle.wasm_values.specs.Values.{val_of, val_ref}
use Rattle.wasm_values.specs.declared.references.Ref.{Ref}
use Rattle.wasm_values.specs.declared.store_id.StoreId.{StoreId}
use Rattle.wasm_values.specs.declared.values.Val.{Val}

-- what a source gives later, when its next id is no less than after the first, is another id
abbrev pub GivesOthers : Type 0
GivesOthers =
    (first second : StoreId) (a b c d : ℕ) → Gives a first b → b ≤ c → Gives c second d → first ≢ second

-- a value is that of a reference exactly where it gives the reference back
abbrev pub GivesBack : Type 0
GivesBack = (r : Ref) (v : Val) → (val_ref v ≡ Some r) ↔ (v ≡ val_of r)

-- what a test of equality finds equal, a hasher is written the same of
abbrev pub HashesAlike : {A : Type 0} → (A → A → Bool) → (A → List (List ℕ)) → Type 0
HashesAlike {A} eq hash_input = (x y : A) → eq x y ≡ true → hash_input x ≡ hash_input y

-- a clone is the value that was cloned, and there is always one
abbrev pub Copies : {A : Type 0} → (A → A → Type 0) → (A → Type 0) → Type 0
Copies {A} is_clone is_infallible = ((x y : A) → is_clone x y → y ≡ x) × ((x : A) → is_infallible x)
