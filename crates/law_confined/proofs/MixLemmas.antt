-- A mixed store has the members of the one store, each change of a member of it is the change mixed, and where the two
-- stores have the same members it is the other one.
use Rattle.std.proofs.Common.{◌≡◌, ℕ, zero, suc, ◌≤◌, Bool, true, false, if◌then◌else◌, List, [], ◌∷◌, ◌++◌, length, set, slice_get, Some, refl, sym, ap, ◌∙◌, arith}
use Rattle.std.proofs.lemmas.Bool.{false≢true}
use Rattle.std.proofs.lemmas.Option.{same_Some}
use Rattle.wasm_types.specs.Memories.{Memory}
use Rattle.wasm_objects.specs.Globals.{Global}
use Rattle.wasm_objects.specs.Tables.{Table}
use Rattle.spec_machine.specs.Machine.{Machine, InstanceParts}
use Rattle.law_confined.specs.Mixed.{mix, mixed}
use Rattle.spec_reach.specs.Nodes.{Node, instance, memory, table, global}
use Rattle.law_confined.proofs.OtherStores.{Sees}

module _ {A : Type 0} where
  chosen : (b : Bool) (x u : A) → b ≡ true → (if b then x else u) ≡ x
  chosen true x u e = refl
  chosen false x u e = absurd (false≢true e)

  pub get_mix : (p : ℕ → Bool) (xs us : List A) (n : ℕ) → p n ≡ true → slice_get (mix p xs us) n ≡ slice_get xs n
  get_mix p [] us n e = refl
  get_mix p (x ∷ xs) [] n e = refl
  get_mix p (x ∷ xs) (u ∷ us) zero e = ap Some (chosen (p 0) x u e)
  get_mix p (x ∷ xs) (u ∷ us) (suc n) e = get_mix (λ k. p (suc k)) xs us n e

  pub set_mix :
      (p : ℕ → Bool) (xs us : List A) (n : ℕ) (y : A) → p n ≡ true → set (mix p xs us) n y ≡ mix p (set xs n y) us
  set_mix p [] us n y e = refl
  set_mix p (x ∷ xs) [] zero y e = refl
  set_mix p (x ∷ xs) [] (suc n) y e = refl
  set_mix p (x ∷ xs) (u ∷ us) zero y e =
      ap (λ (z : A). z ∷ mix (λ k. p (suc k)) xs us) (sym (chosen (p 0) y u e))
  set_mix p (x ∷ xs) (u ∷ us) (suc n) y e =
      ap (λ (zs : List A). (if p 0 then x else u) ∷ zs) (set_mix (λ k. p (suc k)) xs us n y e)

  pub append_mix : (p : ℕ → Bool) (xs us ys : List A) → length us ≤ length xs → mix p xs us ++ ys ≡ mix p (xs ++ ys) us
  append_mix p [] [] [] h = refl
  append_mix p [] [] (y ∷ ys) h = refl
  append_mix p [] (u ∷ us) ys h = absurd (omega (arith, h))
  append_mix p (x ∷ xs) [] ys h = refl
  append_mix p (x ∷ xs) (u ∷ us) ys h =
      ap (λ (zs : List A). (if p 0 then x else u) ∷ zs) (append_mix (λ k. p (suc k)) xs us ys (omega (arith, h)))

  chosen_same : (b : Bool) (x u : A) → (b ≡ true → u ≡ x) → (if b then x else u) ≡ u
  chosen_same true x u e = sym (e refl)
  chosen_same false x u e = refl

  pub mix_same :
      (p : ℕ → Bool) (xs us : List A) → length us ≡ length xs → ((n : ℕ) → p n ≡ true → slice_get us n ≡ slice_get xs n)
      → mix p xs us ≡ us
  mix_same p [] [] h e = refl
  mix_same p [] (u ∷ us) h e = absurd (omega (arith, h))
  mix_same p (x ∷ xs) [] h e = absurd (omega (arith, h))
  mix_same p (x ∷ xs) (u ∷ us) h e =
      ap (λ (z : A). z ∷ mix (λ k. p (suc k)) xs us) (chosen_same (p 0) x u (λ q. same_Some u x (e 0 q)))
      ∙ ap (λ (zs : List A). u ∷ zs) (mix_same (λ k. p (suc k)) xs us (omega (arith, h)) (λ n q. e (suc n) q))

module _ (M : Node → Bool) (first other : Machine) where
  pub mixed_sees : Sees M first (mixed M other)
  mixed_sees = record {
    instances = λ m n h k. get_mix (λ j. M (instance j)) m.instances other.instances n k;
    memories = λ m n h k. get_mix (λ j. M (memory j)) m.memories other.memories n k;
    tables = λ m n h k. get_mix (λ j. M (table j)) m.tables other.tables n k;
    globals = λ m n h k. get_mix (λ j. M (global j)) m.globals other.globals n k;
    set_memory = λ m n x h k.
        ap (λ (ys : List Memory). record (mixed M other m) { memories = ys })
        (set_mix (λ j. M (memory j)) m.memories other.memories n x k);
    set_table = λ m n x h k.
        ap (λ (ys : List Table). record (mixed M other m) { tables = ys })
        (set_mix (λ j. M (table j)) m.tables other.tables n x k);
    set_global = λ m n x h k.
        ap (λ (ys : List Global). record (mixed M other m) { globals = ys })
        (set_mix (λ j. M (global j)) m.globals other.globals n x k);
    set_instance = λ m n i h k.
        ap (λ (ys : List InstanceParts). record (mixed M other m) { instances = ys })
        (set_mix (λ j. M (instance j)) m.instances other.instances n i k);
  }

-- for confinement alone the other store is the same one
pub same_sees : (M : Node → Bool) (first : Machine) → Sees M first (λ m. m)
same_sees M first = record {
  instances = λ m n h k. refl;
  memories = λ m n h k. refl;
  tables = λ m n h k. refl;
  globals = λ m n h k. refl;
  set_memory = λ m n x h k. refl;
  set_table = λ m n x h k. refl;
  set_global = λ m n x h k. refl;
  set_instance = λ m n i h k. refl;
}
