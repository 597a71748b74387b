-- What an instance names, as it was found or is not there.
use Rattle.std.proofs.Common.{◌≡◌, ℕ, zero, suc, ◌<◌, List, [], ◌∷◌, length, refl, ap, sym, ◌∙◌, arith}
use Rattle.std.proofs.lemmas.Option.{option_and_then_some}
use Rattle.std.specs.Prelude.{slice_get, option_map, Option, Some, None}
use Rattle.wasm_objects.specs.declared.raw.RawRef.{RawRef}
use Rattle.wasm_objects.specs.declared.raw.RawVal.{RawVal}
use Rattle.spec_machine.specs.Changes.{drop_element, drop_data}
use Rattle.spec_machine.specs.Machine.{Machine}
use Rattle.spec_execution.specs.Operands as on
use Rattle.spec_execution.specs.Straight.{Goes, Sticks}
use Rattle.store_state.specs.Machine.{run_machine, table_number, memory_number, elements_of, data_of, without_elements, without_data}
use Rattle.store_state.specs.Parts.{Names, ProgramParts, HeldParts}
use Rattle.code_straight.specs.Finding.{HasMemory, HasTable}
use Rattle.code_straight.proofs.InstanceLemmas.{on_memory_is, on_table_is, on_elements_is, on_data_is, found_as, found_at, emptied_elements, emptied_data}

there : {A : Type 0} (xs : List A) (n : ℕ) → n < length xs → (x : A) × (slice_get xs n ≡ Some x)
there [] n h = absurd (omega (arith, h))
there (x ∷ xs) zero h = (x, refl)
there (x ∷ xs) (suc n) h = there xs n (omega (arith, h))

pub mapped_none : {A B : Type 0} (f : A → B) (o : Option A) → None ≡ option_map f o → o ≡ None
mapped_none f None e = refl
mapped_none f (Some a) e = absurd cc

pub mapped_some : {A B : Type 0} (f : A → B) (o : Option A) (b : B) → Some b ≡ option_map f o →
    (a : A) × (o ≡ Some a) × (f a ≡ b)
mapped_some f None b e = absurd cc
mapped_some f (Some a) b e = (a, refl, cc)

module _ (p : ProgramParts) (h : HeldParts) (i k n : ℕ) where
  pub has_memory : memory_number p i k ≡ Some n → n < length h.memories → HasMemory p h i k n
  has_memory e within =
      let x = there h.memories n within in
      option_and_then_some (λ (m : Names). slice_get m.memories k) (slice_get p.instances i) n e (λ names is found.
      record {
        names = names;
        instance_is = is;
        memory = x.0;
        found = x.1;
        within = within;
        leads = λ base go. on_memory_is Sticks base p h i k go ∙ found_at Sticks _ go e x.1;
      })

  pub has_table : table_number p i k ≡ Some n → n < length h.tables → HasTable p h i k n
  has_table e within =
      let x = there h.tables n within in
      option_and_then_some (λ (m : Names). slice_get m.tables k) (slice_get p.instances i) n e (λ names is found.
      record {
        names = names;
        instance_is = is;
        table = x.0;
        found = x.1;
        within = within;
        leads = λ base go. on_table_is Sticks base p h i k go ∙ found_at Sticks _ go e x.1;
      })

-- a segment of an instance that is there, made empty
module _ (base : Machine) (p : ProgramParts) (h : HeldParts) (i k : ℕ) (n : Names)
    (is : slice_get p.instances i ≡ Some n) (locals rest : List RawVal) (within : i < length h.segments) (h' : HeldParts)
  where
    pub data_dropped : (y : List ℕ) → data_of h i k ≡ Some y → h' ≡ without_data h i k →
        on.on_data Sticks (run_machine base p h) i k (λ parts y. Goes (drop_data (run_machine base p h) i parts k)
        locals rest) ≡ Goes (run_machine base p h') locals rest
    data_dropped y e new =
        on_data_is Sticks base p h i k n is _ ∙ found_as Sticks _ e
        ∙ ap (λ m. Goes m locals rest) (sym (ap (run_machine base p) new ∙ emptied_data base p h i k n is within))

    pub elements_dropped : (y : List RawRef) → elements_of h i k ≡ Some y → h' ≡ without_elements h i k →
        on.on_elements Sticks (run_machine base p h) i k (λ parts y. Goes (drop_element (run_machine base p h) i parts k)
        locals rest) ≡ Goes (run_machine base p h') locals rest
    elements_dropped y e new =
        on_elements_is Sticks base p h i k n is _ ∙ found_as Sticks _ e
        ∙ ap (λ m. Goes m locals rest) (sym (ap (run_machine base p) new ∙ emptied_elements base p h i k n is within))
