-- What an instance names in the store of a run.
use Rattle.std.proofs.Common.{◌≡◌, ℕ, ◌<◌, List, [], length, set, refl, ap, sym, ◌∙◌}
use Rattle.std.specs.Prelude.{slice_get, option_map, option_and_then, Option, Some, None}
use Rattle.wasm_types.specs.Memories.{Memory}
use Rattle.wasm_objects.specs.Globals.{Global}
use Rattle.wasm_objects.specs.Tables.{Table}
use Rattle.wasm_objects.specs.declared.raw.RawRef.{RawRef}
use Rattle.spec_machine.specs.Changes.{drop_element, drop_data}
use Rattle.spec_machine.specs.Machine.{Machine, InstanceParts}
use Rattle.spec_execution.specs.Operands as on
use Rattle.store_state.proofs.Instances.{instance_at, instance_put}
use Rattle.store_state.specs.Machine.{instance_of, run_machine, segments_at, function_number, table_number, memory_number, global_number, elements_of, data_of, without_elements, without_data}
use Rattle.store_state.specs.Parts.{Names, segment_parts, ProgramParts, HeldParts}

-- what follows a look-up that is seen otherwise
found_map : {A B O : Type 0} (u : O) (f : A → B) (go : B → O) (o : Option A) →
    on.found u (option_map f o) go ≡ on.found u o (λ a. go (f a))
found_map u f go None = refl
found_map u f go (Some a) = refl

found_then : {A B O : Type 0} (u : O) (f : A → Option B) (go : B → O) (o : Option A) →
    on.found u o (λ a. on.found u (f a) go) ≡ on.found u (option_and_then f o) go
found_then u f go None = refl
found_then u f go (Some a) = refl

-- what is found, and what is found under a number that is found
pub found_as : {O A : Type 0} {o o' : Option A} (u : O) (go : A → O) → o ≡ o' → on.found u o go ≡ on.found u o' go
found_as u go e = ap (λ o. on.found u o go) e

pub found_at : {O A : Type 0} {number : Option ℕ} {n : ℕ} {o : Option A} (u : O) (xs : List A) (go : ℕ → A → O) →
    number ≡ Some n → slice_get xs n ≡ o →
    on.found u number (λ n. on.found u (slice_get xs n) (go n)) ≡ on.found u o (go n)
found_at u xs go e is = found_as u _ e ∙ found_as u _ is

module _ {O : Type 0} (u : O) (base : Machine) (p : ProgramParts) (h : HeldParts) (i : ℕ) where
  pub on_instance_is : (go : InstanceParts → O) → on.on_instance u (run_machine base p h) i go
      ≡ on.found u (slice_get p.instances i) (λ n. go (instance_of n (segments_at h.segments i)))
  on_instance_is go =
      ap (λ o. on.found u o go) (instance_at p.instances h.segments i)
      ∙ found_map u (λ n. instance_of n (segments_at h.segments i)) go (slice_get p.instances i)

  module _ (k : ℕ) where
    pub on_function_is : (go : ℕ → O) → on.on_function u (run_machine base p h) i k go
        ≡ on.found u (function_number p i k) go
    on_function_is go =
        on_instance_is (λ n. on.found u (slice_get n.functions k) go)
        ∙ found_then u (λ (n : Names). slice_get n.functions k) go (slice_get p.instances i)

    pub on_memory_is : (go : ℕ → Memory → O) → on.on_memory u (run_machine base p h) i k go
        ≡ on.found u (memory_number p i k) (λ n. on.found u (slice_get h.memories n) (go n))
    on_memory_is go =
        on_instance_is (λ n. on.found u (slice_get n.memories k) (λ x. on.found u (slice_get h.memories x) (go x)))
        ∙ found_then u (λ (n : Names). slice_get n.memories k) (λ n. on.found u (slice_get h.memories n) (go n))
        (slice_get p.instances i)

    pub on_table_is : (go : ℕ → Table → O) → on.on_table u (run_machine base p h) i k go
        ≡ on.found u (table_number p i k) (λ n. on.found u (slice_get h.tables n) (go n))
    on_table_is go =
        on_instance_is (λ n. on.found u (slice_get n.tables k) (λ x. on.found u (slice_get h.tables x) (go x)))
        ∙ found_then u (λ (n : Names). slice_get n.tables k) (λ n. on.found u (slice_get h.tables n) (go n))
        (slice_get p.instances i)

    pub on_global_is : (go : ℕ → Global → O) → on.on_global u (run_machine base p h) i k go
        ≡ on.found u (global_number p i k) (λ n. on.found u (slice_get h.globals n) (go n))
    on_global_is go =
        on_instance_is (λ n. on.found u (slice_get n.globals k) (λ x. on.found u (slice_get h.globals x) (go x)))
        ∙ found_then u (λ (n : Names). slice_get n.globals k) (λ n. on.found u (slice_get h.globals n) (go n))
        (slice_get p.instances i)

    -- where the instance is there
    module _ (n : Names) (is : slice_get p.instances i ≡ Some n) where
      pub on_elements_is : (go : InstanceParts → List RawRef → O) → on.on_elements u (run_machine base p h) i k go
          ≡ on.found u (elements_of h i k) (go (instance_of n (segments_at h.segments i)))
      on_elements_is go =
          on_instance_is (λ x. on.found u (slice_get x.elements k) (go x)) ∙ found_as u _ is

      pub on_data_is : (go : InstanceParts → List ℕ → O) → on.on_data u (run_machine base p h) i k go
          ≡ on.found u (data_of h i k) (go (instance_of n (segments_at h.segments i)))
      on_data_is go =
          on_instance_is (λ x. on.found u (slice_get x.datas k) (go x)) ∙ found_as u _ is

    pub on_elements_none : slice_get p.instances i ≡ None → (go : InstanceParts → List RawRef → O) →
        on.on_elements u (run_machine base p h) i k go ≡ u
    on_elements_none is go =
        on_instance_is (λ x. on.found u (slice_get x.elements k) (go x)) ∙ found_as u _ is

    pub on_data_none : slice_get p.instances i ≡ None → (go : InstanceParts → List ℕ → O) →
        on.on_data u (run_machine base p h) i k go ≡ u
    on_data_none is go =
        on_instance_is (λ x. on.found u (slice_get x.datas k) (go x)) ∙ found_as u _ is

-- the store once a segment was made empty
module _ (base : Machine) (p : ProgramParts) (h : HeldParts) (i k : ℕ) (n : Names)
    (is : slice_get p.instances i ≡ Some n)
    (there : i < length h.segments) where
  pub emptied_elements : run_machine base p (without_elements h i k)
      ≡ drop_element (run_machine base p h) i (instance_of n (segments_at h.segments i)) k
  emptied_elements =
      let s = segments_at h.segments i in
      ap (λ l. record (run_machine base p h) { instances = l })
      (sym (instance_put p.instances h.segments i n (segment_parts (set s.elements k []) s.datas) there is))

  pub emptied_data : run_machine base p (without_data h i k)
      ≡ drop_data (run_machine base p h) i (instance_of n (segments_at h.segments i)) k
  emptied_data =
      let s = segments_at h.segments i in
      ap (λ l. record (run_machine base p h) { instances = l })
      (sym (instance_put p.instances h.segments i n (segment_parts s.elements (set s.datas k [])) there is))
