-- What is found in a store of the program: its functions, their types, and tables.
use Rattle.std.proofs.Common.{◌≡◌, ℕ, List, Option, Some, None, refl, sym, ap, ◌∙◌, arith, false}
use Rattle.std.specs.Prelude.{nat_eq, slice_get, option_map, option_and_then}
use Rattle.std.proofs.lemmas.Bool.Decides.{nat_tests}
use Rattle.wasm_types.specs.FunctionParts.{results}
use Rattle.spec_machine.specs.Machine.{Machine, Function, guest, host, InstanceParts}
use Rattle.spec_machine.specs.Values.{function_type, type_of_function, defined_type}
use Rattle.store_state.specs.Parts.{Names, ProgramParts, HeldParts}
use Rattle.store_state.specs.Machine.{type_in, callee_type, type_by, type_named}
use Rattle.code_leaps.specs.Calling.{names_of, IsOf, IsThere}
use Rattle.code_leaps.specs.declared.calls.Callee.{Callee}
use Rattle.code_leaps.proofs.Callees.{IsGuestTo}
use Rattle.wasm_objects.specs.Tables.{Table}
use Rattle.spec_execution.specs.Operands as on
use Rattle.code_leaps.specs.Choosing.{table_in}

module _ (program : ProgramParts) (frames : ℕ) (m : Machine) (h : IsOf program frames m) where
  instance_found : (k : ℕ) (own : Names) → slice_get program.instances k ≡ Some own →
      (parts : InstanceParts) × (slice_get m.instances k ≡ Some parts) × (names_of parts ≡ own)
  instance_found k own e = by_cases (slice_get m.instances k) refl (h.instances k ∙ e)
    where
      by_cases : (o : Option InstanceParts) → slice_get m.instances k ≡ o → option_map names_of o ≡ Some own →
          (parts : InstanceParts) × (slice_get m.instances k ≡ Some parts) × (names_of parts ≡ own)
      by_cases None e x = absurd (cc x)
      by_cases (Some parts) e x = (parts, e, cc x)

  pub function_is : (n : ℕ) (f : Function) → slice_get program.functions n ≡ Some f → slice_get m.functions n ≡ Some f
  function_is n f e = ap (λ fs. slice_get fs n) h.functions ∙ e

  pub typed_alike : (number : ℕ) (o : Option InstanceParts) →
      option_and_then (λ i. defined_type i number) o ≡ option_and_then (λ n. type_in n number) (option_map names_of o)
  typed_alike number None = refl
  typed_alike number (Some i) = refl

  pub guest_type : (n instance number : ℕ) → slice_get program.functions n ≡ Some (guest instance number) →
      function_type m n ≡ callee_type program instance number
  guest_type n instance number e =
      ap (λ o. option_and_then (type_of_function m) o) (function_is n (guest instance number) e)
      ∙ typed_alike number (slice_get m.instances instance)
      ∙ ap (λ o. option_and_then (λ n. type_in n number) o) (h.instances instance)

  there_type : (instance number : ℕ) (c : Callee) → IsThere program instance number c →
      callee_type program instance number ≡ Some c.ty.now
  there_type instance number c x =
      ap (λ o. option_and_then (λ n. type_in n number) o) x.found
      ∙ ap (λ o. option_and_then (λ f. slice_get x.own.decl.types f.ty) o) x.function
      ∙ x.ty

  pub typed : (n instance number : ℕ) (c : Callee) → slice_get program.functions n ≡ Some (guest instance number) →
      IsThere program instance number c →
      function_type m n ≡ Some c.ty.now
  typed n instance number c e x = guest_type n instance number e ∙ there_type instance number c x

  pub guest_is : (n instance number : ℕ) (c : Callee) (results depth : ℕ) →
      slice_get program.functions n ≡ Some (guest instance number) → IsThere program instance number c →
      IsGuestTo m n (record {
        instance = instance;
        «module» = c.«module»;
        function = c.function;
        results = results;
        depth =
            depth;
      }) c.ty.now
  guest_is n instance number c results depth e x =
      let i = instance_found instance x.own x.found in
      record {
        number = number;
        parts = i.0;
        found_function = function_is n (guest instance number) e;
        found_instance = i.1;
        found_decl = ap (λ (o : Names). slice_get o.decl.functions number) i.2 ∙ x.function;
        found_type = ap (λ (o : Names). slice_get o.decl.types c.function.now.ty) i.2 ∙ x.ty;
        decl = x.decl ∙ sym (ap (λ (o : Names). o.decl) i.2);
      }

  pub shallow : (depth : ℕ) → (depth ≡ frames → ⊥) → nat_eq depth m.engine.frames ≡ false
  shallow depth other = ap (λ k. nat_eq depth k) h.frames_are ∙ unequal depth frames other
    where
      unequal : (n m : ℕ) → (n ≡ m → ⊥) → nat_eq n m ≡ false
      unequal n m other = grind (arith, nat_tests)

-- ---- the type of a function of the store

module _ (program : ProgramParts) (frames : ℕ) (m : Machine) (h : IsOf program frames m) where
  pub typed_by : (f : Function) → type_of_function m f ≡ type_by program f
  typed_by (guest instance number) =
      typed_alike program frames m h number (slice_get m.instances instance)
      ∙ ap (λ o. option_and_then (λ n. type_in n number) o) (h.instances instance)
  typed_by (host ty body stored) = refl

  typed_each : (o : Option Function) → option_and_then (type_of_function m) o ≡ option_and_then (type_by program) o
  typed_each None = refl
  typed_each (Some f) = typed_by f

  pub typed_is : (n : ℕ) → function_type m n ≡ type_named program n
  typed_is n =
      ap (λ fs. option_and_then (type_of_function m) (slice_get fs n)) h.functions
      ∙ typed_each (slice_get program.functions n)

-- ---- the table

module _ {O : Type 0} (program : ProgramParts) (held : HeldParts) (m : Machine) (instance k : ℕ) (u : O)
    (go : Table → O) where
  by_number : (p : Option ℕ) → on.found u p (λ n. on.found u (slice_get held.tables n) go) ≡ on.found u
      (option_and_then (λ n. slice_get held.tables n) p) go
  by_number None = refl
  by_number (Some n) = refl

  by_names : (o : Option InstanceParts) →
      on.found u o (λ i. on.found u (slice_get i.tables k) (λ n. on.found u (slice_get held.tables n) go))
      ≡ on.found u (option_and_then (λ n. slice_get held.tables n)
      (option_and_then (λ (x : Names). slice_get x.tables k) (option_map names_of o))) go
  by_names None = refl
  by_names (Some i) = by_number (slice_get i.tables k)

  -- in a store with these names and these tables
  pub found_table : ((j : ℕ) → option_map names_of (slice_get m.instances j) ≡ slice_get program.instances j) →
      m.tables ≡ held.tables →
      on.on_table u m instance k (λ n x. go x) ≡ on.found u (table_in program held instance k) go
  found_table named tabled =
      ap (λ (ts : List Table). on.found u (slice_get m.instances instance)
      (λ i. on.found u (slice_get i.tables k) (λ n. on.found u (slice_get ts n) go))) tabled
      ∙ by_names (slice_get m.instances instance)
      ∙ ap (λ o. on.found u (option_and_then (λ n. slice_get held.tables n)
      (option_and_then (λ (x : Names). slice_get x.tables k) o)) go) (named instance)
