-- What may be given for an import: an object of the kind that is declared, which is there and matches.
use Rattle.std.proofs.Common.{◌≡◌, ℕ, Bool, true, false, if◌then◌else◌, length, slice_get, Option, Some, None, Result, Ok, Err, ok_or, refl, sym, ap, ◌∙◌, subst}
use Rattle.std.proofs.lemmas.Option.{same_Some, none-some}
use Rattle.wasm_types.proofs.MatchingLemmas.{no}
use Rattle.wasm_types.specs.ExternTypes.{import_matches, table_fits, memory_fits}
use Rattle.wasm_types.specs.GlobalTypes.{GlobalParts}
use Rattle.wasm_types.specs.Memories.{Memory}
use Rattle.wasm_types.specs.MemoryTypes.{MemoryParts}
use Rattle.wasm_types.specs.Signatures.{Signature}
use Rattle.wasm_types.specs.TableTypes.{TableParts}
use Rattle.wasm_types.specs.declared.extern_type.ExternType.{ExternType}
use Rattle.wasm_types.specs.declared.extern_type.ExternType.TheVariants as extern
use Rattle.wasm_syntax.specs.Contexts.{as_function, as_table, as_memory, as_global, as_tag}
use Rattle.wasm_values.specs.Externals.{extern_func, extern_global, extern_table, extern_memory, extern_tag}
use Rattle.wasm_values.specs.Handles.{func_index, func_store, global_index, global_store, table_index, table_store, memory_index, memory_store, tag_index, tag_store}
use Rattle.wasm_values.specs.declared.externals.Extern.{Extern}
use Rattle.wasm_values.specs.declared.externals.Extern.TheVariants as x
use Rattle.wasm_values.specs.declared.refusals.Refusal.{Refusal}
use Rattle.wasm_values.specs.declared.refusals.Refusal.TheVariants.{WrongStore}
use Rattle.wasm_objects.specs.Globals.{Global}
use Rattle.wasm_objects.specs.Tables.{Table}
use Rattle.spec_machine.specs.GlobalCalls.{global_ty, tag_ty}
use Rattle.spec_machine.specs.Growth.{pages}
use Rattle.spec_machine.specs.Machine.{Machine}
use Rattle.spec_machine.specs.MemoryCalls.{memory_ty}
use Rattle.spec_machine.specs.Steps.{◌>>=◌}
use Rattle.spec_machine.specs.TableCalls.{table_ty}
use Rattle.spec_machine.specs.ValueCalls.{func_ty}
use Rattle.spec_machine.specs.Values.{is_id, function_type}
use Rattle.spec_machine.specs.WellFormed.{HasFunction, HasTable, HasMemory, HasGlobal, HasTag}
use Rattle.spec_execution.specs.Instantiation.{size_of, is_given_as, is_given}
use Rattle.spec_execution.specs.Operands as on
use Rattle.law_code.proofs.SpaceLemmas.{Agree}

-- an object is of the kind that is declared, is there and matches
pub record IsGivenAs (m : Machine) (declared : ExternType) (given : Extern) : Type 0 where
  pub function : Agree (as_function declared) (extern_func given) (λ t h. HasFunction m t (func_index h))
  pub table : Agree (as_table declared) (extern_table given) (λ t h. HasTable m t (table_index h))
  pub memory : Agree (as_memory declared) (extern_memory given) (λ t h. HasMemory m t (memory_index h))
  pub global : Agree (as_global declared) (extern_global given) (λ t h. HasGlobal m t (global_index h))
  pub tag : Agree (as_tag declared) (extern_tag given) (λ t h. HasTag m t (tag_index h))

-- ---- the type of a handle

-- a type that was told, and matches
given_type : {A : Type 0} (declared : ExternType) (size : ℕ) (kind : A → ExternType) (r : Result A Refusal) →
    is_given_as declared size (r >>= (λ t. Ok (kind t))) ≡ true →
    (t : A) × (r ≡ Ok t) × (import_matches declared (kind t) size ≡ true)
given_type declared size kind (Ok t) p = (t, refl, p)
given_type declared size kind (Err why) p = no p

-- a type of another kind matches never
given_no : {A : Type 0} (declared : ExternType) (size : ℕ) (kind : A → ExternType) (r : Result A Refusal) {P : Type 0} →
    ((t : A) → import_matches declared (kind t) size ≡ false) →
    is_given_as declared size (r >>= (λ t. Ok (kind t))) ≡ true → P
given_no declared size kind (Ok t) never p = no (sym (never t) ∙ p)
given_no declared size kind (Err why) never p = no p

abbrev value_in : {A : Type 0} → Result A Refusal → Option A
value_in (Ok t) = Some t
value_in (Err why) = None

-- what was found, or a part of it
found_there : {A : Type 0} (own : Bool) (o : Option A) (t : A) →
    ◌≡◌ {A = Result A Refusal} (if own then ok_or o WrongStore else Err WrongStore) (Ok t) → o ≡ Some t
found_there true (Some y) t e = ap value_in e
found_there true None t e = ap value_in e
found_there false o t e = absurd (none-some t (ap value_in e))

part_there : {A B : Type 0} (own : Bool) (o : Option B) (f : B → A) (t : A) →
    ((if own then ok_or o WrongStore else Err WrongStore) >>= (λ y. Ok (f y))) ≡ Ok t →
    (y : B) × (o ≡ Some y) × (f y ≡ t)
part_there true (Some y) f t e = (y, refl, same_Some (f y) t (ap value_in e))
part_there true None f t e = absurd (none-some t (ap value_in e))
part_there false o f t e = absurd (none-some t (ap value_in e))

-- ---- each kind

module _ (m : Machine) where
  function_given : (h : _) (t : Signature) → is_given m (extern.Func t) (x.Func h) ≡ true →
      HasFunction m t (func_index h)
  function_given h t p =
      let g : (u : Signature) × (func_ty m h ≡ Ok u) × (import_matches (extern.Func t) (extern.Func u) 0 ≡ true) =
      given_type (extern.Func t) 0 extern.Func (func_ty m h) p in
      record {
        ty = g.0;
        found = found_there (is_id (func_store h) m.id) (function_type m (func_index h)) g.0 g.1;
        fits = g.2;
      }

  tag_given : (h : _) (t : Signature) → is_given m (extern.Tag t) (x.Tag h) ≡ true → HasTag m t (tag_index h)
  tag_given h t p =
      let g : (u : Signature) × (tag_ty m h ≡ Ok u) × (import_matches (extern.Tag t) (extern.Tag u) 0 ≡ true) =
      given_type (extern.Tag t) 0 extern.Tag (tag_ty m h) p in
      record {
        ty = g.0;
        found = found_there (is_id (tag_store h) m.id) (slice_get m.tags (tag_index h)) g.0 g.1;
        fits = g.2;
      }

  global_given : (h : _) (t : GlobalParts) → is_given m (extern.Global t) (x.Global h) ≡ true →
      HasGlobal m t (global_index h)
  global_given h t p =
      let g : (u : GlobalParts) × (global_ty m h ≡ Ok u) × (import_matches (extern.Global t) (extern.Global u) 0 ≡ true) =
      given_type (extern.Global t) 0 extern.Global (global_ty m h) p in
      let y : (y : Global) × (slice_get m.globals (global_index h) ≡ Some y) × (y.ty ≡ g.0) =
      part_there (is_id (global_store h) m.id) (slice_get m.globals (global_index h)) (λ (y : Global). y.ty) g.0 g.1 in
      record {
        global = y.0;
        found = y.1;
        fits = subst (λ u. import_matches (extern.Global t) (extern.Global u) 0 ≡ true) (sym y.2) g.2;
      }

  table_given : (h : _) (t : TableParts) → is_given m (extern.Table t) (x.Table h) ≡ true →
      HasTable m t (table_index h)
  table_given h t p =
      let size : ℕ = size_of m (x.Table h) in
      let g : (u : TableParts) × (table_ty m h ≡ Ok u) × (import_matches (extern.Table t) (extern.Table u) size ≡ true) =
      given_type (extern.Table t) size extern.Table (table_ty m h) p in
      let y : (y : Table) × (slice_get m.tables (table_index h) ≡ Some y) × (y.ty ≡ g.0) =
      part_there (is_id (table_store h) m.id) (slice_get m.tables (table_index h)) (λ (y : Table). y.ty) g.0 g.1 in
      record {
        table = y.0;
        found = y.1;
        fits =
            subst (λ n. table_fits t y.0.ty n ≡ true)
            (ap (λ o. on.found 0 o (λ (z : Table). length z.elements)) y.1)
            (subst (λ u. table_fits t u size ≡ true) (sym y.2) g.2);
      }

  memory_given : (h : _) (t : MemoryParts) → is_given m (extern.Memory t) (x.Memory h) ≡ true →
      HasMemory m t (memory_index h)
  memory_given h t p =
      let size : ℕ = size_of m (x.Memory h) in
      let g : (u : MemoryParts) × (memory_ty m h ≡ Ok u) × (import_matches (extern.Memory t) (extern.Memory u) size ≡ true) =
      given_type (extern.Memory t) size extern.Memory (memory_ty m h) p in
      let y : (y : Memory) × (slice_get m.memories (memory_index h) ≡ Some y) × (y.ty ≡ g.0) =
      part_there (is_id (memory_store h) m.id) (slice_get m.memories (memory_index h)) (λ (y : Memory). y.ty) g.0 g.1 in
      record {
        memory = y.0;
        found = y.1;
        fits =
            subst (λ n. memory_fits t y.0.ty n ≡ true) (ap (λ o. on.found 0 o pages) y.1)
            (subst (λ u. memory_fits t u size ≡ true) (sym y.2) g.2);
      }

  pub given_good : (declared : ExternType) (given : Extern) → is_given m declared given ≡ true →
      IsGivenAs m declared given
  given_good (extern.Func t) (x.Func h) p =
      record { function = function_given h t p; table = tt; memory = tt; global = tt; tag = tt }
  given_good (extern.Global t) (x.Global h) p =
      record { function = tt; table = tt; memory = tt; global = global_given h t p; tag = tt }
  given_good (extern.Table t) (x.Table h) p =
      record { function = tt; table = table_given h t p; memory = tt; global = tt; tag = tt }
  given_good (extern.Memory t) (x.Memory h) p =
      record { function = tt; table = tt; memory = memory_given h t p; global = tt; tag = tt }
  given_good (extern.Tag t) (x.Tag h) p =
      record { function = tt; table = tt; memory = tt; global = tt; tag = tag_given h t p }
  given_good (extern.Func t) (x.Global h) p = given_no (extern.Func t) 0 extern.Global (global_ty m h) (λ u. refl) p
  given_good (extern.Func t) (x.Table h) p =
      given_no (extern.Func t) (size_of m (x.Table h)) extern.Table (table_ty m h) (λ u. refl) p
  given_good (extern.Func t) (x.Memory h) p =
      given_no (extern.Func t) (size_of m (x.Memory h)) extern.Memory (memory_ty m h) (λ u. refl) p
  given_good (extern.Func t) (x.Tag h) p = given_no (extern.Func t) 0 extern.Tag (tag_ty m h) (λ u. refl) p
  given_good (extern.Global t) (x.Func h) p = given_no (extern.Global t) 0 extern.Func (func_ty m h) (λ u. refl) p
  given_good (extern.Global t) (x.Table h) p =
      given_no (extern.Global t) (size_of m (x.Table h)) extern.Table (table_ty m h) (λ u. refl) p
  given_good (extern.Global t) (x.Memory h) p =
      given_no (extern.Global t) (size_of m (x.Memory h)) extern.Memory (memory_ty m h) (λ u. refl) p
  given_good (extern.Global t) (x.Tag h) p = given_no (extern.Global t) 0 extern.Tag (tag_ty m h) (λ u. refl) p
  given_good (extern.Table t) (x.Func h) p = given_no (extern.Table t) 0 extern.Func (func_ty m h) (λ u. refl) p
  given_good (extern.Table t) (x.Global h) p = given_no (extern.Table t) 0 extern.Global (global_ty m h) (λ u. refl) p
  given_good (extern.Table t) (x.Memory h) p =
      given_no (extern.Table t) (size_of m (x.Memory h)) extern.Memory (memory_ty m h) (λ u. refl) p
  given_good (extern.Table t) (x.Tag h) p = given_no (extern.Table t) 0 extern.Tag (tag_ty m h) (λ u. refl) p
  given_good (extern.Memory t) (x.Func h) p = given_no (extern.Memory t) 0 extern.Func (func_ty m h) (λ u. refl) p
  given_good (extern.Memory t) (x.Global h) p = given_no (extern.Memory t) 0 extern.Global (global_ty m h) (λ u. refl) p
  given_good (extern.Memory t) (x.Table h) p =
      given_no (extern.Memory t) (size_of m (x.Table h)) extern.Table (table_ty m h) (λ u. refl) p
  given_good (extern.Memory t) (x.Tag h) p = given_no (extern.Memory t) 0 extern.Tag (tag_ty m h) (λ u. refl) p
  given_good (extern.Tag t) (x.Func h) p = given_no (extern.Tag t) 0 extern.Func (func_ty m h) (λ u. refl) p
  given_good (extern.Tag t) (x.Global h) p = given_no (extern.Tag t) 0 extern.Global (global_ty m h) (λ u. refl) p
  given_good (extern.Tag t) (x.Table h) p =
      given_no (extern.Tag t) (size_of m (x.Table h)) extern.Table (table_ty m h) (λ u. refl) p
  given_good (extern.Tag t) (x.Memory h) p =
      given_no (extern.Tag t) (size_of m (x.Memory h)) extern.Memory (memory_ty m h) (λ u. refl) p
