-- The functions and the globals of a new instance. They name each other, and the instance, so all are looked at in the
-- store that has them all.
use Rattle.std.proofs.Common.{◌≡◌, ℕ, ◌+◌, ◌<◌, Bool, true, false, not, List, [], ◌∷◌, length, map, drop, slice_get, Some, option_map, option_and_then, refl, sym, ap, ◌∙◌, subst, arith, zero-add}
use Rattle.std.proofs.lemmas.List.{map-append}
use Rattle.std.proofs.lemmas.Option.{same_Some, slice_get-map, slice_get_within}
use Rattle.wasm_types.proofs.MatchingLemmas.{matches_reflexive}
use Rattle.wasm_types.specs.Each.{Each}
use Rattle.wasm_types.specs.FunctionParts.{val_is_of}
use Rattle.wasm_types.specs.Memories.{new_memory}
use Rattle.wasm_types.specs.Signatures.{Signature}
use Rattle.wasm_syntax.specs.Constants as constants
use Rattle.wasm_syntax.specs.Contexts.{as_function, as_global, imported, functions, globals}
use Rattle.wasm_syntax.specs.Modules.{IsModule}
use Rattle.wasm_syntax.specs.declared.declarations.FuncDecl.{FuncDecl}
use Rattle.wasm_syntax.specs.declared.declarations.GlobalDecl.{GlobalDecl}
use Rattle.wasm_syntax.specs.declared.declarations.ImportDecl.{ImportDecl}
use Rattle.wasm_syntax.specs.declared.declarations.ModuleDecl.{ModuleDecl}
use Rattle.wasm_syntax.specs.declared.module_fault.Rule.TheVariants as rule
use Rattle.wasm_values.specs.Externals.{extern_func, extern_global}
use Rattle.wasm_values.specs.Handles.{func_index, global_index}
use Rattle.wasm_values.specs.declared.externals.Extern.{Extern}
use Rattle.wasm_objects.specs.Globals.{global}
use Rattle.wasm_objects.specs.declared.raw.RawVal.{RawVal}
use Rattle.spec_machine.specs.Machine.{Machine, guest, InstanceParts}
use Rattle.spec_machine.specs.Values.{defined_type, type_of_function, function_type}
use Rattle.spec_machine.specs.WellFormed.{IsGlobal, IsFunction, HasFunction, HasGlobal, Has, IsWellFormed}
use Rattle.spec_execution.specs.Allocation.{from, imported_numbers, function_numbers, global_numbers, imported_values, global_values, new_tables, new_globals, new_tags, new_functions, new_instance, allocated}
use Rattle.law_store.specs.Later.{IsSame, IsLaterMemory, IsLaterTable, IsLaterGlobal, IsLaterInstance, Extends}
use Rattle.law_store.proofs.LaterStoreLemmas.{same_is_same, memory_own, table_own, global_own, instance_own}
use Rattle.law_store.proofs.Lists.{later_append}
use Rattle.law_code.specs.Typed.{HaveTypes}
use Rattle.law_code.proofs.ConstantLemmas.{IsNamed, contents, types, values_have, imported_have}
use Rattle.law_code.proofs.Functions.{not_false}
use Rattle.law_code.proofs.GivenLemmas.{IsGivenAs}
use Rattle.law_code.proofs.ImportLemmas.{AreGiven, given_later}
use Rattle.law_code.proofs.IndexLemmas.{Mapped, map-at}
use Rattle.law_code.proofs.NewObjectLemmas.{global_own_fits, globals_made, global_at}
use Rattle.law_code.proofs.SpaceLemmas.{has_append, has_map, has_by, has_from, has_imported, from_at, from_is, at_end, behind_at}
use Rattle.law_code.proofs.TypedValues.{have_later, have_length, have_rest}

module _ (m : Machine) (s : IsWellFormed m) (d : ModuleDecl) (is : IsModule d) (imports : List Extern)
    (given : AreGiven m d imports) where
  abbrev after : Machine
  after = allocated m d imports

  abbrev instance : InstanceParts
  instance = new_instance m d imports

  -- the number of the instance, and of its functions
  abbrev number : ℕ
  number = length m.instances

  abbrev fs : List ℕ
  fs = function_numbers m d imports

  pub extends : Extends m after
  extends = record {
    id = refl;
    engine = refl;
    memories = later_append IsLaterMemory m.memories (map new_memory d.memories) memory_own;
    tables = later_append IsLaterTable m.tables (new_tables m d imports) table_own;
    globals = later_append IsLaterGlobal m.globals (new_globals m d imports) global_own;
    tags = later_append IsSame m.tags (new_tags d) same_is_same;
    functions = later_append IsSame m.functions (new_functions m d) same_is_same;
    instances = later_append IsLaterInstance m.instances (instance ∷ []) instance_own;
  }

  pub there : AreGiven after d imports
  there = given_later m after extends s d imports given

  pub instance_found : slice_get after.instances number ≡ Some instance
  instance_found = at_end m.instances instance

  pub of_engine_by : (test : ℕ → Bool) → not (test d.engine.0) ≡ false → test after.engine.number ≡ true
  of_engine_by test p = subst (λ e. test e ≡ true) given.of_engine (not_false (test d.engine.0) p)

  -- ---- functions

  pub function_found : (k n : ℕ) → n ≡ length m.functions + k → k < length d.functions →
      slice_get after.functions n ≡ Some (guest number k)
  function_found k n e h =
      behind_at m.functions (new_functions m d) n k e
      ∙ slice_get-map (guest number) (from 0 (length d.functions)) k
      ∙ ap (option_map (guest number)) (from_at 0 (length d.functions) k h)
      ∙ ap (λ j. Some (guest number j)) (zero-add k)

  function_typed : (k n : ℕ) (f : FuncDecl) (ty : Signature) → n ≡ length m.functions + k →
      slice_get d.functions k ≡ Some f → slice_get d.types f.ty ≡ Some ty → function_type after n ≡ Some ty
  function_typed k n f ty e p q =
      ap (option_and_then (type_of_function after)) (function_found k n e (slice_get_within d.functions k f p))
      ∙ ap (option_and_then (λ (i : InstanceParts). defined_type i k)) instance_found
      ∙ ap (option_and_then (λ (x : FuncDecl). slice_get d.types x.ty)) p
      ∙ q

  pub imported_functions : Has (imported as_function d) (imported_numbers extern_func func_index imports) (HasFunction after)
  imported_functions =
      has_imported (λ (i : ImportDecl). as_function i.ty) extern_func func_index (HasFunction after) d.imports imports
      given.as_many (λ k i o p q. let h : IsGivenAs after i.ty o = there.each k i o p q in h.function)

  pub functions_named : Has (functions d) fs (IsNamed after)
  functions_named =
      has_append (IsNamed after) (map Some (imported as_function d))
      (map (λ (f : FuncDecl). slice_get d.types f.ty) d.functions) (imported_numbers extern_func func_index imports)
      (from (length m.functions) (length d.functions))
      (has_map Some (IsNamed after) (imported as_function d) (imported_numbers extern_func func_index imports)
      (has_by (HasFunction after) (λ (ty : Signature) n. IsNamed after (Some ty) n) (imported as_function d)
      (imported_numbers extern_func func_index imports)
      (λ ty n h u e. subst (λ v. HasFunction after v n) (same_Some ty u e) h) imported_functions))
      (has_map (λ (f : FuncDecl). slice_get d.types f.ty) (IsNamed after) d.functions
      (from (length m.functions) (length d.functions))
      (has_from (λ (f : FuncDecl) n. IsNamed after (slice_get d.types f.ty) n) d.functions (length m.functions)
      (λ k n f e p ty q.
      record { ty = ty; found = function_typed k n f ty e p q; fits = matches_reflexive ty })))

  pub functions_made : Each (new_functions m d) (IsFunction after)
  functions_made k f p =
      let q : Mapped (guest number) (from 0 (length d.functions)) k f =
      map-at (guest number) (from 0 (length d.functions)) k f p in
      let r : (q.item ≡ 0 + k) × (k < length d.functions) = from_is 0 (length d.functions) k q.item q.found in
      subst (IsFunction after) q.is
      (record { parts = instance; found = instance_found; defined = omega (arith, r.0, r.1) })

  -- ---- globals

  imported_globals : Has (imported as_global d) (imported_numbers extern_global global_index imports) (HasGlobal m)
  imported_globals =
      has_imported (λ (i : ImportDecl). as_global i.ty) extern_global global_index (HasGlobal m) d.imports imports
      given.as_many (λ k i o p q. let h : IsGivenAs m i.ty o = given.each k i o p q in h.global)

  later_globals : Has (imported as_global d) (imported_numbers extern_global global_index imports) (HasGlobal after)
  later_globals =
      has_imported (λ (i : ImportDecl). as_global i.ty) extern_global global_index (HasGlobal after) d.imports imports
      given.as_many (λ k i o p q. let h : IsGivenAs after i.ty o = there.each k i o p q in h.global)

  pub imports_have : HaveTypes after (contents (imported as_global d)) (imported_values m imports)
  imports_have =
      have_later m after extends s.functions_are (contents (imported as_global d)) (imported_values m imports)
      (imported_have m s (imported as_global d) (imported_numbers extern_global global_index imports) imported_globals)

  pub globals_have : HaveTypes after (contents (globals d)) (global_values m d imports)
  globals_have =
      values_have after (functions d) fs functions_named (imported as_global d) d.globals (imported_values m imports)
      (λ n g p. not_false (constants.global_fits d n g) ((is.valid rule.Const).in_globals n g p)) imports_have

  -- the values of the globals that are defined
  abbrev defined : List RawVal
  defined = drop (length (imported_values m imports)) (global_values m d imports)

  defined_have : HaveTypes after (contents (types d.globals)) defined
  defined_have =
      subst (λ n. HaveTypes after (contents (types d.globals)) (drop n (global_values m d imports)))
      (sym (have_length after (contents (imported as_global d)) (imported_values m imports) imports_have))
      (have_rest after (contents (imported as_global d)) (contents (types d.globals)) (global_values m d imports)
      (subst (λ tys. HaveTypes after tys (global_values m d imports))
      (map-append (λ ty. ty.content) (imported as_global d) (types d.globals)) globals_have))

  pub globals_are : Each (new_globals m d imports) (IsGlobal after)
  globals_are =
      globals_made after d.globals defined defined_have
      (λ n g p. record {
        of_engine = of_engine_by (λ e. val_is_of e g.ty.content) ((is.valid rule.Engine).in_globals n g p);
        sound = is.globals_are n g p;
      })

  global_named : (k n : ℕ) (g : GlobalDecl) → n ≡ length m.globals + k → slice_get d.globals k ≡ Some g →
      HasGlobal after g.ty n
  global_named k n g e p =
      let at : (v : RawVal) × (slice_get (new_globals m d imports) k ≡ Some (global g.ty v)) =
      global_at after d.globals defined k g defined_have p in
      record {
        global = global g.ty at.0;
        found = behind_at m.globals (new_globals m d imports) n k e ∙ at.1;
        fits = global_own_fits g.ty;
      }

  pub globals_named : Has (globals d) (global_numbers m d imports) (HasGlobal after)
  globals_named =
      has_append (HasGlobal after) (imported as_global d) (types d.globals)
      (imported_numbers extern_global global_index imports) (from (length m.globals) (length d.globals)) later_globals
      (has_map (λ (g : GlobalDecl). g.ty) (HasGlobal after) d.globals (from (length m.globals) (length d.globals))
      (has_from (λ (g : GlobalDecl) n. HasGlobal after g.ty n) d.globals (length m.globals)
      (λ k n g e p. global_named k n g e p)))
