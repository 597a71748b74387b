-- The function that a guest exports, and arguments in which no function is out of its reach, are within its reach.
use Rattle.std.proofs.Common.{◌≡◌, ℕ, suc, Bool, true, false, List, [], ◌∷◌, map, slice_get, Option, Some, None, Result, Ok, Err, ok_or, option_map, option_and_then, if◌then◌else◌, refl, sym, ap, ◌∙◌, subst}
use Rattle.std.specs.List.{list_all}
use Rattle.std.specs.Prelude.{flat_map}
use Rattle.std.proofs.lemmas.Option.{none-some, same_Some, slice_get-map}
use Rattle.wasm_syntax.specs.declared.declarations.ExportDecl.{ExportDecl}
use Rattle.wasm_syntax.specs.declared.entities.EntityIndex.{EntityIndex}
use Rattle.wasm_syntax.specs.declared.entities.EntityIndex.TheVariants as entity
use Rattle.wasm_types.specs.Each.{Each}
use Rattle.wasm_values.specs.Externals.{extern_func}
use Rattle.wasm_values.specs.Handles.{func_of, func_store, func_index, instance_of}
use Rattle.wasm_values.specs.declared.externals.Extern.{Extern}
use Rattle.wasm_values.specs.declared.externals.Extern.TheVariants as x
use Rattle.wasm_values.specs.declared.handles.Func.{Func}
use Rattle.wasm_values.specs.declared.refusals.Refusal.{Refusal}
use Rattle.wasm_values.specs.declared.refusals.Refusal.TheVariants.{WrongStore}
use Rattle.wasm_values.specs.declared.values.Val.{Val}
use Rattle.wasm_values.specs.declared.values.Val.TheVariants as v
use Rattle.spec_machine.specs.FunctionCalls.{Called}
use Rattle.spec_machine.specs.InstanceCalls.{object, export_named, exported_object}
use Rattle.spec_machine.specs.Machine.{Machine, InstanceParts}
use Rattle.spec_machine.specs.Steps.{◌>>=◌}
use Rattle.spec_machine.specs.Values.{is_id, owns_val, raw_val}
use Rattle.spec_machine.specs.WellFormed.{IsWellFormed}
use Rattle.spec_reach.specs.Nodes.{Node as Reached, func, instance, has, is_there}
use Rattle.spec_reach.specs.Reach.{in_value, from_instance, where_there, links}
use Rattle.spec_reach.specs.Roots.{in_val, call_roots}
use Rattle.spec_reach.proofs.FilterLemmas.{has_at, has_front}
use Rattle.spec_reach.proofs.ReachLemmas.{reach_roots, reach_links}
use Rattle.law_store.proofs.RefusalLemmas.{given_is}
use Rattle.law_code.proofs.Conditions.{Tested, tested}
use Rattle.law_confined.specs.Members.{IsHeld}
use Rattle.law_confined.proofs.AllMembers.{AllIn, all_none, all_in, all_one, in_own, flat_all}
use Rattle.law_confined.proofs.ClosedSets.{there_has, value_in}
use Rattle.law_confined.proofs.HeldValues.{vals_held}
use Rattle.law_plugins.specs.Laws.{IsWithin}
use Rattle.law_plugins.specs.Meeting.{reach_of}
use Rattle.law_plugins.proofs.KeptLemmas.{one_has}
use Rattle.law_plugins.proofs.ThereLemmas.{there_at, links_there}
use Rattle.wasm_instance.specs.Exports.{export_as}
use Rattle.guest_calls.specs.Guarded.{ReachesCall}
use Rattle.wasm_plugins.specs.Guests.{is_within, first_outside}

-- ---- values of which none has a function outside of a set

module _ (m : Machine) (set : List Reached) where
  abbrev M : Reached → Bool
  M = has set

  within_val : (val : Val) → is_within set val ≡ true → AllIn M (in_val m.id val)
  within_val (v.FuncRef (Some f)) e = in_own M m.id (func_store f) (func (func_index f)) e
  within_val (v.FuncRef None) e = all_none M
  within_val (v.I32 n) e = all_none M
  within_val (v.I64 n) e = all_none M
  within_val (v.F32 n) e = all_none M
  within_val (v.F64 n) e = all_none M
  within_val (v.V128 n) e = all_none M
  within_val (v.ExternRef n) e = all_none M
  within_val (v.AnyRef n) e = all_none M

  -- the first, and what holds where it is within
  first_within : (val : Val) (vals : List Val) (place : ℕ) (next : Option ℕ) (b : Bool) → is_within set val ≡ b →
      (next ≡ None → AllIn M (flat_map (in_val m.id) vals)) →
      ◌≡◌ {A = Option ℕ} (if b then next else Some place) None → AllIn M (flat_map (in_val m.id) (val ∷ vals))
  first_within val vals place next true e rest q =
      all_in M (in_val m.id val) (flat_map (in_val m.id) vals) (within_val val e) (rest q)
  first_within val vals place next false e rest q = absurd (none-some place (sym q))

  within_vals : (place : ℕ) (vals : List Val) → first_outside set place vals ≡ None →
      AllIn M (flat_map (in_val m.id) vals)
  within_vals place [] e = all_none M
  within_vals place (val ∷ vals) e =
      first_within val vals place (first_outside set (suc place) vals) (is_within set val) refl
      (within_vals (suc place) vals) e

  -- as a store holds them
  within_raw : (vals : List Val) → list_all (owns_val m) vals ≡ true → first_outside set 0 vals ≡ None →
      AllIn M (flat_map in_value (map raw_val vals))
  within_raw vals owned e =
      let held : Each (map raw_val vals) (IsHeld M) = vals_held M m vals owned (within_vals 0 vals e) in
      flat_all M in_value (map raw_val vals) (λ n val p. value_in M val (held n val p))

-- ---- what an instance exports

no_function : (o : Option ℕ) (make : ℕ → Extern) (f : Func) → ((n : ℕ) → extern_func (make n) ≡ None) →
    option_and_then extern_func (option_map make o) ≡ Some f → ⊥
no_function None make f none e = none-some f e
no_function (Some n) make f none e = none-some f (sym (none n) ∙ e)

module _ (m : Machine) (well : IsWellFormed m) (guest : ℕ) where
  abbrev set : List Reached
  set = reach_of m guest

  abbrev IsReached : Func → Type 0
  IsReached f = has set (func (func_index f)) ≡ true

  module _ (i : InstanceParts) (p : slice_get m.instances guest ≡ Some i) where
    abbrev there : is_there m (instance guest) ≡ true
    there = there_at m.instances guest i p

    -- a function that it names
    named_reached : (k n : ℕ) → slice_get i.functions k ≡ Some n → has set (func n) ≡ true
    named_reached k n q =
        let own : has set (instance guest) ≡ true =
        reach_roots m (instance guest ∷ []) (instance guest) (one_has (instance guest))
        (there_has m (instance guest) there) in
        let listed : has (from_instance i) (func n) ≡ true =
        has_front (map func i.functions) _ (func n)
        (has_at (map func i.functions) k (func n)
        (slice_get-map func i.functions k ∙ ap (λ (o : Option ℕ). option_map func o) q)) in
        let led : has (links m (instance guest)) (func n) ≡ true =
        subst (λ (o : Option InstanceParts). has (where_there o from_instance) (func n) ≡ true) (sym p) listed in
        reach_links m (instance guest ∷ []) (instance guest) (func n) own led
        (there_has m (func n) (links_there m well (instance guest) (func n) there led))

    object_reached : (index : EntityIndex) (f : Func) → option_and_then extern_func (object m i index) ≡ Some f →
        IsReached f
    object_reached (entity.Func k) f e = by (slice_get i.functions k) refl e
      where
        by : (o : Option ℕ) → slice_get i.functions k ≡ o →
            option_and_then extern_func (option_map (λ n. x.Func (func_of m.id n)) o) ≡ Some f → IsReached f
        by None q h = absurd (none-some f h)
        by (Some n) q h = subst IsReached (same_Some (func_of m.id n) f h) (named_reached k n q)
    object_reached (entity.Global k) f e = absurd (no_function (slice_get i.globals k) _ f (λ n. refl) e)
    object_reached (entity.Table k) f e = absurd (no_function (slice_get i.tables k) _ f (λ n. refl) e)
    object_reached (entity.Memory k) f e = absurd (no_function (slice_get i.memories k) _ f (λ n. refl) e)
    object_reached (entity.Tag k) f e = absurd (no_function (slice_get i.tags k) _ f (λ n. refl) e)

    export_reached : (o : Option ExportDecl) (f : Func) →
        option_and_then extern_func (option_and_then (λ (e : ExportDecl). object m i e.entity) o) ≡ Some f → IsReached f
    export_reached None f e = absurd (none-some f e)
    export_reached (Some d) f e = object_reached d.entity f e

  -- the function that it exports under a name
  pub function_reached : (name : List ℕ) (f : Func) →
      export_as extern_func m (instance_of m.id guest) name ≡ Ok (Some f) → IsReached f
  function_reached name f e = by (is_id m.id m.id) (slice_get m.instances guest) refl e
    where
      by : (own : Bool) (o : Option InstanceParts) → slice_get m.instances guest ≡ o →
          ◌≡◌ {A = Result (Option Func) Refusal}
          ((if own then ok_or o WrongStore else Err WrongStore)
          >>= (λ i. Ok (option_and_then extern_func (exported_object m i name)))) (Ok (Some f)) → IsReached f
      by true (Some i) p h = export_reached i p (export_named name i.decl.exports) f (given_is _ (Some f) h)
      by true None p h = absurd cc
      by false o p h = absurd cc

  -- and the whole of a call of it
  pub call_reached : (name : List ℕ) (f : Func) (params : List Val) (wanted : Option ℕ) →
      export_as extern_func m (instance_of m.id guest) name ≡ Ok (Some f) → list_all (owns_val m) params ≡ true →
      first_outside set 0 params ≡ None → ReachesCall m f params wanted guest
  call_reached name f params wanted e owned none c is =
      let t : Tested m f params c = tested m f params c wanted is in
      let all : AllIn (has set) (call_roots (func_index f) (map raw_val params) None) =
      all_in (has set) (func (func_index f) ∷ []) _
      (all_one (has set) (func (func_index f)) (function_reached name f e))
      (all_in (has set) (flat_map in_value (map raw_val params)) [] (within_raw m set params owned none)
      (all_none (has set))) in
      subst (λ (d : Called). IsWithin m (call_roots d.function d.arguments None) guest) t.is all.by
