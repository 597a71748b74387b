-- The host's calls that are on no memory or table keep to the members, where all that they are given is a member, and do the
-- same in another store: globals, tags, exports, functions, fuel, calls.
use Rattle.std.proofs.Common.{◌≡◌, ℕ, Bool, List, [], ◌∷◌, length, Option, Some, None, refl, sym, ap, ◌∙◌, subst, arith}
use Rattle.std.specs.Prelude.{option_and_then, flat_map, nat_eq, slice_get, option_map, Result, pos}
use Rattle.std.specs.Option.{ok_or}
use Rattle.wasm_types.specs.Each.{Each}
use Rattle.wasm_types.specs.FunctionParts.{params, results, val_is_of}
use Rattle.wasm_types.specs.GlobalTypes.{GlobalParts}
use Rattle.wasm_types.specs.Signatures.{Signature, is_of}
use Rattle.wasm_syntax.specs.declared.declarations.ExportDecl.{ExportDecl}
use Rattle.wasm_syntax.specs.declared.entities.EntityIndex.{EntityIndex}
use Rattle.wasm_syntax.specs.declared.entities.EntityIndex.TheVariants as entity
use Rattle.wasm_meter.specs.Deadlines.{deadline_at}
use Rattle.wasm_meter.specs.Fuel.{fuel_left}
use Rattle.wasm_values.specs.Handles.{func_of, global_of, global_index, table_of, memory_of, tag_of, instance_index}
use Rattle.wasm_values.specs.declared.externals.Extern.{Extern}
use Rattle.wasm_values.specs.declared.externals.Extern.TheVariants as x
use Rattle.wasm_values.specs.declared.handles.Func.{Func}
use Rattle.wasm_values.specs.declared.handles.Global.{Global as GlobalHandle}
use Rattle.wasm_values.specs.declared.handles.Instance.{Instance}
use Rattle.wasm_values.specs.declared.refusals.Refusal.{Refusal}
use Rattle.wasm_values.specs.declared.refusals.Refusal.TheVariants as refusal
use Rattle.wasm_values.specs.declared.values.Val.{Val}
use Rattle.wasm_objects.specs.Globals.{global as global_with}
use Rattle.spec_machine.specs.Changes.{set_fuel}
use Rattle.spec_machine.specs.Commands.{one_value}
use Rattle.spec_machine.specs.FuelCalls.{get_fuel, fill_fuel, yield_interval, is_interval, move_deadline}
use Rattle.spec_machine.specs.FunctionCalls.{called, is_count}
use Rattle.spec_machine.specs.GlobalCalls.{global_new, global_get, global_set, is_variable, tag_new}
use Rattle.spec_machine.specs.InstanceCalls.{object, export_named, exported_object, get_export}
use Rattle.spec_machine.specs.Machine.{EngineParts, Machine, host, InstanceParts}
use Rattle.spec_machine.specs.ValueCalls.{func_new}
use Rattle.spec_machine.specs.Values.{val_at, raw_val}
use Rattle.spec_machine.specs.declared.reply.Reply.{Reply}
use Rattle.spec_machine.specs.declared.reply.Reply.TheVariants as reply
use Rattle.law_store.proofs.Lists.{each_one}
use Rattle.spec_execution.specs.Activations.{exported}
use Rattle.spec_reach.specs.Nodes.{Node, func, memory, table, global}
use Rattle.spec_reach.specs.Reach.{in_object, where_there}
use Rattle.spec_reach.specs.Roots.{in_instance, in_val}
use Rattle.law_confined.specs.Members.{NamesMembers, IsIn}
use Rattle.law_confined.proofs.AllMembers.{AllIn, all_none, all_in, all_flat, each_in, in_own}
use Rattle.law_confined.proofs.HeldValues.{val_held, vals_held, val_in}
use Rattle.law_confined.proofs.MemberChanges as changed
use Rattle.law_confined.proofs.NewMembers.{HoldsNew, SeesNew}
use Rattle.law_confined.proofs.NewMembers as new
use Rattle.law_confined.proofs.CountMembers.{all_owned}
use Rattle.law_confined.proofs.RowMembers.{StoreIn, MadeIn, IsCalledIn, ReplyIn, kept, made, same_handle, engine_is}
use Rattle.law_confined.proofs.StepMembers.{Gives, Comes, gives_then, comes_then, ends, test_gives, global_gives, instance_gives, function_gives, own_val, own_all, fits_is, all_fits_is}
use Rattle.law_confined.proofs.OtherStores.{Sees}

module _ (M : Node → Bool) (first : Machine) (other : Machine → Machine) (sees : Sees M first other)
    (news : SeesNew M first other) (news_in : HoldsNew M first) (m : Machine) (h : IsIn M first m) where
  abbrev Changes : Result Machine Refusal → Result Machine Refusal → Type 0
  Changes = Comes (StoreIn M first other m.id)

  abbrev Reads : {A : Type 0} → (A → Reply) → Result A Refusal → Result A Refusal → Type 0
  Reads say = Gives (λ a. ReplyIn M m.id (say a))

  abbrev Object : Extern → Type 0
  Object y = AllIn M (in_object m.id y)

  -- ---- globals and tags

  pub global_new_in :
      (ty : GlobalParts) (val : Val) → AllIn M (in_val m.id val)
      → Comes (MadeIn M first other m.id (λ y. reply.Object (x.Global y))) (global_new m ty val)
      (global_new (other m) ty val)
  global_new_in ty val k =
      comes_then _ _ _ _ _ _ (test_gives refusal.WrongStore _ _ (own_val M first other sees news m h val)) (λ u own.
      comes_then _ _ _ _ _ _
      (test_gives refusal.WrongEngine _ _ (engine_is news m h (λ n. val_is_of n ty.content))) (λ u e.
      comes_then _ _ _ _ _ _
      (test_gives refusal.TypeMismatch _ _ (fits_is M first other sees news m h val ty.content own k)) (λ u e.
      made M first other m.id (λ y. reply.Object (x.Global y)) _ _ _ _
      (new.globals_append M first news_in m h (global_with ty (raw_val val) ∷ [])
      (each_one _ (global_with ty (raw_val val)) (val_held M m val own k)))
      (news.append_globals m (global_with ty (raw_val val) ∷ []) h)
      (same_handle news m h global_of (length m.globals) _ (news.globals m h))
      (in_own M m.id m.id (global (length m.globals))
      (new.new_global M first news_in m h (length m.globals) (omega arith))))))

  pub global_get_in : (y : GlobalHandle) → Object (x.Global y) → Reads one_value (global_get m y) (global_get (other m) y)
  global_get_in y k =
      gives_then _ _ _ _ _ _ (global_gives M first other sees news m h y k) (λ z f.
      ends _ _ _ (ap (λ i. val_at i z.ty.content z.value) (news.same m h).id)
      (all_in M _ [] (val_in M m.id z.ty.content z.value (h.closed.globals (global_index y) z f.0 f.1)) (all_none M)))

  pub global_set_in :
      (y : GlobalHandle) (val : Val) → Object (x.Global y) → AllIn M (in_val m.id val)
      → Changes (global_set m y val) (global_set (other m) y val)
  global_set_in y val k l =
      comes_then _ _ _ _ _ _ (global_gives M first other sees news m h y k) (λ z f.
      comes_then _ _ _ _ _ _ (test_gives refusal.WrongStore _ _ (own_val M first other sees news m h val)) (λ u own.
      comes_then _ _ _ _ _ _ (test_gives refusal.ImmutableGlobal (is_variable z.ty.mutability) _ refl) (λ u e.
      comes_then _ _ _ _ _ _
      (test_gives refusal.TypeMismatch _ _ (fits_is M first other sees news m h val z.ty.content own l)) (λ u e.
      kept M first other m.id _ _ (changed.global_set M first m h (global_index y) _ f.0 (val_held M m val own l))
      (sees.set_global m (global_index y) _ h f.0)))))

  pub tag_new_in :
      (ty : Signature)
      → Comes (MadeIn M first other m.id (λ y. reply.Object (x.Tag y))) (tag_new m ty) (tag_new (other m) ty)
  tag_new_in ty =
      comes_then _ _ _ _ _ _ (test_gives refusal.WrongEngine _ _ (engine_is news m h (λ n. is_of n ty))) (λ u e.
      made M first other m.id (λ y. reply.Object (x.Tag y)) _ _ _ _ (new.tags_append M first m h (ty ∷ []))
      (news.append_tags m (ty ∷ []) h)
      (same_handle news m h tag_of (length m.tags) _ (ap length (news.tags m h))) (all_none M))

  -- ---- what an instance exports

  object_is : (i : InstanceParts) (e : EntityIndex) → object (other m) i e ≡ object m i e
  object_is i (entity.Func k) =
      ap (λ a. option_map (λ n. x.Func (func_of a n)) (slice_get i.functions k)) (news.same m h).id
  object_is i (entity.Global k) =
      ap (λ a. option_map (λ n. x.Global (global_of a n)) (slice_get i.globals k)) (news.same m h).id
  object_is i (entity.Table k) =
      ap (λ a. option_map (λ n. x.Table (table_of a n)) (slice_get i.tables k)) (news.same m h).id
  object_is i (entity.Memory k) =
      ap (λ a. option_map (λ n. x.Memory (memory_of a n)) (slice_get i.memories k)) (news.same m h).id
  object_is i (entity.Tag k) = ap (λ a. option_map (λ n. x.Tag (tag_of a n)) (slice_get i.tags k)) (news.same m h).id

  pub exported_is : (i : InstanceParts) (e : ExportDecl) → exported (other m) i e ≡ exported m i e
  exported_is i e =
      ap (λ (o : Option Extern). record { name = e.name; entity = e.entity; object = o }) (object_is i e.entity)

  by_place :
      (ns : List ℕ) (k : ℕ) (y : ℕ → Extern) → Each ns (λ n. Object (y n))
      → AllIn M (where_there (option_map y (slice_get ns k)) (in_object m.id))
  by_place ns k y held = one (slice_get ns k) (λ n e. held k n e)
    where
      one :
          (o : Option ℕ) → ((n : ℕ) → o ≡ Some n → Object (y n))
          → AllIn M (where_there (option_map y o) (in_object m.id))
      one None j = all_none M
      one (Some n) j = j n refl

  pub object_in :
      (i : InstanceParts) (e : EntityIndex) → NamesMembers M i → AllIn M (where_there (object m i e) (in_object m.id))
  object_in i (entity.Func k) names =
      by_place i.functions k (λ n. x.Func (func_of m.id n)) (λ j n e. in_own M m.id m.id (func n) (names.functions j n e))
  object_in i (entity.Global k) names =
      by_place i.globals k (λ n. x.Global (global_of m.id n))
      (λ j n e. in_own M m.id m.id (global n) (names.globals j n e))
  object_in i (entity.Table k) names =
      by_place i.tables k (λ n. x.Table (table_of m.id n)) (λ j n e. in_own M m.id m.id (table n) (names.tables j n e))
  object_in i (entity.Memory k) names =
      by_place i.memories k (λ n. x.Memory (memory_of m.id n))
      (λ j n e. in_own M m.id m.id (memory n) (names.memories j n e))
  object_in i (entity.Tag k) names = by_place i.tags k (λ n. x.Tag (tag_of m.id n)) (λ j n e. all_none M)

  found_gives :
      (o o' : Option Extern) → o' ≡ o → AllIn M (where_there o (in_object m.id))
      → Reads reply.Object (ok_or o refusal.NoExport) (ok_or o' refusal.NoExport)
  found_gives o o' e k =
      subst (λ z. Reads reply.Object (ok_or o refusal.NoExport) (ok_or z refusal.NoExport)) (sym e) (by o k)
    where
      by : (z : Option Extern) → AllIn M (where_there z (in_object m.id))
          → Reads reply.Object (ok_or z refusal.NoExport) (ok_or z refusal.NoExport)
      by None j = record { same = refl; says = λ a q. absurd cc }
      by (Some y) j = ends (λ a. Object a) y y refl j

  export_is : (i : InstanceParts) (o : Option ExportDecl)
      → option_and_then (λ (e : ExportDecl). object (other m) i e.entity) o
      ≡ option_and_then (λ (e : ExportDecl). object m i e.entity) o
  export_is i None = refl
  export_is i (Some e) = object_is i e.entity

  export_in : (i : InstanceParts) (o : Option ExportDecl) → NamesMembers M i
      → AllIn M (where_there (option_and_then (λ (e : ExportDecl). object m i e.entity) o) (in_object m.id))
  export_in i None names = all_none M
  export_in i (Some e) names = object_in i e.entity names

  pub get_export_in :
      (y : Instance) (name : List ℕ) → AllIn M (in_instance m.id y)
      → Reads reply.Object (get_export m y name) (get_export (other m) y name)
  get_export_in y name k =
      gives_then _ _ _ _ _ _ (instance_gives M first other sees news m h y k) (λ i f.
      found_gives (exported_object m i name) (exported_object (other m) i name)
      (export_is i (export_named name i.decl.exports))
      (export_in i (export_named name i.decl.exports) (h.closed.instances (instance_index y) i f.0 f.1)))

  -- ---- functions

  pub func_new_in :
      (ty : Signature) (body : ℕ) (stored : List Extern) → AllIn M (flat_map (in_object m.id) stored)
      → Comes (MadeIn M first other m.id (λ y. reply.Object (x.Func y))) (func_new m ty body stored)
      (func_new (other m) ty body stored)
  func_new_in ty body stored k =
      comes_then _ _ _ _ _ _ (test_gives refusal.WrongStore _ _ (all_owned M first other sees news m h stored)) (λ u own.
      comes_then _ _ _ _ _ _ (test_gives refusal.WrongEngine _ _ (engine_is news m h (λ n. is_of n ty))) (λ u e.
      made M first other m.id (λ y. reply.Object (x.Func y)) _ _ _ _
      (new.functions_append M first news_in m h (host ty body stored ∷ [])
      (each_one _ (host ty body stored) (λ n y q. each_in M _ (all_flat M (in_object m.id) stored k n y q))))
      (news.append_functions m (host ty body stored ∷ []) h)
      (same_handle news m h func_of (length m.functions) _ (ap length (news.same m h).functions))
      (in_own M m.id m.id (func (length m.functions))
      (new.new_function M first news_in m h (length m.functions) (omega arith)))))

  pub called_in :
      (f : Func) (args : List Val) (wanted : Option ℕ) → Object (x.Func f) → AllIn M (flat_map (in_val m.id) args)
      → Gives (IsCalledIn M) (called m f args wanted) (called (other m) f args wanted)
  called_in f args wanted k l =
      gives_then _ _ _ _ _ _ (function_gives M first other sees news m h f k) (λ t found.
      gives_then _ _ _ _ _ _ (test_gives refusal.WrongStore _ _ (own_all M first other sees news m h args)) (λ u own.
      gives_then _ _ _ _ _ _ (test_gives refusal.ArgumentCount (nat_eq (length args) (length (params t))) _ refl) (λ u e.
      gives_then _ _ _ _ _ _ (test_gives refusal.ResultCount (is_count wanted (length (results t))) _ refl) (λ u e.
      gives_then _ _ _ _ _ _
      (test_gives refusal.TypeMismatch _ _ (all_fits_is M first other sees news m h args (params t) own l)) (λ u e.
      ends _ _ _ refl (found.0, vals_held M m args own l))))))

  -- ---- fuel and the deadline

  consumes_is : (other m).engine.consumes_fuel ≡ m.engine.consumes_fuel
  consumes_is = ap (λ (e : EngineParts). e.consumes_fuel) (news.same m h).engine

  pub get_fuel_in : Reads reply.Number (get_fuel m) (get_fuel (other m))
  get_fuel_in =
      gives_then _ _ _ _ _ _ (test_gives refusal.FuelNotConfigured _ _ consumes_is)
      (λ u e. ends _ _ _ (ap fuel_left (news.same m h).fuel) (all_none M))

  pub fill_fuel_in : (fuel : ℕ) → Changes (fill_fuel m fuel) (fill_fuel (other m) fuel)
  fill_fuel_in fuel =
      comes_then _ _ _ _ _ _ (test_gives refusal.FuelNotConfigured _ _ consumes_is)
      (λ u e. kept M first other m.id _ _ (new.fuel_set M first m h (pos fuel)) (news.set_fuel m (pos fuel) h))

  pub yield_interval_in : (interval : Option ℕ) → Changes (yield_interval m interval) (yield_interval (other m) interval)
  yield_interval_in interval =
      comes_then _ _ _ _ _ _ (test_gives refusal.FuelNotConfigured _ _ consumes_is) (λ u e.
      comes_then _ _ _ _ _ _ (test_gives refusal.FuelInterval (is_interval interval) _ refl) (λ u e.
      kept M first other m.id _ _ (new.fuel_set M first m h (pos (fuel_left m.fuel)))
      (ap (λ f. set_fuel (other m) (pos (fuel_left f))) (news.same m h).fuel ∙ news.set_fuel m
      (pos (fuel_left m.fuel)) h)))

  pub move_deadline_is : (ticks : ℕ) → move_deadline (other m) ticks ≡ (λ reading. other (move_deadline m ticks reading))
  move_deadline_is ticks = λ i reading. news.set_deadline m (deadline_at reading ticks) h i
