-- What a step sees of a store is told by the store's id, its engine, what a run reads, and what it changes.
use Rattle.std.proofs.Common.{◌≡◌, ℕ, List, [], ◌∷◌, Option, Some, None, map, refl, ap, sym, ◌∙◌}
use Rattle.std.specs.Prelude.{option_map, slice_get, Ok, Err, if◌then◌else◌}
use Rattle.wasm_syntax.specs.declared.declarations.ExportDecl.{ExportDecl}
use Rattle.wasm_syntax.specs.declared.entities.EntityIndex.{EntityIndex}
use Rattle.wasm_syntax.specs.declared.entities.EntityIndex.TheVariants as entity
use Rattle.wasm_meter.specs.Fuel.{fuel_left}
use Rattle.wasm_values.specs.Handles.{func_of, global_of, table_of, memory_of, tag_of}
use Rattle.wasm_values.specs.declared.externals.Extern.TheVariants as x
use Rattle.wasm_values.specs.declared.refusals.Refusal.TheVariants.{FuelNotConfigured}
use Rattle.wasm_values.specs.declared.store_id.StoreId.{StoreId}
use Rattle.spec_machine.specs.InstanceCalls.{object}
use Rattle.spec_machine.specs.Machine.{Machine, EngineParts, InstanceParts, new_machine}
use Rattle.spec_execution.specs.Activations.{Activation, exported, seen_caller, caller_of, view}
use Rattle.spec_execution.specs.Askings.{View, Caller, Exported}
use Rattle.store_state.specs.Engines.{engine_parts}
use Rattle.store_state.specs.Machine.{run_machine}
use Rattle.store_state.specs.Parts.{ProgramParts, HeldParts}
use Rattle.wasm_host.specs.Callers.{looks}
use Rattle.wasm_host.specs.StoreViews.{store_of, IsSeen}
use Rattle.wasm_host.specs.declared.store_view.StoreView.{StoreView}

-- ---- two stores of one id

module _ (m k : Machine) (same : m.id ≡ k.id) where
  object_alike : (i : InstanceParts) (e : EntityIndex) → object m i e ≡ object k i e
  object_alike i (entity.Func n) =
      ap (λ (id : StoreId). option_map (λ j. x.Func (func_of id j)) (slice_get i.functions n)) same
  object_alike i (entity.Global n) =
      ap (λ (id : StoreId). option_map (λ j. x.Global (global_of id j)) (slice_get i.globals n)) same
  object_alike i (entity.Table n) =
      ap (λ (id : StoreId). option_map (λ j. x.Table (table_of id j)) (slice_get i.tables n)) same
  object_alike i (entity.Memory n) =
      ap (λ (id : StoreId). option_map (λ j. x.Memory (memory_of id j)) (slice_get i.memories n)) same
  object_alike i (entity.Tag n) =
      ap (λ (id : StoreId). option_map (λ j. x.Tag (tag_of id j)) (slice_get i.tags n)) same

  exports_alike : (i : InstanceParts) (es : List ExportDecl) → map (exported m i) es ≡ map (exported k i) es
  exports_alike i [] = refl
  exports_alike i (e ∷ more) =
      ap (λ o. record { name = e.name; entity = e.entity; object = o } ∷ map (exported m i) more) (object_alike i e.entity)
      ∙ ap (λ (l : List Exported). exported k i e ∷ l) (exports_alike i more)

  caller_alike : (i : InstanceParts) → seen_caller m i ≡ seen_caller k i
  caller_alike i = ap (λ l. record { number = i.decl.number; exports = l }) (exports_alike i i.decl.exports)

  shown_alike : (o : Option InstanceParts) → option_map (seen_caller m) o ≡ option_map (seen_caller k) o
  shown_alike None = refl
  shown_alike (Some i) = ap Some (caller_alike i)

-- ---- of one program, and one that holds the same

module _ (m k : Machine) (p : ProgramParts) (h : HeldParts) (same : m.id ≡ k.id) (engine : m.engine ≡ k.engine) where
  caller_same : (c : Option ℕ) → caller_of (run_machine m p h) c ≡ caller_of (run_machine k p h) c
  caller_same None = refl
  caller_same (Some n) =
      shown_alike (run_machine m p h) (run_machine k p h) same (slice_get (run_machine k p h).instances n)

  abbrev seen_with : Activation → Option Caller → EngineParts → View
  seen_with a c e = record {
    arguments = a.arguments;
    stored = a.stored;
    replies = a.replies;
    caller = c;
    engine = e;
    fuel = if e.consumes_fuel then Ok (fuel_left h.fuel) else Err FuelNotConfigured;
  }

  pub view_alike : (a : Activation) → view (run_machine m p h) a ≡ view (run_machine k p h) a
  view_alike a =
      ap (λ (c : Option Caller). seen_with a c m.engine) (caller_same a.caller)
      ∙ ap (seen_with a (caller_of (run_machine k p h) a.caller)) engine

-- what a step sees is the view of the definitions, in each store whose id and engine are seen
pub seen_is : (v : StoreView) (base : Machine) → IsSeen v base → (a : Activation) →
    looks (store_of v) a.arguments a.stored a.replies a.caller
    ≡ view (run_machine base v.program.now v.held.now) a
seen_is v base seen a =
    sym (view_alike base (new_machine v.id (engine_parts v.engine.now)) v.program.now v.held.now seen.id_is
    seen.engine_is a)
