-- A run on the objects of a store: wherever it may stop the store is well formed, and what is outside of it is that of the
-- run. Of the store only the host data changed behind it.
use Rattle.std.proofs.Common.{◌≡◌, ℕ, List, Option, refl, ap, sym, ◌∙◌, subst}
use Rattle.wasm_types.specs.declared.value_types.ValType.{ValType}
use Rattle.wasm_objects.specs.declared.raw.RawVal.{RawVal}
use Rattle.spec_machine.specs.Machine.{Machine}
use Rattle.spec_machine.specs.WellFormed.{IsWellFormed}
use Rattle.spec_execution.specs.Askings.{Outside, Relations}
use Rattle.store_state.specs.Engines.{engine_parts}
use Rattle.code_hosts.specs.Conditions.{IsFormed, StaysFormed}
use Rattle.code_hosts.specs.Entering.{calling}
use Rattle.code_hosts.specs.declared.bounds.Bounds.{Bounds}
use Rattle.store_objects.specs.Machines.{emptied}
use Rattle.store_objects.specs.declared.objects.ObjectParts.{ObjectParts}
use Rattle.wasm_store.specs.Stores.{StoreParts, store_parts}
use Rattle.wasm_call.specs.Asking.{KeepsStore}
use Rattle.wasm_call.specs.Invoking.{machine_in, bounds_in, setting_in, IsSafe}
use Rattle.wasm_call.specs.Operating.{Fits}
use Rattle.wasm_call.specs.Outside.{typed}
use Rattle.wasm_call.proofs.HeardLemmas.{heard_typed}
use Rattle.wasm_call.proofs.RunEndLemmas.{with_held, base_in, base_is, put_is, ends_well}

-- a store without its objects, and with them again
abbrev pub bare : {T : Type 0} → StoreParts T → StoreParts T
bare s = record s { machine = emptied s.machine }

pub put_back : {T : Type 0} (old mid new : StoreParts T) (own : Machine) → KeepsStore (bare old) mid →
    new ≡ record mid { machine = own } → own ≡ old.machine → KeepsStore old new
put_back {T} old mid new own keeps put is =
    put
    ∙ ap (λ (k : ℕ). store_parts own k mid.host_data) (ap (λ (x : StoreParts T). x.turns) keeps)
    ∙ ap (λ (m : Machine). store_parts m old.turns mid.host_data) is
    ∙ ap (store_parts old.machine old.turns) (sym (ap (λ (x : StoreParts T). x.host_data) put))

module _ (p : ObjectParts) (turns : ℕ) where
  abbrev bounds : Bounds
  bounds = bounds_in p.engine p.flags turns

  pub stays_well : {T H E : Type 0} (r : Relations T H E) (n : ℕ) (args : List RawVal) (caller : Option ℕ)
      (types : List ValType) → IsSafe (machine_in p) n args caller types turns → (o : Outside T H E) →
      StaysFormed (typed r) o (setting_in p turns) (calling n args caller) p.held turns
      (IsFormed p.program bounds p.id (engine_parts p.engine))
  stays_well r n args caller types safe o = λ spent xs h o' within c l base b.
      subst IsWellFormed (sym (put_is p turns base b h))
      (ends_well (machine_in p) n args caller types turns safe spent within xs (heard_typed r o o' xs c)
      (machine_in (with_held p h)) (λ before rest. l.by (base_in p) (base_is p turns) before rest))

  pub bare_fits : (m : Machine) → p.id ≡ m.id → engine_parts p.engine ≡ m.engine → p.flags.limited ≡ m.is_limited →
      p.flags.hooked ≡ m.is_hooked → p.flags.behaving ≡ m.is_behaving →
      Fits (emptied m) bounds p.id (engine_parts p.engine)
  bare_fits m id engine limiter hook behaviour = record {
    id_is = sym id;
    engine_is = sym engine;
    limited_is = sym limiter;
    hooked_is = sym hook;
    behaving_is = sym behaviour;
    frames_are = refl;
    fuel_is = refl;
    epochs_are = refl;
    empty = refl;
  }
