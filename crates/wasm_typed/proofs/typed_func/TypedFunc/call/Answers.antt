use Rattle.std.proofs.Common.{ℕ, List, [], length, ap, ◌∙◌, sym, subst, ◌≡◌}
use Rattle.std.specs.Prelude.{Ok, Err}
use Rattle.wasm_values.specs.declared.values.Val.{Val}
use Rattle.code_hosts.specs.Asked as hosts
use Rattle.law_causes.specs.Tallies.{RefusedByCounts}
use Rattle.law_store.proofs.Objects.{keeps_objects}
use Rattle.wasm_store.specs.Stores.{StoreParts}
use Rattle.wasm_call.specs.Outside.{asked, surrounded}
use Rattle.spec_machine.specs.Commands.{Row}
use Rattle.wasm_call.specs.Calls.{Returned, ResultsFit}
use Rattle.wasm_typed.specs.TypedFunctions.{TypedFunction, typed_function, fits_types, typed_called}
use Rattle.wasm_typed.proofs.CallLemmas.{unstarted_in, comes_back, whole, not_none, due_is, row_is, from_is, failed_on, told_as, told_err, never_due, unmet_cause, room, few_of, taken_length, fits_in, as_long}
use Rattle.wasm_typed.proofs.ConfinedLemmas.{refused_confined, failed_confined, given_confined}
use lib.ListN.{take}
use Rattle.wasm_typed.proofs.typed_func.TypedFunc.call.Goals as goal

pub returns-in-Err-clause-failed : goal.returns-in-Err-clause-failed
returns-in-Err-clause-failed g c =
    unstarted_in (hosts.asked g.T.ResourceLimiter.growths g.H.HostBody.has g.K.CallHooks.hooks
    g.B.DeadlineBehaviour.behaves g.E.EpochSource.readings g.H.HostBody.steps) c.args.store.now c.args.host.now
    c.args.epochs.now c.args.self.now (g.P.WasmParams.to_vals c.args.params)
    (length g.R.WasmParams.tys) c.begin_turns.new.store c.begin_turns.ensures.begun c.in-Err.why
    (subst (λ (vals : List Val). typed_called c.args.store.now.machine c.args.self.now vals (length g.R.WasmParams.tys)
    ≡ Err c.in-Err.why) (ap (λ (n : ℕ). take n c.into_places-places.result) c.count-taken.ensures
    ∙ c.into_places-places.ensures.values) (c.in-Err.ensures.refused (length g.R.WasmParams.tys)))

pub returns-in-Err-clause-causes : goal.returns-in-Err-clause-causes
returns-in-Err-clause-causes g c =
    unmet_cause (RefusedByCounts g.T.ResourceLimiter.denials g.T.ResourceLimiter.limiter_faults g.T.HostData.hook_faults
    g.T.HostData.behaviour_faults g.E.EpochSource.epoch_faults g.H.HostBody.host_faults
    (hosts.outside_by c.args.store.now.host_data c.args.host.now c.args.epochs.now)
    (hosts.outside_by c.begin_turns.new.store.host_data c.args.host.now c.args.epochs.now) ⊥) tt tt tt tt c.in-Err.why
    c.args.store.now.machine c.args.self.now (take c.count-taken.result c.into_places-places.result) 0
    (c.in-Err.ensures.refused 0)

pub slice_bounds-room-end-2 : goal.slice_bounds-room-end-2
slice_bounds-room-end-2 g c = fits_in c.count-given.result c.call.new.results _
    (c.call.auto.results ∙ taken_length c.count-given.result room
    (few_of c.count-given.result (length g.R.WasmParams.tys) c.count-given.ensures g.R.WasmParams.few))

pub slice_bounds-from_vals-end : goal.slice_bounds-from_vals-end
slice_bounds-from_vals-end g c = as_long c.count-given.result c.call.new.results _
    (c.call.auto.results ∙ taken_length c.count-given.result room
    (few_of c.count-given.result (length g.R.WasmParams.tys) c.count-given.ensures g.R.WasmParams.few))

pub returns-in_err-call-clause-failed : goal.returns-in_err-call-clause-failed
returns-in_err-call-clause-failed g c =
    failed_on (asked g.T.ResourceLimiter.growths g.H.HostBody.has g.K.CallHooks.hooks g.B.DeadlineBehaviour.behaves
    g.E.EpochSource.readings g.H.HostBody.steps) _ _ _ _
    c.in_err-call.field-0.0 c.from_residual.result
    (row_is c.args.store.now.machine c.args.self.now (typed_function c.self.inside.func c.self.inside.ty)
    (take c.count-taken.result c.into_places-places.result) (g.P.WasmParams.to_vals c.args.params)
    (length (take c.count-given.result room)) (length g.R.WasmParams.tys) c.self.view_is
    (ap (λ (n : ℕ). take n c.into_places-places.result) c.count-taken.ensures ∙ c.into_places-places.ensures.values)
    (taken_length c.count-given.result room (few_of c.count-given.result (length g.R.WasmParams.tys) c.count-given.ensures
    g.R.WasmParams.few) ∙ c.count-given.ensures) c.in_default.ensures.kept)
    c.in_err-call.ensures.failed
    (told_as c.from_residual.result c.in_err-call.field-0.0 c.from_residual.ensures.1)

pub returns-in_err-call-clause-refused : goal.returns-in_err-call-clause-refused
returns-in_err-call-clause-refused g c =
    told_err _ _ c.in_err-call.field-0.0 c.from_residual.result
    (due_is c.args.store.now.machine c.args.self.now (typed_function c.self.inside.func c.self.inside.ty)
    (take c.count-taken.result c.into_places-places.result) (g.P.WasmParams.to_vals c.args.params)
    (length (take c.count-given.result room)) (length g.R.WasmParams.tys) c.self.view_is
    (ap (λ (n : ℕ). take n c.into_places-places.result) c.count-taken.ensures ∙ c.into_places-places.ensures.values)
    (taken_length c.count-given.result room (few_of c.count-given.result (length g.R.WasmParams.tys) c.count-given.ensures
    g.R.WasmParams.few) ∙ c.count-given.ensures) c.in_default.ensures.kept)
    c.in_err-call.ensures.refused
    (told_as c.from_residual.result c.in_err-call.field-0.0 c.from_residual.ensures.1)

pub unreachable-requires : goal.unreachable-requires
unreachable-requires g c =
    not_none (g.R.WasmResults.of_vals c.call.new.results)
    (comes_back g.R.WasmResults.of_vals g.P.WasmParams.tys g.R.WasmParams.tys g.met.R.WasmResults.each_accepted
    c.args.store.now.machine c.call.new.store.machine c.args.self.now c.call.new.results c.in_default.ensures.kept
    (subst (λ (f : TypedFunction). fits_types g.P.WasmParams.tys g.R.WasmParams.tys f.ty ≡ Ok tt) c.self.view_is
    c.self.invariant)
    (subst (λ (f : TypedFunction). ResultsFit c.args.store.now.machine f.func c.call.new.store.machine c.call.new.results)
    c.self.view_is c.in_ok-call.ensures.fit))
    (c.in-None.ensures ∙ ap g.R.WasmResults.of_vals (whole c.count-given.result c.call.new.results _
    (c.call.auto.results ∙ taken_length c.count-given.result room
    (few_of c.count-given.result (length g.R.WasmParams.tys) c.count-given.ensures g.R.WasmParams.few))))

pub returns-clause-returned : goal.returns-clause-returned
returns-clause-returned g c = record {
  vals = c.call.new.results;
  returned = subst (λ (row : Row). Returned (asked g.T.ResourceLimiter.growths g.H.HostBody.has g.K.CallHooks.hooks g.B.DeadlineBehaviour.behaves
      g.E.EpochSource.readings g.H.HostBody.steps) row
      (surrounded c.args.store.now c.args.host.now c.args.epochs.now) c.call.new.results
      (surrounded c.call.new.store c.call.new.host c.call.new.epochs))
      (row_is c.args.store.now.machine c.args.self.now (typed_function c.self.inside.func c.self.inside.ty)
      (take c.count-taken.result c.into_places-places.result) (g.P.WasmParams.to_vals c.args.params)
      (length (take c.count-given.result room)) (length g.R.WasmParams.tys) c.self.view_is
      (ap (λ (n : ℕ). take n c.into_places-places.result) c.count-taken.ensures ∙ c.into_places-places.ensures.values)
      (taken_length c.count-given.result room (few_of c.count-given.result (length g.R.WasmParams.tys) c.count-given.ensures
      g.R.WasmParams.few) ∙ c.count-given.ensures) c.in_default.ensures.kept)
      c.in_ok-call.ensures.returned;
  fit = subst (λ (f : TypedFunction). ResultsFit c.args.store.now.machine f.func c.call.new.store.machine
      c.call.new.results) c.self.view_is c.in_ok-call.ensures.fit;
  owned = c.in_ok-call.ensures.owned;
  back = sym (c.in-Some.ensures ∙ ap g.R.WasmResults.of_vals (whole c.count-given.result c.call.new.results _
      (c.call.auto.results ∙ taken_length c.count-given.result room
      (few_of c.count-given.result (length g.R.WasmParams.tys) c.count-given.ensures g.R.WasmParams.few))));
}

pub returns-clause-refused : goal.returns-clause-refused
returns-clause-refused g c =
    never_due _ _ c.in-Some.results
    (due_is c.args.store.now.machine c.args.self.now (typed_function c.self.inside.func c.self.inside.ty)
    (take c.count-taken.result c.into_places-places.result) (g.P.WasmParams.to_vals c.args.params)
    (length (take c.count-given.result room)) (length g.R.WasmParams.tys) c.self.view_is
    (ap (λ (n : ℕ). take n c.into_places-places.result) c.count-taken.ensures ∙ c.into_places-places.ensures.values)
    (taken_length c.count-given.result room (few_of c.count-given.result (length g.R.WasmParams.tys) c.count-given.ensures
    g.R.WasmParams.few) ∙ c.count-given.ensures) c.in_default.ensures.kept)
    c.in_ok-call.ensures.refused

pub returns-in-Err-clause-confined : goal.returns-in-Err-clause-confined
returns-in-Err-clause-confined g c =
    refused_confined (asked g.T.ResourceLimiter.growths g.H.HostBody.has g.K.CallHooks.hooks g.B.DeadlineBehaviour.behaves
    g.E.EpochSource.readings g.H.HostBody.steps) (surrounded c.args.store.now c.args.host.now c.args.epochs.now)
    (surrounded c.begin_turns.new.store c.args.host.now c.args.epochs.now) c.args.self.now
    (g.P.WasmParams.to_vals c.args.params) (length g.R.WasmParams.tys) g.R.WasmResults.of_vals c.in-Err.why
    (returns-in-Err-clause-failed g c) (ap (λ (s : StoreParts _). s.machine) c.begin_turns.ensures.begun) []

pub returns-in-Err-clause-kept : goal.returns-in-Err-clause-kept
returns-in-Err-clause-kept g c =
    keeps_objects c.args.store.now.machine c.begin_turns.new.store.machine
    (returns-in-Err-clause-confined g c).confined.later

pub returns-in_err-call-clause-confined : goal.returns-in_err-call-clause-confined
returns-in_err-call-clause-confined g c =
    failed_confined (asked g.T.ResourceLimiter.growths g.H.HostBody.has g.K.CallHooks.hooks g.B.DeadlineBehaviour.behaves
    g.E.EpochSource.readings g.H.HostBody.steps) (surrounded c.args.store.now c.args.host.now c.args.epochs.now)
    (surrounded c.call.new.store c.call.new.host c.call.new.epochs) c.args.self.now (g.P.WasmParams.to_vals c.args.params)
    (length g.R.WasmParams.tys) g.R.WasmResults.of_vals (typed_function c.self.inside.func c.self.inside.ty)
    (take c.count-taken.result c.into_places-places.result) c.call.new.results (length (take c.count-given.result room))
    (row_is c.args.store.now.machine c.args.self.now (typed_function c.self.inside.func c.self.inside.ty)
    (take c.count-taken.result c.into_places-places.result) (g.P.WasmParams.to_vals c.args.params)
    (length (take c.count-given.result room)) (length g.R.WasmParams.tys) c.self.view_is
    (ap (λ (n : ℕ). take n c.into_places-places.result) c.count-taken.ensures ∙ c.into_places-places.ensures.values)
    (taken_length c.count-given.result room (few_of c.count-given.result (length g.R.WasmParams.tys) c.count-given.ensures
    g.R.WasmParams.few) ∙ c.count-given.ensures) c.in_default.ensures.kept)
    (from_is c.args.store.now.machine c.args.self.now (typed_function c.self.inside.func c.self.inside.ty)
    (take c.count-taken.result c.into_places-places.result) (g.P.WasmParams.to_vals c.args.params)
    (length (take c.count-given.result room)) (length g.R.WasmParams.tys) c.self.view_is
    (ap (λ (n : ℕ). take n c.into_places-places.result) c.count-taken.ensures ∙ c.into_places-places.ensures.values)
    (taken_length c.count-given.result room (few_of c.count-given.result (length g.R.WasmParams.tys) c.count-given.ensures
    g.R.WasmParams.few) ∙ c.count-given.ensures) c.in_default.ensures.kept)
    c.in_err-call.field-0.0 c.in_err-call.ensures.confined c.from_residual.result c.from_residual.ensures.1

pub returns-clause-confined : goal.returns-clause-confined
returns-clause-confined g c =
    given_confined (asked g.T.ResourceLimiter.growths g.H.HostBody.has g.K.CallHooks.hooks g.B.DeadlineBehaviour.behaves
    g.E.EpochSource.readings g.H.HostBody.steps) (surrounded c.args.store.now c.args.host.now c.args.epochs.now)
    (surrounded c.call.new.store c.call.new.host c.call.new.epochs) c.args.self.now (g.P.WasmParams.to_vals c.args.params)
    (length g.R.WasmParams.tys) g.R.WasmResults.of_vals (typed_function c.self.inside.func c.self.inside.ty)
    (take c.count-taken.result c.into_places-places.result) c.call.new.results (length (take c.count-given.result room))
    (row_is c.args.store.now.machine c.args.self.now (typed_function c.self.inside.func c.self.inside.ty)
    (take c.count-taken.result c.into_places-places.result) (g.P.WasmParams.to_vals c.args.params)
    (length (take c.count-given.result room)) (length g.R.WasmParams.tys) c.self.view_is
    (ap (λ (n : ℕ). take n c.into_places-places.result) c.count-taken.ensures ∙ c.into_places-places.ensures.values)
    (taken_length c.count-given.result room (few_of c.count-given.result (length g.R.WasmParams.tys) c.count-given.ensures
    g.R.WasmParams.few) ∙ c.count-given.ensures) c.in_default.ensures.kept)
    (from_is c.args.store.now.machine c.args.self.now (typed_function c.self.inside.func c.self.inside.ty)
    (take c.count-taken.result c.into_places-places.result) (g.P.WasmParams.to_vals c.args.params)
    (length (take c.count-given.result room)) (length g.R.WasmParams.tys) c.self.view_is
    (ap (λ (n : ℕ). take n c.into_places-places.result) c.count-taken.ensures ∙ c.into_places-places.ensures.values)
    (taken_length c.count-given.result room (few_of c.count-given.result (length g.R.WasmParams.tys) c.count-given.ensures
    g.R.WasmParams.few) ∙ c.count-given.ensures) c.in_default.ensures.kept)
    c.in_ok-call.ensures.confined c.in-Some.results (sym (c.in-Some.ensures ∙ ap g.R.WasmResults.of_vals
    (whole c.count-given.result c.call.new.results _
    (c.call.auto.results ∙ taken_length c.count-given.result room
    (few_of c.count-given.result (length g.R.WasmParams.tys) c.count-given.ensures g.R.WasmParams.few)))))
