-- What is outside of a run on the objects of a store went as the definitions have it, and the loans are the same then. So
-- of a call from outside of all code.
use Rattle.std.proofs.Common.{◌≡◌, ℕ, inl, inr, List, [], ◌∷◌, refl, ap, sym, ◌∙◌, subst}
use Rattle.std.specs.Prelude.{Result, Ok, Err, IfOk, IfErr}
use Rattle.spec_machine.specs.Machine.{Machine}
use Rattle.spec_execution.specs.Askings.{Question, Growing, Having, Passing, Reading, Behaving, Stepping, Asking, Relations, Chain}
use Rattle.store_state.specs.Parts.{HeldParts}
use Rattle.code_leaps.specs.Leading.{Doing}
use Rattle.code_hosts.specs.Asked.{MayAsk, Moves}
use Rattle.code_hosts.specs.Conditions.{StaysFormed}
use Rattle.code_hosts.specs.Contexts.{moves_in, opened_in}
use Rattle.code_hosts.specs.Replies.{BreaksOff, Comes}
use Rattle.code_hosts.specs.declared.bounds.Bounds.{Bounds}
use Rattle.code_hosts.specs.declared.context.RunContext.{RunContext}
use Rattle.code_hosts.specs.declared.replies.Reply.{Reply}
use Rattle.code_hosts.specs.declared.replies.Unfinished.{Unfinished}
use Rattle.wasm_store.specs.Stores.{StoreParts}
use Rattle.wasm_call.specs.Asking.{IsSet, outside_in, Keeps, Goes, IsFit}
use Rattle.wasm_call.specs.Outside.{typed}
use Rattle.wasm_call.specs.declared.outside.Outside.{Outside as Lent}

-- what a call within these bounds may ask of is set in a store of this machine, which asks whom they say
is_set : (bounds : Bounds) (m : Machine) → m.is_hooked ≡ bounds.hooked → m.is_behaving ≡ bounds.rules.behaving →
    (q : Question) → MayAsk bounds q → IsSet m q
is_set bounds m hooked behaving (Growing g) may = tt
is_set bounds m hooked behaving (Having body) may = tt
is_set bounds m hooked behaving (Passing event) may = hooked ∙ may
is_set bounds m hooked behaving Reading may = tt
is_set bounds m hooked behaving Behaving may = behaving ∙ may.1
is_set bounds m hooked behaving (Stepping body state event view) may = tt

module _ {T K B H E : Type 0} (r : Relations T H E) (ready : H → Type 0) where
  keeps_same : (old new : Lent T K B H E) → new ≡ old → Keeps ready old new
  keeps_same old new e =
      subst (Keeps ready old) (sym e) (record {
        same_store = refl;
        same_host = refl;
        same_epochs = refl;
        same_hold = refl;
        same_program = refl;
        store_kept = refl;
        stays_ready = λ h. h;
      })

  keeps_both : (a b c : Lent T K B H E) → Keeps ready a b → Keeps ready b c → Keeps ready a c
  keeps_both a b c h k = record {
    same_store = k.same_store ∙ h.same_store;
    same_host = k.same_host ∙ h.same_host;
    same_epochs = k.same_epochs ∙ h.same_epochs;
    same_hold = k.same_hold ∙ h.same_hold;
    same_program = k.same_program ∙ h.same_program;
    store_kept = k.store_kept ∙ ap (λ (s : StoreParts T). record s { host_data = c.store.now.host_data }) h.store_kept;
    stays_ready = λ x. k.stays_ready (h.stays_ready x);
  }

  -- within these bounds, of a store of this machine, which asks whom they say
  module _ (bounds : Bounds) (m : Machine) (hooked : m.is_hooked ≡ bounds.hooked)
      (behaving : m.is_behaving ≡ bounds.rules.behaving) where
    pub record Hears (old : Lent T K B H E) (heard : List Asking) (new : Lent T K B H E) : Type 0 where
      pub hears : Chain (typed r) (outside_in old) heard (outside_in new)
      pub keeps : Keeps ready old new

    pub heard_in : (old new : Lent T K B H E) (heard : List Asking) → old.store.now.machine ≡ m →
        Chain (Moves bounds (Goes r ready)) old heard new → Hears old heard new
    heard_in old new [] is c = record { hears = ap outside_in c; keeps = keeps_same old new c }
    heard_in old new (x ∷ heard) is c =
        let step : Goes r ready old x.0 x.1 c.0 = c.1.2 in
        let rest : Hears c.0 heard new =
        heard_in c.0 new heard (ap (λ (s : StoreParts T). s.machine) step.keeps.store_kept ∙ is) c.2 in
        let set : IsSet old.store.now.machine x.0 =
        subst (λ (k : Machine). IsSet k x.0) (sym is) (is_set bounds m hooked behaving x.0 c.1.0) in
        record {
          hears = (outside_in c.0, (c.1.1, step.moves set), rest.hears);
          keeps = keeps_both old c.0 new step.keeps rest.keeps;
        }

-- ---- of a call of which this is outside

module _ {T K B H E : Type 0} (r : Relations T H E) (ready : H → Type 0) (c : RunContext) (old : Lent T K B H E)
    (fit : IsFit ready old c) (due : Doing) (h : HeldParts) (turns : ℕ) where
  abbrev HearsIn : List Asking → Lent T K B H E → Type 0
  HearsIn xs new =
      Hears r ready c.bounds old.store.now.machine fit.store_fits.hooked_is fit.store_fits.behaving_is old xs new

  heard : (xs : List Asking) (new : Lent T K B H E) → Chain (moves_in c (Goes r ready)) old xs new → HearsIn xs new
  heard xs new x =
      heard_in r ready c.bounds old.store.now.machine fit.store_fits.hooked_is fit.store_fits.behaving_is old new xs refl x

  pub stays_formed : (formed : HeldParts → Type 0) →
      StaysFormed (typed r) (outside_in old) (opened_in c) due h turns formed →
      StaysFormed (moves_in c (Goes r ready)) old (opened_in c) due h turns formed
  stays_formed formed s = λ spent xs h' new within x l. s spent xs h' (outside_in new) within (heard xs new x).hears l

  -- at its end
  module _ (h' : HeldParts) (new : Lent T K B H E) (result : Result Reply Unfinished) where
    abbrev Gives : Reply → Type 0
    Gives x = Comes (opened_in c) (moves_in c (Goes r ready)) due h old turns x h' new

    abbrev Stops : Unfinished → Type 0
    Stops u = BreaksOff (opened_in c) (moves_in c (Goes r ready)) due h old turns u h' new

    abbrev GivesOwn : Reply → Type 0
    GivesOwn x = Comes (opened_in c) (typed r) due h (outside_in old) turns x h' (outside_in new)

    abbrev StopsOwn : Unfinished → Type 0
    StopsOwn u = BreaksOff (opened_in c) (typed r) due h (outside_in old) turns u h' (outside_in new)

    pub call_replied : IfOk result Gives → IfOk result GivesOwn
    call_replied x = by_result result x where
      by_result : (y : Result Reply Unfinished) → IfOk y Gives → IfOk y GivesOwn
      by_result (Ok y) x =
          record { within = x.within; heard = x.heard; chain = (heard x.heard new x.chain).hears; replies = x.replies }
      by_result (Err u) x = tt

    stops_own : (u : Unfinished) → Stops u → StopsOwn u
    stops_own u (inl x) =
        inl (record { within = x.within; heard = x.heard; chain = (heard x.heard new x.chain).hears; halts = x.halts })
    stops_own u (inr x) =
        inr (record {
          within = x.within;
          heard = x.heard;
          chain = (heard x.heard new x.chain).hears;
          exhausts = x.exhausts;
        })

    pub call_unfinished : IfErr result Stops → IfErr result StopsOwn
    call_unfinished x = by_result result x where
      by_result : (y : Result Reply Unfinished) → IfErr y Stops → IfErr y StopsOwn
      by_result (Ok y) x = tt
      by_result (Err u) x = stops_own u x

    stop_keeps : (u : Unfinished) → Stops u → Keeps ready old new
    stop_keeps u (inl x) = (heard x.heard new x.chain).keeps
    stop_keeps u (inr x) = (heard x.heard new x.chain).keeps

    pub call_keeps : IfOk result Gives → IfErr result Stops → Keeps ready old new
    call_keeps x y = by_result result x y where
      by_result : (z : Result Reply Unfinished) → IfOk z Gives → IfErr z Stops → Keeps ready old new
      by_result (Ok z) x y = (heard x.heard new x.chain).keeps
      by_result (Err u) x y = stop_keeps u y
