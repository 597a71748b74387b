-- Calls by code, of a function of the instance and through a table, and growth: each ends as its typing says.
use Rattle.std.proofs.Common.{◌≡◌, ◌⊎◌, ℕ, ◌-◌, ◌^◌, ◌<◌, Bool, true, false, if◌then◌else◌, List, [], ◌∷◌, length, reverse, slice_get, Option, Some, None, refl, sym, ap, ◌∙◌, subst, arith, inl, inr, append-nil}
use Rattle.std.proofs.lemmas.List.{length-reverse, reverse-reverse}
use Rattle.wasm_types.specs.FunctionParts.{params, results}
use Rattle.wasm_types.specs.Matching.{all_match, matches, ref_matches}
use Rattle.wasm_types.specs.Signatures.{Signature}
use Rattle.wasm_types.proofs.ChainLemmas.{fits_along_chains}
use Rattle.wasm_types.specs.declared.value_types.RefType.{RefType}
use Rattle.wasm_types.specs.declared.value_types.ValType.{ValType}
use Rattle.wasm_types.specs.declared.value_types.ValType.TheVariants as t
use Rattle.wasm_syntax.specs.Typing.{Typed, Reached, onto, function_references, type_list, typing_to}
use Rattle.wasm_syntax.specs.declared.instr.Instr.{Instr}
use Rattle.wasm_values.specs.declared.refusals.Refusal.TheVariants as refusal
use Rattle.wasm_values.specs.declared.refusals.Trap.TheVariants as trap
use Rattle.wasm_objects.specs.declared.raw.RawRef.{RawRef}
use Rattle.wasm_objects.specs.declared.raw.RawRef.TheVariants as raw
use Rattle.wasm_objects.specs.declared.raw.RawVal.{RawVal}
use Rattle.spec_machine.specs.Changes.{charge}
use Rattle.spec_machine.specs.Growth.{Decision, Granted, Failed, Faulted, Plan}
use Rattle.spec_machine.specs.Machine.{EngineParts, Machine}
use Rattle.spec_machine.specs.Values.{function_type}
use Rattle.spec_machine.specs.WellFormed.{is_raw_ref}
use Rattle.law_store.specs.Granted.{IsGranted}
use Rattle.law_store.proofs.LaterStoreLemmas.{extends_on}
use Rattle.spec_execution.specs.Bodies.{back, call, callee, element, signed_by, grown, grow, stuck, trapped}
use Rattle.spec_execution.specs.Entering.{Frame, Run, Exec, enter}
use Rattle.spec_execution.specs.Operands as on
use Rattle.spec_execution.specs.Outcomes.{World, State, state, Outcome, Values, Branch, Return, Over, Trapped, Refused}
use Rattle.law_code.specs.Good.{IsPaid, CodeMayRun, context_of, IsLaterWorld, IsGoodWorld, IsReturned}
use Rattle.law_code.specs.Runs.{GoodIn, IsSoundExec}
use Rattle.law_code.specs.Typed.{HaveTypes}
use Rattle.law_code.proofs.Blocks.{Then, early, rest_good, world_here}
use Rattle.law_code.proofs.Changes.{IsSafeChange, IsCharged, charge_safe, AreRefs}
use Rattle.law_code.proofs.Checks.{decides}
use Rattle.law_code.proofs.Combinators.{at_found, front_of}
use Rattle.law_code.proofs.Ends.{back_good}
use Rattle.law_code.proofs.EntryLemmas.{enter_good}
use Rattle.law_code.proofs.Functions.{function_there, function_sound, callable}
use Rattle.law_code.proofs.TypedValues.{have_later, have_along, have_reverse, match_length}
use Rattle.law_code.proofs.Worlds.{may_run_later, later_on, one_unit, IsNext, charge_next, spends}

-- results go along matching
onto_along : (m : Machine) (a b : List ValType) (vs : List RawVal) → HaveTypes m (onto a []) vs →
    all_match a b ≡ true → HaveTypes m (onto b []) vs
onto_along m a b vs h q =
    let first : HaveTypes m a (reverse vs) =
    subst (λ ts. HaveTypes m ts (reverse vs)) (reverse-reverse a)
    (have_reverse m (reverse a) vs (subst (λ ts. HaveTypes m ts vs) (append-nil (reverse a)) h)) in
    subst (λ ts. HaveTypes m ts vs) (sym (append-nil (reverse b)))
    (subst (HaveTypes m (reverse b)) (reverse-reverse vs)
    (have_reverse m b (reverse vs) (have_along m a b (reverse vs) first q)))

returned_along : (base : World) (a b : List ValType) (o : Outcome) → IsReturned base a o →
    all_match a b ≡ true → IsReturned base b o
returned_along base a b (Values s) h q = record {
  world = h.world;
  locals_are = h.locals_are;
  operands_are = onto_along s.world.machine a b s.operands h.operands_are q;
}
returned_along base a b (Over e w) h q = h
returned_along base a b (Branch l s) h q = h
returned_along base a b (Return s) h q = h

-- the store of a growth that took its turn, by a rule or behind a question
charged_plan : (u w : World) (p : Plan ℕ) → IsPaid u → w.turns < u.turns → IsSafeChange u.machine p.after →
    IsCharged u.machine 1 (charge p.after 1)
charged_plan u w p paid fewer a =
    let b : IsCharged p.after 1 (charge p.after 1) = charge_safe p.after a.well 1 (λ consumes.
    omega (arith, fewer, a.owed, paid.owed (sym (ap (λ (e : EngineParts). e.consumes_fuel) a.later.engine) ∙ consumes)))
    in
    record {
      well = b.well;
      later = extends_on u.machine p.after (charge p.after 1) a.later b.later;
      owed = omega (arith, a.owed, b.owed);
    }

module _ (f : Exec) (sound : IsSoundExec f) (base : World) (fr : Frame)
    (labels : List (List ValType)) (n : ℕ) (is : List Instr) where
  abbrev Next : Typed → Outcome → Type 0
  Next = Then f sound base fr labels n is

  -- a function whose type matches the one that the typing knows
  pub call_good : (k : ℕ) (own ty : Signature) (us : List ValType) (s : State) →
      function_type s.world.machine k ≡ Some own → matches own ty ≡ true → CodeMayRun s.world fr →
      GoodIn base fr (onto (params ty) us) s → Next (Reached (onto (results ty) us)) (call f fr is s k)
  call_good k own ty us s found fits home g =
      let m : Machine = s.world.machine in
      let along : (all_match (params ty) (params own) ≡ true) × (all_match (results own) (results ty) ≡ true) =
      fits_along_chains own ty (function_sound m g.world.well k own found) fits in
      at_found (Next (Reached (onto (results ty) us))) (stuck s) (function_type m k) own
      (λ u. on.on_front (stuck s) (length (params u)) s.operands (λ front below.
      back f (Run fr is) s.locals below (enter f fr.depth k (reverse front) (Some fr.instance) s.world))) found
      (front_of (Next (Reached (onto (results ty) us))) m (stuck s) (reverse (params ty)) us (length (params own))
      s.operands (λ front below.
      back f (Run fr is) s.locals below (enter f fr.depth k (reverse front) (Some fr.instance) s.world))
      g.operands_are (sym (match_length (params ty) (params own) along.0) ∙ sym (length-reverse (params ty)))
      (λ front below hf hb.
      let given : HaveTypes m (params ty) (reverse front) =
      subst (λ ts. HaveTypes m ts (reverse front)) (reverse-reverse (params ty))
      (have_reverse m (reverse (params ty)) front hf) in
      let o : Outcome = enter f fr.depth k (reverse front) (Some fr.instance) s.world in
      back_good base s.world g.world.later g.world.well.functions_are fr home us below hb f (Run fr is)
      (context_of fr).locals (context_of fr).results (results ty) labels
      (type_list (context_of fr) (typing_to (context_of fr) n) labels (onto (results ty) us) is) s.locals o g.locals_are
      (rest_good f sound base fr labels n is (onto (results ty) us))
      (returned_along s.world (results own) (results ty) o
      (enter_good s.world f sound s.world fr.depth k (reverse front) (Some fr.instance) own found
      (world_here base s.world g.world)
      (have_along m (params ty) (params own) (reverse front) given along.0)) along.1)))

  -- through an element of a table
  signed_good : (b : Bool) (k : ℕ) (own ty : Signature) (us : List ValType) (s : State) →
      function_type s.world.machine k ≡ Some own → matches own ty ≡ b → CodeMayRun s.world fr →
      GoodIn base fr (onto (params ty) us) s →
      Next (Reached (onto (results ty) us)) (if b then call f fr is s k else trapped trap.BadSignature s)
  signed_good true k own ty us s found fits home g = call_good k own ty us s found fits home g
  signed_good false k own ty us s found fits home g =
      early f sound base fr labels n is (Reached (onto (results ty) us)) (Trapped trap.BadSignature) s.world
      g.world

  callee_good : (y : RawRef) (ty : Signature) (us : List ValType) (s : State) → CodeMayRun s.world fr →
      GoodIn base fr (onto (params ty) us) s →
      (y ≡ raw.Null) ⊎ ((k : ℕ) × (y ≡ raw.Func k) × (is_raw_ref s.world.machine (raw.Func k) ≡ true)) →
      Next (Reached (onto (results ty) us))
      (callee y s (λ k. signed_by (function_type s.world.machine k) ty s (call f fr is s k)))
  callee_good y ty us s home g (inl e) =
      subst (λ x. Next (Reached (onto (results ty) us))
      (callee x s (λ k. signed_by (function_type s.world.machine k) ty s (call f fr is s k)))) (sym e)
      (early f sound base fr labels n is (Reached (onto (results ty) us)) (Trapped trap.IndirectCallToNull) s.world
      g.world)
  callee_good y ty us s home g (inr e) =
      let own : (u : Signature) × (function_type s.world.machine e.0 ≡ Some u) =
      function_there s.world.machine g.world.well e.0 e.2 in
      subst (λ x. Next (Reached (onto (results ty) us))
      (callee x s (λ k. signed_by (function_type s.world.machine k) ty s (call f fr is s k)))) (sym e.1)
      (subst (λ o. Next (Reached (onto (results ty) us)) (signed_by o ty s (call f fr is s e.0))) (sym own.1)
      (signed_good (matches own.0 ty) e.0 own.0 ty us s own.1 refl home g))

  element_by : (items : List RawRef) (at : ℕ) (o : Option RawRef) (elem : RefType) (ty : Signature)
      (us : List ValType) (s : State) → CodeMayRun s.world fr → GoodIn base fr (onto (params ty) us) s →
      AreRefs s.world.machine elem items → ref_matches elem function_references ≡ true → slice_get items at ≡ o →
      Next (Reached (onto (results ty) us))
      (element o s (λ y. callee y s (λ k. signed_by (function_type s.world.machine k) ty s (call f fr is s k))))
  element_by items at None elem ty us s home g are q e =
      early f sound base fr labels n is (Reached (onto (results ty) us)) (Trapped trap.TableOutOfBounds) s.world
      g.world
  element_by items at (Some y) elem ty us s home g are q e =
      callee_good y ty us s home g (callable s.world.machine y elem (are.there at y e) (are.fits at y e) q).is

  pub element_good : (items : List RawRef) (at : ℕ) (elem : RefType) (ty : Signature) (us : List ValType) (s : State) →
      CodeMayRun s.world fr → GoodIn base fr (onto (params ty) us) s → AreRefs s.world.machine elem items →
      ref_matches elem function_references ≡ true →
      Next (Reached (onto (results ty) us))
      (element (slice_get items at) s
      (λ y. callee y s (λ k. signed_by (function_type s.world.machine k) ty s (call f fr is s k))))
  element_good items at elem ty us s home g are q =
      element_by items at (slice_get items at) elem ty us s home g are q refl

  -- ---- growth

  -- with the size before, or -1, on top
  on_top : (us : List ValType) (s : State) (w : World) (x : ℕ) → CodeMayRun s.world fr →
      GoodIn base fr us s → IsGoodWorld base w → IsLaterWorld s.world w →
      Next (Reached (t.I32 ∷ us)) (f (Run fr is) (state w s.locals (on.integer 32 x ∷ s.operands)))
  on_top us s w x home g gw since =
      let fs = g.world.well.functions_are in
      rest_good f sound base fr labels n is (t.I32 ∷ us) (state w s.locals (on.integer 32 x ∷ s.operands))
      (may_run_later s.world w fr since home)
      (record {
        world = gw;
        locals_are = have_later s.world.machine w.machine since.store fs (context_of fr).locals s.locals g.locals_are;
        operands_are = (
          record { there = refl; fits = refl },
          have_later s.world.machine w.machine since.store fs us s.operands g.operands_are,
        );
      })

  grown_good : (us : List ValType) (s : State) (p : Plan ℕ) → CodeMayRun s.world fr → GoodIn base fr us s →
      (IsGranted s.world.machine p → IsSafeChange s.world.machine p.after) →
      (d : Decision) (v : World) → IsNext base s.world v → (d ≡ Granted → IsGranted s.world.machine p) →
      Next (Reached (t.I32 ∷ us)) (grown f (Run fr is) s p d v)
  grown_good us s p home g safe Granted v next granted =
      spends base (Next (Reached (t.I32 ∷ us))) (early f sound base fr labels n is (Reached (t.I32 ∷ us))) v
      (λ w.
      f (Run fr is) (state (record w { machine = charge p.after 1 }) s.locals (on.integer 32 p.gives ∷ s.operands)))
      next.good (next.since.paid home.paid) (λ w more fewer.
      let now : IsNext base s.world (record w { machine = charge p.after 1 }) =
      charge_next base s.world w 1 (charge p.after 1) g.world more.good (omega (arith, fewer, next.since.fewer))
      (one_unit s.world home.paid)
      (charged_plan s.world w p home.paid (omega (arith, fewer, next.since.fewer)) (safe (granted refl))) in
      on_top us s (record w { machine = charge p.after 1 }) p.gives home g now.good now.since)
  grown_good us s p home g safe Failed v next granted =
      spends base (Next (Reached (t.I32 ∷ us))) (early f sound base fr labels n is (Reached (t.I32 ∷ us))) v
      (λ w. f (Run fr is) (state w s.locals (on.integer 32 (2 ^ 32 - 1) ∷ s.operands))) next.good
      (next.since.paid home.paid) (λ w more fewer.
      on_top us s w (2 ^ 32 - 1) home g more.good (later_on s.world v w next.since more.since))
  grown_good us s p home g safe Faulted v next granted =
      early f sound base fr labels n is (Reached (t.I32 ∷ us)) (Refused refusal.LimiterFault) v next.good

  pub grow_good : (us : List ValType) (s : State) (p : Plan ℕ) → CodeMayRun s.world fr → GoodIn base fr us s →
      (IsGranted s.world.machine p → IsSafeChange s.world.machine p.after) →
      Next (Reached (t.I32 ∷ us)) (grow f (Run fr is) s p)
  grow_good us s p home g safe =
      decides base Over (Next (Reached (t.I32 ∷ us))) (early f sound base fr labels n is (Reached (t.I32 ∷ us)))
      s.world p (grown f (Run fr is) s p) (grown_good us s p home g safe) g.world
