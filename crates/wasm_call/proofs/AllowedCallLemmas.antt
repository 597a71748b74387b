-- A call whose conditions hold, run on the objects of a store: what the run's contract says of it, for a host.
use Rattle.std.proofs.Common.{◌≡◌, ℕ, ◌≤◌, arith, inl, inr, List, [], ◌++◌, Option, Some, None, refl, ap, sym, ◌∙◌, subst, map, true}
use Rattle.std.specs.Global.{Global as GlobalSpec}
use Rattle.std.specs.List.{list_all}
use Rattle.std.specs.Prelude.{Result, Ok, Err, IfOk, IfErr, IsOk, Vec}
use Rattle.std.proofs.lemmas.Option.{same_Some}
use Rattle.wasm_types.specs.FunctionParts.{results}
use Rattle.wasm_types.specs.declared.value_types.ValType.{ValType}
use Rattle.wasm_types.specs.Signatures.{Signature}
use Rattle.wasm_values.specs.Handles.{func_index}
use Rattle.wasm_values.specs.declared.handles.Func.{Func}
use Rattle.wasm_values.specs.declared.refusals.Refusal.{Refusal}
use Rattle.wasm_values.specs.declared.refusals.Refusal.TheVariants as refusal
use Rattle.wasm_values.specs.declared.values.Val.{Val}
use Rattle.wasm_objects.specs.declared.raw.RawVal.{RawVal}
use Rattle.spec_machine.specs.Commands.{Row, Invoke, invokes}
use Rattle.spec_machine.specs.FunctionCalls.{Called, called}
use Rattle.spec_machine.specs.Machine.{Machine}
use Rattle.spec_machine.specs.Values.{function_type, raw_val, owns_val, all_fit}
use Rattle.spec_machine.specs.WellFormed.{IsWellFormed}
use Rattle.spec_execution.specs.Askings.{Asking, Relations, Chain, answers_in}
use Rattle.spec_execution.specs.Commands.{call_reply}
use Rattle.spec_execution.specs.Outcomes.{World, world}
use Rattle.law_code.specs.Answers.{AreTyped}
use Rattle.law_code.specs.Good.{IsReturned}
use Rattle.law_code.proofs.Conditions.{tested}
use Rattle.store_state.specs.Machine.{type_named}
use Rattle.store_state.proofs.Instances.{function_type-named}
use Rattle.code_hosts.specs.Entering.{calling}
use Rattle.code_hosts.specs.declared.replies.Reply.{Reply}
use Rattle.code_hosts.specs.declared.replies.Unfinished.{Unfinished}
use Rattle.store_objects.specs.declared.objects.ObjectParts.{ObjectParts}
use Rattle.wasm_call.specs.Calls.{call_row, Returned, Failed, ResultsFit}
use Rattle.wasm_call.specs.Outcomes.{UnfinishedRow}
use Rattle.wasm_call.specs.Invoking.{machine_in, store_in, IsSafe, RunReplies, RunUnfinishes, IsUnstuck, Tells}
use Rattle.wasm_call.specs.Outside.{Moving, Surrounded, surrounded, outside, typed, Hears}
use Rattle.wasm_call.proofs.EngineLemmas.{engine_turns}
use Rattle.wasm_call.proofs.HeardLemmas.{heard_typed}
use Rattle.wasm_call.proofs.RepliedCallLemmas.{call_safe, call_cut, call_lacked, AreOf, reply_returned, reply_failed, reply_are}
use Rattle.wasm_call.proofs.RunEndLemmas.{with_held, base_in, less_within, run_well, lacked_well, reply_unstuck, reply_well}
use Rattle.wasm_call.proofs.StopLemmas.{invoked_cut}

-- ---- the call, by the type of its function

abbrev pub call_of : Func → List Val → Signature → Called
call_of f args own = record { function = func_index f; arguments = map raw_val args; results = results own }

pub record IsAllowed (m : Machine) (f : Func) (args : List Val) (wanted : Option ℕ) : Type 0 where
  pub own : Signature
  pub found : function_type m (func_index f) ≡ Some own
  pub is : called m f args wanted ≡ Ok (call_of f args own)

pub allowed : (m : Machine) (f : Func) (args : List Val) (wanted : Option ℕ) → IsOk (called m f args wanted) →
    IsAllowed m f args wanted
allowed m f args wanted ok = by_result (called m f args wanted) refl ok where
  by_result : (r : Result Called Refusal) → called m f args wanted ≡ r → IsOk r → IsAllowed m f args wanted
  by_result (Ok c) e ok =
      let t = tested m f args c wanted e in record { own = t.own; found = t.found; is = e ∙ ap Ok (sym t.is) }
  by_result (Err why) e ok = absurd cc

-- ---- as it is run

module _ {T H E : Type 0} (r : Relations T H E) (p : ObjectParts) (well : IsWellFormed (machine_in p)) (f : Func)
    (args : List Val) (ok : IsOk (called (machine_in p) f args None)) (t : T) (host : H) (e : E) where
  abbrev moves : Moving T H E
  moves = typed r

  abbrev pub a : IsAllowed (machine_in p) f args None
  a = allowed (machine_in p) f args None ok

  abbrev c : Called
  c = call_of f args a.own

  abbrev before_it : Surrounded T H E
  before_it = surrounded (store_in p 0 t) host e

  row_is : call_row (machine_in p) f args None ≡ Invoke c
  row_is = ap invokes a.is

  most : p.engine.turns ≤ 1000000000
  most = engine_turns (machine_in p) well

  safe : IsSafe (machine_in p) c.function c.arguments None c.results p.engine.turns
  safe = call_safe (machine_in p) f args None c a.is well p.engine.turns most

  -- so it may be run
  pub call_runs : (number turns : ℕ) (arguments : List RawVal) → number ≡ func_index f → arguments ≡ map raw_val args →
      turns ≡ p.engine.turns → (types : List ValType) × IsSafe (machine_in p) number arguments None types turns
  call_runs number turns arguments en ea et = (
    c.results,
    λ k heard answers within are.
        subst (λ (raws : List RawVal). (base : World) × IsReturned base c.results
        (calling number raws None (world (machine_in p) k heard answers))) (sym ea)
        (subst (λ (n : ℕ). (base : World) × IsReturned base c.results
        (calling n c.arguments None (world (machine_in p) k heard answers))) (sym en)
        (safe k heard answers (omega (arith, within, et)) are)),
  )

  -- there was no memory
  abbrev Fails : Refusal → Surrounded T H E → Type 0
  Fails why new = Failed moves (call_row (machine_in p) f args None) before_it why new

  short : (after : ℕ → Surrounded T H E) (spent : ℕ) → Failed moves (Invoke c) before_it refusal.OutOfMemory (after spent) →
      (result : Result (Vec Val GlobalSpec) Refusal) (turns : ℕ) → result ≡ Err refusal.OutOfMemory → turns ≡ spent →
      IfErr result (λ why. Fails why (after turns))
  short after spent k result turns er et =
      subst (λ (n : ℕ). IfErr result (λ why. Fails why (after n))) (sym et)
      (subst (λ (x : Result (Vec Val GlobalSpec) Refusal). IfErr x (λ why. Fails why (after spent))) (sym er)
      (subst (λ (x : Row). Failed moves x before_it refusal.OutOfMemory (after spent)) (sym row_is) k))

  -- before the run
  pub unbegun_failed : (result : Result (Vec Val GlobalSpec) Refusal) (turns : ℕ) → result ≡ Err refusal.OutOfMemory →
      turns ≡ 0 → IfErr result (λ why. Fails why (surrounded (store_in p turns t) host e))
  unbegun_failed result turns er et =
      short (λ n. surrounded (store_in p n t) host e) 0
      (inl (invoked_cut r before_it refl well f args None c a.is)) result turns er et

  -- the type is there
  type_is : type_named p.program (func_index f) ≡ Some a.own
  type_is = sym (function_type-named (base_in p) p.program p.held (func_index f)) ∙ a.found

  -- it left these objects
  module _ (q : ObjectParts) (rest : q ≡ record p { held = q.held }) (t' : T) (host' : H) (e' : E) where
    abbrev behind_it : ℕ → Surrounded T H E
    behind_it turns = surrounded (store_in q turns t') host' e'

    abbrev left : ℕ → Surrounded T H E
    left turns = surrounded (store_in (with_held p q.held) turns t') host' e'

    at_parts : (P : ObjectParts → Type 0) → P (with_held p q.held) → P q
    at_parts P h = subst P (sym rest) h

    pub type_left : type_named q.program (func_index f) ≡ Some a.own
    type_left = ap (λ (o : ObjectParts). type_named o.program (func_index f)) rest ∙ type_is

    -- what was heard in the run
    module _ (spent : ℕ) (heard : List Asking)
        (chain : Chain moves (outside before_it) heard (outside (behind_it spent))) where
      heard_are : AreTyped (answers_in heard ++ [])
      heard_are = heard_typed r (outside before_it) (outside (behind_it spent)) heard chain

      hears : Hears moves before_it heard (left spent)
      hears = chain

    -- there was no memory in the run, or in a step of the host
    module _ (x : Unfinished)
        (y : RunUnfinishes moves p (func_index f) (map raw_val args) p.engine.turns (outside before_it) q.held
        (outside (behind_it x.turns)) x None)
      where
        unfinished_left : IsWellFormed (machine_in (with_held p q.held))
        unfinished_left = by_kind y where
          by_kind : RunUnfinishes moves p (func_index f) (map raw_val args) p.engine.turns (outside before_it) q.held
              (outside (behind_it x.turns)) x None → IsWellFormed (machine_in (with_held p q.held))
          by_kind (inl z) =
              run_well moves p c.function c.arguments None c.results (call_reply c) p.engine.turns safe t t' host host' e e'
              q.held x.turns z.within z.heard (heard_are x.turns z.heard z.chain) (hears x.turns z.heard z.chain) z.halts
          by_kind (inr z) =
              lacked_well moves p c.function c.arguments None c.results (call_reply c) p.engine.turns safe t t' host host' e
              e' q.held x.turns (less_within x.turns p.engine.turns z.within) z.heard (heard_are x.turns z.heard z.chain)
              (hears x.turns z.heard z.chain) z.exhausts z.within

        pub unfinished_well : IsWellFormed (machine_in q)
        unfinished_well = at_parts (λ o. IsWellFormed (machine_in o)) unfinished_left

        unfinished_row : UnfinishedRow moves (Invoke c) before_it (left x.turns)
        unfinished_row = by_kind y where
          by_kind : RunUnfinishes moves p (func_index f) (map raw_val args) p.engine.turns (outside before_it) q.held
              (outside (behind_it x.turns)) x None → UnfinishedRow moves (Invoke c) before_it (left x.turns)
          by_kind (inl z) =
              inl (call_cut moves p well f args None c a.is most t t' host host' e e' q.held x.turns z.within z.heard
              (heard_are x.turns z.heard z.chain) (hears x.turns z.heard z.chain) z.halts)
          by_kind (inr z) =
              inr (call_lacked moves p well f args None c a.is most t t' host host' e e' q.held x.turns
              (less_within x.turns p.engine.turns z.within) z.heard (heard_are x.turns z.heard z.chain)
              (hears x.turns z.heard z.chain) z.exhausts z.within)

        pub unfinished_failed : (result : Result (Vec Val GlobalSpec) Refusal) (turns : ℕ) →
            result ≡ Err refusal.OutOfMemory → turns ≡ x.turns → IfErr result (λ why. Fails why (behind_it turns))
        unfinished_failed result turns er et =
            at_parts (λ o. IfErr result (λ why. Fails why (surrounded (store_in o turns t') host' e')))
            (short left x.turns unfinished_row result turns er et)

    -- a reply
    module _ (x : Reply)
        (y : RunReplies moves p (func_index f) (map raw_val args) p.engine.turns (outside before_it) q.held
        (outside (behind_it x.turns)) x None)
      where
        are_typed : AreTyped (answers_in y.heard ++ [])
        are_typed = heard_are x.turns y.heard y.chain

        own_hears : Hears moves before_it y.heard (left x.turns)
        own_hears = hears x.turns y.heard y.chain

        pub replied_unstuck : IsUnstuck x.how
        replied_unstuck =
            reply_unstuck moves p c.function c.arguments None c.results (call_reply c) p.engine.turns safe t t' host host' e e' q.held x.turns
            y.within y.heard are_typed own_hears x.how y.replies

        pub replied_well : IsWellFormed (machine_in q)
        replied_well =
            at_parts (λ o. IsWellFormed (machine_in o))
            (reply_well moves p c.function c.arguments None c.results (call_reply c) p.engine.turns safe t t' host host' e e' q.held x.turns
            y.within y.heard are_typed own_hears x.how y.replies)

        module _ (ty : Signature) (et : Some ty ≡ type_named q.program (func_index f))
            (result : Result (Vec Val GlobalSpec) Refusal)
            (told : (m : Machine) → m.id ≡ q.id → Tells m (results ty) x.how result) where
          own_is : a.own ≡ ty
          own_is = same_Some a.own ty (sym type_left ∙ sym et)

          told_own : Tells (machine_in (with_held p q.held)) (results a.own) x.how result
          told_own = subst (λ (s : Signature). Tells (machine_in (with_held p q.held)) (results s) x.how result) (sym own_is)
              (told (machine_in (with_held p q.held)) (sym (ap (λ (o : ObjectParts). o.id) rest)))

          pub replied_returned : IfOk result (λ vals.
              Returned moves (call_row (machine_in p) f args None) before_it vals.items (behind_it x.turns))
          replied_returned =
              at_parts (λ o. IfOk result (λ vals.
              Returned moves (call_row (machine_in p) f args None) before_it vals.items
              (surrounded (store_in o x.turns t') host' e')))
              (subst (λ (row : Row). IfOk result (λ vals. Returned moves row before_it vals.items (left x.turns))) (sym row_is)
              (reply_returned moves p well f args None c a.is most t t' host host' e e' q.held x.turns y.within y.heard are_typed own_hears result
              x.how y.replies told_own))

          pub replied_failed : IfErr result (λ why. Fails why (behind_it x.turns))
          replied_failed =
              at_parts (λ o. IfErr result (λ why. Fails why (surrounded (store_in o x.turns t') host' e')))
              (subst (λ (row : Row). IfErr result (λ why. Failed moves row before_it why (left x.turns))) (sym row_is)
              (reply_failed moves p well f args None c a.is most t t' host host' e e' q.held x.turns y.within y.heard are_typed own_hears result
              x.how y.replies told_own))

          -- the results are of the store and of their types
          replied_are : IfOk result (λ vals. AreOf (machine_in q) (results a.own) vals.items)
          replied_are =
              at_parts (λ o. IfOk result (λ vals. AreOf (machine_in o) (results a.own) vals.items))
              (reply_are moves p well f args None c a.is most t t' host host' e e' q.held x.turns y.within y.heard are_typed own_hears result
              x.how y.replies told_own)

          pub replied_owned : IfOk result (λ vals. list_all (owns_val (machine_in q)) vals.items ≡ true)
          replied_owned = by_result result replied_are where
            by_result : (o : Result (Vec Val GlobalSpec) Refusal) →
                IfOk o (λ vals. AreOf (machine_in q) (results a.own) vals.items) →
                IfOk o (λ vals. list_all (owns_val (machine_in q)) vals.items ≡ true)
            by_result (Ok vals) h = h.owned
            by_result (Err why) h = tt

          pub replied_fit : IfOk result (λ vals. ResultsFit (machine_in p) f (machine_in q) vals.items)
          replied_fit = by_result result replied_are where
            by_result : (o : Result (Vec Val GlobalSpec) Refusal) →
                IfOk o (λ vals. AreOf (machine_in q) (results a.own) vals.items) →
                IfOk o (λ vals. ResultsFit (machine_in p) f (machine_in q) vals.items)
            by_result (Ok vals) h = λ s es.
                subst (λ (own : Signature). all_fit (machine_in q) vals.items (results own) ≡ true)
                (same_Some a.own s (sym a.found ∙ es)) h.fit
            by_result (Err why) h = tt
