-- What a run of a function replies is what the call of it by a host comes to.
use Rattle.std.proofs.Common.{◌≡◌, ℕ, suc, ◌≤◌, ◌<◌, inl, List, [], ◌∷◌, ◌++◌, length, Option, Some, None, refl, ap, sym, ◌∙◌, subst, arith, true}
use Rattle.std.specs.Global.{Global as GlobalSpec}
use Rattle.std.specs.List.{list_all}
use Rattle.std.specs.Prelude.{Result, Ok, Err, IfOk, IfErr, Vec, reverse}
use Rattle.std.proofs.lemmas.List.{reverse-reverse}
use Rattle.wasm_types.specs.EqualityLaws.{both}
use Rattle.wasm_types.specs.declared.value_types.ValType.{ValType}
use Rattle.wasm_types.proofs.MatchingLemmas.{no}
use Rattle.wasm_values.specs.declared.handles.Func.{Func}
use Rattle.wasm_values.specs.declared.refusals.Refusal.{Refusal}
use Rattle.wasm_values.specs.declared.refusals.Refusal.TheVariants as refusal
use Rattle.wasm_values.specs.declared.values.Val.{Val}
use Rattle.wasm_objects.specs.declared.raw.RawVal.{RawVal}
use Rattle.spec_machine.specs.Commands.{Row, Invoke}
use Rattle.spec_machine.specs.FunctionCalls.{Called, called}
use Rattle.spec_machine.specs.Machine.{Machine}
use Rattle.spec_machine.specs.Values.{owns_val, all_fit}
use Rattle.spec_machine.specs.WellFormed.{IsWellFormed}
use Rattle.spec_machine.specs.declared.reply.Reply.TheVariants as reply
use Rattle.spec_execution.specs.Askings.{Asking, answers_in}
use Rattle.spec_execution.specs.Commands.{results_of, call_reply}
use Rattle.spec_execution.specs.Entering.{values_at}
use Rattle.spec_execution.specs.Outcomes.{World, world, State, state, Values}
use Rattle.law_code.specs.Answers.{AreTyped}
use Rattle.law_code.specs.Good.{IsReturned}
use Rattle.law_code.proofs.Calls.{host_calls_return}
use Rattle.law_code.proofs.HostValueLemmas.{results_are_owned}
use Rattle.store_state.specs.Parts.{HeldParts}
use Rattle.code_leaps.specs.Leading.{Halts}
use Rattle.code_hosts.specs.Entering.{calling}
use Rattle.code_hosts.specs.Replies.{RepliesBy}
use Rattle.code_hosts.specs.declared.replies.How.{How}
use Rattle.code_hosts.specs.declared.replies.How.TheVariants as how
use Rattle.code_hosts.specs.Replies.{Exhausts}
use Rattle.store_objects.specs.declared.objects.ObjectParts.{ObjectParts}
use Rattle.wasm_call.specs.Calls.{Returned, Failed}
use Rattle.wasm_call.specs.Invoking.{machine_in, store_in, setting_in, IsSafe, Tells}
use Rattle.wasm_call.specs.Outcomes.{AnsweredRow, CutRow, LackedRow}
use Rattle.wasm_call.specs.Outside.{Moving, Surrounded, surrounded, Hears}
use Rattle.wasm_call.proofs.RunEndLemmas.{returns, with_held, run_cut, run_lacked, run_limited, run_answered, ends_there, reply_cut, reply_trapped, reply_refused}

-- a refusal, and where it is by want of memory a stop
pub failed_by : {T H E : Type 0} (moves : Moving T H E) (row : Row) (old new : Surrounded T H E) (why : Refusal) →
    AnsweredRow moves row old (reply.Refused why) new → CutRow moves row old new → Failed moves row old why new
failed_by moves row old new refusal.OutOfMemory a k = inl k
failed_by moves row old new why a k = a

-- as many values of the store as types, each of which may stand where its type is wanted
pub record AreOf (m : Machine) (tys : List ValType) (vals : List Val) : Type 0 where
  pub owned : list_all (owns_val m) vals ≡ true
  pub fit : all_fit m vals tys ≡ true

-- values that fit types are as many
pub fit_length : (m : Machine) (vals : List Val) (tys : List ValType) → all_fit m vals tys ≡ true → length vals ≡ length tys
fit_length m [] [] p = refl
fit_length m (v ∷ vals) (ty ∷ tys) p = ap suc (fit_length m vals tys (both _ _ p).1)
fit_length m [] (ty ∷ tys) p = no p
fit_length m (v ∷ vals) [] p = no p

-- a call whose conditions hold returns values of its types, or ends early
pub call_safe : (m : Machine) (f : Func) (args : List Val) (wanted : Option ℕ) (c : Called) →
    called m f args wanted ≡ Ok c → IsWellFormed m → (most : ℕ) → most ≤ 1000000000 →
    IsSafe m c.function c.arguments None c.results most
call_safe m f args wanted c e well most few turns heard answers within typed =
    let w : World = world m turns heard answers in (
      w,
      host_calls_return w f args wanted c (record {
        well = well;
        turns = omega (arith, within, few);
        typed = typed;
      }) e,
    )

-- its run, which took so many turns
module _ {T H E : Type 0} (moves : Moving T H E) (p : ObjectParts) (well : IsWellFormed (machine_in p)) (f : Func)
    (args : List Val) (wanted : Option ℕ) (c : Called) (ec : called (machine_in p) f args wanted ≡ Ok c)
    (most : p.engine.turns ≤ 1000000000) (t t' : T) (host host' : H) (e e' : E) (h' : HeldParts) (spent : ℕ)
    (within : spent ≤ p.engine.turns) (heard : List Asking) (typed : AreTyped (answers_in heard ++ []))
    (hears : Hears moves (surrounded (store_in p 0 t) host e) heard
    (surrounded (store_in (with_held p h') spent t') host' e')) where
  abbrev before_it : Surrounded T H E
  before_it = surrounded (store_in p 0 t) host e

  abbrev behind_it : Surrounded T H E
  behind_it = surrounded (store_in (with_held p h') spent t') host' e'

  abbrev after : Machine
  after = machine_in (with_held p h')

  safe : IsSafe (machine_in p) c.function c.arguments None c.results p.engine.turns
  safe = call_safe (machine_in p) f args wanted c ec well p.engine.turns most

  abbrev Replied : How → Type 0
  Replied y =
      RepliesBy (setting_in p p.engine.turns) (calling c.function c.arguments None) p.held p.engine.turns spent heard h' y

  pub call_cut : Halts (setting_in p p.engine.turns) (calling c.function c.arguments None) p.held spent heard h' →
      CutRow moves (Invoke c) before_it behind_it
  call_cut l = record {
    led =
        run_cut moves p c.function c.arguments None c.results (call_reply c) p.engine.turns safe t t' host host' e e' h' spent within
        heard typed hears l;
    within = within;
  }

  pub call_lacked : Exhausts (setting_in p p.engine.turns) (calling c.function c.arguments None) p.held spent heard h' →
      spent < p.engine.turns → LackedRow moves (Invoke c) before_it behind_it
  call_lacked l less = record {
    led =
        run_lacked moves p c.function c.arguments None c.results (call_reply c) p.engine.turns safe t t' host host' e e' h'
        spent within heard typed hears l;
    within = less;
  }

  cut : (y : How) → Replied y → CutRow moves (Invoke c) before_it behind_it
  cut y l = record {
    led =
        reply_cut moves p c.function c.arguments None c.results (call_reply c) p.engine.turns safe t t' host host' e e' h' spent within
        heard typed hears y l;
    within = within;
  }

  returned : (v : Vec RawVal GlobalSpec) (vals : List Val) → Replied (how.Returned v) →
      vals ≡ values_at after c.results v.items → Returned moves (Invoke c) before_it vals behind_it
  returned v vals l is =
      run_answered moves p c.function c.arguments None c.results (call_reply c) p.engine.turns safe t t' host host' e e' h' spent
      within heard typed hears (λ w. Values (state w [] (reverse v.items))) l (reply.Values vals)
      (λ w ew.
      ap (λ raws. Some (reply.Values (values_at w.machine c.results raws), w)) (reverse-reverse v.items)
      ∙ ap (λ m. Some (reply.Values (values_at m c.results v.items), w)) ew
      ∙ ap (λ xs. Some (reply.Values xs, w)) (sym is))

  -- the results are of the store and of their types
  results_are : (s : State) →
      calling c.function c.arguments None (world (machine_in p) spent [] (answers_in heard ++ [])) ≡ Values s →
      AreOf s.world.machine c.results (results_of s.world.machine c s.operands)
  results_are s q =
      let back : (base : World) × IsReturned base c.results
      (calling c.function c.arguments None (world (machine_in p) spent [] (answers_in heard ++ []))) =
      returns (machine_in p) c.function c.arguments None c.results p.engine.turns safe spent within heard typed [] in
      let good : IsReturned back.0 c.results (Values s) = subst (IsReturned back.0 c.results) q back.1 in
      let are = results_are_owned s.world.machine c s.operands good.operands_are in
      record { owned = are.0; fit = are.1 }

  returned_are : (v : Vec RawVal GlobalSpec) → Replied (how.Returned v) →
      AreOf after c.results (values_at after c.results v.items)
  returned_are v l =
      subst (λ (raws : List RawVal). AreOf after c.results (values_at after c.results raws)) (reverse-reverse v.items)
      (results_are (state (world after 0 ([] ++ heard) []) [] (reverse v.items)) (ends_there moves p c.function c.arguments None c.results (call_reply c) p.engine.turns safe t t' host host' e e' h' spent within
      heard typed hears (λ w. Values (state w [] (reverse v.items))) l))

  -- and what a host is told of it
  module _ (result : Result (Vec Val GlobalSpec) Refusal) where
    pub reply_returned : (y : How) → Replied y → Tells after c.results y result →
        IfOk result (λ vals. Returned moves (Invoke c) before_it vals.items behind_it)
    reply_returned y l told = by_result y result l told where
      by_result : (y : How) (x : Result (Vec Val GlobalSpec) Refusal) → Replied y → Tells after c.results y x →
          IfOk x (λ vals. Returned moves (Invoke c) before_it vals.items behind_it)
      by_result (how.Returned v) (Ok vals) l told = returned v vals.items l told
      by_result (how.Trapped x) (Ok vals) l told = absurd cc
      by_result (how.Refused why) (Ok vals) l told = absurd cc
      by_result how.TurnLimit (Ok vals) l told = absurd cc
      by_result how.Stuck (Ok vals) l told = absurd told
      by_result y (Err why) l told = tt

    pub reply_failed : (y : How) → Replied y → Tells after c.results y result →
        IfErr result (λ why. Failed moves (Invoke c) before_it why behind_it)
    reply_failed y l told = by_result y result l told where
      fails : Refusal → Type 0
      fails why = Failed moves (Invoke c) before_it why behind_it

      same_refusal : (why due : Refusal) → ◌≡◌ {A = Result (Vec Val GlobalSpec) Refusal} (Err why) (Err due) → due ≡ why
      same_refusal why due q = cc

      by_result : (y : How) (x : Result (Vec Val GlobalSpec) Refusal) → Replied y → Tells after c.results y x →
          IfErr x (λ why. Failed moves (Invoke c) before_it why behind_it)
      by_result y (Ok vals) l told = tt
      by_result (how.Returned v) (Err why) l told = subst fails (sym told) (inl (cut (how.Returned v) l))
      by_result (how.Trapped x) (Err why) l told =
          subst fails (same_refusal why (refusal.Trap x) told)
          (reply_trapped moves p c.function c.arguments None c.results (call_reply c) p.engine.turns safe t t' host host' e e' h' spent
          within heard typed hears x l)
      by_result (how.Refused cause) (Err why) l told =
          subst fails (same_refusal why cause told)
          (failed_by moves (Invoke c) before_it behind_it cause
          (reply_refused moves p c.function c.arguments None c.results (call_reply c) p.engine.turns safe t t' host host' e e' h' spent
          within heard typed hears cause l) (cut (how.Refused cause) l))
      by_result how.TurnLimit (Err why) l told =
          subst fails (same_refusal why refusal.TurnLimit told)
          (run_limited moves p c.function c.arguments None c.results (call_reply c) p.engine.turns safe t t' host host' e e' h' spent
          within heard typed hears l.0 l.1)
      by_result how.Stuck (Err why) l told = absurd told

    -- the results are of the store and of their types
    pub reply_are : (y : How) → Replied y → Tells after c.results y result →
        IfOk result (λ vals. AreOf after c.results vals.items)
    reply_are y l told = by_result y result l told where
      by_result : (y : How) (x : Result (Vec Val GlobalSpec) Refusal) → Replied y → Tells after c.results y x →
          IfOk x (λ vals. AreOf after c.results vals.items)
      by_result (how.Returned v) (Ok vals) l told = subst (AreOf after c.results) (sym told) (returned_are v l)
      by_result (how.Trapped x) (Ok vals) l told = absurd cc
      by_result (how.Refused why) (Ok vals) l told = absurd cc
      by_result how.TurnLimit (Ok vals) l told = absurd cc
      by_result how.Stuck (Ok vals) l told = absurd told
      by_result y (Err why) l told = tt
