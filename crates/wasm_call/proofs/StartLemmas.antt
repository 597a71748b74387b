-- The start function of a new instance: what its run comes to is what the definitions say of it, entered as code of the
-- instance calls it.
use Rattle.std.proofs.Common.{◌≡◌, ℕ, ◌<◌, inl, inr, List, [], ◌++◌, Some, refl, sym, subst, arith}
use Rattle.std.specs.Prelude.{⊤, Result, Err, reverse}
use Rattle.wasm_values.specs.declared.refusals.Refusal.{Refusal}
use Rattle.wasm_values.specs.declared.refusals.Refusal.TheVariants as refusal
use Rattle.spec_machine.specs.WellFormed.{IsWellFormed}
use Rattle.spec_machine.specs.declared.reply.Reply.{Reply}
use Rattle.spec_machine.specs.declared.reply.Reply.TheVariants as reply
use Rattle.spec_execution.specs.Askings.{Asking, Relations, Chain, answers_in}
use Rattle.spec_execution.specs.Outcomes.{state, Values}
use Rattle.law_code.specs.Answers.{AreTyped}
use Rattle.code_hosts.specs.Entering.{calling}
use Rattle.code_hosts.specs.Replies.{RepliesBy}
use Rattle.code_hosts.specs.declared.replies.How.{How}
use Rattle.code_hosts.specs.declared.replies.How.TheVariants as how
use Rattle.code_hosts.specs.declared.replies.Reply.{Reply as RunReply}
use Rattle.code_hosts.specs.declared.replies.Unfinished.{Unfinished}
use Rattle.store_objects.specs.declared.objects.ObjectParts.{ObjectParts}
use Rattle.wasm_call.specs.Invoking.{machine_in, store_in, setting_in, IsSafe, IsUnstuck, RunReplies, RunUnfinishes}
use Rattle.wasm_call.specs.Outside.{Moving, Surrounded, surrounded, outside, typed, Hears}
use Rattle.wasm_call.specs.Starting.{IsSafeStart, StartCut, StartFailed, Started, TellsStart}
use Rattle.wasm_call.proofs.HeardLemmas.{heard_typed}
use Rattle.wasm_call.proofs.RunEndLemmas.{Answers, with_held, less_within, run_well, run_cut, run_lacked, lacked_well, run_answered, run_limited, reply_unstuck, reply_well, reply_cut, reply_trapped, reply_refused}

-- it returns nothing, or ends early
pub returns_nothing : (p : ObjectParts) (n i turns : ℕ) → IsSafeStart (machine_in p) n i → turns < 1000000000 →
    IsSafe (machine_in p) n [] (Some i) [] turns
returns_nothing p n i turns safe few k heard answers within typed =
    safe k heard answers (omega (arith, within, few)) typed

module _ {T H E : Type 0} (r : Relations T H E) (p : ObjectParts) (n i turns : ℕ)
    (start : IsSafeStart (machine_in p) n i) (few : turns < 1000000000) (t t' : T) (host host' : H) (e e' : E)
    (q : ObjectParts) (rest : q ≡ record p { held = q.held }) where
  abbrev moves : Moving T H E
  moves = typed r

  abbrev before_it : Surrounded T H E
  before_it = surrounded (store_in p 0 t) host e

  abbrev behind_it : ℕ → Surrounded T H E
  behind_it spent = surrounded (store_in (with_held p q.held) spent t') host' e'

  safe : IsSafe (machine_in p) n [] (Some i) [] turns
  safe = returns_nothing p n i turns start few

  -- the objects that it left
  at_parts : (P : ObjectParts → Type 0) → P (with_held p q.held) → P q
  at_parts P h = subst P (sym rest) h

  abbrev StartedAs : Result ⊤ Refusal → ℕ → Reply → Type 0
  StartedAs result spent answer = Started moves n i answer turns before_it result (behind_it spent)

  abbrev StartedIn : Result ⊤ Refusal → ℕ → Reply → ObjectParts → Type 0
  StartedIn result spent answer o =
      Started moves n i answer turns before_it result (surrounded (store_in o spent t') host' e')

  -- ---- what was heard

  module _ (spent : ℕ) (heard : List Asking)
      (chain : Chain moves (outside before_it) heard (outside (behind_it spent))) where
    heard_are : AreTyped (answers_in heard ++ [])
    heard_are = heard_typed r (outside before_it) (outside (behind_it spent)) heard chain

    hears : Hears moves before_it heard (behind_it spent)
    hears = chain

  -- ---- there was no memory, in the run or in a step of the host

  module _ (x : Unfinished)
      (y : RunUnfinishes moves p n [] turns (outside before_it) q.held (outside (behind_it x.turns)) x (Some i)) where
    unfinished_left : IsWellFormed (machine_in (with_held p q.held))
    unfinished_left = by_kind y where
      by_kind : RunUnfinishes moves p n [] turns (outside before_it) q.held (outside (behind_it x.turns)) x (Some i) →
          IsWellFormed (machine_in (with_held p q.held))
      by_kind (inl z) =
          run_well moves p n [] (Some i) [] (λ s. reply.Done) turns safe t t' host host' e e' q.held x.turns z.within
          z.heard (heard_are x.turns z.heard z.chain) (hears x.turns z.heard z.chain) z.halts
      by_kind (inr z) =
          lacked_well moves p n [] (Some i) [] (λ s. reply.Done) turns safe t t' host host' e e' q.held x.turns
          (less_within x.turns turns z.within) z.heard (heard_are x.turns z.heard z.chain)
          (hears x.turns z.heard z.chain) z.exhausts z.within

    pub unfinished_well : IsWellFormed (machine_in q)
    unfinished_well = at_parts (λ o. IsWellFormed (machine_in o)) unfinished_left

    out_of_memory : (answer : Reply) → StartedAs (Err refusal.OutOfMemory) x.turns answer
    out_of_memory answer = by_kind y where
      by_kind : RunUnfinishes moves p n [] turns (outside before_it) q.held (outside (behind_it x.turns)) x (Some i) →
          StartedAs (Err refusal.OutOfMemory) x.turns answer
      by_kind (inl z) =
          inl (record {
            led =
                run_cut moves p n [] (Some i) [] (λ s. answer) turns safe t t' host host' e e' q.held x.turns z.within
                z.heard (heard_are x.turns z.heard z.chain) (hears x.turns z.heard z.chain) z.halts;
            within = z.within;
          })
      by_kind (inr z) =
          inr (record {
            led =
                run_lacked moves p n [] (Some i) [] (λ s. answer) turns safe t t' host host' e e' q.held x.turns
                (less_within x.turns turns z.within) z.heard (heard_are x.turns z.heard z.chain)
                (hears x.turns z.heard z.chain) z.exhausts;
            within = z.within;
          })

    pub unfinished_started : (result : Result ⊤ Refusal) (spent : ℕ) → result ≡ Err refusal.OutOfMemory →
        spent ≡ x.turns → (answer : Reply) → StartedIn result spent answer q
    unfinished_started result spent er es answer =
        at_parts (StartedIn result spent answer)
        (subst (λ (k : ℕ). StartedAs result k answer) (sym es)
        (subst (λ (o : Result ⊤ Refusal). StartedAs o x.turns answer) (sym er) (out_of_memory answer)))

  -- ---- a reply

  module _ (x : RunReply)
      (y : RunReplies moves p n [] turns (outside before_it) q.held (outside (behind_it x.turns)) x (Some i)) where
    are_typed : AreTyped (answers_in y.heard ++ [])
    are_typed = heard_are x.turns y.heard y.chain

    own_hears : Hears moves before_it y.heard (behind_it x.turns)
    own_hears = hears x.turns y.heard y.chain

    pub replied_unstuck : IsUnstuck x.how
    replied_unstuck =
        reply_unstuck moves p n [] (Some i) [] (λ s. reply.Done) turns safe t t' host host' e e' q.held x.turns y.within
        y.heard are_typed own_hears x.how y.replies

    pub replied_well : IsWellFormed (machine_in q)
    replied_well =
        at_parts (λ o. IsWellFormed (machine_in o))
        (reply_well moves p n [] (Some i) [] (λ s. reply.Done) turns safe t t' host host' e e' q.held x.turns y.within y.heard
        are_typed own_hears x.how y.replies)

    abbrev RepliedAs : How → Type 0
    RepliedAs how = RepliesBy (setting_in p turns) (calling n [] (Some i)) p.held turns x.turns y.heard q.held how

    cut : (answer : Reply) (how : How) → RepliedAs how → StartCut moves n i answer turns before_it (behind_it x.turns)
    cut answer how l = record {
      led =
          reply_cut moves p n [] (Some i) [] (λ s. answer) turns safe t t' host host' e e' q.held x.turns y.within y.heard are_typed
          own_hears how l;
      within = y.within;
    }

    abbrev Says : Reply → Reply → Type 0
    Says answer says =
        Answers moves p n [] (Some i) [] (λ s. answer) turns safe t t' host host' e e' q.held x.turns y.within y.heard are_typed
        own_hears says

    failed_by : (why : Refusal) (answer : Reply) → Says answer (reply.Refused why) →
        StartCut moves n i answer turns before_it (behind_it x.turns) →
        StartFailed moves n i answer turns before_it why (behind_it x.turns)
    failed_by refusal.OutOfMemory answer a c = inl c
    failed_by why answer a c = a

    started_by : (how : How) (result : Result ⊤ Refusal) → RepliedAs how → TellsStart how result → (answer : Reply) →
        StartedAs result x.turns answer
    started_by (how.Returned v) result l told answer =
        subst (λ (o : Result ⊤ Refusal). StartedAs o x.turns answer) (sym told)
        (run_answered moves p n [] (Some i) [] (λ s. answer) turns safe t t' host host' e e' q.held x.turns y.within y.heard
        are_typed own_hears (λ w. Values (state w [] (reverse v.items))) l answer (λ w ew. refl))
    started_by (how.Trapped trap) result l told answer =
        subst (λ (o : Result ⊤ Refusal). StartedAs o x.turns answer) (sym told)
        (reply_trapped moves p n [] (Some i) [] (λ s. answer) turns safe t t' host host' e e' q.held x.turns y.within y.heard
        are_typed own_hears trap l)
    started_by (how.Refused why) result l told answer =
        subst (λ (o : Result ⊤ Refusal). StartedAs o x.turns answer) (sym told)
        (failed_by why answer
        (reply_refused moves p n [] (Some i) [] (λ s. answer) turns safe t t' host host' e e' q.held x.turns y.within y.heard
        are_typed own_hears why l) (cut answer (how.Refused why) l))
    started_by how.TurnLimit result l told answer =
        subst (λ (o : Result ⊤ Refusal). StartedAs o x.turns answer) (sym told)
        (run_limited moves p n [] (Some i) [] (λ s. answer) turns safe t t' host host' e e' q.held x.turns y.within y.heard
        are_typed own_hears l.0 l.1)
    started_by how.Stuck result l told answer = absurd told

    pub replied_started : (result : Result ⊤ Refusal) → TellsStart x.how result → (answer : Reply) →
        StartedIn result x.turns answer q
    replied_started result told answer =
        at_parts (StartedIn result x.turns answer) (started_by x.how result y.replies told answer)
