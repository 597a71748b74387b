-- The end of a run of a function, on the objects of a store: it is never stuck, what is left is well formed, and without
-- a turn left it is a stop. So of a call by a host, and of a start function.
use Rattle.std.proofs.Common.{◌≡◌, ℕ, suc, ◌+◌, ◌-◌, ◌≤◌, ◌<◌, List, [], ◌++◌, Option, Some, refl, ap, sym, ◌∙◌, subst, arith, add-zero}
use Rattle.std.specs.Prelude.{reverse}
use Rattle.std.proofs.lemmas.List.{append-nil}
use Rattle.std.proofs.lemmas.Option.{same_Some, none-some}
use Rattle.wasm_types.specs.declared.value_types.ValType.{ValType}
use Rattle.wasm_objects.specs.declared.raw.RawVal.{RawVal}
use Rattle.wasm_values.specs.declared.refusals.Refusal.{Refusal}
use Rattle.wasm_values.specs.declared.refusals.Refusal.TheVariants.{TurnLimit}
use Rattle.wasm_values.specs.declared.refusals.Refusal.TheVariants as refusal
use Rattle.wasm_values.specs.declared.refusals.Trap.{Trap}
use Rattle.spec_machine.specs.Machine.{Machine}
use Rattle.spec_machine.specs.WellFormed.{IsWellFormed}
use Rattle.spec_machine.specs.declared.reply.Reply.{Reply}
use Rattle.spec_machine.specs.declared.reply.Reply.TheVariants as reply
use Rattle.spec_execution.specs.Askings.{Answer, Asking, answers_in}
use Rattle.spec_execution.specs.Commands.{Finish, Early, by_run, replied}
use Rattle.spec_execution.specs.Outcomes.{World, world, State, state, Outcome, Values, Branch, Return, Over, Trapped, Refused, Stopped, Waiting, Exhausted, Stuck}
use Rattle.spec_execution.proofs.MoreTurnLemmas.{longer, longer_outcome, IsCut, entry_longer}
use Rattle.law_code.specs.Answers.{AreTyped}
use Rattle.law_code.specs.Good.{IsGoodWorld, IsReturned}
use Rattle.store_state.specs.Engines.{engine_parts}
use Rattle.store_state.specs.Parts.{HeldParts}
use Rattle.code_leaps.specs.Leading as run
use Rattle.code_leaps.specs.Leading.{Doing, halted, Stops, Halts}
use Rattle.code_hosts.specs.Entering.{calling}
use Rattle.code_hosts.specs.Replies.{RepliesBy}
use Rattle.code_hosts.specs.declared.replies.How.{How}
use Rattle.code_hosts.specs.declared.replies.How.TheVariants as how
use Rattle.code_hosts.specs.Replies.{Exhausts}
use Rattle.store_objects.specs.Machines.{base_of}
use Rattle.store_objects.specs.declared.objects.ObjectParts.{ObjectParts}
use Rattle.wasm_call.specs.Invoking.{machine_in, store_in, setting_in, IsSafe, IsUnstuck}
use Rattle.wasm_call.specs.Outcomes.{Leads, answer_of, stop_of, lack_of}
use Rattle.wasm_call.specs.Outside.{Moving, Surrounded, surrounded, Hears}

-- ---- by its outcome

module _ (base : World) (types : List ValType) where
  halted_good : (o : Outcome) (v : World) → IsReturned base types o → halted o ≡ Some v → IsGoodWorld base v
  halted_good (Values s) v r p = subst (IsGoodWorld base) (same_Some s.world v p) r.world
  halted_good (Branch l s) v r p = absurd r
  halted_good (Return s) v r p = absurd r
  halted_good (Over (Trapped t) w) v r p = subst (IsGoodWorld base) (same_Some w v p) r
  halted_good (Over (Refused why) w) v r p = subst (IsGoodWorld base) (same_Some w v p) r
  halted_good (Over Stopped w) v r p = subst (IsGoodWorld base) (same_Some w v p) r
  halted_good (Over (Waiting q) w) v r p = absurd (none-some v p)
  halted_good (Over Exhausted w) v r p = absurd (none-some v p)
  halted_good (Over Stuck w) v r p = absurd r

  -- it is not cut by want of an answer, and of a turn there is to be none more
  uncut : (more : List Answer) (o : Outcome) (v : World) → halted o ≡ Some v → IsCut 0 more o → ⊥
  uncut more (Over Stopped w) v p c = c
  uncut more (Over (Waiting q) w) v p c = none-some v p
  uncut more (Over (Trapped t) w) v p c = c
  uncut more (Over (Refused why) w) v p c = c
  uncut more (Over Exhausted w) v p c = c
  uncut more (Over Stuck w) v p c = c
  uncut more (Values s) v p c = c
  uncut more (Branch l s) v p c = c
  uncut more (Return s) v p c = c

  -- so a host sees where it stands, with more answers left
  stands : (say : State → Reply) (more : List Answer) (o : Outcome) (v : World) → IsReturned base types o →
      halted (longer_outcome 0 more o) ≡ Some v →
      stop_of (by_run Early say replied (longer_outcome 0 more o)) ≡ Some v
  stands say more (Values s) v r p = p
  stands say more (Branch l s) v r p = absurd r
  stands say more (Return s) v r p = absurd r
  stands say more (Over (Trapped t) w) v r p = p
  stands say more (Over (Refused why) w) v r p = p
  stands say more (Over Stopped w) v r p = p
  stands say more (Over (Waiting q) w) v r p = absurd (none-some v p)
  stands say more (Over Exhausted w) v r p = absurd (none-some v p)
  stands say more (Over Stuck w) v r p = absurd r

-- ---- of a function that returns values of these types, or ends early, with at most so many turns

module _ (m : Machine) (n : ℕ) (args : List RawVal) (caller : Option ℕ) (types : List ValType) (most : ℕ)
    (safe : IsSafe m n args caller types most) (turns : ℕ) (few : turns ≤ most) (heard : List Asking)
    (typed : AreTyped (answers_in heard ++ [])) where
  abbrev pub outcome : List Asking → List Answer → Outcome
  outcome before rest = calling n args caller (world m turns before (answers_in heard ++ rest))

  pub returns : (before : List Asking) → (base : World) × IsReturned base types (outcome before [])
  returns before = safe turns before (answers_in heard ++ []) few typed

  pub never_stuck : (w : World) → outcome [] [] ≡ Over Stuck w → ⊥
  never_stuck w p = subst (IsReturned (returns []).0 types) p (returns []).1

  -- where a step of the host had no memory
  pub lacks_well : (w : World) → outcome [] [] ≡ Over Exhausted w → IsWellFormed w.machine
  lacks_well w p =
      let good : IsGoodWorld (returns []).0 w = subst (IsReturned (returns []).0 types) p (returns []).1 in good.well

  -- where it stands with no more turns
  module _ (after : Machine)
      (halts : (before : List Asking) (rest : List Answer) →
      halted (outcome before rest) ≡ Some (world after 0 (before ++ heard) rest)) where
    pub ends_well : IsWellFormed after
    ends_well =
        let good : IsGoodWorld (returns []).0 (world after 0 ([] ++ heard) []) =
        halted_good (returns []).0 types (outcome [] []) (world after 0 ([] ++ heard) []) (returns []).1 (halts [] []) in
        good.well

    with_rest : (before : List Asking) (rest : List Answer) →
        longer 0 rest (world m turns before (answers_in heard ++ [])) ≡ world m turns before (answers_in heard ++ rest)
    with_rest before rest =
        let none : turns + 0 ≡ turns = omega arith in
        ap (λ k. world m k before ((answers_in heard ++ []) ++ rest)) none
        ∙ ap (λ answers. world m turns before (answers ++ rest)) (append-nil (answers_in heard))

    same : (before : List Asking) (rest : List Answer) →
        outcome before rest ≡ longer_outcome 0 rest (outcome before [])
    same before rest =
        ap (calling n args caller) (sym (with_rest before rest))
        ∙ entry_longer 0 rest 0 n args caller (world m turns before (answers_in heard ++ []))
        (uncut (returns before).0 types rest (outcome before []) (world after 0 (before ++ heard) []) (halts before []))

    pub stops : (say : State → Reply) (before : List Asking) (rest : List Answer) →
        stop_of (by_run Early say replied (outcome before rest)) ≡ Some (world after 0 (before ++ heard) rest)
    stops say before rest =
        let stood : halted (longer_outcome 0 rest (outcome before [])) ≡ Some (world after 0 (before ++ heard) rest) =
        ap halted (sym (same before rest)) ∙ halts before rest in
        ap (λ (x : Outcome). stop_of (by_run Early say replied x)) (same before rest)
        ∙ stands (returns before).0 types say rest (outcome before []) (world after 0 (before ++ heard) rest)
        (returns before).1 stood

-- ---- on the objects of a store

-- what a run of a function leaves
abbrev pub with_held : ObjectParts → HeldParts → ObjectParts
with_held p h = record p { held = h }

abbrev pub base_in : ObjectParts → Machine
base_in p = base_of p.id (engine_parts p.engine) p.flags

pub base_is : (p : ObjectParts) (turns : ℕ) → (setting_in p turns).is_base (base_in p)
base_is p turns = record {
  bounded = record {
    ruled = record {
      frames_are = refl;
      fuel_is = refl;
      epochs_are = refl;
      limited_is = refl;
      behaving_is = λ reads. refl;
    };
    hooked_is = refl;
  };
  id_is = refl;
  engine_is = refl;
  behaving_is = refl;
}

-- each base gives one store
pub put_is : (p : ObjectParts) (turns : ℕ) (base : Machine) → (setting_in p turns).is_base base → (h : HeldParts) →
    (setting_in p turns).put base h ≡ machine_in (with_held p h)
put_is p turns base b h = cc (b.id_is, b.engine_is, b.bounded.ruled.limited_is, b.bounded.hooked_is, b.behaving_is)

pub less_within : (spent turns : ℕ) → spent < turns → spent ≤ turns
less_within spent turns less = omega (arith, less)

all_turns : (spent turns : ℕ) → spent ≤ turns → spent + (turns - spent) ≡ turns
all_turns spent turns le = omega (arith, le)

-- a run that took so many turns
module _ {T H E : Type 0} (moves : Moving T H E) (p : ObjectParts) (n : ℕ) (args : List RawVal) (caller : Option ℕ)
    (types : List ValType) (say : State → Reply) (turns : ℕ) (safe : IsSafe (machine_in p) n args caller types turns)
    (t t' : T) (host host' : H) (e e' : E) (h' : HeldParts) (spent : ℕ) (within : spent ≤ turns) (heard : List Asking)
    (typed : AreTyped (answers_in heard ++ []))
    (hears : Hears moves (surrounded (store_in p 0 t) host e) heard
    (surrounded (store_in (with_held p h') spent t') host' e')) where
  abbrev pub due : Doing
  due = calling n args caller

  abbrev pub finish : World → Finish
  finish w = by_run Early say replied (due w)

  abbrev pub before_it : Surrounded T H E
  before_it = surrounded (store_in p 0 t) host e

  abbrev pub behind_it : Surrounded T H E
  behind_it = surrounded (store_in (with_held p h') spent t') host' e'

  -- the reply of a run with all its turns, and where it stands with those that it took
  abbrev pub Answers : Reply → Type 0
  Answers says = Leads moves (λ w. answer_of (finish w)) turns before_it (λ w. Some (says, w)) behind_it

  abbrev pub StopsThere : Type 0
  StopsThere = Leads moves (λ w. stop_of (finish w)) spent before_it (λ w. Some w) behind_it

  -- it stands in this store, and nothing was lacking
  module _ (l : Halts (setting_in p turns) due p.held spent heard h') where
    halts : (before : List Asking) (rest : List Answer) →
        halted (due (world (machine_in p) spent before (answers_in heard ++ rest)))
        ≡ Some (world (machine_in (with_held p h')) 0 (before ++ heard) rest)
    halts before rest = l.by (base_in p) (base_is p turns) before rest

    pub run_well : IsWellFormed (machine_in (with_held p h'))
    run_well =
        ends_well (machine_in p) n args caller types turns safe spent within heard typed (machine_in (with_held p h'))
        halts

    pub run_cut : StopsThere
    run_cut = record {
      heard = heard;
      left = 0;
      within = omega arith;
      chained = hears;
      ends =
          stops (machine_in p) n args caller types turns safe spent within heard typed (machine_in (with_held p h'))
          halts say;
    }

  -- a step of the host had no memory
  abbrev pub LacksThere : Type 0
  LacksThere = Leads moves (λ w. lack_of (finish w)) (suc spent) before_it (λ w. Some w) behind_it

  module _ (l : Exhausts (setting_in p turns) due p.held spent heard h') where
    one_more : spent + 1 ≡ suc spent
    one_more = omega arith

    exhausted : (before : List Asking) (rest : List Answer) →
        due (world (machine_in p) (suc spent) before (answers_in heard ++ rest))
        ≡ Over Exhausted (world (machine_in (with_held p h')) 1 (before ++ heard) rest)
    exhausted before rest =
        ap (λ k. due (world (machine_in p) k before (answers_in heard ++ rest))) (sym one_more)
        ∙ l.by (base_in p) (base_is p turns) 0 before rest

    pub run_lacked : LacksThere
    run_lacked = record {
      heard = heard;
      left = 1;
      within = one_more;
      chained = hears;
      ends = λ before rest. ap (λ o. lack_of (by_run Early say replied o)) (exhausted before rest);
    }

    pub lacked_well : spent < turns → IsWellFormed (machine_in (with_held p h'))
    lacked_well less =
        lacks_well (machine_in p) n args caller types turns safe (suc spent) (omega (arith, less)) heard typed
        (world (machine_in (with_held p h')) 1 ([] ++ heard) []) (exhausted [] [])

  -- it ended so
  module _ (ending : World → Outcome) (l : run.Leads (setting_in p turns) due p.held spent heard ending h') where
    ending_halts : ((w : World) → halted (ending w) ≡ Some w) → Halts (setting_in p turns) due p.held spent heard h'
    ending_halts h = record {
      by = λ base b before rest.
          let m = (setting_in p turns).put base p.held in
          ap (λ k. halted (due (world m k before (answers_in heard ++ rest)))) (sym (add-zero spent))
          ∙ ap halted (l.by base b 0 before rest)
          ∙ h (world ((setting_in p turns).put base h') 0 (before ++ heard) rest);
    }

    pub run_answered : (says : Reply) → ((w : World) → w.machine ≡ machine_in (with_held p h') →
        answer_of (by_run Early say replied (ending w)) ≡ Some (says, w)) → Answers says
    run_answered says h = record {
      heard = heard;
      left = turns - spent;
      within = all_turns spent turns within;
      chained = hears;
      ends = λ before rest.
          let left = turns - spent in
          ap (λ k. answer_of (finish (world (machine_in p) k before (answers_in heard ++ rest))))
          (sym (all_turns spent turns within))
          ∙ ap (λ o. answer_of (by_run Early say replied o)) (l.by (base_in p) (base_is p turns) left before rest)
          ∙ h (world (machine_in (with_held p h')) left (before ++ heard) rest) refl;
    }

    -- in the world of those turns alone
    pub ends_there : due (world (machine_in p) spent [] (answers_in heard ++ []))
        ≡ ending (world (machine_in (with_held p h')) 0 ([] ++ heard) [])
    ends_there =
        ap (λ k. due (world (machine_in p) k [] (answers_in heard ++ []))) (sym (add-zero spent))
        ∙ l.by (base_in p) (base_is p turns) 0 [] []

  -- another turn was due and none was left
  pub run_limited : Stops (setting_in p turns) due p.held spent heard h' → spent ≡ turns →
      Answers (reply.Refused TurnLimit)
  run_limited l full = record {
    heard = heard;
    left = 0;
    within = omega (arith, full);
    chained = hears;
    ends = λ before rest.
        ap (λ k. answer_of (finish (world (machine_in p) k before (answers_in heard ++ rest)))) (sym full)
        ∙ ap (λ o. answer_of (by_run Early say replied o)) (l.by (base_in p) (base_is p turns) before rest);
  }

  -- ---- how it ended

  abbrev pub Replied : How → Type 0
  Replied y = RepliesBy (setting_in p turns) due p.held turns spent heard h' y

  pub reply_unstuck : (y : How) → Replied y → IsUnstuck y
  reply_unstuck (how.Returned v) l = tt
  reply_unstuck (how.Trapped x) l = tt
  reply_unstuck (how.Refused why) l = tt
  reply_unstuck how.TurnLimit l = tt
  reply_unstuck how.Stuck l =
      never_stuck (machine_in p) n args caller types turns safe spent within heard typed
      (world (machine_in (with_held p h')) 0 ([] ++ heard) []) (ends_there (λ w. Over Stuck w) l)

  reply_halts : (y : How) → Replied y → Halts (setting_in p turns) due p.held spent heard h'
  reply_halts (how.Returned v) l = ending_halts (λ w. Values (state w [] (reverse v.items))) l (λ w. refl)
  reply_halts (how.Trapped x) l = ending_halts (λ w. Over (Trapped x) w) l (λ w. refl)
  reply_halts (how.Refused why) l = ending_halts (λ w. Over (Refused why) w) l (λ w. refl)
  reply_halts how.TurnLimit l = record { by = λ base b before rest. ap halted (l.0.by base b before rest) }
  reply_halts how.Stuck l = absurd (reply_unstuck how.Stuck l)

  pub reply_well : (y : How) → Replied y → IsWellFormed (machine_in (with_held p h'))
  reply_well y l = run_well (reply_halts y l)

  pub reply_cut : (y : How) → Replied y → StopsThere
  reply_cut y l = run_cut (reply_halts y l)

  pub reply_trapped : (x : Trap) → Replied (how.Trapped x) → Answers (reply.Refused (refusal.Trap x))
  reply_trapped x l = run_answered (λ w. Over (Trapped x) w) l (reply.Refused (refusal.Trap x)) (λ w ew. refl)

  pub reply_refused : (why : Refusal) → Replied (how.Refused why) → Answers (reply.Refused why)
  reply_refused why l = run_answered (λ w. Over (Refused why) w) l (reply.Refused why) (λ w ew. refl)
