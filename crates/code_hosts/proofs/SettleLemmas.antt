-- The end of a function goes outwards.
use Rattle.std.proofs.Common.{◌≡◌, ℕ, ◌+◌, ◌-◌, ◌*◌, ◌≤◌, ◌<◌, length, List, [], ◌∷◌, ◌++◌, Some, refl, sym, ap, ◌∙◌, subst, arith}
use Rattle.std.proofs.lemmas.List.{append-nil}
use Rattle.std.specs.Global.{Global as GlobalSpec}
use Rattle.std.specs.Prelude.{Vec}
use Rattle.wasm_types.specs.declared.value_types.ValType.{ValType}
use Rattle.wasm_objects.specs.declared.raw.RawVal.{RawVal}
use Rattle.wasm_values.specs.declared.store_id.StoreId.{StoreId}
use Rattle.wasm_meter.specs.declared.call_hook.CallHook.TheVariants as event
use Rattle.spec_machine.specs.Machine.{Machine, EngineParts}
use Rattle.spec_execution.specs.Activations.{Activation}
use Rattle.spec_execution.specs.Askings.{Question, Answer, Asking}
use Rattle.spec_execution.specs.Checks.{pass_behind}
use Rattle.spec_execution.specs.Outcomes.{World, Outcome, Trapped, Refused, Stuck}
use Rattle.store_state.specs.Parts.{ProgramParts, HeldParts, held_nothing}
use Rattle.code_leaps.specs.Leading.{Doing, Setting, at, halted, Leads}
use Rattle.code_stack.specs.declared.steps.HostCall.{HostCall}
use Rattle.code_run.specs.declared.thread.Thread.{Thread}
use Rattle.code_leaps.proofs.PartLemmas.{leads_none, leads_from, leads_within, stops_within}
use Rattle.code_hosts.specs.declared.bounds.Bounds.{Bounds}
use Rattle.code_hosts.specs.declared.replies.How.{How}
use Rattle.code_hosts.specs.declared.replies.How.TheVariants as how
use Rattle.code_hosts.specs.declared.replies.Reply.{Reply}
use Rattle.code_hosts.specs.Behind.{ended, PassesBy, Passes}
use Rattle.code_hosts.specs.Hosting.{IsOpen, opened, Calls, Asks, back_to, outwards}
use Rattle.code_hosts.specs.Rounds.{ends_in, IsEnd, IsLast, IsNearer, RoundBy, Rounds, Lacks}
use Rattle.code_hosts.specs.Settling.{GoesOn, telling}
use Rattle.code_hosts.specs.States.{waiting_of, around_of, due_of}
use Rattle.code_hosts.specs.declared.rounds.Lack.{Lack}
use Rattle.code_hosts.specs.declared.rounds.Lack.TheVariants as lack
use Rattle.code_hosts.specs.declared.rounds.Round.{Round}
use Rattle.code_hosts.specs.declared.rounds.Round.TheVariants as round
use Rattle.code_hosts.specs.declared.states.Open.TheVariants as work
use Rattle.code_hosts.specs.declared.states.Waiting.{Waiting as Waits}
use Rattle.code_hosts.proofs.ContextLemmas.{around_more, past_code, halts_now, telling_halts}
use Rattle.code_hosts.proofs.RoundLemmas.{rounds_outwards, lacks_outwards, rounds_from, lacks_from, rounds_on, lacks_on}

-- an early end goes past code
pub early_past_code : (t : Thread) (call : HostCall) (x : How) → ((v : Vec RawVal GlobalSpec) → x ≡ how.Returned v → ⊥) →
    (w : World) → back_to (Calls t call) (ended x w) ≡ ended x w
early_past_code t call (how.Returned v) other w = absurd (other v refl)
early_past_code t call (how.Trapped x) other w = past_code t call (Trapped x) w
early_past_code t call (how.Refused why) other w = past_code t call (Refused why) w
early_past_code t call how.Stuck other w = past_code t call Stuck w
early_past_code t call how.TurnLimit other w = past_code t call _ w

-- all but one are ends that go outwards
pub is_end : (x : How) → (x ≡ how.TurnLimit → ⊥) → IsEnd x
is_end (how.Returned v) other = tt
is_end (how.Trapped t) other = tt
is_end (how.Refused why) other = tt
is_end how.Stuck other = tt
is_end how.TurnLimit other = absurd (other refl)

pub ended_halts : (x : How) (w : World) → halted (ended x w) ≡ Some w
ended_halts (how.Returned v) w = refl
ended_halts (how.Trapped t) w = refl
ended_halts (how.Refused why) w = refl
ended_halts how.Stuck w = refl
ended_halts how.TurnLimit w = refl

-- the same, of turns and of a round that are these
module _ {H W : Type 0} (g : Setting H) (moves : W → Question → Answer → W → Type 0) (due : Doing) (h : H) (o : W)
    (left n m : ℕ) where
  pub rounds_as : (r s : Round) → m ≡ n → s ≡ r → (around : List Waits) (h' : H) (o' : W) →
      Rounds g moves due h o left n r around h' o' → Rounds g moves due h o left m s around h' o'
  rounds_as r s em es around h' o' x =
      subst (λ (k : ℕ). Rounds g moves due h o left k s around h' o') (sym em)
      (subst (λ (q : Round). Rounds g moves due h o left n q around h' o') (sym es) x)

  pub lacks_as : (r s : Lack) → m ≡ n → s ≡ r → (h' : H) (o' : W) → Lacks g moves due h o left n r h' o' →
      Lacks g moves due h o left m s h' o'
  lacks_as r s em es h' o' x =
      subst (λ (k : ℕ). Lacks g moves due h o left k s h' o') (sym em)
      (subst (λ (q : Lack). Lacks g moves due h o left n q h' o') (sym es) x)

-- ---- what goes on with no turn and no question

module _ {W : Type 0} (program : ProgramParts) (bounds : Bounds) (id : StoreId) (engine : EngineParts)
    (moves : W → Question → Answer → W → Type 0) (go : Outcome → Outcome) (x : How) (h : HeldParts) (o : W)
    (left : ℕ) where
  abbrev stores : Setting HeldParts
  stores = opened program bounds id engine

  abbrev behind_end : Doing
  behind_end w = go (ended x w)

  -- what means this in each store
  reaches : (b : Doing) → ((base : Machine) → IsOpen bounds id engine base → (turns : ℕ) (before : List Asking)
      (answers : List Answer) → behind_end (at stores base h turns before answers)
      ≡ b (at stores base h turns before answers)) → Leads stores behind_end h 0 [] b h
  reaches b e = leads_from stores behind_end b h e 0 [] b h (leads_none stores b h)

  goes_by : (r : Round) → GoesOn id go x r → RoundBy stores behind_end h left 0 [] [] h r
  goes_by (round.Goes now) e =
      reaches (due_of now []) (λ base is turns before answers. e (at stores base h turns before answers) is.id_is)
  goes_by (round.Ends end) e = (
    reaches (ended end) (λ base is turns before answers. e.0 (at stores base h turns before answers)),
    e.1,
  )
  goes_by round.Limit e = absurd e

  pub goes_now : (r : Round) → GoesOn id go x r → Rounds stores moves behind_end h o left 0 r [] h o
  goes_now r e = record { within = omega arith; heard = []; chain = refl; by = goes_by r e }

  pub lacks_now : ((y : Outcome) (w : World) → w.turns ≡ 0 → halted y ≡ Some w → halted (go y) ≡ Some w) →
      Lacks stores moves behind_end h o left 0 lack.Run h o
  lacks_now keeps = record {
    within = omega arith;
    heard = [];
    chain = refl;
    by = halts_now stores behind_end h (λ w none. keeps (ended x w) w none (ended_halts x w));
  }

-- ---- a body goes on behind the border of the call that it asked for

module _ {W : Type 0} (program : ProgramParts) (bounds : Bounds) (id : StoreId) (engine : EngineParts)
    (moves : W → Question → Answer → W → Type 0) (a : Activation) (types : List ValType) (x : How) (h : HeldParts) (o : W)
    (left : ℕ) where
  abbrev back : Doing
  back w = back_to (Asks a types) (ended x w)

  -- what is stuck is told to no body
  pub back_at_once : (n : ℕ) (r : Round) → n ≡ 0 → r ≡ round.Ends x → x ≡ how.Stuck →
      Rounds (opened program bounds id engine) moves back h o left n r [] h o
  back_at_once n r en er e =
      rounds_as (opened program bounds id engine) moves back h o left 0 n (round.Ends x) r en er [] h o
      (goes_now program bounds id engine moves (back_to (Asks a types)) x h o left (round.Ends x)
      (same_end x e, is_end x (λ f. absurd (cc (e, f)))))
    where
      same_end : (y : How) → y ≡ how.Stuck → (w : World) → back_to (Asks a types) (ended y w) ≡ ended y w
      same_end (how.Returned v) f w = absurd (cc f)
      same_end (how.Trapped t) f w = absurd (cc f)
      same_end (how.Refused why) f w = absurd (cc f)
      same_end how.Stuck f w = refl
      same_end how.TurnLimit f w = absurd (cc f)

  module _ (told : Reply) (o1 : W)
      (p : Passes (opened program bounds id engine) moves event.ReturningFromWasm x h o left told o1) where
    abbrev g : Setting HeldParts
    g = opened program bounds id engine

    abbrev border : Doing
    border w = pass_behind event.ReturningFromWasm (ended x w)

    by_how : (y : How) → told.how ≡ y → PassesBy g event.ReturningFromWasm x h left told.turns p.heard y
    by_how y e = subst (λ (y : How). PassesBy g event.ReturningFromWasm x h left told.turns p.heard y) e p.by

    pub back_stopped_at : told.how ≡ how.TurnLimit → Rounds g moves back h o left told.turns round.Limit [] h o1
    back_stopped_at e =
        let l = by_how how.TurnLimit e in
        record {
          within = p.within;
          heard = p.heard;
          chain = p.chain;
          by = (stops_within g (telling a types) border h told.turns p.heard h (λ w. refl) l.0, l.1);
        }

    passes_end : (y : How) → IsEnd y → PassesBy g event.ReturningFromWasm x h left told.turns p.heard y →
        Leads g border h told.turns p.heard (ended y) h
    passes_end (how.Returned v) e l = l
    passes_end (how.Trapped t) e l = l
    passes_end (how.Refused why) e l = l
    passes_end how.Stuck e l = l
    passes_end how.TurnLimit e l = absurd e

    module _ (end : IsEnd told.how) where
      led : Leads g back h told.turns p.heard (λ w. telling a types (ended told.how w)) h
      led =
          leads_within g (telling a types) border h told.turns p.heard h (ended told.how) (passes_end told.how end p.by)

      same_spent : told.turns ≡ told.turns + 0
      same_spent = omega arith

      pub back_on : (r : Round) → GoesOn id (telling a types) told.how r →
          Rounds g moves back h o left told.turns r [] h o1
      back_on r e =
          rounds_as g moves back h o left (told.turns + 0) told.turns r r same_spent refl [] h o1
          (rounds_on g moves back (λ w. telling a types (ended told.how w)) h h o o1 left told.turns p.heard p.within
          p.chain led 0 h o1 [] r
          (goes_now program bounds id engine moves (telling a types) told.how h o1 (left - told.turns) r e))

      pub back_lacks : (n : ℕ) (l : Lack) → n ≡ told.turns → l ≡ lack.Run → Lacks g moves back h o left n l h o1
      back_lacks n l en el =
          lacks_as g moves back h o left (told.turns + 0) n lack.Run l (en ∙ same_spent) el h o1
          (lacks_on g moves back (λ w. telling a types (ended told.how w)) h h o o1 left told.turns p.heard p.within
          p.chain led 0 h o1 lack.Run
          (lacks_now program bounds id engine moves (telling a types) told.how h o1 (left - told.turns)
          (telling_halts a types)))

-- ---- one function that waits after the other

module _ {H W : Type 0} (g : Setting H) (moves : W → Question → Answer → W → Type 0) (due : Doing) (h : H) (o o1 : W)
    (left n : ℕ) (x : How) (around rest : List Waits) (p : Waits) (e : around ≡ rest ++ p ∷ [])
    (before : Rounds g moves due h o left n (round.Ends x) around h o1) where
  abbrev inner : Doing
  inner w = back_to (waiting_of p) (ended x w)

  within_rest : (w : World) → ends_in around x w ≡ outwards (around_of rest) (inner w)
  within_rest w = ap (λ ps. outwards ps (ended x w)) (ap around_of e ∙ around_more rest p)

  pub settles_on : (m : ℕ) (r : Round) (o2 : W) → Rounds g moves inner h o1 (left - n) m r [] h o2 →
      Rounds g moves due h o left (n + m) r rest h o2
  settles_on m r o2 y =
      rounds_on g moves due (ends_in around x) h h o o1 left n before.heard before.within before.chain before.by.0 m h o2
      rest r
      (rounds_from g moves (ends_in around x) (λ w. outwards (around_of rest) (inner w)) h
      (λ base is turns heard answers. within_rest (at g base h turns heard answers)) o1 (left - n) m h o2 rest r
      (rounds_outwards g moves rest inner h o1 (left - n) m h o2 r y))

  pub lacks_behind : (m : ℕ) (r : Lack) (o2 : W) → Lacks g moves inner h o1 (left - n) m r h o2 →
      Lacks g moves due h o left (n + m) r h o2
  lacks_behind m r o2 y =
      lacks_on g moves due (ends_in around x) h h o o1 left n before.heard before.within before.chain before.by.0 m h o2
      r
      (lacks_from g moves (ends_in around x) (λ w. outwards (around_of rest) (inner w)) h
      (λ base is turns heard answers. within_rest (at g base h turns heard answers)) o1 (left - n) m h o2 r
      (lacks_outwards g moves rest inner h o1 (left - n) m h o2 r y))

-- ---- the beginning, and the measure

pub not_settled : {H W : Type 0} (g : Setting H) (moves : W → Question → Answer → W → Type 0) (h : H) (o : W) (left : ℕ)
    (x : How) (around : List Waits) → IsEnd x →
    Rounds g moves (ends_in around x) h o left 0 (round.Ends x) around h o
not_settled g moves h o left x around e = record {
  within = omega arith;
  heard = [];
  chain = refl;
  by = (leads_none g (ends_in around x) h, e);
}

pub not_last : (r : Round) → ((x : How) → r ≡ round.Ends x → ⊥) → (around : List Waits) → IsLast r around
not_last (round.Goes now) other around = tt
not_last (round.Ends x) other around = absurd (other x refl)
not_last round.Limit other around = tt

pub nearer : (r : Round) → ((x : How) → r ≡ round.Ends x → ⊥) → (around : List Waits) (left left' before : ℕ) →
    left' ≤ left → length around < before → IsNearer r around left' (4 * left + before + 2)
nearer (round.Goes (work.Code t)) other around left left' before le lt = omega (arith, le, lt)
nearer (round.Goes (work.Body a why)) other around left left' before le lt = omega (arith, le, lt)
nearer (round.Ends x) other around left left' before le lt = absurd (other x refl)
nearer round.Limit other around left left' before le lt = tt

-- so many turns are within those that are left, whatever is held
module _ {W : Type 0} (g : Setting HeldParts) (moves : W → Question → Answer → W → Type 0) (due : Doing) (o : W)
    (left n : ℕ) (o' : W) where
  pub rounds_within : (r : Round) (around : List Waits) →
      ((h : HeldParts) → Rounds g moves due h o left n r around h o') → n ≤ left
  rounds_within r around f = (f held_nothing).within

  pub lacks_within : (r : Lack) → ((h : HeldParts) → Lacks g moves due h o left n r h o') → n ≤ left
  lacks_within r f = (f held_nothing).within

  -- an end is one that goes outwards
  pub rounds_end : (r : Round) (x : How) → r ≡ round.Ends x → (around : List Waits) →
      ((h : HeldParts) → Rounds g moves due h o left n r around h o') → IsEnd x
  rounds_end r x e around f =
      (rounds_as g moves due held_nothing o left n n r (round.Ends x) refl (sym e) around held_nothing o'
      (f held_nothing)).by.1

-- nothing waits any more
pub settled : {H W : Type 0} (g : Setting H) (moves : W → Question → Answer → W → Type 0) (due : Doing) (h : H) (o : W)
    (left n : ℕ) (r : Round) (ps qs : List Waits) (h' : H) (o' : W) → ps ≡ qs ++ [] →
    Rounds g moves due h o left n r ps h' o' → Rounds g moves due h o left n r qs h' o'
settled g moves due h o left n r ps qs h' o' e x =
    subst (λ (l : List Waits). Rounds g moves due h o left n r l h' o') (e ∙ append-nil qs) x
