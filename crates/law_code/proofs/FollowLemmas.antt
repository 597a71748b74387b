-- Runs, one command after another; each finished command has a reply; and what each command keeps, a run and a stop
-- keep.
use Rattle.std.proofs.Common.{◌≡◌, ℕ, zero, suc, ◌+◌, ◌≤◌, List, [], ◌∷◌, ◌++◌, length, take, slice_get, Option, Some, None, option_and_then, inl, inr, refl, sym, ap, ◌∙◌, subst, length-append, append_assoc, append-nil}
use Rattle.std.specs.Prelude.{Bool, true, false, if◌then◌else◌, nat_eq, option_map}
use Rattle.std.proofs.lemmas.Option.{same_Some, none-some, option_and_then_some}
use Rattle.wasm_types.specs.Each.{Each}
use Rattle.wasm_syntax.specs.declared.declarations.ModuleDecl.{ModuleDecl}
use Rattle.wasm_values.specs.declared.refusals.Refusal.TheVariants.{TurnLimit}
use Rattle.spec_machine.specs.Machine.{Machine}
use Rattle.spec_machine.specs.declared.command.Command.{Command}
use Rattle.spec_machine.specs.declared.reply.Reply.{Reply}
use Rattle.spec_machine.specs.declared.reply.Reply.TheVariants.{Refused}
use Rattle.law_store.proofs.Lists.{each_rest, each_take}
use Rattle.spec_execution.specs.Askings.{Answer}
use Rattle.spec_execution.specs.Commands.{Finish, Replied, Early}
use Rattle.spec_execution.specs.Outcomes.{Stopped, Exhausted}
use Rattle.spec_execution.specs.Runs.{State, behind, finished, stopped, exhausted, instantiates, turns_of, finish_of, step, run, next_by, run_before, IsStop}
use Rattle.spec_execution.proofs.LaterWorldLemmas.{end_of}
use Rattle.law_code.specs.RunLaws.{RunsFollow, EachHasAReply}

-- commands after others
and_then_on : {A B C : Type 0} (f : A → Option B) (g : B → Option C) (o : Option A) →
    option_and_then (λ a. option_and_then g (f a)) o ≡ option_and_then g (option_and_then f o)
and_then_on f g None = refl
and_then_on f g (Some a) = refl

-- what is there by a condition, or behind a function
pub if_some : {A : Type 0} (b : Bool) (o : Option A) (a : A) → (if b then o else None) ≡ Some a → o ≡ Some a
if_some true o a p = p
if_some false o a p = absurd (none-some a p)

pub map_some : {A B : Type 0} (f : A → B) (o : Option A) (b : B) → option_map f o ≡ Some b →
    (a : A) × (o ≡ Some a) × (f a ≡ b)
map_some f None b p = absurd (none-some b p)
map_some f (Some a) b p = (a, refl, same_Some (f a) b p)

and_then_same : {A B : Type 0} (f g : A → Option B) (o : Option A) → ((a : A) → f a ≡ g a) →
    option_and_then f o ≡ option_and_then g o
and_then_same f g None h = refl
and_then_same f g (Some a) h = h a

-- a finished command's reply stands behind the replies before
record OneReply (s t : State) : Type 0 where
  reply : Reply
  is : t.replies ≡ s.replies ++ reply ∷ []

finished_reply : (turns : ℕ) (s t : State) (x : Finish) → finished turns s x ≡ Some t → OneReply s t
finished_reply turns s t (Replied reply w) p =
    record { reply = reply; is = ap (λ (u : State). u.replies) (sym (same_Some _ t p)) }
finished_reply turns s t (Early Stopped w) p =
    record { reply = Refused TurnLimit; is = ap (λ (u : State). u.replies) (sym (same_Some _ t p)) }
finished_reply turns s t (Early e w) p = absurd (none-some t p)

-- a run adds a reply for each command
record Replies (s : State) (n : ℕ) (t : State) : Type 0 where
  new : List Reply
  is : t.replies ≡ s.replies ++ new
  as_many : length new ≡ n

module _ (modules : List ModuleDecl) where
  pub run_append : (s : State) (xs ys : List Command) →
      run modules s (xs ++ ys) ≡ option_and_then (λ t. run modules t ys) (run modules s xs)
  run_append s [] ys = refl
  run_append s (c ∷ xs) ys =
      and_then_same (λ t. run modules t (xs ++ ys)) (λ t. option_and_then (λ u. run modules u ys) (run modules t xs))
      (step modules s c) (λ t. run_append t xs ys)
      ∙ and_then_on (λ t. run modules t xs) (λ u. run modules u ys) (step modules s c)

  run_adds : (s t : State) (commands : List Command) → run modules s commands ≡ Some t →
      Replies s (length commands) t
  run_adds s t [] p = record {
    new = [];
    is = ap (λ (u : State). u.replies) (sym (same_Some s t p)) ∙ sym (append-nil s.replies);
    as_many = refl;
  }
  run_adds s t (c ∷ commands) p =
      option_and_then_some (λ u. run modules u commands) (step modules s c) t p (λ u q e.
      let one : OneReply s u = finished_reply (turns_of s.machine) s u (finish_of modules (turns_of s.machine) s c) q in
      let rest : Replies u (length commands) t = run_adds u t commands e in
      record {
        new = one.reply ∷ rest.new;
        is = rest.is ∙ ap (λ rs. rs ++ rest.new) one.is ∙ append_assoc s.replies (one.reply ∷ []) rest.new;
        as_many = ap suc rest.as_many;
      })

  pub run_replies : (s t : State) (commands : List Command) → run modules s commands ≡ Some t →
      length t.replies ≡ length s.replies + length commands
  run_replies s t commands p =
      let r : Replies s (length commands) t = run_adds s t commands p in
      ap length r.is ∙ length-append s.replies r.new ∙ ap (λ n. length s.replies + n) r.as_many

  -- what each command keeps of a store and of the answers that are left, with turns of which this holds
  module _ (Held : Machine → List Answer → Type 0) (Few : ℕ → Type 0) (IsGood : Command → Type 0)
      (few : (s : State) → Held s.machine s.answers → Few (turns_of s.machine))
      (keeps : (turns : ℕ) (s : State) (c : Command) → Few turns → Held s.machine s.answers → IsGood c →
      Held (end_of (finish_of modules turns s c)).machine (end_of (finish_of modules turns s c)).answers) where
    abbrev Holds : State → Type 0
    Holds s = Held s.machine s.answers

    abbrev HoldsAt : Finish → Type 0
    HoldsAt x = Held (end_of x).machine (end_of x).answers

    finished_holds : (turns : ℕ) (s t : State) (x : Finish) → HoldsAt x → finished turns s x ≡ Some t → Holds t
    finished_holds turns s t (Replied reply w) h p = subst Holds (same_Some _ t p) h
    finished_holds turns s t (Early Stopped w) h p = subst Holds (same_Some _ t p) h
    finished_holds turns s t (Early e w) h p = absurd (none-some t p)

    stopped_holds : (turns : ℕ) (s t : State) (x : Finish) → HoldsAt x → stopped turns s x ≡ Some t → Holds t
    stopped_holds turns s t (Replied reply w) h p =
        subst Holds (same_Some _ t (if_some (nat_eq w.turns 0) (Some (behind turns w s.replies)) t p)) h
    stopped_holds turns s t (Early Stopped w) h p = subst Holds (same_Some _ t p) h
    stopped_holds turns s t (Early e w) h p = absurd (none-some t p)

    exhausted_holds : (turns : ℕ) (s t : State) (x : Finish) → HoldsAt x → exhausted turns s x ≡ Some t → Holds t
    exhausted_holds turns s t (Early Exhausted w) h p =
        subst Holds (same_Some _ t (if_some (nat_eq w.turns 1) (Some (behind turns w s.replies)) t p)) h
    exhausted_holds turns s t (Early e w) h p = absurd (none-some t p)
    exhausted_holds turns s t (Replied reply w) h p = absurd (none-some t p)

    pub step_holds : (s t : State) (c : Command) → Holds s → IsGood c → step modules s c ≡ Some t → Holds t
    step_holds s t c h g p =
        finished_holds (turns_of s.machine) s t (finish_of modules (turns_of s.machine) s c)
        (keeps (turns_of s.machine) s c (few s h) h g) p

    pub run_holds : (s t : State) (commands : List Command) → Holds s → Each commands IsGood →
        run modules s commands ≡ Some t → Holds t
    run_holds s t [] h g p = subst Holds (same_Some s t p) h
    run_holds s t (c ∷ commands) h g p =
        option_and_then_some (λ u. run modules u commands) (step modules s c) t p (λ u q e.
        run_holds u t commands (step_holds s u c h (g zero c refl) q) (each_rest IsGood c commands g) e)

    -- the next command ended in a way that keeps this, too
    next_holds : (ended : ℕ → State → Finish → Option State)
        → ((turns : ℕ) (s t : State) (x : Finish) → HoldsAt x → ended turns s x ≡ Some t → Holds t)
        → (turns : ℕ) (s t : State) (o : Option Command) → Few turns → Holds s →
        ((c : Command) → o ≡ Some c → IsGood c) → next_by modules ended turns o s ≡ Some t → Holds t
    next_holds ended holds turns s t None few_turns h g p = absurd (none-some t p)
    next_holds ended holds turns s t (Some c) few_turns h g p =
        holds turns s t (finish_of modules turns s c) (keeps turns s c few_turns h (g c refl)) p

    after_holds : (ended : ℕ → State → Finish → Option State)
        → ((turns : ℕ) (s t : State) (x : Finish) → HoldsAt x → ended turns s x ≡ Some t → Holds t)
        → (s t : State) (commands : List Command) (n turns : ℕ) → Few turns → Holds s → Each commands IsGood →
        option_and_then (next_by modules ended turns (slice_get commands n)) (run modules s (take n commands)) ≡ Some t
        → Holds t
    after_holds ended holds s t commands n turns few_turns h g p =
        option_and_then_some (next_by modules ended turns (slice_get commands n)) (run modules s (take n commands)) t p
        (λ u q e.
        next_holds ended holds turns u t (slice_get commands n) few_turns
        (run_holds s u (take n commands) h (each_take IsGood n commands g) q) (λ c at. g n c at) e)

    before_holds : (s t : State) (commands : List Command) (n : ℕ) → Holds s → Each commands IsGood →
        run_before modules s commands n ≡ Some t → Holds t
    before_holds s t commands n h g p =
        let run_is : (u : State) × (run modules s (take n commands) ≡ Some u) × (record u { turns = 0 } ≡ t) =
        map_some (λ (u : State). record u { turns = 0 }) (run modules s (take n commands)) t
        (if_some (instantiates (slice_get commands n)) _ t p) in
        subst Holds run_is.2 (run_holds s run_is.0 (take n commands) h (each_take IsGood n commands g) run_is.1)

    -- a stop of each kind
    pub stop_holds : (s t : State) (commands : List Command) (n turns : ℕ) →
        ((k : ℕ) → k ≤ turns_of s.machine → Few k) → Holds s → Each commands IsGood →
        IsStop modules s commands n turns t → Holds t
    stop_holds s t commands n turns below h g stop =
        elim stop [
          | inl p ↦ after_holds stopped stopped_holds s t commands n turns (below turns p.0) h g p.1
          | inr q ↦ elim q [
            | inl p ↦ after_holds exhausted exhausted_holds s t commands n (suc turns) (below (suc turns) p.0) h g p.1
            | inr p ↦ before_holds s t commands n h g p.1
          ]
        ]

pub runs_follow : RunsFollow
runs_follow = run_append

pub each_has_a_reply : EachHasAReply
each_has_a_reply = run_replies
