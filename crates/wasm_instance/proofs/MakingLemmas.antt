-- The turn that makes an instance, and its start function, by what the code answers.
use Rattle.std.proofs.Common.{inl, inr, ◌≡◌, ℕ, suc, ◌+◌, ◌-◌, ◌≤◌, List, [], ◌++◌, length, slice_get, Some, None, Result, Ok, Err, refl, sym, ap, ◌∙◌, subst, arith, zero-add, append-nil}
use Rattle.std.specs.Prelude.{⊤}
use Rattle.wasm_syntax.specs.declared.declarations.ModuleDecl.{ModuleDecl}
use Rattle.wasm_values.specs.Handles.{instance_of}
use Rattle.wasm_values.specs.declared.externals.Extern.{Extern}
use Rattle.wasm_values.specs.declared.handles.Instance.{Instance}
use Rattle.wasm_values.specs.declared.refusals.Refusal.{Refusal}
use Rattle.wasm_values.specs.declared.refusals.Refusal.TheVariants.{OutOfMemory, Trap, TurnLimit}
use Rattle.wasm_values.specs.declared.refusals.Trap.{Trap as Cause}
use Rattle.spec_machine.specs.Machine.{Machine}
use Rattle.spec_machine.specs.declared.reply.Reply.{Reply}
use Rattle.spec_machine.specs.declared.reply.Reply.TheVariants as reply
use Rattle.spec_execution.specs.Allocation.{function_numbers}
use Rattle.spec_execution.specs.Askings.{Answer, Asking, answers_in}
use Rattle.spec_execution.specs.Bodies.{exec}
use Rattle.spec_execution.specs.Commands.{Early, by_run, instance_reply, replied}
use Rattle.spec_execution.specs.Entering.{entry}
use Rattle.spec_execution.specs.Instantiation.{start, started}
use Rattle.spec_execution.specs.Operands as on
use Rattle.spec_execution.specs.Outcomes.{world, Over, Stuck}
use Rattle.spec_execution.specs.Segments.{Done, OutOfRange, make}
use Rattle.wasm_call.specs.Outcomes.{Leads, answer_of, stop_of, lack_of}
use Rattle.wasm_call.specs.Outside.{Moving, Surrounded, surrounded}
use Rattle.wasm_call.specs.Starting.{IsSafeStart, start_finish, StartCut, StartLacked, StartFailed, Started}
use Rattle.instance_parts.specs.Preparing.{EndsAs, IsMade}
use Rattle.instance_parts.specs.declared.making.Ending.{Ending}
use Rattle.instance_parts.specs.declared.making.Ending.TheVariants as ending
use Rattle.instance_parts.specs.declared.making.Made.{Made}
use Rattle.wasm_instance.specs.Instances.{told_of}
use Rattle.wasm_instance.specs.Making.{IsReady, making_finish, MakingCut, MakingLacked, MakingFailed, Makes}
use Rattle.wasm_instance.proofs.WellFormedLemmas.{safe_start, never_sticks}

one_less : (n : ℕ) → 1 ≤ n → 1 + (n - 1) ≡ n
one_less n h = omega arith

one_more : (n : ℕ) → 1 ≤ n → n ≡ suc (n - 1)
one_more n h = omega arith

-- turns of a start function
pub started_within : {T H E : Type 0} (r : Moving T H E) (n i : ℕ) (answer : Reply) (turns : ℕ)
    (old new : Surrounded T H E) (result : Result ⊤ Refusal) → Started r n i answer turns old result new →
    new.store.turns ≤ turns
started_within r n i answer turns old new (Ok u) h = omega (arith, h.within)
started_within r n i answer turns old new (Err why) h = by_cause why h where
  by_cause : (why : Refusal) → StartFailed r n i answer turns old why new → new.store.turns ≤ turns
  by_cause OutOfMemory (inl k) = k.within
  by_cause OutOfMemory (inr k) = omega (arith, k.within)
  by_cause why k = omega (arith, k.within)

module _ {T H E : Type 0} (r : Moving T H E) (d : ModuleDecl) (imports : List Extern) (turns : ℕ)
    (old : Surrounded T H E) where
  abbrev m : Machine
  m = old.store.machine

  -- the store afterwards, with what is outside of it as it was
  abbrev pub after : Machine → ℕ → Surrounded T H E
  after new k = surrounded (record old.store { machine = new; turns = k }) old.host old.epochs

  -- the same with its numbers told otherwise
  told_as : (new : ℕ → Surrounded T H E) (i j : Result Instance Refusal) (n k : ℕ) → i ≡ j → n ≡ k →
      Makes r d imports turns old j (new k) → Makes r d imports turns old i (new n)
  told_as new i j n k e f h =
      subst (λ (x : Result Instance Refusal). Makes r d imports turns old x (new n)) (sym e)
      (subst (λ (x : ℕ). Makes r d imports turns old j (new x)) (sym f) h)

  -- ---- no turn was left, or memory was wanting before it

  pub none_left : turns ≡ 0 → (i : Result Instance Refusal) (n : ℕ) → i ≡ Err TurnLimit → n ≡ 0 →
      Makes r d imports turns old i (after m n)
  none_left none i n told zero_is = told_as (after m) i (Err TurnLimit) n 0 told zero_is (record {
    heard = [];
    left = turns;
    within = zero-add turns;
    chained = refl;
    ends = λ before rest.
        ap (λ (k : ℕ). answer_of (making_finish d imports (world m k before rest))) none
        ∙ ap (λ (bs : List Asking). Some (reply.Refused TurnLimit, world m 0 bs rest)) (sym (append-nil before))
        ∙ ap (λ (k : ℕ). Some (reply.Refused TurnLimit, world m k (before ++ []) rest)) (sym none);
  })

  pub short_ends : (new : Machine) → new ≡ m → (i : Result Instance Refusal) (n : ℕ) → i ≡ Err OutOfMemory → n ≡ 0 →
      Makes r d imports turns old i (after new n)
  short_ends new same i n told zero_is = told_as (after new) i (Err OutOfMemory) n 0 told zero_is
      (inl (subst (λ (x : Machine). MakingCut r d imports turns old (after x 0)) (sym same) (record {
        led = record {
          heard = [];
          left = 0;
          within = refl;
          chained = refl;
          ends = λ before rest. ap (λ (bs : List Asking). Some (world m 0 bs rest)) (sym (append-nil before));
        };
        within = omega arith;
      })))

  -- ---- the turn

  abbrev made_reply : Reply
  made_reply = reply.Instance (instance_of m.id (length m.instances))

  module _ (some : 1 ≤ turns) where
    turn_is : (left : ℕ) (before : List Asking) (rest : List Answer) →
        making_finish d imports (world m (suc left) before rest)
        ≡ by_run Early (instance_reply m) replied
        (started exec 0 d imports (world m left before rest) (make m d imports))
    turn_is left before rest = refl

    -- it came to its end with no question
    at_once : (says : Reply) (new : Machine) →
        ((left : ℕ) (before : List Asking) (rest : List Answer) →
        answer_of (by_run Early (instance_reply m) replied
        (started exec 0 d imports (world m left before rest) (make m d imports)))
        ≡ Some (says, world new left before rest)) →
        Leads r (λ w. answer_of (making_finish d imports w)) turns old (λ w. Some (says, w)) (after new 1)
    at_once says new is = record {
      heard = [];
      left = turns - 1;
      within = one_less turns some;
      chained = refl;
      ends = λ before rest.
          ap (λ (n : ℕ). answer_of (making_finish d imports (world m n before rest))) (one_more turns some)
          ∙ ap answer_of (turn_is (turns - 1) before rest)
          ∙ is (turns - 1) before rest
          ∙ ap (λ (bs : List Asking). Some (says, world new (turns - 1) bs rest)) (sym (append-nil before));
    }

    whole_row : (new : Machine) → make m d imports ≡ Done new → d.start ≡ None →
        Makes r d imports turns old (Ok (instance_of m.id (length m.instances))) (after new 1)
    whole_row new done none =
        at_once made_reply new (λ left before rest.
        ap (λ t. answer_of (by_run Early (instance_reply m) replied
        (started exec 0 d imports (world m left before rest) t))) done
        ∙ ap (λ o. answer_of (by_run Early (instance_reply m) replied
        (start exec 0 (length m.instances) (function_numbers m d imports) (world new left before rest) o))) none)

    trapped_row : (new : Machine) (t : Cause) → make m d imports ≡ OutOfRange t new →
        Makes r d imports turns old (Err (Trap t)) (after new 1)
    trapped_row new t is =
        at_once (reply.Refused (Trap t)) new (λ left before rest.
        ap (λ x. answer_of (by_run Early (instance_reply m) replied
        (started exec 0 d imports (world m left before rest) x))) is)

    -- ---- the start function

    module _ (new : Machine) (done : make m d imports ≡ Done new) (k n : ℕ) (start_is : d.start ≡ Some k)
        (found : slice_get (function_numbers m d imports) k ≡ Some n) where
      abbrev number : ℕ
      number = length m.instances

      starts_is : (left : ℕ) (before : List Asking) (rest : List Answer) →
          making_finish d imports (world m (suc left) before rest)
          ≡ start_finish n number made_reply (world new left before rest)
      starts_is left before rest =
          turn_is left before rest
          ∙ ap (λ t. by_run Early (instance_reply m) replied
          (started exec 0 d imports (world m left before rest) t)) done
          ∙ ap (λ o. by_run Early (instance_reply m) replied
          (start exec 0 number (function_numbers m d imports) (world new left before rest) o)) start_is
          ∙ ap (λ o. by_run Early (instance_reply m) replied
          (on.found (Over Stuck (world new left before rest)) o
          (λ f. entry exec 0 f [] (Some number) (world new left before rest)))) found

      -- with the turn before it
      abbrev pub more : Surrounded T H E → Surrounded T H E
      more s = surrounded (record s.store { turns = s.store.turns + 1 }) s.host s.epochs

      start_row : (says : Reply) (last : Surrounded T H E) →
          Leads r (λ w. answer_of (start_finish n number made_reply w)) (turns - 1) (after new 0)
          (λ w. Some (says, w)) last →
          Leads r (λ w. answer_of (making_finish d imports w)) turns old (λ w. Some (says, w)) (more last)
      start_row says last l = record {
        heard = l.heard;
        left = l.left;
        within = omega (arith, l.within, some);
        chained = l.chained;
        ends = λ before rest.
            ap (λ (j : ℕ). answer_of (making_finish d imports (world m j before (answers_in l.heard ++ rest))))
            (one_more turns some)
            ∙ ap answer_of (starts_is (turns - 1) before (answers_in l.heard ++ rest))
            ∙ l.ends before rest;
      }

      start_cut : (last : Surrounded T H E) → StartCut r n number made_reply (turns - 1) (after new 0) last →
          MakingCut r d imports turns old (more last)
      start_cut last c =
          let l = c.led in
          let next : last.store.turns + 1 ≡ suc last.store.turns = omega arith in
          record {
            led = record {
              heard = l.heard;
              left = l.left;
              within = omega (arith, l.within);
              chained = l.chained;
              ends = λ before rest.
                  ap (λ (j : ℕ). stop_of (making_finish d imports (world m j before (answers_in l.heard ++ rest)))) next
                  ∙ ap stop_of (starts_is last.store.turns before (answers_in l.heard ++ rest))
                  ∙ l.ends before rest;
            };
            within = omega (arith, c.within, some);
          }

      start_lacked : (last : Surrounded T H E) → StartLacked r n number made_reply (turns - 1) (after new 0) last →
          MakingLacked r d imports turns old (more last)
      start_lacked last c =
          let l = c.led in
          let next : suc (last.store.turns + 1) ≡ suc (suc last.store.turns) = omega arith in
          record {
            led = record {
              heard = l.heard;
              left = l.left;
              within = omega (arith, l.within);
              chained = l.chained;
              ends = λ before rest.
                  ap (λ (j : ℕ). lack_of (making_finish d imports (world m j before (answers_in l.heard ++ rest)))) next
                  ∙ ap lack_of (starts_is (suc last.store.turns) before (answers_in l.heard ++ rest))
                  ∙ l.ends before rest;
            };
            within = omega (arith, c.within, some);
          }

      start_failed : (why : Refusal) (last : Surrounded T H E) →
          Started r n number made_reply (turns - 1) (after new 0) (Err why) last →
          MakingFailed r d imports turns old why (more last)
      start_failed OutOfMemory last (inl h) = inl (start_cut last h)
      start_failed OutOfMemory last (inr h) = inr (start_lacked last h)
      start_failed why last h = start_row (reply.Refused why) last h

      told_started : (result : Result ⊤ Refusal) (last : Surrounded T H E) →
          Started r n number made_reply (turns - 1) (after new 0) result last →
          Makes r d imports turns old (told_of (instance_of m.id (length m.instances)) result) (more last)
      told_started (Ok u) last h = start_row made_reply last h
      told_started (Err why) last h = start_failed why last h

  -- ---- by what the code answers

  module _ (ready : IsReady m d imports) (made : Made) (new : Machine) (h : IsMade d imports m made new) where
    ends : (x : Ending) → made.ending ≡ x → EndsAs (function_numbers m d imports) d.start (make m d imports) x new
    ends x same =
        subst (λ (y : Ending). EndsAs (function_numbers m d imports) d.start (make m d imports) y new) same h.1

    handle_is : (handle : Instance) → handle ≡ instance_of m.id made.number →
        handle ≡ instance_of m.id (length m.instances)
    handle_is handle e = e ∙ ap (instance_of m.id) h.0

    pub whole_ends : 1 ≤ turns → made.ending ≡ ending.Whole → (handle : Instance) →
        handle ≡ instance_of m.id made.number → (i : Result Instance Refusal) (n : ℕ) → i ≡ Ok handle → n ≡ 1 →
        Makes r d imports turns old i (after new n)
    whole_ends some same handle is i n told one =
        let e = ends ending.Whole same in
        told_as (after new) i (Ok (instance_of m.id (length m.instances))) n 1 (told ∙ ap Ok (handle_is handle is)) one
        (whole_row some new e.0 e.1)

    pub trapped_ends : 1 ≤ turns → (x : Cause) → made.ending ≡ ending.Trapped x → (i : Result Instance Refusal)
        (n : ℕ) → i ≡ Err (Trap x) → n ≡ 1 → Makes r d imports turns old i (after new n)
    trapped_ends some x same i n told one =
        told_as (after new) i (Err (Trap x)) n 1 told one (trapped_row some new x (ends (ending.Trapped x) same))

    pub sticks_never : made.ending ≡ ending.Sticks → ⊥
    sticks_never same = never_sticks m d imports ready new (ends ending.Sticks same)

    pub start_safe : (n : ℕ) → made.ending ≡ ending.Starts n → IsSafeStart new n made.number
    start_safe n same =
        let e = ends (ending.Starts n) same in
        subst (λ (k : ℕ). IsSafeStart new n k) (sym h.0)
        (safe_start m d imports ready new e.0 e.1.0 e.1.1.0 n e.1.1.1)

    pub start_ends : 1 ≤ turns → (n : ℕ) → made.ending ≡ ending.Starts n → (handle : Instance) →
        handle ≡ instance_of m.id made.number → (result : Result ⊤ Refusal) (last : Surrounded T H E) →
        ((answer : Reply) → Started r n made.number answer (turns - 1) (after new 0) result last) →
        (i : Result Instance Refusal) (k : ℕ) → i ≡ told_of handle result → k ≡ last.store.turns + 1 →
        Makes r d imports turns old i (surrounded (record last.store { turns = k }) last.host last.epochs)
    start_ends some n same handle is result last started_as i k told one =
        let e = ends (ending.Starts n) same in
        let own : Instance = instance_of m.id (length m.instances) in
        told_as (λ j. surrounded (record last.store { turns = j }) last.host last.epochs) i (told_of own result) k
        (last.store.turns + 1)
        (told ∙ ap (λ (x : Instance). told_of x result) (handle_is handle is)) one
        (told_started some new e.0 e.1.0 n e.1.1.0 e.1.1.1 result last
        (subst (λ (x : ℕ). Started r n x (reply.Instance own) (turns - 1) (after new 0) result last) h.0
        (started_as (reply.Instance own))))
