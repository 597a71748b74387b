-- From a part of a run to the same part where functions wait for it: what is due behind it, what goes past it, and that
-- nothing is lacking where no turn is left.
use Rattle.std.proofs.Common.{◌≡◌, ℕ, suc, ◌+◌, List, [], ◌∷◌, ◌++◌, Some, refl, sym, ap, ◌∙◌, add_assoc, append_assoc, Bool, true, false}
use Rattle.std.proofs.lemmas.List.{append-nil, map-append, reverse-append}
use Rattle.std.proofs.lemmas.Option.{same_Some}
use Rattle.std.specs.Prelude.{map, reverse}
use Rattle.wasm_types.specs.declared.value_types.ValType.{ValType}
use Rattle.wasm_meter.specs.declared.call_hook.CallHook.{CallHook}
use Rattle.wasm_meter.specs.declared.call_hook.CallHook.TheVariants as event
use Rattle.wasm_values.specs.declared.refusals.Refusal.TheVariants as refusal
use Rattle.spec_machine.specs.Machine.{Machine}
use Rattle.spec_machine.specs.declared.reply.Reply.{Reply}
use Rattle.spec_machine.specs.declared.reply.Reply.TheVariants as reply
use Rattle.spec_execution.specs.Activations.{Activation, replied}
use Rattle.spec_execution.specs.Askings.{Passing, Answer, Asking, answers_in}
use Rattle.spec_execution.specs.Bodies.{exec}
use Rattle.spec_execution.specs.Checks.{passed, pass, pass_behind}
use Rattle.spec_execution.specs.Commands.{by_run}
use Rattle.spec_execution.specs.Hosts.{step_with, go_on}
use Rattle.spec_execution.specs.Outcomes as out
use Rattle.spec_execution.specs.Outcomes.{World, State, state, Outcome, Values, Branch, Return, Over, End, Trapped, Refused, Stopped, Exhausted, Stuck, hear, ask}
use Rattle.spec_execution.specs.declared.answer.Event.{Event}
use Rattle.spec_execution.specs.declared.answer.Event.TheVariants.{Replied}
use Rattle.spec_execution.proofs.EquationLemmas.{step_is}
use Rattle.code_stack.specs.Layers.{Configuration, means as meant}
use Rattle.code_leaps.specs.Leading.{Doing, Setting, at, halted, Leads, Stops, Halts}
use Rattle.code_stack.specs.Steps.{taken_by}
use Rattle.code_run.specs.Steps.{seen}
use Rattle.code_leaps.specs.Turns.{going}
use Rattle.code_stack.specs.declared.steps.HostCall.{HostCall}
use Rattle.code_run.specs.declared.thread.Thread.{Thread}
use Rattle.code_run.proofs.NoTurnLemmas.{Halted, either_halts, turn_halts, check_halts, means_halts, resumed_halts}
use Rattle.code_leaps.proofs.PartLemmas.{answers_on, leads_within, stops_within, halts_within}
use Rattle.code_run.proofs.ResumeLemmas.{resumed_over}
use Rattle.code_hosts.specs.Hosting.{Open, Code, Body, does, stepping, Waiting, Calls, Asks, reply_of, back_to, outwards}
use Rattle.code_hosts.specs.Operating.{IsDue}
use Rattle.code_hosts.specs.Replies.{Exhausts}
use Rattle.code_hosts.specs.Settling.{telling}
use Rattle.code_hosts.specs.States.{waiting_of, around_of}
use Rattle.code_hosts.specs.declared.states.Waiting.{Waiting as Waits}

-- ---- the functions that wait, as the code has them

-- one that was added is the innermost
pub around_more : (around : List Waits) (p : Waits) → around_of (around ++ p ∷ []) ≡ waiting_of p ∷ around_of around
around_more around p =
    ap reverse (map-append waiting_of around (p ∷ []))
    ∙ reverse-append (map waiting_of around) (waiting_of p ∷ [])

-- ---- what ends early and is told to nobody goes past all

-- an end that each function that waits passes on
abbrev GoesPast : End → Type 0
GoesPast e = (p : Waiting) (w : World) → back_to p (Over e w) ≡ Over e w

-- past code each early end goes
pub past_code : (t : Thread) (call : HostCall) (e : End) (w : World) → back_to (Calls t call) (Over e w) ≡ Over e w
past_code t call e w = resumed_over (seen t) (taken_by call) e w

pub back_stopped : GoesPast Stopped
back_stopped (Calls t call) w = past_code t call Stopped w
back_stopped (Asks a types) w = refl

pub back_exhausted : GoesPast Exhausted
back_exhausted (Calls t call) w = past_code t call Exhausted w
back_exhausted (Asks a types) w = refl

pub back_stuck : GoesPast Stuck
back_stuck (Calls t call) w = past_code t call Stuck w
back_stuck (Asks a types) w = refl

outwards_past : (e : End) → GoesPast e → (ps : List Waiting) (w : World) → outwards ps (Over e w) ≡ Over e w
outwards_past e past [] w = refl
outwards_past e past (p ∷ ps) w = ap (outwards ps) (past p w) ∙ outwards_past e past ps w

pub outwards_stopped : (ps : List Waiting) (w : World) → outwards ps (Over Stopped w) ≡ Over Stopped w
outwards_stopped ps w = outwards_past Stopped back_stopped ps w

pub outwards_exhausted : (ps : List Waiting) (w : World) → outwards ps (Over Exhausted w) ≡ Over Exhausted w
outwards_exhausted ps w = outwards_past Exhausted back_exhausted ps w

pub outwards_stuck : (ps : List Waiting) (w : World) → outwards ps (Over Stuck w) ≡ Over Stuck w
outwards_stuck ps w = outwards_past Stuck back_stuck ps w

-- ---- where no turn is left nothing of the outside is lacking

pub pass_halts : (e : CallHook) (w : World) (go : Doing) → w.turns ≡ 0 → Halted w (go w) → Halted w (pass e w go)
pass_halts e w go none h =
    either_halts w w.machine.is_hooked (ask Over w (Passing e) (passed go)) (go w)
    (turn_halts w none (λ v. hear Over v (Passing e) (passed go) v.answers)) h

-- the world of an outcome is this one, and so no turn is left there
in_world : (v w : World) → w.turns ≡ 0 → halted (Over Stuck v) ≡ Some w → v.turns ≡ 0
in_world v w none p = ap (λ (u : World). u.turns) (same_Some v w p) ∙ none

pub border_halts : (e : CallHook) (o : Outcome) (w : World) → w.turns ≡ 0 → halted o ≡ Some w →
    halted (pass_behind e o) ≡ Some w
border_halts e (Values s) w none p =
    pass_halts e s.world (λ v. Values (record s { world = v })) (in_world s.world w none p) refl ∙ p
border_halts e (Branch l s) w none p = p
border_halts e (Return s) w none p = p
border_halts e (Over (out.Waiting q) v) w none p = p
border_halts e (Over Exhausted v) w none p = p
border_halts e (Over Stopped v) w none p = p
border_halts e (Over Stuck v) w none p = p
border_halts e (Over (Trapped t) v) w none p = pass_halts e v (Over (Trapped t)) (in_world v w none p) refl ∙ p
border_halts e (Over (Refused why) v) w none p = pass_halts e v (Over (Refused why)) (in_world v w none p) refl ∙ p

-- a step of a body is stopped
pub step_stops : (a : Activation) (why : Event) (w : World) → w.turns ≡ 0 → stepping a why w ≡ Over Stopped w
step_stops a why w none = step_is a why (state w [] []) ∙ ap (λ n. step_with exec a why w n) none

pub body_stops : (a : Activation) (why : Event) (w : World) → w.turns ≡ 0 → does (Body a why) w ≡ Over Stopped w
body_stops a why w none = ap (pass_behind event.ReturningFromHost) (step_stops a why w none)

pub go_on_stops : (a : Activation) (answer : Reply) (w : World) → w.turns ≡ 0 → go_on exec a w answer ≡ Over Stopped w
go_on_stops a answer w none = step_stops (replied a answer) Replied w none

going_halts : (unchecked : Bool) (c : Configuration) (w : World) → w.turns ≡ 0 → Halted w (going unchecked c w)
going_halts true c w none = check_halts w none (meant c) (means_halts c w none)
going_halts false c w none = means_halts c w none

pub does_halts : (x : Open) (w : World) → w.turns ≡ 0 → Halted w (does x w)
does_halts (Code t) w none = going_halts t.unchecked (seen t) w none
does_halts (Body a why) w none = ap halted (body_stops a why w none)

-- what follows the reply to a command that runs code is stopped
pub by_run_halts : (say : State → Reply) (go : World → Reply → Outcome) → IsDue go → (o : Outcome) (w : World) →
    w.turns ≡ 0 → halted o ≡ Some w → halted (by_run Over say go o) ≡ Some w
by_run_halts say go due (Values s) w none p = ap halted (due s.world (say s) (in_world s.world w none p)) ∙ p
by_run_halts say go due (Branch l s) w none p = p
by_run_halts say go due (Return s) w none p = p
by_run_halts say go due (Over (out.Waiting q) v) w none p = p
by_run_halts say go due (Over Exhausted v) w none p = p
by_run_halts say go due (Over Stopped v) w none p = p
by_run_halts say go due (Over Stuck v) w none p = p
by_run_halts say go due (Over (Trapped t) v) w none p =
    ap halted (due v (reply.Refused (refusal.Trap t)) (in_world v w none p)) ∙ p
by_run_halts say go due (Over (Refused why) v) w none p =
    ap halted (due v (reply.Refused why) (in_world v w none p)) ∙ p

-- a body is told how a function ended
pub telling_halts : (a : Activation) (types : List ValType) (o : Outcome) (w : World) → w.turns ≡ 0 →
    halted o ≡ Some w → halted (telling a types o) ≡ Some w
telling_halts a types o w none h =
    border_halts event.ReturningFromHost _ w none
    (by_run_halts (reply_of types) (go_on exec a) (λ v answer at_end. go_on_stops a answer v at_end) o w none h)

pub back_halts : (p : Waiting) (o : Outcome) (w : World) → w.turns ≡ 0 → halted o ≡ Some w →
    halted (back_to p o) ≡ Some w
back_halts (Calls t call) o w none h = resumed_halts (seen t) (taken_by call) o w none h
back_halts (Asks a types) o w none h =
    telling_halts a types _ w none (border_halts event.ReturningFromWasm o w none h)

pub outwards_halts : (ps : List Waiting) (o : Outcome) (w : World) → w.turns ≡ 0 → halted o ≡ Some w →
    halted (outwards ps o) ≡ Some w
outwards_halts [] o w none h = h
outwards_halts (p ∷ ps) o w none h = outwards_halts ps (back_to p o) w none (back_halts p o w none h)

-- ---- parts of a run that end where a step of the host had no memory

module _ {H : Type 0} (g : Setting H) where
  pub exhausts_from : (a b : Doing) (h : H) → ((base : Machine) → g.is_base base → (turns : ℕ) (before : List Asking)
      (answers : List Answer) → a (at g base h turns before answers) ≡ b (at g base h turns before answers)) →
      (n : ℕ) (heard : List Asking) (h' : H) → Exhausts g b h n heard h' → Exhausts g a h n heard h'
  exhausts_from a b h e n heard h' l = record {
    by = λ base is extra before rest. e base is (n + suc extra) before (answers_in heard ++ rest)
        ∙ l.by base is extra before rest;
  }

  pub exhausts_on : (a b : Doing) (h h1 : H) (n : ℕ) (heard : List Asking) → Leads g a h n heard b h1 →
      (m : ℕ) (heard' : List Asking) (h2 : H) → Exhausts g b h1 m heard' h2 →
      Exhausts g a h (n + m) (heard ++ heard') h2
  exhausts_on a b h h1 n heard l m heard' h2 k = record {
    by = λ base is extra before rest.
        ap (λ t. a (at g base h t before (answers_in (heard ++ heard') ++ rest))) (add_assoc n m (suc extra))
        ∙ ap (λ r. a (at g base h (n + (m + suc extra)) before (r ++ rest))) (answers_on heard heard')
        ∙ ap (λ r. a (at g base h (n + (m + suc extra)) before r))
        (append_assoc (answers_in heard) (answers_in heard') rest)
        ∙ l.by base is (m + suc extra) before (answers_in heard' ++ rest)
        ∙ k.by base is extra (before ++ heard) rest
        ∙ ap (λ q. Over Exhausted (at g base h2 (suc extra) q rest)) (append_assoc before heard heard');
  }

  -- within what is done with any outcome
  pub exhausts_within : (F : Outcome → Outcome) (a : Doing) (h : H) (n : ℕ) (heard : List Asking) (h' : H) →
      ((w : World) → F (Over Exhausted w) ≡ Over Exhausted w) → Exhausts g a h n heard h' →
      Exhausts g (λ w. F (a w)) h n heard h'
  exhausts_within F a h n heard h' strict l = record {
    by = λ base is extra before rest.
        ap F (l.by base is extra before rest) ∙ strict (at g base h' (suc extra) (before ++ heard) rest);
  }

  -- ---- parts of a run, where these functions wait, the innermost first

  module _ (ps : List Waiting) (a : Doing) (h : H) (n : ℕ) (heard : List Asking) (h' : H) where
    abbrev around : Doing → Doing
    around b w = outwards ps (b w)

    pub leads_outwards : (b : Doing) → Leads g a h n heard b h' → Leads g (around a) h n heard (around b) h'
    leads_outwards b l = leads_within g (outwards ps) a h n heard h' b l

    pub stops_outwards : Stops g a h n heard h' → Stops g (around a) h n heard h'
    stops_outwards l = stops_within g (outwards ps) a h n heard h' (outwards_stopped ps) l

    pub halts_outwards : Halts g a h n heard h' → Halts g (around a) h n heard h'
    halts_outwards l = halts_within g (outwards ps) a h n heard h' (outwards_halts ps) l

    pub exhausts_outwards : Exhausts g a h n heard h' → Exhausts g (around a) h n heard h'
    exhausts_outwards l = exhausts_within (outwards ps) a h n heard h' (outwards_exhausted ps) l

  -- the same of the innermost one
  module _ (p : Waiting) (a : Doing) (h : H) (n : ℕ) (heard : List Asking) (h' : H) where
    abbrev behind : Doing → Doing
    behind b w = back_to p (b w)

    pub leads_back : (b : Doing) → Leads g a h n heard b h' → Leads g (behind a) h n heard (behind b) h'
    leads_back b l = leads_within g (back_to p) a h n heard h' b l

    pub stops_back : Stops g a h n heard h' → Stops g (behind a) h n heard h'
    stops_back l = stops_within g (back_to p) a h n heard h' (back_stopped p) l

    pub halts_back : Halts g a h n heard h' → Halts g (behind a) h n heard h'
    halts_back l = halts_within g (back_to p) a h n heard h' (back_halts p) l

    pub exhausts_back : Exhausts g a h n heard h' → Exhausts g (behind a) h n heard h'
    exhausts_back l = exhausts_within (back_to p) a h n heard h' (back_exhausted p) l

  -- an early end of a function that code called
  pub leads_past_code : (t : Thread) (call : HostCall) (a : Doing) (h : H) (n : ℕ) (heard : List Asking) (h' : H)
      (e : End) → Leads g a h n heard (Over e) h' → Leads g (λ w. back_to (Calls t call) (a w)) h n heard (Over e) h'
  leads_past_code t call a h n heard h' e l = record {
    by = λ base is extra before rest.
        ap (back_to (Calls t call)) (l.by base is extra before rest)
        ∙ past_code t call e (at g base h' extra (before ++ heard) rest);
  }

  -- a part that takes no turn, where no turn is left: what is due ends in this very world
  pub halts_now : (a : Doing) (h : H) → ((w : World) → w.turns ≡ 0 → halted (a w) ≡ Some w) → Halts g a h 0 [] h
  halts_now a h e = record {
    by = λ base is before rest.
        e (at g base h 0 before rest) refl ∙ ap (λ q. Some (at g base h 0 q rest)) (sym (append-nil before));
  }
