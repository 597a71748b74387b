-- A pause of a call is a stop of it, and so it is confined.
use Rattle.std.proofs.Common.{◌≡◌, ℕ, ◌+◌, ◌-◌, ◌≤◌, List, [], ◌∷◌, ◌++◌, Option, Some, None, refl, sym, ap, ◌∙◌, subst, inl, arith}
use Rattle.std.specs.Prelude.{nat_eq, if◌then◌else◌, take, slice_get, option_and_then}
use Rattle.std.proofs.lemmas.List.{append-nil}
use Rattle.std.proofs.lemmas.Option.{none-some, same_Some}
use Rattle.wasm_types.specs.Each.{Each}
use Rattle.wasm_syntax.specs.declared.declarations.ModuleDecl.{ModuleDecl}
use Rattle.wasm_values.specs.declared.refusals.Refusal.TheVariants as refusal
use Rattle.spec_machine.specs.Commands.{Row}
use Rattle.spec_machine.specs.FunctionCalls.{Called}
use Rattle.spec_machine.specs.Machine.{EngineParts, Machine}
use Rattle.spec_machine.specs.declared.command.Command.{Command}
use Rattle.spec_machine.specs.declared.reply.Reply.{Reply}
use Rattle.spec_machine.specs.declared.reply.Reply.TheVariants as reply
use Rattle.spec_execution.specs.Askings.{Answer, Asking, answers_in}
use Rattle.spec_execution.specs.Bodies.{exec}
use Rattle.spec_execution.specs.Commands.{Finish, Replied, Early, by_run, call_reply, perform, replied}
use Rattle.spec_execution.specs.Outcomes.{World, world, Outcome, Values, Branch, Return, Over, Trapped, Refused, Stopped, Waiting, Exhausted, Stuck}
use Rattle.spec_execution.specs.Runs.{State, state, world_in, behind, stopped, finish_of, run, next_by, IsStop}
use Rattle.spec_reach.specs.Nodes.{Node}
use Rattle.spec_reach.specs.Inside.{SameInside}
use Rattle.spec_reach.specs.Outside.{SameOutside, new_nodes}
use Rattle.spec_reach.specs.Reach.{reach}
use Rattle.spec_reach.specs.Roots.{call_roots}
use Rattle.law_store.proofs.Lists.{each_one, each_take}
use Rattle.law_store.specs.Rows.{IsTyped}
use Rattle.law_code.specs.RunLaws.{MayRun, IsKept}
use Rattle.law_code.proofs.RunsKeep.{commands_never_stuck, run_keeps, stop_keeps}
use Rattle.law_confined.specs.Laws.{left, all_roots, OfAll}
use Rattle.law_confined.specs.Shown.{unshown}
use Rattle.law_confined.specs.Sight.{outcome_in, SeesAlike}
use Rattle.law_confined.proofs.Confinement as confinement
use Rattle.law_confined.proofs.Sight.{law_s}
use Rattle.law_open.specs.Opens.{Open, whole, halted, IsPaused}
use Rattle.law_open.specs.OpenLaws.{PausesIn, PausesAreStops, PausesKeep, PausesConfine, PausesConfineToSets, PausesConfineNamed, PausesKeepReach, open_roots, PausesSee}

-- ---- where it stands

left_is : (o : Outcome) (w : World) → halted o ≡ Some w → left o ≡ w
left_is (Values s) w e = same_Some s.world w e
left_is (Branch l s) w e = same_Some s.world w e
left_is (Return s) w e = same_Some s.world w e
left_is (Over (Trapped t) v) w e = same_Some v w e
left_is (Over (Refused why) v) w e = same_Some v w e
left_is (Over Stopped v) w e = same_Some v w e
left_is (Over (Waiting q) v) w e = absurd (none-some w e)
left_is (Over Exhausted v) w e = absurd (none-some w e)
left_is (Over Stuck v) w e = same_Some v w e

module _ (c : Called) (first : Machine) (heard : List Asking) (x : Open) (p : IsPaused c first heard x) where
  -- the call with as many turns as were made
  pub stands_there : (before : List Asking) (rest : List Answer)
      → halted (whole c (world first x.made before (answers_in heard ++ rest)))
      ≡ Some (world x.machine 0 (before ++ heard) rest)
  stands_there before rest =
      let e : x.made ≡ x.made + 0 = omega arith in
      ap (λ t. halted (whole c (world first t before (answers_in heard ++ rest)))) e
      ∙ ap halted (p.stands.leads.by 0 before rest) ∙ p.rests (before ++ heard) rest

  -- ---- confined

  at_pause : (P : Machine → Machine → List Node → Type 0) → OfAll P
      → P first x.machine (call_roots c.function c.arguments None ++ unshown first.id heard)
  at_pause P law =
      let w : World = world first x.made [] (answers_in heard ++ []) in
      subst (λ (v : World). P first v.machine (all_roots (call_roots c.function c.arguments None) w v))
      (left_is (whole c w) (world x.machine 0 heard []) (stands_there [] []))
      (law.calls 0 c.function c.arguments None w)

pub pauses_confine : PausesConfine
pauses_confine c first heard x p = at_pause c first heard x p _ confinement.law_c

pub pauses_confine_to_sets : PausesConfineToSets
pauses_confine_to_sets c first heard x p = at_pause c first heard x p _ confinement.law_c_of_sets

pub pauses_confine_named : PausesConfineNamed
pauses_confine_named c first heard x p shown =
    let named : List Node = call_roots c.function c.arguments None in
    subst (λ (from : List Node). SameOutside (reach first from) first x.machine)
    (ap (λ (more : List Node). named ++ more) (shown first.id) ∙ append-nil named) (pauses_confine c first heard x p)

pub pauses_keep_reach : PausesKeepReach
pauses_keep_reach c first heard x p = at_pause c first heard x p _ confinement.law_g

-- ---- nothing outside is read

halted_in : (o : Outcome) (v : World) (t : Machine) → halted o ≡ Some v
    → halted (outcome_in t o) ≡ Some (record v { machine = t })
halted_in (Values s) v t e = ap (λ (u : World). Some (record u { machine = t })) (same_Some s.world v e)
halted_in (Branch l s) v t e = ap (λ (u : World). Some (record u { machine = t })) (same_Some s.world v e)
halted_in (Return s) v t e = ap (λ (u : World). Some (record u { machine = t })) (same_Some s.world v e)
halted_in (Over (Trapped why) w) v t e = ap (λ (u : World). Some (record u { machine = t })) (same_Some w v e)
halted_in (Over (Refused why) w) v t e = ap (λ (u : World). Some (record u { machine = t })) (same_Some w v e)
halted_in (Over Stopped w) v t e = ap (λ (u : World). Some (record u { machine = t })) (same_Some w v e)
halted_in (Over (Waiting q) w) v t e = absurd (none-some v e)
halted_in (Over Exhausted w) v t e = absurd (none-some v e)
halted_in (Over Stuck w) v t e = ap (λ (u : World). Some (record u { machine = t })) (same_Some w v e)

pub pauses_see : PausesSee
pauses_see c first heard x p second same =
    let w : World = world first x.made [] (answers_in heard ++ []) in
    let v : World = world x.machine 0 heard [] in
    let from : List Node = call_roots c.function c.arguments None in
    let set : List Node = reach first (open_roots c first heard) in
    let there : left (whole c w) ≡ v = left_is (whole c w) v (stands_there c first heard x p [] []) in
    let k : SeesAlike left outcome_in (λ u. whole c u) w set second =
    law_s.calls 0 c.function c.arguments None w set
    (ap (λ (u : World). reach first (all_roots from w u)) (sym there)) second same in
    let met : halted (whole c (world second x.made [] (answers_in heard ++ []))) ≡ Some (world k.after 0 heard []) =
    ap halted k.same ∙ halted_in (whole c w) v k.after (stands_there c first heard x p [] []) in
    record {
      after = k.after;
      stands =
          ap (λ answers. halted (whole c (world second x.made [] answers))) (sym (append-nil (answers_in heard))) ∙ met;
      inside =
          subst (λ (u : World). SameInside (reach u.machine (set ++ new_nodes first u.machine)) u.machine k.after) there
          k.inside;
    }

-- ---- a stop

module _ (c : Called) (turns : ℕ) (s : State) where
  abbrev finish : Outcome → Finish
  finish o = by_run Early (call_reply c) replied o

  -- it came to a reply where no turn is left
  at_end : (reply : Reply) (w v : World) → w ≡ v → v.turns ≡ 0
      → stopped turns s (Replied reply w) ≡ Some (behind turns v s.replies)
  at_end reply w v e none =
      ap (λ (u : World). stopped turns s (Replied reply u)) e
      ∙ ap (λ k. if nat_eq k 0 then Some (behind turns v s.replies) else None) none

  stop_is : (o : Outcome) (v : World) → halted o ≡ Some v → v.turns ≡ 0
      → ((w : World) → finish o ≡ Early Stuck w → ⊥) → stopped turns s (finish o) ≡ Some (behind turns v s.replies)
  stop_is (Values t) v e none never = at_end (call_reply c t) t.world v (same_Some t.world v e) none
  stop_is (Branch l t) v e none never = absurd (never t.world refl)
  stop_is (Return t) v e none never = absurd (never t.world refl)
  stop_is (Over (Trapped t) w) v e none never =
      at_end (reply.Refused (refusal.Trap t)) w v (same_Some w v e) none
  stop_is (Over (Refused why) w) v e none never = at_end (reply.Refused why) w v (same_Some w v e) none
  stop_is (Over Stopped w) v e none never =
      ap (λ (u : World). Some (behind turns u s.replies)) (same_Some w v e)
  stop_is (Over (Waiting q) w) v e none never = absurd (none-some v e)
  stop_is (Over Exhausted w) v e none never = absurd (none-some v e)
  stop_is (Over Stuck w) v e none never = absurd (never w refl)

module _ (modules : List ModuleDecl) (s : State) (command : Command) (c : Called) (heard : List Asking)
    (rest : List Answer) (x : Open) (p : PausesIn modules s command c heard rest x) where
  abbrev begins : World
  begins = world s.machine x.made s.heard (answers_in heard ++ rest)

  -- the command is that call
  is_call : finish_of modules x.made s command ≡ finish c x.made s (whole c begins)
  is_call =
      ap (λ (r : Row). perform Early exec 0 (world_in x.made s) r replied) p.calls
      ∙ ap (λ answers. finish c x.made s (whole c (world s.machine x.made s.heard answers))) p.answers

  never : (w : World) → finish c x.made s (whole c begins) ≡ Early Stuck w → ⊥
  never w e =
      commands_never_stuck modules x.made s command w p.modules_are p.paused.stands.within p.may_run p.typed (is_call ∙ e)

  abbrev there : State
  there = state x.machine x.made s.replies (s.heard ++ heard) rest

  stops : stopped x.made s (finish_of modules x.made s command) ≡ Some there
  stops =
      let e : x.made - 0 ≡ x.made = omega arith in
      ap (stopped x.made s) is_call
      ∙ stop_is c x.made s (whole c begins) (world x.machine 0 (s.heard ++ heard) rest)
      (stands_there c s.machine heard x p.paused s.heard rest) refl never
      ∙ ap (λ n. Some (state x.machine n s.replies (s.heard ++ heard) rest)) e

  is_stop : IsStop modules s (command ∷ []) 0 x.made there
  is_stop = inl (p.paused.stands.within, stops)

  -- at the end of the commands before it
  module _ (begin : State) (commands : List Command) (n : ℕ) (may : MayRun begin) (typed : Each commands IsTyped)
      (ran : run modules begin (take n commands) ≡ Some s) (next : slice_get commands n ≡ Some command) where
    same_engine : s.machine.engine ≡ begin.machine.engine
    same_engine =
        let kept : IsKept begin.machine s.machine =
        run_keeps modules begin s (take n commands) p.modules_are may (each_take IsTyped n commands typed) ran in
        kept.later.engine

    stops_run : option_and_then (next_by modules stopped x.made (slice_get commands n)) (run modules begin (take n commands))
        ≡ Some there
    stops_run =
        ap (λ (o : Option State). option_and_then (next_by modules stopped x.made (slice_get commands n)) o) ran
        ∙ ap (λ (o : Option Command). next_by modules stopped x.made o s) next ∙ stops

    is_stop_behind : IsStop modules begin commands n x.made there
    is_stop_behind =
        inl (subst (λ (e : EngineParts). x.made ≤ e.turns) same_engine p.paused.stands.within, stops_run)

pub pauses_are_stops : PausesAreStops
pauses_are_stops modules begin s commands n command c heard rest x may typed ran next p =
    is_stop_behind modules s command c heard rest x p begin commands n may typed ran next

pub pauses_keep : PausesKeep
pauses_keep modules s command c heard rest x p =
    stop_keeps modules s (there modules s command c heard rest x p) (command ∷ []) 0 x.made p.modules_are p.may_run
    (each_one IsTyped command p.typed) (is_stop modules s command c heard rest x p)
