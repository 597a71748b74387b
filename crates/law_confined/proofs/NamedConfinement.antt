-- Where bodies of the host hand out no function that they were not shown, a command changes nothing outside of what leads from
-- the objects that it names.
use Rattle.std.proofs.Common.{◌≡◌, ℕ, suc, Bool, true, false, List, [], ◌∷◌, ◌++◌, Option, Some, None, refl, sym, ap, ◌∙◌, subst, inl, inr}
use Rattle.std.specs.Prelude.{length, drop, take, if◌then◌else◌, slice_get, option_and_then, option_map}
use Rattle.std.proofs.Math.Seq.{drop-append_seam}
use Rattle.std.proofs.lemmas.List.{append-nil, append_assoc}
use Rattle.std.proofs.lemmas.List.Concat.{flat_map-append}
use Rattle.std.proofs.lemmas.Option.{none-some, same_Some}
use Rattle.wasm_syntax.specs.declared.declarations.ModuleDecl.{ModuleDecl}
use Rattle.spec_machine.specs.Names.{outermost}
use Rattle.spec_machine.specs.declared.command.Command.{Command}
use Rattle.spec_execution.specs.Askings.{Asking}
use Rattle.spec_execution.specs.Commands.{Finish}
use Rattle.spec_execution.specs.Runs.{State, world_in, turns_of, stopped, exhausted, instantiates, finish_of, step, run, next_by, IsStop}
use Rattle.spec_execution.proofs.LaterWorldLemmas.{Later, command_later}
use Rattle.spec_reach.specs.Nodes.{Node}
use Rattle.spec_reach.specs.Outside.{SameOutside}
use Rattle.spec_reach.specs.Reach.{reach}
use Rattle.spec_reach.specs.Roots.{roots}
use Rattle.law_confined.specs.Laws.{left_by}
use Rattle.law_confined.specs.RunLaws.{Confines, IsShown, ConfinesNamed, RunConfinesNamed, StopConfinesNamed, RunsConfineNamed, StopsConfineNamed}
use Rattle.law_confined.specs.Shown.{unshown, unshown_by}
use Rattle.law_confined.proofs.RunConfinement.{IsBehind, behind_finished, behind_stopped, behind_exhausted, runs_confine, stops_confine}

-- ---- what was shown of a list of what was heard, and of its parts

none_in : (xs ys : List Node) → xs ++ ys ≡ [] → (xs ≡ []) × (ys ≡ [])
none_in [] ys e = (refl, e)
none_in (x ∷ xs) ys e = absurd (cc e)

shown_front : (first second : List Asking) → IsShown (first ++ second) → IsShown first
shown_front first second h id =
    (none_in (unshown id first) (unshown id second)
    (sym (flat_map-append (λ (asking : Asking). unshown_by id asking.0 asking.1) first second) ∙ h id)).0

shown_back : (first second : List Asking) → IsShown (first ++ second) → IsShown second
shown_back first second h id =
    (none_in (unshown id first) (unshown id second)
    (sym (flat_map-append (λ (asking : Asking). unshown_by id asking.0 asking.1) first second) ∙ h id)).1

-- ---- what was heard in one state stands in front of what was heard in a later one

record Goes (s t : State) : Type 0 where
  more : List Asking
  heard : t.heard ≡ s.heard ++ more

goes_nowhere : (s : State) → Goes s s
goes_nowhere s = record { more = []; heard = sym (append-nil s.heard) }

goes_on : (s t u : State) → Goes s t → Goes t u → Goes s u
goes_on s t u g h = record {
  more = g.more ++ h.more;
  heard = h.heard ∙ ap (λ (l : List Asking). l ++ h.more) g.heard ∙ append_assoc s.heard g.more h.more;
}

shown_before : (s t : State) → Goes s t → IsShown t.heard → IsShown s.heard
shown_before s t g h = shown_front s.heard g.more (subst IsShown g.heard h)

-- a command that hands out nothing unshown
named : (s t : State) (c : Command) → Goes s t → IsShown t.heard → Confines s c t → ConfinesNamed s c t
named s t c g h k =
    let from : List Node = roots s.machine.id (outermost s.replies) c in
    let P : List Node → Type 0 = λ nodes. SameOutside (reach s.machine nodes) s.machine t.machine in
    let new : drop (length s.heard) t.heard ≡ g.more =
    ap (drop (length s.heard)) g.heard ∙ drop-append_seam s.heard g.more in
    let none : unshown s.machine.id (drop (length s.heard) t.heard) ≡ [] =
    ap (unshown s.machine.id) new ∙ shown_back s.heard g.more (subst IsShown g.heard h) s.machine.id in
    subst P (ap (λ (nodes : List Node). from ++ nodes) none ∙ append-nil from) k

module _ (modules : List ModuleDecl) where
  by_command : (turns : ℕ) (s t : State) (c : Command) → IsBehind (finish_of modules turns s c) t → Goes s t
  by_command turns s t c k =
      let later : Later (world_in turns s) (left_by (finish_of modules turns s c)) =
      command_later modules (outermost s.replies) c (world_in turns s) in
      record { more = later.course.0; heard = k.heard ∙ later.course.1 }

  step_goes : (s t : State) (c : Command) → step modules s c ≡ Some t → Goes s t
  step_goes s t c e = by_command (turns_of s.machine) s t c (behind_finished (turns_of s.machine) s t _ e)

  -- ---- runs

  run_goes : (s : State) (commands : List Command) (t : State) → run modules s commands ≡ Some t → Goes s t
  run_goes s [] t e = subst (Goes s) (same_Some s t e) (goes_nowhere s)
  run_goes s (c ∷ commands) t e = by (step modules s c) refl e (λ u q. run_goes u commands t q) where
    by :
        (o : Option State) → step modules s c ≡ o → option_and_then (λ u. run modules u commands) o ≡ Some t
        → ((u : State) → run modules u commands ≡ Some t → Goes u t) → Goes s t
    by None p q rest = absurd (none-some t q)
    by (Some u) p q rest = goes_on s u t (step_goes s u c p) (rest u q)

  run_named :
      (s : State) (commands : List Command) (t : State) → run modules s commands ≡ Some t → IsShown t.heard
      → RunConfinesNamed modules s commands
  run_named s [] t e h = tt
  run_named s (c ∷ commands) t e h = λ u p.
      let rest : run modules u commands ≡ Some t =
      sym (ap (option_and_then (λ v. run modules v commands)) p) ∙ e in
      let shown : IsShown u.heard = shown_before u t (run_goes u commands t rest) h in
      (named s u c (step_goes s u c p) shown (runs_confine modules s (c ∷ []) u p).0, run_named u commands t rest h)

  -- ---- stops

  -- the state before the unfinished command, and one in which it stopped
  record Stopping (before : Option State) (t : State) : Type 0 where
    from : State
    found : before ≡ Some from
    goes : Goes from t

  by_next :
      (ended : ℕ → State → Finish → Option State) (turns : ℕ)
      → ((u : State) (o : Finish) (t : State) → ended turns u o ≡ Some t → IsBehind o t) → (next : Option Command)
      (before : Option State) (t : State) → option_and_then (next_by modules ended turns next) before ≡ Some t
      → Stopping before t
  by_next ended turns is next None t e = absurd (none-some t e)
  by_next ended turns is None (Some u) t e = absurd (none-some t e)
  by_next ended turns is (Some c) (Some u) t e =
      record { from = u; found = refl; goes = by_command turns u t c (is u (finish_of modules turns u c) t e) }

  before_turns :
      (b : Bool) (before : Option State) (t : State)
      → (if b then option_map (λ (u : State). record u { turns = 0 }) before else None) ≡ Some t → Stopping before t
  before_turns false before t e = absurd (none-some t e)
  before_turns true None t e = absurd (none-some t e)
  before_turns true (Some u) t e =
      record { from = u; found = refl; goes = subst (Goes u) (same_Some (record u { turns = 0 }) t e) (begun u) } where
        begun : (u : State) → Goes u (record u { turns = 0 })
        begun u = record { more = []; heard = sym (append-nil u.heard) }

  stopping :
      (s : State) (commands : List Command) (n turns : ℕ) (t : State) → IsStop modules s commands n turns t
      → Stopping (run modules s (take n commands)) t
  stopping s commands n turns t (inl k) =
      by_next stopped turns (λ u o v e. behind_stopped turns u v o e) (slice_get commands n)
      (run modules s (take n commands)) t k.1
  stopping s commands n turns t (inr (inl k)) =
      by_next exhausted (suc turns) (λ u o v e. behind_exhausted (suc turns) u v o e) (slice_get commands n)
      (run modules s (take n commands)) t k.1
  stopping s commands n turns t (inr (inr k)) =
      before_turns (instantiates (slice_get commands n)) (run modules s (take n commands)) t k.1

  stop_named :
      (s : State) (commands : List Command) (n turns : ℕ) (t : State) → IsStop modules s commands n turns t
      → IsShown t.heard → StopConfinesNamed modules s commands n t
  stop_named s commands n turns t k h = λ u c p q.
      let before = stopping s commands n turns t k in
      let same : before.from ≡ u = same_Some before.from u (sym before.found ∙ p) in
      named u t c (subst (λ (v : State). Goes v t) same before.goes) h
      (stops_confine modules s commands n turns t k u c p q)

pub runs_confine_named : RunsConfineNamed
runs_confine_named = run_named

pub stops_confine_named : StopsConfineNamed
stops_confine_named modules s commands n turns t k h =
    let before = stopping modules s commands n turns t k in (
      run_named modules s (take n commands) before.from before.found (shown_before before.from t before.goes h),
      stop_named modules s commands n turns t k h,
    )
