-- Each command of a run changes nothing outside of what it reaches, and neither does one that is unfinished.
use Rattle.std.proofs.Common.{◌≡◌, ℕ, suc, Bool, true, false, List, [], ◌∷◌, ◌++◌, Option, Some, None, refl, sym, ap, ◌∙◌, subst, inl, inr}
use Rattle.std.specs.Prelude.{length, drop, take, nat_eq, if◌then◌else◌, slice_get, option_and_then, option_map}
use Rattle.std.proofs.lemmas.Option.{none-some, same_Some}
use Rattle.wasm_syntax.specs.declared.declarations.ModuleDecl.{ModuleDecl}
use Rattle.wasm_values.specs.declared.refusals.Refusal.TheVariants.{TurnLimit}
use Rattle.spec_machine.specs.Machine.{Machine}
use Rattle.spec_machine.specs.Names.{outermost}
use Rattle.spec_machine.specs.declared.command.Command.{Command}
use Rattle.spec_machine.specs.declared.reply.Reply.{Reply}
use Rattle.spec_machine.specs.declared.reply.Reply.TheVariants.{Refused}
use Rattle.spec_execution.specs.Askings.{Asking}
use Rattle.spec_execution.specs.Commands.{Finish, Replied, Early}
use Rattle.spec_execution.specs.Outcomes.{World, Stopped, Exhausted}
use Rattle.spec_execution.specs.Runs.{State, world_in, behind, turns_of, finished, stopped, exhausted, instantiates, finish_of, run, next_by, IsStop}
use Rattle.spec_reach.specs.Nodes.{Node}
use Rattle.spec_reach.specs.Outside.{SameOutside}
use Rattle.spec_reach.specs.Reach.{reach}
use Rattle.spec_reach.specs.Roots.{roots}
use Rattle.law_confined.specs.Laws.{left_by}
use Rattle.law_confined.specs.RunLaws.{Confines, RunConfines, RunsConfine, StopsConfine}
use Rattle.law_confined.specs.Shown.{unshown}
use Rattle.law_confined.proofs.Confinement.{law_c}

-- a state has the store that a command left, and what was heard
pub record IsBehind (o : Finish) (t : State) : Type 0 where
  pub machine : t.machine ≡ (left_by o).machine
  pub heard : t.heard ≡ (left_by o).heard

at_world :
    (o : Finish) (turns : ℕ) (replies : List Reply) (t : State) → behind turns (left_by o) replies ≡ t → IsBehind o t
at_world o turns replies t e =
    record { machine = sym (ap (λ (u : State). u.machine) e); heard = sym (ap (λ (u : State). u.heard) e) }

where_some :
    {A : Type 0} (b : Bool) (y t : A) → (if b then Some y else None) ≡ Some t → y ≡ t
where_some true y t e = same_Some y t e
where_some false y t e = absurd (none-some t e)

module _ (turns : ℕ) (s t : State) where
  pub behind_finished : (o : Finish) → finished turns s o ≡ Some t → IsBehind o t
  behind_finished (Replied reply w) e =
      at_world (Replied reply w) turns (s.replies ++ reply ∷ []) t
      (same_Some (behind turns w (s.replies ++ reply ∷ [])) t e)
  behind_finished (Early Stopped w) e =
      at_world (Early Stopped w) turns (s.replies ++ Refused TurnLimit ∷ []) t
      (same_Some (behind turns w (s.replies ++ Refused TurnLimit ∷ [])) t e)
  behind_finished (Early early w) e = absurd (none-some t e)

  pub behind_stopped : (o : Finish) → stopped turns s o ≡ Some t → IsBehind o t
  behind_stopped (Replied reply w) e =
      at_world (Replied reply w) turns s.replies t (where_some (nat_eq w.turns 0) (behind turns w s.replies) t e)
  behind_stopped (Early Stopped w) e =
      at_world (Early Stopped w) turns s.replies t (same_Some (behind turns w s.replies) t e)
  behind_stopped (Early early w) e = absurd (none-some t e)

  pub behind_exhausted : (o : Finish) → exhausted turns s o ≡ Some t → IsBehind o t
  behind_exhausted (Replied reply w) e = absurd (none-some t e)
  behind_exhausted (Early Exhausted w) e =
      at_world (Early Exhausted w) turns s.replies t (where_some (nat_eq w.turns 1) (behind turns w s.replies) t e)
  behind_exhausted (Early early w) e = absurd (none-some t e)

-- where nothing is changed
same_store : (set : List Node) (m : Machine) → SameOutside set m m
same_store set m = record {
  memories = λ n x e f. f;
  tables = λ n x e f. f;
  globals = λ n x e f. f;
  segments = λ n i e f. record { now = i; found = f; elements = refl; datas = refl };
}

module _ (modules : List ModuleDecl) where
  -- a command with so many turns, by the law
  confined : (turns : ℕ) (s : State) (c : Command) (t : State) → IsBehind (finish_of modules turns s c) t → Confines s c t
  confined turns s c t k =
      let w : World = world_in turns s in
      let v : World = left_by (finish_of modules turns s c) in
      subst (λ (m : Machine). SameOutside (reach s.machine (roots s.machine.id (outermost s.replies) c
      ++ unshown s.machine.id (drop (length s.heard) t.heard))) s.machine m) (sym k.machine)
      (subst (λ (heard : List Asking). SameOutside (reach s.machine (roots s.machine.id (outermost s.replies) c
      ++ unshown s.machine.id (drop (length s.heard) heard))) s.machine v.machine) (sym k.heard)
      (law_c.commands modules (outermost s.replies) c w))

  run_confines : (s : State) (commands : List Command) → RunConfines modules s commands
  run_confines s [] = tt
  run_confines s (c ∷ commands) =
      λ t e. (confined (turns_of s.machine) s c t (behind_finished (turns_of s.machine) s t _ e), run_confines t commands)

  -- ---- stops

  module _ (s : State) (commands : List Command) (n : ℕ) (u t : State) (c : Command)
      (p : run modules s (take n commands) ≡ Some u) (q : slice_get commands n ≡ Some c) where
    -- what the next command came to
    next_is :
        (ended : ℕ → State → Finish → Option State) (turns : ℕ)
        → option_and_then (next_by modules ended turns (slice_get commands n)) (run modules s (take n commands)) ≡ Some t
        → ended turns u (finish_of modules turns u c) ≡ Some t
    next_is ended turns e =
        sym (ap (λ (o : Option State). option_and_then (next_by modules ended turns (slice_get commands n)) o) p
        ∙ ap (λ (o : Option Command). next_by modules ended turns o u) q) ∙ e

    before_is :
        (b : Bool)
        → (if b then option_map (λ (v : State). record v { turns = 0 })
        (run modules s (take n commands)) else None) ≡ Some t
        → record u { turns = 0 } ≡ t
    before_is true e =
        same_Some (record u { turns = 0 }) t (sym (ap (option_map (λ (v : State). record v { turns = 0 })) p) ∙ e)
    before_is false e = absurd (none-some t e)

    stop_confines : (turns : ℕ) → IsStop modules s commands n turns t → Confines u c t
    stop_confines turns (inl k) =
        confined turns u c t (behind_stopped turns u t (finish_of modules turns u c) (next_is stopped turns k.1))
    stop_confines turns (inr (inl k)) =
        confined (suc turns) u c t
        (behind_exhausted (suc turns) u t (finish_of modules (suc turns) u c)
        (next_is exhausted (suc turns) k.1))
    stop_confines turns (inr (inr k)) =
        subst (λ (v : State). Confines u c v) (before_is (instantiates (slice_get commands n)) k.1)
        (same_store _ u.machine)

pub runs_confine : RunsConfine
runs_confine modules s commands = run_confines modules s commands

pub stops_confine : StopsConfine
stops_confine modules s commands n turns t k u c p q = stop_confines modules s commands n u t c p q turns k
