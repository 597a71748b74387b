-- Whom a run of commands asks that came to its end: no hook and no deadline behaviour that its store does not have, and
-- nobody behind a step that had no memory.
use Rattle.std.proofs.Common.{◌≡◌, List, [], ◌∷◌, ◌++◌, Option, Some, None, refl, sym, ap, ◌∙◌, subst}
use Rattle.std.specs.Prelude.{ℕ, option_and_then}
use Rattle.std.proofs.lemmas.List.{append_assoc, append-nil}
use Rattle.std.proofs.lemmas.Option.{none-some, same_Some}
use Rattle.wasm_syntax.specs.declared.declarations.ModuleDecl.{ModuleDecl}
use Rattle.wasm_values.specs.declared.refusals.Refusal.TheVariants.{TurnLimit}
use Rattle.law_store.proofs.Lists.{each_none, each_append}
use Rattle.spec_machine.specs.Names.{outermost}
use Rattle.spec_machine.specs.declared.command.Command.{Command}
use Rattle.spec_machine.specs.declared.reply.Reply.TheVariants.{Refused}
use Rattle.spec_execution.specs.Askings.{Asking}
use Rattle.spec_execution.specs.Commands.{Finish, Replied, Early}
use Rattle.spec_execution.specs.Outcomes.{World, Stopped}
use Rattle.spec_execution.specs.Runs.{State, world_in, behind, turns_of, finished, finish_of, step, run}
use Rattle.law_hooks.specs.Askers.{Flags, flags_of, MayHear, AreHeard, AtFinish, KeepsFlags}
use Rattle.law_hooks.proofs.LawLemmas.{only_what_is_set_is_asked}

-- what was heard since
pub record AskedSince (flags : Flags) (h : List Asking) (t : State) : Type 0 where
  pub more : List Asking
  pub course : t.heard ≡ h ++ more
  pub heard : AreHeard flags more
  pub stays : flags_of t.machine ≡ flags

asked_by :
    (turns : ℕ) (s t : State) (w : World) (o : Finish) → AtFinish (AreHeard (flags_of w.machine)) w o
    → KeepsFlags w o → finished turns s o ≡ Some t → AskedSince (flags_of w.machine) w.heard t
asked_by turns s t w (Replied reply v) h k e =
    let g : behind turns v (s.replies ++ reply ∷ []) ≡ t = same_Some (behind turns v (s.replies ++ reply ∷ [])) t e in
    record {
      more = h.more;
      course = sym (ap (λ (u : State). u.heard) g) ∙ h.course;
      heard = h.says;
      stays = sym (ap (λ (u : State). flags_of u.machine) g) ∙ k;
    }
asked_by turns s t w (Early Stopped v) h k e =
    let g : behind turns v (s.replies ++ Refused TurnLimit ∷ []) ≡ t =
    same_Some (behind turns v (s.replies ++ Refused TurnLimit ∷ [])) t e in
    record {
      more = h.more;
      course = sym (ap (λ (u : State). u.heard) g) ∙ h.course;
      heard = h.says;
      stays = sym (ap (λ (u : State). flags_of u.machine) g) ∙ k;
    }
asked_by turns s t w (Early end v) h k e = absurd (none-some t e)

-- two parts of a run
both_asked :
    (flags : Flags) (h : List Asking) (s t : State) → AskedSince flags h s → AskedSince flags s.heard t
    → AskedSince flags h t
both_asked flags h s t a b = record {
  more = a.more ++ b.more;
  course = b.course ∙ ap (λ (xs : List Asking). xs ++ b.more) a.course ∙ append_assoc h a.more b.more;
  heard = each_append (λ (asking : Asking). MayHear flags asking.0 asking.1) a.more b.more a.heard b.heard;
  stays = b.stays;
}

module _ (modules : List ModuleDecl) where
  step_asked :
      (s t : State) (c : Command) → step modules s c ≡ Some t → AskedSince (flags_of s.machine) s.heard t
  step_asked s t c e =
      asked_by (turns_of s.machine) s t (world_in (turns_of s.machine) s) (finish_of modules (turns_of s.machine) s c)
      (only_what_is_set_is_asked.commands modules (outermost s.replies) c (world_in (turns_of s.machine) s))
      (only_what_is_set_is_asked.flags modules (outermost s.replies) c (world_in (turns_of s.machine) s)) e

  goes_asked :
      (commands : List Command) (s t : State)
      → ((u : State) → run modules u commands ≡ Some t → AskedSince (flags_of u.machine) u.heard t) → (o : Option State)
      → ((u : State) → o ≡ Some u → AskedSince (flags_of s.machine) s.heard u)
      → option_and_then (λ (u : State). run modules u commands) o ≡ Some t → AskedSince (flags_of s.machine) s.heard t
  goes_asked commands s t k None j e = absurd (none-some t e)
  goes_asked commands s t k (Some u) j e =
      let a : AskedSince (flags_of s.machine) s.heard u = j u refl in
      both_asked (flags_of s.machine) s.heard u t a
      (subst (λ (f : Flags). AskedSince f u.heard t) a.stays (k u e))

  pub run_asked :
      (commands : List Command) (s t : State) → run modules s commands ≡ Some t
      → AskedSince (flags_of s.machine) s.heard t
  run_asked [] s t e = record {
    more = [];
    course = sym (ap (λ (u : State). u.heard) (same_Some s t e)) ∙ sym (append-nil s.heard);
    heard = each_none (λ (asking : Asking). MayHear (flags_of s.machine) asking.0 asking.1);
    stays = sym (ap (λ (u : State). flags_of u.machine) (same_Some s t e));
  }
  run_asked (c ∷ commands) s t e =
      goes_asked commands s t (λ u f. run_asked commands u t f) (step modules s c) (λ u f. step_asked s u c f) e
