-- Memory ran out in a command that makes a function of the host: that is a stop of it before its turn, and nothing is
-- done.
use Rattle.std.proofs.Common.{inl, inr, ◌≡◌, ℕ, zero, suc, List, [], ◌∷◌, ◌++◌, Option, Some, None, refl, ap, ◌∙◌, subst, arith}
use Rattle.std.proofs.lemmas.Option.{same_Some, none-some}
use Rattle.std.specs.Prelude.{Bool, true, false, Result, Ok, Err, nat_eq, if◌then◌else◌}
use Rattle.wasm_types.specs.Signatures.{Signature}
use Rattle.wasm_syntax.specs.declared.declarations.ModuleDecl.{ModuleDecl}
use Rattle.wasm_values.specs.declared.externals.Extern.TheVariants as x
use Rattle.wasm_values.specs.declared.refusals.Refusal.{Refusal}
use Rattle.spec_machine.specs.Commands.{Row, Refuse, Act, makes, named, row}
use Rattle.spec_machine.specs.Machine.{Machine}
use Rattle.spec_machine.specs.Names.{Scope, outermost, named_objects}
use Rattle.spec_machine.specs.ValueCalls.{func_new}
use Rattle.spec_machine.specs.declared.command.Command.{Command}
use Rattle.spec_machine.specs.declared.command.Command.TheVariants as command
use Rattle.spec_machine.specs.declared.name.Name.{Name}
use Rattle.spec_machine.specs.declared.reply.Reply.{Reply}
use Rattle.spec_machine.specs.declared.reply.Reply.TheVariants.{Object}
use Rattle.spec_execution.specs.Askings.{Asking, Outside, answers_in, Chain}
use Rattle.spec_execution.specs.Bodies.{exec}
use Rattle.spec_execution.specs.Commands.{Early, perform, replied}
use Rattle.spec_execution.specs.Runs.{State, stopped, exhausted, world_in, IsStop}
use Rattle.wasm_store.specs.Stores.{store_parts}
use Rattle.wasm_call.specs.Outside.{Moving, Surrounded, surrounded, outside, turns_heard}
use Rattle.wasm_call.specs.Runs.{state_of, Breaks}

-- a refusal, or an act
abbrev IsPlain : Row → Type 0
IsPlain (Refuse why) = Unit {0}
IsPlain (Act after reply) = Unit {0}
IsPlain _ = ⊥

plain_makes : {A : Type 0} (say : A → Reply) (due : Result (Machine × A) Refusal) → IsPlain (makes say due)
plain_makes say (Ok made) = tt
plain_makes say (Err why) = tt

plain_named : {A : Type 0} (o : Option A) (go : A → Row) → ((a : A) → IsPlain (go a)) → IsPlain (named o go)
plain_named None go h = tt
plain_named (Some a) go h = h a

-- no answer was taken; and where there is no turn nothing is done
abbrev IsUndone : ℕ → State → State → Type 0
IsUndone turns s t = (t.answers ≡ s.answers) × (turns ≡ 0 → t.machine ≡ s.machine)

only : (b : Bool) (u t : State) → (if b then Some u else None) ≡ Some t → u ≡ t
only true u t e = same_Some u t e
only false u t e = absurd (none-some t e)

undone_by : (turns : ℕ) (s u t : State) → u.answers ≡ s.answers → (turns ≡ 0 → u.machine ≡ s.machine) → u ≡ t →
    IsUndone turns s t
undone_by turns s u t a m e = subst (λ (v : State). IsUndone turns s v) e (a, m)

never : {A : Type 0} (turns : ℕ) → suc turns ≡ 0 → A
never turns e = absurd (omega (arith, e))

stopped_undone : (turns : ℕ) (s t : State) (r : Row) → IsPlain r →
    stopped turns s (perform Early exec 0 (world_in turns s) r replied) ≡ Some t → IsUndone turns s t
stopped_undone turns s t (Refuse why) p e =
    undone_by turns s _ t refl (λ none. refl) (only (nat_eq turns 0) _ t e)
stopped_undone zero s t (Act after reply) p e = undone_by 0 s _ t refl (λ none. refl) (same_Some _ t e)
stopped_undone (suc turns) s t (Act after reply) p e =
    undone_by (suc turns) s _ t refl (λ none. never turns none) (only (nat_eq turns 0) _ t e)
stopped_undone turns s t _ p e = absurd p

exhausted_never : (turns : ℕ) (s t : State) (r : Row) → IsPlain r →
    exhausted turns s (perform Early exec 0 (world_in turns s) r replied) ≡ Some t → ⊥
exhausted_never turns s t (Refuse why) p e = none-some t e
exhausted_never zero s t (Act after reply) p e = none-some t e
exhausted_never (suc turns) s t (Act after reply) p e = none-some t e
exhausted_never turns s t _ p e = p

no_answers : (heard : List Asking) → [] ≡ answers_in heard ++ [] → heard ≡ []
no_answers [] e = refl
no_answers (asking ∷ heard) e = absurd (cc e)

module _ (modules : List ModuleDecl) (ty : Signature) (body : ℕ) (stored : List Name) where
  abbrev it : Command
  it = command.FuncNew ty body stored

  plain_row : (m : Machine) (s : Scope) → IsPlain (row modules m s it)
  plain_row m s =
      plain_named (named_objects s stored) _
      (λ found. plain_makes (λ h. Object (x.Func h)) (func_new m ty body found))

  stop_undone : (turns : ℕ) (s t : State) → IsStop modules s (it ∷ []) 0 turns t → IsUndone turns s t
  stop_undone turns s t (inl h) =
      stopped_undone turns s t (row modules s.machine (outermost s.replies) it)
      (plain_row s.machine (outermost s.replies)) h.1
  stop_undone turns s t (inr (inl h)) =
      absurd (exhausted_never (suc turns) s t (row modules s.machine (outermost s.replies) it)
      (plain_row s.machine (outermost s.replies)) h.1)
  stop_undone turns s t (inr (inr h)) = absurd (none-some t h.1)

  pub unmade : {T H E : Type 0} (rel : Moving T H E) (replies : List Reply) (old new : Surrounded T H E) →
      Breaks rel modules it new.store.turns old replies new replies →
      new ≡ surrounded (record old.store { turns = 0 }) old.host old.epochs
  unmade {T} {H} {E} rel replies old new b =
      let k = b.stops in
      let first : State = state_of old.store replies [] (answers_in k.heard ++ []) in
      let last : State = state_of new.store replies k.heard [] in
      let h : IsUndone new.store.turns first last = stop_undone new.store.turns first last (k.stop [] []) in
      let empty : k.heard ≡ [] = no_answers k.heard h.0 in
      let none : new.store.turns ≡ 0 = b.questions tt ∙ ap turns_heard empty in
      let same : new.store.machine ≡ old.store.machine = h.1 none in
      let quiet : outside new ≡ outside old =
      subst (λ (heard : List Asking). Chain rel (outside old) heard (outside new)) empty k.chained in
      ap (λ (m : Machine). surrounded (store_parts m new.store.turns new.store.host_data) new.host new.epochs) same
      ∙ ap (λ (n : ℕ). surrounded (store_parts old.store.machine n new.store.host_data) new.host new.epochs) none
      ∙ ap (λ (o : Outside T H E). surrounded (store_parts old.store.machine 0 o.host_data) o.host o.epochs) quiet
