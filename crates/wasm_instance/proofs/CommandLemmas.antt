-- An instantiation as a command of a session: answered, or ended for want of memory.
use Rattle.std.proofs.Common.{◌≡◌, ℕ, suc, ◌+◌, ◌-◌, Vec, Global, List, [], ◌∷◌, ◌++◌, refl, sym, ap, ◌∙◌, subst, inl, inr, arith, append-nil}
use Rattle.std.proofs.lemmas.Option.{same_Some, none-some}
use Rattle.std.specs.Prelude.{Option, Some, None, IsSome, nat_eq, slice_get, if◌then◌else◌, option_map, Result, Ok, Err, IfOk, OnErr}
use Rattle.wasm_types.specs.declared.faults.OutOfMemory.{OutOfMemory as NoMemory}
use Rattle.wasm_syntax.specs.declared.declarations.ModuleDecl.{ModuleDecl}
use Rattle.wasm_values.specs.declared.externals.Extern.{Extern}
use Rattle.wasm_values.specs.declared.refusals.Refusal.{Refusal}
use Rattle.wasm_values.specs.declared.refusals.Refusal.TheVariants.{NoReply, OutOfMemory}
use Rattle.spec_machine.specs.Commands.{Row, Refuse, Instantiate, named, row}
use Rattle.spec_machine.specs.Machine.{Machine}
use Rattle.spec_machine.specs.Names.{outermost, named_objects}
use Rattle.spec_machine.specs.declared.command.Command.{Command}
use Rattle.spec_machine.specs.declared.command.Command.TheVariants as command
use Rattle.spec_machine.specs.declared.name.Name.{Name}
use Rattle.spec_machine.specs.declared.reply.Reply.{Reply}
use Rattle.spec_machine.specs.declared.reply.Reply.TheVariants as reply
use Rattle.spec_execution.specs.Askings.{Asking, answers_in}
use Rattle.spec_execution.specs.Commands.{Finish, Replied, Early}
use Rattle.spec_execution.specs.Outcomes.{World, world, End, Stopped, Exhausted}
use Rattle.spec_execution.specs.Runs.{State, state, behind, stopped, exhausted}
use Rattle.wasm_call.specs.Outcomes.{stop_of, lack_of, AnsweredRow, CutRow, LackedRow}
use Rattle.wasm_call.specs.Outside.{Moving, Surrounded}
use Rattle.wasm_call.specs.Runs.{state_of, Steps, Breaks}
use Rattle.wasm_call.proofs.CommandLemmas.{fresh, command_answered, refused_row}
use Rattle.wasm_instance.specs.Instances.{InstantiationCut, InstantiationFailed}

-- where it stands that was stopped, or came to its end with no turn left
stopped_at : (turns : ℕ) (s : State) (f : Finish) (w : World) → stop_of f ≡ Some w → w.turns ≡ 0 →
    stopped turns s f ≡ Some (behind turns w s.replies)
stopped_at turns s (Replied answer v) w e h =
    let same : v ≡ w = same_Some v w e in
    ap (λ (left : ℕ). if nat_eq left 0 then Some (behind turns v s.replies) else None)
    (ap (λ (x : World). x.turns) same ∙ h)
    ∙ ap (λ (x : World). Some (behind turns x s.replies)) same
stopped_at turns s (Early e v) w p h = by_end e p where
  by_end : (e : End) → stop_of (Early e v) ≡ Some w →
      stopped turns s (Early e v) ≡ Some (behind turns w s.replies)
  by_end Stopped q = ap (λ (x : World). Some (behind turns x s.replies)) (same_Some v w q)
  by_end e q = absurd (none-some w q)

-- where it stands in which a step of the host had no memory
exhausted_at : (turns : ℕ) (s : State) (f : Finish) (w : World) → lack_of f ≡ Some w → w.turns ≡ 1 →
    exhausted turns s f ≡ Some (behind turns w s.replies)
exhausted_at turns s (Replied answer v) w e h = absurd (none-some w e)
exhausted_at turns s (Early e v) w p h = by_end e p where
  by_end : (e : End) → lack_of (Early e v) ≡ Some w →
      exhausted turns s (Early e v) ≡ Some (behind turns w s.replies)
  by_end Exhausted q =
      let same : v ≡ w = same_Some v w q in
      ap (λ (left : ℕ). if nat_eq left 1 then Some (behind turns v s.replies) else None)
      (ap (λ (x : World). x.turns) same ∙ h)
      ∙ ap (λ (x : World). Some (behind turns x s.replies)) same
  by_end e q = absurd (none-some w q)

one_left : (made left : ℕ) → made + left ≡ suc made → left ≡ 1
one_left made left e = omega (arith, e)

all_but_one : (made left : ℕ) → made + left ≡ suc made → suc made - left ≡ made
all_but_one made left e = omega (arith, e)

none_left : (made left : ℕ) → made + left ≡ made → left ≡ 0
none_left made left e = omega (arith, e)

all_made : (made left : ℕ) → made + left ≡ made → made - left ≡ made
all_made made left e = omega (arith, e)

module _ {T H E : Type 0} (rel : Moving T H E) (modules : List ModuleDecl) (number : ℕ) (imports : List Name)
    (old begun : Surrounded T H E) (replies : List Reply) (is_begun : begun ≡ fresh old) where
  abbrev it : Command
  it = command.Instantiate number imports

  abbrev due : Machine → Row
  due m = row modules m (outermost replies) it

  no_turns : begun.store.turns ≡ 0
  no_turns = ap (λ (s : Surrounded T H E). s.store.turns) is_begun

  abbrev IsAnswered : Surrounded T H E → Reply → Type 0
  IsAnswered new answer = Steps rel modules it old replies new (replies ++ answer ∷ [])

  abbrev IsBroken : Surrounded T H E → Type 0
  IsBroken new = Breaks rel modules it new.store.turns old replies new replies

  -- ---- memory ran out before the counts

  cut_before : (new : Surrounded T H E) → new ≡ fresh old → IsBroken new
  cut_before new e =
      let P : Surrounded T H E → Type 0 = λ s. IsBroken s in
      subst P (sym e) (record {
        stops = record {
          heard = [];
          chained = refl;
          stop = λ before rest. inr (inr (
            refl,
            ap (λ (bs : List Asking). Some (state old.store.machine 0 replies bs rest)) (sym (append-nil before)),
          ));
        };
        questions = λ none. absurd none;
        unanswered = refl;
        told = refl;
      })

  pub begun_cut : (r : Result Reply NoMemory) → OnErr r (IsBroken begun)
  begun_cut (Ok answer) = tt
  begun_cut (Err none) = cut_before begun is_begun

  -- ---- a name stands for nothing, or there is no such module

  refused : (r : Row) → due begun.store.machine ≡ r → r ≡ Refuse NoReply → IsAnswered begun (reply.Refused NoReply)
  refused r e f =
      command_answered rel modules replies it (reply.Refused NoReply) old begun begun is_begun
      (refused_row rel (due begun.store.machine) NoReply begun (e ∙ f) no_turns)

  pub no_objects : None ≡ named_objects (outermost replies) imports → IsAnswered begun (reply.Refused NoReply)
  no_objects e =
      refused (Refuse NoReply)
      (ap (λ (o : Option (List Extern)).
      named o (λ objects. named (slice_get modules number) (λ d. Instantiate d objects))) (sym e)) refl

  module _ (found : List Extern) (named_are : Some found ≡ named_objects (outermost replies) imports) where
    due_is : (m : Machine) → due m ≡ named (slice_get modules number) (λ d. Instantiate d found)
    due_is m =
        ap (λ (o : Option (List Extern)).
        named o (λ objects. named (slice_get modules number) (λ d. Instantiate d objects))) (sym named_are)

    pub no_module : None ≡ slice_get modules number → IsAnswered begun (reply.Refused NoReply)
    no_module e =
        refused (named (slice_get modules number) (λ d. Instantiate d found)) (due_is begun.store.machine)
        (ap (λ (o : Option ModuleDecl). named o (λ d. Instantiate d found)) (sym e))

    -- ---- a module was to be instantiated

    module _ (d : ModuleDecl) (module_is : Some d ≡ slice_get modules number) where
      row_is : (m : Machine) → due m ≡ Instantiate d found
      row_is m = due_is m ∙ ap (λ (o : Option ModuleDecl). named o (λ d. Instantiate d found)) (sym module_is)

      pub answered : (answer : Reply) (new : Surrounded T H E) → AnsweredRow rel (Instantiate d found) begun answer
          new →
          IsAnswered new answer
      answered answer new h =
          command_answered rel modules replies it answer old begun new is_begun
          (subst (λ (r : Row). AnsweredRow rel r begun answer new) (sym (row_is begun.store.machine)) h)

      -- memory ran out behind the counts
      cut_after : (new : Surrounded T H E) → CutRow rel (due old.store.machine) (fresh old) new → IsBroken new
      cut_after new k =
          let l = k.led in
          record {
            stops = record {
              heard = l.heard;
              chained = l.chained;
              stop = λ before rest.
                  let s : State = state_of old.store replies before (answers_in l.heard ++ rest) in
                  inl (
                    k.within,
                    stopped_at new.store.turns s _ (world new.store.machine l.left (before ++ l.heard) rest)
                        (l.ends before rest)
                        (none_left new.store.turns l.left l.within)
                        ∙ ap (λ (made : ℕ). Some (state new.store.machine made replies (before ++ l.heard) rest))
                        (all_made new.store.turns l.left l.within),
                  );
            };
            questions = λ none. absurd none;
            unanswered = refl;
            told = refl;
          }

      -- memory ran out in a step of a body of the host
      lacked_after : (new : Surrounded T H E) → LackedRow rel (due old.store.machine) (fresh old) new → IsBroken new
      lacked_after new k =
          let l = k.led in
          record {
            stops = record {
              heard = l.heard;
              chained = l.chained;
              stop = λ before rest.
                  let s : State = state_of old.store replies before (answers_in l.heard ++ rest) in
                  inr (inl (
                    k.within,
                    exhausted_at (suc new.store.turns) s _
                        (world new.store.machine l.left (before ++ l.heard) rest) (l.ends before rest)
                        (one_left new.store.turns l.left l.within)
                        ∙ ap (λ (made : ℕ). Some (state new.store.machine made replies (before ++ l.heard) rest))
                        (all_but_one new.store.turns l.left l.within),
                  ));
            };
            questions = λ none. absurd none;
            unanswered = refl;
            told = refl;
          }

      pub broken : (new : Surrounded T H E) → InstantiationCut rel d found begun new → IsBroken new
      broken new (inr k) =
          lacked_after new
          (subst (λ (r : Row). LackedRow rel r (fresh old) new) (sym (row_is old.store.machine))
          (subst (λ (s : Surrounded T H E). LackedRow rel (Instantiate d found) s new) is_begun k))
      broken new (inl k) =
          cut_after new
          (subst (λ (r : Row). CutRow rel r (fresh old) new) (sym (row_is old.store.machine))
          (subst (λ (s : Surrounded T H E). CutRow rel (Instantiate d found) s new) is_begun k))

      -- it was refused, or memory ran out
      refused_by : (why : Refusal) (new : Surrounded T H E) → ¬ (why ≡ OutOfMemory) →
          InstantiationFailed rel d found begun why new → IsAnswered new (reply.Refused why)
      refused_by OutOfMemory new other h = absurd (other refl)
      refused_by why new other h = answered (reply.Refused why) new h

      pub failed_answered : (why : Refusal) (new : Surrounded T H E) (r : Result Reply NoMemory) →
          IfOk r (λ answer. (answer ≡ reply.Refused why) × ¬ (why ≡ OutOfMemory)) →
          InstantiationFailed rel d found begun why new → IfOk r (λ answer. IsAnswered new answer)
      failed_answered why new (Ok answer) h k =
          subst (λ (a : Reply). IsAnswered new a) (sym h.0) (refused_by why new h.1 k)
      failed_answered why new (Err none) h k = tt

      pub failed_cut : (why : Refusal) (new : Surrounded T H E) (r : Result Reply NoMemory) →
          OnErr r (why ≡ OutOfMemory) → InstantiationFailed rel d found begun why new → OnErr r (IsBroken new)
      failed_cut why new (Ok answer) h k = tt
      failed_cut why new (Err none) h k =
          broken new (subst (λ (w : Refusal). InstantiationFailed rel d found begun w new) h k)

  -- ---- there was no memory for a list of the objects

  objects_there : (o : Option (List Extern)) → named_objects (outermost replies) imports ≡ o → IsSome o →
      None ≡ slice_get modules number → IsAnswered begun (reply.Refused NoReply)
  objects_there (Some found) e some none = no_module found (sym e) none
  objects_there None e some none = absurd cc

  pub unlisted_answered : IsSome (named_objects (outermost replies) imports) → (r : Result Reply NoMemory) →
      IfOk r (λ answer. (answer ≡ reply.Refused NoReply) × (slice_get modules number ≡ None)) →
      IfOk r (λ answer. IsAnswered begun answer)
  unlisted_answered some (Err none) h = tt
  unlisted_answered some (Ok answer) h =
      let P : Reply → Type 0 = λ a. IsAnswered begun a in
      subst P (sym h.0) (objects_there (named_objects (outermost replies) imports) refl some (sym h.1))

-- the objects that names stand for, as code has them
pub names_are : (named : Option (Vec Extern Global)) (found : Vec Extern Global) (items : List Extern)
    (due : Option (List Extern)) → option_map (λ (list : Vec Extern Global). list.items) named ≡ due →
    named ≡ Some found → items ≡ found.items → Some items ≡ due
names_are named found items due e f g =
    ap Some g ∙ sym (ap (option_map (λ (list : Vec Extern Global). list.items)) f) ∙ e
