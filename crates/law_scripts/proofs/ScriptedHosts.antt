-- A script's host hands out no function that it was not shown: all that it returns comes by names of what it sees, and no
-- operand of its bodies is a literal function.
use Rattle.std.proofs.Common.{◌≡◌, ℕ, List, [], ◌∷◌, ◌++◌, Option, Some, None, refl, sym, ap, ◌∙◌, subst}
use Rattle.std.specs.Prelude.{Bool, not, filter, flat_map, slice_get, if◌then◌else◌, Result, Ok, Err}
use Rattle.std.proofs.lemmas.Option.{none-some}
use Rattle.wasm_types.specs.Each.{Each}
use Rattle.wasm_types.specs.declared.faults.OutOfMemory.{OutOfMemory}
use Rattle.wasm_values.specs.declared.store_id.StoreId.{StoreId}
use Rattle.wasm_values.specs.declared.values.Val.{Val}
use Rattle.wasm_values.specs.declared.values.Val.TheVariants as v
use Rattle.law_store.proofs.Lists.{each_none, each_drop, each_rest}
use Rattle.spec_machine.specs.Machine.{Machine}
use Rattle.spec_machine.specs.Names.{Scope, operand_values}
use Rattle.spec_machine.specs.declared.name.Name.TheVariants as name
use Rattle.spec_machine.specs.declared.name.Operand.{Operand}
use Rattle.spec_machine.specs.declared.name.Operand.TheVariants as operand
use Rattle.spec_machine.specs.declared.operation.Op.{Op}
use Rattle.spec_machine.specs.declared.operation.Op.TheVariants as op
use Rattle.spec_execution.specs.Activations.{Activation}
use Rattle.spec_execution.specs.Askings.{Question, Growing, Having, Passing, Reading, Behaving, Stepping, Answer, Grown, Has, Passed, Read, Behaved, Stepped, Asking, View, Outside, Relations, Moves, Chain}
use Rattle.spec_execution.specs.declared.answer.Answer.{Answer as Say}
use Rattle.spec_execution.specs.declared.answer.Event.{Event}
use Rattle.spec_reach.specs.Nodes.{Node, has}
use Rattle.spec_reach.specs.Reach.{in_object}
use Rattle.spec_reach.specs.Roots.{in_val, by_name, by_operand}
use Rattle.law_confined.specs.Shown.{in_reply, shown, literal, literals, handed_out, unshown_by, unshown}
use Rattle.law_confined.proofs.AllMembers.{AllIn, all_none, all_front, all_back, one_in}
use Rattle.law_confined.proofs.MemberBounds.{IsOpen}
use Rattle.law_confined.proofs.NameLemmas.{values_in}
use Rattle.law_confined.proofs.SaidMembers.{said_roots}
use Rattle.script_commands.specs.declared.host_bodies.Action.{Action}
use Rattle.script_commands.specs.declared.host_bodies.Action.TheVariants as action
use Rattle.script_data.specs.declared.script_data.ScriptData.{ScriptData}
use Rattle.script_host.specs.Notes.{behind_notes}
use Rattle.script_host.specs.ScriptSteps.{HostParts, Step, Steps, says, says_by, returned, scope_in, from_place, actions_from}
use Rattle.law_scripts.specs.Literals.{IsNoFunction, OperatesByNames, ActsByNames, AreByNames}

-- ---- lists of nodes

-- where all are in a set, none is left without it
none_left : (M : Node → Bool) (xs : List Node) → AllIn M xs → filter (λ x. not (M x)) xs ≡ []
none_left M [] h = refl
none_left M (x ∷ xs) h =
    ap (λ b. if not b then x ∷ filter (λ y. not (M y)) xs else filter (λ y. not (M y)) xs) (one_in M x xs h)
    ∙ none_left M xs (all_back M (x ∷ []) xs h)

module _ (id : StoreId) where
  -- ---- operands and operations give no literal function

  no_literal : (given : Operand) → IsNoFunction given → literal id given ≡ []
  no_literal (operand.Val (v.FuncRef (Some f))) h = absurd h
  no_literal (operand.Val (v.FuncRef None)) h = refl
  no_literal (operand.Val _) h = refl
  no_literal (operand.Named n) h = refl

  no_literals : (given : List Operand) → Each given IsNoFunction → flat_map (literal id) given ≡ []
  no_literals [] h = refl
  no_literals (one ∷ more) h =
      ap (λ (xs : List Node). xs ++ flat_map (literal id) more) (no_literal one (h 0 one refl))
      ∙ no_literals more (each_rest IsNoFunction one more h)

  operates : (o : Op) → OperatesByNames o → literals id o ≡ []
  operates (op.TableNew ty init) h = no_literal init h
  operates (op.TableSet table at value) h = no_literal value h
  operates (op.TableGrow table delta value) h = no_literal value h
  operates (op.TableFill table at value len) h = no_literal value h
  operates (op.GlobalNew ty init) h = no_literal init h
  operates (op.GlobalSet global value) h = no_literal value h
  operates (op.Call f args results) h = no_literals args h
  operates _ h = refl

-- ---- what a step says, in a store whose id is this one's

module _ (m : Machine) (view : View) where
  abbrev M : Node → Bool
  M = has (shown m.id view)

  abbrev here : Scope
  here = scope_in view.arguments view.replies view.stored

  -- what the step sees, as an activation that no instance called
  abbrev seen : Activation
  seen = record {
    body = 0;
    state = 0;
    results = [];
    arguments = view.arguments;
    stored = view.stored;
    replies = view.replies;
    caller = None;
    depth = 0;
  }

  all_shown : AllIn M (shown m.id view)
  all_shown = record { by = λ x e. e }

  is_open : IsOpen M m seen
  is_open =
      let a = all_back M (flat_map (in_val m.id) view.arguments) _ all_shown in
      let b = all_back M (flat_map (in_object m.id) view.stored) _ a in
      record {
        arguments = all_front M (flat_map (in_val m.id) view.arguments) _ all_shown;
        stored = all_front M (flat_map (in_object m.id) view.stored) _ a;
        replies = all_front M (flat_map (in_reply m.id) view.replies) _ b;
        caller = λ n e. absurd (none-some n e);
      }

  operands_shown : (given : List Operand) → Each given IsNoFunction → AllIn M (flat_map (by_operand m.id here) given)
  operands_shown given h =
      all_back M (by_name m.id here name.Caller) (flat_map (by_operand m.id here) given)
      (said_roots M m m seen is_open (op.Call name.Caller given None)
      (subst (AllIn M) (sym (no_literals m.id given h)) (all_none M)))

  abbrev Unshown : Say → List Node
  Unshown what = filter (λ x. not (M x)) (handed_out m.id what)

  returned_shown : (given : List Operand) (o : Option (List Val)) → operand_values here given ≡ o → Each given IsNoFunction
      → Unshown (returned o) ≡ []
  returned_shown given None e h = refl
  returned_shown given (Some vals) e h =
      none_left M (flat_map (in_val m.id) vals) (values_in M m.id here given vals e (operands_shown given h))

  says_shown : (o : Option Action) → ((a : Action) → o ≡ Some a → ActsByNames a) → Unshown (says_by here o) ≡ []
  says_shown None h = refl
  says_shown (Some (action.Note parts)) h = refl
  says_shown (Some (action.Do o)) h = ap (filter (λ x. not (M x))) (operates m.id o (h (action.Do o) refl))
  says_shown (Some (action.Return given)) h =
      returned_shown given (operand_values here given) refl (h (action.Return given) refl)
  says_shown (Some action.Fail) h = refl

-- ---- the actions of a step

each_behind : (actions : List Action) → Each actions ActsByNames → Each (behind_notes actions) ActsByNames
each_behind [] h = h
each_behind (action.Note parts ∷ more) h = each_behind more (each_rest ActsByNames (action.Note parts) more h)
each_behind (a ∷ more) h = h

each_from : (place : ℕ) (o : Option (List Action)) → ((actions : List Action) → o ≡ Some actions → Each actions ActsByNames)
    → Each (from_place place o) ActsByNames
each_from place None h = each_none ActsByNames
each_from place (Some actions) h = each_drop ActsByNames place actions (h actions refl)

module _ (m : Machine) where
  -- ---- a step

  says_by_names :
      (h : HostParts) (body place : ℕ) (view : View) → AreByNames h.bodies
      → Unshown m view (says (here m view) (behind_notes (actions_from h body place))) ≡ []
  says_by_names h body place view are =
      let rest : Each (behind_notes (actions_from h body place)) ActsByNames =
      each_behind (actions_from h body place)
      (each_from place (slice_get h.bodies body) (λ actions e. are body actions e)) in
      says_shown m view (slice_get (behind_notes (actions_from h body place)) 0) (λ a e. rest 0 a e)

  -- what is heard of one step, and the bodies behind it
  pub record IsShown (q : Question) (a : Answer) (before behind : HostParts) : Type 0 where
    pub none : unshown_by m.id q a ≡ []
    pub bodies : behind.bodies ≡ before.bodies

  step_shown :
      (h k : HostParts) (s t : ScriptData) (body place : ℕ) (event : Event) (view : View) (after : ℕ)
      (what : Result Say OutOfMemory) → Steps h s body place view after what k t → AreByNames h.bodies
      → IsShown (Stepping body place event view) (Stepped after what) h k
  step_shown h k s t body place event view after (Ok what) g are = record {
    none =
        ap (λ (x : Step). Unshown m view x.answer) g.goes ∙ says_by_names h body place view are;
    bodies = ap (λ (x : Step). x.host.bodies) g.goes;
  }
  step_shown h k s t body place event view after (Err no_memory) g are =
      record { none = refl; bodies = ap (λ (x : HostParts). x.bodies) g.goes.0 }

  -- ---- all that is heard, where the host's steps are those of scripts

  module _ {E : Type 0} (r : Relations ScriptData HostParts E)
      (are_steps : (h k : HostParts) (s t : ScriptData) (body place after : ℕ) (event : Event) (view : View)
      (what : Result Say OutOfMemory) → r.steps h s body place event view after what k t → Steps h s body place view after what k t) where
    abbrev Out : Type 0
    Out = Outside ScriptData HostParts E

    host_stays : (q : Question) (a : Answer) (old new : Out) (stands : Out) → unshown_by m.id q a ≡ [] → new ≡ stands
        → stands.host ≡ old.host → IsShown q a old.host new.host
    host_stays q a old new stands e p p' =
        record { none = e; bodies = ap (λ (x : Out). x.host.bodies) p ∙ ap (λ (x : HostParts). x.bodies) p' }

    move_shown :
        (q : Question) (a : Answer) (old new : Out) → Moves r old q a new → AreByNames old.host.bodies
        → IsShown q a old.host new.host
    move_shown (Growing g) (Grown answer) old new k are =
        host_stays (Growing g) (Grown answer) old new (record old { host_data = k.0 }) refl k.2 refl
    move_shown (Having body) (Has answer) old new k are =
        host_stays (Having body) (Has answer) old new old refl k.1 refl
    move_shown (Passing event) (Passed answer) old new k are =
        host_stays (Passing event) (Passed answer) old new (record old { host_data = k.0 }) refl k.2 refl
    move_shown Reading (Read answer) old new k are =
        host_stays Reading (Read answer) old new (record old { epochs = k.0 }) refl k.2 refl
    move_shown Behaving (Behaved answer) old new k are =
        host_stays Behaving (Behaved answer) old new (record old { host_data = k.0 }) refl k.2 refl
    move_shown (Stepping body place event view) (Stepped after what) old new k are =
        step_shown old.host new.host old.host_data new.host_data body place event view after what
        (are_steps old.host new.host old.host_data new.host_data body place after event view what k.0) are
    move_shown q a old new k are = absurd k

    -- nothing is handed out that was not shown
    pub nothing_is_unshown :
        (heard : List Asking) (old new : Out) → Chain (Moves r) old heard new → AreByNames old.host.bodies
        → unshown m.id heard ≡ []
    nothing_is_unshown [] old new k are = refl
    nothing_is_unshown (asking ∷ more) old new k are =
        let shown_ : IsShown asking.0 asking.1 old.host k.0.host = move_shown asking.0 asking.1 old k.0 k.1 are in
        ap (λ (xs : List Node). xs ++ unshown m.id more) shown_.none
        ∙ nothing_is_unshown more k.0 new k.2 (subst AreByNames (sym shown_.bodies) are)
