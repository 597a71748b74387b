-- A run beside another: commands, and operations of a host, of anything that may end early.
use Rattle.std.proofs.Common.{◌≡◌, ◌<◌, ℕ, List, None, sym, ap, ◌∙◌, subst, inl, inr, arith}
use Rattle.std.specs.Prelude.{Ok, Err, length}
use Rattle.wasm_values.specs.Handles.{instance_of}
use Rattle.wasm_values.specs.declared.refusals.Refusal.TheVariants as refusal
use Rattle.wasm_values.specs.declared.store_id.StoreId.{StoreId}
use Rattle.wasm_values.specs.declared.values.Val.{Val}
use Rattle.spec_machine.specs.Commands.{Row, Refuse, Act, ActAt, Grow, Invoke, Instantiate}
use Rattle.spec_machine.specs.Growth.{Decision, Granted, Failed, Faulted, Plan}
use Rattle.spec_machine.specs.Machine.{Machine}
use Rattle.spec_machine.specs.declared.reply.Reply.{Reply}
use Rattle.spec_machine.specs.declared.reply.Reply.TheVariants as reply
use Rattle.spec_execution.specs.Askings.{Reading, Answer, Read}
use Rattle.spec_execution.specs.Bodies.{exec}
use Rattle.spec_execution.specs.Commands.{acts, grown, dated, by_run, call_reply, instance_reply, perform}
use Rattle.spec_execution.specs.Entering.{entry}
use Rattle.spec_execution.specs.Instantiation.{instantiate}
use Rattle.spec_execution.specs.Outcomes.{World, State, Outcome, Values, Branch, Return, Over, End, Trapped, Refused, Stuck}
use Rattle.spec_execution.proofs.LaterWorldLemmas.{world_of, entry_later, instantiate_later}
use Rattle.law_courses.proofs.Bounds.{Bounds, IsRowIn, row_in, Turns}
use Rattle.law_courses.proofs.Courses.{twin, twin_state, Inside, Below, Holds, Matches, Alike, Ends, ended, turn_alike, ask_alike, below_in}
use Rattle.law_courses.proofs.CoursesOfCalls.{Keeps, entry_alike}
use Rattle.law_courses.proofs.CoursesOfChecks.{decide_alike}
use Rattle.law_courses.proofs.CoursesOfInstantiation.{instantiate_alike}

-- what follows a reply, in anything that may end early
abbrev pub Next : Type 0 → Type 0
Next O = World → Reply → O

pub record Replying (B : Bounds) {O : Type 0} (R : O → O → Type 0) (n : ℕ) (go go' : Next O) : Type 0 where
  pub by : (v : World) (answer : Reply) → Below B n v → B.IsReply answer → R (go v answer) (go' (twin B v) answer)
  pub lost : (v : World) (answer : Reply) (o' : O) → B.Strays v.heard → R (go v answer) o'

module _ (B : Bounds) (T : Turns B) {O : Type 0} {early : End → World → O} {R : O → O → Type 0}
    (ends : Ends B early R) (n : ℕ) (go go' : Next O) (j : Replying B R n go go') where
  acts_alike :
      (v : World) (after : Machine) (answer : Reply) → B.IsIn after → B.IsReply answer → Below B n v
      → R (acts early v after answer go) (acts early (twin B v) (B.other after) answer go')
  acts_alike v after answer k r b =
      turn_alike B T ends n v (λ u. go (record u { machine = after }) answer)
      (λ u. go' (record u { machine = B.other after }) answer) b
      (λ u c. j.by (record u { machine = after }) answer (below_in B T n u after k c) r)

  grown_alike :
      (p : Plan Reply) → B.IsIn p.after → B.IsReply p.gives → (d : Decision) (v : World) → Below B n v
      → R (grown early p go d v) (grown early (record p { after = B.other p.after }) go' d (twin B v))
  grown_alike p k r Granted v b = acts_alike v p.after p.gives k r b
  grown_alike p k r Failed v b = j.by v (reply.Refused refusal.GrowFailed) b (T.refused refusal.GrowFailed)
  grown_alike p k r Faulted v b = j.by v (reply.Refused refusal.LimiterFault) b (T.refused refusal.LimiterFault)

  dated_alike :
      (after : ℕ → Machine) (answer : Reply) → ((reading : ℕ) → B.IsIn (after reading)) → B.IsReply answer
      → (a : Answer) (v : World) → Below B n v
      → R (dated early after answer go a v) (dated early (λ reading. B.other (after reading)) answer go' a (twin B v))
  dated_alike after answer k r (Read (Ok reading)) v b = acts_alike v (after reading) answer (k reading) r b
  dated_alike after answer k r (Read (Err fault)) v b =
      j.by v (reply.Refused refusal.EpochFault) b (T.refused refusal.EpochFault)
  dated_alike after answer k r a v b = ended B T ends Stuck v b.held

  -- ---- code that a command runs, with the reply at its end in the one store and in the other

  module _ (say say' : State → Reply)
      (told : (s : State) → Holds B n s → B.IsReply (say s) × (say' (twin_state B s) ≡ say s)) where
    says_alike :
        (s : State) (o' : O) → o' ≡ go' (twin B s.world) (say' (twin_state B s)) → Holds B n s
        → R (go s.world (say s)) o'
    says_alike s o' e h =
        let k = told s h in
        subst (λ (x : O). R (go s.world (say s)) x) (sym (e ∙ ap (go' (twin B s.world)) k.1))
        (j.by s.world (say s) h.world k.0)

    refused_alike :
        (v : World) (why : _) (o' : O) → o' ≡ go' (twin B v) (reply.Refused why) → v.turns < n → Inside B v
        → R (go v (reply.Refused why)) o'
    refused_alike v why o' e few h =
        subst (λ (x : O). R (go v (reply.Refused why)) x) (sym e)
        (j.by v (reply.Refused why) (record { fewer = few; held = h }) (T.refused why))

    run_match :
        (o o' : Outcome) → (world_of o).turns < n → Matches B n o o'
        → R (by_run early say go o) (by_run early say' go' o')
    run_match (Values s) o' few h = says_alike s _ (ap (by_run early say' go') h.0) h.1
    run_match (Branch l s) o' few h = ends.by Stuck s.world _ (ap (by_run early say' go') h.0) h.1.world.held
    run_match (Return s) o' few h = ends.by Stuck s.world _ (ap (by_run early say' go') h.0) h.1.world.held
    run_match (Over (Trapped t) v) o' few h =
        refused_alike v (refusal.Trap t) _ (ap (by_run early say' go') h.0) few h.1
    run_match (Over (Refused why) v) o' few h = refused_alike v why _ (ap (by_run early say' go') h.0) few h.1
    run_match (Over e v) o' few h = ends.by e v _ (ap (by_run early say' go') h.0) h.1

    run_lost :
        (o : Outcome) (o' : O) → B.Strays (Rattle.law_courses.proofs.Courses.heard_of B o)
        → R (by_run early say go o) o'
    run_lost (Values s) o' h = j.lost s.world (say s) o' h
    run_lost (Branch l s) o' h = ends.lost Stuck s.world o' h
    run_lost (Return s) o' h = ends.lost Stuck s.world o' h
    run_lost (Over (Trapped t) v) o' h = j.lost v (reply.Refused (refusal.Trap t)) o' h
    run_lost (Over (Refused why) v) o' h = j.lost v (reply.Refused why) o' h
    run_lost (Over e v) o' h = ends.lost e v o' h

    by_run_alike :
        (o o' : Outcome) → (world_of o).turns < n → Alike B n o o' → R (by_run early say go o) (by_run early say' go' o')
    by_run_alike o o' few h =
        elim h.by [
          | inl k ↦ run_match o o' few k
          | inr k ↦ run_lost o _ k
        ]

  -- ---- a command by its row

  instance_same :
      (a b : StoreId) (x y : ℕ) → b ≡ a → y ≡ x → reply.Instance (instance_of b y) ≡ reply.Instance (instance_of a x)
  instance_same a b x y e e' =
      ap (λ (i : StoreId). reply.Instance (instance_of i y)) e ∙ ap (λ (z : ℕ). reply.Instance (instance_of a z)) e'

  module _ (keeps : Keeps B n) (depth : ℕ) where
    pub perform_alike :
        (v : World) (r : Row) → IsRowIn B r → Below B n v
        → R (perform early exec depth v r go) (perform early exec depth (twin B v) (row_in B.other r) go')
    perform_alike v (Refuse why) k b = j.by v (reply.Refused why) b (T.refused why)
    perform_alike v (Act after answer) k b = acts_alike v after answer k.0 k.1 b
    perform_alike v (ActAt after answer) k b =
        ask_alike B T ends n v Reading (dated early after answer go)
        (dated early (λ reading. B.other (after reading)) answer go') b (dated_alike after answer k.0 k.1)
    perform_alike v (Grow p) k b =
        decide_alike B T ends n v p (B.other p.after) (grown early p go)
        (grown early (record p { after = B.other p.after }) go') (grown_alike p k.0 k.1) b
    perform_alike v (Invoke c) k b =
        by_run_alike (call_reply c) (call_reply c)
        (λ s h. let t = T.called_reply s.world.machine c s.operands h.world.held.store h.operands in
        (t.0, ap (λ (vals : List Val). reply.Values vals) t.1))
        (entry exec depth c.function c.arguments None v) _
        (omega (arith, b.fewer, (entry_later depth c.function c.arguments None v).fewer))
        (entry_alike B T n keeps depth c.function c.arguments None v k.0 k.1 tt b)
    perform_alike v (Instantiate d imports) k b =
        by_run_alike (instance_reply v.machine) (instance_reply (B.other v.machine))
        (λ s h. (
          T.new_instance v.machine b.held.store,
          instance_same v.machine.id (B.other v.machine).id (length v.machine.instances)
              (length (B.other v.machine).instances) (T.same v.machine b.held.store).id
              (T.same v.machine b.held.store).instances,
        ))
        (instantiate exec depth v d imports) _
        (omega (arith, b.fewer, (instantiate_later depth v d imports).fewer))
        (instantiate_alike B T n keeps depth d imports v k b)
