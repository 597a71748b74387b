-- A command reads nothing outside of what it reaches: beside its run goes the run in another store that has the same
-- members.
use Rattle.std.proofs.Common.{◌≡◌, ◌⊎◌, ℕ, suc, Bool, true, List, [], ◌∷◌, ◌++◌, Option, Some, None, refl, sym, ap, ◌∙◌, subst, inl, inr, arith}
use Rattle.std.specs.Prelude.{flat_map, not}
use Rattle.std.proofs.lemmas.Bool.{or_left, or_right, not_from_false}
use Rattle.std.proofs.lemmas.List.{append-nil}
use Rattle.wasm_types.specs.Each.{Each}
use Rattle.wasm_syntax.specs.declared.declarations.ModuleDecl.{ModuleDecl}
use Rattle.wasm_values.specs.declared.externals.Extern.{Extern}
use Rattle.wasm_objects.specs.declared.raw.RawVal.{RawVal}
use Rattle.spec_machine.specs.Commands.{Row, row}
use Rattle.spec_machine.specs.Machine.{Machine}
use Rattle.spec_machine.specs.Names.{Scope}
use Rattle.spec_machine.specs.declared.command.Command.{Command}
use Rattle.spec_execution.specs.Bodies.{exec}
use Rattle.spec_execution.specs.Commands.{Finish, Early, replied, perform, command}
use Rattle.spec_execution.specs.Entering.{entry}
use Rattle.spec_execution.specs.Instantiation.{instantiate}
use Rattle.spec_execution.specs.Outcomes.{World, Outcome, Values, Branch, Return, Over}
use Rattle.spec_execution.proofs.LaterWorldLemmas.{Later, entry_later, instantiate_later, command_later}
use Rattle.spec_reach.specs.Inside.{SameInside}
use Rattle.spec_reach.specs.Nodes.{Node, func, has, is_there}
use Rattle.spec_reach.specs.Outside.{new_nodes}
use Rattle.spec_reach.specs.Reach.{in_value, in_object, reach}
use Rattle.spec_reach.specs.ReachLaws.{HoldsReach}
use Rattle.spec_reach.specs.Roots.{roots, in_caller, call_roots}
use Rattle.spec_reach.proofs.ReachLemmas.{reach_is_closed}
use Rattle.law_courses.proofs.Bounds.{Bounds, IsHomeOf, Turns}
use Rattle.law_courses.proofs.Courses.{twin, Below, Matches, Alike, Ends, heard_of}
use Rattle.law_courses.proofs.CoursesOfCalls.{entry_alike}
use Rattle.law_courses.proofs.CoursesOfCode.{exec_keeps}
use Rattle.law_courses.proofs.CoursesOfCommands.{Replying, perform_alike}
use Rattle.law_courses.proofs.CoursesOfInstantiation.{instantiate_alike}
use Rattle.law_confined.specs.Laws.{left, left_by, heard_since, all_roots}
use Rattle.law_confined.specs.Members.{is_member, IsMember, IsHeld, IsIn}
use Rattle.law_confined.specs.Mixed.{mixed}
use Rattle.law_confined.specs.Shown.{unshown}
use Rattle.law_confined.specs.Sight.{outcome_in, finish_in, SeesAlike, LawS, LawSOfSets, ReachIsSame}
use Rattle.law_confined.proofs.AllMembers.{AllIn, all_front, all_back, all_flat, one_in}
use Rattle.law_confined.proofs.ClosedSets.{in_value_held, holds_new, roots_in, begins, keeps_reach}
use Rattle.law_confined.proofs.Confinement.{turns, stays}
use Rattle.law_confined.proofs.MemberBounds.{bounds}
use Rattle.law_confined.proofs.MixLemmas.{mixed_sees}
use Rattle.law_confined.proofs.OperationMembers.{command_in}
use Rattle.law_confined.proofs.RowMembers.{StaysRow}
use Rattle.law_confined.proofs.SightReach.{reach_same}
use Rattle.law_confined.proofs.SightStores as second

module _ (w : World) (from set : List Node) (holds : HoldsReach w.machine from set) (other : Machine)
    (inside : SameInside set w.machine other) where
  abbrev M : Node → Bool
  M = is_member w.machine set

  abbrev beside : Machine → Machine
  beside = mixed M other

  abbrev B : Bounds
  B = bounds M w.machine beside w.heard

  abbrev T : Turns B
  T = turns M w.machine beside w.heard (mixed_sees M w.machine other) (second.sees_new set w.machine other inside)
      (holds_new w.machine from set holds)

  begun : Below B (suc w.turns) w
  begun = record {
    fewer = omega arith;
    held = record {
      store = begins w.machine from set holds;
      began = record { more = []; course = sym (append-nil w.heard) };
    };
  }

  -- the other run begins in the other store
  from_other : {O : Type 0} (run : World → O) → run (record w { machine = other }) ≡ run (twin B w)
  from_other run = ap (λ m. run (record w { machine = m })) (sym (second.begins set w.machine other inside))

  -- what is reached behind it is a member
  reached_in :
      (after : Machine) → IsIn M w.machine after → (x : Node)
      → has (reach after (set ++ new_nodes w.machine after)) x ≡ true → IsMember M x
  reached_in after h x e =
      elim (keeps_reach w.machine from set holds after h x e) [
        | inl q ↦ or_left (has set x) (not (is_there w.machine x)) q
        | inr q ↦ or_right (has set x) (not (is_there w.machine x)) (not_from_false (is_there w.machine x) q)
      ]

  ends :
      (after : Machine) → IsIn M w.machine after
      → SameInside (reach after (set ++ new_nodes w.machine after)) after (beside after)
  ends after h = second.ends set w.machine other inside after h _ (reached_in after h)

  -- ---- what the other run comes to

  pub record Seen {O : Type 0} (left_of : O → World) (in_store : Machine → O → O) (o o' : O) : Type 0 where
    pub same : o' ≡ in_store (beside (left_of o).machine) o
    pub kept : IsIn M w.machine (left_of o).machine

  seen_alike :
      {O : Type 0} (left_of : O → World) (in_store : Machine → O → O) (run : World → O)
      → Seen left_of in_store (run w) (run (twin B w)) → SeesAlike left_of in_store run w set other
  seen_alike left_of in_store run s = record {
    after = beside (left_of (run w)).machine;
    same = from_other run ∙ s.same;
    inside = ends (left_of (run w)).machine s.kept;
  }

  matched : (n : ℕ) (o o' : Outcome) → Matches B n o o' → Seen left outcome_in o o'
  matched n (Values s) o' h = record { same = h.0; kept = h.1.world.held.store }
  matched n (Branch l s) o' h = record { same = h.0; kept = h.1.world.held.store }
  matched n (Return s) o' h = record { same = h.0; kept = h.1.world.held.store }
  matched n (Over e v) o' h = record { same = h.0; kept = h.1.store }

  outcome_seen :
      (n : ℕ) (o o' : Outcome) → Later w (left o) → AllIn M (unshown w.machine.id (heard_since w (left o)))
      → Alike B n o o' → Seen left outcome_in o o'
  outcome_seen n o o' l all h =
      elim h.by [
        | inl k ↦ matched n o o' k
        | inr k ↦ absurd (stays w from set holds (left o) l all (strayed o k))
      ]
    where
      strayed : (x : Outcome) → B.Strays (heard_of B x) → B.Strays (left x).heard
      strayed (Values s) h = h
      strayed (Branch l s) h = h
      strayed (Return s) h = h
      strayed (Over e v) h = h

  -- ---- calls and instantiations

  caller_in : (caller : Option ℕ) → AllIn M (in_caller caller) → IsHomeOf B caller
  caller_in None h = tt
  caller_in (Some n) h = one_in M _ [] h

  args_in : (args : List RawVal) → AllIn M (flat_map in_value args) → Each args (IsHeld M)
  args_in args h n v e = in_value_held M v (all_flat M in_value args h n v e)

  call_seen :
      (depth n : ℕ) (args : List RawVal) (caller : Option ℕ) → AllIn M (call_roots n args caller)
      → AllIn M (unshown w.machine.id (heard_since w (left (entry exec depth n args caller w))))
      → SeesAlike left outcome_in (entry exec depth n args caller) w set other
  call_seen depth n args caller h all =
      let behind = all_back M (func n ∷ []) (flat_map in_value args ++ in_caller caller) h in
      let k = suc w.turns in
      seen_alike left outcome_in (entry exec depth n args caller)
      (outcome_seen k (entry exec depth n args caller w) _ (entry_later depth n args caller w) all
      (entry_alike B T k (exec_keeps B T k) depth n args caller w (one_in M (func n) _ h)
      (args_in args (all_front M (flat_map in_value args) (in_caller caller) behind))
      (caller_in caller (all_back M (flat_map in_value args) (in_caller caller) behind)) begun))

  instantiation_seen :
      (depth : ℕ) (d : ModuleDecl) (imports : List Extern) → AllIn M (flat_map (in_object w.machine.id) imports)
      → AllIn M (unshown w.machine.id (heard_since w (left (instantiate exec depth w d imports))))
      → SeesAlike left outcome_in (λ u. instantiate exec depth u d imports) w set other
  instantiation_seen depth d imports h all =
      let k = suc w.turns in
      seen_alike left outcome_in (λ u. instantiate exec depth u d imports)
      (outcome_seen k (instantiate exec depth w d imports) _ (instantiate_later depth w d imports) all
      (instantiate_alike B T k (exec_keeps B T k) depth d imports w h begun))

  -- ---- commands

  -- the other run comes to the same, or what was heard strays
  record IsFinished (o o' : Finish) : Type 0 where
    by : Seen left_by finish_in o o' ⊎ B.Strays (left_by o).heard

  finishes : Ends B Early IsFinished
  finishes = record {
    by = λ e v o' p h. record { by = inl (record { same = p; kept = h.store }) };
    lost = λ e v o' h. record { by = inr h };
  }

  replies : Replying B IsFinished (suc w.turns) replied replied
  replies = record {
    by = λ v answer b h. record { by = inl (record { same = refl; kept = b.held.store }) };
    lost = λ v answer o' h. record { by = inr h };
  }

  finish_seen :
      (o o' : Finish) → Later w (left_by o) → AllIn M (unshown w.machine.id (heard_since w (left_by o))) → IsFinished o o'
      → Seen left_by finish_in o o'
  finish_seen o o' l all h = elim h.by [ inl k ↦ k | inr k ↦ absurd (stays w from set holds (left_by o) l all k) ]

  command_seen :
      (modules : List ModuleDecl) (s : Scope) (c : Command) → AllIn M (roots w.machine.id s c)
      → AllIn M (unshown w.machine.id (heard_since w (left_by (command exec modules s c w))))
      → SeesAlike left_by finish_in (command exec modules s c) w set other
  command_seen modules s c h all =
      let k = suc w.turns in
      let r : StaysRow M w.machine beside w.heard (mixed_sees M w.machine other)
      (second.sees_new set w.machine other inside) (holds_new w.machine from set holds) (row modules w.machine s c)
      (row modules (beside w.machine) s c) =
      command_in M w.machine beside w.heard (mixed_sees M w.machine other) (second.sees_new set w.machine other inside)
      (holds_new w.machine from set holds) w.machine (begins w.machine from set holds) s modules c h in
      seen_alike left_by finish_in (command exec modules s c)
      (subst (λ (x : Row). Seen left_by finish_in (command exec modules s c w)
      (perform Early exec 0 (twin B w) x replied))
      (sym r.same)
      (finish_seen (command exec modules s c w) _ (command_later modules s c w) all
      (perform_alike B T finishes k replied replied replies (exec_keeps B T k) 0 w
      (row modules w.machine s c) r.by begun)))

-- ---- the law

pub law_s_of_sets : LawSOfSets
law_s_of_sets = record {
  calls = λ depth n args caller w set holds other inside.
      let from = call_roots n args caller in
      let v = left (entry exec depth n args caller w) in
      let all = roots_in w.machine (all_roots from w v) set holds in
      call_seen w (all_roots from w v) set holds other inside depth n args caller
      (all_front _ from (unshown w.machine.id (heard_since w v)) all)
      (all_back _ from (unshown w.machine.id (heard_since w v)) all);
  instantiations = λ depth w d imports set holds other inside.
      let from = flat_map (in_object w.machine.id) imports in
      let v = left (instantiate exec depth w d imports) in
      let all = roots_in w.machine (all_roots from w v) set holds in
      instantiation_seen w (all_roots from w v) set holds other inside depth d imports
      (all_front _ from (unshown w.machine.id (heard_since w v)) all)
      (all_back _ from (unshown w.machine.id (heard_since w v)) all);
  commands = λ modules s c w set holds other inside.
      let from = roots w.machine.id s c in
      let v = left_by (command exec modules s c w) in
      let all = roots_in w.machine (all_roots from w v) set holds in
      command_seen w (all_roots from w v) set holds other inside modules s c
      (all_front _ from (unshown w.machine.id (heard_since w v)) all)
      (all_back _ from (unshown w.machine.id (heard_since w v)) all);
}

-- what is reached is such a set
held : (m : Machine) (from set : List Node) → set ≡ reach m from → HoldsReach m from set
held m from set e = subst (HoldsReach m from) (sym e) (reach_is_closed m from)

pub law_s : LawS
law_s = record {
  calls = λ depth n args caller w set e. law_s_of_sets.calls depth n args caller w set (held w.machine _ set e);
  instantiations = λ depth w d imports set e. law_s_of_sets.instantiations depth w d imports set (held w.machine _ set e);
  commands = λ modules s c w set e. law_s_of_sets.commands modules s c w set (held w.machine _ set e);
}

pub reach_is_same : ReachIsSame
reach_is_same m n from inside = reach_same m n from inside
