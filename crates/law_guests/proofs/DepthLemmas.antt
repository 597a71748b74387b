-- A command that a body of the host asks for keeps to what it reaches and reads nothing else, however many functions are
-- open around it: the turns that keep to the members are the same at any depth.
use Rattle.std.proofs.Common.{◌≡◌, ◌⊎◌, ℕ, suc, Bool, true, List, None, [], ◌++◌, refl, sym, ap, ◌∙◌, subst, inl, inr, arith}
use Rattle.std.specs.Prelude.{not}
use Rattle.std.proofs.lemmas.Bool.{or_left, or_right, not_from_false}
use Rattle.std.proofs.lemmas.List.{append-nil}
use Rattle.std.proofs.lemmas.Option.{same_Some}
use Rattle.wasm_types.specs.Memories.{Memory}
use Rattle.wasm_syntax.specs.declared.declarations.ModuleDecl.{ModuleDecl}
use Rattle.wasm_objects.specs.Globals.{Global}
use Rattle.wasm_objects.specs.Tables.{Table}
use Rattle.spec_machine.specs.Commands.{Row, Invoke, Instantiate, row}
use Rattle.spec_machine.specs.Machine.{Machine, InstanceParts}
use Rattle.spec_machine.specs.Names.{Scope}
use Rattle.spec_machine.specs.declared.command.Command.{Command}
use Rattle.spec_machine.specs.declared.reply.Reply.{Reply}
use Rattle.spec_execution.specs.Bodies.{exec}
use Rattle.spec_execution.specs.Commands.{Finish, Replied, Early, replied, perform, by_run, call_reply, instance_reply, command}
use Rattle.spec_execution.specs.Entering.{entry}
use Rattle.spec_execution.specs.Instantiation.{instantiate}
use Rattle.spec_execution.specs.Outcomes.{World, State, Outcome, Values, Branch, Return, Over, Trapped, Refused}
use Rattle.spec_execution.proofs.LaterWorldLemmas.{Later, world_of, end_of, entry_later, instantiate_later, command_later as outermost_later}
use Rattle.spec_reach.specs.Inside.{NamesTheSame, SameInside}
use Rattle.spec_reach.specs.Nodes.{Node, has, is_there}
use Rattle.spec_reach.specs.Outside.{SameOutside, new_nodes}
use Rattle.spec_reach.specs.Reach.{reach}
use Rattle.spec_reach.specs.ReachLaws.{HoldsReach}
use Rattle.spec_reach.specs.Roots.{roots}
use Rattle.spec_reach.proofs.ReachLemmas.{reach_is_closed}
use Rattle.law_courses.proofs.Bounds.{Bounds, Turns}
use Rattle.law_courses.proofs.Courses.{twin, Below, Ends}
use Rattle.law_courses.proofs.CoursesOfCode.{exec_keeps}
use Rattle.law_courses.proofs.CoursesOfCommands.{Replying, perform_alike}
use Rattle.law_confined.specs.Laws.{left_by, heard_since, all_roots, KeepsReach}
use Rattle.law_confined.specs.Members.{is_member, IsMember, IsIn}
use Rattle.law_confined.specs.Mixed.{mixed}
use Rattle.law_confined.specs.Shown.{unshown}
use Rattle.law_confined.specs.Sight.{finish_in, SeesAlike}
use Rattle.law_confined.proofs.AllMembers.{AllIn, all_front, all_back}
use Rattle.law_confined.proofs.ClosedSets.{holds_new, roots_in, begins, same_outside, keeps_reach}
use Rattle.law_confined.proofs.Confinement.{turns, stays}
use Rattle.law_confined.proofs.MemberBounds.{bounds}
use Rattle.law_confined.proofs.MixLemmas.{mixed_sees}
use Rattle.law_confined.proofs.OperationMembers.{command_in}
use Rattle.law_confined.proofs.RowMembers.{StaysRow}
use Rattle.law_confined.proofs.SightStores as second
use Rattle.law_guests.specs.Depths.{command_at, OfCommands, CommandsConfine, CommandsConfineToSets, CommandsKeepReach, CommandsKeepReachOfSets, CommandsSeeReach, CommandsSeeSets}

-- ---- the world that it leaves is a later one

module _ (w : World) where
  run_later :
      (say : State → Reply) (o : Outcome) → Later w (world_of o) → Later w (left_by (by_run Early say replied o))
  run_later say (Values s) h = h
  run_later say (Branch l s) h = h
  run_later say (Return s) h = h
  run_later say (Over (Trapped t) v) h = h
  run_later say (Over (Refused why) v) h = h
  run_later say (Over e v) h = h

  -- of a row that runs no code the depth is not looked at
  row_later :
      (depth : ℕ) (r : Row) → Later w (left_by (perform Early exec 0 w r replied))
      → Later w (left_by (perform Early exec depth w r replied))
  row_later depth (Invoke c) h =
      run_later (call_reply c) (entry exec depth c.function c.arguments None w)
      (entry_later depth c.function c.arguments None w)
  row_later depth (Instantiate d imports) h =
      run_later (instance_reply w.machine) (instantiate exec depth w d imports) (instantiate_later depth w d imports)
  row_later depth r h = h

  pub command_later :
      (depth : ℕ) (modules : List ModuleDecl) (s : Scope) (c : Command)
      → Later w (left_by (command_at depth modules s c w))
  command_later depth modules s c =
      row_later depth (row modules w.machine s c)
      (left_by_later (command exec modules s c w) (outermost_later modules s c w))
    where
      left_by_later : (o : Finish) → Later w (end_of o) → Later w (left_by o)
      left_by_later (Replied answer v) h = h
      left_by_later (Early e v) h = h

-- ---- beside it goes the command in another store that has the same members

module _ (w : World) (from set : List Node) (holds : HoldsReach w.machine from set) (other : Machine)
    (inside : SameInside set w.machine other) where
  abbrev M : Node → Bool
  M = is_member w.machine set

  abbrev beside : Machine → Machine
  beside = mixed M other

  abbrev B : Bounds
  B = bounds M w.machine beside w.heard

  abbrev T : Turns B
  T = turns M w.machine beside w.heard (mixed_sees M w.machine other) (second.sees_new set w.machine other inside)
      (holds_new w.machine from set holds)

  begun : Below B (suc w.turns) w
  begun = record {
    fewer = omega arith;
    held = record {
      store = begins w.machine from set holds;
      began = record { more = []; course = sym (append-nil w.heard) };
    };
  }

  -- it comes to the same in the other store, and keeps to the members
  record Seen (o o' : Finish) : Type 0 where
    same : o' ≡ finish_in (beside (left_by o).machine) o
    kept : IsIn M w.machine (left_by o).machine

  record IsFinished (o o' : Finish) : Type 0 where
    by : Seen o o' ⊎ B.Strays (left_by o).heard

  finishes : Ends B Early IsFinished
  finishes = record {
    by = λ e v o' p h. record { by = inl (record { same = p; kept = h.store }) };
    lost = λ e v o' h. record { by = inr h };
  }

  replies : Replying B IsFinished (suc w.turns) replied replied
  replies = record {
    by = λ v answer b h. record { by = inl (record { same = refl; kept = b.held.store }) };
    lost = λ v answer o' h. record { by = inr h };
  }

  finish_seen :
      (o o' : Finish) → Later w (left_by o) → AllIn M (unshown w.machine.id (heard_since w (left_by o)))
      → IsFinished o o' → Seen o o'
  finish_seen o o' l all h = elim h.by [ inl k ↦ k | inr k ↦ absurd (stays w from set holds (left_by o) l all k) ]

  module _ (depth : ℕ) (modules : List ModuleDecl) (s : Scope) (c : Command) (named : AllIn M (roots w.machine.id s c))
      (handed : AllIn M (unshown w.machine.id (heard_since w (left_by (command_at depth modules s c w))))) where
    command_seen : Seen (command_at depth modules s c w) (command_at depth modules s c (twin B w))
    command_seen =
        let k = suc w.turns in
        let r : StaysRow M w.machine beside w.heard (mixed_sees M w.machine other)
        (second.sees_new set w.machine other inside) (holds_new w.machine from set holds) (row modules w.machine s c)
        (row modules (beside w.machine) s c) =
        command_in M w.machine beside w.heard (mixed_sees M w.machine other) (second.sees_new set w.machine other inside)
        (holds_new w.machine from set holds) w.machine (begins w.machine from set holds) s modules c named in
        subst (λ (x : Row). Seen (command_at depth modules s c w) (perform Early exec depth (twin B w) x replied))
        (sym r.same)
        (finish_seen (command_at depth modules s c w) _ (command_later w depth modules s c) handed
        (perform_alike B T finishes k replied replied replies (exec_keeps B T k) depth w
        (row modules w.machine s c) r.by begun))

    pub command_kept : IsIn M w.machine (left_by (command_at depth modules s c w)).machine
    command_kept = command_seen.kept

    reached_in :
        (after : Machine) → IsIn M w.machine after → (x : Node)
        → has (reach after (set ++ new_nodes w.machine after)) x ≡ true → IsMember M x
    reached_in after h x e =
        elim (keeps_reach w.machine from set holds after h x e) [
          | inl q ↦ or_left (has set x) (not (is_there w.machine x)) q
          | inr q ↦ or_right (has set x) (not (is_there w.machine x)) (not_from_false (is_there w.machine x) q)
        ]

    pub command_sees : SeesAlike left_by finish_in (command_at depth modules s c) w set other
    command_sees =
        let after = (left_by (command_at depth modules s c w)).machine in
        record {
          after = beside after;
          same =
              ap (λ m. command_at depth modules s c (record w { machine = m }))
              (sym (second.begins set w.machine other inside)) ∙ command_seen.same;
          inside = second.ends set w.machine other inside after command_kept _ (reached_in after command_kept);
        }

-- ---- the laws

-- a store is the same as itself
pub own_inside : (set : List Node) (m : Machine) → SameInside set m m
own_inside set m = record {
  rest = refl;
  as_many_memories = refl;
  as_many_tables = refl;
  as_many_globals = refl;
  as_many_instances = refl;
  memory_types = λ k x y p q. ap (λ (z : Memory). z.ty) (same_Some y x (sym q ∙ p));
  table_types = λ k x y p q. ap (λ (z : Table). z.ty) (same_Some y x (sym q ∙ p));
  global_types = λ k x y p q. ap (λ (z : Global). z.ty) (same_Some y x (sym q ∙ p));
  names = λ k i j p q. own_names i j (same_Some j i (sym q ∙ p));
  memories = λ k e. refl;
  tables = λ k e. refl;
  globals = λ k e. refl;
  instances = λ k e. refl;
}
  where
    own_names : (i j : InstanceParts) → j ≡ i → NamesTheSame i j
    own_names i j e = record {
      decl = ap (λ (x : InstanceParts). x.decl) e;
      functions = ap (λ (x : InstanceParts). x.functions) e;
      tables = ap (λ (x : InstanceParts). x.tables) e;
      memories = ap (λ (x : InstanceParts). x.memories) e;
      globals = ap (λ (x : InstanceParts). x.globals) e;
      tags = ap (λ (x : InstanceParts). x.tags) e;
    }

-- what holds of each store on the way from the first holds of all that such commands leave
module _ (P : Machine → Machine → List Node → Type 0)
    (of : (m after : Machine) (from set : List Node) → HoldsReach m from set → IsIn (is_member m set) m after
    → P m after set) where
  of_sets : OfCommands (λ m after from. (set : List Node) → HoldsReach m from set → P m after set)
  of_sets depth modules s c w set holds =
      let v = left_by (command_at depth modules s c w) in
      let own = roots w.machine.id s c in
      let all = roots_in w.machine (all_roots own w v) set holds in
      of w.machine v.machine (all_roots own w v) set holds
      (command_kept w (all_roots own w v) set holds w.machine (own_inside set w.machine) depth modules s c
      (all_front _ own (unshown w.machine.id (heard_since w v)) all)
      (all_back _ own (unshown w.machine.id (heard_since w v)) all))

  of_reach : OfCommands (λ m after from. P m after (reach m from))
  of_reach depth modules s c w = of_sets depth modules s c w _ (reach_is_closed w.machine _)

pub commands_confine : CommandsConfine
commands_confine =
    of_reach (λ m after set. SameOutside set m after)
    (λ m after from set holds h. same_outside m from set holds after h)

pub commands_confine_to_sets : CommandsConfineToSets
commands_confine_to_sets =
    of_sets (λ m after set. SameOutside set m after)
    (λ m after from set holds h. same_outside m from set holds after h)

pub commands_keep_reach : CommandsKeepReach
commands_keep_reach = of_reach KeepsReach (λ m after from set holds h. keeps_reach m from set holds after h)

pub commands_keep_reach_of_sets : CommandsKeepReachOfSets
commands_keep_reach_of_sets = of_sets KeepsReach (λ m after from set holds h. keeps_reach m from set holds after h)

pub commands_see_sets : CommandsSeeSets
commands_see_sets depth modules s c w set holds other inside =
    let v = left_by (command_at depth modules s c w) in
    let own = roots w.machine.id s c in
    let all = roots_in w.machine (all_roots own w v) set holds in
    command_sees w (all_roots own w v) set holds other inside depth modules s c
    (all_front _ own (unshown w.machine.id (heard_since w v)) all)
    (all_back _ own (unshown w.machine.id (heard_since w v)) all)

pub commands_see_reach : CommandsSeeReach
commands_see_reach depth modules s c w set e =
    commands_see_sets depth modules s c w set (subst (HoldsReach w.machine _) (sym e) (reach_is_closed w.machine _))
