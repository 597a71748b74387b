-- A command changes nothing outside of what it reaches: its turns keep to the members, so the whole does.
use Rattle.std.proofs.Common.{◌≡◌, ◌⊎◌, ℕ, suc, Bool, true, List, [], ◌∷◌, ◌++◌, length, drop, Option, Some, None, refl, sym, ap, ◌∙◌, inl, inr, arith}
use Rattle.std.specs.Prelude.{flat_map}
use Rattle.std.specs.List.{list_all}
use Rattle.std.proofs.lemmas.Bool.{and_from}
use Rattle.std.proofs.lemmas.List.{append-nil}
use Rattle.std.proofs.Math.Seq.{drop-append_seam}
use Rattle.wasm_types.specs.Each.{Each}
use Rattle.wasm_syntax.specs.declared.declarations.ModuleDecl.{ModuleDecl}
use Rattle.wasm_values.specs.declared.externals.Extern.{Extern}
use Rattle.wasm_objects.specs.declared.raw.RawVal.{RawVal}
use Rattle.spec_machine.specs.Commands.{row}
use Rattle.spec_machine.specs.Machine.{Machine}
use Rattle.spec_machine.specs.Names.{Scope}
use Rattle.spec_machine.specs.declared.command.Command.{Command}
use Rattle.spec_execution.specs.Askings.{Asking}
use Rattle.spec_execution.specs.Bodies.{exec}
use Rattle.spec_execution.specs.Commands.{Finish, Early, replied, command}
use Rattle.spec_execution.specs.Entering.{entry}
use Rattle.spec_execution.specs.Instantiation.{instantiate}
use Rattle.spec_execution.specs.Outcomes.{World, Outcome, Values, Branch, Return, Over}
use Rattle.spec_execution.proofs.LaterWorldLemmas.{Later, entry_later, instantiate_later, command_later}
use Rattle.spec_reach.specs.Nodes.{Node, func}
use Rattle.spec_reach.specs.Outside.{SameOutside}
use Rattle.spec_reach.specs.Reach.{in_value, in_object, reach}
use Rattle.spec_reach.specs.ReachLaws.{HoldsReach}
use Rattle.spec_reach.specs.Roots.{roots, in_caller, call_roots}
use Rattle.spec_reach.proofs.ReachLemmas.{reach_is_closed}
use Rattle.law_courses.proofs.Bounds.{Bounds, IsHomeOf, Turns}
use Rattle.law_courses.proofs.Courses.{Below, Matches, Alike, Ends, heard_of}
use Rattle.law_courses.proofs.CoursesOfCalls.{entry_alike}
use Rattle.law_courses.proofs.CoursesOfCode.{exec_keeps}
use Rattle.law_courses.proofs.CoursesOfCommands.{Replying, perform_alike}
use Rattle.law_courses.proofs.CoursesOfInstantiation.{instantiate_alike}
use Rattle.law_confined.specs.Laws.{left, left_by, heard_since, all_roots, OfAll, LawC, LawCOfSets, KeepsReach, LawG, LawGOfSets}
use Rattle.law_confined.specs.Members.{is_member, IsHeld, IsIn}
use Rattle.law_confined.specs.Shown.{unshown}
use Rattle.law_confined.proofs.AllMembers.{AllIn, all_none, all_front, all_back, all_flat, one_in}
use Rattle.law_confined.proofs.ClosedSets.{in_value_held, holds_new, roots_in, begins, same_outside, keeps_reach}
use Rattle.law_confined.proofs.CodeTurns as code
use Rattle.law_confined.proofs.HostMembers as host
use Rattle.law_confined.proofs.MakingTurns as making
use Rattle.law_confined.proofs.MemberBounds.{bounds}
use Rattle.law_confined.proofs.NewMembers.{HoldsNew, SeesNew, same_sees_new}
use Rattle.law_confined.proofs.MixLemmas.{same_sees}
use Rattle.law_confined.proofs.OperationMembers.{command_in}
use Rattle.law_confined.proofs.RowMembers.{StaysRow}
use Rattle.law_confined.proofs.SaidMembers.{operates}
use Rattle.law_confined.proofs.ShownLemmas as shown
use Rattle.law_confined.proofs.OtherStores.{Sees}

-- ---- each turn, by the file that shows it

module _ (M : Node → Bool) (first : Machine) (other : Machine → Machine) (heard0 : List Asking)
    (sees : Sees M first other) (news : SeesNew M first other) (new : HoldsNew M first) where
  pub turns : Turns (bounds M first other heard0)
  turns = record {
    same = λ m h. news.same m h;
    acts = λ m n locals operands j h home hl ho. code.acts M first other heard0 sees m n locals operands j h home hl ho;
    charges = λ m amount h. making.charges M first other heard0 new sees news m amount h;
    delays = λ m deadline h. making.delays M first other heard0 new sees news m deadline h;
    instance_is = λ m n h home. code.instance_is M first other heard0 sees m n h home;
    function_named = λ m n k f i h home e e'. code.function_named M first other heard0 sees m n h home i e k f e';
    memory_is = λ m n k x i h home e e'. code.memory_is M first other heard0 sees m n h home i e k x e';
    table_is = λ m n k x i h home e e'. code.table_is M first other heard0 sees m n h home i e k x e';
    element_held = λ m n k x at i t y h home e e' e'' e3.
        code.element_held M first other heard0 sees m n h home i e k x e' t e'' at y e3;
    callee_held = λ f h. code.callee_held M first other heard0 sees f h;
    number_held = λ n x. code.number_held M first other heard0 sees n x;
    begun_held = λ f. code.locals_held M first other heard0 sees f;
    memory_grows =
        λ m n k x delta i y h home e e' e''. code.memory_grows M first other heard0 sees m n h home i e k x e' delta y;
    table_grows = λ m n k x delta i t y h home e e' e'' hy.
        code.table_grows M first other heard0 sees m n h home i e k x e' t e'' delta y hy;
    type_is = λ m f h k. making.type_is M first other heard0 new sees news m f h k;
    leads = λ m n f h k e. code.leads M first other heard0 sees m n f h k e;
    opens = λ m n depth body t stored args caller h k e held home.
        host.opens M first other sees news new m h heard0 n depth body t stored args caller k e held home;
    view_is = λ m a h o. host.view_is M first other sees news new m h a o;
    goes_on = λ heard asking b. shown.goes_on M first.id heard0 heard asking b;
    strays_on = λ heard asking k. shown.strays_on M first.id heard0 heard asking k;
    says = λ v a event after what h b o.
        host.says M first heard0 v a event after what b (host.opened M first other sees news new v.machine h a o);
    stepped = λ a after o. record { arguments = o.arguments; stored = o.stored; replies = o.replies; caller = o.caller };
    said_on = λ a after what k. k;
    replies = λ a answer o k. host.replies M first a answer o k;
    returns = λ m a vals h o k. host.returns M first other sees news new m h vals a.results k;
    operates = λ m a op h o k. operates M first other heard0 sees news new m h a op o k;
    refused = λ why. all_none M;
    called_reply = λ m c operands h k. host.called_reply M first other sees news new m h c operands k;
    new_home = λ m h. making.new_home M first other heard0 new sees news m h;
    new_instance = λ m h. making.new_instance M first other heard0 new sees news m h;
    checks = λ m d imports h k. making.checks M first other heard0 new sees news m d imports h k;
    counts = λ m d h. making.counts M first other heard0 new sees news m d h;
    makes = λ m d imports h given. making.makes M first other heard0 new sees news m d imports h given;
    numbers = λ m d imports h given. making.names M first other heard0 new sees news m d imports h given;
  }

-- ---- where something ends that began in the first store, if all functions that were handed out unshown are members

list_in : (M : Node → Bool) (xs : List Node) → AllIn M xs → list_all M xs ≡ true
list_in M [] h = refl
list_in M (x ∷ xs) h = and_from (M x) (list_all M xs) (one_in M x xs h) (list_in M xs (all_back M (x ∷ []) xs h))

module _ (w : World) (from set : List Node) (holds : HoldsReach w.machine from set) where
  abbrev M : Node → Bool
  M = is_member w.machine set

  abbrev B : Bounds
  B = bounds M w.machine (λ m. m) w.heard

  abbrev T : Turns B
  T =
      turns M w.machine (λ m. m) w.heard (same_sees M w.machine) (same_sees_new M w.machine)
      (holds_new w.machine from set holds)

  -- it begins on the way
  begun : Below B (suc w.turns) w
  begun = record {
    fewer = omega arith;
    held = record {
      store = begins w.machine from set holds;
      began = record { more = []; course = sym (append-nil w.heard) };
    };
  }

  abbrev IsKept : World → Type 0
  IsKept v = IsIn M w.machine v.machine

  -- what was heard since is what is behind what was heard before
  heard_is : (v : World) → Later w v → v.heard ≡ w.heard ++ heard_since w v
  heard_is v l =
      let more : List Asking = l.course.0 in
      let e : v.heard ≡ w.heard ++ more = l.course.1 in
      e ∙ ap (λ (xs : List Asking). w.heard ++ xs)
      (sym (ap (λ (xs : List Asking). drop (length w.heard) xs) e ∙ drop-append_seam w.heard more))

  module _ (v : World) (l : Later w v) (all : AllIn M (unshown w.machine.id (heard_since w v))) where
    -- nothing leads out of the members
    pub stays : B.Strays v.heard → ⊥
    stays h =
        shown.never_strays M w.machine.id w.heard v.heard (heard_since w v) (heard_is v l)
        (list_in M (unshown w.machine.id (heard_since w v)) all) h

  matched_in : (n : ℕ) (o o' : Outcome) → Matches B n o o' → IsKept (left o)
  matched_in n (Values s) o' h = h.1.world.held.store
  matched_in n (Branch l s) o' h = h.1.world.held.store
  matched_in n (Return s) o' h = h.1.world.held.store
  matched_in n (Over e v) o' h = h.1.store

  strayed_in : (o : Outcome) → B.Strays (heard_of B o) → B.Strays (left o).heard
  strayed_in (Values s) h = h
  strayed_in (Branch l s) h = h
  strayed_in (Return s) h = h
  strayed_in (Over e v) h = h

  outcome_in :
      (n : ℕ) (o o' : Outcome) → Later w (left o) → AllIn M (unshown w.machine.id (heard_since w (left o)))
      → Alike B n o o' → IsKept (left o)
  outcome_in n o o' l all h =
      elim h.by [
        | inl k ↦ matched_in n o o' k
        | inr k ↦ absurd (stays (left o) l all (strayed_in o k))
      ]

  -- ---- calls and instantiations

  caller_in : (caller : Option ℕ) → AllIn M (in_caller caller) → IsHomeOf B caller
  caller_in None h = tt
  caller_in (Some n) h = one_in M _ [] h

  args_in : (args : List RawVal) → AllIn M (flat_map in_value args) → Each args (IsHeld M)
  args_in args h n v e = in_value_held M v (all_flat M in_value args h n v e)

  call_in :
      (depth n : ℕ) (args : List RawVal) (caller : Option ℕ) → AllIn M (call_roots n args caller)
      → let o = entry exec depth n args caller w in AllIn M (unshown w.machine.id (heard_since w (left o)))
      → IsKept (left o)
  call_in depth n args caller h all =
      let behind = all_back M (func n ∷ []) (flat_map in_value args ++ in_caller caller) h in
      let k = suc w.turns in
      outcome_in k (entry exec depth n args caller w) _ (entry_later depth n args caller w) all
      (entry_alike B T k (exec_keeps B T k) depth n args caller w (one_in M (func n) _ h)
      (args_in args (all_front M (flat_map in_value args) (in_caller caller) behind))
      (caller_in caller (all_back M (flat_map in_value args) (in_caller caller) behind)) begun)

  instantiation_in :
      (depth : ℕ) (d : ModuleDecl) (imports : List Extern) → AllIn M (flat_map (in_object w.machine.id) imports)
      → let o = instantiate exec depth w d imports in AllIn M (unshown w.machine.id (heard_since w (left o)))
      → IsKept (left o)
  instantiation_in depth d imports h all =
      let k = suc w.turns in
      outcome_in k (instantiate exec depth w d imports) _ (instantiate_later depth w d imports) all
      (instantiate_alike B T k (exec_keeps B T k) depth d imports w h begun)

  -- ---- commands

  -- what a command comes to is on the way, or strays
  record IsFinished (o o' : Finish) : Type 0 where
    by : IsKept (left_by o) ⊎ B.Strays (left_by o).heard

  finishes : Ends B Early IsFinished
  finishes = record {
    by = λ e v o' p h. record { by = inl h.store };
    lost = λ e v o' h. record { by = inr h };
  }

  replies : Replying B IsFinished (suc w.turns) replied replied
  replies = record {
    by = λ v answer b h. record { by = inl b.held.store };
    lost = λ v answer o' h. record { by = inr h };
  }

  finished_in :
      (o o' : Finish) → Later w (left_by o) → AllIn M (unshown w.machine.id (heard_since w (left_by o))) → IsFinished o o'
      → IsKept (left_by o)
  finished_in o o' l all h = elim h.by [ inl k ↦ k | inr k ↦ absurd (stays (left_by o) l all k) ]

  command_kept :
      (modules : List ModuleDecl) (s : Scope) (c : Command) → AllIn M (roots w.machine.id s c)
      → let o = command exec modules s c w in AllIn M (unshown w.machine.id (heard_since w (left_by o)))
      → IsKept (left_by o)
  command_kept modules s c h all =
      let k = suc w.turns in
      let r : StaysRow M w.machine (λ m. m) w.heard (same_sees M w.machine) (same_sees_new M w.machine)
      (holds_new w.machine from set holds) (row modules w.machine s c) (row modules w.machine s c) =
      command_in M w.machine (λ m. m) w.heard (same_sees M w.machine) (same_sees_new M w.machine)
      (holds_new w.machine from set holds) w.machine (begins w.machine from set holds) s modules c h in
      finished_in (command exec modules s c w) _ (command_later modules s c w) all
      (perform_alike B T finishes k replied replied replies (exec_keeps B T k) 0 w (row modules w.machine s c) r.by begun)

-- ---- the laws

-- what holds of each store on the way from the first holds of all
module _ (P : Machine → Machine → List Node → Type 0)
    (of : (m after : Machine) (from set : List Node) → HoldsReach m from set → IsIn
    (is_member m set) m after → P m after set) where
  of_sets : OfAll (λ m after from. (set : List Node) → HoldsReach m from set → P m after set)
  of_sets = record {
    calls = λ depth n args caller w set holds.
        let v = left (entry exec depth n args caller w) in
        let all = roots_in w.machine (all_roots (call_roots n args caller) w v) set holds in
        of w.machine v.machine (all_roots (call_roots n args caller) w v) set holds
        (call_in w (all_roots (call_roots n args caller) w v) set holds depth n args caller
        (all_front _ (call_roots n args caller) (unshown w.machine.id (heard_since w v)) all)
        (all_back _ (call_roots n args caller) (unshown w.machine.id (heard_since w v)) all));
    instantiations = λ depth w d imports set holds.
        let v = left (instantiate exec depth w d imports) in
        let own = flat_map (in_object w.machine.id) imports in
        let all = roots_in w.machine (all_roots own w v) set holds in
        of w.machine v.machine (all_roots own w v) set holds
        (instantiation_in w (all_roots own w v) set holds depth d imports
        (all_front _ own (unshown w.machine.id (heard_since w v)) all)
        (all_back _ own (unshown w.machine.id (heard_since w v)) all));
    commands = λ modules s c w set holds.
        let v = left_by (command exec modules s c w) in
        let own = roots w.machine.id s c in
        let all = roots_in w.machine (all_roots own w v) set holds in
        of w.machine v.machine (all_roots own w v) set holds
        (command_kept w (all_roots own w v) set holds modules s c
        (all_front _ own (unshown w.machine.id (heard_since w v)) all)
        (all_back _ own (unshown w.machine.id (heard_since w v)) all));
  }

  -- and of what is reached, which is such a set
  of_reach : OfAll (λ m after from. P m after (reach m from))
  of_reach = record {
    calls = λ depth n args caller w. of_sets.calls depth n args caller w _ (reach_is_closed w.machine _);
    instantiations = λ depth w d imports. of_sets.instantiations depth w d imports _ (reach_is_closed w.machine _);
    commands = λ modules s c w. of_sets.commands modules s c w _ (reach_is_closed w.machine _);
  }

pub law_c : LawC
law_c =
    of_reach (λ m after set. SameOutside set m after)
    (λ m after from set holds h. same_outside m from set holds after h)

pub law_c_of_sets : LawCOfSets
law_c_of_sets =
    of_sets (λ m after set. SameOutside set m after)
    (λ m after from set holds h. same_outside m from set holds after h)

pub law_g : LawG
law_g = of_reach KeepsReach (λ m after from set holds h. keeps_reach m from set holds after h)

pub law_g_of_sets : LawGOfSets
law_g_of_sets = of_sets KeepsReach (λ m after from set holds h. keeps_reach m from set holds after h)
