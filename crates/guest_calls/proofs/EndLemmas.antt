-- What a call of a function and an instantiation by a host leave, by their contracts: guests stay apart, where the host
-- hands out nothing unshown.
use Rattle.std.proofs.Common.{◌≡◌, ℕ, suc, ◌≤◌, arith, Bool, true, false, List, [], ◌∷◌, ◌++◌, length, Option, Some, None, slice_get, inl, inr, refl, sym, ap, ◌∙◌, subst}
use Rattle.std.specs.Prelude.{⊤, flat_map, Result, Ok, Err, IfErr, IfOk, OnOk}
use Rattle.std.proofs.lemmas.Bool.{false≢true}
use Rattle.std.proofs.lemmas.Option.{same_Some}
use Rattle.wasm_syntax.specs.Modules.{IsModule}
use Rattle.wasm_syntax.specs.declared.declarations.ModuleDecl.{ModuleDecl}
use Rattle.wasm_values.specs.Handles.{instance_index, instance_of}
use Rattle.wasm_values.specs.declared.externals.Extern.{Extern}
use Rattle.wasm_values.specs.declared.handles.Func.{Func}
use Rattle.wasm_values.specs.declared.handles.Instance.{Instance}
use Rattle.wasm_values.specs.declared.refusals.Refusal.{Refusal}
use Rattle.wasm_values.specs.declared.refusals.Refusal.TheVariants.{OutOfMemory}
use Rattle.wasm_values.specs.declared.values.Val.{Val}
use Rattle.spec_machine.specs.Commands.{invokes, Instantiate}
use Rattle.spec_machine.specs.FunctionCalls.{Called, called}
use Rattle.spec_machine.specs.Machine.{Machine}
use Rattle.spec_machine.specs.WellFormed.{IsWellFormed}
use Rattle.spec_machine.specs.declared.reply.Reply.{Reply}
use Rattle.spec_machine.specs.declared.reply.Reply.TheVariants as reply
use Rattle.spec_execution.specs.Askings.{Asking, Relations, answers_in}
use Rattle.spec_execution.specs.Bodies.{exec}
use Rattle.spec_execution.specs.Commands.{Early, by_run, call_reply, instance_reply, replied}
use Rattle.spec_execution.specs.Instantiation.{instantiate}
use Rattle.spec_execution.specs.Outcomes.{World, world, State, Outcome, Values, Branch, Return, Over, Trapped, Refused, Stopped}
use Rattle.spec_execution.specs.Runs.{outermost_call}
use Rattle.spec_reach.specs.Nodes.{Node, func, instance, memory, table, global, is_there}
use Rattle.spec_reach.specs.Reach.{in_object, reach}
use Rattle.spec_reach.specs.Roots.{call_roots}
use Rattle.law_code.specs.Good.{IsInstantiated}
use Rattle.law_code.specs.Laws.{MayBegin}
use Rattle.law_code.proofs.Calls.{instantiations_return}
use Rattle.law_confined.specs.Laws.{left, heard_since}
use Rattle.law_confined.specs.RunLaws.{IsShown}
use Rattle.law_plugins.specs.Laws.{IsWithin, KeepsOthers, KeepsAll}
use Rattle.law_plugins.specs.Meeting.{first_meeting, GuestsAreApart, IsSameObject, KeepsGuest}
use Rattle.law_plugins.specs.Showing.{ShowsAlone}
use Rattle.law_plugins.proofs.RunLemmas.{calls_keep_others, loads_keep_all}
use Rattle.law_plugins.proofs.ShowingLemmas.{shows_alone}
use Rattle.law_plugins.proofs.ThereLemmas.{there_at}
use Rattle.wasm_call.specs.Calls.{call_row, Returned, Failed}
use Rattle.wasm_call.specs.Outcomes.{Leads, by_row, answer_of, stop_of, lack_of, CutRow, LackedRow, UnfinishedRow, AnsweredRow}
use Rattle.wasm_call.specs.Outside.{Surrounded, outside, typed, Hears}
use Rattle.wasm_call.proofs.ConfinedLemmas as ends
use Rattle.wasm_call.proofs.ConfinedLemmas.{same_left}
use Rattle.wasm_call.proofs.EngineLemmas.{engine_turns}
use Rattle.wasm_call.proofs.HeardLemmas.{heard_typed, heard_moves}
use Rattle.wasm_instance.specs.Instances.{Instantiated, InstantiationFailed}

-- ---- the world that code left is the one in which its command ended

module _ (say : State → Reply) where
  answered_at : (o : Outcome) (answer : Reply) (v : World) →
      answer_of (by_run Early say replied o) ≡ Some (answer, v) → left o ≡ v
  answered_at o answer v e = sym (same_left say o) ∙ ends.left_at (by_run Early say replied o) answer v e

  stopped_at : (o : Outcome) (v : World) → stop_of (by_run Early say replied o) ≡ Some v → left o ≡ v
  stopped_at o v e = sym (same_left say o) ∙ ends.stopped_at (by_run Early say replied o) v e

  lacked_at : (o : Outcome) (v : World) → lack_of (by_run Early say replied o) ≡ Some v → left o ≡ v
  lacked_at o v e = sym (same_left say o) ∙ ends.lacked_at (by_run Early say replied o) v e

-- ---- where nothing is changed

same_object : (m : Machine) (x : Node) → IsSameObject m m x
same_object m (func n) = refl
same_object m (instance n) = refl
same_object m (memory n) = refl
same_object m (table n) = refl
same_object m (global n) = refl

keeps_own : (m : Machine) (guest : ℕ) → KeepsGuest m m guest
keeps_own m guest = record { reaches = λ x. refl; objects = λ x e. same_object m x }

module _ {T H E : Type 0} (r : Relations T H E) (alone : ShowsAlone r) (old new : Surrounded T H E)
    (well : IsWellFormed old.store.machine) (guests : List ℕ) (are : GuestsAreApart old.store.machine guests) where
  abbrev m : Machine
  m = old.store.machine

  -- where it began, with so many turns
  abbrev began : ℕ → List Asking → World
  began turns heard = world m turns [] (answers_in heard ++ [])

  -- a run from there ended in the new store, by what was heard
  record Ends (run : World → Outcome) : Type 0 where
    turns : ℕ
    heard : List Asking
    rest : ℕ
    few : turns ≤ 1000000000
    hears : Hears (typed r) old heard new
    ended : left (run (began turns heard)) ≡ world new.store.machine rest ([] ++ heard) []

  may : (run : World → Outcome) (e : Ends run) → MayBegin (began e.turns e.heard)
  may run e = record {
    well = well;
    turns = e.few;
    typed = heard_typed r (outside old) (outside new) e.heard e.hears;
  }

  shown : (run : World → Outcome) (e : Ends run) →
      IsShown (heard_since (began e.turns e.heard) (left (run (began e.turns e.heard))))
  shown run e =
      subst IsShown (sym (ap (λ (v : World). heard_since (began e.turns e.heard) v) e.ended))
      (shows_alone r alone (outside old) (outside new) e.heard
      (heard_moves r (outside old) (outside new) e.heard e.hears))

  -- ---- calls

  module _ (f : Func) (args : List Val) (wanted : Option ℕ) (place guest : ℕ)
      (found : slice_get guests place ≡ Some guest)
      (reached : (c : Called) → called m f args wanted ≡ Ok c →
      IsWithin m (call_roots c.function c.arguments None) guest) where
    abbrev Kept : Type 0
    Kept = KeepsOthers m new.store.machine guests place

    by_run_of : (c : Called) → called m f args wanted ≡ Ok c → Ends (λ w. outermost_call w c) → Kept
    by_run_of c e k =
        subst (λ (after : Machine). KeepsOthers m after guests place) (ap (λ (v : World). v.machine) k.ended)
        (calls_keep_others (began k.turns k.heard) f args wanted c guests place guest (may (λ w. outermost_call w c) k) e are
        found (reached c e) (shown (λ w. outermost_call w c) k))

    -- nothing was run
    by_none : m ≡ new.store.machine → Kept
    by_none e =
        subst (λ (after : Machine). KeepsOthers m after guests place) e
        (record { apart = are; kept = λ i g n p. keeps_own m g })

    answered : (due : Result Called Refusal) → called m f args wanted ≡ due → (answer : Reply) →
        Leads (typed r) (λ w. answer_of (by_row (invokes due) w)) m.engine.turns old (λ w. Some (answer, w)) new → Kept
    answered (Ok c) e answer l =
        by_run_of c e (record {
          turns = m.engine.turns;
          heard = l.heard;
          rest = l.left;
          few = engine_turns m well;
          hears = l.chained;
          ended = answered_at (call_reply c) (outermost_call (began m.engine.turns l.heard) c) answer _ (l.ends [] []);
        })
    answered (Err why) e answer l =
        by_none (ap (λ (p : Reply × World). p.1.machine)
        (same_Some (_, began m.engine.turns l.heard) (answer, world new.store.machine l.left ([] ++ l.heard) [])
        (l.ends [] [])))

    cut : (due : Result Called Refusal) → called m f args wanted ≡ due → CutRow (typed r) (invokes due) old new → Kept
    cut (Ok c) e k =
        by_run_of c e (record {
          turns = new.store.turns;
          heard = k.led.heard;
          rest = k.led.left;
          few = omega (arith, k.within, engine_turns m well);
          hears = k.led.chained;
          ended = stopped_at (call_reply c) (outermost_call (began new.store.turns k.led.heard) c) _ (k.led.ends [] []);
        })
    cut (Err why) e k =
        by_none (ap (λ (w : World). w.machine)
        (same_Some (began new.store.turns k.led.heard) (world new.store.machine k.led.left ([] ++ k.led.heard) [])
        (k.led.ends [] [])))

    lacked : (due : Result Called Refusal) → called m f args wanted ≡ due → LackedRow (typed r) (invokes due) old new →
        Kept
    lacked (Ok c) e k =
        by_run_of c e (record {
          turns = suc new.store.turns;
          heard = k.led.heard;
          rest = k.led.left;
          few = omega (arith, k.within, engine_turns m well);
          hears = k.led.chained;
          ended =
              lacked_at (call_reply c) (outermost_call (began (suc new.store.turns) k.led.heard) c) _ (k.led.ends [] []);
        })
    lacked (Err why) e k = absurd (let none = k.led.ends [] [] in cc)

    failed : (why : Refusal) → Failed (typed r) (call_row m f args wanted) old why new → Kept
    failed OutOfMemory (inl k) = cut (called m f args wanted) refl k
    failed OutOfMemory (inr k) = lacked (called m f args wanted) refl k
    failed why l = answered (called m f args wanted) refl _ l

    pub call_keeps_others : (vals : List Val) (result : Result ⊤ Refusal) →
        OnOk result (Returned (typed r) (call_row m f args wanted) old vals new) →
        IfErr result (λ why. Failed (typed r) (call_row m f args wanted) old why new) → Kept
    call_keeps_others vals (Ok done) l k = answered (called m f args wanted) refl _ l
    call_keeps_others vals (Err why) l k = failed why k

  -- ---- instantiations

  module _ (d : ModuleDecl) (imports : List Extern) (is : IsModule d)
      (none : first_meeting m (reach m (flat_map (in_object m.id) imports)) guests ≡ None) where
    abbrev run : World → Outcome
    run w = instantiate exec 0 w d imports

    abbrev AllKept : Type 0
    AllKept = KeepsAll m new.store.machine guests

    by_making : Ends run → AllKept
    by_making k =
        subst (λ (after : Machine). KeepsAll m after guests) (ap (λ (v : World). v.machine) k.ended)
        (loads_keep_all (began k.turns k.heard) d imports guests (may run k) is are none (shown run k))

    ends_answered : (answer : Reply) → AnsweredRow (typed r) (Instantiate d imports) old answer new → Ends run
    ends_answered answer l = record {
      turns = m.engine.turns;
      heard = l.heard;
      rest = l.left;
      few = engine_turns m well;
      hears = l.chained;
      ended = answered_at (instance_reply m) (run (began m.engine.turns l.heard)) answer _ (l.ends [] []);
    }

    ends_unfinished : UnfinishedRow (typed r) (Instantiate d imports) old new → Ends run
    ends_unfinished (inl k) = record {
      turns = new.store.turns;
      heard = k.led.heard;
      rest = k.led.left;
      few = omega (arith, k.within, engine_turns m well);
      hears = k.led.chained;
      ended = stopped_at (instance_reply m) (run (began new.store.turns k.led.heard)) _ (k.led.ends [] []);
    }
    ends_unfinished (inr k) = record {
      turns = suc new.store.turns;
      heard = k.led.heard;
      rest = k.led.left;
      few = omega (arith, k.within, engine_turns m well);
      hears = k.led.chained;
      ended = lacked_at (instance_reply m) (run (began (suc new.store.turns) k.led.heard)) _ (k.led.ends [] []);
    }

    not_loaded : (why : Refusal) → InstantiationFailed (typed r) d imports old why new → AllKept
    not_loaded OutOfMemory k = by_making (ends_unfinished k)
    not_loaded why l = by_making (ends_answered _ l)

    pub load_keeps_all : (result : Result Instance Refusal) → Instantiated (typed r) d imports old result new → AllKept
    load_keeps_all (Ok made) l = by_making (ends_answered _ l)
    load_keeps_all (Err why) l = not_loaded why l

    -- the instance that was made is the one behind those that were there
    record IsMade (made : Instance) (v : World) : Type 0 where
      index : instance_index made ≡ length m.instances
      there : is_there v.machine (instance (length m.instances)) ≡ true

    abbrev instance_in : Instance → Reply → Instance
    instance_in other (reply.Instance made) = made
    instance_in other _ = other

    abbrev is_instance : Reply → Bool
    is_instance (reply.Instance made) = true
    is_instance _ = false

    not_made : (why : Refusal) (w v : World) (made : Instance) →
        ◌≡◌ {A = Option (Reply × World)} (Some (reply.Refused why, w)) (Some (reply.Instance made, v)) → IsMade made v
    not_made why w v made e =
        absurd (false≢true (ap (λ (p : Reply × World). is_instance p.0)
        (same_Some (reply.Refused why, w) (reply.Instance made, v) e)))

    made_by : (base : World) (made : Instance) (v : World) (o : Outcome) →
        IsInstantiated base (length m.instances) d o →
        answer_of (by_run Early (instance_reply m) replied o) ≡ Some (reply.Instance made, v) → IsMade made v
    made_by base made v (Values s) h e =
        let p = same_Some (instance_reply m s, s.world) (reply.Instance made, v) e in
        let told : instance_of m.id (length m.instances) ≡ made =
        ap (λ (q : Reply × World). instance_in made q.0) p in
        record {
          index = ap (λ (i : Instance). instance_index i) (sym told);
          there = subst (λ (w : World). is_there w.machine (instance (length m.instances)) ≡ true)
              (ap (λ (q : Reply × World). q.1) p)
              (there_at s.world.machine.instances (length m.instances) h.1.parts h.1.found);
        }
    made_by base made v (Branch l s) h e = absurd h
    made_by base made v (Return s) h e = absurd h
    made_by base made v (Over (Trapped t) w) h e = not_made _ w v made e
    made_by base made v (Over (Refused why) w) h e = not_made why w v made e
    made_by base made v (Over Stopped w) h e = not_made _ w v made e
    made_by base made v (Over end w) h e = absurd cc

    pub load_adds : (made : Instance) → Instantiated (typed r) d imports old (Ok made) new →
        GuestsAreApart new.store.machine (guests ++ instance_index made ∷ [])
    unfolding ends_answered
    load_adds made l =
        let k = ends_answered (reply.Instance made) l in
        let base = began m.engine.turns l.heard in
        let is_made =
        made_by base made (world new.store.machine l.left ([] ++ l.heard) []) (run base)
        (instantiations_return base 0 d imports (may run k) is) (l.ends [] []) in
        subst (λ (n : ℕ). GuestsAreApart new.store.machine (guests ++ n ∷ [])) (sym is_made.index)
        ((by_making k).one_more is_made.there)

-- what an instantiation answers, for whatever guests
pub load_added : {T H E : Type 0} (r : Relations T H E) → ShowsAlone r → (old new : Surrounded T H E) →
    IsWellFormed old.store.machine → (d : ModuleDecl) (imports : List Extern) → IsModule d →
    (result : Result Instance Refusal) → Instantiated (typed r) d imports old result new →
    IfOk result (λ made. (guests : List ℕ) → GuestsAreApart old.store.machine guests →
    first_meeting old.store.machine (reach old.store.machine (flat_map (in_object old.store.machine.id) imports)) guests
    ≡ None → GuestsAreApart new.store.machine (guests ++ instance_index made ∷ []))
load_added r alone old new well d imports is (Ok made) l =
    λ guests are none. load_adds r alone old new well guests are d imports is none made l
load_added r alone old new well d imports is (Err why) l = tt
