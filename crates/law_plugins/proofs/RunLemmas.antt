-- A call or an instantiation in which nothing is handed out unshown keeps guests apart, by the laws of confinement.
use Rattle.std.proofs.Common.{◌≡◌, ℕ, zero, suc, true, false, List, [], ◌∷◌, ◌++◌, length, Option, Some, None, slice_get, refl, sym, ap, ◌∙◌, subst, inl, inr, le_refl, append-nil}
use Rattle.std.specs.Prelude.{flat_map, Ok}
use Rattle.std.proofs.lemmas.Bool.{false≢true, and_from, cases_order, le-ltb}
use Rattle.std.proofs.lemmas.Option.{none-some, same_Some}
use Rattle.wasm_syntax.specs.Modules.{IsModule}
use Rattle.wasm_syntax.specs.declared.declarations.ModuleDecl.{ModuleDecl}
use Rattle.wasm_values.specs.declared.externals.Extern.{Extern}
use Rattle.wasm_values.specs.declared.handles.Func.{Func}
use Rattle.wasm_values.specs.declared.values.Val.{Val}
use Rattle.spec_machine.specs.FunctionCalls.{Called, called}
use Rattle.spec_machine.specs.Machine.{Machine}
use Rattle.spec_execution.specs.Bodies.{exec}
use Rattle.spec_execution.specs.Instantiation.{instantiate}
use Rattle.spec_execution.specs.Outcomes.{World}
use Rattle.spec_execution.specs.Runs.{outermost_call}
use Rattle.spec_reach.specs.Nodes.{Node, instance, has, nodes, is_there}
use Rattle.spec_reach.specs.Outside.{SameOutside}
use Rattle.spec_reach.specs.Reach.{in_object, reach}
use Rattle.spec_reach.specs.ReachLaws.{HoldsReach}
use Rattle.spec_reach.specs.Roots.{call_roots}
use Rattle.spec_reach.proofs.FilterLemmas.{has_filter}
use Rattle.spec_reach.proofs.ReachLemmas.{reach_is_closed, reach_roots}
use Rattle.law_store.specs.Later.{Extends}
use Rattle.law_code.specs.Laws.{MayBegin}
use Rattle.law_code.proofs.Conditions.{IsSafeCall, safe_call}
use Rattle.law_confined.specs.Laws.{left, heard_since, all_roots, KeepsReach}
use Rattle.law_confined.specs.RunLaws.{IsShown}
use Rattle.law_confined.proofs.ClosedSets.{there_has}
use Rattle.law_confined.proofs.Confinement.{law_c_of_sets, law_g_of_sets}
use Rattle.law_confined.proofs.KeptLemmas.{law_k}
use Rattle.law_plugins.specs.Laws.{IsWithin, CallsKeepOthers, LoadsKeepAll}
use Rattle.law_plugins.specs.Meeting.{is_private, is_common, common, reach_of, or_next, meeting_from, AreApart, GuestsAreApart}
use Rattle.law_plugins.proofs.ApartLemmas.{other_way, one_called, others_kept, none_loaded, all_kept, one_loaded}
use Rattle.law_plugins.proofs.KeptLemmas.{one_has, reached_there}

-- what a change of a store that is confined to a set keeps
record IsConfined (set : List Node) (m after : Machine) : Type 0 where
  outside : SameOutside set m after
  reaches : KeepsReach m after set
  later : Extends m after

module _ (w : World) (may : MayBegin w) where
  -- with nothing unshown, the roots are those that are named
  all_held :
      (from set : List Node) (v : World) → IsShown (heard_since w v) → HoldsReach w.machine from set
      → HoldsReach w.machine (all_roots from w v) set
  all_held from set v shown h =
      subst (λ (ns : List Node). HoldsReach w.machine (from ++ ns) set) (sym (shown w.machine.id))
      (subst (λ (ns : List Node). HoldsReach w.machine ns set) (sym (append-nil from)) h)

  call_confined :
      (f : Func) (args : List Val) (wanted : Option ℕ) (c : Called) (set : List Node)
      → called w.machine f args wanted ≡ Ok c → IsShown (heard_since w (left (outermost_call w c)))
      → HoldsReach w.machine (call_roots c.function c.arguments None) set
      → IsConfined set w.machine (left (outermost_call w c)).machine
  call_confined f args wanted c set e shown h =
      let s : IsSafeCall w.machine c = safe_call w.machine f args wanted c e in
      let all = all_held (call_roots c.function c.arguments None) set (left (outermost_call w c)) shown h in
      record {
        outside = law_c_of_sets.calls 0 c.function c.arguments None w set all;
        reaches = law_g_of_sets.calls 0 c.function c.arguments None w set all;
        later = law_k.calls 0 c.function c.arguments None s.own w may s.found s.arguments;
      }

  instantiation_confined :
      (d : ModuleDecl) (imports : List Extern) (set : List Node) → IsModule d
      → IsShown (heard_since w (left (instantiate exec 0 w d imports)))
      → HoldsReach w.machine (flat_map (in_object w.machine.id) imports) set
      → IsConfined set w.machine (left (instantiate exec 0 w d imports)).machine
  instantiation_confined d imports set is shown h =
      let all =
      all_held (flat_map (in_object w.machine.id) imports) set (left (instantiate exec 0 w d imports)) shown h in
      record {
        outside = law_c_of_sets.instantiations 0 w d imports set all;
        reaches = law_g_of_sets.instantiations 0 w d imports set all;
        later = law_k.instantiations 0 w d imports may is;
      }

-- what roots lead to that a guest reaches
module _ (m : Machine) (guest : ℕ) where
  within : (from : List Node) → IsWithin m from guest → HoldsReach m from (reach_of m guest)
  within from h =
      record { rooted = λ x r t. h x r; closed = (reach_is_closed m (instance guest ∷ [])).closed }

  own_instance : is_there m (instance guest) ≡ true → has (reach_of m guest) (instance guest) ≡ true
  own_instance e =
      reach_roots m (instance guest ∷ []) (instance guest) (one_has (instance guest)) (there_has m (instance guest) e)

-- ---- calls

-- of a list of guests that are apart, each but the one at a place is apart from that one
module _ (m : Machine) (guests : List ℕ) (are : GuestsAreApart m guests) where
  others_apart :
      (place guest i g : ℕ) → slice_get guests place ≡ Some guest → (i ≡ place → ⊥) → slice_get guests i ≡ Some g
      → AreApart m (reach_of m guest) (reach_of m g)
  others_apart place guest i g e n p =
      elim (cases_order i place) [
        | inl k ↦ absurd (n k)
        | inr (inl l) ↦ other_way m (reach_of m g) (reach_of m guest) (are.apart i place g guest l p e)
        | inr (inr l) ↦ are.apart place i guest g l e p
      ]

pub calls_keep_others : CallsKeepOthers
calls_keep_others w f args wanted c guests place guest may e are found reached shown =
    let m : Machine = w.machine in
    let set : List Node = reach_of m guest in
    let v : World = left (outermost_call w c) in
    let k : IsConfined set m v.machine =
    call_confined w may f args wanted c set e shown (within m guest (call_roots c.function c.arguments None) reached) in
    let own = own_instance m guest (are.there place guest found) in
    let apart : (i g : ℕ) → (i ≡ place → ⊥) → slice_get guests i ≡ Some g → AreApart m set (reach_of m g) =
    λ i g n p. others_apart m guests are place guest i g found n p in
    record {
      apart =
          one_called m v.machine set k.outside k.reaches k.later may.well guests are place guest found own apart;
      kept =
          others_kept m v.machine set k.outside k.reaches k.later may.well guests are place guest found own apart;
    }

-- ---- loads

-- where nothing private is in common
common_none : (m : Machine) (roots b : List Node) → common m (reach m roots) b ≡ [] → AreApart m (reach m roots) b
common_none m roots b e x p q r =
    let there = there_has m x (reached_there m roots x q) in
    let h : has (common m (reach m roots) b) x ≡ true =
    has_filter (is_common m (reach m roots) b) (nodes m) x there
    (and_from (is_private m x) _ p (and_from (has (reach m roots) x) (has b x) q r)) in
    false≢true (sym (ap (λ (ns : List Node). has ns x) e) ∙ h)

next_none : (place : ℕ) (xs : List Node) (next : Option (ℕ × Node)) → or_next place xs next ≡ None →
    (xs ≡ []) × (next ≡ None)
next_none place [] next e = (refl, e)
next_none place (x ∷ xs) next e = absurd (none-some _ (sym e))

none_meets :
    (m : Machine) (roots : List Node) (place : ℕ) (guests : List ℕ) → meeting_from m (reach m roots) place guests ≡ None
    → (i g : ℕ) → slice_get guests i ≡ Some g → AreApart m (reach m roots) (reach_of m g)
none_meets m roots place [] e i g p = absurd (none-some g p)
none_meets m roots place (h ∷ guests) e zero g p =
    let none = next_none place (common m (reach m roots) (reach_of m h)) _ e in
    subst (λ (n : ℕ). AreApart m (reach m roots) (reach_of m n)) (same_Some h g p)
    (common_none m roots (reach_of m h) none.0)
none_meets m roots place (h ∷ guests) e (suc i) g p =
    none_meets m roots (suc place) guests (next_none place (common m (reach m roots) (reach_of m h)) _ e).1 i g p

pub loads_keep_all : LoadsKeepAll
loads_keep_all w d imports guests may is are none shown =
    let m : Machine = w.machine in
    let from : List Node = flat_map (in_object m.id) imports in
    let set : List Node = reach m from in
    let v : World = left (instantiate exec 0 w d imports) in
    let k : IsConfined set m v.machine =
    instantiation_confined w may d imports set is shown (reach_is_closed m from) in
    let apart : (i g : ℕ) → slice_get guests i ≡ Some g → AreApart m set (reach_of m g) =
    λ i g p. none_meets m from 0 guests none i g p in
    let n : ℕ = length m.instances in
    let new : is_there m (instance n) ≡ false = le-ltb n n (le_refl n) in
    record {
      apart = none_loaded m v.machine set k.outside k.reaches k.later may.well guests are apart;
      kept = all_kept m v.machine set k.outside k.reaches k.later may.well guests are apart;
      one_more =
          λ made. one_loaded m v.machine set k.outside k.reaches k.later may.well guests are apart n new made;
    }
