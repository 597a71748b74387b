-- What deeds leave, one after another, by the laws of confinement and of what valid code keeps.
use Rattle.std.proofs.Common.{◌≡◌, ℕ, suc, true, List, [], ◌∷◌, Option, None, slice_get, refl, sym, ap, ◌∙◌, subst}
use Rattle.std.proofs.lemmas.Bool.{false_from_ne_true}
use Rattle.wasm_objects.specs.Globals.{Global}
use Rattle.wasm_objects.specs.Tables.{Table}
use Rattle.wasm_values.specs.declared.store_id.StoreId.{StoreId}
use Rattle.spec_machine.specs.Machine.{Machine, Function, InstanceParts}
use Rattle.spec_machine.specs.WellFormed.{IsWellFormed}
use Rattle.spec_execution.specs.Outcomes.{World}
use Rattle.spec_reach.specs.Nodes.{Node, func, instance, memory, table, global, has}
use Rattle.spec_reach.specs.Outside.{SameOutside}
use Rattle.spec_reach.specs.Reach.{links, where_there, from_function, from_instance, in_references, in_value}
use Rattle.law_store.specs.Later.{Extends}
use Rattle.law_code.specs.Laws.{MayBegin}
use Rattle.law_code.proofs.Conditions.{IsSafeCall, safe_call}
use Rattle.law_confined.proofs.Confinement.{law_c}
use Rattle.law_confined.proofs.KeptLemmas.{law_k}
use Rattle.law_plugins.specs.Meeting.{reach_of, AreApart, IsSameObject, KeepsGuest}
use Rattle.law_plugins.proofs.KeptLemmas.{stays_there, same_object, same_private, keeps_guest}
use Rattle.law_guests.specs.Deeds.{Deed, Calls, Makes, Does, behind, reached, MayBeDone, Begins, UnreachedIsSame, StaysEnclosed, UnreachedStaysEnclosed, UnreachedGuestIsKept}
use Rattle.law_guests.specs.Enclosed.{IsEnclosed}

-- ---- one deed

record IsConfined (m : Machine) (w : World) (d : Deed) : Type 0 where
  well : IsWellFormed m
  outside : SameOutside (reached w d) m (behind d w).machine
  later : Extends m (behind d w).machine

confined : (w : World) (d : Deed) → MayBegin w → MayBeDone w.machine d → IsConfined w.machine w d
confined w (Calls c) may h =
    let s : IsSafeCall w.machine c = safe_call w.machine h.func h.arguments h.wanted c h.conditions in
    record {
      well = may.well;
      outside = law_c.calls 0 c.function c.arguments None w;
      later = law_k.calls 0 c.function c.arguments None s.own w may s.found s.arguments;
    }
confined w (Makes d imports) may h = record {
  well = may.well;
  outside = law_c.instantiations 0 w d imports;
  later = law_k.instantiations 0 w d imports may h;
}
confined w (Does modules s c) may h = record {
  well = may.well;
  outside = law_c.commands modules s c w;
  later = law_k.commands modules s c w may h.0 h.1;
}

begun : (m : Machine) (w : World) (d : Deed) → Begins m w d → IsConfined m w d
begun m w d b =
    subst (λ (n : Machine). IsConfined n w d) b.over
    (confined w d b.may (subst (λ (n : Machine). MayBeDone n d) (sym b.over) b.conditions))

-- ---- objects that are the same, from one store to the next

own_object : (m : Machine) (x : Node) → IsSameObject m m x
own_object m (func n) = refl
own_object m (instance n) = refl
own_object m (memory n) = refl
own_object m (table n) = refl
own_object m (global n) = refl

same_on : (m next after : Machine) (x : Node) → IsSameObject m next x → IsSameObject next after x → IsSameObject m after x
same_on m next after (func n) p q = q ∙ p
same_on m next after (instance n) p q = q ∙ p
same_on m next after (memory n) p q = q ∙ p
same_on m next after (table n) p q = q ∙ p
same_on m next after (global n) p q = q ∙ p

pub own_guest : (m : Machine) (guest : ℕ) → KeepsGuest m m guest
own_guest m guest = record { reaches = λ x. refl; objects = λ x e. own_object m x }

pub kept_on : (m next after : Machine) (guest : ℕ) → KeepsGuest m next guest → KeepsGuest next after guest →
    KeepsGuest m after guest
kept_on m next after guest h k = record {
  reaches = λ x. k.reaches x ∙ h.reaches x;
  objects = λ x e. same_on m next after x (h.objects x e) (k.objects x (h.reaches x ∙ e));
}

-- what is the same leads to the same
same_links : (m after : Machine) (x : Node) → after.id ≡ m.id → IsSameObject m after x → links after x ≡ links m x
same_links m after (func n) e p =
    ap (λ (o : Option Function). where_there o (from_function after.id)) p
    ∙ ap (λ (id : StoreId). where_there (slice_get m.functions n) (from_function id)) e
same_links m after (instance n) e p = ap (λ (o : Option InstanceParts). where_there o from_instance) p
same_links m after (memory n) e p = refl
same_links m after (table n) e p =
    ap (λ (o : Option Table). where_there o (λ (t : Table). in_references t.elements)) p
same_links m after (global n) e p = ap (λ (o : Option Global). where_there o (λ (g : Global). in_value g.value)) p

-- ---- deeds one after another

pub unreached_is_same : UnreachedIsSame
unreached_is_same m after [] x e there none =
    subst (λ (n : Machine). IsSameObject m n x) (sym e) (own_object m x)
unreached_is_same m after (d ∷ deeds) x f there none =
    let next : Machine = (behind d.1 d.0).machine in
    let set : List Node = reached d.0 d.1 in
    let c : IsConfined m d.0 d.1 = begun m d.0 d.1 f.0 in
    let same : IsSameObject m next x = same_object m next set c.outside c.later x there (λ p. none p 0 d refl) in
    same_on m next after x same
    (unreached_is_same next after deeds x f.1 (stays_there m next set c.outside c.later x there)
    (λ p. λ n y e. none (sym (same_private m next set c.outside c.later x same) ∙ p) (suc n) y e))

pub unreached_stays_enclosed : UnreachedStaysEnclosed
unreached_stays_enclosed m after [] set e h apart =
    subst (λ (n : Machine). StaysEnclosed m n set) (sym e)
    (record { enclosed = h; objects = λ x k. own_object m x })
unreached_stays_enclosed m after (d ∷ deeds) set f h apart =
    let next : Machine = (behind d.1 d.0).machine in
    let of : List Node = reached d.0 d.1 in
    let c : IsConfined m d.0 d.1 = begun m d.0 d.1 f.0 in
    let a : AreApart m of set = subst (λ (n : Machine). AreApart n of set) f.0.over (apart 0 d refl) in
    let same : (x : Node) → has set x ≡ true → IsSameObject m next x =
    λ x k. same_object m next of c.outside c.later x (h.there x k)
    (λ p. false_from_ne_true (has of x) (λ r. a x p r k)) in
    let enclosed : IsEnclosed next set = record {
      there = λ x k. stays_there m next of c.outside c.later x (h.there x k);
      closed = λ x y k l.
          h.closed x y k
          (subst (λ (xs : List Node). has xs y ≡ true) (same_links m next x c.later.id (same x k)) l);
    } in
    let rest : StaysEnclosed next after set =
    unreached_stays_enclosed next after deeds set f.1 enclosed (λ n y e. apart (suc n) y e) in
    record {
      enclosed = rest.enclosed;
      objects = λ x k. same_on m next after x (same x k) (rest.objects x k);
    }

pub unreached_guest_is_kept : UnreachedGuestIsKept
unreached_guest_is_kept m after [] guest e there apart =
    subst (λ (n : Machine). KeepsGuest m n guest) (sym e) (own_guest m guest)
unreached_guest_is_kept m after (d ∷ deeds) guest f there apart =
    let next : Machine = (behind d.1 d.0).machine in
    let of : List Node = reached d.0 d.1 in
    let c : IsConfined m d.0 d.1 = begun m d.0 d.1 f.0 in
    let a : AreApart m of (reach_of m guest) =
    subst (λ (n : Machine). AreApart n of (reach_of m guest)) f.0.over (apart 0 d refl) in
    let k : KeepsGuest m next guest = keeps_guest m next of c.outside c.later c.well guest there a in
    kept_on m next after guest k
    (unreached_guest_is_kept next after deeds guest f.1 (stays_there m next of c.outside c.later (instance guest) there)
    (λ n y e. λ x p q r. apart (suc n) y e x p q (sym (k.reaches x) ∙ r)))
