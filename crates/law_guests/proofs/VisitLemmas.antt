-- Guests stay apart over all visits, by the law of one call and the law of one more guest.
use Rattle.std.proofs.Common.{◌≡◌, ℕ, zero, suc, Bool, true, false, if◌then◌else◌, List, [], ◌∷◌, ◌++◌, length, Some, slice_get, refl, sym, subst}
use Rattle.std.proofs.lemmas.Option.{none-some}
use Rattle.spec_machine.specs.Machine.{Machine}
use Rattle.spec_execution.specs.Outcomes.{World}
use Rattle.spec_reach.specs.Nodes.{instance, is_there}
use Rattle.law_code.specs.Laws.{MayBegin}
use Rattle.law_confined.specs.Laws.{heard_since}
use Rattle.law_confined.specs.RunLaws.{IsShown}
use Rattle.law_plugins.specs.Laws.{KeepsOthers, KeepsAll}
use Rattle.law_plugins.specs.Meeting.{GuestsAreApart, KeepsGuest}
use Rattle.law_plugins.proofs.RunLemmas.{calls_keep_others, loads_keep_all}
use Rattle.law_guests.specs.Deeds.{behind, MayBeDone}
use Rattle.law_guests.specs.Visits.{Visit, Call, Load, deed, guests_behind, IsAllowed, Comes, IsNotOf, AllStayApart, VisitsKeepGuests}
use Rattle.law_guests.proofs.DeedLemmas.{own_guest, kept_on}

-- a member is in its place in a longer list
front_found : {A : Type 0} (xs ys : List A) (n : ℕ) (x : A) → slice_get xs n ≡ Some x → slice_get (xs ++ ys) n ≡ Some x
front_found [] ys n x e = absurd (none-some x e)
front_found (y ∷ xs) ys zero x e = e
front_found (y ∷ xs) ys (suc n) x e = front_found xs ys n x e

-- ---- one visit

record IsVisited (m : Machine) (guests : List ℕ) (w : World) (v : Visit) : Type 0 where
  apart : GuestsAreApart (behind (deed v) w).machine (guests_behind m (behind (deed v) w).machine guests v)
  kept :
      (place guest : ℕ) → slice_get guests place ≡ Some guest → IsNotOf place v
      → KeepsGuest m (behind (deed v) w).machine guest
  found :
      (place guest : ℕ) → slice_get guests place ≡ Some guest
      → slice_get (guests_behind m (behind (deed v) w).machine guests v) place ≡ Some guest

module _ (after : Machine) (guests more : List ℕ) where
  apart_by :
      (b there : Bool) → there ≡ b → GuestsAreApart after guests → (there ≡ true → GuestsAreApart after (guests ++ more))
      → GuestsAreApart after (if b then guests ++ more else guests)
  apart_by true there e h k = k e
  apart_by false there e h k = h

  found_by :
      (b : Bool) (place guest : ℕ) → slice_get guests place ≡ Some guest
      → slice_get (if b then guests ++ more else guests) place ≡ Some guest
  found_by true place guest e = front_found guests more place guest e
  found_by false place guest e = e

visited :
    (w : World) (guests : List ℕ) (v : Visit) → MayBegin w → MayBeDone w.machine (deed v) → IsAllowed w.machine guests v
    → IsShown (heard_since w (behind (deed v) w)) → GuestsAreApart w.machine guests → IsVisited w.machine guests w v
visited w guests (Call place c) may h allowed shown are =
    let k : KeepsOthers w.machine (behind (deed (Call place c)) w).machine guests place =
    calls_keep_others w h.func h.arguments h.wanted c guests place allowed.guest may h.conditions are allowed.found
    allowed.within shown in
    record {
      apart = k.apart;
      kept = λ i guest e other. k.kept i guest (λ p. other (sym p)) e;
      found = λ i guest e. e;
    }
visited w guests (Load d imports) may h allowed shown are =
    let after : Machine = (behind (deed (Load d imports)) w).machine in
    let k : KeepsAll w.machine after guests = loads_keep_all w d imports guests may h are allowed shown in
    let made : Bool = is_there after (instance (length w.machine.instances)) in
    record {
      apart = apart_by after guests (length w.machine.instances ∷ []) made made refl k.apart k.one_more;
      kept = λ i guest e other. k.kept i guest e;
      found = λ i guest e. found_by after guests (length w.machine.instances ∷ []) made i guest e;
    }

come :
    (m : Machine) (w : World) (guests : List ℕ) (v : Visit) → Comes m guests w v → GuestsAreApart m guests
    → IsVisited m guests w v
come m w guests v c are =
    let back : m ≡ w.machine = sym c.begins.over in
    subst (λ (n : Machine). IsVisited n guests w v) c.begins.over
    (visited w guests v c.begins.may (subst (λ (n : Machine). MayBeDone n (deed v)) back c.begins.conditions)
    (subst (λ (n : Machine). IsAllowed n guests v) back c.allowed) c.shown
    (subst (λ (n : Machine). GuestsAreApart n guests) back are))

-- ---- visits one after another

pub visits_keep_guests : VisitsKeepGuests
visits_keep_guests m after guests all [] f are = record {
  apart =
      subst (λ (n : Machine). GuestsAreApart n all) (sym f.0)
      (subst (λ (gs : List ℕ). GuestsAreApart m gs) (sym f.1) are);
  kept = λ place guest e none. subst (λ (n : Machine). KeepsGuest m n guest) (sym f.0) (own_guest m guest);
}
visits_keep_guests m after guests all (v ∷ visits) f are =
    let next : Machine = (behind (deed v.1) v.0).machine in
    let first : IsVisited m guests v.0 v.1 = come m v.0 guests v.1 f.0 are in
    let behind_it : List ℕ = guests_behind m next guests v.1 in
    let rest : AllStayApart next after behind_it all visits =
    visits_keep_guests next after behind_it all visits f.1 first.apart in
    record {
      apart = rest.apart;
      kept = λ place guest e none.
          kept_on m next after guest (first.kept place guest e (none 0 v refl))
          (rest.kept place guest (first.found place guest e) (λ n y p. none (suc n) y p));
    }
