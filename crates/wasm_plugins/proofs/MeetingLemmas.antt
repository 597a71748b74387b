-- Where guests are met depends on what a set has, and not on the order of it; and the first node in common that is
-- found is the one that the definition names.
use Rattle.std.proofs.Common.{◌≡◌, ℕ, zero, suc, ◌+◌, ◌<◌, ◌≤◌, Bool, true, false, List, [], ◌∷◌, length, take, drop, get_or, slice_get, Some, None, Option, refl, sym, ap, ◌∙◌, subst, inl, inr, arith, drop-cons}
use Rattle.std.specs.Prelude.{filter, ◌&&◌, if◌then◌else◌}
use Rattle.std.proofs.lemmas.Bool.{false≢true, cases_Bool, and_parts, and_left, and_right}
use Rattle.spec_machine.specs.Machine.{Machine}
use Rattle.spec_reach.specs.Nodes.{Node, instance, has, nodes}
use Rattle.spec_reach.specs.Reach.{is_near, reach}
use Rattle.std.proofs.lemmas.List.{drop_all}
use Rattle.std.proofs.lemmas.Option.{none-some}
use Rattle.spec_reach.proofs.FilterLemmas.{Kept, filter_has, has_at}
use Rattle.spec_reach.proofs.ReachLemmas.{reach_is}
use Rattle.law_plugins.specs.Meeting.{is_private, is_common, common, reach_of, or_next, meeting_from, first_meeting}
use Rattle.store_reach.specs.Sets.{IsReach}
use Rattle.store_reach.proofs.SetLemmas.{take_more}
use Rattle.wasm_plugins.specs.Meetings.{or_first, IsFirstOf}
use Rattle.wasm_plugins.proofs.OrderLemmas.{IsHead, head_is, nodes_ordered, none_kept, one_more}

-- ---- sets that have the same

-- two tests that agree keep the same
same_filter : (p q : Node → Bool) → ((x : Node) → p x ≡ q x) → (xs : List Node) → filter p xs ≡ filter q xs
same_filter p q h [] = refl
same_filter p q h (x ∷ xs) =
    ap (λ (b : Bool). if b then x ∷ filter p xs else filter p xs) (h x)
    ∙ ap (λ (ys : List Node). if q x then x ∷ ys else ys) (same_filter p q h xs)

module _ (m : Machine) (a b : List Node) (same : (x : Node) → has a x ≡ has b x) where
  same_common : (c : List Node) → common m a c ≡ common m b c
  same_common c =
      same_filter (is_common m a c) (is_common m b c)
      (λ x. ap (λ (t : Bool). is_private m x && (t && has c x)) (same x)) (nodes m)

  same_common_with : (c : List Node) → common m c a ≡ common m c b
  same_common_with c =
      same_filter (is_common m c a) (is_common m c b)
      (λ x. ap (λ (t : Bool). is_private m x && (has c x && t)) (same x)) (nodes m)

  same_meeting_from : (place : ℕ) (guests : List ℕ) → meeting_from m a place guests ≡ meeting_from m b place guests
  same_meeting_from place [] = refl
  same_meeting_from place (guest ∷ guests) =
      ap (λ (xs : List Node). or_next place xs (meeting_from m a (suc place) guests)) (same_common (reach_of m guest))
      ∙ ap (or_next place (common m b (reach_of m guest))) (same_meeting_from (suc place) guests)

-- a set and what it is the reach of may be exchanged
pub same_meeting :
    (m : Machine) (a b : List Node) (guests : List ℕ) → ((x : Node) → has a x ≡ has b x)
    → first_meeting m a guests ≡ first_meeting m b guests
same_meeting m a b guests same = same_meeting_from m a b same 0 guests

-- ---- what has nothing private meets nobody

module _ (m : Machine) (a : List Node) (none : IsFirstOf (is_common m a a) a None) where
  never_common : (b : List Node) (x : Node) → is_common m a b x ≡ false
  never_common b x = elim (cases_Bool (has a x)) [
    | inl e ↦
        let p : is_private m x ≡ false =
        sym (by_both (is_private m x) (has a x) e) ∙ none x e in
        and_left (is_private m x) (has a x && has b x) p
    | inr e ↦ and_right (is_private m x) (has a x && has b x) (and_left (has a x) (has b x) e)
  ] where
    by_both : (p h : Bool) → h ≡ true → (p && (h && h)) ≡ p
    by_both true h e = ap (λ (t : Bool). t && t) e
    by_both false h e = refl

  none_met : (place : ℕ) (guests : List ℕ) → meeting_from m a place guests ≡ None
  none_met place [] = refl
  none_met place (guest ∷ guests) =
      ap (λ (xs : List Node). or_next place xs (meeting_from m a (suc place) guests))
      (none_kept (is_common m a (reach_of m guest)) (nodes m) (λ x _. never_common (reach_of m guest) x))
      ∙ none_met (suc place) guests

  pub none_private : (guests : List ℕ) → None ≡ first_meeting m a guests
  none_private guests = sym (none_met 0 guests)

-- ---- the first node in common, by a walk through what a guest reaches

-- what is reached is among the nodes
reached_among : (m : Machine) (roots : List Node) (x : Node) → has (reach m roots) x ≡ true → has (nodes m) x ≡ true
reached_among m roots x e =
    let k : Kept (is_near m (reach m roots)) (nodes m) x =
    filter_has (is_near m (reach m roots)) (nodes m) x (subst (λ set. has set x ≡ true) (reach_is m roots) e) in
    k.of

-- of a node of both, that it is in the second
in_second : (m : Machine) (a b : List Node) (x : Node) → is_common m a b x ≡ true → has b x ≡ true
in_second m a b x e = (and_parts (has a x) (has b x) (and_parts (is_private m x) (has a x && has b x) e).1).1

no_second : (m : Machine) (a b : List Node) (x : Node) → has b x ≡ false → is_common m a b x ≡ false
no_second m a b x e =
    and_right (is_private m x) (has a x && has b x) (and_right (has a x) (has b x) e)

abbrev first_node : List Node → Option Node
first_node xs = slice_get xs 0

module _ (m : Machine) (a b : List Node) (among : (x : Node) → has b x ≡ true → has (nodes m) x ≡ true) where
  first_is_head : (found : Option Node) → IsFirstOf (is_common m a b) b found → found ≡ first_node (common m a b)
  first_is_head None h =
      sym (ap first_node (none_kept (is_common m a b) (nodes m)
      (λ x _. elim (cases_Bool (has b x)) [ inl e ↦ h x e | inr e ↦ no_second m a b x e ])))
  first_is_head (Some x) h =
      let k : IsHead x (common m a b) =
      head_is (is_common m a b) (nodes m) x (nodes_ordered m) (among x h.of) h.passes
      (λ y _ t. h.first y (in_second m a b y t) t) in
      sym (ap first_node k.1)

-- of the reach of a guest
pub first_reached :
    (m : Machine) (set own : List Node) (guest : ℕ) (found : Option Node) → IsReach m (instance guest ∷ []) own
    → IsFirstOf (is_common m set own) own found → found ≡ slice_get (common m set (reach_of m guest)) 0
first_reached m set own guest found same h =
    first_is_head m set own (λ x e. reached_among m (instance guest ∷ []) x (sym (same x) ∙ e)) found h
    ∙ ap first_node (same_common_with m own (reach_of m guest) same set)

-- one member more
and_true : (p q : Bool) → q ≡ true → (p && q) ≡ p
and_true true q e = e
and_true false q e = refl

pub next_member :
    (m : Machine) (other set : List Node) (k : ℕ) (x : Node) (first found : Option Node)
    → Some x ≡ slice_get set k → found ≡ or_first (is_private m x && has other x) first x
    → IsFirstOf (is_common m other set) (take k set) first → IsFirstOf (is_common m other set) (take (k + 1) set) found
next_member m other set k x first found at e h =
    let test : Node → Bool = is_common m other set in
    let counts : Bool = is_private m x && has other x in
    let is : test x ≡ counts =
    ap (λ (t : Bool). is_private m x && t) (and_true (has other x) (has set x) (has_at set k x (sym at))) in
    subst (λ (o : Option Node). IsFirstOf test (take (k + 1) set) o) (sym e)
    (subst (λ (l : List Node). IsFirstOf test l (or_first counts first x)) (sym (take_more set k x (sym at)))
    (one_more test (take k set) x counts first is h))

pub none_yet : (test : Node → Bool) (set : List Node) → IsFirstOf test (take 0 set) None
none_yet test set x e = absurd (false≢true e)

take_past : (xs : List Node) (k : ℕ) → slice_get xs k ≡ None → take k xs ≡ xs
take_past [] zero e = refl
take_past [] (suc k) e = refl
take_past (x ∷ xs) zero e = absurd (none-some x (sym e))
take_past (x ∷ xs) (suc k) e = ap (λ (l : List Node). x ∷ l) (take_past xs k e)

pub all_members :
    (test : Node → Bool) (set : List Node) (k : ℕ) (first : Option Node) → None ≡ slice_get set k
    → IsFirstOf test (take k set) first → IsFirstOf test set first
all_members test set k first at h =
    subst (λ (l : List Node). IsFirstOf test l first) (take_past set k (sym at)) h

-- ---- one guest more

abbrev or_found : ℕ → Option Node → Option (ℕ × Node) → Option (ℕ × Node)
or_found place None next = next
or_found place (Some x) next = Some (place, x)

next_by : (xs : List Node) (place : ℕ) (next : Option (ℕ × Node)) (found : Option Node) → found ≡ first_node xs →
    or_next place xs next ≡ or_found place found next
next_by [] place next found e = ap (λ (o : Option Node). or_found place o next) (sym e)
next_by (x ∷ xs) place next found e = ap (λ (o : Option Node). or_found place o next) (sym e)

module _ (m : Machine) (set : List Node) (guests : List ℕ) (place : ℕ) (within : place < length guests)
    (so_far : meeting_from m set place (drop place guests) ≡ first_meeting m set guests) where
  abbrev guest : ℕ
  guest = get_or guests place 0

  abbrev behind : Option (ℕ × Node)
  behind = meeting_from m set (suc place) (drop (suc place) guests)

  one_guest : (found : Option Node) → found ≡ first_node (common m set (reach_of m guest)) →
      or_found place found behind ≡ first_meeting m set guests
  one_guest found e =
      sym (next_by (common m set (reach_of m guest)) place behind found e)
      ∙ ap (meeting_from m set place) (sym (drop-cons guests place 0 within)) ∙ so_far

  -- which is met, or not
  pub guest_met : (x : Node) → Some x ≡ first_node (common m set (reach_of m guest)) →
      Some (place, x) ≡ first_meeting m set guests
  guest_met x e = one_guest (Some x) e

  pub guest_passed : None ≡ first_node (common m set (reach_of m guest)) →
      meeting_from m set (place + 1) (drop (place + 1) guests) ≡ first_meeting m set guests
  guest_passed e =
      let more : place + 1 ≡ suc place = omega arith in
      ap (λ (n : ℕ). meeting_from m set n (drop n guests)) more ∙ one_guest None e

-- all were looked at
pub none_left :
    (m : Machine) (set : List Node) (guests : List ℕ) (place : ℕ) → length guests ≤ place
    → meeting_from m set place (drop place guests) ≡ first_meeting m set guests → None ≡ first_meeting m set guests
none_left m set guests place past e = ap (meeting_from m set place) (sym (drop_all place guests past)) ∙ e
