-- What leads from one object of a store to others.
use Rattle.std.proofs.Common.{◌≡◌, ℕ, zero, suc, ◌+◌, ◌-◌, ◌≤◌, ◌<◌, List, [], ◌∷◌, ◌++◌, length, map, drop, get_or, drop-cons, refl, ap, sym, ◌∙◌, arith, length-append}
use Rattle.std.proofs.lemmas.List.{length-map}
use Rattle.std.proofs.lemmas.Option.{slice_get-map, slice_get_within, none-some}
use Rattle.std.specs.Prelude.{slice_get, option_map, option_and_then, Option, Some, None}
use Rattle.wasm_objects.specs.declared.raw.RawRef.{RawRef}
use Rattle.spec_machine.specs.Machine.{Machine, InstanceParts}
use Rattle.law_store.proofs.Slices.{slice_append_left, slice_append_right}
use Rattle.store_state.proofs.Instances.{instance_at}
use Rattle.store_state.specs.Machine.{instance_of, run_machine, segments_at}
use Rattle.store_state.specs.Parts.{Names, ProgramParts, HeldParts}
use Rattle.store_objects.specs.Links.{in_reference, named_places, segment_places, instance_places, where_there, counted, link_count, member, link_at, element_segment}
use Rattle.store_objects.specs.declared.node.Node.{Node}
use Rattle.store_objects.specs.declared.node.Node.TheVariants as node

pub no_more : {A : Type 0} (xs : List A) (k : ℕ) → slice_get xs k ≡ None → length xs ≤ k
no_more [] k none = omega arith
no_more (x ∷ xs) zero none = absurd (none-some x (sym none))
no_more (x ∷ xs) (suc k) none = omega (arith, no_more xs k none)

-- ---- items of segments

suc-is : (i : ℕ) → suc i ≡ i + 1
suc-is i = omega arith

module _ (s : List RawRef) (more : List (List RawRef)) (k : ℕ) where
  as_long : length (map in_reference s) ≡ length s
  as_long = length-map s in_reference

  pub item_here : (r : RawRef) → Some r ≡ slice_get s k →
      slice_get (segment_places (s ∷ more)) k ≡ Some (in_reference r)
  item_here r found =
      slice_append_left (map in_reference s) (segment_places more) k
      (omega (arith, as_long, slice_get_within s k r (sym found)))
      ∙ slice_get-map in_reference s k ∙ ap (option_map in_reference) (sym found)

  pub item_behind : None ≡ slice_get s k →
      slice_get (segment_places (s ∷ more)) k ≡ slice_get (segment_places more) (k - length s)
  item_behind none =
      let place : k ≡ length (map in_reference s) + (k - length s) = omega (arith, as_long, no_more s k (sym none)) in
      ap (slice_get (segment_places (s ∷ more))) place
      ∙ slice_append_right (map in_reference s) (segment_places more) (k - length s)

-- what is left of segments, where the next one is this
module _ (xs : List (List RawRef)) (i : ℕ) (s : List RawRef) (there : i < length xs) (is : s ≡ get_or xs i s) where
  next : drop i xs ≡ s ∷ drop (i + 1) xs
  next = drop-cons xs i s there ∙ (ap (λ (x : List RawRef). x ∷ drop (suc i) xs) (sym is)
      ∙ ap (λ (n : ℕ). s ∷ drop n xs) (suc-is i))

  module _ (k : ℕ) where
    pub next_here : (r : RawRef) → Some r ≡ slice_get s k →
        in_reference r ≡ member (slice_get (segment_places (drop i xs)) k)
    next_here r found =
        sym (ap (λ (l : List (List RawRef)). member (slice_get (segment_places l) k)) next
        ∙ ap member (item_here s (drop (i + 1) xs) k r found))

    pub next_behind : None ≡ slice_get s k →
        slice_get (segment_places (drop (i + 1) xs)) (k - length s) ≡ slice_get (segment_places (drop i xs)) k
    next_behind none =
        sym (ap (λ (l : List (List RawRef)). slice_get (segment_places l) k) next ∙ item_behind s (drop (i + 1) xs) k none)

-- ---- an instance

counted_twice : (a b : ℕ) → counted (counted a + b) ≡ counted (a + b)
counted_twice a b = omega arith

abbrev pub named_by : Names → List (Option Node)
named_by x = named_places x.functions x.tables x.memories x.globals

module _ (base : Machine) (p : ProgramParts) (h : HeldParts) (m : Machine) (seen : run_machine base p h ≡ m) (n : ℕ) where
  abbrev pub items : List (List RawRef)
  items = (segments_at h.segments n).elements

  pub instance_is : (o : Option Names) → slice_get p.instances n ≡ o →
      slice_get m.instances n ≡ option_map (λ x. instance_of x (segments_at h.segments n)) o
  instance_is o found =
      ap (λ (k : Machine). slice_get k.instances n) (sym seen) ∙ (instance_at p.instances h.segments n
      ∙ ap (option_map (λ (x : Names). instance_of x (segments_at h.segments n))) found)

  pub no_links : slice_get p.instances n ≡ None → 0 ≡ link_count m (node.Instance n)
  no_links none =
      ap (λ (o : Option InstanceParts). counted (length (where_there instance_places o))) (sym (instance_is None none))

  pub no_link : slice_get p.instances n ≡ None → (place : ℕ) → None ≡ link_at m (node.Instance n) place
  no_link none place =
      ap (λ (o : Option InstanceParts). member (slice_get (where_there instance_places o) place)) (sym (instance_is None none))

  module _ (x : Names) (found : slice_get p.instances n ≡ Some x) where
    pub links_of : counted (counted (length (named_by x)) + length (segment_places items))
        ≡ link_count m (node.Instance n)
    links_of =
        counted_twice (length (named_by x)) (length (segment_places items))
        ∙ (ap counted (sym (length-append (named_by x) (segment_places items)))
        ∙ ap (λ (o : Option InstanceParts). counted (length (where_there instance_places o)))
        (sym (instance_is (Some x) found)))

    link_of : (place : ℕ) → member (slice_get (named_by x ++ segment_places items) place)
        ≡ link_at m (node.Instance n) place
    link_of place =
        ap (λ (o : Option InstanceParts). member (slice_get (where_there instance_places o) place))
        (sym (instance_is (Some x) found))

    pub link_named : (place : ℕ) (to : Node) → slice_get (named_by x) place ≡ Some (Some to) →
        Some to ≡ link_at m (node.Instance n) place
    link_named place to is =
        ap member (sym (slice_append_left (named_by x) (segment_places items) place
        (slice_get_within (named_by x) place (Some to) is) ∙ is)) ∙ link_of place

    pub link_behind : (place rest : ℕ) → place ≡ length (named_by x) + rest →
        member (slice_get (segment_places items) rest) ≡ link_at m (node.Instance n) place
    link_behind place rest is =
        ap member (sym (ap (slice_get (named_by x ++ segment_places items)) is
        ∙ slice_append_right (named_by x) (segment_places items) rest)) ∙ link_of place

    pub segment_is : (k : ℕ) → slice_get items k ≡ element_segment m n k
    segment_is k = ap (λ (o : Option InstanceParts). option_and_then (λ (i : InstanceParts). slice_get i.elements k) o)
        (sym (instance_is (Some x) found))

  pub no_segment : slice_get p.instances n ≡ None → (k : ℕ) → None ≡ element_segment m n k
  no_segment none k = ap (λ (o : Option InstanceParts). option_and_then (λ (i : InstanceParts). slice_get i.elements k) o)
      (sym (instance_is None none))
