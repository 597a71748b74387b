-- Instances of a store of what a run reads and what it changes, and the types of functions there.
use Rattle.std.proofs.Common.{◌≡◌, ℕ, zero, suc, ◌<◌, List, [], ◌∷◌, ◌++◌, length, take, set, refl, ap, ◌∙◌, arith}
use Rattle.std.specs.Prelude.{slice_get, option_map, option_and_then, Option, Some, None}
use Rattle.spec_machine.specs.Machine.{Machine, Function, guest, host, InstanceParts}
use Rattle.spec_machine.specs.Values.{defined_type, type_of_function, function_type}
use Rattle.store_state.specs.Machine.{instance_of, instances_of, run_machine, segments_at, type_in, type_by, type_named}
use Rattle.store_state.specs.Parts.{Names, SegmentParts, segment_parts, ProgramParts, HeldParts}

-- an instance, with its segments
pub instance_at : (ns : List Names) (ss : List SegmentParts) (i : ℕ) →
    slice_get (instances_of ns ss) i ≡ option_map (λ n. instance_of n (segments_at ss i)) (slice_get ns i)
instance_at [] ss i = refl
instance_at (n ∷ ns) [] zero = refl
instance_at (n ∷ ns) [] (suc i) = instance_at ns [] i
instance_at (n ∷ ns) (s ∷ ss) zero = refl
instance_at (n ∷ ns) (s ∷ ss) (suc i) = instance_at ns ss i

-- one whose segments are others
pub instance_put : (ns : List Names) (ss : List SegmentParts) (i : ℕ) (n : Names) (s : SegmentParts) → i < length ss →
    slice_get ns i ≡ Some n → set (instances_of ns ss) i (instance_of n s) ≡ instances_of ns (set ss i s)
instance_put [] ss i n s there is = absurd cc
instance_put (m ∷ ns) [] i n s there is = absurd (omega (arith, there))
instance_put (m ∷ ns) (t ∷ ss) zero n s there is =
    let same : Some m ≡ Some n = is in
    let e : n ≡ m = cc in ap (λ x. instance_of x s ∷ instances_of ns ss) e
instance_put (m ∷ ns) (t ∷ ss) (suc i) n s there is =
    ap (λ l. instance_of m t ∷ l) (instance_put ns ss i n s (omega (arith, there)) is)

-- the type of a function is told by what a run reads
defined_is : (number : ℕ) (ss : List SegmentParts) (i : ℕ) (o : Option Names) →
    option_and_then (λ (x : InstanceParts). defined_type x number)
    (option_map (λ n. instance_of n (segments_at ss i)) o) ≡ option_and_then (λ n. type_in n number) o
defined_is number ss i None = refl
defined_is number ss i (Some n) = refl

module _ (base : Machine) (p : ProgramParts) (h : HeldParts) where
  type_is : (f : Function) → type_of_function (run_machine base p h) f ≡ type_by p f
  type_is (guest i number) =
      ap (option_and_then (λ (x : InstanceParts). defined_type x number)) (instance_at p.instances h.segments i)
      ∙ defined_is number h.segments i (slice_get p.instances i)
  type_is (host ty body stored) = refl

  types_are : (o : Option Function) →
      option_and_then (type_of_function (run_machine base p h)) o ≡ option_and_then (type_by p) o
  types_are None = refl
  types_are (Some f) = type_is f

  pub function_type-named : (n : ℕ) → function_type (run_machine base p h) n ≡ type_named p n
  function_type-named n = types_are (slice_get p.functions n)

-- ---- segments that are held or not

-- those behind as many as there are instances say nothing
pub instances_cut : (ns : List Names) (ss : List SegmentParts) (n : ℕ) → length ns ≡ n →
    instances_of ns (take n ss) ≡ instances_of ns ss
instances_cut [] ss n e = refl
instances_cut (m ∷ ns) [] zero e = refl
instances_cut (m ∷ ns) [] (suc n) e = refl
instances_cut (m ∷ ns) (s ∷ ss) zero e = absurd (omega (arith, e))
instances_cut (m ∷ ns) (s ∷ ss) (suc n) e =
    ap (λ l. instance_of m s ∷ l) (instances_cut ns ss n (omega (arith, e)))

-- to hold that there are none is to hold nothing
pub instances_more : (ns : List Names) (ss : List SegmentParts) → length ss < length ns →
    instances_of ns (ss ++ segment_parts [] [] ∷ []) ≡ instances_of ns ss
instances_more [] ss e = absurd (omega (arith, e))
instances_more (m ∷ []) [] e = refl
instances_more (m ∷ (n ∷ ns)) [] e = refl
instances_more (m ∷ ns) (s ∷ ss) e =
    ap (λ l. instance_of m s ∷ l) (instances_more ns ss (omega (arith, e)))
