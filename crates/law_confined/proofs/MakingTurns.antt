-- The turns of an instantiation, and those that write no object, as a run beside another asks them of the members.
use Rattle.std.proofs.Common.{◌≡◌, ℕ, Bool, true, false, List, length, refl, sym, ap, ◌∙◌, subst, le_refl}
use Rattle.std.specs.Prelude.{pos, ◌-ℤ◌, if◌then◌else◌, Ok}
use Rattle.wasm_types.specs.Each.{Each}
use Rattle.wasm_syntax.specs.declared.declarations.ModuleDecl.{ModuleDecl}
use Rattle.wasm_values.specs.Handles.{instance_of}
use Rattle.wasm_values.specs.declared.externals.Extern.{Extern}
use Rattle.spec_machine.specs.Changes.{charge, set_fuel, set_deadline}
use Rattle.spec_machine.specs.Machine.{EngineParts, Machine}
use Rattle.spec_machine.specs.Values.{function_type}
use Rattle.spec_machine.specs.declared.reply.Reply.TheVariants as reply
use Rattle.spec_execution.specs.Allocation.{function_numbers}
use Rattle.spec_execution.specs.Askings.{Asking}
use Rattle.spec_execution.specs.Instantiation.{imports_fit, counted}
use Rattle.spec_execution.specs.Segments.{make}
use Rattle.spec_reach.specs.Nodes.{Node, func, instance}
use Rattle.spec_reach.specs.Reach.{in_object}
use Rattle.law_courses.proofs.Bounds.{Bounds, IsCountedIn, IsTakenIn, counted_in, taken_in}
use Rattle.law_confined.specs.Members.{IsMember, IsHeldObject, IsIn}
use Rattle.law_confined.proofs.AllMembers.{each_in, all_flat, in_own}
use Rattle.law_confined.proofs.AllocationMembers.{numbers}
use Rattle.law_confined.proofs.CountMembers as count
use Rattle.law_confined.proofs.CountMembers.{AreGiven, member_type}
use Rattle.law_confined.proofs.MemberBounds.{bounds}
use Rattle.law_confined.proofs.NewMembers as place
use Rattle.law_confined.proofs.NewMembers.{HoldsNew, SeesNew}
use Rattle.law_confined.proofs.SegmentMembers as segment
use Rattle.law_confined.proofs.OtherStores.{Sees}

module _ (M : Node → Bool) (first : Machine) (other : Machine → Machine) (heard0 : List Asking) (new : HoldsNew M first)
    (sees : Sees M first other) (news : SeesNew M first other) where
  abbrev B : Bounds
  B = bounds M first other heard0

  -- ---- fuel, the deadline, types and new places

  charged :
      (b b' : Bool) (m : Machine) (amount : ℕ) → b' ≡ b → IsIn M first m
      → IsIn M first (if b then set_fuel m (m.fuel -ℤ pos amount) else m)
      × ((if b' then set_fuel (other m) ((other m).fuel -ℤ pos amount) else other m)
      ≡ other (if b then set_fuel m (m.fuel -ℤ pos amount) else m))
  charged b b' m amount e h =
      let k = one b in
      (k.0, ap (λ t. if t then set_fuel (other m) ((other m).fuel -ℤ pos amount) else other m) e ∙ k.1)
    where
      spent : set_fuel (other m) ((other m).fuel -ℤ pos amount) ≡ other (set_fuel m (m.fuel -ℤ pos amount))
      spent =
          ap (λ f. set_fuel (other m) (f -ℤ pos amount)) (news.same m h).fuel ∙ news.set_fuel m (m.fuel -ℤ pos amount) h

      one :
          (t : Bool)
          → IsIn M first (if t then set_fuel m (m.fuel -ℤ pos amount) else m)
          × ((if t then set_fuel (other m) ((other m).fuel -ℤ pos amount) else other m)
          ≡ other (if t then set_fuel m (m.fuel -ℤ pos amount) else m))
      one true = (place.fuel_set M first m h (m.fuel -ℤ pos amount), spent)
      one false = (h, refl)

  pub charges :
      (m : Machine) (amount : ℕ) → IsIn M first m
      → IsIn M first (charge m amount) × (charge (other m) amount ≡ other (charge m amount))
  charges m amount h =
      charged m.engine.consumes_fuel (other m).engine.consumes_fuel m amount
      (ap (λ (e : EngineParts). e.consumes_fuel) (news.same m h).engine) h

  pub delays :
      (m : Machine) (deadline : ℕ) → IsIn M first m
      → IsIn M first (set_deadline m deadline) × (set_deadline (other m) deadline ≡ other (set_deadline m deadline))
  delays m deadline h = (place.deadline_set M first m h deadline, news.set_deadline m deadline h)

  pub type_is :
      (m : Machine) (f : ℕ) → IsIn M first m → IsMember M (func f) → function_type (other m) f ≡ function_type m f
  type_is m f h k = member_type M first other sees news m h f k

  pub new_home : (m : Machine) → IsIn M first m → IsMember M (instance (length m.instances))
  new_home m h = place.new_instance M first new m h (length m.instances) (le_refl (length m.instances))

  pub new_instance : (m : Machine) → IsIn M first m → B.IsReply (reply.Instance (instance_of m.id (length m.instances)))
  new_instance m h = in_own M first.id m.id (instance (length m.instances)) (new_home m h)

  -- ---- instantiation

  named : (m : Machine) (imports : List Extern) → IsIn M first m → B.AreNamed imports → Each imports (IsHeldObject M m.id)
  named m imports h k n y e =
      subst (λ id. IsHeldObject M id y) (sym h.id)
      (each_in M (in_object first.id y) (all_flat M (in_object first.id) imports k n y e))

  pub checks :
      (m : Machine) (d : ModuleDecl) (imports : List Extern) → IsIn M first m → B.AreNamed imports
      → (imports_fit m d imports ≡ Ok tt → AreGiven M imports)
      × (imports_fit (other m) d imports ≡ imports_fit m d imports)
  checks m d imports h k = count.checks M first other sees news m h d imports (named m imports h k)

  pub counts :
      (m : Machine) (d : ModuleDecl) → IsIn M first m
      → IsCountedIn B (counted m d) × (counted (other m) d ≡ counted_in other (counted m d))
  counts m d h = let k = count.counts M first other sees news m d h in (k.by, k.same)

  pub makes :
      (m : Machine) (d : ModuleDecl) (imports : List Extern) → IsIn M first m → AreGiven M imports
      → IsTakenIn B (make m d imports) × (make (other m) d imports ≡ taken_in other (make m d imports))
  makes m d imports h given = let k = segment.makes M first other sees new news m d imports h given in (k.by, k.same)

  pub names :
      (m : Machine) (d : ModuleDecl) (imports : List Extern) → IsIn M first m → AreGiven M imports
      → Each (function_numbers m d imports) B.IsCallee
      × (function_numbers (other m) d imports ≡ function_numbers m d imports)
  names m d imports h given = numbers M first other new sees news m h d imports given
